-- The record with another name in its `target` line, as bytes: what a build host passes that calls `lower` once for each declaration (document 02, Card 13).
-- Assumes nothing.
use Rattle.std.specs.Prelude.{◌++◌, take, drop}
use Rattle.definitions.specs.Bytes.{Text}
use Rattle.definitions.specs.declared.Part.{Part}
use Rattle.definitions.specs.declared.Head.{Head}

-- `h` is the head of `s`
abbrev pub with_target : Text → Head → Text → Text
with_target s h name = take h.target.start s ++ (name ++ drop h.target.end s)

-- the head that asks for another name of the record
abbrev pub asking : Part → Head → Head
asking name h = record { options = h.options; target = name }
