-- A line of two words, which stands in the head, and the rest of `head_at` behind its `endian` line.
-- Assumes nothing.
use Rattle.std.specs.Prelude.{Some, None, ℕ}
use Rattle.definitions.specs.Record.{Read, key_at, name_line, on_found, on_read, on_arrays, optional_at, head_is}
use Rattle.definitions.specs.declared.EndiannessValue.{EndiannessValue}
use Rattle.definitions.specs.declared.Head.{Head}
use Rattle.definitions.specs.Bytes.{Text, text}

abbrev pub choice : {A : Type 0} → Text → ℕ → Text × A → Text × A → Read A
choice s at first other =
    on_found (key_at s at first.0) (on_found (key_at s at other.0) None λ p. Some (other.1, p)) λ p. Some (first.1, p)

abbrev pub target_at : Text → ℕ → EndiannessValue → Read Head
target_at s at endianness =
    on_read (name_line s at (text "target=")) None λ target q.
    on_arrays s q None λ arrays r.
    head_is endianness target arrays (optional_at s r)
