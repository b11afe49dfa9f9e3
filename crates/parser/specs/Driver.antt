-- What the driver's functions come to, in the words of the plan (crate plans).
-- Assumes nothing.
use Rattle.std.specs.Prelude.{Bool, not, ◌&&◌, ◌≡◌, ℕ, ◌%◌, eqb}
use Rattle.definitions.specs.Refusals.{Verdict}
use Rattle.definitions.specs.Bytes.{Text, text}
use Rattle.definitions.specs.declared.Options.{Options}
use Rattle.definitions.specs.declared.Part.{Part}
use Rattle.text.specs.Wrote.{Wrote}
use Rattle.text.specs.declared.Writer.{Writer}
use Rattle.emits.specs.BlockOf.{emit_of}
use Rattle.emits.specs.declared.EmitAt.{EmitAt}
use Rattle.plans.specs.Planned.{Said, said_by}
use Rattle.plans.specs.Told.{Told}

-- what a field that is no bit field says; `bits` are those of an array's size variable, which are not written
abbrev pub said_in : Options → Text → (Part → ℕ) → EmitAt → Said
said_in o s bits emit = said_by (emit_of s (text "payload") o bits emit)

-- a bit field that fills its chunk
abbrev pub is_alone : ℕ → ℕ → Bool
is_alone len width = eqb len 0 && eqb (width % 8) 0

-- 11: it must stand on an octet boundary, and does not
abbrev pub misplaced : Bool → ℕ → Bool
misplaced must shift = must && not (eqb shift 0)

-- the answer, and what is written: the lines of all fields, or those of the fields before the one that is refused
pub record Tells (told : Told) (old new : Writer) (r : Verdict) : Type 0 where
  pub verdict_is : r ≡ told.verdict
  pub wrote : Wrote old new told.lines
