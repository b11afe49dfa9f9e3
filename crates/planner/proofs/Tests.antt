-- Whether a field is a bit field without a condition, by the code's tests.
-- Assumes nothing.
use Rattle.std.specs.Prelude.{Option, Some, None}
use mathlib.Core.Bool.{Bool, false}
use mathlib.Core.Path.{◌≡◌, sym, ap, ◌∙◌}
use Prim.Native.Nat.{ℕ}
use Rattle.definitions.specs.Sizes.{is_bitfield}
use Rattle.definitions.specs.FieldParser.{is_bit}
use Rattle.definitions.specs.declared.Condition.{Condition}
use Rattle.definitions.specs.declared.Field.{Field}
use Rattle.definitions.specs.declared.Options.{Options}
use Rattle.tables.specs.Tables.{Tables, rows_of}
use Rattle.emits.specs.Target.{setting_at}

module _ (t : Tables) (i : ℕ) (f : Field) where
  abbrev Says : Bool → Type 0
  Says b = (n : ℕ) (o : Options) → b ≡ is_bit (setting_at t i n o) f

  abbrev bit_by : Option Condition → Bool
  bit_by d = elim d [ None ↦ is_bitfield t.source (rows_of t i) f.desc | Some cond ↦ false ]

  pub bit-plain : f.cond ≡ None → {b : Bool} → b ≡ is_bitfield t.source (rows_of t i) f.desc → Says b
  unfolding is_bit
  bit-plain h q n o = q ∙ ap bit_by (sym h)

  pub bit-optional : {cond : Condition} → f.cond ≡ Some cond → Says false
  unfolding is_bit
  bit-optional h n o = ap bit_by (sym h)
