-- The lines that `lower` writes where it answers 0 are those that are run: the text of an accepted record's blocks.
-- Assumes nothing.
use mathlib.Core.Path.{◌≡◌, refl, ap, ◌∙◌}
use mathlib.Core.Bool.{Bool, true, false}
use mathlib.Core.List.{List}
use Prim.Native.Nat.{ℕ}
use native.Mathlib.Omega.{arith}
use lib.Dec.{leb}
use lib.ListN.{length}
use Rattle.definitions.specs.Bytes.{Text}
use Rattle.definitions.specs.Refusals.{number}
use Rattle.definitions.specs.Lines.{render}
use Rattle.definitions.specs.Blocks.{Block, program}
use Rattle.definitions.specs.FieldParser.{Outcome, refused, accepted}
use Rattle.definitions.specs.Answer.{answer, Lowered, turned_back, fitted, lowered, lower}
use Rattle.definitions.specs.declared.Refusal.{Refusal}

pub never-zero : (why : Refusal) → number why ≡ 0 → ⊥
never-zero Refusal.RecordLength e = omega arith
never-zero Refusal.RecordForm e = omega arith
never-zero Refusal.Keyword e = omega arith
never-zero Refusal.TooMany e = omega arith
never-zero Refusal.DuplicateName e = omega arith
never-zero Refusal.UnknownName e = omega arith
never-zero Refusal.OutOfRange e = omega arith
never-zero Refusal.TooLarge e = omega arith
never-zero Refusal.NotWholeBytes e = omega arith
never-zero Refusal.Misstated e = omega arith
never-zero Refusal.NoTarget e = omega arith
never-zero Refusal.OpenChunk e = omega arith
never-zero Refusal.OctetBoundary e = omega arith
never-zero Refusal.ScalarTooWide e = omega arith
never-zero Refusal.UnsupportedOptional e = omega arith
never-zero Refusal.MultipleUnknown e = omega arith
never-zero Refusal.SectionTooLong e = omega arith
never-zero Refusal.NoRoom e = omega arith

pub fitted-lines : (room : ℕ) (t : Text) → (fitted room t).answered ≡ 0 → (fitted room t).lines ≡ t
unfolding fitted
fitted-lines room t = by (leb (length t) room)
  where
    by : (b : Bool) → (elim b as (λ _. Lowered) [ true ↦ record { answered = 0; lines = t } | false ↦ turned_back Refusal.NoRoom ]).answered ≡ 0
        → (elim b as (λ _. Lowered) [ true ↦ record { answered = 0; lines = t } | false ↦ turned_back Refusal.NoRoom ]).lines ≡ t
    by true e = refl
    by false e = absurd (never-zero Refusal.NoRoom e)

pub lines-printed : (s : Text) (room : ℕ) → (lower s room).answered ≡ 0
    → (bs : List Block) × (answer s ≡ accepted bs) × ((lower s room).lines ≡ render (program bs))
unfolding lowered
lines-printed s room = by (answer s) refl
  where
    by : (o : Outcome) → answer s ≡ o → (lowered room o).answered ≡ 0
        → (bs : List Block) × (answer s ≡ accepted bs) × ((lowered room (answer s)).lines ≡ render (program bs))
    by (refused why) e z = absurd (never-zero why z)
    by (accepted bs) e z = (bs, e, ap (λ (o : Outcome). (lowered room o).lines) e ∙ fitted-lines room (render (program bs)) z)
