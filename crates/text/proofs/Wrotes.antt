-- How writings follow one another: `then` has no conditions.
-- Assumes nothing.
use Rattle.std.specs.Prelude.{◌≡◌, [], ◌++◌, ◌<◌, ◌^◌, length}
use mathlib.Core.Path.{refl, ◌∙◌, subst}
use Rattle.definitions.specs.Bytes.{Text}
use Rattle.text.proofs.Puts.{chain, still}
use Rattle.text.specs.Wrote.{Wrote}
use Rattle.text.specs.declared.Writer.{Writer}

-- one piece and then another: both
pub then : {u v w : Writer} {a b : Text} → Wrote u v a → Wrote v w b → Wrote u w (a ++ b)
then p q = record { same = q.same ∙ p.same; put = chain p.put q.put }

-- a piece in another form
pub alike : {u v : Writer} {a b : Text} → a ≡ b → Wrote u v a → Wrote u v b
alike {u} {v} e w = subst (λ (t : Text). Wrote u v t) e w

-- nothing
pub nothing : (u : Writer) → length u.out.now < 2 ^ 63 → Wrote u u []
nothing u h = record { same = refl; put = still u.out.now u.at h }
