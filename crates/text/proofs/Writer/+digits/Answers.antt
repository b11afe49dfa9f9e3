use mathlib.Core.List.{◌∷◌, []}
use mathlib.Core.Path.{ap, sym, ◌∙◌}
use Prim.Native.Nat.{ℕ}
use Rattle.text.proofs.Wrotes.{then, alike}
use Rattle.text.proofs.Digits.{digits_low, last-digit}
use borrow.Author.Rules.{rules}
use Rattle.text.proofs.Writer.+digits.Goals as goal

pub returns-then-n-base : goal.returns-then-n-base
returns-then-n-base t c =
    alike (ap (λ (d : ℕ). d ∷ []) c.digit_of.ensures ∙ sym (digits_low _ _ (search rules))) c.byte.ensures

pub returns : goal.returns
returns t c =
    alike (last-digit c.args.n c.args.base _ c.requires.0 (search rules) c.ranges.n.fits c.digit_of-2.ensures)
    (then c.digits.ensures c.byte-2.ensures)
