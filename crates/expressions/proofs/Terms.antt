-- Operations and reads, from the pieces that are put one after the other.
-- Assumes nothing.
use mathlib.Core.List.{◌++◌, append_assoc}
use mathlib.Core.Path.{◌≡◌, sym}
use Prim.Native.Nat.{ℕ, ◌/◌}
use native.Mathlib.Decide.{dec_lt}
use native.Mathlib.Omega.{arith}
use borrow.Author.Tests.{lt-leb}
use Rattle.definitions.specs.Bytes.{Text, text, decimal}
use Rattle.definitions.specs.Lines.{expr_text}
use Rattle.definitions.specs.Blocks.{get_cxx_scalar_type}
use Rattle.definitions.specs.declared.Arrays.{Arrays}
use Rattle.text.specs.Wrote.{Wrote}
use Rattle.text.specs.declared.Writer.{Writer}
use Rattle.std.specs.Option.{unwrap_or}
use Rattle.text.specs.Widths.{scalar_type_of}
use Rattle.text.proofs.Wrotes.{then, alike}
use Rattle.text.proofs.Widths.{fits, too_wide}
use Rattle.stream.proofs.Texts.{Leads, piece, ◌▸◌, expr-leads}
use Rattle.expressions.specs.Amounts.{term_of, sized_read}
use Rattle.expressions.specs.declared.Term.{Term}

module _ (m : Arrays) (id before behind : Text) {u u₁ : Writer} where
  -- an operation
  pub operation : (a b : Term) (operator : Text) {u₂ : Writer} → Wrote u u₁ (before ++ expr_text (term_of m id a) operator)
      → Wrote u₁ u₂ (expr_text (term_of m id b) behind)
      → Wrote u u₂ (before ++ expr_text (term_of m id a) (operator ++ expr_text (term_of m id b) behind))
  operation a b operator p q = alike (sym (expr-before.split operator (expr_text (term_of m id b) behind))) (then p q) where
    expr-before : Leads (λ t. before ++ expr_text (term_of m id a) t)
    expr-before = piece before ▸ expr-leads (term_of m id a)

-- the backing type's bits
pub backing : (w : ℕ) → unwrap_or (scalar_type_of w) 64 ≡ get_cxx_scalar_type w
backing w = elim (dec_lt 64 w) [
  | yes h ↦ rw (sym (too_wide w h), lt-leb w 8 (omega arith), lt-leb w 16 (omega arith), lt-leb w 32 (omega arith))
  | no h ↦ rw (fits w (omega arith))
]

pub sized-read : (before behind : Text) (w : ℕ) {b : ℕ} {u u₁ u₂ u₃ : Writer} → b ≡ get_cxx_scalar_type w
    → Wrote u u₁ (before ++ (decimal b ++ text "_t, "))
    → Wrote u₁ u₂ (decimal (w / 8) ++ text ">()")
    → Wrote u₂ u₃ behind
    → Wrote u u₃ (sized_read before w behind)
unfolding sized_read
sized-read before behind w {b} e p q s = rw (sym e) (alike (simp append_assoc) (then p (then q s)))
