-- What the lines of a payload without a size field, and those of a padding, leave of the span.
-- Assumes nothing.
use mathlib.Core.Path.{◌≡◌, refl, sym, ap, ◌∙◌}
use mathlib.Core.List.{List, [], ◌∷◌, ◌++◌, append-nil}
use Prim.Native.Nat.{ℕ, ◌+◌, ◌-◌, ◌≤◌}
use native.Mathlib.Omega.{arith}
use lib.ListN.{length, take, drop, take-append-drop, length-drop}
use lib.IntN.{pos, ◌-ℤ◌}
use Rattle.definitions.specs.Bytes.{Text}
use Rattle.definitions.specs.Lines.{Expr, Test, Before, Line}
use Rattle.definitions.specs.Blocks.{span, room_for, gone, missing, all_but}
use Rattle.meaning.specs.Machine.{put, State, put_span, advance, Num, num, bind, eval, excusing}
use Rattle.meaning.proofs.Wellformed.{Apart}
use Rattle.meaning.proofs.Names.{apart-swap, put_other, put_same}
use Rattle.meaning.proofs.Wp.{Post, wp_test, wp_lines, held}
use Rattle.meaning.proofs.Pieces.{known, minus-num, natural-is, by-check}

-- ---- the payload's lines split the span

-- into x, and n bytes that are left
abbrev pub Split : Text → ℕ → State → Post
Split x n σ τ = (τ.spans x ++ τ.spans span ≡ σ.spans span) × (length (τ.spans span) ≡ n)

-- up to so many bytes, and to the end
abbrev pub up_to : Text → ℕ → List Line
up_to x n = room_for (Expr.lit n) ∷ Line.front Before.old x span (all_but n) ∷ Line.skip span (all_but n) ∷ []

abbrev pub to_end : Text → List Line
to_end x = Line.keep x span ∷ Line.clear span ∷ []

module _ (x : Text) (ne : Apart x span) where
  -- x is set, and then the span
  both-set : (f : Text → List ℕ) (a b : List ℕ) → put (put f x a) span b x ≡ a
  both-set f a b = put_other (put f x a) span b x (apart-swap x span ne) ∙ put_same f x a

  module _ (σ : State) (m : ℕ) where
    abbrev first : List ℕ
    first = take m (σ.spans span)

    span-stays : put σ.spans x first span ≡ σ.spans span
    span-stays = put_other σ.spans x first span ne

    -- m bytes are cut off its front
    cut-splits : (n : ℕ) → held σ - m ≡ n → Split x n σ (advance (put_span σ x first) span m)
    cut-splits n e =
        let rest : drop m (put σ.spans x first span) ≡ drop m (σ.spans span) = ap (drop m) span-stays in (
          ap (λ (a : List ℕ). a ++ drop m (put σ.spans x first span)) (both-set σ.spans first _)
              ∙ ap (λ (b : List ℕ). first ++ b) rest
              ∙ take-append-drop m (σ.spans span),
          ap length rest ∙ length-drop m (σ.spans span) ∙ e,
        )

  pub up-to-splits : (n : ℕ) (σ : State) → wp_lines (up_to x n) (Split x n σ) σ
  up-to-splits n σ = (
    λ _. tt,
    λ le.
        let m : ℕ = held σ - n in
        let stays : put σ.spans x (take m (σ.spans span)) span ≡ σ.spans span = span-stays σ m in (
          (tt, tt, tt, tt),
          known σ (num (pos (held σ) -ℤ pos n)) m _ (minus-num (held σ) n le) (
            omega arith,
            (
              (tt, tt, tt, tt),
              known (put_span σ x (take m (σ.spans span))) (num (pos (length (put σ.spans x (take m (σ.spans span)) span)) -ℤ pos n)) m _
                  (ap (λ (q : List ℕ). num (pos (length q) -ℤ pos n)) stays ∙ minus-num (held σ) n le)
                  (omega (arith, ap length stays), cut-splits σ m n (omega arith)),
            ),
          ),
        ),
  )

  pub to-end-splits : (σ : State) → wp_lines (to_end x) (Split x 0 σ) σ
  to-end-splits σ = (ap (λ (a : List ℕ). a ++ []) (both-set σ.spans (σ.spans span) []) ∙ append-nil (σ.spans span), refl)

-- ---- the padding

abbrev pub lacks : Text → ℕ → Test
lacks z p = Test.less (gone z) (Expr.lit p)

abbrev pub fill : Text → ℕ → List Line
fill z p = room_for (missing z p) ∷ Line.skip span (missing z p) ∷ []

-- p bytes less are left than z holds, or fewer
abbrev pub Fills : Text → ℕ → State → Post
Fills z p σ τ = p + held τ ≤ σ.vars z

-- where z holds what the span had
pub padding-fills : (z : Text) (p : ℕ) (σ : State) → held σ ≤ σ.vars z → wp_test σ (lacks z p) (wp_lines (fill z p) (Fills z p σ)) (Fills z p σ)
padding-fills z p σ h =
    let g : eval excusing σ (gone z) ≡ num (pos (σ.vars z - held σ)) = minus-num (σ.vars z) (held σ) h in
    let value : eval excusing σ (missing z p) ≡ num (pos p -ℤ pos (σ.vars z - held σ)) = ap (λ (v : Num). bind v (λ y. num (pos p -ℤ y))) g in (
      (tt, tt, tt, tt),
      known σ (eval excusing σ (gone z)) (σ.vars z - held σ) _ g (
        λ m. (
          (tt, (tt, tt, tt, tt), tt, natural-is _ _ g),
          by-check (eval excusing σ (missing z p)) (held σ) _
              (λ n ev le.
              let same : num (pos n) ≡ num (pos (p - (σ.vars z - held σ))) = sym ev ∙ value ∙ minus-num p (σ.vars z - held σ) (omega arith) in
              let size : n ≡ p - (σ.vars z - held σ) = cc in (
                (tt, (tt, tt, tt, tt), tt, natural-is _ _ g),
                known σ (eval excusing σ (missing z p)) n _ ev (le, omega (arith, size, length-drop n (σ.spans span))),
              )),
        ),
        λ m. omega arith,
      ),
    )
