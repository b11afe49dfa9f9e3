-- How writings follow one another: `chain` has no conditions.
-- Assumes nothing.
use mathlib.Core.List.{List, [], ◌∷◌, ◌++◌}
use mathlib.Core.Path.{◌≡◌, refl, sym, ap, ◌∙◌, subst}
use Prim.Native.Nat.{ℕ, suc, ◌+◌, ◌-◌, ◌≤◌, ◌<◌, ◌^◌, min}
use native.Mathlib.Decide.{dec_lt}
use native.Mathlib.Nat.{add-zero}
use native.Mathlib.Numerals.{add-one}
use native.Mathlib.Omega.{arith}
use lib.ListN.{length, length-append, set, get_or, take, drop, take-append-drop}
use lib.Seq.{sets, length-sets, set_out, take-suc, length-take-le, take_all}
use Rattle.text.specs.Put.{Put, after}

sets-append : (a b l : List ℕ) (i : ℕ) → sets l i (a ++ b) ≡ sets (sets l i a) (i + length a) b
sets-append [] b l i = rw add-zero
sets-append (x ∷ a) b l i =
    sets-append a b (set l i x) (suc i) ∙ ap (λ (k : ℕ). sets (sets (set l i x) (suc i) a) k b) (omega arith)

-- past the end nothing is written
sets-out : (vs l : List ℕ) (i : ℕ) → length l ≤ i → sets l i vs ≡ l
sets-out [] l i h = refl
sets-out (x ∷ vs) l i h = rw (set_out l i x h) (sets-out vs l (suc i) (omega arith))

-- nor is a byte
pub byte-out : (l : List ℕ) (i b : ℕ) → length l ≤ i → l ≡ sets l i (b ∷ [])
byte-out l i b h = sym (sets-out (b ∷ []) l i h)

-- from the capped place on, as from the place itself
capped : (b l : List ℕ) (i n : ℕ) → length l ≤ 2 ^ 63 → sets l (after i n) b ≡ sets l (i + n) b
capped b l i n h = elim (dec_lt (i + n) (2 ^ 63)) [
  | yes w ↦ ap (λ (k : ℕ). sets l k b) (omega arith)
  | no w ↦ sets-out b l (after i n) (omega arith) ∙ sym (sets-out b l (i + n) (omega arith))
]

-- one piece and then another: both
pub chain : {l l₁ l₂ a b : List ℕ} {i r s : ℕ} → Put l i a r l₁ → Put l₁ r b s l₂ → Put l i (a ++ b) s l₂
chain {l} {l₁} {l₂} {a} {b} {i} {r} {s} p q = record {
  room = p.room;
  next = omega (arith, p.next, q.next, length-append a b);
  written =
      q.written
      ∙ ap (λ (m : List ℕ). sets m r b) p.written
      ∙ ap (λ (k : ℕ). sets (sets l i a) k b) p.next
      ∙ capped b (sets l i a) i (length a) (omega (arith, length-sets l i a, p.room))
      ∙ sym (sets-append a b l i);
}

-- nothing
pub still : (l : List ℕ) (i : ℕ) → length l < 2 ^ 63 → Put l i [] i l
still l i h = record { room = h; next = omega arith; written = refl }

-- a piece in another form
pub like : {l l₁ a b : List ℕ} {i r : ℕ} → a ≡ b → Put l i a r l₁ → Put l i b r l₁
like {l} {l₁} {a} {b} {i} {r} e p = subst (λ (x : List ℕ). Put l i x r l₁) e p

-- the buffer keeps its length
pub kept : {l l₁ a : List ℕ} {i r : ℕ} → Put l i a r l₁ → length l₁ ≡ length l
kept {l} {l₁} {a} {i} p = ap length p.written ∙ length-sets l i a

-- ---- the copy loop

module _ (s l : List ℕ) (at : ℕ) where
  -- one more byte
  pub copied : (i : ℕ) {out : List ℕ} → out ≡ sets l at (take i s) → i < length s → set out (at + i) (get_or s i 0) ≡ sets l at (take (i + 1) s)
  copied i so h =
      ap (λ (m : List ℕ). set m (at + i) (get_or s i 0)) so
      ∙ (rw (add-one i, take-suc s i 0 h, sets-append, length-take-le i s (omega arith)))

  -- all bytes that are inside
  pub all-copied : (i : ℕ) {out : List ℕ} → out ≡ sets l at (take i s) → i ≤ length s → min (length s) (length l - at) ≤ i → out ≡ sets l at s
  all-copied i so h k = so ∙ elim (dec_lt i (length s)) [
    | yes w ↦
        sym
        (ap (sets l at) (sym (take-append-drop i s))
        ∙ sets-append (take i s) (drop i s) l at
        ∙ ap (λ (j : ℕ). sets (sets l at (take i s)) (at + j) (drop i s)) (length-take-le i s h)
        ∙ sets-out (drop i s) (sets l at (take i s)) (at + i) (omega (arith, length-sets l at (take i s))))
    | no w ↦ ap (sets l at) (take_all i s (omega arith))
  ]
