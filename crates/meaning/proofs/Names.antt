-- When two written names are two.
-- Assumes nothing.
use mathlib.Core.Path.{◌≡◌, refl, sym, ap, ◌∙◌}
use mathlib.Core.Bool.{Bool, true, false, ◌&&◌}
use mathlib.Core.List.{List, [], ◌∷◌, ◌++◌}
use Prim.Native.Nat.{ℕ}
use native.Mathlib.Omega.{arith}
use lib.Dec.{eqb}
use lib.ListN.{length, drop, length-append}
use lib.Seq.{drop_at}
use borrow.Author.Tests.{eqb-true, eq-eqb}
use Rattle.definitions.specs.Bytes.{Text, same}
use Rattle.lengths.proofs.Booleans.{impossible}
use Rattle.meaning.specs.Machine.{put}
use Rattle.meaning.proofs.Wellformed.{Apart}

pub same_self : (x : Text) → same x x ≡ true
same_self [] = refl
same_self (a ∷ x) = rw (same_self x, eq-eqb a a refl)

pub same-eq : (x y : Text) → same x y ≡ true → x ≡ y
same-eq [] [] e = refl
same-eq [] (b ∷ y) e = impossible (cc)
same-eq (a ∷ x) [] e = impossible (cc)
same-eq (a ∷ x) (b ∷ y) e = go (λ f. same-eq x y f) (eqb a b) refl e
  where
    go : (same x y ≡ true → x ≡ y) → (t : Bool) → eqb a b ≡ t → (t && same x y) ≡ true → ◌≡◌ {A = List ℕ} (a ∷ x) (b ∷ y)
    go rest true f g = cc (rest g, eqb-true a b f)
    go rest false f g = impossible (cc)

pub apart_by : (x y : Text) → (x ≡ y → ⊥) → Apart x y
apart_by x y n = go (same x y) refl
  where
    go : (t : Bool) → same x y ≡ t → t ≡ false
    go true e = absurd (n (same-eq x y e))
    go false e = refl

pub apart-swap : (x y : Text) → Apart x y → Apart y x
apart-swap x y n =
    apart_by y x
    (λ e.
    let h : true ≡ false = sym (same_self x) ∙ ap (same x) (sym e) ∙ n in
    let z : ◌≡◌ {A = ℕ} 0 1 = cc in
    omega arith)

-- by their lengths
pub apart-length : (x y : Text) → (length x ≡ length y → ⊥) → Apart x y
apart-length x y n = apart_by x y (λ e. n (ap length e))

-- by their ends
pub apart-ends : (a s b t : Text) → length s ≡ length t → Apart s t → Apart (a ++ s) (b ++ t)
apart-ends a s b t e n =
    apart_by (a ++ s) (b ++ t)
    (λ f.
    let m : length a ≡ length b = omega (arith, e, length-append a s, length-append b t, ap length f) in
    let g : s ≡ t = sym (drop_at a s (length b) m) ∙ ap (drop (length b)) f ∙ drop_at b t (length b) refl in
    let h : true ≡ false = sym (same_self s) ∙ ap (same s) g ∙ n in
    let z : ◌≡◌ {A = ℕ} 0 1 = cc in
    omega arith)

pub put_other {ℓ} : {A : Type ℓ} (f : Text → A) (x : Text) (a : A) (y : Text) → Apart x y → put f x a y ≡ f y
put_other f x a y e = rw e refl

pub put_same {ℓ} : {A : Type ℓ} (f : Text → A) (x : Text) (a : A) → put f x a x ≡ a
put_same f x a = rw (same_self x)
