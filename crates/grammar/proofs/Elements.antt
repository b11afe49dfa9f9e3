-- What all elements of a list have, a chosen one has; what a test of lists finds; and texts that are the same.
-- Assumes nothing.
use mathlib.Core.Bool.{Bool, true, false, ◌&&◌, ◌||◌}
use mathlib.Core.List.{List, [], ◌∷◌, ◌++◌, map}
use mathlib.Core.Path.{◌≡◌, refl}
use Prim.Native.Nat.{ℕ, zero, suc, ◌<◌}
use native.Mathlib.Nat.{mod-lt}
use native.Mathlib.Omega.{arith}
use lib.Dec.{eqb}
use lib.ListN.{length, get_or}
use borrow.Author.Tests.{eqb-true, eq-eqb}
use Rattle.definitions.specs.Bytes.{Text, any, all, same}
use Rattle.lengths.proofs.Booleans.{impossible}
use Rattle.fragments.proofs.Lists.{is_nil, All, all_apart}
use Rattle.grammar.specs.Choices.{choice, chosen}

-- every text of the first list before every text of the second
abbrev pub crossed : List Text → List Text → List Text
crossed [] ys = []
crossed (x ∷ xs) ys = map (λ (y : Text). x ++ y) ys ++ crossed xs ys

-- ---- every element

module _ {A B : Type 0} where
  pub all-mapped : {P : B → Type 0} (f : A → B) (xs : List A) → All P (map f xs) → All (λ x. P (f x)) xs
  all-mapped f [] k = All.done
  all-mapped f (x ∷ xs) (All.more h k) = All.more h (all-mapped f xs k)

pub all-crossed : {P : Text → Type 0} (xs ys : List Text) → All P (crossed xs ys) → All (λ x. All (λ y. P (x ++ y)) ys) xs
all-crossed [] ys k = All.done
all-crossed (x ∷ xs) ys k =
    let w = all_apart (map (λ (y : Text). x ++ y) ys) k in All.more (all-mapped (λ (y : Text). x ++ y) ys w.0) (all-crossed xs ys w.1)

all-at : {A : Type 0} {P : List A → Type 0} (xs : List (List A)) (i : ℕ) → All P xs → i < length xs → P (get_or xs i [])
all-at [] i k h = absurd (omega arith)
all-at (x ∷ xs) zero (All.more p k) h = p
all-at (x ∷ xs) (suc i) (All.more p k) h = all-at xs i k (omega arith)

some-length : {A : Type 0} (xs : List A) → is_nil xs ≡ false → 0 < length xs
some-length [] e = impossible (cc)
some-length (x ∷ xs) e = omega arith

-- what all possibilities have, the chosen one has
pub chosen-has : {A : Type 0} {P : List A → Type 0} (s : ℕ) (xs : List (List A)) → is_nil xs ≡ false → All P xs → P (chosen s xs)
chosen-has s xs e k = all-at xs (choice s (length xs)) k (mod-lt _ {m = length xs} (some-length xs e))

or_right : (a b : Bool) → b ≡ true → (a || b) ≡ true
or_right true b e = refl
or_right false b e = e

pub both_true : (a b : Bool) → (a && b) ≡ true → (a ≡ true) × (b ≡ true)
both_true true true e = (refl, refl)
both_true true false e = impossible (cc)
both_true false b e = impossible (cc)

pub all_true : (test : Text → Bool) (xs : List Text) → all test xs ≡ true → All (λ x. test x ≡ true) xs
all_true test [] e = All.done
all_true test (x ∷ xs) e = let w = both_true (test x) (all test xs) e in All.more w.0 (all_true test xs w.1)

-- ---- texts that are the same

pub same-texts : (a b : Text) → same a b ≡ true → a ≡ b
same-texts [] [] e = refl
same-texts [] (y ∷ b) e = impossible (cc)
same-texts (x ∷ a) [] e = impossible (cc)
same-texts (x ∷ a) (y ∷ b) e =
    let w = both_true (eqb x y) (same a b) e in let f : a ≡ b = same-texts a b w.1 in let g : x ≡ y = eqb-true x y w.0 in cc

pub same-itself : (a : Text) → same a a ≡ true
same-itself [] = refl
same-itself (x ∷ a) = rw (eq-eqb x x refl, same-itself a)

-- ---- what a test finds

-- the one that a test finds
module _ {A : Type 0} (test : A → Bool) where
  pub found : (xs : List A) → any test xs ≡ true → (x : A) × (test x ≡ true) × ((other : A → Bool) → other x ≡ true → any other xs ≡ true)
  found [] e = impossible (cc)
  found (x ∷ xs) e = by (test x) refl (found xs) e
    where
      here : test x ≡ true → (y : A) × (test y ≡ true) × ((other : A → Bool) → other y ≡ true → any other (x ∷ xs) ≡ true)
      here f = (x, f, λ other g. rw g)

      later : ((y : A) × (test y ≡ true) × ((other : A → Bool) → other y ≡ true → any other xs ≡ true))
          → (y : A) × (test y ≡ true) × ((other : A → Bool) → other y ≡ true → any other (x ∷ xs) ≡ true)
      later w = (w.0, w.1, λ other g. or_right (other x) (any other xs) (w.2 other g))

      by : (b : Bool) → test x ≡ b
          → (any test xs ≡ true → (y : A) × (test y ≡ true) × ((other : A → Bool) → other y ≡ true → any other xs ≡ true))
          → (b || any test xs) ≡ true → (y : A) × (test y ≡ true) × ((other : A → Bool) → other y ≡ true → any other (x ∷ xs) ≡ true)
      by true f ih z = here f
      by false f ih z = later (ih z)

pub some_mapped : {A B : Type 0} (f : A → B) (xs : List A) → is_nil xs ≡ false → is_nil (map f xs) ≡ false
some_mapped f [] e = e
some_mapped f (x ∷ xs) e = refl
