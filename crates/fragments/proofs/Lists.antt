-- Lists of which every element has something (`All`): two of them in one, one apart, fewer of one. And equal lists have equal elements.
-- Assumes nothing.
use mathlib.Core.Bool.{Bool, true, false}
use mathlib.Core.List.{List, [], ◌∷◌, ◌++◌}
use mathlib.Core.Path.{◌≡◌}
use Rattle.fewer.proofs.Fewer.{Sublist}

module _ {A : Type 0} where
  abbrev pub is_nil : List A → Bool
  is_nil [] = true
  is_nil (x ∷ xs) = false

  -- ---- equal lists

  pub first : {x y : A} {xs ys : List A} → x ∷ xs ≡ y ∷ ys → x ≡ y
  first e = cc

  pub rest : {x y : A} {xs ys : List A} → x ∷ xs ≡ y ∷ ys → xs ≡ ys
  rest e = cc

  -- ---- every element

  pub data All (P : A → Type 0) : List A → Type 0 where
    done : All P []
    more : {x : A} {xs : List A} → P x → All P xs → All P (x ∷ xs)

  module _ {P : A → Type 0} where
    pub all_both : {xs ys : List A} → All P xs → All P ys → All P (xs ++ ys)
    all_both done k = k
    all_both (more h hs) k = more h (all_both hs k)

    pub all_apart : (xs : List A) {ys : List A} → All P (xs ++ ys) → All P xs × All P ys
    all_apart [] k = (done, k)
    all_apart (x ∷ xs) (more h k) = let w = all_apart xs k in (more h w.0, w.1)

    pub all-fewer : {xs ys : List A} → Sublist xs ys → All P ys → All P xs
    all-fewer Sublist.done done = done
    all-fewer (Sublist.keep l) (more h k) = more h (all-fewer l k)
    all-fewer (Sublist.skip l) (more h k) = all-fewer l k
