-- Which names are like `raw_value`: the names that tested enums are held in (`raw-like`), and no other name that lines read (`unlike-names`).
-- Assumes nothing.
use mathlib.Core.Bool.{Bool, true, false, ◌&&◌, ◌||◌}
use mathlib.Core.List.{[], ◌∷◌, ◌++◌}
use mathlib.Core.Path.{◌≡◌, refl, sym, ap, ◌∙◌}
use Prim.Native.Nat.{ℕ, zero, suc, ◌+◌, ◌/◌, ◌%◌, ◌<◌}
use native.Mathlib.Omega.{arith}
use lib.Dec.{ltb, eqb}
use lib.ListN.{take, drop, take-append-drop}
use borrow.Author.Tests.{ltb-true, lt-ltb, le-leb}
use Rattle.definitions.specs.Bytes.{Text, text, same, all, is_digit, digit, digits_in}
use Rattle.definitions.specs.Blocks.{raw, prefix, named, start_name}
use Rattle.definitions.specs.declared.Arrays.{Arrays}
use Rattle.lengths.proofs.Booleans.{impossible}
use Rattle.meaning.proofs.Names.{same-eq}
use Rattle.numbered.specs.Digits.{like_raw}
use Rattle.numbered.proofs.Listings.{RawNames, HasNames}

-- no such name
abbrev pub UnlikeRaw : Text → Type 0
UnlikeRaw x = like_raw x ≡ false

-- ---- the names of tested enums

all_append : (f : ℕ → Bool) (a b : Text) → all f a ≡ true → all f b ≡ true → all f (a ++ b) ≡ true
all_append f [] b h k = k
all_append f (x ∷ a) b h k = by (all_append f a b) (f x) h
  where
    by : (all f a ≡ true → all f b ≡ true → all f (a ++ b) ≡ true) → (c : Bool) → (c && all f a) ≡ true → (c && all f (a ++ b)) ≡ true
    by rest true e = rest e k
    by rest false e = impossible (cc)

digit-is : (n : ℕ) → n < 10 → is_digit (digit n) ≡ true
unfolding is_digit
digit-is n h = rw (lt-ltb n 10 h, le-leb 48 (48 + n) (omega arith), le-leb (48 + n) 57 (omega arith))

digits_are : (f n : ℕ) → all is_digit (digits_in 10 f n) ≡ true
unfolding digits_in
digits_are zero n = refl
digits_are (suc f) n = by (digits_are f (n / 10)) (ltb n 10) refl
  where
    by : all is_digit (digits_in 10 f (n / 10)) ≡ true → (b : Bool) → ltb n 10 ≡ b
        → all is_digit (elim b [ true ↦ digit n ∷ [] | false ↦ digits_in 10 f (n / 10) ++ (digit (n % 10) ∷ []) ]) ≡ true
    by h true e = rw (digit-is n (ltb-true n 10 e))
    by h false e = all_append is_digit (digits_in 10 f (n / 10)) (digit (n % 10) ∷ []) h (rw (digit-is (n % 10) (omega arith)))

pub raw-like : {r q : Text} → RawNames r q → (like_raw r ≡ true) × (like_raw q ≡ true)
unfolding like_raw
raw-like RawNames.plain = (refl, refl)
raw-like (RawNames.numbered k) = (digits_are 64 k, refl)

-- ---- the others: by their ends

-- whether the last byte of a text behind a and b is a digit, or an `e` behind a `u`
abbrev raw_end : ℕ → ℕ → Text → Bool
raw_end a b [] = is_digit b || (eqb b 101 && eqb a 117)
raw_end a b (x ∷ t) = raw_end b x t

-- whatever stands before a text that ends otherwise
ends-other : (s t : Text) → ((a b : ℕ) → raw_end a b t ≡ false) → (a b : ℕ) → raw_end a b (s ++ t) ≡ false
ends-other [] t h a b = h a b
ends-other (x ∷ s) t h a b = ends-other s t h b x

digits-end : (a b : ℕ) (t : Text) → raw_end a b [] ≡ true → all is_digit t ≡ true → raw_end a b t ≡ true
digits-end a b [] h k = h
digits-end a b (x ∷ t) h k = by (λ g e. digits-end b x t g e) (is_digit x) refl k
  where
    by : (raw_end b x [] ≡ true → all is_digit t ≡ true → raw_end b x t ≡ true) → (c : Bool) → is_digit x ≡ c → (c && all is_digit t) ≡ true → raw_end b x t ≡ true
    by rest true e g = rest (rw e) g
    by rest false e g = impossible (cc)

-- one that is like `raw_value` ends so
like-end : (t : Text) → like_raw t ≡ true → raw_end 0 0 t ≡ true
unfolding like_raw is_digit
like-end t h = by (same (take 9 t) raw) refl h
  where
    by : (c : Bool) → same (take 9 t) raw ≡ c → (c && all is_digit (drop 9 t)) ≡ true → raw_end 0 0 t ≡ true
    by true e g =
        let f : raw ++ drop 9 t ≡ t = ap (λ (u : Text). u ++ drop 9 t) (sym (same-eq (take 9 t) raw e)) ∙ take-append-drop 9 t in
        ap (raw_end 0 0) (sym f) ∙ digits-end 117 101 (drop 9 t) refl g
    by false e g = impossible (cc)

unlike-end : (t : Text) → raw_end 0 0 t ≡ false → UnlikeRaw t
unlike-end t h = by (like_raw t) refl
  where
    by : (c : Bool) → like_raw t ≡ c → c ≡ false
    by true e = impossible (cc (like-end t e))
    by false e = refl

pub named-unlike : (m : Arrays) (id end : Text) → UnlikeRaw (named m id (end ++ text "_"))
unfolding is_digit
named-unlike m id end = unlike-end (named m id (end ++ text "_")) (ends-other (prefix m) _ (ends-other id _ (ends-other end (text "_") (λ a b. refl))) 0 0)

pub unlike-names : HasNames UnlikeRaw
unfolding like_raw is_digit
unlike-names =
    record {
      chunk = λ nr. refl;
      size = λ m id. named-unlike m id (text "_size");
      count = λ m id. named-unlike m id (text "_count");
      element = λ m id. named-unlike m id (text "_element_size");
      own = λ id. named-unlike Arrays.Lite id (text "_count");
      begin = λ id. unlike-end (start_name id) (ends-other id (text "_start_size") (λ a b. refl) 0 0);
    }
