-- What is read and written in pieces, one after the other. Assumes nothing.
use Rattle.std.proofs.Common.{◌≡◌, ℕ, ◌+◌, ◌-◌, ◌/◌, ◌%◌, ◌^◌, ◌≤◌, min, codes, List, ◌++◌, length, take, drop, Option, Result, Ok, Err, arith, sym, ap, ◌∙◌, subst}
use Rattle.std.proofs.Math.Seq.{take-append-add, take-add}
use Rattle.std.proofs.lemmas.List.{take-append-le, drop-append-le, length-take-le, take_min, take_rest}
use Rattle.std.proofs.lemmas.Bool.{false≢true}
use Rattle.std.proofs.KnownBytes.{Consumes-trans, Appends-trans}
use Rattle.std.specs.Io.KnownBytes.{Consumes, Appends}
use Rattle.std.specs.Result.{IsErr}
use borrow.Rule.Slice.PartMut.{put_mid, post_of}
use Rattle.console.specs.Reads.{Skips}
use Rattle.console.specs.Writes.{Writes, number_line, printed}

-- ---- reading

-- what stands behind `at` where n bytes come behind `end`
module _ (at end k n : ℕ) (buf came : List ℕ) (h : at ≤ end) (fits : end ≤ length buf) (few : n ≤ length came) where
  seam : drop at (take (end + n) (put_mid end k buf came)) ≡ drop at (take end buf) ++ take n came
  seam =
      let e : length (take end buf) ≡ end = length-take-le end buf fits in
      let rest = post_of end k buf in
      ap
      (drop at)
      (ap (λ m. take (m + n) (take end buf ++ (came ++ rest))) (sym e)
      ∙ take-append-add (take end buf) (came ++ rest) n
      ∙ ap (λ l. take end buf ++ l) (take-append-le n came rest few))
      ∙ drop-append-le at (take end buf) (take n came) (omega (arith, e, h))

  pub came_behind : (a b c : Option (List ℕ)) → Consumes a b (drop at (take end buf)) → Consumes b c (take n came)
      → Consumes a c (drop at (take (end + n) (put_mid end k buf came)))
  came_behind a b c p q = subst (Consumes a c) (sym seam) (Consumes-trans a b c _ _ p q)

pub skips_then : (a b c : Option (List ℕ)) → Skips a b → Skips b c → Skips a c
skips_then a b c (xs, p) (ys, q) = (xs ++ ys, Consumes-trans a b c xs ys p q)

-- ---- writing

-- the same bytes under another name
module _ (a b : Option (List ℕ)) (xs ys : List ℕ) (e : xs ≡ ys) where
  pub appends_same : Appends a b xs → Appends a b ys
  appends_same p = subst (Appends a b) e p

  pub fails_same : ((k : ℕ) × Appends a b (take k xs)) → (k : ℕ) × Appends a b (take k ys)
  fails_same (k, p) = (k, subst (λ bs. Appends a b (take k bs)) e p)

-- n bytes more behind the first `done`
pub wrote_more : (a b c : Option (List ℕ)) (done n : ℕ) (bs : List ℕ) → Appends a b (take done bs) → Appends b c (take n (take (length bs - done) (drop done bs)))
    → Appends a c (take (done + n) bs)
wrote_more a b c done n bs p q =
    subst (Appends a c) (ap (λ l. take done bs ++ take n l) (take_rest bs done) ∙ sym (take-add done n bs)) (Appends-trans a b c _ _ p q)

-- a failure in a first part is one in the whole
pub fails_before : (a b : Option (List ℕ)) (xs ys : List ℕ) → ((k : ℕ) × Appends a b (take k xs)) → (k : ℕ) × Appends a b (take k (xs ++ ys))
fails_before a b xs ys (k, p) =
    (min k (length xs), subst (Appends a b) (sym (take-append-le (min k (length xs)) xs ys (omega arith) ∙ take_min k xs)) p)

-- so is one in a second part, behind the first
pub fails_behind : (a b c : Option (List ℕ)) (xs ys : List ℕ) → Appends a b xs → ((k : ℕ) × Appends b c (take k ys)) → (k : ℕ) × Appends a c (take k (xs ++ ys))
fails_behind a b c xs ys p (k, q) = (length xs + k, subst (Appends a c) (sym (take-append-add xs ys k)) (Appends-trans a b c _ _ p q))

-- what an error that is handed on leaves
pub writes_err : {A E : Type 0} (r : Result A E) (a b : Option (List ℕ)) (bs : List ℕ) → IsErr r → ((k : ℕ) × Appends a b (take k bs)) → Writes r a b bs
writes_err (Ok x) a b bs e p = absurd (false≢true e)
writes_err (Err x) a b bs e p = p

-- a part is written behind another
pub writes_behind : {A E : Type 0} (r : Result A E) (a b c : Option (List ℕ)) (xs ys : List ℕ) → Appends a b xs → Writes r b c ys → Writes r a c (xs ++ ys)
writes_behind (Ok x) a b c xs ys p q = Appends-trans a b c xs ys p q
writes_behind (Err e) a b c xs ys p q = fails_behind a b c xs ys p q

-- what is printed of a number and a buffer: the lines where its upper part is 0, and else the refusal
module _ {A E : Type 0} (r : Result A E) (a b : Option (List ℕ)) (word : ℕ) (out : List ℕ) where
  pub prints_lines : {k n : ℕ} {bs : List ℕ} → k ≡ word / 2 ^ 32 → k ≡ 0 → n ≡ word % 2 ^ 32 → bs ≡ take n out → Writes r a b bs
      → Writes r a b (printed word out)
  unfolding printed
  prints_lines e z f h p = grind arith

  pub prints_refusal : {k : ℕ} → k ≡ word / 2 ^ 32 → (k ≡ 0 → ⊥) → Writes r a b (number_line (codes "refused") k) → Writes r a b (printed word out)
  unfolding printed
  prints_refusal e n p = grind arith
