-- What is read back is what was written: a field and a declaration, each at its entry, and every other entry as it was.
-- Assumes nothing.
use Rattle.std.specs.Prelude.{Option, Some, None}
use Prim.Native.Nat.{ℕ, zero, suc, ◌+◌, ◌*◌, ◌/◌, ◌≤◌, ◌<◌}
use mathlib.Core.Bool.{Bool, true, false}
use mathlib.Core.List.{List, [], ◌∷◌, ◌++◌, append_assoc}
use mathlib.Core.Logic.{◌≢◌}
use mathlib.Core.Path.{◌≡◌, refl, sym, ap, ◌∙◌}
use native.Mathlib.Nat.{add-zero, zero-add}
use native.Mathlib.Omega.{arith}
use lib.ListN.{length, get_or, set, length-set}
use borrow.Author.Tests.{ltb-true, ltb-false}
use lib.Dec.{ltb}
use lib.Seq.{sets, get_or-set_same, get_or-set_other, get_or-append-add, get_or-append_seam}
use Rattle.definitions.specs.declared.Part.{Part}
use Rattle.definitions.specs.declared.Modifier.{Modifier}
use Rattle.definitions.specs.declared.FieldDesc.{FieldDesc}
use Rattle.definitions.specs.declared.Condition.{Condition}
use Rattle.definitions.specs.declared.Field.{Field}
use Rattle.definitions.specs.declared.Size.{Size}
use Rattle.definitions.specs.declared.DeclDesc.{DeclDesc}
use Rattle.definitions.specs.declared.Decl.{Decl}
use Rattle.tables.specs.Words.{bit_word, part_words, maybe_words, maybe_part_words, modifier_words, desc_words, cond_words, field_words}
use Rattle.tables.specs.Words.{decl_desc_words, stated_words, decl_words}
use Rattle.tables.specs.Words.{bit_of, maybe_of, maybe_part_of, modifier_of, plain_of, desc_of, cond_of, field_of, decl_desc_of, stated_of, decl_of}
use Rattle.tables.specs.Tables.{field_here, decl_here, count_here}
use Rattle.tables.proofs.Entries.{field-same, decl-same}
use Rattle.tables.proofs.Writing.{desc-length, field-length, decl-desc-length, stated-length, row-length}

-- ---- the numbers of a table in which some were written

pub get_d-before : (l : List ℕ) (i : ℕ) (vs : List ℕ) (j : ℕ) → j < i → get_or (sets l i vs) j 0 ≡ get_or l j 0
get_d-before l i [] j h = refl
get_d-before l i (v ∷ vs) j h = get_d-before (set l i v) (suc i) vs j (omega arith) ∙ get_or-set_other l i j v 0 (λ e. omega arith)

pub get_d-behind : (l : List ℕ) (i : ℕ) (vs : List ℕ) (j : ℕ) → i + length vs ≤ j → get_or (sets l i vs) j 0 ≡ get_or l j 0
get_d-behind l i [] j h = refl
get_d-behind l i (v ∷ vs) j h = get_d-behind (set l i v) (suc i) vs j (omega arith) ∙ get_or-set_other l i j v 0 (λ e. omega arith)

pub get_d-written : (l : List ℕ) (i : ℕ) (vs : List ℕ) (k : ℕ) → i + length vs ≤ length l → k < length vs → get_or (sets l i vs) (i + k) 0 ≡ get_or vs k 0
get_d-written l i [] k h b = absurd (omega arith)
get_d-written l i (v ∷ vs) zero h b =
    ap (λ (j : ℕ). get_or (sets (set l i v) (suc i) vs) j 0) (add-zero i) ∙ get_d-before (set l i v) (suc i) vs i (omega arith)
    ∙ get_or-set_same l i v 0 (omega arith)
get_d-written l i (v ∷ vs) (suc k) h b =
    ap (λ (j : ℕ). get_or (sets (set l i v) (suc i) vs) j 0) (let z : i + suc k ≡ suc i + k = omega arith in z)
    ∙ get_d-written (set l i v) (suc i) vs k (omega (arith, length-set l i v)) (omega arith)

-- ---- what may be absent, by its numbers

maybe-again : (m : Option ℕ) → maybe_of (get_or (maybe_words m) 0 0) (get_or (maybe_words m) 1 0) ≡ m
unfolding maybe_of
maybe-again None = refl
maybe-again (Some n) = refl

modifier-again : (m : Modifier) → modifier_of (get_or (modifier_words m) 0 0) (get_or (modifier_words m) 1 0) ≡ m
unfolding modifier_of
modifier-again Modifier.None = refl
modifier-again (Modifier.Plus n) = refl
modifier-again (Modifier.Minus n) = refl

maybe-part-again : (m : Option Part) → maybe_part_of (get_or (maybe_part_words m) 0 0) (get_or (maybe_part_words m) 1 0) (get_or (maybe_part_words m) 2 0) ≡ m
unfolding maybe_part_of
maybe-part-again None = refl
maybe-part-again (Some p) = refl

maybe-pair : (m : Option ℕ) → maybe_words m ≡ get_or (maybe_words m) 0 0 ∷ get_or (maybe_words m) 1 0 ∷ []
maybe-pair None = refl
maybe-pair (Some n) = refl

modifier-pair : (m : Modifier) → modifier_words m ≡ get_or (modifier_words m) 0 0 ∷ get_or (modifier_words m) 1 0 ∷ []
modifier-pair Modifier.None = refl
modifier-pair (Modifier.Plus n) = refl
modifier-pair (Modifier.Minus n) = refl

maybe-part-three : (m : Option Part)
    → maybe_part_words m ≡ get_or (maybe_part_words m) 0 0 ∷ get_or (maybe_part_words m) 1 0 ∷ get_or (maybe_part_words m) 2 0 ∷ []
maybe-part-three None = refl
maybe-part-three (Some p) = refl

-- ---- a field

module _ (key : ℕ) (c : Option Condition) where
  table : List ℕ → List ℕ
  table words = key ∷ (words ++ cond_words c)

  -- a payload and an array, from the numbers of their parts
  payload-again : (modifier : Modifier) {a b : ℕ} → modifier_words modifier ≡ a ∷ b ∷ [] → modifier_of a b ≡ modifier
      → desc_of (table (desc_words (FieldDesc.Payload modifier))) 0 ≡ FieldDesc.Payload modifier
  unfolding table desc_of
  payload-again modifier e h = rw (e, desc_of) (ap (λ (m : Modifier). FieldDesc.Payload m) h)

  array_again : (id : Part) (width : Option ℕ) (type : Option Part) (modifier : Modifier) (size : Option ℕ) {a b x y o p q m n : ℕ}
      → maybe_words width ≡ a ∷ b ∷ [] → maybe_of a b ≡ width → maybe_words size ≡ x ∷ y ∷ [] → maybe_of x y ≡ size
      → maybe_part_words type ≡ o ∷ p ∷ q ∷ [] → maybe_part_of o p q ≡ type → modifier_words modifier ≡ m ∷ n ∷ [] → modifier_of m n ≡ modifier
      → desc_of (table (desc_words (FieldDesc.Array id width type modifier size))) 0 ≡ FieldDesc.Array id width type modifier size
  unfolding table desc_of
  array_again id width type modifier size ew hw es hs et ht em hm = rw (ew, es, et, em, desc_of) (rw (hw, hs, ht, hm))

  desc-again : (d : FieldDesc) → desc_of (table (desc_words d)) 0 ≡ d
  unfolding table desc_of plain_of
  desc-again FieldDesc.Body = refl
  desc-again (FieldDesc.Checksum of) = refl
  desc-again (FieldDesc.Padding size) = refl
  desc-again (FieldDesc.Size of width) = refl
  desc-again (FieldDesc.Count of width) = refl
  desc-again (FieldDesc.ElementSize of width) = refl
  desc-again (FieldDesc.FixedScalar width value) = refl
  desc-again (FieldDesc.Reserved width) = refl
  desc-again (FieldDesc.Scalar id width) = refl
  desc-again (FieldDesc.Flag id) = refl
  desc-again (FieldDesc.FixedEnum type tag) = refl
  desc-again (FieldDesc.Typedef id type) = refl
  desc-again (FieldDesc.Payload modifier) = payload-again modifier (modifier-pair modifier) (modifier-again modifier)
  desc-again (FieldDesc.Array id width type modifier size) =
      array_again id width type modifier size (maybe-pair width) (maybe-again width) (maybe-pair size) (maybe-again size) (maybe-part-three type)
      (maybe-part-again type) (modifier-pair modifier) (modifier-again modifier)

-- the numbers of the condition, with those of a field before them
abbrev behind : ℕ → ℕ → ℕ → ℕ → List ℕ
behind a b c d = 0 ∷ 0 ∷ 0 ∷ 0 ∷ 0 ∷ 0 ∷ 0 ∷ 0 ∷ 0 ∷ 0 ∷ 0 ∷ 0 ∷ 0 ∷ a ∷ b ∷ c ∷ d ∷ []

of-behind : (t : List ℕ) → cond_of t 0 ≡ cond_of (behind (get_or t 13 0) (get_or t 14 0) (get_or t 15 0) (get_or t 16 0)) 0
unfolding cond_of
of-behind t = refl

cond_back : (c : Option Condition)
    → cond_of (behind (get_or (cond_words c) 0 0) (get_or (cond_words c) 1 0) (get_or (cond_words c) 2 0) (get_or (cond_words c) 3 0)) 0 ≡ c
unfolding cond_of
cond_back None = refl
cond_back (Some cond) = refl

cond-again : (f : Field) → cond_of (field_words f) 0 ≡ f.cond
cond-again f = of-behind (field_words f) ∙ rw (word 0, word 1, word 2, word 3) (cond_back f.cond)
  where
    word : (k : ℕ) → get_or (field_words f) (suc (12 + k)) 0 ≡ get_or (cond_words f.cond) k 0
    word k =
        ap (λ (n : ℕ). get_or (desc_words f.desc ++ cond_words f.cond) (n + k) 0) (sym (desc-length f.desc))
        ∙ get_or-append-add (desc_words f.desc) (cond_words f.cond) k 0

words-again : (f : Field) → field_of (field_words f) 0 ≡ f
unfolding table
words-again f = rw (desc-again f.key f.cond f.desc, cond-again f)

of-nothing : field_of [] 0 ≡ record { key = 0; desc = FieldDesc.Body; cond = None }
unfolding desc_of cond_of plain_of
of-nothing = refl

module _ (v : List ℕ) where
  pub field-again : (b : ℕ) (f : Field) → b + 17 ≤ length v → field_of (sets v b (field_words f)) b ≡ f
  field-again b f h =
      field-same (sets v b (field_words f)) (field_words f) b 0
      (λ k m. get_d-written v b (field_words f) k (omega (arith, field-length f)) (omega (arith, field-length f))
      ∙ ap (λ (j : ℕ). get_or (field_words f) j 0) (sym (zero-add k)))
      ∙ words-again f

  pub field-before : (b c : ℕ) (w : List ℕ) → b + 17 ≤ c → field_of (sets v c w) b ≡ field_of v b
  field-before b c w h = field-same (sets v c w) v b b (λ k m. get_d-before v c w (b + k) (omega arith))

  pub field-behind : (b c : ℕ) (w : List ℕ) → c + length w ≤ b → field_of (sets v c w) b ≡ field_of v b
  field-behind b c w h = field-same (sets v c w) v b b (λ k m. get_d-behind v c w (b + k) (omega arith))

  -- by places: a field has 16 bytes or more
  pub here-again : (at : ℕ) (f : Field) → at / 16 * 17 + 17 ≤ length v → field_here (sets v (at / 16 * 17) (field_words f)) at ≡ f
  unfolding field_here
  here-again at f h = field-again (at / 16 * 17) f h

  pub here-before : (p q : ℕ) (w : List ℕ) → p + 16 ≤ q → field_here (sets v (q / 16 * 17) w) p ≡ field_here v p
  unfolding field_here
  here-before p q w h = field-before (p / 16 * 17) (q / 16 * 17) w (omega arith)

  pub here-behind : (p q : ℕ) (g : Field) → q + 16 ≤ p → field_here (sets v (q / 16 * 17) (field_words g)) p ≡ field_here v p
  unfolding field_here
  here-behind p q g h = field-behind (p / 16 * 17) (q / 16 * 17) (field_words g) (omega (arith, field-length g))

  pub here-first : field_here v 0 ≡ field_of v 0
  unfolding field_here
  here-first = refl

  -- of a table of zeros
  pub here-zero : ((k : ℕ) → get_or v k 0 ≡ 0) → (at : ℕ) → field_here v at ≡ record { key = 0; desc = FieldDesc.Body; cond = None }
  unfolding field_here
  here-zero z at = field-same v [] (at / 16 * 17) 0 (λ k m. z (at / 16 * 17 + k)) ∙ of-nothing

-- ---- a declaration and the number of its fields

bit-again : (b : Bool) → bit_of (bit_word b) ≡ b
bit-again true = refl
bit-again false = refl

stated-front : (b : Option Size) (rest : List ℕ) → stated_of (get_or (stated_words b ++ rest) 0 0) (get_or (stated_words b ++ rest) 1 0) ≡ b
unfolding stated_of
stated-front None rest = refl
stated-front (Some (Size.Static bits)) rest = refl
stated-front (Some Size.Dynamic) rest = refl
stated-front (Some Size.Unknown) rest = refl

-- the numbers of a row behind those of its name
module _ (desc : DeclDesc) (bits : Option Size) (count : ℕ) where
  abbrev end : List ℕ
  end = (decl_desc_words desc ++ stated_words bits) ++ (count ∷ [])

  behind-desc : (k : ℕ) → get_or end (4 + k) 0 ≡ get_or (stated_words bits ++ (count ∷ [])) k 0
  behind-desc k =
      ap (λ (l : List ℕ). get_or l (4 + k) 0) (append_assoc (decl_desc_words desc) (stated_words bits) (count ∷ []))
      ∙ ap (λ (n : ℕ). get_or (decl_desc_words desc ++ (stated_words bits ++ (count ∷ []))) (n + k) 0) (sym (decl-desc-length desc))
      ∙ get_or-append-add (decl_desc_words desc) (stated_words bits ++ (count ∷ [])) k 0

  stated-again : stated_of (get_or end 4 0) (get_or end 5 0) ≡ bits
  stated-again = rw (behind-desc 0, behind-desc 1) (stated-front bits (count ∷ []))

  count_of : get_or end 6 0 ≡ count
  count_of =
      behind-desc 2 ∙ ap (λ (n : ℕ). get_or (stated_words bits ++ (count ∷ [])) n 0) (sym (stated-length bits))
      ∙ get_or-append_seam (stated_words bits) count [] 0

module _ (key : ℕ) (id : Part) (rest : List ℕ) where
  abbrev row : DeclDesc → List ℕ
  row desc = key ∷ (part_words id ++ (decl_desc_words desc ++ rest))

  abbrev Again : DeclDesc → Type 0
  Again desc = decl_desc_of (get_or (row desc) 3 0) (get_or (row desc) 4 0) (get_or (row desc) 5 0) (get_or (row desc) 6 0) ≡ desc

  custom-again : (width : Option ℕ) {a b : ℕ} → maybe_words width ≡ a ∷ b ∷ [] → maybe_of a b ≡ width → Again (DeclDesc.CustomField width)
  unfolding decl_desc_of
  custom-again width e h = rw e (ap (λ (m : Option ℕ). DeclDesc.CustomField m) h)

  packet-again : (parent : Option Part) {a b c : ℕ} → maybe_part_words parent ≡ a ∷ b ∷ c ∷ [] → maybe_part_of a b c ≡ parent → Again (DeclDesc.Packet parent)
  unfolding decl_desc_of
  packet-again parent e h = rw e (ap (λ (m : Option Part). DeclDesc.Packet m) h)

  struct-again : (parent : Option Part) {a b c : ℕ} → maybe_part_words parent ≡ a ∷ b ∷ c ∷ [] → maybe_part_of a b c ≡ parent → Again (DeclDesc.Struct parent)
  unfolding decl_desc_of
  struct-again parent e h = rw e (ap (λ (m : Option Part). DeclDesc.Struct m) h)

  decl-desc-again : (desc : DeclDesc) → Again desc
  unfolding decl_desc_of
  decl-desc-again (DeclDesc.Checksum width) = refl
  decl-desc-again (DeclDesc.CustomField width) = custom-again width (maybe-pair width) (maybe-again width)
  decl-desc-again (DeclDesc.Enum width is_open is_complete) = rw (bit-again is_open, bit-again is_complete)
  decl-desc-again (DeclDesc.Packet parent) = packet-again parent (maybe-part-three parent) (maybe-part-again parent)
  decl-desc-again (DeclDesc.Struct parent) = struct-again parent (maybe-part-three parent) (maybe-part-again parent)

row-again : (d : Decl) (count : ℕ) → decl_of (decl_words d ++ (count ∷ [])) 0 ≡ d
row-again d count = rw (stated-again d.desc d.bits count, desc)
  where
    desc : decl_desc_of (get_or (end d.desc d.bits count) 0 0) (get_or (end d.desc d.bits count) 1 0)
        (get_or (end d.desc d.bits count) 2 0) (get_or (end d.desc d.bits count) 3 0) ≡ d.desc
    desc =
        rw (append_assoc (decl_desc_words d.desc) (stated_words d.bits) (count ∷ []))
        (decl-desc-again d.key d.id (stated_words d.bits ++ (count ∷ [])) d.desc)

module _ (rows : List ℕ) (i : ℕ) (d : Decl) (count : ℕ) where
  abbrev words : List ℕ
  words = decl_words d ++ (count ∷ [])

  abbrev written : List ℕ
  written = sets rows (i * 13) words

  pub decl-again : i * 13 + 10 ≤ length rows → decl_here (sets rows (i * 13) (decl_words d ++ (count ∷ []))) i ≡ d
  unfolding decl_here
  decl-again h =
      decl-same written words (i * 13) 0
      (λ k m. get_d-written rows (i * 13) words k (omega (arith, row-length d count)) (omega (arith, row-length d count))
      ∙ ap (λ (j : ℕ). get_or words j 0) (sym (zero-add k)))
      ∙ row-again d count

  pub count-again : i * 13 + 10 ≤ length rows → count_here (sets rows (i * 13) (decl_words d ++ (count ∷ []))) i ≡ count
  count-again h =
      get_d-written rows (i * 13) words 9 (omega (arith, row-length d count)) (omega (arith, row-length d count)) ∙ count_of d.desc d.bits count

  -- every other number of the rows stays
  pub number-kept : (j k : ℕ) → k < 13 → j ≢ i → get_or (sets rows (i * 13) (decl_words d ++ (count ∷ []))) (j * 13 + k) 0 ≡ get_or rows (j * 13 + k) 0
  number-kept j k b n = by (ltb (j * 13 + k) (i * 13)) refl
    where
      by : (t : Bool) → ltb (j * 13 + k) (i * 13) ≡ t → get_or written (j * 13 + k) 0 ≡ get_or rows (j * 13 + k) 0
      by true e = get_d-before rows (i * 13) words (j * 13 + k) (ltb-true (j * 13 + k) (i * 13) e)
      by false e =
          get_d-behind rows (i * 13) words (j * 13 + k) (apart (ltb-false (j * 13 + k) (i * 13) e))
        where
          apart : i * 13 ≤ j * 13 + k → i * 13 + length words ≤ j * 13 + k
          apart h = omega (arith, row-length d count, n)

  pub decl-kept : (j : ℕ) → j ≢ i → decl_here (sets rows (i * 13) (decl_words d ++ (count ∷ []))) j ≡ decl_here rows j
  unfolding decl_here
  decl-kept j n = decl-same written rows (j * 13) (j * 13) (λ k m. number-kept j k (omega arith) n)

  pub count_kept : (j : ℕ) → j ≢ i → count_here (sets rows (i * 13) (decl_words d ++ (count ∷ []))) j ≡ count_here rows j
  count_kept j n = number-kept j 9 (omega arith) n
