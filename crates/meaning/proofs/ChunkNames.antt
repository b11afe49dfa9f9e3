-- No name of an accepted record is `chunk` with a number, and no other variable of a bit field is: so nothing sets `chunk0`, `chunk1` and so on
-- but their own lines. And no name has a `>`. From the record reader, name by name.
-- Assumes nothing.
use Rattle.std.specs.Prelude.{Some, None}
use Rattle.definitions.specs.Record.{Read, key_of, key_at, part_of, word_of, name_of, is_found, digits_line, some_digits, digits_behind, is_forbidden, name_at, Declaration, RecordRead, read_record}
use mathlib.Core.Path.{◌≡◌, refl, sym, ap, ◌∙◌, subst}
use mathlib.Core.Bool.{Bool, true, false, ◌&&◌, ◌||◌}
use mathlib.Core.List.{List, [], ◌∷◌, ◌++◌, append_assoc}
use Prim.Native.Nat.{ℕ, zero, suc, ◌+◌, ◌-◌, ◌/◌, ◌%◌, ◌≤◌, ◌<◌}
use native.Mathlib.Omega.{arith}
use lib.Dec.{ltb, eqb}
use lib.ListN.{length, take, drop}
use lib.Seq.{drop-drop, take_at}
use borrow.Author.Tests.{eqb-true, ltb-true, le-leb, lt-ltb, ne_eqb}
use Rattle.definitions.specs.Bytes.{Text, text, any, part, is_digit, is_word, digit, digits_in, decimal}
use Rattle.definitions.specs.Blocks.{chunk_name, raw_name}
use Rattle.definitions.specs.declared.Part.{Part}
use Rattle.definitions.specs.declared.Raw.{Raw}
use Rattle.definitions.specs.declared.FieldDesc.{FieldDesc}
use Rattle.definitions.specs.declared.Field.{Field}
use Rattle.lengths.proofs.Booleans.{impossible}
use Rattle.lengths.proofs.Names.{NameIs, DescIs, FieldsAre, DeclarationsAre, RecordOk, record-ok}
use Rattle.meaning.specs.Machine.{}
use Rattle.meaning.proofs.Wellformed.{Apart}
use Rattle.meaning.proofs.Names.{apart_by, apart-ends}

-- ---- a number's digits

abbrev Digit : ℕ → Type 0
Digit d = (48 ≤ d) × (d ≤ 57)

abbrev Digits : Text → Type 0
Digits [] = Unit {0}
Digits (d ∷ ds) = Digit d × Digits ds

digits_more : (a : Text) (d : ℕ) → Digits a → Digit d → Digits (a ++ (d ∷ []))
digits_more [] d h k = (k, tt)
digits_more (e ∷ a) d h k = (h.0, digits_more a d h.1 k)

digit-is : (n : ℕ) → n < 10 → Digit (digit n)
digit-is n h = rw (lt-ltb n 10 h) (omega arith, omega arith)

-- digits, and a last one
pub record Ended (t : Text) : Type 0 where
  pub front : Text
  pub last : ℕ
  pub are : t ≡ front ++ (last ∷ [])
  pub digits : Digits front
  pub digit : Digit last

ended-digits : (t : Text) → Ended t → Digits t
ended-digits t e = subst Digits (sym e.are) (digits_more e.front e.last e.digits e.digit)

digit_low : (n : ℕ) → Digit (digit (n % 10))
digit_low n = digit-is (n % 10) (omega arith)

digits-ended : (f n : ℕ) → Ended (digits_in 10 (suc f) n)
unfolding digits_in
digits-ended zero n = by (ltb n 10) refl
  where
    by : (b : Bool) → ltb n 10 ≡ b → Ended (elim b [ true ↦ digit n ∷ [] | false ↦ [] ++ (digit (n % 10) ∷ []) ])
    by true e = record { front = []; last = digit n; are = refl; digits = tt; digit = digit-is n (ltb-true n 10 e) }
    by false e = record { front = []; last = digit (n % 10); are = refl; digits = tt; digit = digit_low n }
digits-ended (suc f) n = by (digits-ended f (n / 10)) (ltb n 10) refl
  where
    by : Ended (digits_in 10 (suc f) (n / 10)) → (b : Bool) → ltb n 10 ≡ b
        → Ended (elim b [ true ↦ digit n ∷ [] | false ↦ digits_in 10 (suc f) (n / 10) ++ (digit (n % 10) ∷ []) ])
    by h true e = record { front = []; last = digit n; are = refl; digits = tt; digit = digit-is n (ltb-true n 10 e) }
    by h false e =
        record {
          front = digits_in 10 (suc f) (n / 10);
          last = digit (n % 10);
          are = refl;
          digits = ended-digits (digits_in 10 (suc f) (n / 10)) h;
          digit = digit_low n;
        }

pub decimal-ended : (n : ℕ) → Ended (decimal n)
decimal-ended n = digits-ended 63 n

-- ---- a text that ends in no digit

abbrev pub Free : Text → Type 0
Free x = (nr : ℕ) → Apart x (chunk_name nr)

pub free-end : (a : Text) (b : ℕ) → 57 < b → Free (a ++ (b ∷ []))
free-end a b h nr =
    let e : Ended (decimal nr) = decimal-ended nr in
    let f : chunk_name nr ≡ (text "chunk" ++ e.front) ++ (e.last ∷ []) =
    ap (λ (t : Text). text "chunk" ++ t) e.are ∙ sym (append_assoc (text "chunk") e.front (e.last ∷ [])) in
    rw f (apart-ends a (b ∷ []) (text "chunk" ++ e.front) (e.last ∷ []) refl
    (ap (λ (t : Bool). t && true) (ne_eqb b e.last (λ g. omega (arith, g, e.digit.1)))))

pub free-ends : (a c : Text) (b : ℕ) → 57 < b → Free (a ++ (c ++ (b ∷ [])))
free-ends a c b h nr = subst (λ (t : Text). Apart t (chunk_name nr)) (append_assoc a c (b ∷ [])) (free-end (a ++ c) b h nr)

-- another first letter
pub raw-free : (m : Raw) (k : ℕ) → Free (raw_name m k)
raw-free Raw.Plain k nr = refl
raw-free Raw.Numbered k nr = refl

-- ---- a name that was read

digit-true : (d : ℕ) → Digit d → is_digit d ≡ true
unfolding is_digit
digit-true d h = rw (le-leb 48 d h.0, le-leb d 57 h.1)

digits-line : (a rest : Text) → Digits a → digits_line (a ++ (10 ∷ rest)) ≡ true
unfolding digits_line
digits-line [] rest h = refl
digits-line (d ∷ a) rest h = rw (digits_line, ne_eqb d 10 (λ e. omega (arith, e, h.0.0)), digit-true d h.0) (digits-line a rest h.1)

some-digits : (a rest : Text) → Ended a → some_digits (a ++ (10 ∷ rest)) ≡ true
unfolding some_digits
some-digits a rest e = by a (ended-digits a e) e.are
  where
    by : (b : Text) → Digits b → b ≡ e.front ++ (e.last ∷ []) → some_digits (b ++ (10 ∷ rest)) ≡ true
    by [] h f = absurd (nil e.front f)
      where
        nil : (c : Text) → ◌≡◌ {A = Text} [] (c ++ (e.last ∷ [])) → ⊥
        nil [] g = let z : ◌≡◌ {A = ℕ} 0 1 = cc in omega arith
        nil (x ∷ c) g = let z : ◌≡◌ {A = ℕ} 0 1 = cc in omega arith
    by (d ∷ b) h f = rw (some_digits, digit-true d h.0) (digits-line b rest h.1)

-- the word is up to the newline, and the part that is answered
pub record Word (r : Text) (start at : ℕ) (n : Part) : Type 0 where
  pub word : Text
  pub rest : Text
  pub are : r ≡ word ++ (10 ∷ rest)
  pub place : n ≡ part_of start (at + length word)
  -- it has no `>`
  pub arrowless : any (eqb 62) word ≡ false

abbrev WordOf : Text → ℕ → ℕ → Read Part → Type 0
WordOf r start at None = Unit {0}
WordOf r start at (Some (n, p)) = Word r start at n

word_byte : (x : ℕ) → is_word x ≡ true → eqb 62 x ≡ false
unfolding is_word is_digit
word_byte x e = ne_eqb 62 x (λ f. let g : is_word 62 ≡ true = ap is_word f ∙ e in impossible (cc))

word-is : (r : Text) (start k at : ℕ) → WordOf r start at (word_of r start k at)
unfolding word_of
word-is [] start k at = tt
word-is (x ∷ r) start k at = by (word-is r start (k + 1) (at + 1)) (eqb x 10) refl (eqb k 32) (is_word x) refl
  where
    more : is_word x ≡ true → (q : Read Part) → WordOf r start (at + 1) q → WordOf (x ∷ r) start at q
    more f None h = tt
    more f (Some (n, p)) h =
        record {
          word = x ∷ h.word;
          rest = h.rest;
          are = ap (λ (t : Text). x ∷ t) h.are;
          place = h.place ∙ ap (part_of start) (omega arith);
          arrowless = ap (λ (b : Bool). b || any (eqb 62) h.word) (word_byte x f) ∙ h.arrowless;
        }

    by : WordOf r start (at + 1) (word_of r start (k + 1) (at + 1)) → (b : Bool) → eqb x 10 ≡ b → (c d : Bool) → is_word x ≡ d
        → WordOf (x ∷ r) start at (elim b [
          | true ↦ Some (part_of start at, at + 1)
          | false ↦ elim c [
            | true ↦ None
            | false ↦ elim d [ true ↦ word_of r start (k + 1) (at + 1) | false ↦ None ]
          ]
        ])
    by h true e c d f =
        record { word = []; rest = r; are = ap (λ (y : ℕ). y ∷ r) (eqb-true x 10 e); place = ap (part_of start) (omega arith); arrowless = refl }
    by h false e true d f = tt
    by h false e false true f = more f (word_of r start (k + 1) (at + 1)) h
    by h false e false false f = tt

or-true : (a b : Bool) → b ≡ true → (a || b) ≡ true
or-true true b e = refl
or-true false b e = e

-- a line of `chunk` and a number is taken
taken-chunk : (s : Text) (at nr : ℕ) (rest : Text) → drop at s ≡ chunk_name nr ++ (10 ∷ rest) → is_forbidden s at ≡ true
unfolding is_forbidden key_of
taken-chunk s at nr rest e =
    let k : key_at s at (text "chunk") ≡ Some (at + 1 + 1 + 1 + 1 + 1) = found in
    let d : drop (at + 1 + 1 + 1 + 1 + 1) s ≡ decimal nr ++ (10 ∷ rest) =
    ap (λ (n : ℕ). drop n s) five ∙ sym (drop-drop 5 at s) ∙ ap (drop 5) e in
    or-true (is_found (key_at s at (text "span\n")) || is_found (key_at s at (text "output\n"))) _
    (ap (digits_behind s) k ∙ ap some_digits d ∙ some-digits (decimal nr) rest (decimal-ended nr))
  where
    five : at + 1 + 1 + 1 + 1 + 1 ≡ at + 5
    five = omega arith

    found : key_of (text "chunk") (drop at s) at ≡ Some (at + 1 + 1 + 1 + 1 + 1)
    found = ap (λ (r : Text). key_of (text "chunk") r at) e

abbrev FreeName : Text → Part → Type 0
FreeName s n = Free (part s n)

name-word : (r : Text) (at : ℕ) → WordOf r at at (name_of r at)
unfolding name_of
name-word [] at = tt
name-word (x ∷ r) at = by (is_digit x) (eqb x 10)
  where
    by : (b c : Bool) → WordOf (x ∷ r) at at (elim b [ true ↦ None | false ↦ elim c [ true ↦ None | false ↦ word_of (x ∷ r) at 0 at ] ])
    by true c = tt
    by false true = tt
    by false false = word-is (x ∷ r) at 0 at

part-word : (s : Text) (at : ℕ) (n : Part) (w : Word (drop at s) at at n) → part s n ≡ w.word
part-word s at n w =
    let m : (at + length w.word) - at ≡ length w.word = omega arith in
    ap (part s) w.place
    ∙ ap (λ (k : ℕ). take k (drop at s)) m
    ∙ ap (take (length w.word)) w.are
    ∙ take_at w.word (10 ∷ w.rest) (length w.word) refl

name_free : (s : Text) (at : ℕ) → NameIs (FreeName s) (name_at s at)
unfolding name_at
name_free s at = by (is_forbidden s at) refl
  where
    word : (q : Read Part) → is_forbidden s at ≡ false → WordOf (drop at s) at at q → NameIs (FreeName s) q
    word None e w = tt
    word (Some (n, p)) e w =
        let f : part s n ≡ w.word = part-word s at n w in
        λ nr.
        apart_by (part s n) (chunk_name nr)
        (λ g.
        let h : true ≡ false =
        sym (taken-chunk s at nr w.rest (w.are ∙ ap (λ (t : Text). t ++ (10 ∷ w.rest)) (sym f ∙ g))) ∙ e in
        let z : ◌≡◌ {A = ℕ} 0 1 = cc in
        omega arith)

    by : (b : Bool) → is_forbidden s at ≡ b → NameIs (FreeName s) (elim b [ true ↦ None | false ↦ name_of (drop at s) at ])
    by true e = tt
    by false e = word (name_of (drop at s) at) e (name-word (drop at s) at)

-- no name has a `>`
abbrev pub Arrowless : Text → Part → Type 0
Arrowless s n = any (eqb 62) (part s n) ≡ false

name-arrowless : (s : Text) (at : ℕ) → NameIs (Arrowless s) (name_at s at)
unfolding name_at
name-arrowless s at = by (is_forbidden s at)
  where
    word : (q : Read Part) → WordOf (drop at s) at at q → NameIs (Arrowless s) q
    word None w = tt
    word (Some (n, p)) w = ap (any (eqb 62)) (part-word s at n w) ∙ w.arrowless

    by : (b : Bool) → NameIs (Arrowless s) (elim b [ true ↦ None | false ↦ name_of (drop at s) at ])
    by true = tt
    by false = word (name_of (drop at s) at) (name-word (drop at s) at)

-- ---- every name of a record that can be read

abbrev pub DescFree : Text → FieldDesc → Type 0
DescFree s d = DescIs (FreeName s) d

abbrev pub FieldsFree : Text → List Field → Type 0
FieldsFree s fs = FieldsAre (FreeName s) fs

abbrev pub DeclarationsFree : Text → List Declaration → Type 0
DeclarationsFree s ds = DeclarationsAre (FreeName s) ds

abbrev pub RecordFree : Text → RecordRead → Type 0
RecordFree s r = RecordOk (FreeName s) r

pub record-free : (s : Text) → RecordFree s (read_record s)
record-free s = record-ok (FreeName s) s (name_free s)

pub record-arrowless : (s : Text) → RecordOk (Arrowless s) (read_record s)
record-arrowless s = record-ok (Arrowless s) s (name-arrowless s)
