-- When a text is no keyword: by its end, and by the list of a record's names.
-- Assumes nothing.
use Rattle.std.specs.Prelude.{Option, Some, None}
use mathlib.Core.Bool.{Bool, true, false, ◌||◌}
use mathlib.Core.List.{List, [], ◌∷◌, ◌++◌, append_assoc}
use mathlib.Core.Path.{◌≡◌, refl, sym, ap, ◌∙◌, subst}
use Prim.Native.Nat.{ℕ, ◌-◌, ◌<◌}
use native.Mathlib.Omega.{arith}
use lib.Dec.{ltb, eqb}
use lib.ListN.{length, drop, length-append}
use lib.Seq.{drop_at}
use borrow.Author.Tests.{lt-ltb, ne_eqb}
use Rattle.definitions.specs.Bytes.{Text, text, pick, any, part, same, decimal}
use Rattle.definitions.specs.Keywords.{keywords, is_keyword}
use Rattle.definitions.specs.Record.{Declaration, record_is, read_record}
use Rattle.definitions.specs.Refusals.{maybe_name, desc_names, cond_names, field_names, decl_names, fields_names, declarations_names, record_names, any_keyword, keyword_name}
use Rattle.definitions.specs.Blocks.{raw, raw_name, chunk_name, prefix, named, bare, start_name}
use Rattle.definitions.specs.declared.Arrays.{Arrays}
use Rattle.definitions.specs.declared.Raw.{Raw}
use Rattle.definitions.specs.declared.Part.{Part}
use Rattle.definitions.specs.declared.Head.{Head}
use Rattle.definitions.specs.declared.FieldDesc.{FieldDesc}
use Rattle.definitions.specs.declared.Condition.{Condition}
use Rattle.definitions.specs.declared.Field.{Field}
use Rattle.lengths.proofs.Booleans.{impossible, neither}
use Rattle.lengths.proofs.Names.{MaybeIs, DescIs, CondIs, FieldsAre, DeclarationsAre, RecordOk}
use Rattle.meaning.specs.Identifiers.{behind_arrow}
use Rattle.meaning.proofs.Names.{same_self, apart_by}
use Rattle.meaning.proofs.ChunkNames.{Ended, decimal-ended, Arrowless, record-arrowless}

-- neither as it is written nor without its `output->`
pub record NotKeyword (t : Text) : Type 0 where
  pub whole : is_keyword t ≡ false
  pub behind : is_keyword (behind_arrow t) ≡ false

-- ---- by its end

-- the last n bytes
abbrev last : ℕ → Text → Text
last n w = drop (length w - n) w

-- what is behind a `>` keeps its end
arrowless-self : (e : Text) → any (eqb 62) e ≡ false → behind_arrow e ≡ e
arrowless-self [] h = refl
arrowless-self (x ∷ e) h =
    let k = neither (eqb 62 x) (any (eqb 62) e) h in
    ap (λ (b : Bool). pick b (behind_arrow e) (pick (eqb 62 x) e (x ∷ e))) k.1 ∙ ap (λ (b : Bool). pick b e (x ∷ e)) k.0

arrow-end : (a e : Text) → any (eqb 62) e ≡ false → (b : Text) × (behind_arrow (a ++ e) ≡ b ++ e)
arrow-end [] e h = ([], arrowless-self e h)
arrow-end (x ∷ a) e h = by (arrow-end a e h) (any (eqb 62) (a ++ e)) (eqb 62 x)
  where
    by : (b : Text) × (behind_arrow (a ++ e) ≡ b ++ e) → (c d : Bool)
        → (b : Text) × (pick c (behind_arrow (a ++ e)) (pick d (a ++ e) (x ∷ (a ++ e))) ≡ b ++ e)
    by k true d = k
    by k false true = (a, refl)
    by k false false = (x ∷ a, refl)

-- no keyword ends as e does, as far as the test f tells
module _ (f : Text → Bool) (e : Text) (is : f e ≡ true) (none : any (λ (w : Text). f (last (length e) w)) keywords ≡ false) where
  last-is : (a : Text) → last (length e) (a ++ e) ≡ e
  last-is a = drop_at a e (length (a ++ e) - length e) (omega (arith, length-append a e))

  none-same : (a : Text) (ws : List Text) → any (λ (w : Text). f (last (length e) w)) ws ≡ false → any (same (a ++ e)) ws ≡ false
  none-same a [] h = refl
  none-same a (w ∷ ws) h =
      let k = neither (f (last (length e) w)) (any (λ (v : Text). f (last (length e) v)) ws) h in
      ap (λ (b : Bool). b || any (same (a ++ e)) ws)
      (apart_by (a ++ e) w
      (λ g.
      let z : true ≡ false = sym is ∙ ap f (sym (last-is a)) ∙ ap (λ (v : Text). f (last (length e) v)) g ∙ k.0 in
      impossible (cc)))
      ∙ none-same a ws k.1

  by_end : (a : Text) → any (eqb 62) e ≡ false → NotKeyword (a ++ e)
  unfolding is_keyword
  by_end a h =
      let b = arrow-end a e h in
      record { whole = none-same a keywords none; behind = ap is_keyword b.1 ∙ none-same b.0 keywords none }

-- a keyword's last byte is a letter
abbrev low : Text → Bool
low [] = false
low (b ∷ t) = ltb b 97

low_end : (a : Text) (b : ℕ) → b < 97 → (62 ≡ b → ⊥) → NotKeyword (a ++ (b ∷ []))
unfolding keywords
low_end a b h k = by_end low (b ∷ []) (lt-ltb b 97 h) refl a (ap (λ (c : Bool). c || false) (ne_eqb 62 b k))

-- no keyword ends in e
ends-in : (a e : Text) → any (λ (w : Text). same e (last (length e) w)) keywords ≡ false → any (eqb 62) e ≡ false → NotKeyword (a ++ e)
ends-in a e h k = by_end (same e) e (same_self e) h a k

pub span-end : (id : Text) → NotKeyword (bare id (text "_span"))
unfolding keywords
span-end id = ends-in id (text "_span") refl refl

pub start-end : (id : Text) → NotKeyword (start_name id)
unfolding keywords
start-end id = ends-in id (text "_start_size") refl refl

-- ends in `_`
pub bare-free : (id end : Text) → NotKeyword (bare id (end ++ text "_"))
bare-free id end = subst NotKeyword (append_assoc id end (text "_")) (low_end (id ++ end) 95 (omega arith) (omega arith))

pub named-free : (m : Arrays) (id end : Text) → NotKeyword (named m id (end ++ text "_"))
named-free m id end =
    subst (λ (t : Text). NotKeyword (prefix m ++ t)) (append_assoc id end (text "_"))
    (subst NotKeyword (append_assoc (prefix m) (id ++ end) (text "_")) (low_end (prefix m ++ (id ++ end)) 95 (omega arith) (omega arith)))

-- ends in a digit
number-free : (a : Text) (n : ℕ) → NotKeyword (a ++ decimal n)
number-free a n =
    let e : Ended (decimal n) = decimal-ended n in
    let f : (a ++ e.front) ++ (e.last ∷ []) ≡ a ++ decimal n =
    append_assoc a e.front (e.last ∷ []) ∙ ap (λ (t : Text). a ++ t) (sym e.are) in
    subst NotKeyword f (low_end (a ++ e.front) e.last (omega (arith, e.digit.1)) (λ g. omega (arith, g, e.digit.1)))

pub chunk-free : (nr : ℕ) → NotKeyword (chunk_name nr)
chunk-free nr = number-free (text "chunk") nr

-- what a tested enum is held in
pub raw-free : NotKeyword raw
unfolding keywords is_keyword
raw-free = record { whole = refl; behind = refl }

pub tested-free : (m : Raw) (k : ℕ) → NotKeyword (raw_name m k)
tested-free Raw.Plain k = raw-free
tested-free Raw.Numbered k = number-free raw k

-- ---- from the list of a record's names

module _ {A : Type 0} (f : A → Bool) where
  pub any_append : (a b : List A) → any f (a ++ b) ≡ (any f a || any f b)
  any_append [] b = refl
  any_append (x ∷ a) b = by (any_append a b) (f x)
    where
      by : any f (a ++ b) ≡ (any f a || any f b) → (v : Bool) → (v || any f (a ++ b)) ≡ ((v || any f a) || any f b)
      by e true = refl
      by e false = e

  none-append : (a b : List A) → any f (a ++ b) ≡ false → (any f a ≡ false) × (any f b ≡ false)
  none-append a b e = neither (any f a) (any f b) (sym (any_append a b) ∙ e)

-- what holds of each name that fails the test f, and of which P holds
module _ (f : Part → Bool) (P Q : Part → Type 0) (holds : (n : Part) → f n ≡ false → P n → Q n) where
  one : (n : Part) → any f (n ∷ []) ≡ false → P n → Q n
  one n e h = holds n (neither (f n) false e).0 h

  two : (m n : Part) → any f (m ∷ n ∷ []) ≡ false → P m × P n → Q m × Q n
  two m n e h = let k = neither (f m) (any f (n ∷ [])) e in (holds m k.0 h.0, one n k.1 h.1)

  maybe-is : (n : Option Part) → any f (maybe_name n) ≡ false → MaybeIs P n → MaybeIs Q n
  maybe-is None e h = tt
  maybe-is (Some n) e h = one n e h

  desc-is : (d : FieldDesc) → any f (desc_names d) ≡ false → DescIs P d → DescIs Q d
  desc-is (FieldDesc.Checksum of) e h = one of e h
  desc-is (FieldDesc.Padding size) e h = tt
  desc-is (FieldDesc.Size of width) e h = one of e h
  desc-is (FieldDesc.Count of width) e h = one of e h
  desc-is (FieldDesc.ElementSize of width) e h = one of e h
  desc-is FieldDesc.Body e h = tt
  desc-is (FieldDesc.Payload modifier) e h = tt
  desc-is (FieldDesc.FixedScalar width value) e h = tt
  desc-is (FieldDesc.FixedEnum type tag) e h = two type tag e h
  desc-is (FieldDesc.Reserved width) e h = tt
  desc-is (FieldDesc.Array id width type modifier size) e h =
      let k = neither (f id) (any f (maybe_name type)) e in (holds id k.0 h.0, maybe-is type k.1 h.1)
  desc-is (FieldDesc.Scalar id width) e h = one id e h
  desc-is (FieldDesc.Flag id) e h = one id e h
  desc-is (FieldDesc.Typedef id type) e h = two id type e h

  cond-is : (c : Option Condition) → any f (cond_names c) ≡ false → CondIs P c → CondIs Q c
  cond-is None e h = tt
  cond-is (Some cond) e h = one cond.id e h

  fields-are : (fs : List Field) → any f (fields_names fs) ≡ false → FieldsAre P fs → FieldsAre Q fs
  fields-are [] e h = tt
  fields-are (x ∷ fs) e h =
      let k = none-append f (field_names x) (fields_names fs) e in
      let n = none-append f (desc_names x.desc) (cond_names x.cond) k.0 in
      ((desc-is x.desc n.0 h.0.0, cond-is x.cond n.1 h.0.1), fields-are fs k.1 h.1)

  declarations-are : (ds : List Declaration) → any f (declarations_names ds) ≡ false → DeclarationsAre P ds → DeclarationsAre Q ds
  declarations-are [] e h = tt
  declarations-are (d ∷ ds) e h =
      let k = none-append f (decl_names d.decl) (fields_names d.fields ++ declarations_names ds) e in
      let n = none-append f (fields_names d.fields) (declarations_names ds) k.1 in
      (fields-are d.fields n.0 h.0, declarations-are ds n.1 h.1)

-- of each name of a record that was read
module _ (s : Text) (h : Head) (ds : List Declaration) (r : read_record s ≡ record_is h ds) where
  pub names-are : (f : Part → Bool) (Q : Part → Type 0) → ((n : Part) → f n ≡ false → Arrowless s n → Q n) → any f (record_names h ds) ≡ false
      → DeclarationsAre Q ds
  names-are f Q holds e =
      declarations-are f (Arrowless s) Q holds ds (neither (f h.target) (any f (declarations_names ds)) e).1
      (subst (RecordOk (Arrowless s)) r (record-arrowless s))

  -- that it is no keyword
  pub all-usable : keyword_name s h ds ≡ false → DeclarationsAre (λ n. NotKeyword (part s n)) ds
  unfolding any_keyword
  all-usable e =
      names-are (λ n. is_keyword (part s n)) _ (λ n g k. record { whole = g; behind = ap is_keyword (arrowless-self (part s n) k) ∙ g }) e
