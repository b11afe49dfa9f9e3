-- Every name of a record that can be read has at most 32 bytes: from the record reader, name by name.
-- Assumes nothing.
use Rattle.std.specs.Prelude.{Option, Some, None}
use Rattle.definitions.specs.Record.{Read, key_of, key_at, part_of, word_of, name_of, is_forbidden, name_at, on_found, on_read, on_fields, number_line, name_line, maybe_number_line, maybe_name_at, maybe_name_line, modifier_line, named_width, scalar_at, size_at, count_at, element_size_at, fixed_scalar_at, fixed_enum_at, reserved_at, flag_at, typedef_at, one_array, array_rest, array_at, payload_at, padding_at, checksum_at, Kinds, choose, kinds, desc_at, cond_at, field_at, head_at, decl_at, Declaration, Fields, fields_are, no_fields, Declarations, declarations_are, no_declarations, RecordRead, record_is, no_record, with_field, fields_at, fields_behind, with_declaration, declarations_at, with_head, read_record}
use mathlib.Core.Bool.{Bool, true, false}
use mathlib.Core.List.{List, [], ◌∷◌}
use mathlib.Core.Path.{◌≡◌, refl}
use Prim.Native.Nat.{ℕ, zero, suc, ◌+◌, ◌-◌, ◌≤◌}
use native.Mathlib.Decide.{dec_lt}
use native.Mathlib.Omega.{arith}
use lib.Dec.{ltb, eqb}
use lib.ListN.{length, drop, length-take}
use borrow.Author.Tests.{eqb-false}
use Rattle.definitions.specs.Bytes.{Text, text, part, is_digit, is_word}
use Rattle.definitions.specs.declared.Part.{Part}
use Rattle.definitions.specs.declared.Modifier.{Modifier}
use Rattle.definitions.specs.declared.Head.{Head}
use Rattle.definitions.specs.declared.FieldDesc.{FieldDesc}
use Rattle.definitions.specs.declared.Condition.{Condition}
use Rattle.definitions.specs.declared.Field.{Field}
use Rattle.definitions.specs.declared.DeclDesc.{DeclDesc}
use Rattle.definitions.specs.declared.Decl.{Decl}

-- a pair, and so pairs in pairs
◌&◌ : {A B : Type 0} → A → B → A × B
a & b = (a, b)

infixr 20 ◌&◌
-- ---- what holds of the names of a field holds of those of the record

module _ (P : Part → Type 0) where
  abbrev pub NameIs : Read Part → Type 0
  NameIs None = Unit {0}
  NameIs (Some (n, p)) = P n

  abbrev pub MaybeIs : Option Part → Type 0
  MaybeIs None = Unit {0}
  MaybeIs (Some n) = P n

  abbrev pub DescIs : FieldDesc → Type 0
  DescIs (FieldDesc.Checksum of) = P of
  DescIs (FieldDesc.Padding size) = Unit {0}
  DescIs (FieldDesc.Size of width) = P of
  DescIs (FieldDesc.Count of width) = P of
  DescIs (FieldDesc.ElementSize of width) = P of
  DescIs FieldDesc.Body = Unit {0}
  DescIs (FieldDesc.Payload modifier) = Unit {0}
  DescIs (FieldDesc.FixedScalar width value) = Unit {0}
  DescIs (FieldDesc.FixedEnum type tag) = P type × P tag
  DescIs (FieldDesc.Reserved width) = Unit {0}
  DescIs (FieldDesc.Array id width type modifier size) = P id × MaybeIs type
  DescIs (FieldDesc.Scalar id width) = P id
  DescIs (FieldDesc.Flag id) = P id
  DescIs (FieldDesc.Typedef id type) = P id × P type

  abbrev pub CondIs : Option Condition → Type 0
  CondIs None = Unit {0}
  CondIs (Some cond) = P cond.id

  abbrev pub FieldIs : Field → Type 0
  FieldIs f = DescIs f.desc × CondIs f.cond

  abbrev pub FieldsAre : List Field → Type 0
  FieldsAre [] = Unit {0}
  FieldsAre (f ∷ fs) = FieldIs f × FieldsAre fs

  abbrev pub DeclarationsAre : List Declaration → Type 0
  DeclarationsAre [] = Unit {0}
  DeclarationsAre (d ∷ ds) = FieldsAre d.fields × DeclarationsAre ds

  -- the answers of the readers

  abbrev MaybeRead : Read (Option Part) → Type 0
  MaybeRead None = Unit {0}
  MaybeRead (Some (n, p)) = MaybeIs n

  abbrev DescOk : Read FieldDesc → Type 0
  DescOk None = Unit {0}
  DescOk (Some (d, p)) = DescIs d

  abbrev CondOk : Read (Option Condition) → Type 0
  CondOk None = Unit {0}
  CondOk (Some (c, p)) = CondIs c

  abbrev FieldOk : Read Field → Type 0
  FieldOk None = Unit {0}
  FieldOk (Some (f, p)) = FieldIs f

  abbrev FieldsOk : Fields → Type 0
  FieldsOk no_fields = Unit {0}
  FieldsOk (fields_are fs p) = FieldsAre fs

  abbrev DeclarationsOk : Declarations → Type 0
  DeclarationsOk no_declarations = Unit {0}
  DeclarationsOk (declarations_are ds) = DeclarationsAre ds

  abbrev pub RecordOk : RecordRead → Type 0
  RecordOk no_record = Unit {0}
  RecordOk (record_is h ds) = DeclarationsAre ds

  -- on from an answer: where nothing was read, `bad` is as asked
  module _ {A : Type 0} (Q : A → Type 0) (bad : A) (b : Q bad) where
    on-found : (r : Option ℕ) (f : ℕ → A) → ((p : ℕ) → Q (f p)) → Q (on_found r bad f)
    on-found (Some p) f h = h p
    on-found None f h = b

    on-number : (r : Read ℕ) (f : ℕ → ℕ → A) → ((n p : ℕ) → Q (f n p)) → Q (on_read r bad f)
    on-number (Some (n, p)) f h = h n p
    on-number None f h = b

    on-name : (r : Read Part) (f : Part → ℕ → A) → NameIs r → ((n : Part) (p : ℕ) → P n → Q (f n p)) → Q (on_read r bad f)
    on-name (Some (n, p)) f k h = h n p k
    on-name None f k h = b

    on-modifier : (r : Read Modifier) (f : Modifier → ℕ → A) → ((n : Modifier) (p : ℕ) → Q (f n p)) → Q (on_read r bad f)
    on-modifier (Some (n, p)) f h = h n p
    on-modifier None f h = b

    on-maybe_number : (r : Read (Option ℕ)) (f : Option ℕ → ℕ → A) → ((n : Option ℕ) (p : ℕ) → Q (f n p)) → Q (on_read r bad f)
    on-maybe_number (Some (n, p)) f h = h n p
    on-maybe_number None f h = b

    on-maybe_part : (r : Read (Option Part)) (f : Option Part → ℕ → A) → MaybeRead r → ((n : Option Part) (p : ℕ) → MaybeIs n → Q (f n p)) → Q (on_read r bad f)
    on-maybe_part (Some (n, p)) f k h = h n p k
    on-maybe_part None f k h = b

  module _ (s : Text) (name : (at : ℕ) → NameIs (name_at s at)) where
    name-line : (at : ℕ) (key : Text) → NameIs (name_line s at key)
    unfolding name_line
    name-line at key = on-found NameIs None tt (key_at s at key) _ (λ p. name p)

    maybe-line : (at : ℕ) (key : Text) → MaybeRead (maybe_name_line s at key)
    unfolding maybe_name_line
    maybe-line at key = on-found MaybeRead None tt (key_at s at key) _ there
      where
        there : (p : ℕ) → MaybeRead (maybe_name_at s p)
        there p =
            on-found MaybeRead _
            (on-name MaybeRead None tt (name_at s p) (λ n q. Some (Some n, q)) (name p) (λ n q k. k))
            (key_at s p (text "-\n")) (λ q. Some (None, q)) (λ q. tt)

    -- a name under a key, and a number under another
    named-width : (at : ℕ) (key : Text) (desc : Part → ℕ → FieldDesc) → ((n : Part) (w : ℕ) → P n → DescIs (desc n w)) → DescOk (named_width key desc s at)
    named-width at key desc h =
        on-name DescOk None tt (name_line s at key) _ (name-line at key)
        (λ n p k. on-number DescOk None tt (number_line s p (text "width=")) _ (λ w q. h n w k))

    scalar-ok : (at : ℕ) → DescOk (scalar_at s at)
    unfolding scalar_at
    scalar-ok at = named-width at (text "id=") FieldDesc.Scalar (λ n w k. k)

    size_ok : (at : ℕ) → DescOk (size_at s at)
    unfolding size_at
    size_ok at = named-width at (text "of=") FieldDesc.Size (λ n w k. k)

    count-ok : (at : ℕ) → DescOk (count_at s at)
    unfolding count_at
    count-ok at = named-width at (text "of=") FieldDesc.Count (λ n w k. k)

    element_size-ok : (at : ℕ) → DescOk (element_size_at s at)
    unfolding element_size_at
    element_size-ok at = named-width at (text "of=") FieldDesc.ElementSize (λ n w k. k)

    fixed_scalar-ok : (at : ℕ) → DescOk (fixed_scalar_at s at)
    unfolding fixed_scalar_at
    fixed_scalar-ok at =
        on-number DescOk None tt (number_line s at (text "width=")) _
        (λ w p. on-number DescOk None tt (number_line s p (text "value=")) _ (λ n q. tt))

    -- two names under two keys
    named-twice : (at : ℕ) (key next : Text) (desc : Part → Part → FieldDesc) → ((m n : Part) → P m → P n → DescIs (desc m n))
        → DescOk (on_read (name_line s at key) None λ m p. on_read (name_line s p next) None λ n q. Some (desc m n, q))
    named-twice at key next desc h =
        on-name DescOk None tt (name_line s at key) _ (name-line at key)
        (λ m p j. on-name DescOk None tt (name_line s p next) _ (name-line p next) (λ n q k. h m n j k))

    fixed_enum-ok : (at : ℕ) → DescOk (fixed_enum_at s at)
    unfolding fixed_enum_at
    fixed_enum-ok at = named-twice at (text "type=") (text "tag=") FieldDesc.FixedEnum (λ m n j k. (j, k))

    typedef-ok : (at : ℕ) → DescOk (typedef_at s at)
    unfolding typedef_at
    typedef-ok at = named-twice at (text "id=") (text "type=") FieldDesc.Typedef (λ m n j k. (j, k))

    reserved-ok : (at : ℕ) → DescOk (reserved_at s at)
    unfolding reserved_at
    reserved-ok at = on-number DescOk None tt (number_line s at (text "width=")) _ (λ w p. tt)

    flag_ok : (at : ℕ) → DescOk (flag_at s at)
    unfolding flag_at
    flag_ok at = on-name DescOk None tt (name_line s at (text "id=")) _ (name-line at (text "id=")) (λ n p k. k)

    checksum-ok : (at : ℕ) → DescOk (checksum_at s at)
    unfolding checksum_at
    checksum-ok at = on-name DescOk None tt (name_line s at (text "of=")) _ (name-line at (text "of=")) (λ n p k. k)

    payload-ok : (at : ℕ) → DescOk (payload_at s at)
    unfolding payload_at
    payload-ok at = on-modifier DescOk None tt (modifier_line s at (text "mod=")) _ (λ m p. tt)

    padding-ok : (at : ℕ) → DescOk (padding_at s at)
    unfolding padding_at
    padding-ok at = on-number DescOk None tt (number_line s at (text "bytes=")) _ (λ n p. tt)

    one_ok : (id : Part) (w : Option ℕ) (t : Option Part) (m : Modifier) (c : Option ℕ) (p : ℕ) → P id → MaybeIs t → DescOk (one_array id w t m c p)
    one_ok id None None m c p j k = tt
    one_ok id None (Some t) m c p j k = (j, k)
    one_ok id (Some w) None m c p j k = (j, k)
    one_ok id (Some w) (Some t) m c p j k = tt

    array_ok : (at : ℕ) → DescOk (array_at s at)
    unfolding array_at array_rest
    array_ok at =
        on-name DescOk None tt (name_line s at (text "id=")) _ (name-line at (text "id="))
        (λ id p j.
        on-maybe_number DescOk None tt (maybe_number_line s p (text "width=")) _
        (λ w q.
        on-maybe_part DescOk None tt (maybe_name_line s q (text "type=")) _ (maybe-line q (text "type="))
        (λ t r k.
        on-modifier DescOk None tt (modifier_line s r (text "mod=")) _
        (λ m u. on-maybe_number DescOk None tt (maybe_number_line s u (text "count=")) _ (λ c v. one_ok id w t m c v j k)))))

    -- each reader of the table
    abbrev AllOk : Kinds → Type 0
    AllOk [] = Unit {0}
    AllOk (k ∷ ks) = ((p : ℕ) → DescOk (k.1 s p)) × AllOk ks

    choose-ok : (r : Text) (at : ℕ) (ks : Kinds) → AllOk ks → DescOk (choose ks s r at)
    choose-ok r at [] k = tt
    choose-ok r at (x ∷ ks) k = on-found DescOk _ (choose-ok r at ks k.1) (key_of x.0 r at) _ k.0

    desc-ok : (at : ℕ) → DescOk (desc_at s at)
    unfolding desc_at
    desc-ok at =
        choose-ok (drop at s) at kinds
        (scalar-ok & size_ok & count-ok & element_size-ok & fixed_scalar-ok & fixed_enum-ok & reserved-ok & flag_ok & typedef-ok & array_ok & payload-ok
        & (λ p. tt) & padding-ok & checksum-ok & tt)

    cond-ok : (at : ℕ) → CondOk (cond_at s at)
    unfolding cond_at
    cond-ok at = on-maybe_part CondOk None tt (maybe_name_line s at (text "if=")) _ (maybe-line at (text "if=")) by
      where
        by : (n : Option Part) (p : ℕ) → MaybeIs n
            → CondOk (on_found n (Some (None, p)) λ id.
            on_read (number_line s p (text "is=")) None λ value q. Some (Some (record { id = id; value = value }), q))
        by None p k = tt
        by (Some id) p k = on-number CondOk None tt (number_line s p (text "is=")) _ (λ v q. k)

    field-ok : (at : ℕ) → FieldOk (field_at s at)
    unfolding field_at
    field-ok at = desc (desc_at s at) (desc-ok at)
      where
        is : FieldDesc → Option Condition → ℕ → Read Field
        is d c q = Some (record { key = at; desc = d; cond = c }, q)

        cond : (d : FieldDesc) → DescIs d → (r : Read (Option Condition)) → CondOk r → FieldOk (on_read r None (is d))
        cond d h None k = tt
        cond d h (Some (c, q)) k = (h, k)

        desc : (r : Read FieldDesc) → DescOk r → FieldOk (on_read r None λ d p. on_read (cond_at s p) None (is d))
        desc None h = tt
        desc (Some (d, p)) h = cond d h (cond_at s p) (cond-ok p)

    with-field : (x : Field) (r : Fields) → FieldIs x → FieldsOk r → FieldsOk (with_field x r)
    with-field x (fields_are xs p) h k = (h, k)
    with-field x no_fields h k = tt

    fields-ok : (fuel at : ℕ) → FieldsOk (fields_at s fuel at)
    unfolding fields_at
    fields-ok zero at = tt
    fields-ok (suc fuel) at =
        on-found FieldsOk (fields_are [] at) tt (key_at s at (text "field=")) _ (λ p. by (λ q. fields-ok fuel q) (field_at s at) (field-ok at))
      where
        by : ((q : ℕ) → FieldsOk (fields_at s fuel q)) → (r : Read Field) → FieldOk r → FieldsOk (on_read r no_fields λ x q. with_field x (fields_at s fuel q))
        by more None h = tt
        by more (Some (x, q)) h = with-field x (fields_at s fuel q) h (more q)

    behind-ok : (d : DeclDesc) (at : ℕ) → FieldsOk (fields_behind s d at)
    unfolding fields_behind
    behind-ok (DeclDesc.Checksum width) at = tt
    behind-ok (DeclDesc.CustomField width) at = tt
    behind-ok (DeclDesc.Enum width is_open is_complete) at = tt
    behind-ok (DeclDesc.Packet parent) at = fields-ok (length s) at
    behind-ok (DeclDesc.Struct parent) at = fields-ok (length s) at

    with-declaration : (d : Declaration) (r : Declarations) → FieldsAre d.fields → DeclarationsOk r → DeclarationsOk (with_declaration d r)
    with-declaration d (declarations_are ds) h k = (h, k)
    with-declaration d no_declarations h k = tt

    declarations-ok : (fuel at : ℕ) → DeclarationsOk (declarations_at s fuel at)
    unfolding declarations_at
    declarations-ok zero at = tt
    declarations-ok (suc fuel) at = decl (λ q. declarations-ok fuel q) (decl_at s at)
      where
        later : ℕ → Declarations
        later q = elim (ltb q (length s)) [ true ↦ declarations_at s fuel q | false ↦ declarations_are [] ]

        end : ((q : ℕ) → DeclarationsOk (declarations_at s fuel q)) → (q : ℕ) (b : Bool)
            → DeclarationsOk (elim b [ true ↦ declarations_at s fuel q | false ↦ declarations_are [] ])
        end more q true = more q
        end more q false = tt

        fields : ((q : ℕ) → DeclarationsOk (declarations_at s fuel q)) → (d : Decl) (r : Fields) → FieldsOk r
            → DeclarationsOk (on_fields r no_declarations λ xs q. with_declaration (record { decl = d; fields = xs }) (later q))
        fields more d no_fields h = tt
        fields more d (fields_are xs q) h = with-declaration (record { decl = d; fields = xs }) (later q) h (end more q (ltb q (length s)))

        decl : ((q : ℕ) → DeclarationsOk (declarations_at s fuel q)) → (r : Read Decl)
            → DeclarationsOk (on_read r no_declarations λ d p.
            on_fields (fields_behind s d.desc p) no_declarations λ xs q. with_declaration (record { decl = d; fields = xs }) (later q))
        decl more None = tt
        decl more (Some (d, p)) = fields more d (fields_behind s d.desc p) (behind-ok d.desc p)

    pub record-ok : RecordOk (read_record s)
    unfolding read_record
    record-ok = by (head_at s 0)
      where
        with-head : (h : Head) (r : Declarations) → DeclarationsOk r → RecordOk (with_head h r)
        with-head h (declarations_are ds) k = k
        with-head h no_declarations k = tt

        by : (r : Read Head) → RecordOk (on_read r no_record λ h p. with_head h (declarations_at s (length s) p))
        by None = tt
        by (Some (h, p)) = with-head h (declarations_at s (length s) p) (declarations-ok (length s) p)

-- ---- a name's bytes

abbrev pub ShortName : Text → Part → Type 0
ShortName s n = length (part s n) ≤ 32

part-short : (s : Text) (n : Part) → n.end - n.start ≤ 32 → ShortName s n
part-short s n h = simp length-take (omega (arith, h))

-- k bytes went before
word-short : (s r : Text) (start k at : ℕ) → at ≡ start + k → k ≤ 32 → NameIs (ShortName s) (word_of r start k at)
unfolding word_of
word-short s [] start k at e h = tt
word-short s (x ∷ r) start k at e h = by (λ g. word-short s r start (k + 1) (at + 1) (omega (arith, e)) g) (eqb x 10) (eqb k 32) refl (is_word x)
  where
    by : (k + 1 ≤ 32 → NameIs (ShortName s) (word_of r start (k + 1) (at + 1))) → (b c : Bool) → eqb k 32 ≡ c → (d : Bool)
        → NameIs (ShortName s) (elim b [
          | true ↦ Some (part_of start at, at + 1)
          | false ↦ elim c [
            | true ↦ None
            | false ↦ elim d [ true ↦ word_of r start (k + 1) (at + 1) | false ↦ None ]
          ]
        ])
    by more true c f d = part-short s (part_of start at) (omega (arith, e, h))
    by more false true f d = tt
    by more false false f true = more (below (eqb-false k 32 f))
      where
        below : (k ≡ 32 → ⊥) → k + 1 ≤ 32
        below g = elim (dec_lt k 32) [ yes w ↦ omega arith | no w ↦ absurd (g (omega arith)) ]
    by more false false f false = tt

name-short : (s : Text) (at : ℕ) → NameIs (ShortName s) (name_at s at)
unfolding name_at name_of
name-short s at = by (is_forbidden s at)
  where
    word : (r : Text) → NameIs (ShortName s) (name_of r at)
    word [] = tt
    word (x ∷ r) = first (is_digit x) (eqb x 10)
      where
        first : (b c : Bool)
            → NameIs (ShortName s) (elim b [ true ↦ None | false ↦ elim c [ true ↦ None | false ↦ word_of (x ∷ r) at 0 at ] ])
        first true c = tt
        first false true = tt
        first false false = word-short s (x ∷ r) at 0 at (omega arith) (omega arith)

    by : (b : Bool) → NameIs (ShortName s) (elim b [ true ↦ None | false ↦ name_of (drop at s) at ])
    by true = tt
    by false = word (drop at s)

pub names-short : (s : Text) → RecordOk (ShortName s) (read_record s)
names-short s = record-ok (ShortName s) s (name-short s)
