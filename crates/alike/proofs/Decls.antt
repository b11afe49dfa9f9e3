-- Declarations that are read at one of two places whose rests say the same are read at the other (`decl-as`, `declarations-as`).
-- Assumes nothing.
use Rattle.std.specs.Prelude.{Option, Some, None}
use Rattle.definitions.specs.Record.{Read, key_at, is_found, on_found, on_read, on_fields, name_line, parented_at, packet_at, struct_at, enum_at, checksum_decl_at, custom_at, decl_at, field_at, Declaration, Fields, fields_are, no_fields, Declarations, declarations_are, no_declarations, with_field, fields_at, fields_behind, with_declaration, declarations_at}
use mathlib.Core.Bool.{Bool, true, false}
use mathlib.Core.List.{List, [], ◌∷◌, ◌++◌}
use mathlib.Core.Path.{◌≡◌, refl, sym, ap, ◌∙◌, subst}
use Prim.Native.String.{String}
use Prim.Native.Nat.{ℕ, zero, suc, ◌≤◌, ◌<◌}
use native.Mathlib.Omega.{arith}
use lib.Dec.{ltb}
use lib.ListN.{length, drop, length-drop, drop_of_length-le}
use borrow.Author.Tests.{ltb-true, ltb-false, lt-ltb, le-ltb}
use Rattle.definitions.specs.Bytes.{Text, text, pick}
use Rattle.definitions.specs.declared.Part.{Part}
use Rattle.definitions.specs.declared.Field.{Field}
use Rattle.definitions.specs.declared.DeclDesc.{DeclDesc}
use Rattle.definitions.specs.declared.Decl.{Decl}
use Rattle.lengths.proofs.Booleans.{impossible}
use Rattle.alike.proofs.Same.{SamePart, SameMaybe, SameFields, SameDeclDesc, SameDecl, SameDeclarations, Stating}
use Rattle.alike.proofs.Rests.{LeftOut, is_out, start, inside, Rests, same, same_line, nothing-out, shorter, left-too}
use Rattle.alike.proofs.Leaves.{key-begins, longer-key, not-out}
use Rattle.alike.proofs.Lines.{keeps, in-none, Beyond, then-line, then-number, then-name, then-bit, then-maybe-number, then-maybe-name, then-bits}
use Rattle.alike.proofs.Fields.{ReadFields, fields-as}

module _ (out : LeftOut) (s t : Text) (n : ℕ) where
  abbrev pub Declared : Decl → ℕ → Read Decl → Type 0
  Declared d p None = ⊥
  Declared d p (Some (e, q)) = SameDecl s t d e × (e.bits ≡ pick (keeps out) d.bits None) × Beyond out s t n p q

  -- nothing is asked where a line that is left out follows: an optional line that stands behind it is read in the second text alone
  abbrev pub DeclAs : Read Decl → Read Decl → Type 0
  DeclAs None r = Unit {0}
  DeclAs (Some (d, p)) r = is_out out (drop p s) ≡ false → Declared d p r

  -- ---- the kinds of a declaration; `at` and `to` are the declaration's places, `p` and `q` those behind its `decl` line

  module _ (at to p q : ℕ) (k : Beyond out s t n p q) where
    then-named : (f g : Part → ℕ → Read Decl) → ((a b : Part) (i j : ℕ) → SamePart s t a b → Beyond out s t n i j → DeclAs (f a i) (g b j))
        → DeclAs (on_read (name_line s p (text "name=")) None f) (on_read (name_line t q (text "name=")) None g)
    then-named f g h = then-name out s t n DeclAs None (λ x. tt) p q k (text "name=") refl f g h

    parented : (desc : Option Part → DeclDesc) → ((a b : Option Part) → SameMaybe s t a b → SameDeclDesc s t (desc a) (desc b))
        → DeclAs (parented_at desc s at p) (parented_at desc t to q)
    parented desc h =
        then-named _ _ λ a b p₁ q₁ e k₁.
        then-maybe-name out s t n DeclAs None (λ x. tt) p₁ q₁ k₁ (text "parent=") refl _ _ λ c d p₂ q₂ o k₂.
        then-bits out s t n DeclAs None (λ x. tt) p₂ q₂ k₂ _ _ (λ x z v. impossible (cc))
        λ x y i j z u v. (record { id = e; desc = h c d o }, z, u)

    packet-as : DeclAs (packet_at s at p) (packet_at t to q)
    unfolding packet_at
    packet-as = parented DeclDesc.Packet λ a b o. SameDeclDesc.packet o

    struct-as : DeclAs (struct_at s at p) (struct_at t to q)
    unfolding struct_at
    struct-as = parented DeclDesc.Struct λ a b o. SameDeclDesc.struct o

    enum-as : DeclAs (enum_at s at p) (enum_at t to q)
    unfolding enum_at
    enum-as =
        then-named _ _ λ a b p₁ q₁ e k₁.
        then-number out s t n DeclAs None (λ x. tt) p₁ q₁ k₁ (text "width=") refl _ _ λ width p₂ q₂ k₂.
        then-bit out s t n DeclAs None (λ x. tt) p₂ q₂ k₂ (text "open=") refl _ _ λ is_open p₃ q₃ k₃.
        then-bit out s t n DeclAs None (λ x. tt) p₃ q₃ k₃ (text "complete=") refl _ _ λ is_complete i j u v.
        (record { id = e; desc = SameDeclDesc.enum }, in-none out, u)

    checksum-as : DeclAs (checksum_decl_at s at p) (checksum_decl_at t to q)
    unfolding checksum_decl_at
    checksum-as =
        then-named _ _ λ a b p₁ q₁ e k₁.
        then-number out s t n DeclAs None (λ x. tt) p₁ q₁ k₁ (text "width=") refl _ _ λ width i j u v.
        (record { id = e; desc = SameDeclDesc.checksum }, in-none out, u)

    custom-as : DeclAs (custom_at s at p) (custom_at t to q)
    unfolding custom_at
    custom-as =
        then-named _ _ λ a b p₁ q₁ e k₁.
        then-maybe-number out s t n DeclAs None (λ x. tt) p₁ q₁ k₁ (text "width=") refl _ _ λ width i j u v.
        (record { id = e; desc = SameDeclDesc.custom }, in-none out, u)

  module _ (p q : ℕ) (r : Rests out inside (drop p s) (drop q t)) (l : length (drop q t) ≤ n) where
    pub decl-as : DeclAs (decl_at s p) (decl_at t q)
    unfolding decl_at
    decl-as =
        then-line out s t n DeclAs p q r l (text "decl=packet\n") refl _ _
        (then-line out s t n DeclAs p q r l (text "decl=struct\n") refl _ _
        (then-line out s t n DeclAs p q r l (text "decl=enum\n") refl _ _
        (then-line out s t n DeclAs p q r l (text "decl=checksum\n") refl _ _
        (then-line out s t n DeclAs p q r l (text "decl=custom\n") refl None None tt
        (λ i. custom_at s p i) (λ i. custom_at t q i) (custom-as p q))
        (λ i. checksum_decl_at s p i) (λ i. checksum_decl_at t q i) (checksum-as p q))
        (λ i. enum_at s p i) (λ i. enum_at t q i) (enum-as p q))
        (λ i. struct_at s p i) (λ i. struct_at t q i) (struct-as p q))
        (λ i. packet_at s p i) (λ i. packet_at t q i) (packet-as p q)

-- ---- where declarations are read, and behind the lines of one, is no line that is left out

decl-wrong : (s : Text) (p : ℕ) → is_found (key_at s p (text "decl=")) ≡ false → decl_at s p ≡ None
unfolding decl_at
decl-wrong s p e =
    rw (none "packet\n", none "struct\n", none "enum\n", none "checksum\n", none "custom\n")
  where
    none : (kind : String) → key_at s p (text "decl=" ++ text kind) ≡ None
    none kind = longer-key s p (text "decl=") (text kind) (sym (key-begins s p (text "decl=")) ∙ e)

decl-here : (s : Text) (p : ℕ) (d : Decl) (i : ℕ) → decl_at s p ≡ Some (d, i) → is_found (key_at s p (text "decl=")) ≡ true
decl-here s p d i e = by (is_found (key_at s p (text "decl="))) refl
  where
    by : (b : Bool) → is_found (key_at s p (text "decl=")) ≡ b → b ≡ true
    by true h = refl
    by false h = impossible (cc (decl-wrong s p h))

-- the declarations from one that was read on
abbrev onwards : Text → ℕ → ℕ → Declarations
onwards s f j = elim (ltb j (length s)) [ true ↦ declarations_at s f j | false ↦ declarations_are [] ]

abbrev fields_then : Text → ℕ → Decl → List Field → ℕ → Declarations
fields_then s f d xs j = with_declaration (record { decl = d; fields = xs }) (onwards s f j)

abbrev decl_then : Text → ℕ → Decl → ℕ → Declarations
decl_then s f d i = on_fields (fields_behind s d.desc i) no_declarations (fields_then s f d)

pub declarations-here : (s : Text) (f p : ℕ) (ds : List Declaration) → declarations_at s f p ≡ declarations_are ds → is_found (key_at s p (text "decl=")) ≡ true
unfolding declarations_at
declarations-here s zero p ds e = impossible (cc)
declarations-here s (suc f) p ds e = by (decl_at s p) refl e
  where
    by : (a : Read Decl) → decl_at s p ≡ a → on_read a no_declarations (decl_then s f) ≡ declarations_are ds → is_found (key_at s p (text "decl=")) ≡ true
    by (Some (d, i)) h g = decl-here s p d i h
    by None h g = impossible (cc)

module _ (out : LeftOut) (s : Text) where
  declarations-clear : (f p : ℕ) (ds : List Declaration) → declarations_at s f p ≡ declarations_are ds → is_out out (drop p s) ≡ false
  declarations-clear f p ds e = not-out out s p (text "decl=") refl (declarations-here s f p ds e)

  no-field-clear : (p : ℕ) (xs : List Field) (i : ℕ) → fields_are [] p ≡ fields_are xs i → is_out out (drop i s) ≡ false → is_out out (drop p s) ≡ false
  no-field-clear p xs i e c = subst (λ (a : ℕ). is_out out (drop a s) ≡ false) (let v : i ≡ p = cc in v) c

  -- a first field, or what follows where there is none
  fields-clear : (f p : ℕ) (xs : List Field) (i : ℕ) → fields_at s f p ≡ fields_are xs i → is_out out (drop i s) ≡ false → is_out out (drop p s) ≡ false
  unfolding fields_at
  fields-clear zero p xs i e c = impossible (cc)
  fields-clear (suc f) p xs i e c = by (key_at s p (text "field=")) refl e
    where
      by : (a : Option ℕ) → key_at s p (text "field=") ≡ a
          → on_found a (fields_are [] p) (λ b. on_read (field_at s p) no_fields λ x j. with_field x (fields_at s f j)) ≡ fields_are xs i
          → is_out out (drop p s) ≡ false
      by None h z = no-field-clear p xs i z c
      by (Some j) h z = not-out out s p (text "field=") refl (ap is_found h)

  behind-clear : (d : DeclDesc) (p : ℕ) (xs : List Field) (i : ℕ) → fields_behind s d p ≡ fields_are xs i → is_out out (drop i s) ≡ false
      → is_out out (drop p s) ≡ false
  unfolding fields_behind
  behind-clear (DeclDesc.Checksum width) p xs i e c = no-field-clear p xs i e c
  behind-clear (DeclDesc.CustomField width) p xs i e c = no-field-clear p xs i e c
  behind-clear (DeclDesc.Enum width is_open is_complete) p xs i e c = no-field-clear p xs i e c
  behind-clear (DeclDesc.Packet parent) p xs i e c = fields-clear (length s) p xs i e c
  behind-clear (DeclDesc.Struct parent) p xs i e c = fields-clear (length s) p xs i e c

  -- behind a declaration's fields
  onwards-clear : (f i : ℕ) (ds : List Declaration) → onwards s f i ≡ declarations_are ds → is_out out (drop i s) ≡ false
  onwards-clear f i ds e = by (ltb i (length s)) refl e
    where
      by : (b : Bool) → ltb i (length s) ≡ b → ◌≡◌ {A = Declarations} (elim b [ true ↦ declarations_at s f i | false ↦ declarations_are [] ]) (declarations_are ds)
          → is_out out (drop i s) ≡ false
      by true h z = declarations-clear f i ds z
      by false h z = rw (drop_of_length-le s (ltb-false i (length s) h)) (nothing-out out)

  -- and behind its other lines
  decl-clear : (f : ℕ) (d : Decl) (i : ℕ) (ds : List Declaration) → decl_then s f d i ≡ declarations_are ds → is_out out (drop i s) ≡ false
  decl-clear f d i ds e = fields (fields_behind s d.desc i) refl e
    where
      later : (xs : List Field) (a : ℕ) (b : Declarations) → onwards s f a ≡ b → with_declaration (record { decl = d; fields = xs }) b ≡ declarations_are ds
          → is_out out (drop a s) ≡ false
      later xs a no_declarations h z = impossible (cc)
      later xs a (declarations_are zs) h z = onwards-clear f a zs h

      fields : (b : Fields) → fields_behind s d.desc i ≡ b → on_fields b no_declarations (fields_then s f d) ≡ declarations_are ds
          → is_out out (drop i s) ≡ false
      fields no_fields h z = impossible (cc)
      fields (fields_are xs a) h z = behind-clear d.desc i xs a h (later xs a (onwards s f a) refl z)

-- ---- the declarations that follow one another

module _ (out : LeftOut) (s t : Text) where
  no-field-as : (p q : ℕ) (xs : List Field) (i : ℕ) → fields_are [] p ≡ fields_are xs i → is_out out (drop i s) ≡ false
      → Rests out start (drop p s) (drop q t) → ReadFields out s t (fields_are [] q) q xs i
  no-field-as p q xs i h c r =
      subst (λ (l : List Field). ReadFields out s t (fields_are [] q) q l i) (let v : [] ≡ xs = cc in v)
      (record {
        fields = [];
        end = q;
        read = refl;
        same = SameFields.done;
        rests = same_line c (subst (λ (a : ℕ). Rests out start (drop a s) (drop q t)) (let v : p ≡ i = cc in v) r);
        less = omega arith;
      })

  -- only a packet and a struct have fields
  behind-as : (d e : DeclDesc) → SameDeclDesc s t d e → (p q : ℕ) (xs : List Field) (i : ℕ) → fields_behind s d p ≡ fields_are xs i
      → is_out out (drop i s) ≡ false → Rests out start (drop p s) (drop q t) → length (drop q t) < length t
      → ReadFields out s t (fields_behind t e q) q xs i
  unfolding fields_behind
  behind-as d e SameDeclDesc.checksum p q xs i h c r l = no-field-as p q xs i h c r
  behind-as d e SameDeclDesc.custom p q xs i h c r l = no-field-as p q xs i h c r
  behind-as d e SameDeclDesc.enum p q xs i h c r l = no-field-as p q xs i h c r
  behind-as d e (SameDeclDesc.packet o) p q xs i h c r l = fields-as out s t (length s) (length t) p q xs i h c r l
  behind-as d e (SameDeclDesc.struct o) p q xs i h c r l = fields-as out s t (length s) (length t) p q xs i h c r l

  -- an answer: the declarations `ds` of the first text
  pub record ReadDeclarations (answer : Declarations) (ds : List Declaration) : Type 0 where
    pub declarations : List Declaration
    pub read : answer ≡ declarations_are declarations
    pub same : SameDeclarations s t ds declarations
    pub stating : Stating (keeps out) ds declarations

  -- a declaration, its fields, and those behind it
  module _ (f q : ℕ) (d e : Decl) (i j : ℕ) (g : decl_at t q ≡ Some (e, j)) (u : Declared out s t (length (drop q t)) d i (Some (e, j)))
      (xs : List Field) (a : ℕ) (w : ReadFields out s t (fields_behind t e.desc j) j xs a) where
    join : (zs : List Declaration) → ReadDeclarations (onwards t f w.end) zs
        → ReadDeclarations (declarations_at t (suc f) q) (record { decl = d; fields = xs } ∷ zs)
    unfolding declarations_at
    join zs v =
        record {
          declarations = record { decl = e; fields = w.fields } ∷ v.declarations;
          read = ap (λ (b : Read Decl). on_read b no_declarations (decl_then t f)) g
              ∙ ap (λ (b : Fields). on_fields b no_declarations (fields_then t f e)) w.read
              ∙ ap (with_declaration (record { decl = e; fields = w.fields })) v.read;
          same = SameDeclarations.more (record { decl = u.0; fields = w.same }) v.same;
          stating = Stating.more u.1 v.stating;
        }

    -- the last one
    ends : length s ≤ a → ReadDeclarations (onwards t f w.end) []
    ends h =
        let z : length t ≤ w.end = omega (arith, shorter w.rests, length-drop a s, length-drop w.end t) in
        record {
          declarations = [];
          read = ap (λ (b : Bool). elim b [ true ↦ declarations_at t f w.end | false ↦ declarations_are [] ]) (le-ltb w.end (length t) z);
          same = SameDeclarations.done;
          stating = Stating.done;
        }

    goes : a < length s → (zs : List Declaration) → ReadDeclarations (declarations_at t f w.end) zs → ReadDeclarations (onwards t f w.end) zs
    goes h zs v =
        let m : 0 < length (drop a s) = omega (arith, length-drop a s) in
        let z : w.end < length t = omega (arith, left-too w.rests m, length-drop w.end t) in
        record {
          declarations = v.declarations;
          read = ap (λ (b : Bool). elim b [ true ↦ declarations_at t f w.end | false ↦ declarations_are [] ]) (lt-ltb w.end (length t) z) ∙ v.read;
          same = v.same;
          stating = v.stating;
        }

  -- where declarations are read behind, they are read at the second
  abbrev Later : ℕ → ℕ → Type 0
  Later f₁ f₂ = (p q : ℕ) (ds : List Declaration) → declarations_at s f₁ p ≡ declarations_are ds → Rests out start (drop p s) (drop q t)
      → length (drop q t) < f₂ → ReadDeclarations (declarations_at t f₂ q) ds

  module _ (f₁ f₂ q : ℕ) (l : length (drop q t) < suc f₂) (ds : List Declaration) (ih : Later f₁ f₂) (d e : Decl) (i j : ℕ)
      (g : decl_at t q ≡ Some (e, j)) (u : Declared out s t (length (drop q t)) d i (Some (e, j))) (xs : List Field) (a : ℕ)
      (h : fields_behind s d.desc i ≡ fields_are xs a) where
    fields : is_out out (drop a s) ≡ false → ReadFields out s t (fields_behind t e.desc j) j xs a
    fields c = behind-as d.desc e.desc u.0.desc i j xs a h c u.2.rests (omega (arith, u.2.less, length-drop q t))

    later : a < length s → (b : Declarations) → declarations_at s f₁ a ≡ b → with_declaration (record { decl = d; fields = xs }) b ≡ declarations_are ds
        → ReadDeclarations (declarations_at t (suc f₂) q) ds
    later o no_declarations k z = impossible (cc)
    later o (declarations_are zs) k z =
        let c : is_out out (drop a s) ≡ false = declarations-clear out s f₁ a zs k in
        let w : ReadFields out s t (fields_behind t e.desc j) j xs a = fields c in
        subst (ReadDeclarations (declarations_at t (suc f₂) q)) (let v : record { decl = d; fields = xs } ∷ zs ≡ ds = cc in v)
        (join f₂ q d e i j g u xs a w zs
        (goes f₂ q d e i j g u xs a w o zs
        (ih a w.end zs k (same c w.rests) (omega (arith, w.less, u.2.less)))))

    last : (b : Bool) → ltb a (length s) ≡ b
        → with_declaration (record { decl = d; fields = xs }) (elim b [ true ↦ declarations_at s f₁ a | false ↦ declarations_are [] ]) ≡ declarations_are ds
        → ReadDeclarations (declarations_at t (suc f₂) q) ds
    last true k z = later (ltb-true a (length s) k) (declarations_at s f₁ a) refl z
    last false k z =
        let o : length s ≤ a = ltb-false a (length s) k in
        let w : ReadFields out s t (fields_behind t e.desc j) j xs a = fields (rw (drop_of_length-le s o) (nothing-out out)) in
        subst (ReadDeclarations (declarations_at t (suc f₂) q)) (let v : record { decl = d; fields = xs } ∷ [] ≡ ds = cc in v)
        (join f₂ q d e i j g u xs a w [] (ends f₂ q d e i j g u xs a w o))

  -- read at the first, and so at the second with fuel enough
  pub declarations-as : (f₁ f₂ p q : ℕ) (ds : List Declaration) → declarations_at s f₁ p ≡ declarations_are ds → Rests out start (drop p s) (drop q t)
      → length (drop q t) < f₂ → ReadDeclarations (declarations_at t f₂ q) ds
  unfolding declarations_at
  declarations-as zero f₂ p q ds e r l = impossible (cc)
  declarations-as (suc f₁) zero p q ds e r l = absurd (omega arith)
  declarations-as (suc f₁) (suc f₂) p q ds e r l =
      first (decl_at s p) refl (decl_at t q) refl
      (λ c. decl-as out s t (length (drop q t)) p q (same_line c r) (omega arith)) (declarations-as f₁ f₂) e
    where
      Result : Type 0
      Result = ReadDeclarations (declarations_at t (suc f₂) q) ds

      between : (d e : Decl) (i j : ℕ) → decl_at t q ≡ Some (e, j) → Declared out s t (length (drop q t)) d i (Some (e, j)) → Later f₁ f₂
          → (b : Fields) → fields_behind s d.desc i ≡ b → on_fields b no_declarations (fields_then s f₁ d) ≡ declarations_are ds → Result
      between d e i j g u ih no_fields h z = impossible (cc)
      between d e i j g u ih (fields_are xs a) h z = last f₁ f₂ q l ds ih d e i j g u xs a h (ltb a (length s)) refl z

      clear : (d : Decl) (i : ℕ) → decl_at s p ≡ Some (d, i) → is_out out (drop p s) ≡ false
      clear d i h = not-out out s p (text "decl=") refl (decl-here s p d i h)

      first : (a : Read Decl) → decl_at s p ≡ a → (b : Read Decl) → decl_at t q ≡ b
          → (is_out out (drop p s) ≡ false → DeclAs out s t (length (drop q t)) a b) → Later f₁ f₂
          → on_read a no_declarations (decl_then s f₁) ≡ declarations_are ds → Result
      first None h b g k ih z = impossible (cc)
      first (Some (d, i)) h None g k ih z = absurd (k (clear d i h) (decl-clear out s f₁ d i ds z))
      first (Some (d, i)) h (Some (e, j)) g k ih z =
          between d e i j g (k (clear d i h) (decl-clear out s f₁ d i ds z)) ih (fields_behind s d.desc i) refl z
