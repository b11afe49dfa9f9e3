-- Fields that are read at one of two places whose rests say the same are read at the other (`field-as`, `fields-as`).
-- Assumes nothing.
use Rattle.std.specs.Prelude.{Option, Some, None}
use Rattle.definitions.specs.Record.{Read, key_at, is_found, on_found, on_read, number_line, name_line, named_width, scalar_at, size_at, count_at, element_size_at, fixed_scalar_at, fixed_enum_at, reserved_at, flag_at, typedef_at, one_array, array_rest, array_at, payload_at, body_at, padding_at, checksum_at, Kinds, choose, kinds, desc_at, cond_at, field_at, Fields, fields_are, no_fields, with_field, fields_at}
use mathlib.Core.Bool.{true, false}
use mathlib.Core.List.{List, [], ◌∷◌}
use mathlib.Core.Path.{◌≡◌, refl, ap, ◌∙◌, subst}
use Prim.Native.Nat.{ℕ, zero, suc, ◌≤◌, ◌<◌}
use native.Mathlib.Omega.{arith}
use lib.ListN.{length, drop}
use Rattle.definitions.specs.Bytes.{Text, text}
use Rattle.definitions.specs.declared.Part.{Part}
use Rattle.definitions.specs.declared.Modifier.{Modifier}
use Rattle.definitions.specs.declared.FieldDesc.{FieldDesc}
use Rattle.definitions.specs.declared.Condition.{Condition}
use Rattle.definitions.specs.declared.Field.{Field}
use Rattle.lengths.proofs.Booleans.{impossible}
use Rattle.alike.proofs.Same.{SamePart, SameMaybe, SameDesc, SameCond, SameField, SameFields}
use Rattle.alike.proofs.Rests.{LeftOut, is_out, start, inside, Rests, same_line}
use Rattle.alike.proofs.Leaves.{fits, FoundAs, To, key-there, not-out}
use Rattle.alike.proofs.Lines.{plain, Beyond, then-line, then-number, then-name, then-modifier, then-maybe-number, then-maybe-name}

-- a pair, and so pairs in pairs
◌&◌ : {A B : Type 0} → A → B → A × B
a & b = (a, b)

infixr 20 ◌&◌
module _ (out : LeftOut) (s t : Text) (n : ℕ) where
  abbrev DescAs : Read FieldDesc → Read FieldDesc → Type 0
  DescAs None r = Unit {0}
  DescAs (Some (d, p)) None = ⊥
  DescAs (Some (d, p)) (Some (e, q)) = SameDesc s t d e × Beyond out s t n p q

  abbrev CondAs : Read (Option Condition) → Read (Option Condition) → Type 0
  CondAs None r = Unit {0}
  CondAs (Some (c, p)) None = ⊥
  CondAs (Some (c, p)) (Some (d, q)) = SameCond s t c d × Beyond out s t n p q

  abbrev pub FieldAs : Read Field → Read Field → Type 0
  FieldAs None r = Unit {0}
  FieldAs (Some (x, p)) None = ⊥
  FieldAs (Some (x, p)) (Some (y, q)) = SameField s t x y × Beyond out s t n p q

  -- ---- the kinds of a field

  module _ (p q : ℕ) (k : Beyond out s t n p q) where
    -- a name under a key, and a width
    named-width : (key : Text) → plain key ≡ true → (desc : Part → ℕ → FieldDesc)
        → ((a b : Part) (m : ℕ) → SamePart s t a b → SameDesc s t (desc a m) (desc b m)) → DescAs (named_width key desc s p) (named_width key desc t q)
    named-width key c desc h =
        then-name out s t n DescAs None (λ x. tt) p q k key c _ _ λ a b i j e u.
        then-number out s t n DescAs None (λ x. tt) i j u (text "width=") refl _ _ λ m x y v. (h a b m e, v)

    scalar-as : DescAs (scalar_at s p) (scalar_at t q)
    unfolding scalar_at
    scalar-as = named-width (text "id=") refl FieldDesc.Scalar λ a b m e. SameDesc.scalar e

    size-as : DescAs (size_at s p) (size_at t q)
    unfolding size_at
    size-as = named-width (text "of=") refl FieldDesc.Size λ a b m e. SameDesc.size e

    count-as : DescAs (count_at s p) (count_at t q)
    unfolding count_at
    count-as = named-width (text "of=") refl FieldDesc.Count λ a b m e. SameDesc.count e

    element-size-as : DescAs (element_size_at s p) (element_size_at t q)
    unfolding element_size_at
    element-size-as = named-width (text "of=") refl FieldDesc.ElementSize λ a b m e. SameDesc.element_size e

    -- two names under two keys
    named-twice : (key more : Text) → plain key ≡ true → plain more ≡ true → (desc : Part → Part → FieldDesc)
        → ((a b c d : Part) → SamePart s t a b → SamePart s t c d → SameDesc s t (desc a c) (desc b d))
        → DescAs (on_read (name_line s p key) None λ a i. on_read (name_line s i more) None λ c x. Some (desc a c, x))
        (on_read (name_line t q key) None λ a i. on_read (name_line t i more) None λ c x. Some (desc a c, x))
    named-twice key more f g desc h =
        then-name out s t n DescAs None (λ x. tt) p q k key f _ _ λ a b i j e u.
        then-name out s t n DescAs None (λ x. tt) i j u more g _ _ λ c d x y o v. (h a b c d e o, v)

    fixed-enum-as : DescAs (fixed_enum_at s p) (fixed_enum_at t q)
    unfolding fixed_enum_at
    fixed-enum-as = named-twice (text "type=") (text "tag=") refl refl FieldDesc.FixedEnum λ a b c d e o. SameDesc.fixed_enum e o

    typedef-as : DescAs (typedef_at s p) (typedef_at t q)
    unfolding typedef_at
    typedef-as = named-twice (text "id=") (text "type=") refl refl FieldDesc.Typedef λ a b c d e o. SameDesc.typedef e o

    fixed-scalar-as : DescAs (fixed_scalar_at s p) (fixed_scalar_at t q)
    unfolding fixed_scalar_at
    fixed-scalar-as =
        then-number out s t n DescAs None (λ x. tt) p q k (text "width=") refl _ _ λ m i j u.
        then-number out s t n DescAs None (λ x. tt) i j u (text "value=") refl _ _ λ o x y v. (SameDesc.fixed_scalar, v)

    reserved-as : DescAs (reserved_at s p) (reserved_at t q)
    unfolding reserved_at
    reserved-as = then-number out s t n DescAs None (λ x. tt) p q k (text "width=") refl _ _ λ m i j u. (SameDesc.reserved, u)

    flag-as : DescAs (flag_at s p) (flag_at t q)
    unfolding flag_at
    flag-as = then-name out s t n DescAs None (λ x. tt) p q k (text "id=") refl _ _ λ a b i j e u. (SameDesc.flag e, u)

    checksum-as : DescAs (checksum_at s p) (checksum_at t q)
    unfolding checksum_at
    checksum-as = then-name out s t n DescAs None (λ x. tt) p q k (text "of=") refl _ _ λ a b i j e u. (SameDesc.checksum e, u)

    payload-as : DescAs (payload_at s p) (payload_at t q)
    unfolding payload_at
    payload-as = then-modifier out s t n DescAs None (λ x. tt) p q k (text "mod=") refl _ _ λ m i j u. (SameDesc.payload, u)

    padding-as : DescAs (padding_at s p) (padding_at t q)
    unfolding padding_at
    padding-as = then-number out s t n DescAs None (λ x. tt) p q k (text "bytes=") refl _ _ λ m i j u. (SameDesc.padding, u)

    body-as : DescAs (body_at s p) (body_at t q)
    body-as = (SameDesc.body, k)

    one-as : (a b : Part) (width : Option ℕ) (c d : Option Part) (m : Modifier) (size : Option ℕ) (i j : ℕ) → SamePart s t a b → SameMaybe s t c d
        → Beyond out s t n i j → DescAs (one_array a width c m size i) (one_array b width d m size j)
    one-as a b None c d m size i j e SameMaybe.none u = tt
    one-as a b None c d m size i j e (SameMaybe.some o) u = (SameDesc.array e (SameMaybe.some o), u)
    one-as a b (Some w) c d m size i j e SameMaybe.none u = (SameDesc.array e SameMaybe.none, u)
    one-as a b (Some w) c d m size i j e (SameMaybe.some o) u = tt

    array-as : DescAs (array_at s p) (array_at t q)
    unfolding array_at array_rest
    array-as =
        then-name out s t n DescAs None (λ x. tt) p q k (text "id=") refl _ _ λ a b p₁ q₁ e k₁.
        then-maybe-number out s t n DescAs None (λ x. tt) p₁ q₁ k₁ (text "width=") refl _ _ λ width p₂ q₂ k₂.
        then-maybe-name out s t n DescAs None (λ x. tt) p₂ q₂ k₂ (text "type=") refl _ _ λ c d p₃ q₃ o k₃.
        then-modifier out s t n DescAs None (λ x. tt) p₃ q₃ k₃ (text "mod=") refl _ _ λ m p₄ q₄ k₄.
        then-maybe-number out s t n DescAs None (λ x. tt) p₄ q₄ k₄ (text "count=") refl _ _ λ size i j u. one-as a b width c d m size i j e o u

  -- each line of the table of kinds, and its keys
  abbrev KindsAs : Kinds → Type 0
  KindsAs [] = Unit {0}
  KindsAs (x ∷ xs) = ((fits true x.0 ≡ true) × ((p q : ℕ) → Beyond out s t n p q → DescAs (x.1 s p) (x.1 t q))) × KindsAs xs

  module _ (p q : ℕ) (r : Rests out inside (drop p s) (drop q t)) (l : length (drop q t) ≤ n) where
    choose-as : (ks : Kinds) → KindsAs ks → DescAs (choose ks s (drop p s) p) (choose ks t (drop q t) q)
    choose-as [] k = tt
    choose-as (x ∷ ks) k = then-line out s t n DescAs p q r l x.0 k.0.0 _ _ (choose-as ks k.1) (x.1 s) (x.1 t) k.0.1

    desc-as : DescAs (desc_at s p) (desc_at t q)
    unfolding desc_at
    desc-as =
        choose-as kinds
        ((refl, scalar-as) & (refl, size-as) & (refl, count-as) & (refl, element-size-as) & (refl, fixed-scalar-as) & (refl, fixed-enum-as)
        & (refl, reserved-as) & (refl, flag-as) & (refl, typedef-as) & (refl, array-as) & (refl, payload-as) & (refl, body-as) & (refl, padding-as)
        & (refl, checksum-as) & tt)

  -- ---- a field: its kind, and `if`

  cond-as : (p q : ℕ) → Beyond out s t n p q → CondAs (cond_at s p) (cond_at t q)
  unfolding cond_at
  cond-as p q k = then-maybe-name out s t n CondAs None (λ x. tt) p q k (text "if=") refl _ _ by
    where
      by : (a b : Option Part) (i j : ℕ) → SameMaybe s t a b → Beyond out s t n i j
          → CondAs (on_found a (Some (None, i)) λ id. on_read (number_line s i (text "is=")) None λ v x. Some (Some (record { id = id; value = v }), x))
          (on_found b (Some (None, j)) λ id. on_read (number_line t j (text "is=")) None λ v x. Some (Some (record { id = id; value = v }), x))
      by a b i j SameMaybe.none u = (SameCond.none, u)
      by a b i j (SameMaybe.some e) u =
          then-number out s t n CondAs None (λ x. tt) i j u (text "is=") refl _ _ λ value x y v. (SameCond.some e, v)

  pub field-as : (p q : ℕ) → Rests out inside (drop p s) (drop q t) → length (drop q t) ≤ n → FieldAs (field_at s p) (field_at t q)
  unfolding field_at
  field-as p q r l = desc (desc_at s p) (desc_at t q) (desc-as p q r l)
    where
      is : ℕ → FieldDesc → Option Condition → ℕ → Read Field
      is at d c x = Some (record { key = at; desc = d; cond = c }, x)

      cond : (d e : FieldDesc) → SameDesc s t d e → (a b : Read (Option Condition)) → CondAs a b
          → FieldAs (on_read a None (is p d)) (on_read b None (is q e))
      cond d e h None b u = tt
      cond d e h (Some (c, i)) None u = absurd u
      cond d e h (Some (c, i)) (Some (o, j)) u = (record { desc = h; cond = u.0 }, u.1)

      desc : (a b : Read FieldDesc) → DescAs a b
          → FieldAs (on_read a None λ d i. on_read (cond_at s i) None (is p d))
          (on_read b None λ d i. on_read (cond_at t i) None (is q d))
      desc None b u = tt
      desc (Some (d, i)) None u = absurd u
      desc (Some (d, i)) (Some (e, j)) u = cond d e u.0 (cond_at s i) (cond_at t j) (cond-as i j u.1)

-- ---- the fields that follow one another

module _ (out : LeftOut) (s t : Text) where
  -- an answer at `q`: the fields `xs` of the first text, behind which is `i`
  pub record ReadFields (answer : Fields) (q : ℕ) (xs : List Field) (i : ℕ) : Type 0 where
    pub fields : List Field
    pub end : ℕ
    pub read : answer ≡ fields_are fields end
    pub same : SameFields s t xs fields
    pub rests : Rests out inside (drop i s) (drop end t)
    pub less : length (drop end t) ≤ length (drop q t)

  -- no field
  none-as : (f p q : ℕ) → Rests out inside (drop p s) (drop q t) → key_at s p (text "field=") ≡ None → ReadFields (fields_at t (suc f) q) q [] p
  unfolding fields_at
  none-as f p q r h = by (key_at s p (text "field=")) h (key_at t q (text "field=")) refl
      (key-there out s t (suc (length (drop q t))) false (text "field=") p q refl (record { rests = r; less = omega arith }))
    where
      by : (a : Option ℕ) → a ≡ None → (b : Option ℕ) → key_at t q (text "field=") ≡ b → FoundAs (To out s t (suc (length (drop q t))) inside) a b
          → ReadFields (fields_at t (suc f) q) q [] p
      by None e None g u =
          record {
            fields = [];
            end = q;
            read = ap (λ (a : Option ℕ). on_found a (fields_are [] q) λ x. on_read (field_at t q) no_fields λ y j. with_field y (fields_at t f j)) g;
            same = SameFields.done;
            rests = r;
            less = omega arith;
          }
      by None e (Some j) g u = absurd u
      by (Some i) e b g u = impossible (cc)

  -- one more
  more-as : (f p q : ℕ) (x y : Field) (xs : List Field) (j e : ℕ) → is_found (key_at s p (text "field=")) ≡ true → Rests out inside (drop p s) (drop q t)
      → field_at t q ≡ Some (y, j) → SameField s t x y → length (drop j t) < length (drop q t) → ReadFields (fields_at t f j) j xs e
      → ReadFields (fields_at t (suc f) q) q (x ∷ xs) e
  unfolding fields_at
  more-as f p q x y xs j e h r k c l w =
      by (key_at s p (text "field=")) h (key_at t q (text "field=")) refl
      (key-there out s t (suc (length (drop q t))) false (text "field=") p q refl (record { rests = r; less = omega arith }))
    where
      by : (a : Option ℕ) → is_found a ≡ true → (b : Option ℕ) → key_at t q (text "field=") ≡ b → FoundAs (To out s t (suc (length (drop q t))) inside) a b
          → ReadFields (fields_at t (suc f) q) q (x ∷ xs) e
      by (Some a) o (Some b) g u =
          record {
            fields = y ∷ w.fields;
            end = w.end;
            read = ap (λ (a : Option ℕ). on_found a (fields_are [] q) λ z. on_read (field_at t q) no_fields λ v d. with_field v (fields_at t f d)) g
                ∙ ap (λ (a : Read Field). on_read a no_fields λ v d. with_field v (fields_at t f d)) k ∙ ap (with_field y) w.read;
            same = SameFields.more c w.same;
            rests = w.rests;
            less = omega (arith, w.less);
          }
      by (Some a) o None g u = absurd u
      by None o b g u = impossible (cc)

  -- read at the first, where what follows them is no line that is left out, and so at the second with fuel enough
  pub fields-as : (f₁ f₂ p q : ℕ) (xs : List Field) (i : ℕ) → fields_at s f₁ p ≡ fields_are xs i → is_out out (drop i s) ≡ false
      → Rests out start (drop p s) (drop q t) → length (drop q t) < f₂ → ReadFields (fields_at t f₂ q) q xs i
  unfolding fields_at
  fields-as zero f₂ p q xs i e c r l = impossible (cc)
  fields-as (suc f₁) zero p q xs i e c r l = absurd (omega arith)
  fields-as (suc f₁) (suc f₂) p q xs i e c r l = first (key_at s p (text "field=")) refl (fields-as f₁ f₂) e
    where
      Later : Type 0
      Later = (p q : ℕ) (xs : List Field) (i : ℕ) → fields_at s f₁ p ≡ fields_are xs i → is_out out (drop i s) ≡ false
          → Rests out start (drop p s) (drop q t) → length (drop q t) < f₂ → ReadFields (fields_at t f₂ q) q xs i

      rest : Later → is_found (key_at s p (text "field=")) ≡ true → (x y : Field) (p₁ q₁ : ℕ) → field_at t q ≡ Some (y, q₁) → SameField s t x y
          → Beyond out s t (length (drop q t)) p₁ q₁ → (zs : Fields) → fields_at s f₁ p₁ ≡ zs → with_field x zs ≡ fields_are xs i
          → ReadFields (fields_at t (suc f₂) q) q xs i
      rest ih h x y p₁ q₁ g o k no_fields d z = impossible (cc)
      rest ih h x y p₁ q₁ g o k (fields_are zs a) d z =
          subst (λ (l : List Field). ReadFields (fields_at t (suc f₂) q) q l i) (let v : x ∷ zs ≡ xs = cc in v)
          (more-as f₂ p q x y zs q₁ i h (same_line (not-out out s p (text "field=") refl h) r) g o k.less
          (ih p₁ q₁ zs i (let v : fields_at s f₁ p₁ ≡ fields_are zs i = cc in v) c k.rests (omega (arith, k.less))))

      one : Later → is_found (key_at s p (text "field=")) ≡ true → (a b : Read Field) → field_at t q ≡ b → FieldAs out s t (length (drop q t)) a b
          → (on_read a no_fields λ x j. with_field x (fields_at s f₁ j)) ≡ fields_are xs i → ReadFields (fields_at t (suc f₂) q) q xs i
      one ih h None b g u z = impossible (cc)
      one ih h (Some (x, p₁)) None g u z = absurd u
      one ih h (Some (x, p₁)) (Some (y, q₁)) g u z = rest ih h x y p₁ q₁ g u.0 u.1 (fields_at s f₁ p₁) refl z

      first : (a : Option ℕ) → key_at s p (text "field=") ≡ a → Later
          → on_found a (fields_are [] p) (λ b. on_read (field_at s p) no_fields λ x j. with_field x (fields_at s f₁ j)) ≡ fields_are xs i
          → ReadFields (fields_at t (suc f₂) q) q xs i
      first None h ih z =
          subst (λ (l : List Field). ReadFields (fields_at t (suc f₂) q) q l i) (let v : [] ≡ xs = cc in v)
          (subst (ReadFields (fields_at t (suc f₂) q) q []) (let v : p ≡ i = cc in v)
          (none-as f₂ p q (same_line (ap (λ (a : ℕ). is_out out (drop a s)) (let v : p ≡ i = cc in v) ∙ c) r) h))
      first (Some b) h ih z =
          one ih (ap is_found h) (field_at s p) (field_at t q) refl
          (field-as out s t (length (drop q t)) p q (same_line (not-out out s p (text "field=") refl (ap is_found h)) r) (omega arith)) z
