-- Names that are the same text pass the same tests: of one name against another, of a payload's name, and of what a field names.
-- Assumes nothing.
use Rattle.std.specs.Prelude.{Option, Some, None}
use mathlib.Core.Path.{◌≡◌, refl}
use mathlib.Core.List.{List}
use mathlib.Core.Bool.{Bool, ◌||◌}
use Prim.Native.Nat.{ℕ}
use Rattle.definitions.specs.Bytes.{Text, any}
use Rattle.definitions.specs.Record.{Declaration}
use Rattle.definitions.specs.Sizes.{same_name, is_payload_id, reference, is_payload_size, is_array_size, is_element_size, any_reference, has_payload_size, has_array_size}
use Rattle.definitions.specs.declared.Part.{Part}
use Rattle.definitions.specs.declared.FieldDesc.{FieldDesc}
use Rattle.definitions.specs.declared.Field.{Field}
use Rattle.definitions.specs.declared.Reference.{Reference}
use Rattle.alike.proofs.Same.{SamePart, SameDesc, SameField, SameFields, SameDeclaration, SameDeclarations}

pub same_or : (a b c d : Bool) → a ≡ b → c ≡ d → (a || c) ≡ (b || d)
same_or a b c d e f = cc

module _ (s t : Text) where
  pub same-name : (a b c d : Part) → SamePart s t a b → SamePart s t c d → same_name s a c ≡ same_name t b d
  same-name a b c d p q = cc

  pub same-payload-id : (a b : Part) → SamePart s t a b → is_payload_id s a ≡ is_payload_id t b
  same-payload-id a b p = cc

  -- ---- a test over lists

  pub any_field : (f g : Field → Bool) → ((x y : Field) → SameField s t x y → f x ≡ g y) → {fs gs : List Field} → SameFields s t fs gs → any f fs ≡ any g gs
  any_field f g h SameFields.done = refl
  any_field f g h (SameFields.more {f = x} {g = y} {fs} {gs} k ks) = same_or (f x) (g y) (any f fs) (any g gs) (h x y k) (any_field f g h ks)

  pub any-declaration : (f g : Declaration → Bool) → ((x y : Declaration) → SameDeclaration s t x y → f x ≡ g y)
      → {ds es : List Declaration} → SameDeclarations s t ds es → any f ds ≡ any g es
  any-declaration f g h SameDeclarations.done = refl
  any-declaration f g h (SameDeclarations.more {d = x} {e = y} {ds} {es} k ks) =
      same_or (f x) (g y) (any f ds) (any g es) (h x y k) (any-declaration f g h ks)

  -- ---- what a field names

  pub data SameReference : Option Reference → Option Reference → Type 0 where
    none : SameReference None None
    size : {a b : Part} {width : ℕ} → SamePart s t a b → SameReference (Some (Reference.Size a width)) (Some (Reference.Size b width))
    count : {a b : Part} → SamePart s t a b → SameReference (Some (Reference.Count a)) (Some (Reference.Count b))
    element_size : {a b : Part} → SamePart s t a b → SameReference (Some (Reference.ElementSize a)) (Some (Reference.ElementSize b))

  pub same-reference : {d e : FieldDesc} → SameDesc s t d e → SameReference (reference d) (reference e)
  same-reference (SameDesc.checksum p) = SameReference.none
  same-reference SameDesc.padding = SameReference.none
  same-reference (SameDesc.size p) = SameReference.size p
  same-reference (SameDesc.count p) = SameReference.count p
  same-reference (SameDesc.element_size p) = SameReference.element_size p
  same-reference SameDesc.body = SameReference.none
  same-reference SameDesc.payload = SameReference.none
  same-reference SameDesc.fixed_scalar = SameReference.none
  same-reference (SameDesc.fixed_enum p q) = SameReference.none
  same-reference SameDesc.reserved = SameReference.none
  same-reference (SameDesc.array p q) = SameReference.none
  same-reference (SameDesc.scalar p) = SameReference.none
  same-reference (SameDesc.flag p) = SameReference.none
  same-reference (SameDesc.typedef p q) = SameReference.none

  same-payload-size : {r q : Option Reference} → SameReference r q → is_payload_size s r ≡ is_payload_size t q
  same-payload-size SameReference.none = refl
  same-payload-size (SameReference.size {a} {b} p) = same-payload-id a b p
  same-payload-size (SameReference.count p) = refl
  same-payload-size (SameReference.element_size p) = refl

  same-array-size : (id jd : Part) → SamePart s t id jd → {r q : Option Reference} → SameReference r q → is_array_size s id r ≡ is_array_size t jd q
  same-array-size id jd k SameReference.none = refl
  same-array-size id jd k (SameReference.size {a} {b} p) = same-name a b id jd p k
  same-array-size id jd k (SameReference.count {a} {b} p) = same-name a b id jd p k
  same-array-size id jd k (SameReference.element_size p) = refl

  same-element-size : (id jd : Part) → SamePart s t id jd → {r q : Option Reference} → SameReference r q → is_element_size s id r ≡ is_element_size t jd q
  same-element-size id jd k SameReference.none = refl
  same-element-size id jd k (SameReference.size p) = refl
  same-element-size id jd k (SameReference.count p) = refl
  same-element-size id jd k (SameReference.element_size {a} {b} p) = same-name a b id jd p k

  any-reference : (f g : Option Reference → Bool) → ((r q : Option Reference) → SameReference r q → f r ≡ g q)
      → {fs gs : List Field} → SameFields s t fs gs → any_reference f fs ≡ any_reference g gs
  any-reference f g h ks =
      any_field (λ (x : Field). f (reference x.desc)) (λ (x : Field). g (reference x.desc)) (λ x y k. h _ _ (same-reference k.desc)) ks

  pub has-payload-size : {fs gs : List Field} → SameFields s t fs gs → has_payload_size s fs ≡ has_payload_size t gs
  has-payload-size ks = any-reference (is_payload_size s) (is_payload_size t) (λ r q k. same-payload-size k) ks

  pub has-array-size : {fs gs : List Field} → SameFields s t fs gs → (id jd : Part) → SamePart s t id jd → has_array_size s fs id ≡ has_array_size t gs jd
  has-array-size ks id jd p = any-reference (is_array_size s id) (is_array_size t jd) (λ r q k. same-array-size id jd p k) ks

  pub has-element-size : {fs gs : List Field} → SameFields s t fs gs → (id jd : Part) → SamePart s t id jd
      → any_reference (is_element_size s id) fs ≡ any_reference (is_element_size t jd) gs
  has-element-size ks id jd p = any-reference (is_element_size s id) (is_element_size t jd) (λ r q k. same-element-size id jd p k) ks
