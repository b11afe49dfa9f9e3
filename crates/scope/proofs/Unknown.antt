-- The exits of the test for refusal 5 (`unknown_name`).
-- Assumes nothing.
use Rattle.std.specs.Prelude.{Option, Some, None}
use Prim.Native.Nat.{ℕ, zero, suc, ◌+◌, ◌*◌, ◌/◌, ◌<◌}
use mathlib.Core.Bool.{Bool, true, false, not, ◌||◌}
use mathlib.Core.List.{List, [], ◌∷◌, ◌++◌}
use mathlib.Core.Path.{◌≡◌, refl, sym, ap, ◌∙◌}
use native.Mathlib.Nat.{zero-add}
use native.Mathlib.Numerals.{add-one}
use native.Mathlib.Omega.{arith}
use lib.ListN.{get_or}
use Rattle.std.specs.List.{list_any, range_with_len}
use Rattle.definitions.specs.Bytes.{Text, any}
use Rattle.definitions.specs.Record.{Declaration, on_found}
use Rattle.definitions.specs.Sizes.{parent_id}
use Rattle.definitions.specs.Refusals.{find, is_frame, is_enum_desc, is_there, lacks, bad_name, bad_type, bad_names, unknown_from, unknown_name}
use Rattle.definitions.specs.declared.Part.{Part}
use Rattle.definitions.specs.declared.FieldDesc.{FieldDesc}
use Rattle.definitions.specs.declared.DeclDesc.{DeclDesc}
use Rattle.definitions.specs.declared.Field.{Field}
use Rattle.definitions.specs.declared.Decl.{Decl}
use Rattle.tables.specs.Tables.{field_here, decl_here, declaration_in, declarations_from, which, decls_from}
use Rattle.tables.proofs.FieldKinds.{kind_of, kind-read}
use Rattle.tables.proofs.Search.{find-which}
use Rattle.ranges.specs.Ranges.{bare}
use Rattle.scope.specs.Scopes.{bad_field_type}

-- ---- a field by the number of its kind

untyped : (s : Text) (earlier : List Declaration) (d : FieldDesc) → kind_of d < 10 → false ≡ bad_type s earlier d
untyped s earlier (FieldDesc.Checksum of) h = refl
untyped s earlier (FieldDesc.Padding size) h = refl
untyped s earlier (FieldDesc.Size of width) h = refl
untyped s earlier (FieldDesc.Count of width) h = refl
untyped s earlier (FieldDesc.ElementSize of width) h = refl
untyped s earlier FieldDesc.Body h = refl
untyped s earlier (FieldDesc.Payload modifier) h = refl
untyped s earlier (FieldDesc.FixedScalar width value) h = refl
untyped s earlier (FieldDesc.FixedEnum type tag) h = absurd (omega arith)
untyped s earlier (FieldDesc.Reserved width) h = refl
untyped s earlier (FieldDesc.Array id width type modifier size) h = absurd (omega arith)
untyped s earlier (FieldDesc.Scalar id width) h = refl
untyped s earlier (FieldDesc.Flag id) h = refl
untyped s earlier (FieldDesc.Typedef id type) h = absurd (omega arith)

module _ (s : Text) (earlier : List Declaration) (values : List ℕ) (at : ℕ) where
  pub type-none : {kind : ℕ} → kind ≡ get_or values (at / 16 * 17 + 1) 0 → kind < 10 → {b : Bool} → b ≡ false
      → b ≡ bad_field_type s earlier (field_here values at)
  type-none ek h eb = eb ∙ untyped s earlier (field_here values at).desc (omega (arith, kind-read values at))

-- ---- the look-up of a name

module _ (s rows : List ℕ) (n : ℕ) (ok : DeclDesc → Bool) (name : Part) {f : Option ℕ} (ef : f ≡ which s name 0 (decls_from rows 0 n)) where
  looked : {g : Option ℕ} → f ≡ g → lacks ok (find s (bare rows n) name) ≡ lacks ok (on_found g None λ j. Some (decl_here rows j).desc)
  looked h =
      ap (lacks ok) (find-which s rows [] [] name 0 n)
      ∙ ap (λ (g : Option ℕ). lacks ok (on_found g None λ j. Some (decl_here rows j).desc)) (sym ef ∙ h)

  pub lacks-none : f ≡ None → true ≡ lacks ok (find s (bare rows n) name)
  lacks-none h = sym (looked h)

  pub lacks-some : {i : ℕ} → f ≡ Some i → {d : Decl} → d ≡ decl_here rows i → {b : Bool} → b ≡ ok d.desc → not b ≡ lacks ok (find s (bare rows n) name)
  lacks-some h ed eb = ap not (eb ∙ ap (λ (d : Decl). ok d.desc) ed) ∙ sym (looked h)

-- ---- declarations that give the same look-ups

module _ (s : Text) (a b : List Declaration) (same : (name : Part) → find s a name ≡ find s b name) where
  name-like : (ok : DeclDesc → Bool) (m : Option Part) → bad_name s a ok m ≡ bad_name s b ok m
  name-like ok None = refl
  name-like ok (Some p) = ap (lacks ok) (same p)

  type-like : (d : FieldDesc) → bad_type s a d ≡ bad_type s b d
  type-like (FieldDesc.Checksum of) = refl
  type-like (FieldDesc.Padding size) = refl
  type-like (FieldDesc.Size of width) = refl
  type-like (FieldDesc.Count of width) = refl
  type-like (FieldDesc.ElementSize of width) = refl
  type-like FieldDesc.Body = refl
  type-like (FieldDesc.Payload modifier) = refl
  type-like (FieldDesc.FixedScalar width value) = refl
  type-like (FieldDesc.FixedEnum type tag) = name-like is_enum_desc (Some type)
  type-like (FieldDesc.Reserved width) = refl
  type-like (FieldDesc.Array id width type modifier size) = name-like is_there type
  type-like (FieldDesc.Scalar id width) = refl
  type-like (FieldDesc.Flag id) = refl
  type-like (FieldDesc.Typedef id type) = name-like is_there (Some type)

  types-like : (xs : List Field) → any (bad_field_type s a) xs ≡ any (bad_field_type s b) xs
  types-like [] = refl
  types-like (x ∷ xs) = rw (type-like x.desc, types-like xs)

  names-like : (d : Declaration) → bad_names s a d ≡ bad_names s b d
  names-like d = rw (name-like is_frame (parent_id d.decl.desc), types-like d.fields)

bare-names : (s rows values fields : List ℕ) (i : ℕ) (d : Declaration) → bad_names s (declarations_from rows values fields 0 i) d ≡ bad_names s (bare rows i) d
bare-names s rows values fields i d =
    names-like s (declarations_from rows values fields 0 i) (bare rows i)
    (λ name. find-which s rows values fields name 0 i ∙ sym (find-which s rows [] [] name 0 i)) d

-- ---- each declaration against those before it

one_more : (rows values fields : List ℕ) (i n : ℕ)
    → declarations_from rows values fields i n ++ (declaration_in rows values fields (i + n) ∷ []) ≡ declarations_from rows values fields i (suc n)
unfolding declarations_from
one_more rows values fields i zero = ap (λ (k : ℕ). declaration_in rows values fields k ∷ []) (let z : i + 0 ≡ i = omega arith in z)
one_more rows values fields i (suc n) =
    ap (λ (l : List Declaration). declaration_in rows values fields i ∷ l)
    (ap (λ (k : ℕ). declarations_from rows values fields (i + 1) n ++ (declaration_in rows values fields k ∷ []))
    (let z : i + suc n ≡ i + 1 + n = omega arith in z) ∙ one_more rows values fields (i + 1) n)

module _ (s rows values fields : List ℕ) where
  -- the declaration i by those before it
  abbrev pub is_unknown : ℕ → Bool
  is_unknown i = bad_names s (bare rows i) (declaration_in rows values fields i)

  snoc : (i : ℕ) → declarations_from rows values fields 0 i ++ (declaration_in rows values fields i ∷ []) ≡ declarations_from rows values fields 0 (i + 1)
  snoc i =
      ap (λ (k : ℕ). declarations_from rows values fields 0 i ++ (declaration_in rows values fields k ∷ [])) (sym (zero-add i))
      ∙ one_more rows values fields 0 i
      ∙ ap (declarations_from rows values fields 0) (sym (add-one i))

  from : (i m : ℕ)
      → list_any is_unknown (range_with_len i m) ≡ unknown_from s (declarations_from rows values fields 0 i) (declarations_from rows values fields i m)
  unfolding unknown_from declarations_from
  from i zero = refl
  from i (suc m) =
      ap (λ (b : Bool). b || list_any is_unknown (range_with_len (i + 1) m)) (sym (bare-names s rows values fields i (declaration_in rows values fields i)))
      ∙ ap (λ (b : Bool). bad_names s (declarations_from rows values fields 0 i) (declaration_in rows values fields i) || b)
      (from (i + 1) m ∙ ap (λ (l : List Declaration). unknown_from s l (declarations_from rows values fields (i + 1) m)) (sym (snoc i)))

  pub unknown-any : (n : ℕ) → list_any is_unknown (range_with_len 0 n) ≡ unknown_name s (declarations_from rows values fields 0 n)
  unfolding declarations_from
  unknown-any n = from 0 n
