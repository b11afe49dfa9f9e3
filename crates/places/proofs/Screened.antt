-- What the reader finds, one field or one declaration at a time (`screen_fields`, `decl_read`, `screen_decls`).
-- Assumes nothing.
use Rattle.std.specs.Prelude.{Option, Some, None, Result, Ok, Err}
use Rattle.definitions.specs.Record.{Read, on_read, on_fields, decl_at, fields_at, fields_behind, declarations_at, Fields, fields_are, no_fields, with_field, Declaration, Declarations, declarations_are, no_declarations, with_declaration}
use Prim.Native.Nat.{ℕ, suc, ◌+◌, ◌≤◌, ◌<◌}
use mathlib.Core.Bool.{Bool, true, false, ◌||◌}
use mathlib.Core.List.{List, [], ◌∷◌, ◌++◌, append_assoc}
use mathlib.Core.Path.{◌≡◌, refl, sym, ap, ◌∙◌}
use native.Mathlib.Nat.{zero-add}
use native.Mathlib.Omega.{arith}
use borrow.Author.Tests.{lt-ltb, le-ltb}
use lib.ListN.{length}
use Rattle.definitions.specs.Bytes.{Text, pick}
use Rattle.definitions.specs.Refusals.{any_keyword, field_names, decl_names, fields_names, declarations_names, is_frame}
use Rattle.definitions.specs.declared.Part.{Part}
use Rattle.definitions.specs.declared.Field.{Field}
use Rattle.definitions.specs.declared.Decl.{Decl}
use Rattle.definitions.specs.declared.Refusal.{Refusal}
use Rattle.definitions.specs.declared.DeclDesc.{DeclDesc}
use Rattle.keywords.specs.Screens.{screen_field, screen_decl}
use Rattle.keywords.proofs.Names.{keyword-append}
use Rattle.places.specs.Places.{framed_fields, declarations_behind, counted, screen_fields, decl_read, screen_decls}

or-true : (a : Bool) → (a || true) ≡ true
or-true true = refl
or-true false = refl

or-first : (a b c : Bool) → (a || b) ≡ true → (a || (b || c)) ≡ true
or-first true b c e = refl
or-first false true c e = refl
or-first false false c e = absurd (let z : ◌≡◌ {A = ℕ} 0 1 = cc in omega arith)

or-second : (a b : Bool) → (a || b) ≡ false → b ≡ false
or-second true b e = absurd (let z : ◌≡◌ {A = ℕ} 0 1 = cc in omega arith)
or-second false b e = e

-- a keyword in the first part, or the answer of the second
keyword-first : (s : Text) (a b : List Part) → any_keyword s a ≡ true → any_keyword s (a ++ b) ≡ true
keyword-first s a b e = keyword-append s a b ∙ ap (λ (k : Bool). k || any_keyword s b) e

keyword-behind : (s : Text) (a b : List Part) → any_keyword s a ≡ false → any_keyword s (a ++ b) ≡ any_keyword s b
keyword-behind s a b e = keyword-append s a b ∙ ap (λ (k : Bool). k || any_keyword s b) e

-- the declarations from the record's end on, and from a place before it
module _ (s : Text) (fuel at : ℕ) where
  pub behind-end : length s ≤ at → declarations_behind s fuel at ≡ declarations_are []
  behind-end h = rw (declarations_behind, le-ltb at (length s) h)

  pub behind_more : at < length s → declarations_behind s fuel at ≡ declarations_at s fuel at
  behind_more h = rw (declarations_behind, lt-ltb at (length s) h)

-- ---- one field

-- the fields from it on, by what its reader hands out
abbrev pub fields_on : Text → Bool → ℕ → ℕ → Read (Option Field) → Read (Option ℕ)
fields_on s kept n fuel (Some (Some x, q)) = screen_fields s kept (n + 1) (fields_at s fuel q)
fields_on s kept n fuel (Some (None, q)) = screen_fields s true (n + 1) (fields_at s fuel q)
fields_on s kept n fuel None = None

module _ (s : Text) (kept : Bool) (n fuel : ℕ) where
  field-free : (x : Field) → any_keyword s (field_names x) ≡ false → (r : Fields) → screen_fields s kept n (with_field x r) ≡ screen_fields s kept (n + 1) r
  field-free x e (fields_are xs p) =
      ap (λ (k : Bool). counted (kept || k) (n + suc (length xs)) p) (keyword-behind s (field_names x) (fields_names xs) e)
      ∙ ap (λ (m : ℕ). counted (kept || any_keyword s (fields_names xs)) m p) (omega arith)
  field-free x e no_fields = refl

  field-keyword : (x : Field) → any_keyword s (field_names x) ≡ true → (r : Fields) → screen_fields s kept n (with_field x r) ≡ screen_fields s true (n + 1) r
  field-keyword x e (fields_are xs p) =
      ap (λ (k : Bool). counted k (n + suc (length xs)) p)
      (ap (λ (k : Bool). kept || k) (keyword-first s (field_names x) (fields_names xs) e) ∙ or-true kept)
  field-keyword x e no_fields = refl

  pub fields-step : (g : Read Field)
      → screen_fields s kept n (on_read g no_fields λ x q. with_field x (fields_at s fuel q)) ≡ fields_on s kept n fuel (screen_field s g)
  fields-step (Some (x, q)) = by (any_keyword s (field_names x)) refl
    where
      by : (k : Bool) → any_keyword s (field_names x) ≡ k
          → screen_fields s kept n (with_field x (fields_at s fuel q)) ≡ fields_on s kept n fuel (pick k (Some (None, q)) (Some (Some x, q)))
      by true e = field-keyword x e (fields_at s fuel q)
      by false e = field-free x e (fields_at s fuel q)
  fields-step None = refl

-- ---- one declaration

-- its fields, by whether it is a packet or a struct
pub behind-framed : (s : Text) (d : DeclDesc) (at : ℕ) → fields_behind s d at ≡ framed_fields s (is_frame d) at
unfolding fields_behind
behind-framed s (DeclDesc.Checksum width) at = refl
behind-framed s (DeclDesc.CustomField width) at = refl
behind-framed s (DeclDesc.Enum width is_open is_complete) at = refl
behind-framed s (DeclDesc.Packet parent) at = refl
behind-framed s (DeclDesc.Struct parent) at = refl

-- by what its reader hands out
abbrev pub decl_on : Text → Bool → Read (Result Decl Bool) → Read (Option ℕ)
decl_on s kept (Some (Ok d, p)) = screen_fields s kept 0 (fields_behind s d.desc p)
decl_on s kept (Some (Err frame, p)) = screen_fields s true 0 (framed_fields s frame p)
decl_on s kept None = None

pub decl-read : (s : Text) (kept : Bool) (at : ℕ) → decl_read s kept at ≡ decl_on s kept (screen_decl s (decl_at s at))
unfolding decl_read
decl-read s kept at = by (decl_at s at)
  where
    -- its names and those of its fields
    own : Decl → Fields → Read (Option ℕ)
    own d f =
        on_fields f None λ xs q.
        counted (kept || any_keyword s (decl_names d ++ fields_names xs)) (length xs) q

    free : (d : Decl) → any_keyword s (decl_names d) ≡ false → (f : Fields) → own d f ≡ screen_fields s kept 0 f
    free d e (fields_are xs q) =
        ap (λ (k : Bool). counted (kept || k) (length xs) q) (keyword-behind s (decl_names d) (fields_names xs) e)
        ∙ ap (λ (m : ℕ). counted (kept || any_keyword s (fields_names xs)) m q) (sym (zero-add (length xs)))
    free d e no_fields = refl

    taken : (d : Decl) → any_keyword s (decl_names d) ≡ true → (f : Fields) → own d f ≡ screen_fields s true 0 f
    taken d e (fields_are xs q) =
        ap (λ (k : Bool). counted k (length xs) q)
        (ap (λ (k : Bool). kept || k) (keyword-first s (decl_names d) (fields_names xs) e) ∙ or-true kept)
    taken d e no_fields = refl

    on-names : (d : Decl) (p : ℕ) (k : Bool) → any_keyword s (decl_names d) ≡ k
        → own d (fields_behind s d.desc p) ≡ decl_on s kept (pick k (Some (Err (is_frame d.desc), p)) (Some (Ok d, p)))
    on-names d p true e = taken d e (fields_behind s d.desc p) ∙ ap (screen_fields s true 0) (behind-framed s d.desc p)
    on-names d p false e = free d e (fields_behind s d.desc p)

    by : (g : Read Decl) → on_read g None (λ d p. own d (fields_behind s d.desc p)) ≡ decl_on s kept (screen_decl s g)
    by (Some (d, p)) = on-names d p (any_keyword s (decl_names d)) refl
    by None = refl

-- the declarations from it on
abbrev pub decls_on : Text → Bool → ℕ → ℕ → Read (Option ℕ) → Result ℕ Refusal
decls_on s kept i fuel (Some (Some n, q)) = screen_decls s kept (i + 1) (declarations_behind s fuel q)
decls_on s kept i fuel (Some (None, q)) = screen_decls s true (i + 1) (declarations_behind s fuel q)
decls_on s kept i fuel None = Err Refusal.RecordForm

pub decls-step : (s : Text) (kept : Bool) (i fuel at : ℕ)
    → screen_decls s kept i (declarations_at s (suc fuel) at) ≡ decls_on s kept i fuel (decl_read s kept at)
unfolding declarations_at decl_read
decls-step s kept i fuel at = by (decl_at s at)
  where
    names : Decl → List Field → List Part
    names d xs = decl_names d ++ fields_names xs

    all-names : (d : Decl) (xs : List Field) (ds : List Declaration)
        → any_keyword s (declarations_names (record { decl = d; fields = xs } ∷ ds)) ≡ any_keyword s (names d xs ++ declarations_names ds)
    all-names d xs ds = ap (any_keyword s) (sym (append_assoc (decl_names d) (fields_names xs) (declarations_names ds)))

    -- a keyword before or in the first one, or none in either
    tail-met : (d : Decl) (xs : List Field) → (kept || any_keyword s (names d xs)) ≡ true → (r : Declarations)
        → screen_decls s kept i (with_declaration (record { decl = d; fields = xs }) r) ≡ screen_decls s true (i + 1) r
    tail-met d xs e (declarations_are ds) =
        ap (λ (k : Bool). pick k (Err Refusal.Keyword) (Ok (i + suc (length ds))))
        (ap (λ (k : Bool). kept || k) (all-names d xs ds ∙ keyword-append s (names d xs) (declarations_names ds))
        ∙ or-first kept (any_keyword s (names d xs)) (any_keyword s (declarations_names ds)) e)
    tail-met d xs e no_declarations = refl

    tail-free : (d : Decl) (xs : List Field) → (kept || any_keyword s (names d xs)) ≡ false → (r : Declarations)
        → screen_decls s kept i (with_declaration (record { decl = d; fields = xs }) r) ≡ screen_decls s kept (i + 1) r
    tail-free d xs e (declarations_are ds) =
        ap (λ (k : Bool). pick (kept || k) (Err Refusal.Keyword) (Ok (i + suc (length ds))))
        (all-names d xs ds ∙ keyword-behind s (names d xs) (declarations_names ds) (or-second kept (any_keyword s (names d xs)) e))
        ∙ ap (λ (m : ℕ). pick (kept || any_keyword s (declarations_names ds)) (Err Refusal.Keyword) (Ok m)) (omega arith)
    tail-free d xs e no_declarations = refl

    on-names : (d : Decl) (xs : List Field) (q : ℕ) (k : Bool) → (kept || any_keyword s (names d xs)) ≡ k
        → screen_decls s kept i (with_declaration (record { decl = d; fields = xs }) (declarations_behind s fuel q))
        ≡ decls_on s kept i fuel (counted k (length xs) q)
    on-names d xs q true e = tail-met d xs e (declarations_behind s fuel q)
    on-names d xs q false e = tail-free d xs e (declarations_behind s fuel q)

    on-fields : (d : Decl) (f : Fields)
        → screen_decls s kept i (on_fields f no_declarations λ xs q. with_declaration (record { decl = d; fields = xs }) (declarations_behind s fuel q))
        ≡ decls_on s kept i fuel
        (on_fields f None λ xs q. counted (kept || any_keyword s (names d xs)) (length xs) q)
    on-fields d (fields_are xs q) = on-names d xs q (kept || any_keyword s (names d xs)) refl
    on-fields d no_fields = refl

    by : (g : Read Decl)
        → screen_decls s kept i (on_read g no_declarations λ d p.
        on_fields (fields_behind s d.desc p) no_declarations λ xs q. with_declaration (record { decl = d; fields = xs }) (declarations_behind s fuel q))
        ≡ decls_on s kept i fuel (on_read g None λ d p.
        on_fields (fields_behind s d.desc p) None λ xs q.
        counted (kept || any_keyword s (names d xs)) (length xs) q)
    by (Some (d, p)) = on-fields d (fields_behind s d.desc p)
    by None = refl
