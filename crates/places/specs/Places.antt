-- What the reader writes into the tables of a record: its declarations, its fields, and the fields' places, up to the first line that is wrong or
-- has a keyword (document 02, Card 6), and what it answers. What the tables give back stands in the crate `tables`.
-- Assumes nothing.
use Rattle.std.specs.Prelude.{Option, Some, None, Result, Ok, Err, Bool, true, false, not, ◌||◌, List, [], ◌∷◌, ◌++◌, ◌≡◌, ℕ, zero, suc, ◌+◌, ◌*◌, ◌/◌, ltb, length}
use Rattle.definitions.specs.Record.{Read, key_at, on_found, on_read, on_fields, field_at, decl_at, fields_at, fields_behind, declarations_at, Fields, fields_are, no_fields, Declaration, Declarations, declarations_are, no_declarations}
use Rattle.std.specs.Bool.{then_some}
use Rattle.std.proofs.lemmas.List.Edits.{sets}
use Rattle.definitions.specs.Bytes.{Text, text, pick}
use Rattle.definitions.specs.Refusals.{any_keyword, decl_names, fields_names, declarations_names, is_frame}
use Rattle.definitions.specs.declared.Field.{Field}
use Rattle.definitions.specs.declared.DeclDesc.{DeclDesc}
use Rattle.definitions.specs.declared.Decl.{Decl}
use Rattle.definitions.specs.declared.Refusal.{Refusal}
use Rattle.keywords.specs.Screens.{screen_field, screen_decl}
use Rattle.tables.specs.Words.{field_words, decl_words}
use Rattle.tables.specs.Tables.{Tables, tables_of, declarations_from}

-- In what follows `kept` says that a name before the place is a keyword: then nothing is written, and the form alone is read.

-- the fields, where there may be any: behind a packet or a struct
abbrev pub framed_fields : Text → Bool → ℕ → Fields
framed_fields s true at = fields_at s (length s) at
framed_fields s false at = fields_are [] at

-- the declarations from a place on, which may be the record's end
abbrev pub declarations_behind : Text → ℕ → ℕ → Declarations
declarations_behind s fuel at = elim (ltb at (length s)) [ true ↦ declarations_at s fuel at | false ↦ declarations_are [] ]

-- ---- the fields of a declaration

-- what follows where no name is a keyword
abbrev pub on_free : {A B : Type 0} → Read (Option B) → A → (B → ℕ → A) → A
on_free (Some (Some x, p)) other f = f x p
on_free (Some (None, p)) other f = other
on_free None other f = other

-- so many, and the place behind them; that place alone, where a keyword is met
abbrev pub counted : Bool → ℕ → ℕ → Read (Option ℕ)
counted met n p = Some (then_some (not met) n, p)

-- how many fields, after n
abbrev pub screen_fields : Text → Bool → ℕ → Fields → Read (Option ℕ)
screen_fields s kept n (fields_are xs p) = counted (kept || any_keyword s (fields_names xs)) (n + length xs) p
screen_fields s kept n no_fields = None

-- the fields that follow one another, up to the first that is wrong or has a keyword
unfoldable pub fields_up_to : Text → ℕ → ℕ → List Field
fields_up_to s zero at = []
fields_up_to s (suc fuel) at =
    on_found (key_at s at (text "field=")) [] λ p. on_free (screen_field s (field_at s at)) [] λ x q. x ∷ fields_up_to s fuel q

-- the same, where there may be any
abbrev pub framed_up_to : Text → Bool → ℕ → List Field
framed_up_to s true at = fields_up_to s (length s) at
framed_up_to s false at = []

abbrev pub up_to_behind : Text → DeclDesc → ℕ → List Field
up_to_behind s d at = framed_up_to s (is_frame d) at

-- the places of fields, which are their keys
abbrev pub field_keys : List Field → List ℕ
field_keys [] = []
field_keys (x ∷ xs) = x.key ∷ field_keys xs

-- the numbers of fields, each at its place
abbrev pub with_values : List ℕ → List Field → List ℕ
with_values values [] = values
with_values values (x ∷ xs) = with_values (sets values (x.key / 16 * 17) (field_words x)) xs

-- what is written of fields
abbrev pub written : Bool → List Field → List Field
written true xs = []
written false xs = xs

-- how many, and the place behind them; the tables have the numbers of `xs`, and their places from `base` on
pub record Filled (s : Text) (kept : Bool) (fs : Fields) (xs : List Field) (values fields : List ℕ) (base : ℕ)
    (r : Read (Option ℕ)) (v f : List ℕ) : Type 0 where
  pub answer : r ≡ screen_fields s kept 0 fs
  pub numbers : v ≡ with_values values (written kept xs)
  pub places : f ≡ sets fields base (field_keys (written kept xs))

-- ---- one declaration

-- what follows a declaration whose own names are free
abbrev pub on_free_decl : {A : Type 0} → Read (Result Decl Bool) → A → (Decl → ℕ → A) → A
on_free_decl (Some (Ok d, p)) other f = f d p
on_free_decl (Some (Err frame, p)) other f = other
on_free_decl None other f = other

-- how many fields it has; where a name of it or of its fields is a keyword, only the place behind it
unfoldable pub decl_read : Text → Bool → ℕ → Read (Option ℕ)
decl_read s kept at =
    on_read (decl_at s at) None λ d p.
    on_fields (fields_behind s d.desc p) None λ xs q.
    counted (kept || any_keyword s (decl_names d ++ fields_names xs)) (length xs) q

-- a row with the declaration of the index i, which has n fields
abbrev pub with_row : List ℕ → ℕ → Decl → ℕ → List ℕ
with_row rows i d n = sets rows (i * 13) (decl_words d ++ (n ∷ []))

-- the declaration with the index i, whose fields were read before
abbrev pub with_decl : Tables → ℕ → Decl → ℕ → Tables
with_decl t i d n = tables_of t.source (with_row t.rows i d n) t.values t.fields

abbrev pub with_fields : Tables → ℕ → List Field → Tables
with_fields t i xs = tables_of t.source t.rows (with_values t.values xs) (sets t.fields (i * 64) (field_keys xs))

-- the tables behind it: as they were where its own lines are wrong or have a keyword, and without its row where its fields are or have
unfoldable pub tables_with : Text → ℕ → ℕ → Tables → Tables
tables_with s i at t =
    on_free_decl (screen_decl s (decl_at s at)) t λ d p.
    on_free (screen_fields s false 0 (fields_behind s d.desc p)) (with_fields t i (up_to_behind s d.desc p)) λ n q.
    with_decl (with_fields t i (up_to_behind s d.desc p)) i d n

-- the tables, where something is written
abbrev pub filled_in : Bool → Tables → Tables → Tables
filled_in true t u = t
filled_in false t u = u

-- the declaration at a place, with the index i
pub record FilledOne (s : Text) (kept : Bool) (at i : ℕ) (rows values fields : List ℕ) (r : Read (Option ℕ)) (x y z : List ℕ) : Type 0 where
  pub answer : r ≡ decl_read s kept at
  pub tables : tables_of s x y z ≡ filled_in kept (tables_of s rows values fields) (tables_with s i at (tables_of s rows values fields))

-- ---- the declarations of a record

-- how many declarations, after i: a broken form is refused before a keyword
abbrev pub screen_decls : Text → Bool → ℕ → Declarations → Result ℕ Refusal
screen_decls s kept i (declarations_are ds) = pick (kept || any_keyword s (declarations_names ds)) (Err Refusal.Keyword) (Ok (i + length ds))
screen_decls s kept i no_declarations = Err Refusal.RecordForm

-- n declarations, as the tables give them back
abbrev pub given : Tables → ℕ → List Declaration
given t n = declarations_from t.rows t.values t.fields 0 n

-- the tables behind the reader, for the declarations from the i-th on, up to the first that is wrong or has a keyword
unfoldable pub tables_from : Text → ℕ → ℕ → ℕ → Tables → Tables
tables_from s zero i at t = t
tables_from s (suc fuel) i at t =
    on_free (decl_read s false at) (tables_with s i at t) λ n q.
    elim (ltb q (length s)) [ true ↦ tables_from s fuel (i + 1) q (tables_with s i at t) | false ↦ tables_with s i at t ]

-- the declarations from a place on to the record's end
pub record FilledAll (s : Text) (kept : Bool) (at : ℕ) (rows values fields : List ℕ) (r : Result ℕ Refusal) (x y z : List ℕ) : Type 0 where
  pub answer : r ≡ screen_decls s kept 0 (declarations_at s (length s) at)
  pub tables : tables_of s x y z ≡ filled_in kept (tables_of s rows values fields) (tables_from s (length s) 0 at (tables_of s rows values fields))
