-- The look-up of a row by its name: `find` gives the index, and the tables the row.
-- Assumes nothing.
use Rattle.std.specs.Prelude.{Option}
use Rattle.std.specs.Prelude.{Some, None}
use Prim.Native.Nat.{ℕ, zero, suc, ◌+◌, ◌*◌, ◌/◌, ◌≤◌, ◌<◌}
use mathlib.Core.Bool.{Bool, true, false}
use mathlib.Core.List.{List}
use mathlib.Core.Path.{◌≡◌, refl, sym, ap, ◌∙◌}
use native.Mathlib.Omega.{arith}
use native.Mathlib.Nat.{div-lt_iff_lt-mul}
use lib.ListN.{length, get_or}
use Rattle.definitions.specs.Bytes.{Text}
use Rattle.definitions.specs.Record.{on_found}
use Rattle.definitions.specs.Sizes.{Row, same_name, add_size, total_size, lookup, total_of, parent_of}
use Rattle.definitions.specs.Sizes.{desc_enum, enum_of}
use Rattle.definitions.specs.Tables.{decode}
use Rattle.definitions.specs.declared.EnumKind.{EnumKind}
use Rattle.definitions.specs.declared.Decl.{Decl}
use Rattle.definitions.specs.declared.Part.{Part}
use Rattle.definitions.specs.declared.Size.{Size}
use Rattle.tables.specs.Tables.{decl_here, row_in, rows_from, decls_from, which}
use Rattle.bits.proofs.Coding.{decode-static, decode-outside}

-- ---- the sizes of a row, outside the table

no_bits : Size.Static 0 ≡ decode 0
no_bits = decode-static (omega arith)

module _ (rows : List ℕ) (i k : ℕ) where
  pub size-past : length rows / 13 < i → Size.Static 0 ≡ decode (get_or rows (i * 13 + k) 0)
  size-past h = decode-outside rows (i * 13 + k) (omega (arith, (div-lt_iff_lt-mul {k = 13} {x = length rows} {y = i} (omega arith)).0 h)) no_bits

  pub size-behind : length rows ≤ k → Size.Static 0 ≡ decode (get_or rows (i * 13 + k) 0)
  size-behind h = decode-outside rows (i * 13 + k) (omega arith) no_bits

-- ---- the look-up

lookup-which : (s rows : List ℕ) (name : Part) (i m : ℕ)
    → lookup s (rows_from rows i m) name ≡ on_found (which s name i (decls_from rows i m)) None (λ j. Some (row_in rows j))
unfolding lookup rows_from which decls_from
lookup-which s rows name i zero = refl
lookup-which s rows name i (suc m) = by (same_name s (decl_here rows i).id name) (lookup-which s rows name (i + 1) m)
  where
    by : (b : Bool) → lookup s (rows_from rows (i + 1) m) name ≡ on_found (which s name (i + 1) (decls_from rows (i + 1) m)) None (λ j. Some (row_in rows j))
        → ◌≡◌ {A = Option Row} (elim b [ true ↦ Some (row_in rows i) | false ↦ lookup s (rows_from rows (i + 1) m) name ])
        (on_found (elim b [ true ↦ Some i | false ↦ which s name (i + 1) (decls_from rows (i + 1) m) ]) None (λ j. Some (row_in rows j)))
    by true h = refl
    by false h = h

abbrev total_on : Option Row → Size
total_on o = elim o [ Some r ↦ total_size r | None ↦ Size.Unknown ]

abbrev parent_on : Option Row → Size
parent_on o = elim o [ Some r ↦ add_size r.decl_size r.parent_size | None ↦ Size.Static 0 ]

abbrev enum_on : Option Row → Option EnumKind
enum_on o = elim o [ Some r ↦ desc_enum r.decl.desc | None ↦ None ]

module _ (s rows : List ℕ) (n : ℕ) (name : Part) {r : Option ℕ} (e : r ≡ which s name 0 (decls_from rows 0 n)) where
  looked : {q : Option ℕ} → r ≡ q → lookup s (rows_from rows 0 n) name ≡ on_found q None (λ j. Some (row_in rows j))
  looked h = lookup-which s rows name 0 n ∙ ap (λ (f : Option ℕ). on_found f None (λ j. Some (row_in rows j))) (sym e ∙ h)

  pub total-none : r ≡ None → Size.Unknown ≡ total_of s (rows_from rows 0 n) name
  total-none h = sym (ap total_on (looked h))

  pub parent-none : {m : Option Part} → m ≡ Some name → r ≡ None → Size.Static 0 ≡ parent_of s (rows_from rows 0 n) m
  parent-none k h = sym (ap (parent_of s (rows_from rows 0 n)) k ∙ ap parent_on (looked h))

  pub enum-none : r ≡ None → None ≡ enum_of s (rows_from rows 0 n) name
  enum-none h = sym (ap (λ (o : Option Row). enum_on o) (looked h))

  module _ {i : ℕ} (h : r ≡ Some i) where
    pub enum-found : {d : Decl} → d ≡ decl_here rows i → {t : Option EnumKind} → t ≡ desc_enum d.desc → t ≡ enum_of s (rows_from rows 0 n) name
    enum-found ed et = et ∙ ap (λ (d : Decl). desc_enum d.desc) ed ∙ sym (ap (λ (o : Option Row). enum_on o) (looked h))

pub total-found : (s rows : List ℕ) (n : ℕ) (name : Part) {i : ℕ} {r : Option ℕ} {a b c x y : Size} → y ≡ add_size x c → x ≡ add_size a b
    → r ≡ Some i → r ≡ which s name 0 (decls_from rows 0 n)
    → a ≡ decode (get_or rows (i * 13 + 10) 0) → b ≡ decode (get_or rows (i * 13 + 11) 0) → c ≡ decode (get_or rows (i * 13 + 12) 0)
    → y ≡ total_of s (rows_from rows 0 n) name
total-found s rows n name ey ex h e ea eb ec = ey ∙ rw (ex, ea, eb, ec) (sym (ap total_on (looked s rows n name e h)))

pub parent-found : (s rows : List ℕ) (n : ℕ) {name : Part} {m : Option Part} {i : ℕ} {r : Option ℕ} {a b x : Size} → x ≡ add_size a b
    → m ≡ Some name → r ≡ Some i → r ≡ which s name 0 (decls_from rows 0 n)
    → a ≡ decode (get_or rows (i * 13 + 10) 0) → b ≡ decode (get_or rows (i * 13 + 11) 0) → x ≡ parent_of s (rows_from rows 0 n) m
parent-found s rows n {name} ex k h e ea eb =
    ex ∙ rw (ea, eb) (sym (ap (parent_of s (rows_from rows 0 n)) k ∙ ap parent_on (looked s rows n name e h)))

pub parent-absent : (s : Text) (rows : List Row) {m : Option Part} → m ≡ None → Size.Static 0 ≡ parent_of s rows m
parent-absent s rows e = sym (ap (parent_of s rows) e)
