-- Writing the sizes of a row, the numbers 10 to 12 of its 13: every declaration and every number of fields stay, and so do the sizes of other rows.
-- Assumes nothing.
use Prim.Native.Nat.{ℕ, zero, suc, ◌+◌, ◌*◌, ◌≤◌, ◌<◌}
use mathlib.Core.List.{List, ◌∷◌}
use mathlib.Core.Logic.{◌≢◌}
use mathlib.Core.Path.{◌≡◌, refl, ap, ◌∙◌}
use native.Mathlib.Omega.{arith}
use lib.ListN.{length, get_or, set, length-set}
use lib.Seq.{get_or-set_same, get_or-set_other}
use Rattle.definitions.specs.Sizes.{Row}
use Rattle.definitions.specs.Tables.{decode}
use Rattle.tables.specs.Tables.{decl_here, count_here, decls_from, declaration_in, declarations_from, row_in, rows_from, with_sizes}
use Rattle.tables.proofs.Entries.{decl-same}

-- ---- one number of the row j

module _ (rows : List ℕ) (j k z : ℕ) (h : 10 ≤ k) (l : k < 13) where
  other : (i m : ℕ) → m < 10 → get_or (set rows (j * 13 + k) z) (i * 13 + m) 0 ≡ get_or rows (i * 13 + m) 0
  other i m b = get_or-set_other rows (j * 13 + k) (i * 13 + m) z 0 (λ e. omega arith)

  pub decl-set : (i : ℕ) → decl_here (set rows (j * 13 + k) z) i ≡ decl_here rows i
  unfolding decl_here
  decl-set i = decl-same (set rows (j * 13 + k) z) rows (i * 13) (i * 13) (λ m b. other i m (omega arith))

  pub count_set : (i : ℕ) → count_here (set rows (j * 13 + k) z) i ≡ count_here rows i
  count_set i = other i 9 (omega arith)

  pub decls-set : (i m : ℕ) → decls_from (set rows (j * 13 + k) z) i m ≡ decls_from rows i m
  unfolding decls_from
  decls-set i zero = refl
  decls-set i (suc m) = rw (decl-set i, decls-set (i + 1) m)

  pub declaration-set : (values fields : List ℕ) (i : ℕ) → declaration_in (set rows (j * 13 + k) z) values fields i ≡ declaration_in rows values fields i
  declaration-set values fields i = rw (decl-set i, count_set i)

  pub declarations-set : (values fields : List ℕ) (i m : ℕ)
      → declarations_from (set rows (j * 13 + k) z) values fields i m ≡ declarations_from rows values fields i m
  unfolding declarations_from
  declarations-set values fields i zero = refl
  declarations-set values fields i (suc m) = rw (decl-set i, count_set i, declarations-set values fields (i + 1) m)

  -- the sizes of other rows
  size-other : (i m : ℕ) → i ≢ j → m < 13 → get_or (set rows (j * 13 + k) z) (i * 13 + m) 0 ≡ get_or rows (i * 13 + m) 0
  size-other i m n b = get_or-set_other rows (j * 13 + k) (i * 13 + m) z 0 (λ e. n (omega arith))

  pub row-set : (i : ℕ) → i ≢ j → row_in (set rows (j * 13 + k) z) i ≡ row_in rows i
  row-set i n = rw (decl-set i, size-other i 10 n (omega arith), size-other i 11 n (omega arith), size-other i 12 n (omega arith))

  pub rows-set : (i m : ℕ) → i + m ≤ j → rows_from (set rows (j * 13 + k) z) i m ≡ rows_from rows i m
  unfolding rows_from
  rows-set i zero b = refl
  rows-set i (suc m) b = ap (λ (r : Row). r ∷ rows_from (set rows (j * 13 + k) z) (i + 1) m) (row-set i (λ e. omega arith))
      ∙ ap (λ (x : List Row). row_in rows i ∷ x) (rows-set (i + 1) m (omega arith))

-- ---- the three sizes of the row j

module _ (rows : List ℕ) (j u v w : ℕ) where
  abbrev own : List ℕ
  own = set rows (j * 13 + 10) u

  abbrev own-parent : List ℕ
  own-parent = set own (j * 13 + 11) v

  pub length-sized : length (with_sizes rows j u v w) ≡ length rows
  length-sized = length-set own-parent (j * 13 + 12) w ∙ length-set own (j * 13 + 11) v ∙ length-set rows (j * 13 + 10) u

  pub decl-sized : (i : ℕ) → decl_here (with_sizes rows j u v w) i ≡ decl_here rows i
  decl-sized i =
      decl-set own-parent j 12 w (omega arith) (omega arith) i ∙ decl-set own j 11 v (omega arith) (omega arith) i
      ∙ decl-set rows j 10 u (omega arith) (omega arith) i

  pub count-sized : (i : ℕ) → count_here (with_sizes rows j u v w) i ≡ count_here rows i
  count-sized i =
      count_set own-parent j 12 w (omega arith) (omega arith) i ∙ count_set own j 11 v (omega arith) (omega arith) i
      ∙ count_set rows j 10 u (omega arith) (omega arith) i

  pub decls-sized : (i m : ℕ) → decls_from (with_sizes rows j u v w) i m ≡ decls_from rows i m
  decls-sized i m =
      decls-set own-parent j 12 w (omega arith) (omega arith) i m ∙ decls-set own j 11 v (omega arith) (omega arith) i m
      ∙ decls-set rows j 10 u (omega arith) (omega arith) i m

  pub declarations-sized : (values fields : List ℕ) (i m : ℕ)
      → declarations_from (with_sizes rows j u v w) values fields i m ≡ declarations_from rows values fields i m
  declarations-sized values fields i m =
      declarations-set own-parent j 12 w (omega arith) (omega arith) values fields i m
      ∙ declarations-set own j 11 v (omega arith) (omega arith) values fields i m
      ∙ declarations-set rows j 10 u (omega arith) (omega arith) values fields i m

  pub row_sized : (i : ℕ) → i ≢ j → row_in (with_sizes rows j u v w) i ≡ row_in rows i
  row_sized i n =
      row-set own-parent j 12 w (omega arith) (omega arith) i n ∙ row-set own j 11 v (omega arith) (omega arith) i n
      ∙ row-set rows j 10 u (omega arith) (omega arith) i n

  pub rows-sized : (i m : ℕ) → i + m ≤ j → rows_from (with_sizes rows j u v w) i m ≡ rows_from rows i m
  rows-sized i m h =
      rows-set own-parent j 12 w (omega arith) (omega arith) i m h ∙ rows-set own j 11 v (omega arith) (omega arith) i m h
      ∙ rows-set rows j 10 u (omega arith) (omega arith) i m h

  module _ (h : j * 13 + 12 < length rows) where
    own_is : get_or (with_sizes rows j u v w) (j * 13 + 10) 0 ≡ u
    own_is =
        get_or-set_other own-parent (j * 13 + 12) (j * 13 + 10) w 0 (λ e. omega arith)
        ∙ get_or-set_other own (j * 13 + 11) (j * 13 + 10) v 0 (λ e. omega arith) ∙ get_or-set_same rows (j * 13 + 10) u 0 (omega arith)

    parent_is : get_or (with_sizes rows j u v w) (j * 13 + 11) 0 ≡ v
    parent_is =
        get_or-set_other own-parent (j * 13 + 12) (j * 13 + 11) w 0 (λ e. omega arith)
        ∙ get_or-set_same own (j * 13 + 11) v 0 (omega (arith, length-set rows (j * 13 + 10) u))

    payload-is : get_or (with_sizes rows j u v w) (j * 13 + 12) 0 ≡ w
    payload-is =
        get_or-set_same own-parent (j * 13 + 12) w 0 (omega (arith, length-set rows (j * 13 + 10) u, length-set own (j * 13 + 11) v))

    -- what stands in the row j
    pub sized_row : row_in (with_sizes rows j u v w) j
        ≡ record { decl = decl_here rows j; decl_size = decode u; parent_size = decode v; payload_size = decode w }
    sized_row = rw (decl-sized j, own_is, parent_is, payload-is)
