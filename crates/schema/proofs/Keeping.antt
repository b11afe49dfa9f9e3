-- The three sizes of a row are written: the entries before it stay, and its own has the new row.
-- Assumes nothing.
use Prim.Native.Nat.{ℕ, zero, suc, ◌+◌, ◌*◌, ◌≤◌, ◌<◌}
use mathlib.Core.List.{List, ◌∷◌}
use mathlib.Core.Path.{◌≡◌, refl, ap, ◌∙◌}
use native.Mathlib.Omega.{arith}
use lib.ListN.{set}
use Rattle.definitions.specs.Record.{Declaration}
use Rattle.definitions.specs.Sizes.{Schema, Entry, Row}
use Rattle.definitions.specs.Tables.{encode}
use Rattle.definitions.specs.declared.Decl.{Decl}
use Rattle.tables.specs.Tables.{decl_here, count_here, fields_from, declaration_in, row_in, rows_from, with_sizes}
use Rattle.tables.proofs.Sized.{decl-sized, count-sized, row_sized, rows-sized}
use Rattle.schema.specs.Entries.{entry_with, entry_in, entries_from, put_row}
use Rattle.schema.specs.declared.RowSizes.{RowSizes}

module _ (rows : List ℕ) (i u v w : ℕ) (s values fields : List ℕ) where
  declaration-keep : (k : ℕ) → declaration_in (with_sizes rows i u v w) values fields k ≡ declaration_in rows values fields k
  declaration-keep k =
      ap (λ (d : Decl). declaration_of d (count_here (with_sizes rows i u v w) k)) (decl-sized rows i u v w k)
      ∙ ap (declaration_of (decl_here rows k)) (count-sized rows i u v w k)
    where
      declaration_of : Decl → ℕ → Declaration
      declaration_of d n = record { decl = d; fields = fields_from values fields (k * 64) n }

  same-entry : {d d' : Declaration} {l l' : List Row} {r r' : Row} → d ≡ d' → l ≡ l' → r ≡ r' → entry_with s d l r ≡ entry_with s d' l' r'
  same-entry ed el er = rw (ed, el, er)

  entry-keep : (k : ℕ) → k < i → entry_in s (with_sizes rows i u v w) values fields k ≡ entry_in s rows values fields k
  entry-keep k h = same-entry (declaration-keep k) (rows-sized rows i u v w 0 k (omega arith)) (row_sized rows i u v w k (λ e. omega arith))

  pub entries-keep : (k m : ℕ) → k + m ≤ i → entries_from s (with_sizes rows i u v w) values fields k m ≡ entries_from s rows values fields k m
  unfolding entries_from
  entries-keep k zero h = refl
  entries-keep k (suc m) h =
      ap (λ (l : Schema). entry_in s (with_sizes rows i u v w) values fields k ∷ l) (entries-keep (k + 1) m (omega arith))
      ∙ ap (λ (e : Entry). e ∷ entries_from s rows values fields (k + 1) m) (entry-keep k (omega arith))

  pub entry-put : {r : Row} → row_in (with_sizes rows i u v w) i ≡ r
      → entry_in s (with_sizes rows i u v w) values fields i ≡ entry_with s (declaration_in rows values fields i) (rows_from rows 0 i) r
  entry-put er = same-entry (declaration-keep i) (rows-sized rows i u v w 0 i (omega arith)) er

-- one size after the other
pub sizes-put : (rows : List ℕ) (i : ℕ) (r : RowSizes) {a : List ℕ} → a ≡ set rows (i * 13 + 10) (encode r.own)
    → {b : List ℕ} → b ≡ set a (i * 13 + 11) (encode r.parent) → {c : List ℕ} → c ≡ set b (i * 13 + 12) (encode r.payload) → c ≡ put_row rows i r
sizes-put rows i r ea eb ec = rw (ec, eb, ea)
