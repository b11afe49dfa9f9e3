-- The pass over the declarations: the entries so far, followed by those of the declarations left, are all of `Schema`, and none so far is large.
-- Assumes nothing.
use Rattle.std.proofs.lemmas.Option.{none-some, same_Some}
use Rattle.std.specs.Prelude.{Option, Some, None, Ok, Err}
use Rattle.definitions.specs.declared.Refusal.{Refusal}
use Prim.Native.Nat.{ℕ, zero, suc, ◌+◌, ◌*◌, ◌-◌, ◌≤◌, ◌<◌}
use mathlib.Core.Bool.{Bool, true, false, ◌||◌}
use mathlib.Core.List.{List, [], ◌∷◌, ◌++◌, append_assoc}
use mathlib.Core.Path.{◌≡◌, refl, sym, ap, subst, ◌∙◌}
use native.Mathlib.Nat.{add-zero, sub-zero}
use native.Mathlib.Numerals.{add-one}
use native.Mathlib.Omega.{arith}
use lib.ListN.{length}
use Rattle.definitions.specs.Bytes.{any}
use Rattle.definitions.specs.Record.{Declaration}
use Rattle.definitions.specs.Sizes.{Schema, Entry, Row, annotate_from, new_schema}
use Rattle.definitions.specs.Refusals.{refuse_if, large, large_entry, large_row, large_field, large_size, static_sum, too_large}
use Rattle.definitions.specs.Tables.{encode, decode}
use Rattle.definitions.specs.declared.Size.{Size}
use Rattle.definitions.specs.declared.Decl.{Decl}
use Rattle.tables.specs.Tables.{declarations_from, row_in, rows_from}
use Rattle.tables.proofs.Sized.{length-sized, declarations-sized, rows-sized, sized_row}
use Rattle.bits.specs.Capped.{capped}
use Rattle.bits.proofs.Booleans.{or-none, or_assoc, or_left, or_right}
use Rattle.bits.proofs.Caps.{capped-fine}
use Rattle.bits.proofs.Coding.{coded}
use Rattle.schema.specs.Entries.{unless, entry_sizes, fine_sizes, entry_in, entries_from, put_row, next_entry, sized_rows, Sized}
use Rattle.schema.specs.declared.RowSizes.{RowSizes}
use Rattle.schema.proofs.Keeping.{entries-keep, entry-put}

-- ---- large entries

any_append : (es fs : Schema) → any large_entry (es ++ fs) ≡ (any large_entry es || any large_entry fs)
any_append [] fs = refl
any_append (e ∷ es) fs =
    ap (λ (b : Bool). large_entry e || b) (any_append es fs) ∙ sym (or_assoc (large_entry e) (any large_entry es) (any large_entry fs))

-- an entry that is not large has a row of three sizes that are not
row_fine : (e : Entry) → large_entry e ≡ false
    → (large_size e.row.decl_size ≡ false) × ((large_size e.row.parent_size ≡ false) × (large_size e.row.payload_size ≡ false))
row_fine e h =
    let row : large_row e.row ≡ false =
    or_right (any large_field e.fields) (large_row e.row)
    (or_left (any large_field e.fields || large_row e.row) (too_large (static_sum e.fields)) h) in
    let three : (large_size e.row.decl_size || large_size e.row.parent_size || large_size e.row.payload_size) ≡ false =
    or_left (large_size e.row.decl_size || large_size e.row.parent_size || large_size e.row.payload_size) _ row in
    let two : (large_size e.row.decl_size || large_size e.row.parent_size) ≡ false =
    or_left (large_size e.row.decl_size || large_size e.row.parent_size) _ three in
    (or_left _ _ two, (or_right (large_size e.row.decl_size) _ two, or_right (large_size e.row.decl_size || large_size e.row.parent_size) _ three))

-- ---- what a row or none says of the test

none-large : (b : Bool) (w : RowSizes) → None ≡ unless b w → true ≡ b
none-large true w e = refl
none-large false w e = absurd (none-some w e)

some-fine : (b : Bool) (w u : RowSizes) → Some u ≡ unless b w → (false ≡ b) × (u ≡ w)
some-fine true w u e = absurd (none-some u (sym e))
some-fine false w u e = (refl, same_Some u w e)

-- ---- rows and entries

same_row : {d : Decl} {a a' b b' c c' : Size} → a ≡ a' → b ≡ b' → c ≡ c'
    → ◌≡◌ {A = Row} (record { decl = d; decl_size = a; parent_size = b; payload_size = c }) (record { decl = d; decl_size = a'; parent_size = b'; payload_size = c' })
same_row ea eb ec = rw (ea, eb, ec)

rows_snoc : (rows : List ℕ) (k m : ℕ) → rows_from rows k (suc m) ≡ rows_from rows k m ++ (row_in rows (k + m) ∷ [])
unfolding rows_from
rows_snoc rows k zero = ap (λ (i : ℕ). row_in rows i ∷ []) (sym (add-zero k))
rows_snoc rows k (suc m) =
    ap (λ (l : List Row). row_in rows k ∷ l)
    (rows_snoc rows (k + 1) m ∙ ap (λ (i : ℕ). rows_from rows (k + 1) m ++ (row_in rows i ∷ [])) (let z : k + 1 + m ≡ k + suc m = omega arith in z))

module _ (s rows v f : List ℕ) where
  entries-snoc : (k m : ℕ) → entries_from s rows v f k (suc m) ≡ entries_from s rows v f k m ++ (entry_in s rows v f (k + m) ∷ [])
  unfolding entries_from
  entries-snoc k zero = ap (λ (i : ℕ). entry_in s rows v f i ∷ []) (sym (add-zero k))
  entries-snoc k (suc m) =
      ap (λ (l : Schema). entry_in s rows v f k ∷ l)
      (entries-snoc (k + 1) m ∙ ap (λ (i : ℕ). entries_from s rows v f (k + 1) m ++ (entry_in s rows v f i ∷ []))
      (let z : k + 1 + m ≡ k + suc m = omega arith in z))

-- ---- the pass, from the table rows₀

pub record Going (s rows₀ v f : List ℕ) (m : ℕ) (rows : List ℕ) (i : ℕ) : Type 0 where
  pub small : i ≤ m
  pub room : m * 13 ≤ length rows₀
  pub long : length rows ≡ length rows₀
  pub parts : entries_from s rows v f 0 i ++ annotate_from s (rows_from rows 0 i) (declarations_from rows v f i (m - i))
      ≡ new_schema s (declarations_from rows₀ v f 0 m)
  pub fine : any large_entry (entries_from s rows v f 0 i) ≡ false
  pub table : sized_rows s rows v f i (m - i) ≡ sized_rows s rows₀ v f 0 m

pub going_start : (s rows v f : List ℕ) (m : ℕ) → m * 13 ≤ length rows → Going s rows v f m rows 0
unfolding rows_from entries_from
going_start s rows v f m room = record {
  small = omega arith;
  room = room;
  long = refl;
  parts = ap (λ (k : ℕ). annotate_from s [] (declarations_from rows v f 0 k)) (sub-zero m);
  fine = refl;
  table = ap (sized_rows s rows v f 0) (sub-zero m);
}

append-nil : (es : Schema) → es ++ [] ≡ es
append-nil [] = refl
append-nil (e ∷ es) = ap (λ (l : Schema). e ∷ l) (append-nil es)

module _ (s rows₀ v f : List ℕ) (m : ℕ) (rows : List ℕ) (i : ℕ) (g : Going s rows₀ v f m rows i) where
  pub going_end : m ≤ i → Sized s rows₀ v f m rows (Ok tt)
  unfolding declarations_from annotate_from large sized_rows
  going_end h = record {
    answer =
        ap (λ (b : Bool). refuse_if b Refusal.TooLarge (Ok tt))
        (sym (ap (any large_entry) (sym whole) ∙ ap (λ (k : ℕ). any large_entry (entries_from s rows v f 0 k)) (let z : m ≡ i = omega arith in z) ∙ g.fine));
    tables = λ k. whole;
    left = ap (sized_rows s rows v f i) (let z : 0 ≡ m - i = omega arith in z) ∙ g.table;
  }
    where
      whole : entries_from s rows v f 0 m ≡ new_schema s (declarations_from rows₀ v f 0 m)
      whole =
          ap (entries_from s rows v f 0) (let z : m ≡ i = omega arith in z)
          ∙ sym (append-nil (entries_from s rows v f 0 i))
          ∙ ap (λ (k : ℕ). entries_from s rows v f 0 i ++ annotate_from s (rows_from rows 0 i) (declarations_from rows v f i k))
          (let z : 0 ≡ m - i = omega arith in z)
          ∙ g.parts

  module _ (h : i < m) {r : Option RowSizes} (er : r ≡ fine_sizes (next_entry s rows v f i)) where
    sofar : Schema
    sofar = entries_from s rows v f 0 i

    earlier : List Row
    earlier = rows_from rows 0 i

    e : Entry
    e = next_entry s rows v f i

    rest : List Declaration
    rest = declarations_from rows v f (i + 1) (m - (i + 1))

    more : suc (m - (i + 1)) ≡ m - i
    more = omega arith

    -- this entry stands between those before and those behind
    split : sofar ++ (e ∷ annotate_from s (earlier ++ (e.row ∷ [])) rest) ≡ new_schema s (declarations_from rows₀ v f 0 m)
    unfolding sofar earlier e rest declarations_from annotate_from
    split = ap (λ (k : ℕ). sofar ++ annotate_from s earlier (declarations_from rows v f i k)) more ∙ g.parts

    -- the table that is left, by whether this entry is large
    split-table : {b : Bool} → b ≡ large_entry e
        → ◌≡◌ {A = List ℕ} (elim b [ true ↦ rows | false ↦ sized_rows s (put_row rows i (entry_sizes e)) v f (i + 1) (m - (i + 1)) ]) (sized_rows s rows₀ v f 0 m)
    unfolding e sized_rows
    split-table eb =
        ap (λ (b : Bool). elim b [ true ↦ rows | false ↦ sized_rows s (put_row rows i (entry_sizes e)) v f (i + 1) (m - (i + 1)) ]) eb
        ∙ ap (sized_rows s rows v f i) more ∙ g.table

    pub going-large : r ≡ None → Sized s rows₀ v f m rows (Err Refusal.TooLarge)
    unfolding sofar earlier e rest large
    going-large hr = record {
      answer = ap (λ (b : Bool). refuse_if b Refusal.TooLarge (Ok tt)) met;
      tables = λ k. absurd (let q : ◌≡◌ {A = Bool} true false = met ∙ k in let v : ◌≡◌ {A = ℕ} 0 1 = cc in omega arith);
      left = split-table is-large;
    }
      where
        is-large : true ≡ large_entry e
        is-large = none-large (large_entry (next_entry s rows v f i)) (entry_sizes (next_entry s rows v f i)) (sym hr ∙ er)

        met : true ≡ large (new_schema s (declarations_from rows₀ v f 0 m))
        met =
            ap (λ (b : Bool). b || any large_entry (annotate_from s (earlier ++ (e.row ∷ [])) rest)) is-large
            ∙ ap (λ (b : Bool). b || any large_entry (e ∷ annotate_from s (earlier ++ (e.row ∷ [])) rest)) (sym g.fine)
            ∙ sym (any_append sofar (e ∷ annotate_from s (earlier ++ (e.row ∷ [])) rest))
            ∙ ap (any large_entry) split

    module _ {w : RowSizes} (hr : r ≡ Some w) where
      put : List ℕ
      put = put_row rows i w

      is-fine : (false ≡ large_entry e) × (w ≡ entry_sizes e)
      unfolding e
      is-fine = some-fine (large_entry (next_entry s rows v f i)) (entry_sizes (next_entry s rows v f i)) w (sym hr ∙ er)

      within : i * 13 + 12 < length rows
      within = omega (arith, g.room, g.long)

      not-large : large_entry e ≡ false
      not-large = sym is-fine.0

      here : (z x : Size) → z ≡ capped x → large_size x ≡ false → decode (encode z) ≡ x
      here z x ez hx = ap (λ (z : Size). decode (encode z)) (ez ∙ capped-fine x hx) ∙ coded x hx

      row_is : row_in put i ≡ e.row
      unfolding put e
      row_is =
          sized_row rows i (encode w.own) (encode w.parent) (encode w.payload) within
          ∙ same_row
          (here w.own e.row.decl_size (ap (λ (w : RowSizes). w.own) is-fine.1) (row_fine e not-large).0)
          (here w.parent e.row.parent_size (ap (λ (w : RowSizes). w.parent) is-fine.1) (row_fine e not-large).1.0)
          (here w.payload e.row.payload_size (ap (λ (w : RowSizes). w.payload) is-fine.1) (row_fine e not-large).1.1)

      rows_are : rows_from put 0 (i + 1) ≡ earlier ++ (e.row ∷ [])
      unfolding put earlier
      rows_are =
          ap (rows_from put 0) (add-one i) ∙ rows_snoc put 0 i
          ∙ ap (λ (l : List Row). l ++ (row_in put (0 + i) ∷ [])) (rows-sized rows i _ _ _ 0 i (omega arith))
          ∙ ap (λ (k : ℕ). earlier ++ (row_in put k ∷ [])) (let z : 0 + i ≡ i = omega arith in z)
          ∙ ap (λ (q : Row). earlier ++ (q ∷ [])) row_is

      entries-are : entries_from s put v f 0 (i + 1) ≡ sofar ++ (e ∷ [])
      unfolding put sofar e
      entries-are =
          ap (entries_from s put v f 0) (add-one i) ∙ entries-snoc s put v f 0 i
          ∙ ap (λ (l : Schema). l ++ (entry_in s put v f (0 + i) ∷ [])) (entries-keep rows i _ _ _ s v f 0 i (omega arith))
          ∙ ap (λ (k : ℕ). sofar ++ (entry_in s put v f k ∷ [])) (let z : 0 + i ≡ i = omega arith in z)
          ∙ ap (λ (q : Entry). sofar ++ (q ∷ [])) (entry-put rows i _ _ _ s v f row_is)

      going-put : Going s rows₀ v f m put (i + 1)
      unfolding put sofar earlier e rest
      going-put = record {
        small = omega arith;
        room = g.room;
        long = length-sized rows i (encode w.own) (encode w.parent) (encode w.payload) ∙ g.long;
        parts =
            ap (λ (l : Schema). l ++ annotate_from s (rows_from put 0 (i + 1)) (declarations_from put v f (i + 1) (m - (i + 1)))) entries-are
            ∙ ap (λ (l : List Row). (sofar ++ (e ∷ [])) ++ annotate_from s l (declarations_from put v f (i + 1) (m - (i + 1)))) rows_are
            ∙ ap (λ (l : List Declaration). (sofar ++ (e ∷ [])) ++ annotate_from s (earlier ++ (e.row ∷ [])) l)
            (declarations-sized rows i _ _ _ v f (i + 1) (m - (i + 1)))
            ∙ append_assoc sofar (e ∷ []) (annotate_from s (earlier ++ (e.row ∷ [])) rest) ∙ split;
        fine =
            ap (any large_entry) entries-are ∙ any_append sofar (e ∷ [])
            ∙ ap (λ (b : Bool). b || any large_entry (e ∷ [])) g.fine ∙ sym (or-none (large_entry e)) ∙ not-large;
        table = ap (λ (w : RowSizes). sized_rows s (put_row rows i w) v f (i + 1) (m - (i + 1))) is-fine.1 ∙ split-table is-fine.0;
      }

      pub going-turn : {rows' : List ℕ} → rows' ≡ put_row rows i w → Going s rows₀ v f m rows' (i + 1)
      unfolding put
      going-turn e = subst (λ (l : List ℕ). Going s rows₀ v f m l (i + 1)) (sym e) going-put
