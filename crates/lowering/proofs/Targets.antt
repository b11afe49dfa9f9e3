-- Behind refusals 7, 8, 17 and 9: the target stands in the tables at the index that `check_sizes` gives, the fields of each declaration are behind refusal 7,
-- and lowering those of the target, or of every packet and struct, is lowering the record.
-- Assumes nothing.
use Rattle.std.specs.Prelude.{Result, Ok, Err, Option, Some, None}
use Prim.Native.Nat.{ℕ, zero, suc, ◌+◌, ◌*◌, ◌^◌, ◌≤◌, ◌<◌}
use mathlib.Core.Bool.{Bool, true, false, ◌&&◌, ◌||◌}
use mathlib.Core.List.{List}
use mathlib.Core.Path.{◌≡◌, refl, sym, ap, ◌∙◌, subst}
use native.Mathlib.Omega.{arith}
use lib.ListN.{length}
use Rattle.definitions.specs.Bytes.{Text, any}
use Rattle.definitions.specs.Record.{on_found}
use Rattle.definitions.specs.Sizes.{Schema, Entry, Annotated, same_name, new_schema}
use Rattle.definitions.specs.Refusals.{number, too_large, large_field, large_row, large_entry, static_sum, large, ragged, misstated, is_frame}
use Rattle.definitions.specs.Tables.{encode}
use Rattle.definitions.specs.FieldParser.{Outcome, refused, lower_fields}
use Rattle.definitions.specs.Answer.{lower_target, lower_in}
use Rattle.definitions.specs.All.{Outcomes, refused_all, lower_each, lowered_all}
use Rattle.definitions.specs.declared.Head.{Head}
use Rattle.definitions.specs.declared.Part.{Part}
use Rattle.definitions.specs.declared.Refusal.{Refusal}
use Rattle.bits.proofs.Booleans.{or_left, or_right}
use Rattle.tables.specs.Tables.{count_here, declarations_from, Tables, tables_of}
use Rattle.tables.proofs.Sized.{count-sized}
use Rattle.schema.specs.Entries.{entry_in, entries_from, entry_sizes, next_entry, put_row, sized_rows}
use Rattle.schema.specs.declared.RowSizes.{RowSizes}
use Rattle.sizes.specs.Answers.{target_from, target_or, behind_whole, behind_schema, check_sizes, Checked}
use Rattle.sizes.proofs.Targets.{lower-target}
use Rattle.sizes.proofs.Fine.{entry-fine}
use Rattle.emits.specs.Target.{setting_at, rest_at, Fine}
use Rattle.targets.specs.Told.{tell_each, AllFine}
use Rattle.targets.proofs.Sections.{rest_all}
use Rattle.lowering.specs.Steps.{Gives, Answers, AnswersTold, Short, Few, lower_sized, all_sized, sized_for}
use Rattle.lowering.specs.declared.Wanted.{Wanted}
use Rattle.lowering.proofs.Passes.{refuses-all, refuses-each, each-answers}

-- ---- what `check_sizes` answers

-- a target: 7 is not met, and 9 is not
chosen : (s : Text) (h : Head) (schema : Schema) (i : ℕ) → check_sizes s h schema ≡ Ok i
    → (large schema ≡ false) × (target_from s h.target 0 schema ≡ Some i)
unfolding check_sizes behind_schema behind_whole
chosen s h schema i = by (large schema) (ragged s schema) (misstated schema) (target_from s h.target 0 schema)
  where
    by : (b d e : Bool) (f : Option ℕ)
        → ◌≡◌ {A = Result ℕ Refusal} (elim b [
          | true ↦ Err Refusal.TooLarge
          | false ↦ elim d [
            | true ↦ Err Refusal.NotWholeBytes
            | false ↦ elim e [ true ↦ Err Refusal.Misstated | false ↦ target_or f ]
          ]
        ]) (Ok i)
        → (b ≡ false) × (f ≡ Some i)
    by true d e f k = absurd (let z : ◌≡◌ {A = ℕ} 0 1 = cc in omega arith)
    by false true e f k = absurd (let z : ◌≡◌ {A = ℕ} 0 1 = cc in omega arith)
    by false false true f k = absurd (let z : ◌≡◌ {A = ℕ} 0 1 = cc in omega arith)
    by false false false (Some j) k = (refl, (let q : j ≡ i = cc in ap Some q))
    by false false false None k = absurd (let z : ◌≡◌ {A = ℕ} 0 1 = cc in omega arith)

-- the target's index is one of the table's
within : (s : Text) (name : Part) (rows v f : List ℕ) (j m i : ℕ) → target_from s name j (entries_from s rows v f j m) ≡ Some i → i < j + m
unfolding target_from entries_from
within s name rows v f j zero i e = absurd (let z : ◌≡◌ {A = ℕ} 0 1 = cc in omega arith)
within s name rows v f j (suc m) i e =
    by (same_name s (entry_in s rows v f j).row.decl.id name && is_frame (entry_in s rows v f j).row.decl.desc) e
    (λ k. within s name rows v f (j + 1) m i k)
  where
    by : (b : Bool) → ◌≡◌ {A = Option ℕ} (elim b [ true ↦ Some j | false ↦ target_from s name (j + 1) (entries_from s rows v f (j + 1) m) ]) (Some i)
        → (target_from s name (j + 1) (entries_from s rows v f (j + 1) m) ≡ Some i → i < j + 1 + m) → i < j + suc m
    by true k further = let q : j ≡ i = cc in omega arith
    by false k further = omega (arith, further k)

sized-refused : (s : Text) (h : Head) (schema : Schema) (why : Refusal) → check_sizes s h schema ≡ Err why → lower_sized s h schema ≡ refused why
unfolding lower_sized
sized-refused s h schema why e = rw (e, lower_sized)

sized-target : (s : Text) (h : Head) (schema : Schema) (i : ℕ) → check_sizes s h schema ≡ Ok i → lower_sized s h schema ≡ lower_in s h schema
unfolding lower_sized
sized-target s h schema i e = rw (e, lower_sized)

all-refused : (s : Text) (h : Head) (schema : Schema) (why : Refusal) → check_sizes s h schema ≡ Err why → all_sized s h schema ≡ refused_all why
unfolding all_sized
all-refused s h schema why e = rw (e, all_sized)

all-target : (s : Text) (h : Head) (schema : Schema) (i : ℕ) → check_sizes s h schema ≡ Ok i → all_sized s h schema ≡ lower_each s h schema
unfolding all_sized
all-target s h schema i e = rw (e, all_sized)

-- the numbers of fields stay as they were
count_left : (s rows v f : List ℕ) (j m i : ℕ) → count_here (sized_rows s rows v f j m) i ≡ count_here rows i
unfolding sized_rows
count_left s rows v f j zero i = refl
count_left s rows v f j (suc m) i = by (large_entry (next_entry s rows v f j)) (count_left s next v f (j + 1) m i)
  where
    sizes : RowSizes
    sizes = entry_sizes (next_entry s rows v f j)

    next : List ℕ
    next = put_row rows j sizes

    by : (b : Bool) → count_here (sized_rows s next v f (j + 1) m) i ≡ count_here next i
        → count_here (elim b [ true ↦ rows | false ↦ sized_rows s next v f (j + 1) m ]) i ≡ count_here rows i
    by true k = refl
    by false k = k ∙ count-sized rows j (encode sizes.own) (encode sizes.parent) (encode sizes.payload) i

-- ---- over the tables of n declarations, with the rows `rows` that the sizes were written into

module _ (s : Text) (h : Head) (before v f : List ℕ) (n : ℕ) (rows : List ℕ) {x : Result ℕ Refusal} (k : Checked s h before v f n rows x) where
  abbrev tables : Tables
  tables = tables_of s rows v f

  abbrev schema : Schema
  schema = new_schema s (declarations_from before v f 0 n)

  pub check-refused : (wanted : Wanted) → {why : Refusal} → x ≡ Err why → {out : Text} {r : ℕ} → r ≡ number why * 2 ^ 32
      → Gives (sized_for wanted (length out) s h schema) out r out
  unfolding sized_for
  check-refused wanted {why} hx {out} {r} e = by wanted
    where
      turned : check_sizes s h schema ≡ Err why
      turned = sym k.answer ∙ hx

      by : (w : Wanted) → Gives (sized_for w (length out) s h schema) out r out
      by Wanted.Target = subst (λ (o : Outcome). Answers o out r out) (sym (sized-refused s h schema why turned)) (refuses-all why out e)
      by Wanted.All =
          subst (λ (o : Outcomes). Gives (lowered_all (length out) o) out r out) (sym (all-refused s h schema why turned)) (refuses-each why out e)

  module _ {i : ℕ} (hx : x ≡ Ok i) where
    is-chosen : (large schema ≡ false) × (target_from s h.target 0 schema ≡ Some i)
    is-chosen = chosen s h schema i (sym k.answer ∙ hx)

    same : entries_from s rows v f 0 n ≡ schema
    same = k.tables is-chosen.0

    found : target_from s h.target 0 (entries_from s rows v f 0 n) ≡ Some i
    found = ap (target_from s h.target 0) same ∙ is-chosen.1

    target-within : i < n
    target-within = omega (arith, within s h.target rows v f 0 n i found)

    -- ---- each declaration is behind 3 and 7

    module _ (few : Few before n) where
      fine-at : (j : ℕ) → j < n → Fine tables j (count_here rows j)
      fine-at j w = record {
        few = omega (arith, few.fields j w, ap (λ (l : List ℕ). count_here l j) k.left, count_left s before v f 0 n j);
        sizes =
            ap (any large_field) (rest_all tables j)
            ∙ or_left (any large_field entry.fields) (large_row entry.row)
            (or_left (any large_field entry.fields || large_row entry.row) (too_large (static_sum entry.fields)) not-large);
        sum =
            ap (λ (xs : List Annotated). too_large (static_sum xs)) (rest_all tables j)
            ∙ or_right (any large_field entry.fields || large_row entry.row) (too_large (static_sum entry.fields)) not-large;
      }
        where
          entry : Entry
          entry = entry_in s rows v f j

          not-large : large_entry entry ≡ false
          not-large = entry-fine s rows v f n j w (ap large same ∙ is-chosen.0)

      pub target-fine : {m : ℕ} → m ≡ count_here rows i → Fine tables i m
      target-fine e = subst (λ (m : ℕ). Fine tables i m) (sym e) (fine-at i target-within)

      pub all-fine : length s ≤ 16384 → AllFine tables n
      all-fine short = record { short = short; few = few.declarations; fine = fine-at }

    -- ---- the target's lines, or all sections, are the record's

    abbrev count : ℕ
    count = count_here rows i

    target-lowered : lower_fields (setting_at tables i count h.options) (rest_at tables i count 0) ≡ lower_sized s h schema
    target-lowered =
        ap (lower_fields (setting_at tables i count h.options)) (rest_all tables i)
        ∙ sym (ap (λ (r : Option ℕ). on_found r (refused Refusal.NoTarget) (λ k. lower_target s h (entry_in s rows v f k))) found)
        ∙ sym (lower-target s h rows v f 0 n)
        ∙ ap (lower_in s h) same
        ∙ sym (sized-target s h schema i (sym k.answer ∙ hx))

    pub target-short : Short (lower_sized s h schema) → {m : ℕ} → m ≡ count → Short (lower_fields (setting_at tables i m h.options) (rest_at tables i m 0))
    target-short short e =
        subst (λ (m : ℕ). Short (lower_fields (setting_at tables i m h.options) (rest_at tables i m 0))) (sym e) (subst Short (sym target-lowered) short)

    pub target-answers : {wanted : Wanted} → wanted ≡ Wanted.Target → {m : ℕ} → m ≡ count → {out left : Text} {r : ℕ}
        → Answers (lower_fields (setting_at tables i m h.options) (rest_at tables i m 0)) out r left
        → Gives (sized_for wanted (length out) s h schema) out r left
    unfolding sized_for
    target-answers ew {m} e {out} {left} {r} a =
        subst (λ (w : Wanted). Gives (sized_for w (length out) s h schema) out r left) (sym ew)
        (subst (λ (o : Outcome). Answers o out r left) target-lowered
        (subst (λ (m : ℕ). Answers (lower_fields (setting_at tables i m h.options) (rest_at tables i m 0)) out r left) e a))

    pub all-answers : {wanted : Wanted} → wanted ≡ Wanted.All → {out left : Text} {r : ℕ}
        → AnswersTold (tell_each s h.options (entries_from s rows v f 0 n)) out r left
        → Gives (sized_for wanted (length out) s h schema) out r left
    unfolding sized_for
    all-answers ew {out} {left} {r} a =
        subst (λ (w : Wanted). Gives (sized_for w (length out) s h schema) out r left) (sym ew)
        (subst (λ (o : Outcomes). Gives (lowered_all (length out) o) out r left)
        (ap (lower_each s h) same ∙ sym (all-target s h schema i (sym k.answer ∙ hx)))
        (each-answers s h (entries_from s rows v f 0 n) a))
