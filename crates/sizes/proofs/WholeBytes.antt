-- Refusal 8: kind by kind, field by field, declaration by declaration.
-- Assumes nothing.
use Rattle.std.specs.Prelude.{Option, None}
use Prim.Native.Nat.{ℕ, ◌+◌, ◌*◌, ◌/◌, ◌<◌}
use mathlib.Core.Bool.{Bool, false}
use mathlib.Core.List.{List}
use mathlib.Core.Path.{◌≡◌, refl, sym, ap, ◌∙◌}
use native.Mathlib.Omega.{arith}
use lib.ListN.{get_or}
use Rattle.definitions.specs.Bytes.{Text, any}
use Rattle.definitions.specs.Sizes.{Row, Entry}
use Rattle.definitions.specs.Refusals.{is_optional, ragged_desc, ragged_field}
use Rattle.definitions.specs.declared.Condition.{Condition}
use Rattle.definitions.specs.declared.FieldDesc.{FieldDesc}
use Rattle.tables.specs.Tables.{count_here, field_here, fields_from, rows_from}
use Rattle.tables.proofs.Walks.{Indexed}
use Rattle.tables.proofs.FieldKinds.{kind_of, kind-read}
use Rattle.schema.specs.Entries.{entry_in, entries_from}
use Rattle.sizes.specs.Answers.{ragged_fields}

-- ---- a field by the number of its kind

module _ (s : Text) (rows : List Row) where
  -- without a condition only an array is ragged
  whole : (d : FieldDesc) → kind_of d < 13 → false ≡ ragged_desc s rows false d
  whole (FieldDesc.Checksum of) h = refl
  whole (FieldDesc.Padding size) h = refl
  whole (FieldDesc.Size of width) h = refl
  whole (FieldDesc.Count of width) h = refl
  whole (FieldDesc.ElementSize of width) h = refl
  whole FieldDesc.Body h = refl
  whole (FieldDesc.Payload modifier) h = refl
  whole (FieldDesc.FixedScalar width value) h = refl
  whole (FieldDesc.FixedEnum type tag) h = refl
  whole (FieldDesc.Reserved width) h = refl
  whole (FieldDesc.Array id width type modifier size) h = absurd (omega arith)
  whole (FieldDesc.Scalar id width) h = refl
  whole (FieldDesc.Flag id) h = refl
  whole (FieldDesc.Typedef id type) h = refl

  module _ (values : List ℕ) (at : ℕ) where
    pub here-whole : {kind : ℕ} → kind ≡ get_or values (at / 16 * 17 + 1) 0 → kind < 13 → {c : Option Condition} → c ≡ (field_here values at).cond
        → c ≡ None → false ≡ ragged_field s rows (field_here values at)
    here-whole ek h {c} ec hc =
        whole (field_here values at).desc (omega (arith, kind-read values at))
        ∙ ap (λ (c : Option Condition). ragged_desc s rows (is_optional c) (field_here values at).desc) (sym hc ∙ ec)

-- ---- the entries that the tables give, from the i-th on

module _ (s rows v f : List ℕ) where
  pub entries : Indexed (entry_in s rows v f) (entries_from s rows v f)
  unfolding entries_from
  entries = record { none = λ i. refl; more = λ i m. refl }

  abbrev pub ragged_entry : Entry → Bool
  ragged_entry e = any (ragged_field s e.earlier) e.declaration.fields

  pub entry-tested : (i : ℕ) {m : ℕ} → m ≡ count_here rows i → {b : Bool} → b ≡ ragged_fields s (rows_from rows 0 i) (fields_from v f (i * 64) m)
      → b ≡ ragged_entry (entry_in s rows v f i)
  unfolding ragged_fields
  entry-tested i em eb = eb ∙ ap (λ (m : ℕ). ragged_fields s (rows_from rows 0 i) (fields_from v f (i * 64) m)) em
