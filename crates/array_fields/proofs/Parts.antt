-- What each part of an array's block is.
-- Assumes nothing.
use Rattle.std.specs.Prelude.{Option}
use Prim.Native.Nat.{ℕ, ◌<◌}
use mathlib.Core.List.{List}
use mathlib.Core.Path.{◌≡◌, ap, ◌∙◌}
use Rattle.definitions.specs.Sizes.{element_size, array_size}
use Rattle.definitions.specs.declared.ArraySize.{ArraySize}
use Rattle.definitions.specs.declared.ElementSize.{ElementSize}
use Rattle.bits.specs.Capped.{capped_number}
use Rattle.elements.specs.declared.Element.{Element}
use Rattle.emits.specs.declared.BlockAt.{BlockAt}
use Rattle.tables.specs.Tables.{Tables, tables_of, rows_of, fields_of}
use Rattle.emits.specs.Target.{annotated_at, Fine}
use Rattle.emits.proofs.Fines.{read-padding}
use Rattle.array_fields.specs.declared.ArrayField.{ArrayField}
use Rattle.array_fields.specs.Arrays.{element_at, bytes_of, array_at}

-- ---- the padding

module _ (s rows values fields : List ℕ) (i n k : ℕ) where
  abbrev tables : Tables
  tables = tables_of s rows values fields

  pub padding-bytes : Fine tables i n → k < n → {p : Option ℕ} → p ≡ capped_number (annotated_at tables i n k).padded_size → {r : Option ℕ} → r ≡ bytes_of p
      → r ≡ bytes_of (annotated_at tables i n k).padded_size
  padding-bytes fine h ep er = er ∙ ap bytes_of (read-padding s rows values fields i n fine k h ep)

  -- ---- the block

  pub array_made : (a : ArrayField) {padding : Option ℕ} → padding ≡ bytes_of (annotated_at tables i n k).padded_size
      → {element : Element} → element ≡ element_at s (rows_of tables i) a.endianness a.width a.type_id
      → {e : ElementSize} → e ≡ element_size s (rows_of tables i) (fields_of tables i n) a.id a.width a.type_id
      → {m : ArraySize} → m ≡ array_size s (fields_of tables i n) a.id a.size
      → BlockAt.Array padding a.id a.type_id element a.size_modifier e m
      ≡ array_at s (rows_of tables i) (fields_of tables i n) (annotated_at tables i n k).padded_size a
  unfolding array_at
  array_made a ep ee es em = rw (ep, ee, es, em)
