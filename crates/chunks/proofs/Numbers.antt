-- The number of the next chunk, the answers of `get_cxx_scalar_type`, and a run's check.
-- Assumes nothing.
use Rattle.std.specs.Prelude.{Option, Some, None}
use mathlib.Core.Bool.{Bool, true, false, not}
use mathlib.Core.List.{List, [], ◌∷◌, ◌++◌}
use mathlib.Core.Path.{◌≡◌, refl, sym, ap, ◌∙◌}
use Prim.Native.Nat.{ℕ, ◌+◌, ◌≤◌, ◌<◌}
use native.Mathlib.Omega.{arith}
use lib.Dec.{ltb}
use lib.ListN.{length}
use borrow.Author.Tests.{ltb-true, ltb-false}
use Rattle.definitions.specs.Bytes.{Text, text, pick, decimal}
use Rattle.definitions.specs.Blocks.{Bit, should_skip_value, get_cxx_scalar_type}
use Rattle.definitions.specs.FieldParser.{next_nr}
use Rattle.definitions.specs.declared.Arrays.{Arrays}
use Rattle.stream.specs.Stream.{check_text}
use Rattle.text.specs.Wrote.{Wrote}
use Rattle.text.specs.declared.Writer.{Writer}
use Rattle.text.specs.Widths.{scalar_type_of}
use Rattle.chunk_lines.specs.declared.Chunk.{Chunk}
use Rattle.bit_fields.specs.declared.KindAt.{KindAt}
use Rattle.chunk_lines.specs.Bits.{all_reserved, bits_of}
use Rattle.chunk_lines.proofs.Fields.{bits-length, bits-skip}
use Rattle.chunks.specs.Steps.{next_by}

-- ---- the number of the next chunk

-- it is that of the definitions
next-many : (nr : ℕ) (bs : List Bit) → 1 < length bs → next_by (should_skip_value bs) nr ≡ next_nr nr bs
next-many nr [] h = absurd (omega arith)
next-many nr (b ∷ []) h = absurd (omega arith)
next-many nr (b ∷ d ∷ bs) h = by (should_skip_value (b ∷ d ∷ bs))
  where
    by : (x : Bool) → next_by x nr ≡ pick x nr (nr + 1)
    by true = refl
    by false = refl

pub next_of : (m : Arrays) (s word : Text) (c : Chunk) (kinds : List KindAt) (nr : ℕ) {b : Bool} → b ≡ all_reserved kinds c.len → 1 < c.len
    → next_by b nr ≡ next_nr nr (bits_of m s word c kinds c.len)
next_of m s word c kinds nr e h =
    ap (λ (x : Bool). next_by x nr) (e ∙ sym (bits-skip m s word c kinds c.len))
    ∙ next-many nr (bits_of m s word c kinds c.len) (omega (arith, h, bits-length m s word c kinds c.len))

-- ---- the scalar type

module _ (w : ℕ) where
  abbrev type_by : Bool → Option ℕ
  type_by b = elim b [ true ↦ None | false ↦ Some (get_cxx_scalar_type w) ]

  type-by : scalar_type_of w ≡ type_by (ltb 64 w)
  unfolding scalar_type_of
  type-by = refl

  wide : (b : Bool) → None ≡ type_by b → b ≡ true
  wide true e = refl
  wide false e = let z : ◌≡◌ {A = ℕ} 0 1 = cc in absurd (omega arith)

  narrow : (b : Bool) (bits : ℕ) → Some bits ≡ type_by b → (b ≡ false) × (bits ≡ get_cxx_scalar_type w)
  narrow true bits e = let z : ◌≡◌ {A = ℕ} 0 1 = cc in absurd (omega arith)
  narrow false bits e = (refl, cc)

  pub too_wide : {r : Option ℕ} → r ≡ scalar_type_of w → r ≡ None → 64 < w
  too_wide e h = ltb-true 64 w (wide (ltb 64 w) (sym h ∙ e ∙ type-by))

  pub has-type : (bits : ℕ) {r : Option ℕ} → r ≡ scalar_type_of w → r ≡ Some bits → (w ≤ 64) × (bits ≡ get_cxx_scalar_type w)
  has-type bits e h =
      let p : (ltb 64 w ≡ false) × (bits ≡ get_cxx_scalar_type w) = narrow (ltb 64 w) bits (sym h ∙ e ∙ type-by) in
      (ltb-false 64 w p.0, p.1)

-- ---- `check_size`

pub check_first : (n : ℕ) (b : Bool) {u u₁ : Writer} → not b ≡ true
    → Wrote u u₁ (text "if (span.size() < " ++ (decimal n ++ text ") {\n    return false;\n}\n")) → Wrote u u₁ (check_text b n)
unfolding check_text
check_first n false e p = p
check_first n true e p = let z : ◌≡◌ {A = ℕ} 0 1 = cc in absurd (omega arith)
