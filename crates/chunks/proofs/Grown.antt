-- A chunk with one field more: its bits are those before and the field's.
-- Assumes nothing.
use mathlib.Core.List.{List, [], ◌∷◌, ◌++◌}
use mathlib.Core.Path.{◌≡◌, refl, ap, ◌∙◌}
use Prim.Native.Nat.{ℕ, zero, suc, ◌+◌, ◌≤◌, ◌<◌}
use native.Mathlib.Numerals.{add-one}
use native.Mathlib.Omega.{arith}
use lib.ListN.{length, get_or}
use lib.Seq.{get_or-set_same, get_or-set_other}
use lib.ListN.{set}
use Rattle.definitions.specs.Bytes.{Text}
use Rattle.definitions.specs.Blocks.{Bit}
use Rattle.definitions.specs.declared.Arrays.{Arrays}
use Rattle.bit_fields.specs.declared.KindAt.{KindAt}
use Rattle.bit_fields.specs.Kinds.{kind_in}
use Rattle.chunk_lines.specs.declared.Chunk.{Chunk}
use Rattle.chunk_lines.specs.Bits.{sum_to, bit_at, bits_of}
use Rattle.chunks.specs.Steps.{pushed}

-- the sum of the widths
module _ (ws : List ℕ) (len width : ℕ) where
  sum-before : (n : ℕ) → n ≤ len → sum_to (set ws len width) n ≡ sum_to ws n
  unfolding sum_to
  sum-before zero h = refl
  sum-before (suc n) h =
      let other : n ≡ len → ⊥ = λ q. omega arith in
      ap (λ (x : ℕ). x + get_or (set ws len width) n 0) (sum-before n (omega arith))
      ∙ ap (λ (x : ℕ). sum_to ws n + x) (get_or-set_other ws len n width 0 other)

  pub sum_more : len < length ws → sum_to (set ws len width) (len + 1) ≡ sum_to ws len + width
  unfolding sum_to
  sum_more h =
      ap (sum_to (set ws len width)) (add-one len)
      ∙ ap (λ (x : ℕ). x + get_or (set ws len width) len 0) (sum-before len (omega arith))
      ∙ ap (λ (x : ℕ). sum_to ws len + x) (get_or-set_same ws len width 0 h)

module _ (m : Arrays) (s word : Text) (c : Chunk) (kinds : List KindAt) (kind : KindAt) (shift width : ℕ) where
  abbrev d : Chunk
  d = pushed c shift width

  abbrev held : List KindAt
  held = set kinds c.len kind

  abbrev none : KindAt
  none = KindAt.Reserved

  -- one bit, from its shift, width and kind
  abbrev bit : ℕ → ℕ → KindAt → Bit
  bit x y z = record { shift = x; width = y; kind = kind_in m s word z }

  before : (n : ℕ) → n ≤ c.len → bits_of m s word d held n ≡ bits_of m s word c kinds n
  unfolding bits_of
  before zero h = refl
  before (suc n) h =
      let other : n ≡ c.len → ⊥ = λ q. omega arith in
      ap (λ (l : List Bit). l ++ (bit_at m s word d held n ∷ [])) (before n (omega arith))
      ∙ ap (λ (x : ℕ). bits_of m s word c kinds n ++ (bit x (get_or d.widths n 0) (get_or held n none) ∷ []))
      (get_or-set_other c.shifts c.len n shift 0 other)
      ∙ ap (λ (x : ℕ). bits_of m s word c kinds n ++ (bit (get_or c.shifts n 0) x (get_or held n none) ∷ []))
      (get_or-set_other c.widths c.len n width 0 other)
      ∙ ap (λ (x : KindAt). bits_of m s word c kinds n ++ (bit (get_or c.shifts n 0) (get_or c.widths n 0) x ∷ []))
      (get_or-set_other kinds c.len n kind none other)

  pub grown-bits : c.len < length c.shifts → c.len < length c.widths → c.len < length kinds
      → bits_of m s word d held (c.len + 1) ≡ bits_of m s word c kinds c.len ++ (record { shift = shift; width = width; kind = kind_in m s word kind } ∷ [])
  unfolding bits_of
  grown-bits hs hw hk =
      ap (bits_of m s word d held) (add-one c.len)
      ∙ ap (λ (l : List Bit). l ++ (bit_at m s word d held c.len ∷ [])) (before c.len (omega arith))
      ∙ ap (λ (x : ℕ). bits_of m s word c kinds c.len ++ (bit x (get_or d.widths c.len 0) (get_or held c.len none) ∷ []))
      (get_or-set_same c.shifts c.len shift 0 hs)
      ∙ ap (λ (x : ℕ). bits_of m s word c kinds c.len ++ (bit shift x (get_or held c.len none) ∷ []))
      (get_or-set_same c.widths c.len width 0 hw)
      ∙ ap (λ (x : KindAt). bits_of m s word c kinds c.len ++ (bit shift width x ∷ []))
      (get_or-set_same kinds c.len kind none hk)
