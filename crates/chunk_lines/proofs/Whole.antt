-- The lines of a closed chunk, by its ways: a skip, a read into its one field, a read into a variable.
-- Assumes nothing.
use mathlib.Core.Bool.{Bool, true, false, ◌&&◌}
use mathlib.Core.List.{List, [], ◌∷◌, ◌++◌, append_assoc}
use mathlib.Core.Path.{◌≡◌, refl, sym, ap, ◌∙◌}
use Prim.Native.Nat.{ℕ, ◌/◌, ◌≤◌}
use native.Mathlib.Omega.{arith}
use lib.ListN.{length}
use Rattle.definitions.specs.Bytes.{Text, text, decimal}
use Rattle.definitions.specs.Lines.{Line, Before, src_text, line_text, lines_text}
use Rattle.definitions.specs.Blocks.{Bit, should_skip_value, raws_behind, bits_lines, chunk_name, widths, read_lines, read_of, get_cxx_scalar_type, span}
use Rattle.definitions.specs.Blocks as blocks
use Rattle.definitions.specs.declared.Options.{Options}
use Rattle.definitions.specs.declared.EndiannessValue.{EndiannessValue}
use Rattle.stream.specs.Stream.{chunk_text}
use Rattle.stream.proofs.Texts.{line-leads}
use Rattle.text.specs.Wrote.{Wrote}
use Rattle.text.specs.declared.Writer.{Writer}
use Rattle.text.proofs.Wrotes.{then, alike}
use Rattle.bit_fields.specs.declared.KindAt.{KindAt}
use Rattle.bit_fields.specs.declared.Source.{Source}
use Rattle.bit_fields.specs.Kinds.{raw_text, kind_text}
use Rattle.chunk_lines.specs.declared.Chunk.{Chunk}
use Rattle.chunk_lines.specs.declared.WholeChunk.{WholeChunk}
use Rattle.chunk_lines.specs.Bits.{is_reserved_at, alone_of, bits_of, bits_text, head_text, skip_text, chunk_of, Closed}
use Rattle.chunk_lines.proofs.Fields.{same-reserved, skip-raws, bits-length, bits-skip, bits-widths}

pub head-line : (order : EndiannessValue) (nr backing w : ℕ) {u u₁ u₂ u₃ : Writer}
    → Wrote u u₁ (text "uint" ++ (decimal backing ++ text "_t chunk")) → Wrote u₁ u₂ ([] ++ (decimal nr ++ []))
    → Wrote u₂ u₃ (text " = " ++ src_text (read_of (text "span") order w) (text ";\n")) → Wrote u u₃ (head_text order nr backing w)
unfolding head_text
head-line order nr backing w p q s = alike (simp append_assoc) (then p (then q s))

-- two fields or more are read into a variable
read-many : (o : Options) (nr raws w : ℕ) (bs : List Bit) → 2 ≤ length bs
    → read_lines o nr raws w bs
    ≡ Line.set (Before.chunk (get_cxx_scalar_type w)) (chunk_name nr) (read_of span o.endianness w) ∷ bits_lines o.raw (chunk_name nr) raws bs
read-many o nr raws w [] h = absurd (omega arith)
read-many o nr raws w (b ∷ []) h = absurd (omega arith)
read-many o nr raws w (b ∷ d ∷ bs) h = refl

module _ (o : Options) (c : blocks.Chunk) where
  skip-text : should_skip_value c.fields ≡ true → chunk_text o c ≡ line_text 0 (Line.reserved span (widths c.fields / 8)) []
  unfolding chunk_text
  skip-text e = rw e

  read-text : should_skip_value c.fields ≡ false
      → chunk_text o c ≡ lines_text 0 (read_lines o c.nr c.raw_nr (widths c.fields) c.fields) []
  unfolding chunk_text
  read-text e = rw e

-- `span.skip(N); // skip reserved fields`
pub skip-line : (bits : ℕ) {u u₁ : Writer} → Wrote u u₁ (text "span.skip(" ++ (decimal (bits / 8) ++ text "); // skip reserved fields\n"))
    → Wrote u u₁ (skip_text bits)
unfolding skip_text
skip-line bits p = p

-- ---- a chunk of one field

module _ (o : Options) (s word : Text) (raws width : ℕ) (kind : KindAt) {b : Bool} (a : b ≡ is_reserved_at kind) where
  abbrev alone : List Bit
  alone = alone_of o.arrays s word width kind

  and-true : (x : Bool) → (x && true) ≡ x
  and-true true = refl
  and-true false = refl

  skip_is : should_skip_value alone ≡ b
  skip_is = and-true _ ∙ same-reserved o.arrays s word kind ∙ sym a

  width_is : width ≡ widths alone
  width_is = omega arith

  pub alone-skip : b ≡ true → {u u₁ : Writer} → Wrote u u₁ (skip_text width) → (nr : ℕ) → Wrote u u₁ (chunk_text o (chunk_of nr raws alone))
  unfolding skip_text
  alone-skip e p nr = alike (ap skip_text width_is ∙ sym (skip-text o (chunk_of nr raws alone) (skip_is ∙ e))) p

  abbrev text_of : ℕ → Text
  text_of k = kind_text o.arrays s word (record { raw = o.raw; nr = raws }) (Source.Read o.endianness k) kind

  pub alone-read : b ≡ false → {u u₁ : Writer} → Wrote u u₁ (text_of width) → (nr : ℕ) → Wrote u u₁ (chunk_text o (chunk_of nr raws alone))
  unfolding kind_text raw_text
  alone-read e p nr = alike (ap text_of width_is ∙ sym (read-text o (chunk_of nr raws alone) (skip_is ∙ e))) p

-- ---- a larger one

module _ (o : Options) (s word : Text) (c : Chunk) (kinds : List KindAt) (whole : WholeChunk) (z : Closed c kinds whole) where
  abbrev fields : List Bit
  fields = bits_of o.arrays s word c kinds c.len

  abbrev chunk : blocks.Chunk
  chunk = chunk_of whole.nr whole.raws fields

  sum : whole.bits ≡ widths fields
  sum = z.sum ∙ sym (bits-widths o.arrays s word c kinds c.len)

  skips-as : {b : Bool} → whole.skip ≡ b → should_skip_value fields ≡ b
  skips-as e = bits-skip o.arrays s word c kinds c.len ∙ sym z.skips ∙ e

  pub chunk-skip : whole.skip ≡ true → {u u₁ : Writer} → Wrote u u₁ (skip_text whole.bits) → Wrote u u₁ (chunk_text o chunk)
  unfolding skip_text
  chunk-skip e p = alike (ap skip_text sum ∙ sym (skip-text o chunk (skips-as e))) p

  -- a chunk that is skipped has no tested enum
  pub raws-skip : whole.skip ≡ true → whole.raws ≡ raws_behind whole.raws fields
  raws-skip e = sym (skip-raws whole.raws fields (skips-as e))

  abbrev first : ℕ → Line
  first w = Line.set (Before.chunk (get_cxx_scalar_type w)) (chunk_name whole.nr) (read_of span o.endianness w)

  abbrev rest : Text
  rest = bits_text o s word whole c kinds c.len

  pub chunk-many : whole.skip ≡ false → {u u₁ u₂ : Writer}
      → Wrote u u₁ (head_text o.endianness whole.nr whole.backing whole.bits)
      → Wrote u₁ u₂ rest → Wrote u u₂ (chunk_text o chunk)
  unfolding head_text bits_text
  chunk-many e p q =
      alike
      (ap (λ (k : ℕ). head_text o.endianness whole.nr k whole.bits ++ rest) z.type
      ∙ ap (λ (k : ℕ). head_text o.endianness whole.nr (get_cxx_scalar_type k) k ++ rest) sum
      ∙ sym ((line-leads 0 (first (widths fields))).split [] rest)
      ∙ ap (λ (x : List Line). lines_text 0 x [])
      (sym (read-many o whole.nr whole.raws (widths fields) fields
      (omega (arith, bits-length o.arrays s word c kinds c.len, z.more))))
      ∙ sym (read-text o chunk (skips-as e)))
      (then p q)
