-- Each line of a bit field, from the pieces that are written one after the other.
-- Assumes nothing.
use mathlib.Core.List.{[], ◌∷◌, ◌++◌, append_assoc}
use mathlib.Core.Path.{◌≡◌, sym, ap, ◌∙◌}
use Prim.Native.Nat.{ℕ}
use Rattle.definitions.specs.Bytes.{Text, text, decimal, hexadecimal}
use Rattle.definitions.specs.Lines.{Test, Before, Line, src_text, lines_text}
use Rattle.definitions.specs.Blocks.{named, read_of}
use Rattle.definitions.specs.declared.Arrays.{Arrays}
use Rattle.definitions.specs.declared.EndiannessValue.{EndiannessValue}
use Rattle.stream.proofs.Texts.{src-leads, lines-leads}
use Rattle.text.specs.Wrote.{Wrote}
use Rattle.text.specs.declared.Writer.{Writer}
use Rattle.text.proofs.Wrotes.{then, alike}
use Rattle.definitions.specs.declared.Raw.{Raw}
use Rattle.bit_fields.specs.declared.RawValue.{RawValue}
use Rattle.bit_fields.specs.declared.Source.{Source}
use Rattle.bit_fields.specs.Kinds.{source_in, source_text, set_text, condition_text, open_enum_text, raw_text, tested_text, closed_enum_text, fixed_scalar_text, fixed_enum_text}

-- the variable of a tested enum
module _ (x : RawValue) where
  pub raw-plain : (a t : Text) {u u₁ : Writer} → x.raw ≡ Raw.Plain → Wrote u u₁ (a ++ (text "raw_value" ++ t))
      → Wrote u u₁ (a ++ (raw_text x ++ t))
  unfolding raw_text
  raw-plain a t e p = rw e p

  pub raw-numbered : (a t : Text) {u u₁ u₂ : Writer} → x.raw ≡ Raw.Numbered → Wrote u u₁ a
      → Wrote u₁ u₂ (text "raw_value" ++ (decimal x.nr ++ t)) → Wrote u u₂ (a ++ (raw_text x ++ t))
  unfolding raw_text
  raw-numbered a t e p q = rw e (alike (simp append_assoc) (then p q))

module _ (v : Source) where
  pub source-read : (a t : Text) (order : EndiannessValue) (w : ℕ) {u u₁ : Writer} → v ≡ Source.Read order w
      → Wrote u u₁ (a ++ src_text (read_of (text "span") order w) t) → Wrote u u₁ (a ++ source_text v t)
  unfolding source_text
  source-read a t order w e p = rw e p

  pub source-bits : (a t : Text) (nr shift mask : ℕ) {u u₁ u₂ u₃ u₄ : Writer} → v ≡ Source.Bits nr shift mask → Wrote u u₁ a
      → Wrote u₁ u₂ (text "(chunk" ++ (decimal nr ++ text " >> ")) → Wrote u₂ u₃ ([] ++ (decimal shift ++ text ") & "))
      → Wrote u₃ u₄ ([] ++ (hexadecimal mask ++ t)) → Wrote u u₄ (a ++ source_text v t)
  unfolding source_text
  source-bits a t nr shift mask e p q s u = rw e (alike (simp append_assoc) (then p (then q (then s u))))

  split : (a t : Text) → source_text v (a ++ t) ≡ source_text v a ++ t
  unfolding source_text
  split a t = (src-leads (source_in v)).split a t

  pub set_line : (m : Arrays) (name end : Text) {u u₁ u₂ : Writer} → Wrote u u₁ (named m name end)
      → Wrote u₁ u₂ (text " = " ++ source_text v (text ";\n")) → Wrote u u₂ (set_text m name end v)
  unfolding source_text set_text
  set_line m name end p q = then p q

  pub condition-line : (name : Text) {u u₁ u₂ : Writer} → Wrote u u₁ (text "uint8_t " ++ (name ++ text " = "))
      → Wrote u₁ u₂ ([] ++ source_text v (text ";\n")) → Wrote u u₂ (condition_text name v)
  unfolding source_text condition_text
  condition-line name p q = alike (simp append_assoc) (then p q)

  pub open-line : (m : Arrays) (name type : Text) {u u₁ u₂ u₃ : Writer} → Wrote u u₁ (named m name (text "_"))
      → Wrote u₁ u₂ (text " = " ++ (type ++ text "(")) → Wrote u₂ u₃ ([] ++ source_text v (text ");\n"))
      → Wrote u u₃ (open_enum_text m name type v)
  unfolding source_text open_enum_text
  open-line m name type p q s = alike (simp append_assoc) (then p (then q s))

  module _ (x : RawValue) where
    pub tested-lines : (type : Text) {u u₁ u₂ u₃ u₄ : Writer} → Wrote u u₁ (text "auto " ++ (raw_text x ++ text " = "))
        → Wrote u₁ u₂ ([] ++ source_text v (text ";\nif (!IsValid")) → Wrote u₂ u₃ ([] ++ (type ++ text "("))
        → Wrote u₃ u₄ ([] ++ (raw_text x ++ text ")) {\n   return false;\n}\n")) → Wrote u u₄ (tested_text type x v)
    unfolding source_text tested_text
    tested-lines type p q s u =
        alike
        (append_assoc (text "auto ") (raw_text x ++ text " = ") _
        ∙ ap (λ (y : Text). text "auto " ++ y)
        (append_assoc (raw_text x) (text " = ") _
        ∙ ap (λ (y : Text). raw_text x ++ (text " = " ++ y)) (sym (split (text ";\nif (!IsValid") _) ∙ ap (source_text v) (simp append_assoc))))
        (then p (then q (then s u)))

    pub closed-lines : (m : Arrays) (name type : Text) {u u₁ u₂ u₃ u₄ : Writer} → Wrote u u₁ (tested_text type x v)
        → Wrote u₁ u₂ (named m name (text "_")) → Wrote u₂ u₃ (text " = " ++ (type ++ text "("))
        → Wrote u₃ u₄ ([] ++ (raw_text x ++ text ");\n")) → Wrote u u₄ (closed_enum_text m name type x v)
    unfolding tested_text closed_enum_text
    closed-lines m name type p q s u =
        alike
        (sym ((lines-leads 0 (Line.set Before.auto (raw_text x) (source_in v) ∷ Line.check 3 (Test.not_valid type (raw_text x)) ∷ [])).split [] _)
        ∙ ap (lines_text 0 (Line.set Before.auto (raw_text x) (source_in v) ∷ Line.check 3 (Test.not_valid type (raw_text x)) ∷ [])) (simp append_assoc))
        (then p (then q (then s u)))

  pub fixed-line : (value : ℕ) {u u₁ u₂ : Writer} → Wrote u u₁ (text "if (static_cast<uint64_t>(" ++ source_text v (text ") != "))
      → Wrote u₁ u₂ ([] ++ (hexadecimal value ++ text ") {\n    return false;\n}\n")) → Wrote u u₂ (fixed_scalar_text value v)
  unfolding source_text fixed_scalar_text
  fixed-line value p q = alike (ap (λ (x : Text). text "if (static_cast<uint64_t>(" ++ x) (sym (split (text ") != ") _))) (then p q)

  pub tag-line : (type tag : Text) {u u₁ u₂ u₃ u₄ : Writer} → Wrote u u₁ (text "if (" ++ (type ++ text "("))
      → Wrote u₁ u₂ ([] ++ source_text v (text ") != ")) → Wrote u₂ u₃ ([] ++ (type ++ text "::"))
      → Wrote u₃ u₄ ([] ++ (tag ++ text ") {\n    return false;\n}\n")) → Wrote u u₄ (fixed_enum_text type tag v)
  unfolding source_text fixed_enum_text
  tag-line type tag p q s u =
      alike
      (append_assoc (text "if (" ++ type) (text "(") _
      ∙ ap (λ (x : Text). text "if (" ++ (type ++ (text "(" ++ x))) (sym (split (text ") != ") _) ∙ ap (source_text v) (simp append_assoc)))
      (then p (then q (then s u)))
