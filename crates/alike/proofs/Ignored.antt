-- Document 02, Card 10: lowering ignores a line `bits` once it agrees. Two accepted records that differ only in such lines give the same number and the
-- same bytes (`bits-ignored`); and whatever two records answer that differ only in such lines, it is the same unless one answers 1, 2 or 17 (`bits-apart`).
-- Assumes nothing.
use mathlib.Core.Bool.{Bool, true, false}
use mathlib.Core.Logic.{◌⊎◌, inl, inr}
use mathlib.Core.Path.{◌≡◌, refl, sym, ap, ◌∙◌}
use Prim.Native.Nat.{ℕ}
use native.Mathlib.Omega.{arith}
use lib.ListN.{length}
use Rattle.definitions.specs.Bytes.{Text}
use Rattle.definitions.specs.Record.{RecordRead, record_is, no_record, read_record}
use Rattle.definitions.specs.Sizes.{new_schema}
use Rattle.definitions.specs.FieldParser.{Outcome, refused}
use Rattle.definitions.specs.Answer.{Lowered, lower_record, answer_read, wrong_length, answer, lowered, lower, word, buffer_after}
use Rattle.definitions.specs.declared.Refusal.{Refusal}
use Rattle.alike.specs.Without.{without_bits, Apart}
use Rattle.alike.proofs.Rests.{bits-sifted}
use Rattle.alike.proofs.Reading.{reads-without, length-right}
use Rattle.alike.proofs.Records.{same-record, no_bits}

-- ---- a record, and what is left of it without its lines `bits`

-- one of the three refusals that such a line can bring
abbrev Its : Outcome → Type 0
Its o = (o ≡ refused Refusal.RecordLength) ⊎ ((o ≡ refused Refusal.RecordForm) ⊎ (o ≡ refused Refusal.Misstated))

answer-without : (s : Text) → Its (answer s) ⊎ (answer s ≡ answer (without_bits s))
unfolding answer
answer-without s = by (wrong_length s) refl
  where
    on : Bool → RecordRead → Text → Outcome
    on b r t = elim b [ true ↦ refused Refusal.RecordLength | false ↦ answer_read t r ]

    read : (r : RecordRead) → read_record s ≡ r → wrong_length s ≡ false
        → Its (answer_read s r) ⊎ (answer_read s r ≡ on (wrong_length (without_bits s)) (read_record (without_bits s)) (without_bits s))
    read no_record e w = inl (inr (inl refl))
    read (record_is h ds) e w =
        let t = reads-without s h ds e in
        sum (same-record s (without_bits s) h t.0 ds t.1 t.3 t.4 (no_bits (without_bits s) ds t.1 t.5))
        (rw (length-right s (without_bits s) h ds (bits-sifted s) t w, t.2) refl)
      where
        sum : {o p : Outcome} → (lower_record s h ds (new_schema s ds) ≡ refused Refusal.Misstated) ⊎ (lower_record s h ds (new_schema s ds) ≡ o) → o ≡ p
            → Its (lower_record s h ds (new_schema s ds)) ⊎ (lower_record s h ds (new_schema s ds) ≡ p)
        sum (inl g) f = inl (inr (inr g))
        sum (inr g) f = inr (g ∙ f)

    by : (b : Bool) → wrong_length s ≡ b
        → Its (on b (read_record s) s) ⊎ (on b (read_record s) s ≡ on (wrong_length (without_bits s)) (read_record (without_bits s)) (without_bits s))
    by true w = inl (inl refl)
    by false w = read (read_record s) refl w

its-answer : (room : ℕ) (o : Outcome) → Its o → Apart (lowered room o).answered → ⊥
unfolding lowered
its-answer room o (inl e) a = a.0 (ap (λ (x : Outcome). (lowered room x).answered) e)
its-answer room o (inr (inl e)) a = a.1 (ap (λ (x : Outcome). (lowered room x).answered) e)
its-answer room o (inr (inr e)) a = a.2 (ap (λ (x : Outcome). (lowered room x).answered) e)

pub without-bits : (s : Text) (room : ℕ) → Apart (lower s room).answered → lower s room ≡ lower (without_bits s) room
without-bits s room a = by (answer-without s)
  where
    by : Its (answer s) ⊎ (answer s ≡ answer (without_bits s)) → lower s room ≡ lower (without_bits s) room
    by (inl g) = absurd (its-answer room (answer s) g a)
    by (inr e) = ap (lowered room) e

-- ---- two records that are equal without them

module _ (s s' : Text) (room : ℕ) (alike : without_bits s ≡ without_bits s') where
  -- number, and all lines
  pub bits-apart : Apart (lower s room).answered → Apart (lower s' room).answered → lower s room ≡ lower s' room
  bits-apart a b = without-bits s room a ∙ ap (λ (t : Text). lower t room) alike ∙ sym (without-bits s' room b)

  pub bits-ignored : (lower s room).answered ≡ 0 → (lower s' room).answered ≡ 0 → lower s room ≡ lower s' room
  bits-ignored e f = bits-apart (accepted e) (accepted f)
    where
      accepted : {n : ℕ} → n ≡ 0 → Apart n
      accepted z = (λ k. omega arith, λ k. omega arith, λ k. omega arith)

-- what the build host gets: the 64-bit number, and every byte of the buffer that it lends
pub host-ignored : (s s' out : Text) → without_bits s ≡ without_bits s' → (lower s (length out)).answered ≡ 0 → (lower s' (length out)).answered ≡ 0
    → (word (lower s (length out)) ≡ word (lower s' (length out))) × (buffer_after (lower s (length out)) out ≡ buffer_after (lower s' (length out)) out)
host-ignored s s' out alike e f =
    let k = bits-ignored s s' (length out) alike e f in
    (ap word k, ap (λ (l : Lowered). buffer_after l out) k)
