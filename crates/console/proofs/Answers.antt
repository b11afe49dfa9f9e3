-- What is printed of a record of which all is read, or enough to turn it back. Assumes nothing.
use Rattle.std.proofs.Common.{◌≡◌, ℕ, ◌+◌, ◌^◌, ◌≤◌, ◌<◌, List, ◌++◌, length, drop, Option, Some, None, IfSome, Result, Err, arith, refl, sym, ap, ◌∙◌, subst, append-nil}
use Rattle.std.proofs.Math.Seq.{take-append_seam}
use Rattle.std.proofs.lemmas.Nat.{div-mul-add, mod-mul-add}
use Rattle.std.proofs.lemmas.List.{length-append}
use Rattle.std.proofs.KnownBytes.{Appends-nil}
use Rattle.std.specs.Io.KnownBytes.{Consumes, IsAtEnd}
use Rattle.definitions.specs.Bytes.{Text}
use Rattle.definitions.specs.declared.Refusal.{Refusal}
use Rattle.definitions.specs.FieldParser.{Outcome, refused, accepted}
use Rattle.definitions.specs.Answer.{Lowered, word, buffer_after, answer, lower, lowered, fitted}
use Rattle.definitions.specs.All.{Outcomes, refused_all, accepted_all, answer_all, lowered_all, lower_all}
use Rattle.console.specs.Writes.{printed}
use Rattle.console.specs.Answers.{answer_text, Answers}

-- ---- the number and the buffer that a call gives

pub printed_word : (r : Lowered) (out : Text) → length r.lines < 2 ^ 32 → printed (word r) (buffer_after r out) ≡ answer_text r
unfolding printed
printed_word r out h =
    let a = div-mul-add r.answered (2 ^ 32) (length r.lines) h in
    let l = mod-mul-add r.answered (2 ^ 32) (length r.lines) h in
    let s = take-append_seam r.lines (drop (length r.lines) out) in
    rw (a, l, s) refl

-- ---- the lines fit the room

fitted_short : (room : ℕ) (t : Text) → length (fitted room t).lines ≤ room
unfolding fitted
fitted_short room t = grind arith

lowered_short : (room : ℕ) (o : Outcome) → length (lowered room o).lines ≤ room
unfolding lowered
lowered_short room (refused why) = omega arith
lowered_short room (accepted bs) = fitted_short room _

lowered_all_short : (room : ℕ) (o : Outcomes) → length (lowered_all room o).lines ≤ room
unfolding lowered_all
lowered_all_short room (refused_all why) = omega arith
lowered_all_short room (accepted_all xs) = fitted_short room _

-- what a call that gives `a` leaves to be printed
printed_given : (a : Lowered) (out left : Text) (w : ℕ) → length a.lines < 2 ^ 32 → (w ≡ word a) × (left ≡ buffer_after a out)
    → printed w left ≡ answer_text a
printed_given a out left w h (e, f) = (λ i. printed (e i) (f i)) ∙ printed_word a out h

-- so a call of `lower` or `lower_all` in a buffer of `room` bytes
module _ (rec out left : Text) {room : ℕ} (w : ℕ) (h : room < 2 ^ 32) where
  pub printed_lower : (w ≡ word (lower rec room)) × (left ≡ buffer_after (lower rec room) out) → printed w left ≡ answer_text (lower rec room)
  printed_lower = printed_given (lower rec room) out left w (omega (arith, h, lowered_short room (answer rec)))

  pub printed_lower_all : (w ≡ word (lower_all rec room)) × (left ≡ buffer_after (lower_all rec room) out) → printed w left ≡ answer_text (lower_all rec room)
  printed_lower_all = printed_given (lower_all rec room) out left w (omega (arith, h, lowered_all_short room (answer_all rec)))

-- ---- of a record that is too long, the bytes do not matter

abbrev pub IgnoresLong : (Text → Lowered) → Type 0
IgnoresLong f = (s t : Text) → 16384 < length s → 16384 < length t → f s ≡ f t

answer_long : (s : Text) → 16384 < length s → answer s ≡ refused Refusal.RecordLength
unfolding answer
answer_long s h = grind arith

answer_all_long : (s : Text) → 16384 < length s → answer_all s ≡ refused_all Refusal.RecordLength
unfolding answer_all
answer_all_long s h = grind arith

pub lower_long : (room : ℕ) → IgnoresLong (λ s. lower s room)
lower_long room s t h k = ap (lowered room) (answer_long s h ∙ sym (answer_long t k))

pub lower_all_long : (room : ℕ) → IgnoresLong (λ s. lower_all s room)
lower_all_long room s t h k = ap (lowered_all room) (answer_all_long s h ∙ sym (answer_all_long t k))

-- ---- from the bytes that were read to those that the reader had

module _ {A E : Type 0} (r : Result A E) (held after : Option (List ℕ)) (f : Text → Lowered) where
  -- enough to turn it back
  pub answers_long : (a b : Option (List ℕ)) (s : Text) → Consumes a b (drop 0 s) → 16384 < length s → IgnoresLong f
      → Answers r held after (f s) → IfSome a (λ input. Answers r held after (f input))
  answers_long None b s p long same q = tt
  answers_long (Some xs) None s p long same q = absurd p
  answers_long (Some xs) (Some ys) s p long same q =
      let n : length xs ≡ length s + length ys = ap length p ∙ length-append s ys in
      subst (Answers r held after) (same s xs long (omega (arith, n, long))) q

  -- all of them
  pub answers_whole : (a b : Option (List ℕ)) (s : Text) → Consumes a b (drop 0 s) → IsAtEnd b
      → Answers r held after (f s) → IfSome a (λ input. Answers r held after (f input))
  answers_whole None b s p end q = tt
  answers_whole (Some xs) None s p end q = absurd p
  answers_whole (Some xs) (Some ys) s p end q =
      subst (λ t. Answers r held after (f t)) (sym (p ∙ ap (λ l. s ++ l) end ∙ append-nil s)) q

-- none, and nothing is printed
pub answers_failed : (A : Type 0) {E : Type 0} (e : E) (held : Option (List ℕ)) (f : Text → Lowered) (a : Option (List ℕ))
    → IfSome a (λ input. Answers {A = A} (Err e) held held (f input))
answers_failed A e held f None = tt
answers_failed A e held f (Some xs) = (0, Appends-nil held)
