-- Refusals 7, 8, 17 and 9, one after the other, as the end of `verdict` has them.
-- Assumes nothing.
use Rattle.std.specs.Prelude.{Option, Some, None, Ok, Err}
use Rattle.std.specs.Option.{ok_or}
use Rattle.definitions.specs.Refusals.{Verdict, large, ragged, misstated, no_target, refuse_if}
use Prim.Native.Nat.{ℕ}
use mathlib.Core.Bool.{Bool, true, false, not}
use mathlib.Core.List.{List}
use mathlib.Core.Path.{◌≡◌, refl, sym, ap, ◌∙◌}
use native.Mathlib.Omega.{arith}
use Rattle.definitions.specs.Bytes.{Text}
use Rattle.definitions.specs.Record.{is_found}
use Rattle.definitions.specs.Sizes.{Schema, new_schema}
use Rattle.definitions.specs.declared.Head.{Head}
use Rattle.definitions.specs.declared.Refusal.{Refusal}
use Rattle.tables.specs.Tables.{declarations_from, rows_from}
use Rattle.schema.specs.Entries.{entries_from, Sized}
use Rattle.sizes.specs.Answers.{Sizing, misstated_rows, target_from, target_or, behind_whole, behind_schema, check_sizes, sizes_verdict, Checked}
use Rattle.sizes.proofs.Targets.{found-any}
use Rattle.sizes.proofs.Stated.{misstated-rows}

-- which of the two an answer is, and why
abbrev tag : Verdict → ℕ
tag (Ok x) = 0
tag (Err why) = 1

abbrev why_of : Verdict → Refusal
why_of (Ok x) = Refusal.TooLarge
why_of (Err why) = why

err-ok : (why : Refusal) → ◌≡◌ {A = Verdict} (Err why) (Ok tt) → ⊥
err-ok why e = let v : ◌≡◌ {A = ℕ} 1 0 = ap tag e in omega arith

-- a refusal, or what is tested behind it
abbrev on_test : Bool → Refusal → Sizing → Sizing
on_test b why next = elim b [ true ↦ Err why | false ↦ next ]

-- the code's answer `b` is that of the definition, and was `t`
by-test : (why : Refusal) (next : Sizing) {b c t : Bool} → b ≡ c → b ≡ t → on_test t why next ≡ on_test c why next
by-test why next e h = ap (λ (t : Bool). on_test t why next) (sym h ∙ e)

module _ (s : Text) (h : Head) (rows v f : List ℕ) (n : ℕ) {b : Bool} (eb : b ≡ ragged s (entries_from s rows v f 0 n)) where
  pub behind-ragged : b ≡ true → Err Refusal.NotWholeBytes ≡ behind_schema s h (entries_from s rows v f 0 n)
  unfolding behind_schema
  behind-ragged hb = by-test Refusal.NotWholeBytes (behind_whole s h (entries_from s rows v f 0 n)) eb hb

  module _ (hb : b ≡ false) {m : Bool} (em : m ≡ misstated_rows (rows_from rows 0 n)) where
    told : {t : Bool} → m ≡ t
        → on_test t Refusal.Misstated (target_or (target_from s h.target 0 (entries_from s rows v f 0 n))) ≡ behind_schema s h (entries_from s rows v f 0 n)
    unfolding behind_schema behind_whole
    told ht =
        by-test Refusal.Misstated (target_or (target_from s h.target 0 (entries_from s rows v f 0 n))) (em ∙ sym (misstated-rows s rows v f 0 n)) ht
        ∙ by-test Refusal.NotWholeBytes (behind_whole s h (entries_from s rows v f 0 n)) eb hb

    pub behind-misstated : m ≡ true → Err Refusal.Misstated ≡ behind_schema s h (entries_from s rows v f 0 n)
    behind-misstated hm = told hm

    pub behind-target : m ≡ false → {r : Option ℕ} → ((v f : List ℕ) → r ≡ target_from s h.target 0 (entries_from s rows v f 0 n))
        → {x : Sizing} → x ≡ ok_or r Refusal.NoTarget → x ≡ behind_schema s h (entries_from s rows v f 0 n)
    behind-target hm er ex = ex ∙ ap target_or (er v f) ∙ told hm

module _ (s : Text) (h : Head) (rows v f : List ℕ) (n : ℕ) (rows' : List ℕ) {b : Verdict} (z : Sized s rows v f n rows' b) where
  all : Schema
  all = new_schema s (declarations_from rows v f 0 n)

  pub checked-large : {why : Refusal} → b ≡ Err why → Checked s h rows v f n rows' (Err why)
  unfolding all check_sizes
  checked-large {why} hb = record { answer = by (large all) (sym hb ∙ z.answer); tables = z.tables; left = z.left }
    where
      by : (l : Bool) → Err why ≡ refuse_if l Refusal.TooLarge (Ok tt) → ◌≡◌ {A = Sizing} (Err why) (on_test l Refusal.TooLarge (behind_schema s h all))
      by true e = ap (λ (v : Verdict). Err (why_of v)) e
      by false e = absurd (err-ok why e)

  pub checked-fine : b ≡ Ok tt → {r : Sizing} → r ≡ behind_schema s h (entries_from s rows' v f 0 n) → Checked s h rows v f n rows' r
  unfolding all check_sizes
  checked-fine hb {r} er = record {
    answer = er ∙ ap (behind_schema s h) (z.tables fine) ∙ sym (ap (λ (l : Bool). on_test l Refusal.TooLarge (behind_schema s h all)) fine);
    tables = z.tables;
    left = z.left;
  }
    where
      by : (l : Bool) → Ok tt ≡ refuse_if l Refusal.TooLarge (Ok tt) → l ≡ false
      by true e = absurd (err-ok Refusal.TooLarge (sym e))
      by false e = refl

      fine : large all ≡ false
      fine = by (large all) (sym hb ∙ z.answer)

-- ---- the rest of `verdict`

test-verdict : (b : Bool) (why : Refusal) (next : Sizing) {v : Verdict} → sizes_verdict next ≡ v → sizes_verdict (on_test b why next) ≡ refuse_if b why v
test-verdict true why next e = refl
test-verdict false why next e = e

module _ (s : Text) (h : Head) (schema : Schema) where
  found-verdict : (r : Option ℕ) → sizes_verdict (target_or r) ≡ refuse_if (not (is_found r)) Refusal.NoTarget (Ok tt)
  found-verdict (Some i) = refl
  found-verdict None = refl

  target-verdict : sizes_verdict (target_or (target_from s h.target 0 schema)) ≡ refuse_if (no_target s h schema) Refusal.NoTarget (Ok tt)
  unfolding no_target
  target-verdict =
      found-verdict (target_from s h.target 0 schema) ∙ ap (λ (b : Bool). refuse_if (not b) Refusal.NoTarget (Ok tt)) (found-any s h 0 schema)

  pub sizes-verdict : sizes_verdict (check_sizes s h schema)
      ≡ refuse_if (large schema) Refusal.TooLarge
      (refuse_if (ragged s schema) Refusal.NotWholeBytes
      (refuse_if (misstated schema) Refusal.Misstated
      (refuse_if (no_target s h schema) Refusal.NoTarget (Ok tt))))
  unfolding check_sizes behind_schema behind_whole
  sizes-verdict =
      test-verdict (large schema) Refusal.TooLarge (behind_schema s h schema)
      (test-verdict (ragged s schema) Refusal.NotWholeBytes (behind_whole s h schema)
      (test-verdict (misstated schema) Refusal.Misstated (target_or (target_from s h.target 0 schema)) target-verdict))
