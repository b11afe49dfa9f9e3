-- `names::name_of` meets its contract, by the laws of Words.
-- Assumes nothing.
use Rattle.std.proofs.Common.{arith, rules, tests, ℕ, ◌≤◌, ◌<◌, ◌≡◌, ◌∙◌, sym, ap, drop, take, get_or, length, min, not, None}
use Rattle.std.proofs.lemmas.Grind.{common_steps}
use Rattle.std.proofs.lemmas.Iterator.{YieldsList-from_slice}
use Rattle.std.proofs.lemmas.Iterator.Search.{position_from_yields_List}
use Rattle.std.specs.List.{position}
use Rattle.definitions.specs.Bytes.{is_digit, is_word}
use Rattle.definitions.specs.Record.{name_of}
use Rattle.names.proofs.Bytes.{digit_is}
use Rattle.names.proofs.Words.{Ends, near-is, near-none, near-short, near-byte, near-ends, name-past, name-wrong, name-digit, name-whole}
use Rattle.names.proofs.name_of.Goals.{then-n-eq0-via-then-n-eq0, then-n-eq0-via-else-n-eq0+then-near-n-ne10, then-n-eq0-via-else-n-eq0+else-near-n-ne10+then-is_ascii_digit}
use Rattle.names.proofs.name_of.Goals as goal

pub returns-in_err-rest : goal.returns-in_err-rest
returns-in_err-rest c = search (name-past, rules)

pub returns-in_err-n : goal.returns-in_err-n
returns-in_err-n c =
    let e : c.in_ok-rest.rest.now ≡ drop c.args.at c.args.rec.now = grind (arith, common_steps) in
    let m : c.min.result ≡ min (length c.in_ok-rest.rest.now) 33 = search rules in
    let t : take c.min.result c.in_ok-rest.rest.now ≡ take 33 c.in_ok-rest.rest.now = near-is _ m in
    let p : c.position.result ≡ position (λ b. not (is_word b)) (take c.min.result c.in_ok-rest.rest.now) =
    position_from_yields_List (λ b. not (is_word b)) _ _ _ c.position.ensures.ran (YieldsList-from_slice _ c.iter.ensures.rest) (λ x b q k. search (rules, tests)) in
    c.from_residual-in_err-n.ensures ∙ near-none c.in_ok-rest.rest.now c.args.at (ap (position (λ b. not (is_word b))) (sym t) ∙ sym p ∙ c.in_err-n.was)
    ∙ ap (λ s. name_of s c.args.at) e

pub returns-then-n-eq0 : goal.returns-then-n-eq0
returns-then-n-eq0 c =
    let e : c.in_ok-rest.rest.now ≡ drop c.args.at c.args.rec.now = grind (arith, common_steps) in
    let m : c.min.result ≡ min (length c.in_ok-rest.rest.now) 33 = search rules in
    let t : take c.min.result c.in_ok-rest.rest.now ≡ take 33 c.in_ok-rest.rest.now = near-is _ m in
    let p : c.position.result ≡ position (λ b. not (is_word b)) (take c.min.result c.in_ok-rest.rest.now) =
    position_from_yields_List (λ b. not (is_word b)) _ _ _ c.position.ensures.ran (YieldsList-from_slice _ c.iter.ensures.rest) (λ x b q k. search (rules, tests)) in
    let f : c.position.result ≡ position (λ b. not (is_word b)) (take 33 c.in_ok-rest.rest.now) = p ∙ ap (position (λ b. not (is_word b))) t in
    let q : Ends c.in_ok-rest.rest.now c.in_ok-n.n = near-ends _ _ f c.in_ok-n.was in
    let byte : (j : ℕ) → j ≤ c.in_ok-n.n → get_or (take c.min.result c.in_ok-rest.rest.now) j 0 ≡ get_or c.in_ok-rest.rest.now j 0 =
    λ j l. ap (λ s. get_or s j 0) t ∙ near-byte _ _ f c.in_ok-n.was j l in
    let none : None ≡ name_of c.in_ok-rest.rest.now c.args.at = elim c.then-n-eq0.branch [
      | then-n-eq0-via-then-n-eq0 w ↦ name-wrong _ _ _ q (λ z l. w.if-n-eq0.true)
      | then-n-eq0-via-else-n-eq0+then-near-n-ne10 w ↦ name-wrong _ _ _ q (λ z l. absurd (w.if-near-n-ne10.true (byte _ (omega arith) ∙ z)))
      | then-n-eq0-via-else-n-eq0+else-near-n-ne10+then-is_ascii_digit w ↦
          name-digit _ c.in_ok-n.n _ q.inside
          (ap is_digit (sym (byte 0 (omega arith))) ∙ sym (digit_is _) ∙ sym w.is_ascii_digit.ensures.value ∙ w.if-is_ascii_digit.true)
    ] in
    none ∙ ap (λ s. name_of s c.args.at) e

pub returns : goal.returns
returns c =
    let e : c.in_ok-rest.rest.now ≡ drop c.args.at c.args.rec.now = grind (arith, common_steps) in
    let m : c.min.result ≡ min (length c.in_ok-rest.rest.now) 33 = search rules in
    let t : take c.min.result c.in_ok-rest.rest.now ≡ take 33 c.in_ok-rest.rest.now = near-is _ m in
    let p : c.position.result ≡ position (λ b. not (is_word b)) (take c.min.result c.in_ok-rest.rest.now) =
    position_from_yields_List (λ b. not (is_word b)) _ _ _ c.position.ensures.ran (YieldsList-from_slice _ c.iter.ensures.rest) (λ x b q k. search (rules, tests)) in
    let f : c.position.result ≡ position (λ b. not (is_word b)) (take 33 c.in_ok-rest.rest.now) = p ∙ ap (position (λ b. not (is_word b))) t in
    let q : Ends c.in_ok-rest.rest.now c.in_ok-n.n = near-ends _ _ f c.in_ok-n.was in
    let byte : (j : ℕ) → j ≤ c.in_ok-n.n → get_or (take c.min.result c.in_ok-rest.rest.now) j 0 ≡ get_or c.in_ok-rest.rest.now j 0 =
    λ j l. ap (λ s. get_or s j 0) t ∙ near-byte _ _ f c.in_ok-n.was j l in
    let short : c.in_ok-n.n < 33 = near-short _ _ f c.in_ok-n.was in
    name-whole c.in_ok-rest.rest.now c.in_ok-n.n c.args.at q c.if-n-eq0.false (omega (arith, short)) (sym (byte _ (omega arith)) ∙ c.if-near-n-ne10.false)
    (ap is_digit (sym (byte 0 (omega arith))) ∙ sym (digit_is _) ∙ sym c.is_ascii_digit.ensures.value ∙ c.if-is_ascii_digit.false)
    ∙ ap (λ s. name_of s c.args.at) e
