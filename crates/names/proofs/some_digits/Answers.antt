-- `names::some_digits` meets its contract, by the laws of Words.
-- Assumes nothing.
use Rattle.std.proofs.Common.{arith, rules, tests, ◌≡◌, ◌∙◌, ap, drop, not}
use Rattle.std.proofs.lemmas.Grind.{common_steps}
use Rattle.std.proofs.lemmas.Iterator.{YieldsList-from_slice}
use Rattle.std.proofs.lemmas.Iterator.Search.{position_from_yields_List}
use Rattle.std.specs.Char.{is_ascii_digit}
use Rattle.std.specs.List.{position}
use Rattle.definitions.specs.Record.{some_digits}
use Rattle.names.proofs.Words.{some-none, some-line, some-other}
use Rattle.names.proofs.some_digits.Goals as goal

pub returns-then-rest-n-eq10 : goal.returns-then-rest-n-eq10
returns-then-rest-n-eq10 c =
    let e : c.unwrap_or-rest.result.now ≡ drop c.args.at c.args.rec.now = grind (arith, common_steps) in
    let p : c.position.result ≡ position (λ b. not (is_ascii_digit b)) c.unwrap_or-rest.result.now =
    position_from_yields_List (λ b. not (is_ascii_digit b)) _ _ _ c.position.ensures.ran (YieldsList-from_slice _ c.iter.ensures.rest)
    (λ x b q k. search (rules, tests)) in
    some-line _ c.in-Some.n p c.in-Some.is c.if-rest-n-eq10.true ∙ ap some_digits e

pub returns-else-rest-n-eq10 : goal.returns-else-rest-n-eq10
returns-else-rest-n-eq10 c =
    let e : c.unwrap_or-rest.result.now ≡ drop c.args.at c.args.rec.now = grind (arith, common_steps) in
    let p : c.position.result ≡ position (λ b. not (is_ascii_digit b)) c.unwrap_or-rest.result.now =
    position_from_yields_List (λ b. not (is_ascii_digit b)) _ _ _ c.position.ensures.ran (YieldsList-from_slice _ c.iter.ensures.rest)
    (λ x b q k. search (rules, tests)) in
    some-other _ c.in-Some.n p c.in-Some.is c.if-rest-n-eq10.false ∙ ap some_digits e

pub returns-in-None : goal.returns-in-None
returns-in-None c =
    let e : c.unwrap_or-rest.result.now ≡ drop c.args.at c.args.rec.now = grind (arith, common_steps) in
    let p : c.position.result ≡ position (λ b. not (is_ascii_digit b)) c.unwrap_or-rest.result.now =
    position_from_yields_List (λ b. not (is_ascii_digit b)) _ _ _ c.position.ensures.ran (YieldsList-from_slice _ c.iter.ensures.rest)
    (λ x b q k. search (rules, tests)) in
    some-none _ p c.in-None.is ∙ ap some_digits e
