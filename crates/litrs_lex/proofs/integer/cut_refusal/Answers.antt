-- Each exit is a row of the refusals, by the tests on the bytes.
use Rattle.std.proofs.Common.{arith, rules, tests}
use Rattle.std.proofs.lemmas.Iterator.{YieldsList-from_slice}
use Rattle.std.proofs.lemmas.Iterator.Search.{any_from_yields_List}
use Rattle.std.proofs.lemmas.Grind.{common_steps}
use Rattle.litrs_base.specs.Numeral.{is_no_underscore}
use Rattle.litrs_lex.proofs.IntegerBytes.{places_of_cut, refusal_of_main}
use Rattle.litrs_lex.proofs.integer.cut_refusal.Goals as goal

pub split_at-requires : goal.split_at-requires
split_at-requires c = (places_of_cut c.args.cut.now c.args.input.now c.utf8.input c.requires).end

pub returns-then-begins_with_digit : goal.returns-then-begins_with_digit
returns-then-begins_with_digit c = grind (arith, common_steps, refusal_of_main _ _ c.utf8.input c.requires)

pub returns-in-Err : goal.returns-in-Err
returns-in-Err c = grind (arith, common_steps, refusal_of_main _ _ c.utf8.input c.requires)

pub returns-then-begins_with_e : goal.returns-then-begins_with_e
returns-then-begins_with_e c = grind (arith, common_steps, refusal_of_main _ _ c.utf8.input c.requires)

pub returns-then-any : goal.returns-then-any
returns-then-any c =
    let digit = any_from_yields_List is_no_underscore _ _ _ c.any.ensures.ran (YieldsList-from_slice _ c.iter.ensures.rest) (λ x b q k. search (rules, tests)) in
    grind (arith, common_steps, digit, refusal_of_main _ _ c.utf8.input c.requires)

pub returns-else-any : goal.returns-else-any
returns-else-any c =
    let digit = any_from_yields_List is_no_underscore _ _ _ c.any.ensures.ran (YieldsList-from_slice _ c.iter.ensures.rest) (λ x b q k. search (rules, tests)) in
    grind (arith, common_steps, digit, refusal_of_main _ _ c.utf8.input c.requires)
