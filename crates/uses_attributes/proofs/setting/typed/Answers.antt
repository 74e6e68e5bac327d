-- Each word is where the one before it ends.
use Rattle.std.proofs.Common.{◌≡◌, ◌≢◌, [], refl, rules}
use Rattle.std.specs.Prelude.{IsFalse, codes}
use Rattle.litrs_value.specs.Reads.{is_negative}
use Rattle.std.specs.Str.{chars}
use Rattle.std.proofs.lemmas.Option.{MatchOption-at_some}
use Rattle.litrs_prefix.specs.Opens.{opens}
use Rattle.litrs_value.specs.Reads.{unsigned}
use Rattle.uses_attributes.specs.Settings.{HasEquals, HasLiteral, no_equals, no_value, no_such_value, no_comma}
use Rattle.uses_attributes.proofs.setting.typed.Goals as goal

pub returns-then-ne-clause-fault : goal.returns-then-ne-clause-fault
returns-then-ne-clause-fault g c =
    let other : c.first_word-equals.result.text.now ≢ codes "=" = search rules in
    no_equals c.first_word-equals.result c.first_word-equals.ensures other c.unexpected.ensures

pub returns-in-Ok-None-clause-fault : goal.returns-in-Ok-None-clause-fault
returns-in-Ok-None-clause-fault g c =
    let first = c.first_word.result in
    let mark : c.first_word-equals.result.text.now ≡ codes "=" = search rules in
    let equals : HasEquals c.args.text.now first = (c.first_word-equals.result, c.first_word-equals.ensures, mark, c.first_word.ensures) in
    let none : IsFalse (opens (chars (unsigned first.at.now))) = search rules in
    no_value first equals none c.unexpected-in-Ok-None.ensures

pub returns-in-Err-clause-fault : goal.returns-in-Err-clause-fault
returns-in-Err-clause-fault g c =
    let first = c.first_word.result in
    let mark : c.first_word-equals.result.text.now ≡ codes "=" = search rules in
    let equals : HasEquals c.args.text.now first = (c.first_word-equals.result, c.first_word-equals.ensures, mark, c.first_word.ensures) in
    no_such_value first c.in-Err.error equals c.in-Err.ensures.refused refl refl c.marked_span-span.ensures

pub returns-in_default-clause-fault : goal.returns-in_default-clause-fault
returns-in_default-clause-fault g c =
    let first = c.first_word.result in
    let word = c.first_word-comma.result in
    let mark : c.first_word-equals.result.text.now ≡ codes "=" = search rules in
    let equals : HasEquals c.args.text.now first = (c.first_word-equals.result, c.first_word-equals.ensures, mark, c.first_word.ensures) in
    let found = MatchOption-at_some _ _ _ c.in-Ok-Some.field-0-is c.in-Ok-Some.ensures.value in
    let end = MatchOption-at_some _ _ _ c.in-Ok-Some.field-0-is c.in-Ok-Some.ensures.rest in
    let literal : HasLiteral g.T.FromLiteral.value_type c.args.text.now (is_negative first.at.now) found.0 c.in-Ok-Some.rest.now =
    record { first = first; equals = equals; end = end; sign = refl; literal = found.1; value = found.2 } in
    let other : word.text.now ≢ codes "," = search rules in
    let some : word.text.now ≢ [] = search rules in
    no_comma (is_negative first.at.now) found.0 c.in-Ok-Some.rest.now word literal c.first_word-comma.ensures other some c.unexpected-in_default.ensures

pub returns-in-text-clause-value : goal.returns-in-text-clause-value
returns-in-text-clause-value g c =
    let first = c.first_word.result in
    let mark : c.first_word-equals.result.text.now ≡ codes "=" = search rules in
    let equals : HasEquals c.args.text.now first = (c.first_word-equals.result, c.first_word-equals.ensures, mark, c.first_word.ensures) in
    let found = MatchOption-at_some _ _ _ c.in-Ok-Some.field-0-is c.in-Ok-Some.ensures.value in
    let end = MatchOption-at_some _ _ _ c.in-Ok-Some.field-0-is c.in-Ok-Some.ensures.rest in record {
      negative = is_negative first.at.now;
      d = found.0;
      after = c.in-Ok-Some.rest.now;
      comma = c.first_word-comma.result;
      literal = record { first = first; equals = equals; end = end; sign = refl; literal = found.1; value = found.2 };
      value = found.3;
      is_comma = c.first_word-comma.ensures;
      ends = c.in-text.is;
      left = refl;
    }
