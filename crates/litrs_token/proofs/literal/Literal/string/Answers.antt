-- The text that was written is a quoted string.
use Rattle.litrs_token.proofs.WrittenStrings.{written_chars, written_string, string_literal_token}
use Rattle.litrs_token.proofs.literal.Literal.string.Goals as goal

pub invariant_of-result : goal.invariant_of-result
invariant_of-result c =
    string_literal_token _ c.args.value.now
    (written_string _ c.args.value.now c.utf8.value c.in_ok-text.ensures)

pub returns-clause-text : goal.returns-clause-text
returns-clause-text c = written_chars _ c.args.value.now c.utf8.value c.in_ok-text.ensures

pub returns-clause-value : goal.returns-clause-value
returns-clause-value c = written_string _ c.args.value.now c.utf8.value c.in_ok-text.ensures
