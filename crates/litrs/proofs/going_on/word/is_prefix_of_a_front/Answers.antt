-- A longer word, or another first letter, does not begin a word.
use Rattle.std.proofs.Common.{sym, ◌∙◌, arith}
use Rattle.litrs.proofs.Words.{long_word, other_word}
use Rattle.litrs.proofs.going_on.word.is_prefix_of_a_front.Goals as goal

pub returns-then-word-gt4 : goal.returns-then-word-gt4
returns-then-word-gt4 c = sym (long_word c.args.word.now (omega arith) c.requires)

pub returns-else-begins_like_a_front : goal.returns-else-begins_like_a_front
returns-else-begins_like_a_front c =
    c.if-begins_like_a_front.false ∙ sym (other_word c.args.word.now (sym c.begins_like_a_front.ensures ∙ c.if-begins_like_a_front.false))
