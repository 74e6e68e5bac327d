-- The character lies within the bytes.
use Rattle.std.proofs.Common.{sym, ◌∙◌}
use Rattle.litrs_build.proofs.CTexts.{len_within}
use Rattle.litrs_build.proofs.c_strings.first_spelling.Goals as goal

pub returns-in-Some-clause-within : goal.returns-in-Some-clause-within
returns-in-Some-clause-within c =
    rw c.len_utf8.ensures.value
    (len_within c.args.bytes.now c.in-Some.c c.requires (sym c.first_char.ensures ∙ c.in-Some.is))
