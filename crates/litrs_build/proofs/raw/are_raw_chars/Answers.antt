-- The chain over the characters is the test of the list.
use Rattle.std.proofs.Common.{rules, tests}
use Rattle.std.proofs.lemmas.Iterator.{YieldsList-from_chars}
use Rattle.std.proofs.lemmas.Iterator.Search.{all_from_yields_List}
use Rattle.litrs_grammar.specs.Raw.{is_raw_char}
use Rattle.litrs_build.proofs.raw.are_raw_chars.Goals as goal

pub returns : goal.returns
returns c =
    all_from_yields_List (is_raw_char c.args.unicode c.args.allow_nul) _ _ _ c.all.ensures.ran
    (YieldsList-from_chars c.args.value.now c.utf8.value cc) (λ x b q k. search (rules, tests))
