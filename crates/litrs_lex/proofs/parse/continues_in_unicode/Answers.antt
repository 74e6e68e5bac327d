-- The chain over the characters is the test of the list.
use Rattle.std.proofs.Common.{rules, tests}
use Rattle.std.proofs.lemmas.Iterator.{YieldsList-from_chars}
use Rattle.std.proofs.lemmas.Iterator.Search.{all_from_yields_List}
use Rattle.unicode_ident.specs.Ident.{is_xid_continue}
use Rattle.litrs_lex.proofs.parse.continues_in_unicode.Goals as goal

pub returns : goal.returns
returns c = all_from_yields_List is_xid_continue _ _ _ c.all.ensures.ran (YieldsList-from_chars c.args.rest.now c.utf8.rest cc) (λ x b q k. search (rules, tests))
