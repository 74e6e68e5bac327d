-- The item is the only escape at the front of the text.
use Rattle.std.proofs.Common.{get_or, ap}
use Rattle.litrs_build.proofs.BodyItems.{slash_begins, no_refusal, escape_read}
use Rattle.litrs_build.proofs.body_item.read_escape.Goals as goal

pub unescape_with-requires : goal.unescape_with-requires
unescape_with-requires c = slash_begins c.args.rest.now c.utf8.rest c.requires.escape

pub unreachable-requires : goal.unreachable-requires
unreachable-requires c =
    c.in-Err.ensures.refused.none (no_refusal c.args.allowed c.args.rest.now c.requires.item.0
    c.requires.item.1 c.utf8.rest c.requires.escape c.requires.letter c.requires.item.2)

pub returns : goal.returns
returns c = λ item after begins.
    escape_read c.args.allowed c.args.rest.now c.in-Ok.value c.in-Ok.len _ _ item after c.utf8.rest
    c.requires.escape c.requires.letter c.in-Ok.ensures.ok
    (ap (λ l. get_or l 1 0) c.as_bytes.ensures.value) c.own_spelling-spelling.ensures begins
