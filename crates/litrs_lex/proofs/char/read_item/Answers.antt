-- Each arm by its row.
use Rattle.std.proofs.Common.{sym, ap, ◌∙◌, Some}
use Rattle.litrs_base.specs.Refusal.{without_span}
use Rattle.litrs_lex.proofs.CharByteBytes.{end_refused, begins_get, none_first, slash_begins, ok_escape, err_escape}
use Rattle.litrs_lex.proofs.char.read_item.Goals as goal

pub returns-in_default-clause-refused : goal.returns-in_default-clause-refused
returns-in_default-clause-refused c =
    end_refused c.args.kind c.args.rest.now c.new.result (none_first c.args.rest.now c.as_bytes.result.now c.as_bytes.ensures.value c.in_default.ensures.value) (c.new.ensures.refusal ∙ ap without_span c.unclosed_kind.ensures)

pub unescape_with-requires : goal.unescape_with-requires
unescape_with-requires c = slash_begins c.args.rest.now c.utf8.rest (begins_get c.args.rest.now c.as_bytes.result.now 92 c.as_bytes.ensures.value (ap Some (sym c.in-92.is) ∙ c.in-Some.ensures.value))

pub returns-in-92-clause-ok : goal.returns-in-92-clause-ok
returns-in-92-clause-ok c = ok_escape c.args.kind c.args.rest.now _ c.unescape_with.result c.switches.ensures c.unescape_with.ensures.ok

pub returns-in-92-clause-refused : goal.returns-in-92-clause-refused
returns-in-92-clause-refused c = err_escape c.args.kind c.args.rest.now _ c.unescape_with.result c.switches.ensures (begins_get c.args.rest.now c.as_bytes.result.now 92 c.as_bytes.ensures.value (ap Some (sym c.in-92.is) ∙ c.in-Some.ensures.value)) c.unescape_with.ensures.refused
