-- The item, and what follows it.
use Rattle.std.proofs.Common.{sym, subst}
use Rattle.std.proofs.lemmas.Result.{err_from_is_err_and}
use Rattle.std.specs.Str.{chars}
use Rattle.litrs_base.specs.declared.err.ParseError.{ParseError}
use Rattle.litrs_lex.specs.CharCut.{IsItemRefused}
use Rattle.litrs_lex.proofs.CharByteBytes.{closing_refused, closed_after}
use Rattle.litrs_lex.proofs.char.cut_after.Goals as goal

pub returns-in_err-start-clause-refused : goal.returns-in_err-start-clause-refused
returns-in_err-start-clause-refused c =
    let p = err_from_is_err_and c.from_residual-in_err-start.result c.from_residual-in_err-start.ensures.1 in
    rw (p.1)
    (subst (λ (e : ParseError). IsItemRefused c.args.kind (chars c.args.rest.now) e) (sym p.2)
    (closing_refused c.args.kind c.args.rest.now c.in_ok-value.value c.in_ok-value.len c.in_err-start.field-0.0 c.utf8.rest c.in_ok-value.ensures.ok
    c.in_err-start.ensures.table c.in_err-start.ensures.char_span))

pub returns-clause-ok : goal.returns-clause-ok
returns-clause-ok c =
    closed_after c.args.kind c.args.rest.now c.in_ok-value.value c.in_ok-value.len c.in_ok-start.start c.utf8.rest c.in_ok-value.ensures.ok c.in_ok-start.ensures.ok.0 c.in_ok-start.ensures.ok.1
