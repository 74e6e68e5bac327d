-- Each arm is the parse of its kind.
use Rattle.std.proofs.lemmas.Result.{err_from_is_err_and}
use Rattle.litrs.proofs.Literal.parse_string.Goals as goal

pub returns-in_err-parse_with_front-in-String-clause-refused : goal.returns-in_err-parse_with_front-in-String-clause-refused
returns-in_err-parse_with_front-in-String-clause-refused g c =
    let p = err_from_is_err_and c.from_residual.result c.from_residual.ensures.1 in
    rw (p.1, p.2, c.in-String.is) c.in_err-parse_with_front-in-String.ensures.refused

pub returns-in_err-parse_with_front-in-ByteString-clause-refused : goal.returns-in_err-parse_with_front-in-ByteString-clause-refused
returns-in_err-parse_with_front-in-ByteString-clause-refused g c =
    let p = err_from_is_err_and c.from_residual-in_err-parse_with_front-in-ByteString.result c.from_residual-in_err-parse_with_front-in-ByteString.ensures.1 in
    rw (p.1, p.2, c.in-ByteString.is) c.in_err-parse_with_front-in-ByteString.ensures.refused

pub returns-in_err-parse_with_front-in-CString-clause-refused : goal.returns-in_err-parse_with_front-in-CString-clause-refused
returns-in_err-parse_with_front-in-CString-clause-refused g c =
    let p = err_from_is_err_and c.from_residual-in_err-parse_with_front-in-CString.result c.from_residual-in_err-parse_with_front-in-CString.ensures.1 in
    rw (p.1, p.2, c.in-CString.is) c.in_err-parse_with_front-in-CString.ensures.refused
