-- The body is the bytes as text.
use Rattle.std.proofs.Common.{◌≡◌, sym, subst, IfOk, IfErr}
use Rattle.std.specs.Prelude.{Option, None}
use Rattle.std.specs.Str.{chars}
use Rattle.litrs_build.specs.declared.error.BuildError.{BuildError}
use Rattle.litrs_build.specs.Errors.{IsErrorOf}
use Rattle.litrs_build.proofs.RawCBytes.{raw_c_same, not_raw_c}
use Rattle.litrs_build.proofs.raw.write_raw_c.Goals as goal

pub returns-in-Ok-clause-possible : goal.returns-in-Ok-clause-possible
returns-in-Ok-clause-possible c =
    let same = raw_c_same c.in-Ok.body.now c.args.value.now (chars c.args.suffix.now)
    c.in-Ok.ensures.cases.0 c.in-Ok.ensures.cases.1 (sym c.in_default.ensures) in
    subst (λ (e : Option BuildError). IfOk c.write_raw.result (λ _. e ≡ None)) same
    c.write_raw.ensures.possible

pub returns-in-Ok-clause-refused : goal.returns-in-Ok-clause-refused
returns-in-Ok-clause-refused c =
    let same = raw_c_same c.in-Ok.body.now c.args.value.now (chars c.args.suffix.now)
    c.in-Ok.ensures.cases.0 c.in-Ok.ensures.cases.1 (sym c.in_default.ensures) in
    subst (λ (e : Option BuildError). IfErr c.write_raw.result (IsErrorOf e)) same
    c.write_raw.ensures.refused

pub returns-in-Err-clause-refused : goal.returns-in-Err-clause-refused
returns-in-Err-clause-refused c =
    not_raw_c c.args.value.now (chars c.args.suffix.now) c.in-Err.ensures.cases.0
    (sym c.in_default.ensures)
