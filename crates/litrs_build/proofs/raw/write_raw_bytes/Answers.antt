-- The body is the bytes, which are their own characters if it is a raw value.
use Rattle.std.proofs.Common.{◌≡◌, ℕ, List, ◌∷◌, [], subst, string_bytes, IfOk, IfErr}
use Rattle.std.specs.Prelude.{Option, None}
use Rattle.std.specs.Str.{chars}
use Rattle.litrs_build.specs.declared.error.BuildError.{BuildError}
use Rattle.litrs_build.specs.Errors.{IsErrorOf}
use Rattle.litrs_build.specs.Raw.{hashes_needed}
use Rattle.litrs_build.proofs.RawTexts.{raw_bytes}
use Rattle.litrs_build.proofs.RawBytes.{raw_same, not_raw}
use Rattle.litrs_build.proofs.raw.write_raw_bytes.Goals as goal

pub returns-in-Ok-clause-text : goal.returns-in-Ok-clause-text
returns-in-Ok-clause-text c =
    subst (λ (b : List ℕ). IfOk c.write_raw.result (λ text. string_bytes text
    ≡ raw_bytes (98 ∷ 114 ∷ []) (hashes_needed (chars b)) b c.args.suffix.now))
    c.in-Ok.ensures.cases.0 c.write_raw.ensures.text

pub returns-in-Ok-clause-possible : goal.returns-in-Ok-clause-possible
returns-in-Ok-clause-possible c =
    subst (λ (e : Option BuildError). IfOk c.write_raw.result (λ _. e ≡ None))
    (raw_same c.in-Ok.body.now c.args.value.now
    (chars c.args.suffix.now) c.in-Ok.ensures.cases.0 c.in-Ok.ensures.cases.1)
    c.write_raw.ensures.possible

pub returns-in-Ok-clause-refused : goal.returns-in-Ok-clause-refused
returns-in-Ok-clause-refused c =
    subst (λ (e : Option BuildError). IfErr c.write_raw.result (IsErrorOf e))
    (raw_same c.in-Ok.body.now c.args.value.now
    (chars c.args.suffix.now) c.in-Ok.ensures.cases.0 c.in-Ok.ensures.cases.1)
    c.write_raw.ensures.refused

pub returns-in-Err-clause-refused : goal.returns-in-Err-clause-refused
returns-in-Err-clause-refused c =
    not_raw c.args.value.now
    (chars c.args.suffix.now) c.refusal_of_raw.result c.in-Err.ensures.cases.0
    c.refusal_of_raw.ensures.suffix c.refusal_of_raw.ensures.other
