-- The cut decides, if the front is a digit.
use Rattle.litrs_token.proofs.TokenTexts.{float_token, integer_token}
use Rattle.litrs_token.proofs.NoTokens.{no_number}
use Rattle.litrs_token.proofs.kind.number_kind.Goals as goal

pub returns-in-Ok-Integer-clause-some : goal.returns-in-Ok-Integer-clause-some
returns-in-Ok-Integer-clause-some c =
    let is = rw c.in-Ok-Integer.field-0-is at c.in-Ok-Integer.ensures.ok in
    integer_token _ _ is.0.0

pub returns-in-Ok-Float-clause-some : goal.returns-in-Ok-Float-clause-some
returns-in-Ok-Float-clause-some c =
    let is = rw c.in-Ok-Float.field-0-is at c.in-Ok-Float.ensures.ok in
    float_token _ _ is.0.0

pub returns-in-Err-clause-none : goal.returns-in-Err-clause-none
returns-in-Err-clause-none c =
    no_number _ c.in-Err.field-0 c.utf8.text c.requires c.in-Err.ensures.refused
