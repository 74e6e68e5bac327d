-- The bytes that the first one asks for are the UTF-8 of a character, or of none.
use Rattle.std.proofs.Common.{ℕ, List, ap, ◌∙◌}
use Rattle.std.specs.Prelude.{slice_get}
use Rattle.std.specs.Str.{chars}
use Rattle.litrs_build.proofs.CTexts.{first_read, first_none}
use Rattle.litrs_build.proofs.c_strings.first_char.Goals as goal

pub returns-in-Ok : goal.returns-in-Ok
returns-in-Ok c =
    c.next.ensures.steps.2
    ∙ (ap (λ (t : List ℕ). slice_get (chars t) 0) (c.chars.ensures.rest ∙ c.in-Ok.ensures.cases.0)
    ∙ first_read c.args.bytes.now c.first_bytes.result.now c.char_len.result c.requires
    c.first_bytes.ensures c.char_len.ensures c.in-Ok.ensures.cases.1)

pub returns-in-Err : goal.returns-in-Err
returns-in-Err c =
    first_none c.args.bytes.now c.first_bytes.result.now c.char_len.result c.requires
    c.first_bytes.ensures c.char_len.ensures c.in-Err.ensures.cases.0
