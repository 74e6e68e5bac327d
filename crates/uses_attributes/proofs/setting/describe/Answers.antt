-- The suffix is empty.
use Rattle.std.proofs.Common.{◌≡◌, ℕ, List, [], ap, ◌∙◌, rules}
use Rattle.std.specs.Str.{chars}
use Rattle.std.proofs.lemmas.Str.{chars-nil}
use Rattle.litrs.specs.LiteralText.{string_text}
use Rattle.litrs.specs.StringKind.{string_kind}
use Rattle.litrs_build.specs.Written.{written_string}
use Rattle.uses_attributes.proofs.setting.describe.Goals as goal

pub returns-in-Ok : goal.returns-in-Ok
returns-in-Ok c =
    let written : chars c.in-Ok.literal.raw ≡ string_text string_kind (written_string (chars c.as_str.result.now) []) =
    c.in-Ok.ensures.written ∙ ap (λ (suffix : List ℕ). string_text string_kind (written_string (chars c.as_str.result.now) suffix)) chars-nil in
    search rules
