-- The line is that on the literal, and a build without a suffix fails only if an allocation does.
use Rattle.std.proofs.Common.{string_bytes, ◌≡◌, ℕ, List, ap, ◌∙◌, rules}
use Rattle.std.specs.Str.{chars}
use Rattle.std.proofs.lemmas.Str.{chars-nil}
use Rattle.litrs_grammar.specs.CharByte.{char_text}
use Rattle.litrs.specs.CharKind.{char_kind}
use Rattle.litrs_build.specs.Written.{written_char}
use Rattle.litrs_build.specs.declared.error.BuildError.TheVariants.{Memory}
use Rattle.litrs_explanation.proofs.Built.{only_memory, char_clean}
use Rattle.litrs_explanation.proofs.Explained.{value_appended}
use Rattle.litrs_explanation.proofs.push_char.Goals as goal

pub unreachable-requires : goal.unreachable-requires
unreachable-requires c =
    let memory : c.in-Err.field-0 ≡ Memory =
    only_memory c.in-Err.field-0 c.in-Err.ensures.refused in
    search rules

pub returns-in-Ok : goal.returns-in-Ok
returns-in-Ok c =
    value_appended (string_bytes c.args.out.now) (string_bytes c.push_value.new.out) c.push_value.result
    c.raw_input.result.now _ c.raw_input.utf8
    (ap chars c.raw_input.ensures.raw ∙ (c.in-Ok.ensures.written
    ∙ ap (λ (s : List ℕ). char_text char_kind (written_char c.args.value s)) chars-nil))
    (char_clean c.args.value) c.push_value.ensures
