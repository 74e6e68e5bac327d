-- The line is that on the literal, and a build without a suffix fails only if an allocation does.
use Rattle.std.proofs.Common.{string_bytes, ◌≡◌, ℕ, List, ap, ◌∙◌, rules, arith}
use Rattle.std.specs.Str.{chars}
use Rattle.std.proofs.lemmas.Str.{chars-nil}
use Rattle.litrs.specs.StringKind.{c_string_kind}
use Rattle.litrs.specs.LiteralText.{string_text}
use Rattle.litrs_build.specs.CStrings.{written_c_string}
use Rattle.litrs_build.specs.declared.error.BuildError.TheVariants.{Memory}
use Rattle.litrs_explanation.proofs.Built.{only_memory_of_c, c_string_clean}
use Rattle.litrs_explanation.proofs.Explained.{value_appended}
use Rattle.litrs_explanation.proofs.push_c_string.Goals as goal

pub unreachable-requires : goal.unreachable-requires
unreachable-requires c =
    let memory : c.in-Err.field-0 ≡ Memory =
    only_memory_of_c c.args.value.now c.in-Err.field-0 c.requires c.in-Err.ensures.refused in
    search rules

pub returns-in-Ok : goal.returns-in-Ok
returns-in-Ok c =
    value_appended (string_bytes c.args.out.now) (string_bytes c.push_value.new.out) c.push_value.result
    c.raw_input.result.now _ c.raw_input.utf8
    (ap chars c.raw_input.ensures.raw ∙ (c.in-Ok.ensures.written
    ∙ ap (λ (s : List ℕ). string_text c_string_kind (written_c_string c.args.value.now s)) chars-nil))
    (c_string_clean c.args.value.now (λ i. let f = c.type_inv.value i in omega arith)) c.push_value.ensures
