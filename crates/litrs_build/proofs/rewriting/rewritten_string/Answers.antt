-- A string that is not raw is quoted, whatever its parts are.
use Rattle.std.proofs.Common.{◌≡◌, false, IfOk, sym, ◌∙◌, string_bytes}
use Rattle.std.specs.Str.{chars}
use Rattle.litrs_grammar.specs.Literal.{StringParts}
use Rattle.litrs_grammar.specs.LiteralText.{string_text}
use Rattle.litrs_grammar.specs.Strings.{is_raw}
use Rattle.litrs_build.specs.Rewriting.{rewritten_string}
use Rattle.litrs_build.proofs.RewrittenLiterals.{by_quoted, same_form}
use Rattle.litrs_build.proofs.rewriting.rewritten_string.Goals as goal

pub returns-else-has_raw_body : goal.returns-else-has_raw_body
returns-else-has_raw_body c = λ d is.
    let kind = c.args.kind in
    let t = chars c.args.raw.now in
    let quoted : is_raw d ≡ false = same_form kind t d c.requires.0 is c.requires.1
    ∙ (sym c.requires.2 ∙ c.if-has_raw_body.false) in
    by_quoted kind t d
    (λ (e : StringParts). IfOk c.rewritten_quoted.result (λ text.
    chars (string_bytes text) ≡ string_text kind (rewritten_string c.args.style.now e)))
    quoted is c.rewritten_quoted.ensures
