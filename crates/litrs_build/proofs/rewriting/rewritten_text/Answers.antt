-- A literal that the style keeps is copied. A char or a byte has these parts.
use Rattle.std.proofs.Common.{◌≡◌, IfOk, sym, ap, ◌∙◌, subst, string_bytes}
use Rattle.std.specs.Str.{chars}
use Rattle.std.proofs.lemmas.Result.{IfOk-weaker}
use Rattle.litrs_grammar.specs.Literal.{Derivation, IsLiteral, a_char, a_byte}
use Rattle.litrs_grammar.specs.LiteralText.{literal_text}
use Rattle.litrs.specs.CharLiteral.{char_parts, byte_parts}
use Rattle.litrs.specs.LiteralDerivation.{derivation}
use Rattle.litrs_build.specs.Rewriting.{rewritten}
use Rattle.litrs_build.proofs.RewrittenKept.{text_kept}
use Rattle.litrs_build.proofs.rewriting.rewritten_text.Goals as goal

pub returns-then-keeps : goal.returns-then-keeps
returns-then-keeps g c =
    let raw = c.raw_input-raw.result.now in
    let style = c.args.style.now in
    let d = derivation c.args.lit.now in
    IfOk-weaker c.from_str.result (λ text. string_bytes text ≡ raw)
    (λ text. chars (string_bytes text) ≡ literal_text (rewritten style d))
    (λ text same. ap chars same ∙ text_kept style raw d c.raw_input-raw.ensures.literal
    (sym c.keeps.ensures ∙ c.if-keeps.true))
    c.from_str.ensures.ok

pub returns-in-Char : goal.returns-in-Char
returns-in-Char g c =
    let d = char_parts c.in-Char.field-0 in
    let same : derivation c.args.lit.now ≡ a_char d = ap derivation c.in-Char.is in
    subst (λ (e : Derivation). IfOk c.rewritten_char.result (λ text.
    chars (string_bytes text) ≡ literal_text (rewritten c.args.style.now e))) (sym same)
    (c.rewritten_char.ensures d
    (subst (λ (e : Derivation). IsLiteral (chars c.raw_input-raw.result.now) e) same
    c.raw_input-raw.ensures.literal))

pub returns-in-Byte : goal.returns-in-Byte
returns-in-Byte g c =
    let d = byte_parts c.in-Byte.field-0 in
    let same : derivation c.args.lit.now ≡ a_byte d = ap derivation c.in-Byte.is in
    subst (λ (e : Derivation). IfOk c.rewritten_char-in-Byte.result (λ text.
    chars (string_bytes text) ≡ literal_text (rewritten c.args.style.now e))) (sym same)
    (c.rewritten_char-in-Byte.ensures d
    (subst (λ (e : Derivation). IsLiteral (chars c.raw_input-raw.result.now) e) same
    c.raw_input-raw.ensures.literal))
