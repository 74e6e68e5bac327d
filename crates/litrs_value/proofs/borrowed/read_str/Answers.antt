-- The error of the literal is that of the text.
use Rattle.std.proofs.Common.{List, ℕ, Bool, IsUtf8, subst}
use Rattle.std.specs.Str.{chars}
use Rattle.litrs.specs.CharEnd.{IsCutBy}
use Rattle.litrs.specs.Literal.{IsLiteral}
use Rattle.litrs.specs.LiteralDerivation.{derivation}
use Rattle.litrs_value.specs.Reads.{unsigned, IsReadAs, IsRefusedAfter, IsValueError, marked}
use Rattle.litrs_value.specs.Refuses.{Refuses}
use Rattle.litrs_value.specs.declared.value_type.ValueType.TheVariants.{Str}
use Rattle.litrs_value.specs.declared.error.ValueError.{ValueError}
use Rattle.litrs_value.proofs.Marks.{marks}
use Rattle.litrs_value.proofs.Errors.{refuses_text, refused_text, map_err}
use Rattle.litrs_value.proofs.borrowed.read_str.Goals as goal

pub returns-in-Ok-clause-refused : goal.returns-in-Ok-clause-refused
returns-in-Ok-clause-refused c =
    let text = c.args.text.now in
    let d = derivation c.in-Ok.literal in
    let read : IsReadAs text d = subst (λ (t : List ℕ). IsLiteral (chars t) d) c.cut_sign-negative.ensures.rest c.in-Ok.ensures.ok.0 in
    map_err c.into_str.result (Refuses Str c.cut_sign-negative.result.0 d) (IsValueError Str text) c.into_str.ensures.refused
    (λ (e : ValueError) r. refuses_text Str text d e read (subst (λ (b : Bool). Refuses Str b d e) c.cut_sign-negative.ensures.negative r))

pub returns-in-Ok-clause-marks : goal.returns-in-Ok-clause-marks
returns-in-Ok-clause-marks c =
    let text = c.args.text.now in
    let d = derivation c.in-Ok.literal in
    let read : IsReadAs text d = subst (λ (t : List ℕ). IsLiteral (chars t) d) c.cut_sign-negative.ensures.rest c.in-Ok.ensures.ok.0 in
    let rest = subst (λ (t : List ℕ). IsUtf8 t) c.cut_sign-negative.ensures.rest c.cut_sign-negative.ensures.utf8 in
    map_err c.into_str.result (Refuses Str c.cut_sign-negative.result.0 d) (λ (e : ValueError). IsCutBy text (marked (chars text) e)) c.into_str.ensures.refused
    (λ (e : ValueError) r. marks Str text e c.utf8.text rest (refuses_text Str text d e read (subst (λ (b : Bool). Refuses Str b d e) c.cut_sign-negative.ensures.negative r)))

pub returns-in-Err-clause-marks : goal.returns-in-Err-clause-marks
returns-in-Err-clause-marks c =
    let text = c.args.text.now in
    let e = c.refused.result in
    let rest = subst (λ (t : List ℕ). IsUtf8 t) c.cut_sign-negative.ensures.rest c.cut_sign-negative.ensures.utf8 in
    let by_rest = subst (λ (t : List ℕ). IsRefusedAfter c.cut_sign-negative.result.0 (chars t) e) c.cut_sign-negative.ensures.rest c.refused.ensures in
    let by_text = subst (λ (b : Bool). IsRefusedAfter b (chars (unsigned text)) e) c.cut_sign-negative.ensures.negative by_rest in
    marks Str text e c.utf8.text rest (refused_text Str text e by_text)
