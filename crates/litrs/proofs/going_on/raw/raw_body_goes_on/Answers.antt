-- By the kind of the refusal.
use Rattle.std.proofs.Common.{drop, sym, ◌∙◌}
use Rattle.std.specs.Str.{chars}
use Rattle.std.proofs.lemmas.Str.{IsUtf8-drop}
use Rattle.litrs_base.specs.Refusal.{refusal_of}
use Rattle.litrs_grammar.specs.Raw.{IsRawOf}
use Rattle.litrs.proofs.Begins.{yes, begins_now}
use Rattle.litrs.proofs.RawEnds.{unclosed_decided, hashes_decided, suffix_decided, other_decided}
use Rattle.litrs.proofs.going_on.raw.raw_body_goes_on.Goals as goal

pub returns-in-Ok : goal.returns-in-Ok
returns-in-Ok c = yes (begins_now (IsRawOf c.args.allowed.unicode c.args.allowed.allow_nul)
    (chars (drop c.args.offset c.args.text.now)) _ c.in-Ok.ensures.ok.only.0)

pub returns-in-UnterminatedRawString : goal.returns-in-UnterminatedRawString
returns-in-UnterminatedRawString c =
    unclosed_decided c.args.allowed.unicode c.args.allowed.allow_nul c.args.offset
    (chars (drop c.args.offset c.args.text.now)) (refusal_of c.in-Err.e)
    c.in-Err.ensures.refused.table (sym c.in-UnterminatedRawString.ensures)

pub returns-in-InvalidLiteral : goal.returns-in-InvalidLiteral
returns-in-InvalidLiteral c =
    hashes_decided c.args.allowed.unicode c.args.allowed.allow_nul c.args.offset c.args.text.now c.args.offset
    c.as_bytes.result.now (refusal_of c.in-Err.e) c.are_opening_hashes.result
    (IsUtf8-drop c.args.text.now c.args.offset c.utf8.text c.requires) c.as_bytes.ensures.value
    c.in-Err.ensures.refused.table (sym c.in-InvalidLiteral.ensures) c.are_opening_hashes.ensures

pub returns-in-InvalidSuffix : goal.returns-in-InvalidSuffix
returns-in-InvalidSuffix c =
    suffix_decided c.args.allowed.unicode c.args.allowed.allow_nul c.args.text.now c.args.offset c.in-Err.e
    c.is_lone_underscore_suffix.result
    (IsUtf8-drop c.args.text.now c.args.offset c.utf8.text c.requires)
    c.in-Err.ensures.refused.table (sym c.in-InvalidSuffix.ensures)
    c.is_lone_underscore_suffix.ensures

pub returns-in_default : goal.returns-in_default
returns-in_default c =
    other_decided c.args.allowed.unicode c.args.allowed.allow_nul c.args.offset
    (chars (drop c.args.offset c.args.text.now)) (refusal_of c.in-Err.e)
    c.in-Err.ensures.refused.table
    (λ is. c.in_default.not-InvalidLiteral (c.kind.ensures ∙ is))
    (λ is. c.in_default.not-UnterminatedRawString (c.kind.ensures ∙ is))
    (λ is. c.in_default.not-InvalidSuffix (c.kind.ensures ∙ is))
