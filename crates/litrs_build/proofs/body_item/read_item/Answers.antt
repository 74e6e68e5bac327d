-- A character, a continuation or an escape, by the first two bytes.
use Rattle.std.proofs.Common.{◌≡◌, true, length, take, drop, ◌-◌, ◌+◌, ℕ, sym, ap, ◌∙◌}
use Rattle.std.proofs.lemmas.List.{take_rest}
use Rattle.litrs_base.specs.Text.{first_passes}
use Rattle.litrs_lex.proofs.EscapeEnds.{slash_byte}
use Rattle.litrs_lex.proofs.FloatBytes.{rest_is}
use Rattle.litrs_lex.proofs.QuotedBytes.{two_of}
use Rattle.litrs_build.proofs.BodyItems.{is_slash, continuation_read}
use Rattle.litrs_build.proofs.body_item.read_item.Goals as goal

pub returns-then-not-starts_with : goal.returns-then-not-starts_with
returns-then-not-starts_with c =
    λ item after begins. c.read_plain.ensures c.args.allowed item after begins

pub returns-then-starts_with : goal.returns-then-starts_with
returns-then-starts_with c = λ item after begins.
    let rest = c.args.rest.now in
    let slash : first_passes is_slash rest ≡ true =
    ap (first_passes is_slash) (sym c.as_bytes-bytes.ensures.value)
    ∙ (sym c.starts_with.ensures ∙ c.if-not-starts_with.false) in
    continuation_read c.args.allowed rest _ _ item after c.utf8.rest
    (two_of rest _ _ (slash_byte rest slash)
    (rest_is c.as_bytes-bytes.result.now rest 1 c.as_bytes-bytes.ensures.value)
    (sym c.starts_with-2.ensures ∙ c.if-starts_with.true)
    (take_rest (take (length c.as_bytes-bytes.result.now - 1) (drop 1 c.as_bytes-bytes.result.now)) 1))
    (ap (λ (n : ℕ). 2 + n) c.run_end.ensures.run) begins
