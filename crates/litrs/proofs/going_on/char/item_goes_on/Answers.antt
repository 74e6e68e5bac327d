-- By the first character.
use Rattle.std.proofs.Common.{false, ◌++◌, length, sym, ap, ◌∙◌}
use Rattle.std.specs.Char.{encode_utf8}
use Rattle.std.specs.Str.{chars}
use Rattle.std.proofs.lemmas.Str.{chars_past_char}
use Rattle.litrs.proofs.Begins.{answer_is}
use Rattle.litrs.proofs.Chars.{nothing_after, plain_after, other_after}
use Rattle.litrs.proofs.Fronts.{nothing_chars}
use Rattle.litrs.proofs.going_on.char.item_goes_on.Goals as goal

pub returns-in-None : goal.returns-in-None
returns-in-None c = nothing_after c.args.kind (chars c.args.rest.now)
    (nothing_chars c.args.rest.now (ap length (sym c.chars-chars.ensures.rest)
    ∙ c.in-None.ensures.steps.0.0))

pub returns-then-is_plain : goal.returns-then-is_plain
returns-then-is_plain c =
    plain_after c.args.kind (chars c.args.rest.now) (chars c.as_str.result.now)
    c.in-Some.c c.closing_goes_on.result
    (chars_past_char c.args.rest.now c.as_str.result.now c.in-Some.c c.utf8.rest
    (sym c.chars-chars.ensures.rest
    ∙ (c.in-Some.ensures.steps.0 ∙ ap (λ rest. encode_utf8 c.in-Some.c ++ rest)
    (sym c.as_str.ensures))))
    (sym c.if-is_plain.ensures) c.closing_goes_on.ensures

pub returns-else-is_plain : goal.returns-else-is_plain
returns-else-is_plain c =
    answer_is c.is_plain.result false c.if-is_plain.false
    (other_after c.args.kind (chars c.args.rest.now) (chars c.next.new.self.rest.now)
    c.in-Some.c
    (chars_past_char c.args.rest.now c.next.new.self.rest.now c.in-Some.c c.utf8.rest
    (sym c.chars-chars.ensures.rest ∙ c.in-Some.ensures.steps.0))
    (sym c.if-is_plain.ensures) c.in-Some.c-test.1)
