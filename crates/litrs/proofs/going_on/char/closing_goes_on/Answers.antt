-- By the first character.
use Rattle.std.proofs.Common.{◌++◌, length, sym, ap, ◌∙◌}
use Rattle.std.specs.Char.{encode_utf8}
use Rattle.std.specs.Str.{chars}
use Rattle.std.proofs.lemmas.Str.{chars_past_char}
use Rattle.litrs.proofs.Chars.{no_character, quote_first, other_first}
use Rattle.litrs.proofs.Fronts.{nothing_chars}
use Rattle.litrs.proofs.going_on.char.closing_goes_on.Goals as goal

pub returns-in-None : goal.returns-in-None
returns-in-None c = no_character (chars c.args.after.now)
    (nothing_chars c.args.after.now
    (ap length (sym c.chars-chars.ensures.rest) ∙ c.in-None.ensures.steps.0.0))

pub returns-in-Some-eq39 : goal.returns-in-Some-eq39
returns-in-Some-eq39 c =
    quote_first (chars c.args.after.now) (chars c.as_str.result.now) c.in-Some-eq39.field-0
    c.suffix_goes_on.result
    (chars_past_char c.args.after.now c.as_str.result.now c.in-Some-eq39.field-0 c.utf8.after
    (sym c.chars-chars.ensures.rest
    ∙ (c.in-Some-eq39.ensures.steps.0 ∙ ap (λ rest. encode_utf8 c.in-Some-eq39.field-0 ++ rest)
    (sym c.as_str.ensures))))
    c.in-Some-eq39.field-0-test c.suffix_goes_on.ensures

pub returns-in-Some : goal.returns-in-Some
returns-in-Some c =
    other_first (chars c.args.after.now) (chars c.next.new.self.rest.now) c.in-Some.field-0
    (chars_past_char c.args.after.now c.next.new.self.rest.now c.in-Some.field-0 c.utf8.after
    (sym c.chars-chars.ensures.rest ∙ c.in-Some.ensures.steps.0))
    c.in-Some.field-0-test.1
