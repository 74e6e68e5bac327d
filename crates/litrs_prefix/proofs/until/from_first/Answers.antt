-- A character that is passed is not a delimiter.
use Rattle.litrs_prefix.proofs.Words.{◌≡◌, false, sym, ◌∙◌, chars, is_delimiter}
use Rattle.litrs_prefix.proofs.until.from_first.Goals as goal

pub loop-c-preserved : goal.loop-c-preserved
loop-c-preserved c =
    let other : is_delimiter (chars c.args.delimiters.now) c.in-Some.c ≡ false = sym c.is_delimiter.ensures ∙ c.if-not-is_delimiter.true in
    (c.in-Some.ensures.rest, rw (c.in-Some.ensures.parts, other) at c.loop-c.invariant.1)
