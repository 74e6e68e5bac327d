-- An escape, or a plain character.
use Rattle.litrs_prefix.proofs.Words.{◌≡◌, ℕ, List, ◌++◌, true, sym, ap, subst, ◌∙◌, chars, Switches, plain_char, escaped_char}
use Rattle.litrs_prefix.specs.Words.{escape_text, is_escape}
use Rattle.litrs_prefix.proofs.plain.after_item.Goals as goal

pub returns-in-Ok : goal.returns-in-Ok
returns-in-Ok c =
    let is = c.in-Ok.ensures.ok in
    let back = c.range_from.ensures.value in
    record {
      item = escaped_char is.escape;
      grammar = subst (λ (w : Switches). is_escape w is.escape ≡ true) c.switches.ensures is.grammar;
      spells = ap (λ (l : List ℕ). escape_text is.escape ++ l) (ap chars back ∙ is.after) ∙ is.spells;
    }

pub returns-in-Some-2 : goal.returns-in-Some-2
returns-in-Some-2 c =
    let body = c.args.body.now in
    record {
      item = plain_char c.in-Some.c;
      grammar = sym c.is_plain_char.ensures ∙ c.if-is_plain_char.true;
      spells = sym c.in-Some.ensures.parts;
    }
