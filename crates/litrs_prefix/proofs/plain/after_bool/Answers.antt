-- The bool is the literal if the rest may follow it.
use Rattle.litrs_prefix.proofs.Words.{refl, sym, ap, ◌∙◌, ◌++◌, chars, bool_text, a_bool}
use Rattle.litrs_prefix.proofs.Runs.{bool_front}
use Rattle.litrs_prefix.proofs.plain.after_bool.Goals as goal

pub range_from-rest-requires : goal.range_from-rest-requires
range_from-rest-requires c = λ _. let is = c.in_ok-bool_len.ensures.some in (bool_front c.args.text.now is.0 _ c.utf8.text is.1 is.2).0

pub returns-then-ends_bool : goal.returns-then-ends_bool
returns-then-ends_bool c =
    let is = c.in_ok-bool_len.ensures.some in
    let rest = c.range_from-rest in
    let spells = (bool_front c.args.text.now is.0 _ c.utf8.text is.1 is.2).1 in
    record {
      utf8 = rest.utf8;
      literal = λ _. (
        a_bool is.0,
        record {
          front = bool_text is.0;
          spells = ap (λ l. bool_text is.0 ++ chars l) rest.ensures.value ∙ spells;
          literal = refl;
          follows = sym c.ends_bool.ensures ∙ c.if-ends_bool.true;
        },
      );
    }
