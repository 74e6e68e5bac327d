-- The front, the items of a body, and a quote.
use Rattle.litrs_prefix.proofs.Words.{ℕ, ◌∷◌, sym, ap, ◌∙◌, chars, quoted_front}
use Rattle.litrs_prefix.proofs.PlainLiterals.{after_front, quoted_at}
use Rattle.litrs_prefix.proofs.Runs.{front_cut}
use Rattle.litrs_prefix.proofs.plain.after_quoted.Goals as goal
use Rattle.litrs_lex.proofs.StringFronts.{quoted_low}

pub range_from-body-requires : goal.range_from-body-requires
range_from-body-requires c = λ _. (front_cut _ c.args.text.now c.front_len.result (quoted_low c.args.kind) c.utf8.text c.requires c.front_len.ensures.quoted).0

pub returns-in-Some : goal.returns-in-Some
returns-in-Some c =
    let kind = c.args.kind in
    let rest = chars c.in-Some.rest.now in
    let front = after_front (quoted_front kind) _ _ c.front_len.result (quoted_low kind) c.utf8.text c.requires c.front_len.ensures.quoted c.range_from-body.ensures.value in
    record {
      utf8 = c.in-Some.ensures.rest;
      literal = quoted_at kind _ _ rest c.items_len.result front c.items_len.ensures (ap chars (sym c.range_from.ensures.value) ∙ (c.in-Some.ensures.parts ∙ ap (λ (k : ℕ). k ∷ rest) c.if-quote-eq34.true));
    }
