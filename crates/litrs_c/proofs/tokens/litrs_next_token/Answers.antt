use Rattle.std.proofs.Common.{sym, ◌∙◌}
use Rattle.litrs_c.proofs.TokenPlaces.{ends_text, end_found, token_at}
use Rattle.litrs_c.proofs.tokens.litrs_next_token.Goals as goal

pub start_of-cursor-requires : goal.start_of-cursor-requires
start_of-cursor-requires c =
    let first = rw (c.in-Some.ensures.source, c.in-Some.ensures.rest) at c.in-Some-next.ensures.steps.1 in
    ends_text c.args.cursor.now.text.now c.args.cursor.now.at c.in-Some-next.found c.next.new.self.rest.now first

pub returns-in-Some-next-clause-token : goal.returns-in-Some-next-clause-token
returns-in-Some-next-clause-token c = λ _.
    let first = rw (c.in-Some.ensures.source, c.in-Some.ensures.rest) at c.in-Some-next.ensures.steps.1 in
    token_at c.args.cursor.now.text.now c.args.cursor.now.at c.start_of-cursor.result c.in-Some-next.found c.next.new.self.rest.now c.token_fields.result first
    c.in-Some.ensures.place c.start_of-cursor.ensures.place.0 c.start_of-cursor.ensures.rest c.token_fields.ensures

pub returns-in-Some-next-clause-moved : goal.returns-in-Some-next-clause-moved
returns-in-Some-next-clause-moved c = λ _.
    let first = rw (c.in-Some.ensures.source, c.in-Some.ensures.rest) at c.in-Some-next.ensures.steps.1 in
    end_found c.args.cursor.now.text.now c.args.cursor.now.at c.start_of-cursor.result c.in-Some-next.found c.next.new.self.rest.now first
    c.start_of-cursor.ensures.place.0 c.start_of-cursor.ensures.rest ∙ sym c.token_fields.ensures.end
