-- The front, an item, a quote.
use Rattle.litrs_prefix.proofs.Words.{◌≡◌, ℕ, List, ◌∷◌, ◌++◌, sym, ap, ◌∙◌, chars, char_front, char_item_text}
use Rattle.litrs_prefix.proofs.PlainLiterals.{after_front, char_low, char_at}
use Rattle.litrs_prefix.proofs.Runs.{front_cut}
use Rattle.litrs_prefix.proofs.plain.after_char.Goals as goal

pub range_from-requires : goal.range_from-requires
range_from-requires c = λ _. (front_cut _ c.args.text.now c.args.start (char_low c.args.kind) c.utf8.text c.requires.begins c.requires.start).0

pub returns-in-Some : goal.returns-in-Some
returns-in-Some c =
    let kind = c.args.kind in
    let item = c.in_ok-closing.ensures in
    let rest = chars c.in-Some.rest.now in
    let front = after_front (char_front kind) _ _ c.args.start (char_low kind) c.utf8.text c.requires.begins c.requires.start c.range_from.ensures.value in
    let closing : char_item_text item.item ++ 39 ∷ rest ≡ chars c.range_from.result.now =
    ap (λ (l : List ℕ). char_item_text item.item ++ l) (sym (c.in-Some.ensures.parts ∙ ap (λ (k : ℕ). k ∷ rest) c.if-quote-eq39.true)) ∙ item.spells in
    record {
      utf8 = c.in-Some.ensures.rest;
      literal = char_at kind _ item.item rest (front ∙ ap (λ (l : List ℕ). char_front kind ++ l) (sym closing)) item.grammar;
    }
