-- The beginning of the front decides the kind.
use Rattle.litrs_prefix.proofs.Words.{ℕ, List, refl, sym, ap, ◌∙◌, chars, a_bool, a_char, a_byte, ends_suffix}
use Rattle.litrs_grammar.proofs.Laws.Bool.{chars-bool_text}
use Rattle.litrs_prefix.proofs.Judged.{char_before, byte_before, quoted_before, raw_before, empty_before, other_before}
use Rattle.litrs_prefix.proofs.follow.follows.Goals as goal

pub returns-in-Bool : goal.returns-in-Bool
returns-in-Bool c = (a_bool _, sym (ap chars c.in-Bool.ensures.begins ∙ chars-bool_text _), sym c.ends_bool.ensures)

pub returns-in-Ok : goal.returns-in-Ok
returns-in-Ok c =
    (a_char _, c.in-Ok.ensures.ok.0, ap (λ (l : List ℕ). ends_suffix (chars l) (chars c.args.rest.now)) (sym c.range_from.ensures.value) ∙ sym c.ends_suffix.ensures)

pub returns-in-Err : goal.returns-in-Err
returns-in-Err c = char_before c.args.front.now c.utf8.front c.in-Char.ensures (λ d h. c.in-Err.ensures.refused.none (a_char d) (refl, h))

pub returns-in-Ok-cut_byte : goal.returns-in-Ok-cut_byte
returns-in-Ok-cut_byte c =
    (a_byte _, c.in-Ok-cut_byte.ensures.ok.0, ap (λ (l : List ℕ). ends_suffix (chars l) (chars c.args.rest.now)) (sym c.range_from-in-Ok-cut_byte.ensures.value) ∙ sym c.ends_suffix-in-Ok-cut_byte.ensures)

pub returns-in-Err-cut_byte : goal.returns-in-Err-cut_byte
returns-in-Err-cut_byte c = byte_before c.args.front.now c.utf8.front c.in-Byte.ensures (λ d h. c.in-Err-cut_byte.ensures.refused.none (a_byte d) (refl, h))

pub returns-in-Quoted : goal.returns-in-Quoted
returns-in-Quoted c = quoted_before c.in-Quoted.kind c.args.front.now (chars c.args.rest.now) c.quoted_follows.result c.utf8.front c.in-Quoted.ensures c.quoted_follows.ensures

pub returns-in-Raw : goal.returns-in-Raw
returns-in-Raw c = raw_before c.in-Raw.kind c.args.front.now (chars c.args.rest.now) c.raw_follows.result c.utf8.front c.in-Raw.ensures c.raw_follows.ensures

pub returns-in-Empty : goal.returns-in-Empty
returns-in-Empty c = empty_before c.args.front.now (chars c.args.rest.now) c.utf8.front c.in-Empty.ensures

pub returns-in-Other : goal.returns-in-Other
returns-in-Other c = other_before c.args.front.now (chars c.args.rest.now) c.utf8.front c.in-Other.ensures
