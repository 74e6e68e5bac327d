-- The literal, valid or malformed, as `litrs_prefix` finds it.
use Rattle.std.proofs.Common.{sym, subst, List, ℕ}
use Rattle.std.specs.Str.{chars}
use Rattle.litrs_prefix.specs.Prefix.{HasPrefix}
use Rattle.litrs_lexer.specs.declared.kind.TokenKind.TheVariants.{Literal, MalformedLiteral}
use Rattle.litrs_lexer.proofs.Cuts.{opened_parts, cut_at, literal_some, piece_token}
use Rattle.litrs_lexer.proofs.literal.cut_literal.Goals as goal

pub opened_extent-requires : goal.opened_extent-requires
opened_extent-requires c = opened_parts (chars c.args.text.now) c.requires

pub returns-in-Ok-clause-cut : goal.returns-in-Ok-clause-cut
returns-in-Ok-clause-cut c =
    let text = c.args.text.now in
    let n = c.in-Ok.len in
    let is = c.in-Ok.ensures.literal in
    cut_at Literal text c.split_at.result.1.now n (literal_some text n is.literal c.utf8.text is.boundary is.at_front) is.boundary c.split_at.ensures.back
    (is.literal, subst (λ (l : List ℕ). HasPrefix (chars text) is.literal (chars l)) (sym c.split_at.ensures.back) is.at_front)

pub returns-in-Err-clause-cut : goal.returns-in-Err-clause-cut
returns-in-Err-clause-cut c =
    let text = c.args.text.now in
    let n = c.in-Err.len in
    let is = c.in-Err.ensures.malformed in
    let split = c.split_at-in-Err in
    cut_at MalformedLiteral text split.result.1.now n is.some is.boundary split.ensures.back
    (piece_token text split.result.1.now n c.utf8.text is.boundary split.ensures.back c.requires is.front.none is.front.is_piece is.front.invalid)
