-- A comment, or the slash alone.
use Rattle.std.proofs.Common.{List, ℕ, ◌∷◌, ap, ◌∙◌, length}
use Rattle.std.specs.Str.{chars}
use Rattle.std.proofs.Math.Seq.{drop-length}
use Rattle.std.proofs.lemmas.Str.{chars-nil}
use Rattle.litrs_prefix.proofs.Ends.{all, after_first, after_bytes, end_of_end}
use Rattle.litrs_lexer.specs.declared.kind.TokenKind.TheVariants.{LineComment, BlockComment, UnterminatedBlockComment}
use Rattle.litrs_lexer.proofs.Cuts.{cut_after}
use Rattle.litrs_lexer.proofs.cut.cut_slash.Goals as goal

pub returns-in-Some-clause-cut : goal.returns-in-Some-clause-cut
returns-in-Some-clause-cut c =
    let text = c.args.text.now in
    let after = c.args.after.now in
    let body = c.in-Some.body.now in
    cut_after LineComment text after c.after_line.result.now 47 c.requires
    (end_of_end after body c.after_line.result.now (after_first after after body c.in-Some.c (all after) c.in-Some.ensures.bytes) c.after_line.ensures.end) (
      chars body,
      c.requires.is ∙ ap (λ (l : List ℕ). 47 ∷ l) (c.in-Some.ensures.parts ∙ ap (λ (k : ℕ). k ∷ chars body) c.if-c-eq47.true),
      c.after_line.ensures.rest,
    )

pub returns-in-Some-after_block-clause-cut : goal.returns-in-Some-after_block-clause-cut
returns-in-Some-after_block-clause-cut c =
    let text = c.args.text.now in
    let after = c.args.after.now in
    let body = c.in-Some.body.now in
    let rest = c.in-Some-after_block.rest.now in
    cut_after BlockComment text after rest 47 c.requires
    (end_of_end after body rest (after_first after after body c.in-Some.c (all after) c.in-Some.ensures.bytes) c.in-Some-after_block.ensures.end) (
      chars body,
      c.requires.is ∙ ap (λ (l : List ℕ). 47 ∷ l) (c.in-Some.ensures.parts ∙ ap (λ (k : ℕ). k ∷ chars body) c.if-c-eq42.true),
      c.in-Some-after_block.ensures.some,
    )

pub returns-in-None-clause-cut : goal.returns-in-None-clause-cut
returns-in-None-clause-cut c =
    let text = c.args.text.now in
    let after = c.args.after.now in
    let body = c.in-Some.body.now in
    let rest = c.split_at.result.1.now in
    cut_after UnterminatedBlockComment text after rest 47 c.requires
    (end_of_end after body rest (after_first after after body c.in-Some.c (all after) c.in-Some.ensures.bytes) (after_bytes body rest (length body) c.split_at.ensures.back)) (
      chars body,
      c.requires.is ∙ ap (λ (l : List ℕ). 47 ∷ l) (c.in-Some.ensures.parts ∙ ap (λ (k : ℕ). k ∷ chars body) c.if-c-eq42.true),
      c.in-None.ensures.none,
      ap chars (c.split_at.ensures.back ∙ drop-length body) ∙ chars-nil,
    )
