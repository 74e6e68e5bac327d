-- Each step passes over characters that do not change anything, and takes a mark that opens or
-- closes a comment.
use Rattle.std.proofs.Common.{◌≡◌, ℕ, suc, ◌+◌, ◌-◌, ◌<◌, ◌≤◌, List, [], ◌∷◌, length, sym, ap, ◌∙◌, true, false, arith}
use Rattle.std.specs.Str.{chars}
use Rattle.litrs_prefix.proofs.Ends.{shorter, after_first, end_of_end, not_longer}
use Rattle.litrs_lexer.specs.Comment.{opens_comment, closes_comment}
use Rattle.litrs_lexer.proofs.Blocks.{block_end, at_mark, end_nil, end_one, step_on, step_open, step_close, step_last}
use Rattle.litrs_lexer.proofs.Bodies.{body_at, no_body}
use Rattle.litrs_lexer.proofs.comment.after_block.Goals as goal

pub returns-in_default-clause-none : goal.returns-in_default-clause-none
returns-in_default-clause-none c =
    let n = c.loop-c.depth in
    no_body (chars c.args.text.now) (at_mark n (chars c.args.text.now) (chars c.loop-c.rest.now) (chars c.after_plain.result.now) c.loop-c.invariant.1 c.after_plain.ensures.rest
    ∙ (ap (block_end n) c.in_default.ensures.empty ∙ end_nil n))

pub returns-in_default-split_first_char-clause-none : goal.returns-in_default-split_first_char-clause-none
returns-in_default-split_first_char-clause-none c =
    let n = c.loop-c.depth in
    let one : chars c.after_plain.result.now ≡ c.in-Some.c ∷ [] = c.in-Some.ensures.parts ∙ ap (λ (l : List ℕ). c.in-Some.c ∷ l) c.in_default-split_first_char.ensures.empty in
    no_body (chars c.args.text.now) (at_mark n (chars c.args.text.now) (chars c.loop-c.rest.now) (chars c.after_plain.result.now) c.loop-c.invariant.1 c.after_plain.ensures.rest
    ∙ (ap (block_end n) one ∙ end_one n c.in-Some.c))

pub loop-c-preserved-then-opens_comment : goal.loop-c-preserved-then-opens_comment
loop-c-preserved-then-opens_comment c =
    let n = c.loop-c.depth in
    let text = c.args.text.now in
    let at = c.after_plain.result.now in
    let after = c.in-Some.after.now in
    let next = c.in-Some-split_first_char.next.now in
    let x = c.in-Some.c in
    let y = c.in-Some-split_first_char.d in
    let inv = c.loop-c.invariant in
    let two : chars at ≡ x ∷ y ∷ chars next = c.in-Some.ensures.parts ∙ ap (λ (l : List ℕ). x ∷ l) c.in-Some-split_first_char.ensures.parts in
    let opens : opens_comment x y ≡ true = sym c.opens_comment.ensures ∙ c.if-opens_comment.true in
    let end = after_first text after next y (after_first text at after x (end_of_end text c.loop-c.rest.now at inv.2 c.after_plain.ensures.end) c.in-Some.ensures.bytes) c.in-Some-split_first_char.ensures.bytes in
    let a : length after < length at = shorter at x after c.in-Some.ensures.bytes in
    let b : length next < length after = shorter after y next c.in-Some-split_first_char.ensures.bytes in
    let d : length at ≤ length c.loop-c.rest.now = not_longer c.loop-c.rest.now at c.after_plain.ensures.end in
    let size : n + length c.loop-c.rest.now ≤ length text = inv.3 in
    let more : suc n ≡ n + 1 = omega arith in (
      c.in-Some-split_first_char.ensures.rest,
      at_mark n (chars text) (chars c.loop-c.rest.now) (chars at) inv.1 c.after_plain.ensures.rest
          ∙ (ap (block_end n) two ∙ (step_open n x y (chars next) opens ∙ ap (λ (k : ℕ). block_end k (chars next)) more)),
      end,
      omega arith,
    )

pub loop-c-preserved-then-closes_comment : goal.loop-c-preserved-then-closes_comment
loop-c-preserved-then-closes_comment c =
    let n = c.loop-c.depth in
    let text = c.args.text.now in
    let at = c.after_plain.result.now in
    let after = c.in-Some.after.now in
    let next = c.in-Some-split_first_char.next.now in
    let x = c.in-Some.c in
    let y = c.in-Some-split_first_char.d in
    let inv = c.loop-c.invariant in
    let two : chars at ≡ x ∷ y ∷ chars next = c.in-Some.ensures.parts ∙ ap (λ (l : List ℕ). x ∷ l) c.in-Some-split_first_char.ensures.parts in
    let closes : closes_comment x y ≡ true = sym c.closes_comment.ensures ∙ c.if-closes_comment.true in
    let end = after_first text after next y (after_first text at after x (end_of_end text c.loop-c.rest.now at inv.2 c.after_plain.ensures.end) c.in-Some.ensures.bytes) c.in-Some-split_first_char.ensures.bytes in
    let a : length after < length at = shorter at x after c.in-Some.ensures.bytes in
    let b : length next < length after = shorter after y next c.in-Some-split_first_char.ensures.bytes in
    let d : length at ≤ length c.loop-c.rest.now = not_longer c.loop-c.rest.now at c.after_plain.ensures.end in
    let size : n + length c.loop-c.rest.now ≤ length text = inv.3 in
    let more : n ≡ suc (n - 1) = omega arith in (
      c.in-Some-split_first_char.ensures.rest,
      at_mark n (chars text) (chars c.loop-c.rest.now) (chars at) inv.1 c.after_plain.ensures.rest
          ∙ (ap (block_end n) two ∙ (ap (λ (k : ℕ). block_end k (x ∷ y ∷ chars next)) more ∙ step_close (n - 1) x y (chars next) closes)),
      end,
      omega arith,
    )

pub loop-c-preserved : goal.loop-c-preserved
loop-c-preserved c =
    let n = c.loop-c.depth in
    let text = c.args.text.now in
    let at = c.after_plain.result.now in
    let after = c.in-Some.after.now in
    let next = c.in-Some-split_first_char.next.now in
    let x = c.in-Some.c in
    let y = c.in-Some-split_first_char.d in
    let inv = c.loop-c.invariant in
    let two : chars at ≡ x ∷ y ∷ chars next = c.in-Some.ensures.parts ∙ ap (λ (l : List ℕ). x ∷ l) c.in-Some-split_first_char.ensures.parts in
    let opens : opens_comment x y ≡ false = sym c.opens_comment.ensures ∙ c.if-opens_comment.false in
    let closes : closes_comment x y ≡ false = sym c.closes_comment.ensures ∙ c.if-closes_comment.false in
    let end = after_first text at after x (end_of_end text c.loop-c.rest.now at inv.2 c.after_plain.ensures.end) c.in-Some.ensures.bytes in
    let a : length after < length at = shorter at x after c.in-Some.ensures.bytes in
    let d : length at ≤ length c.loop-c.rest.now = not_longer c.loop-c.rest.now at c.after_plain.ensures.end in
    let size : n + length c.loop-c.rest.now ≤ length text = inv.3 in (
      c.in-Some.ensures.rest,
      at_mark n (chars text) (chars c.loop-c.rest.now) (chars at) inv.1 c.after_plain.ensures.rest
          ∙ (ap (block_end n) two ∙ (step_on n x y (chars next) opens closes ∙ ap (block_end n) (sym c.in-Some-split_first_char.ensures.parts))),
      end,
      omega arith,
    )

pub returns-then-depth-eq0-clause-some : goal.returns-then-depth-eq0-clause-some
returns-then-depth-eq0-clause-some c =
    let n = c.loop-c.depth in
    let text = c.args.text.now in
    let at = c.after_plain.result.now in
    let next = c.in-Some-split_first_char.next.now in
    let x = c.in-Some.c in
    let y = c.in-Some-split_first_char.d in
    let inv = c.loop-c.invariant in
    let two : chars at ≡ x ∷ y ∷ chars next = c.in-Some.ensures.parts ∙ ap (λ (l : List ℕ). x ∷ l) c.in-Some-split_first_char.ensures.parts in
    let closes : closes_comment x y ≡ true = sym c.closes_comment.ensures ∙ c.if-closes_comment.true in
    body_at (chars text) (chars next) (at_mark n (chars text) (chars c.loop-c.rest.now) (chars at) inv.1 c.after_plain.ensures.rest
    ∙ (ap (block_end n) two ∙ (ap (λ (k : ℕ). block_end k (x ∷ y ∷ chars next)) c.if-depth-eq0.true ∙ step_last x y (chars next) closes)))

pub returns-then-depth-eq0-clause-end : goal.returns-then-depth-eq0-clause-end
returns-then-depth-eq0-clause-end c =
    let text = c.args.text.now in
    let at = c.after_plain.result.now in
    let after = c.in-Some.after.now in
    after_first text after c.in-Some-split_first_char.next.now c.in-Some-split_first_char.d
    (after_first text at after c.in-Some.c (end_of_end text c.loop-c.rest.now at c.loop-c.invariant.2 c.after_plain.ensures.end) c.in-Some.ensures.bytes) c.in-Some-split_first_char.ensures.bytes

pub loop-c-smaller : goal.loop-c-smaller
loop-c-smaller c =
    let at = c.after_plain.result.now in
    let a : length c.in-Some.after.now < length at = shorter at c.in-Some.c c.in-Some.after.now c.in-Some.ensures.bytes in
    let d : length at ≤ length c.loop-c.rest.now = not_longer c.loop-c.rest.now at c.after_plain.ensures.end in
    omega arith
