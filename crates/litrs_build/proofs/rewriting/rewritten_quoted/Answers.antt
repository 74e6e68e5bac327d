-- The front, and the body after it.
use Rattle.std.proofs.Common.{ℕ, drop, sym, ap, ◌∙◌, subst, string_bytes}
use Rattle.std.specs.Str.{IsCharBoundary}
use Rattle.litrs_build.proofs.RewrittenLiterals.{quoted_fronted, quoted_body, quoted_bytes, quoted_place}
use Rattle.litrs_build.proofs.rewriting.rewritten_quoted.Goals as goal

pub split_at-requires : goal.split_at-requires
split_at-requires c =
    subst (λ (n : ℕ). IsCharBoundary c.args.raw.now n) (sym c.front_len.ensures.quoted)
    (quoted_fronted c.args.kind c.args.raw.now c.requires.0 c.utf8.raw c.requires.1).boundary

pub push_body-requires : goal.push_body-requires
push_body-requires c =
    let d = c.requires.0 in (
      d.items,
      d.suffix,
      quoted_body c.args.kind c.args.raw.now c.split_at.result.1.now c.switches.result d c.utf8.raw
          c.requires.1 (c.split_at.ensures.back
          ∙ ap (λ (n : ℕ). drop n c.args.raw.now) c.front_len.ensures.quoted) c.switches.ensures,
    )

pub returns : goal.returns
returns c = λ d is.
    let body = quoted_body c.args.kind c.args.raw.now c.split_at.result.1.now c.switches.result d c.utf8.raw
    is (c.split_at.ensures.back ∙ ap (λ (n : ℕ). drop n c.args.raw.now) c.front_len.ensures.quoted)
    c.switches.ensures in
    quoted_bytes c.args.kind c.args.style.now c.args.raw.now c.split_at.result.0.now
    (string_bytes c.in_ok-text.text) (string_bytes c.push_str.new.self)
    (string_bytes c.push_body.new.text) d c.utf8.raw is
    (quoted_place c.args.kind c.args.raw.now c.split_at.result.0.now c.front_len.result d c.utf8.raw is
    c.front_len.ensures.quoted c.split_at.ensures.front)
    c.in_ok-text.ensures.bytes c.in_ok-push_str.ensures.bytes
    (c.in_ok-push_body.ensures d.items d.suffix body)
