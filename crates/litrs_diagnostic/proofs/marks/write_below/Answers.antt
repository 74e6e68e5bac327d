-- Each turn writes the marks below one character and below the printable ASCII after it.
use Rattle.std.proofs.Common.{rules, ◌≡◌, ◌++◌, ◌∷◌, ℕ, List, replicate, sym, ap, ◌∙◌, append-nil}
use Rattle.std.specs.Str.{chars, encode_utf8_all}
use Rattle.std.proofs.Output.{has_written_append, has_written_of_eq}
use Rattle.litrs_diagnostic.specs.Shown.{columns, glyph_char, shown}
use Rattle.litrs_diagnostic.proofs.Encodes.{below_more, parts_more}
use Rattle.litrs_diagnostic.proofs.PlainText.{plain_columns}
use Rattle.litrs_diagnostic.proofs.marks.write_below.Goals as goal

pub loop-c-init : goal.loop-c-init
loop-c-init g c =
    let plain = c.split_plain.result.0.now in (
      plain,
      c.split_plain.ensures.parts,
      c.split_plain.ensures.rest,
      λ is_plain. has_written_of_eq _ _ _ _ _
          (ap (λ (n : ℕ). encode_utf8_all (replicate n (glyph_char c.args.glyph)))
          (plain_columns plain c.split_plain.ensures.plain))
          (c.write_times.ensures is_plain (search rules)),
    )

pub loop-c-preserved : goal.loop-c-preserved
loop-c-preserved g c =
    let now = c.loop-c.invariant in
    let split = c.split_plain-in-Some in
    let plain = split.result.0.now in (
      now.0 ++ c.in-Some.c ∷ plain,
      parts_more (chars c.args.text.now) now.0 plain (chars c.loop-c.rest.now)
          (chars split.result.1.now) c.in-Some.c (chars c.in-Some.more.now) now.1
          c.in-Some.ensures.parts split.ensures.parts,
      split.ensures.rest,
      λ is_plain. let so_far = now.3 is_plain in
          let one = c.write_times-in-Some.ensures so_far.plain (search rules) in
          has_written_of_eq _ _ _ _ _ (below_more now.0 plain c.in-Some.c c.shown_width.result
          (glyph_char c.args.glyph) split.ensures.plain c.shown_width.ensures)
          (has_written_append _ _ _ _ _ _ (has_written_append _ _ _ _ _ _ so_far one)
          (c.write_times-in-Some-2.ensures one.plain (search rules))),
    )

pub returns : goal.returns
returns g c = λ plain ok.
    let now = c.loop-c.invariant in
    let all : now.0 ≡ chars c.args.text.now = sym (now.1
    ∙ (ap (λ (l : List ℕ). now.0 ++ l) c.in_default.ensures.empty ∙ append-nil now.0)) in
    has_written_of_eq _ _ _ _ _ (ap (λ (cs : List ℕ). encode_utf8_all
    (replicate (columns (shown cs)) (glyph_char c.args.glyph))) all) (now.3 plain)
