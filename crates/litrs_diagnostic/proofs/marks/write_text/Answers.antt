-- Each turn writes one character and the printable ASCII after it.
use Rattle.std.proofs.Common.{rules, ◌≡◌, ◌++◌, ◌∷◌, ℕ, List, sym, ap, ◌∙◌, append-nil}
use Rattle.std.specs.Str.{chars, encode_utf8_all}
use Rattle.std.proofs.Output.{has_written_append, has_written_of_eq}
use Rattle.litrs_diagnostic.specs.Shown.{shown}
use Rattle.litrs_diagnostic.proofs.Encodes.{parts_more, shown_more}
use Rattle.litrs_diagnostic.proofs.PlainText.{plain_bytes}
use Rattle.litrs_diagnostic.proofs.marks.write_text.Goals as goal

pub loop-c-init : goal.loop-c-init
loop-c-init g c =
    let plain = c.split_plain.result.0.now in (
      plain,
      c.split_plain.ensures.parts,
      c.split_plain.ensures.rest,
      λ is_plain. has_written_of_eq _ _ _ _ _ (plain_bytes plain c.split_plain.ensures.plain)
          (c.write_str.ensures.writes is_plain (search rules)),
    )

pub loop-c-preserved : goal.loop-c-preserved
loop-c-preserved g c =
    let now = c.loop-c.invariant in
    let split = c.split_plain-in-Some in
    let plain = split.result.0.now in (
      now.0 ++ c.in-Some.c ∷ plain,
      parts_more (chars c.args.text.now) now.0 plain (chars c.loop-c.rest.now)
          (chars split.result.1.now) c.in-Some.c (chars c.in-Some.more.now) now.1
          c.in-Some.ensures.parts split.ensures.parts,
      split.ensures.rest,
      λ is_plain. let so_far = now.3 is_plain in
          let one = c.write_shown.ensures so_far.plain (search rules) in
          has_written_of_eq _ _ _ _ _ (shown_more now.0 plain c.in-Some.c split.ensures.plain)
          (has_written_append _ _ _ _ _ _ (has_written_append _ _ _ _ _ _ so_far one)
          (c.write_str-in-Some.ensures.writes one.plain (search rules))),
    )

pub returns : goal.returns
returns g c = λ plain ok.
    let now = c.loop-c.invariant in
    let all : now.0 ≡ chars c.args.text.now = sym (now.1
    ∙ (ap (λ (l : List ℕ). now.0 ++ l) c.in_default.ensures.empty ∙ append-nil now.0)) in
    has_written_of_eq _ _ _ _ _ (ap (λ (cs : List ℕ). encode_utf8_all (shown cs)) all)
    (now.3 plain)
