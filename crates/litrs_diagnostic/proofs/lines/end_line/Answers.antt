-- The range ends with its last line, after which the text continues.
use Rattle.std.proofs.Common.{◌∙◌, sym, ap}
use Rattle.std.specs.Str.{chars}
use Rattle.std.proofs.lemmas.Str.{chars-nil}
use Rattle.litrs_diagnostic.specs.Position.{last_line}
use Rattle.litrs_diagnostic.proofs.Cuts.{cut_within_range, end_line_is}
use Rattle.litrs_diagnostic.proofs.lines.end_line.Goals as goal

pub split_at-requires : goal.split_at-requires
split_at-requires c =
    let mark = c.last_line-mark.ensures.end in
    let cut = cut_within_range c.args.source.now mark.0 c.last_line-mark.result.now c.args.start
    c.args.end c.utf8.source
    c.requires.start c.requires.end c.requires.in_order c.last_line-mark.utf8
    (sym c.range.ensures.value ∙ mark.1) in
    cut.boundary

pub cut_first_line-requires : goal.cut_first_line-requires
cut_first_line-requires c =
    let mark = c.last_line-mark.ensures.end in
    let cut = cut_within_range c.args.source.now mark.0 c.last_line-mark.result.now c.args.start
    c.args.end c.utf8.source
    c.requires.start c.requires.end c.requires.in_order c.last_line-mark.utf8
    (sym c.range.ensures.value ∙ mark.1) in
    rw c.split_at.ensures.back cut.cuts

pub returns : goal.returns
returns c =
    let mark = c.last_line-mark.ensures.end in
    let cut = cut_within_range c.args.source.now mark.0 c.last_line-mark.result.now c.args.start
    c.args.end c.utf8.source
    c.requires.start c.requires.end c.requires.in_order c.last_line-mark.utf8
    (sym c.range.ensures.value ∙ mark.1) in
    let line = c.last_line-mark.ensures.line ∙ ap
    (λ l. last_line (chars l)) c.range.ensures.value in
    end_line_is c.args.source.now c.last_line-mark.result.now c.split_at.result.1.now _ _ _
    c.args.start c.args.end cut
    chars-nil line c.split_at.ensures.back c.cut_first_line.ensures.marked
    c.cut_first_line.ensures.after
