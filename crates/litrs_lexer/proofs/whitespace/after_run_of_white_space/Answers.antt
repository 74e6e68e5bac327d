-- The ASCII characters at the front are passed over by their bytes.
use Rattle.std.proofs.Common.{List, ℕ, sym, ap, ◌∙◌}
use Rattle.std.specs.List.{prefix_len}
use Rattle.std.specs.Str.{chars}
use Rattle.litrs_prefix.proofs.Ends.{after_bytes, end_of_end}
use Rattle.litrs_lexer.specs.Cut.{is_ascii_white_space}
use Rattle.litrs_lexer.specs.Whitespace.{after_white_space}
use Rattle.litrs_lexer.proofs.AsciiRuns.{white_cut, white_ends}
use Rattle.litrs_lexer.proofs.whitespace.after_run_of_white_space.Goals as goal

pub split_at-requires : goal.split_at-requires
split_at-requires c = (white_cut c.args.text.now c.class_len.result c.utf8.text (c.class_len.ensures ∙ ap (prefix_len is_ascii_white_space) c.as_bytes.ensures.value)).0

pub returns-then-starts_beyond_ascii-clause-rest : goal.returns-then-starts_beyond_ascii-clause-rest
returns-then-starts_beyond_ascii-clause-rest c =
    c.after_any_white_space.ensures.rest
    ∙ (ap (λ (l : List ℕ). after_white_space (chars l)) c.split_at.ensures.back ∙ (white_cut c.args.text.now c.class_len.result c.utf8.text (c.class_len.ensures ∙ ap (prefix_len is_ascii_white_space) c.as_bytes.ensures.value)).1)

pub returns-then-starts_beyond_ascii-clause-end : goal.returns-then-starts_beyond_ascii-clause-end
returns-then-starts_beyond_ascii-clause-end c =
    end_of_end c.args.text.now c.split_at.result.1.now c.after_any_white_space.result.now
    (after_bytes c.args.text.now c.split_at.result.1.now c.class_len.result c.split_at.ensures.back) c.after_any_white_space.ensures.end

pub returns-else-starts_beyond_ascii-clause-rest : goal.returns-else-starts_beyond_ascii-clause-rest
returns-else-starts_beyond_ascii-clause-rest c =
    white_ends c.args.text.now c.split_at.result.1.now c.class_len.result c.utf8.text (c.class_len.ensures ∙ ap (prefix_len is_ascii_white_space) c.as_bytes.ensures.value) c.split_at.ensures.back (sym c.starts_beyond_ascii.ensures ∙ c.if-starts_beyond_ascii.false)

pub returns-else-starts_beyond_ascii-clause-end : goal.returns-else-starts_beyond_ascii-clause-end
returns-else-starts_beyond_ascii-clause-end c = after_bytes c.args.text.now c.split_at.result.1.now c.class_len.result c.split_at.ensures.back
