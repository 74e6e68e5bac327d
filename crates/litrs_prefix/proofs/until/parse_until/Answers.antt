-- The text before the delimiter is a front of what follows `start`.
use Rattle.litrs_prefix.proofs.Words.{length, List, ℕ, drop, sym, ap, subst, ◌∙◌, arith, chars, byte_len, byte_len-all, literal_parse, after_literal, before_delimiter, IsRefusedOrOutOfMemory, after_bytes, end_of_end}
use Rattle.litrs.proofs.MovedRefusals.{error_moves}
use Rattle.litrs_prefix.proofs.Delimiters.{starts_with_delimiter, before_front}
use Rattle.litrs_prefix.proofs.Marks.{front_marks}
use Rattle.litrs_prefix.proofs.until.parse_until.Goals as goal

pub returns-in-Ok-clause-delimiter : goal.returns-in-Ok-clause-delimiter
returns-in-Ok-clause-delimiter c =
    rw (c.split_at_delimiter.ensures.rest) (starts_with_delimiter (chars c.args.delimiters.now) (after_literal (chars c.range_from.result.now)))

pub returns-in-Ok-clause-end : goal.returns-in-Ok-clause-end
returns-in-Ok-clause-end c =
    end_of_end c.args.source.now c.range_from.result.now c.split_at_delimiter.result.1.now
    (after_bytes c.args.source.now c.range_from.result.now c.args.start c.range_from.ensures.value) c.split_at_delimiter.ensures.end

pub offset_span-requires : goal.offset_span-requires
offset_span-requires c =
    let split = c.split_at_delimiter.ensures in
    error_moves literal_parse c.split_at_delimiter.result.0.now c.in-Err.error c.args.start split.utf8 (omega (arith, c.range_from.ensures.len, split.fits)) c.in-Err.ensures.refused

pub returns-in-Err-clause-refused : goal.returns-in-Err-clause-refused
returns-in-Err-clause-refused c =
    let split = c.split_at_delimiter.ensures in
    let is = split.front ∙ ap (λ (l : List ℕ). before_delimiter (chars c.args.delimiters.now) (chars l)) c.range_from.ensures.value in
    record {
      of_text = c.in-Err.error;
      refused = subst (λ (l : List ℕ). IsRefusedOrOutOfMemory literal_parse l c.in-Err.error) is c.in-Err.ensures.refused;
      len = sym (byte_len-all c.split_at_delimiter.result.0.now split.utf8) ∙ ap byte_len is;
      refusal = c.offset_span.ensures.refusal;
      char_span = c.offset_span.ensures.char_span;
    }

pub returns-in-Err-clause-marks : goal.returns-in-Err-clause-marks
returns-in-Err-clause-marks c =
    let more = before_front (chars c.args.delimiters.now) (chars (drop c.args.start c.args.source.now)) in
    let at = returns-in-Err-clause-refused c in
    front_marks c.args.source.now _ more.0 c.args.start (record { error = c.offset_span.result; len = length c.split_at_delimiter.result.0.now }) at.of_text c.utf8.source c.requires more.1 (sym at.len) at.char_span at.refused
