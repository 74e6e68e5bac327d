-- Refusals: a kind, and perhaps a span in the text, in bytes. The Rust Reference does not define
-- them.
use Rattle.std.specs.Prelude.{ℕ, ◌+◌, ◌<◌, ◌^◌, List, [], ◌++◌, Option, Some, None, IfSome, option_map, unwrap_or, codes}
use Rattle.std.specs.Option.{ForSome}
use Rattle.std.specs.Fmt.{decimal}
use Rattle.std.specs.declared.ops.Range.{Range}
use Rattle.litrs_base.specs.declared.err.ParseErrorKind.{ParseErrorKind}
use Rattle.litrs_base.specs.declared.err.ParseError.{ParseError}
use Rattle.litrs_base.specs.Kind.{kind_text}
use Rattle.litrs_base.specs.Text.{byte_len, PointsInto}
use Rattle.litrs_base.specs.CharEnd.{IsCharEnd}

-- A refusal: a kind and a span.
pub record Refusal : Type 0 where
  pub span : Option (Range ℕ)
  pub kind : ParseErrorKind

-- The refusal with this kind and this span.
abbrev pub refusal : Option (Range ℕ) → ParseErrorKind → Refusal
refusal span kind = record { span = span; kind = kind }

-- A refusal without a span.
abbrev pub without_span : ParseErrorKind → Refusal
without_span kind = refusal None kind

-- A refusal of the bytes from `start` up to `end`.
abbrev pub spanning : ℕ → ℕ → ParseErrorKind → Refusal
spanning start end kind = refusal (Some (record { start = start; end = end })) kind

-- A refusal of one byte.
abbrev pub at_byte : ℕ → ParseErrorKind → Refusal
at_byte place kind = spanning place (place + 1) kind

-- A span with both ends moved by `offset`.
abbrev pub shifted_span : ℕ → Option (Range ℕ) → Option (Range ℕ)
shifted_span offset None = None
shifted_span offset (Some span) =
    Some (record { start = span.start + offset; end = span.end + offset })

-- A refusal with its span moved by `offset`.
abbrev pub shifted : ℕ → Refusal → Refusal
shifted offset r = refusal (shifted_span offset r.span) r.kind

-- The span of the refusal, if there is one, lies in the text.
abbrev pub IsInText : List ℕ → Refusal → Type 0
IsInText t r = IfSome r.span (PointsInto t)

-- A span as it is printed.
abbrev pub span_text : Option (Range ℕ) → List ℕ
span_text None = []
span_text (Some span) =
    codes " (at " ++ decimal span.start ++ codes ".." ++ decimal span.end ++ codes ")"

-- A refusal as it is printed: the description, and the span if there is one.
abbrev pub refusal_text : Refusal → List ℕ
refusal_text r = kind_text r.kind ++ span_text r.span

-- Errors: an error of the code has a refusal, and the end of its span in whole characters.

-- The refusal of an error.
abbrev pub refusal_of : ParseError → Refusal
refusal_of e = record { span = e.span; kind = e.kind }

-- The parts of an error.
abbrev pub kind_of : ParseError → ParseErrorKind
kind_of e = (refusal_of e).kind

abbrev pub span_of : ParseError → Option (Range ℕ)
span_of e = (refusal_of e).span

-- The character span of an error: its span, up to the end in whole characters.
abbrev pub char_span_of : ParseError → Option (Range ℕ)
char_span_of e = option_map (λ span. record { start = span.start; end = e.char_end }) (span_of e)

-- The part of the text to mark: the character span, or all of the text if there is none.
abbrev pub marked_span : List ℕ → ParseError → Range ℕ
marked_span t e = unwrap_or (char_span_of e) (record { start = 0; end = byte_len t })

-- The end in whole characters is that of the span in the text, if there is a span.
abbrev pub HasCharSpan : List ℕ → ParseError → Type 0
HasCharSpan t e = IfSome (span_of e) (λ span. IsCharEnd t span.end e.char_end)

-- Both spans can be moved by `offset`.
abbrev pub MovesWithin : ℕ → ParseError → Type 0
MovesWithin offset e = ForSome (span_of e) (λ span.
    (span.start + offset < 2 ^ 64) × (span.end + offset < 2 ^ 64) × (e.char_end + offset < 2 ^ 64))
