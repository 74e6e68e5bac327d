-- The reports on a literal and on an error for a person.
use Rattle.std.specs.Prelude.{◌≡◌, ◌≢◌, ◌-◌, ◌^◌, ℕ, min, Bool, true, false, List, [], ◌++◌, Option, Some, None, codes, if◌then◌else◌}
use Rattle.std.specs.Fmt.{decimal}
use Rattle.std.specs.Str.{chars, encode_utf8_all}
use Rattle.std.specs.declared.ops.Range.{Range}
use Rattle.litrs_base.specs.Kind.{kind_text}
use Rattle.litrs_base.specs.declared.err.ParseErrorKind.{ParseErrorKind}
use Rattle.litrs_base.specs.declared.err.ParseErrorKind.TheVariants.{InvalidLiteral}
use Rattle.litrs_diagnostic.specs.Diagnostic.{Message, error_on, diagnostic_text, colored_text}
use Rattle.litrs_explain.specs.declared.place.Place.{Place}
use Rattle.litrs_explanation.specs.Explanation.{IsExplanation}
use Rattle.litrs_grammar.specs.Literal.{Derivation, LiteralKind, integer_literal, float_literal, kind_parse, IsLiteralOf}

-- The name of a file, and a line and a column in it.
abbrev pub place_text : (name : List ℕ) → Place → List ℕ
place_text name place =
    name ++ (codes ":" ++
    (decimal place.line ++ (codes ":" ++ (decimal place.column ++ codes ":"))))

-- The report ends with a blank and an explanation of the literal, after the text `front`.
abbrev pub IsLiteralReport : (front : List ℕ) → Derivation → (report : List ℕ) → Type 0
IsLiteralReport front d report =
    (lines : List ℕ) × IsExplanation d lines × (report ≡ front ++ (codes " " ++ lines))

-- The message on an error of this kind, or on a byte that is not UTF-8.
abbrev pub message_text : Option ParseErrorKind → List ℕ
message_text (Some kind) = kind_text kind
message_text None = codes "byte that is not UTF-8"

-- The line that says whether more text can complete the literal.
abbrev pub note_text : (is_incomplete : Bool) → List ℕ
note_text true = codes "  this is incomplete: more text can complete it\n"
note_text false = codes "  no continuation of this text is a literal\n"

-- The number, or the greatest that 32 bits hold.
abbrev pub narrowed : ℕ → ℕ
narrowed n = min n (2 ^ 32 - 1)

-- The message on a part of `source`, which begins at `place` in this file, in 100 columns.
abbrev pub problem_message :
    (name source : List ℕ) → Place → (marked : Range ℕ) → Option ParseErrorKind → Message
problem_message name source place marked kind =
    record (error_on name source marked.start marked.end (message_text kind))
    { first_line = narrowed place.line; first_column = narrowed place.column; width = 100 }

-- The text, in bytes, is a minus sign and a literal of the kind.
abbrev pub IsNegated : LiteralKind → (text : List ℕ) → Type 0
IsNegated kind text = (number : List ℕ) × (d : Derivation)
    × (text ≡ codes "-" ++ number) × IsLiteralOf (kind_parse kind) (chars number) d

-- `note` is the line on the sign of `text`, or empty if `text` is not a minus sign and a number.
pub record IsSignNote (text note : List ℕ) : Type 0 where
  pub integer : IsNegated integer_literal text →
      note ≡ codes "  a sign is not part of a literal: without it, this is an integer\n"
  pub float : IsNegated float_literal text →
      note ≡ codes "  a sign is not part of a literal: without it, this is a float\n"
  pub other : ¬ IsNegated integer_literal text → ¬ IsNegated float_literal text → note ≡ []

-- The report ends with this message, perhaps in color, and the line on more text, after the text
-- `front`. If the kind is `InvalidLiteral`, the line on a sign follows, for the text that is
-- marked.
pub record IsProblemReport
    (front : List ℕ) (is_colored : Bool) (m : Message) (kind : Option ParseErrorKind)
    (is_incomplete : Bool) (marked report : List ℕ) : Type 0 where
  pub sign : List ℕ
  pub spells : report ≡ front
      ++ (encode_utf8_all (if is_colored then colored_text m else diagnostic_text m)
      ++ (note_text is_incomplete ++ sign))
  pub is_sign : kind ≡ Some InvalidLiteral → IsSignNote marked sign
  pub no_sign : kind ≢ Some InvalidLiteral → sign ≡ []

-- The status of a run: 2 if an input was not read to its end, else 1 if there was an error, else 0.
abbrev pub status_of : (has_errors has_failed : Bool) → ℕ
status_of has_errors true = 2
status_of true false = 1
status_of false false = 0
