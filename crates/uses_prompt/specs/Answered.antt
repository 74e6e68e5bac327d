-- The answers of the prompt to a line.
use Rattle.std.specs.Prelude.{◌≡◌, ◌≢◌, ◌⊎◌, ℕ, List, [], ◌∷◌, ◌++◌, codes}
use Rattle.std.specs.Fmt.{decimal}
use Rattle.std.specs.Str.{chars, IsUtf8}
use Rattle.std.specs.Str.Lossy.{utf8_valid_len}
use Rattle.litrs_diagnostic.specs.Diagnostic.{refusal_text}
use Rattle.litrs_explanation.specs.Explanation.{IsExplanation}
use Rattle.litrs_lines.specs.Characters.{line_feed}
use Rattle.litrs_lines.specs.Derivations.{IsOnlyDerivation}
use Rattle.litrs_lines.specs.Literal.{Derivation, IsLiteral, literal_parse}
use Rattle.litrs_lines.specs.Refused.{IsRefused}
use Rattle.litrs_lines.specs.Steps.{BeginsByLine, IsUnfinished}
use Rattle.litrs.specs.declared.ParseError.{ParseError}

-- The line drops what is held: it is `:cancel` if lines are held, and empty if none is.
abbrev pub Drops : (held line : List ℕ) → Type 0
Drops held line =
    ((held ≡ []) × (line ≡ [])) ⊎ ((held ≢ []) × (line ≡ codes ":cancel"))

-- The hint after the first line of a literal that continues.
abbrev pub hint : (held : List ℕ) → List ℕ
hint [] = codes
    "the literal continues on the next line; :cancel drops it, :quit or Ctrl-D ends\n"
hint (c ∷ held) = []

-- The lines on the refusal of a text.
abbrev pub ShowsRefusal : (text : List ℕ) → ParseError → (answer : List ℕ) → Type 0
ShowsRefusal text e answer = chars answer ≡ refusal_text (codes "prompt") text e 100

-- The answer to a text: the explanation of the literal, or the error.
abbrev pub IsAnswerTo : (text answer : List ℕ) → Type 0
IsAnswerTo text answer =
    ((d : Derivation) × IsOnlyDerivation (IsLiteral (chars text)) d × IsExplanation d answer)
    ⊎ ((e : ParseError) × IsRefused literal_parse (chars text) e × ShowsRefusal text e answer)

-- The lines that are held, and this one, are unfinished: they are held, and the first is answered
-- by the hint. Or no further line completes them: their text is answered, and none is held.
abbrev pub IsRead : (held line after answer : List ℕ) → Type 0
IsRead held line after answer =
    (IsUnfinished (held ++ line) × (after ≡ (held ++ line) ++ line_feed ∷ [])
    × (answer ≡ hint held))
    ⊎ ((BeginsByLine (held ++ line) → ⊥) × (after ≡ []) × IsAnswerTo (held ++ line) answer)

-- The answer to a line, and the text that is held after it. If the line drops the text that is
-- held, both are empty.
pub record IsAnswered (held line after answer : List ℕ) : Type 0 where
  pub dropped : Drops held line → (after ≡ []) × (answer ≡ [])
  pub read : ¬ Drops held line → IsRead held line after answer

-- The other text is the line without one CR at its end, or the line if no CR ends it.
abbrev pub IsWithoutReturn : (line stripped : List ℕ) → Type 0
IsWithoutReturn line stripped = (line ≡ stripped ++ 13 ∷ [])
    ⊎ ((line ≡ stripped) × ((front : List ℕ) → line ≢ front ++ 13 ∷ []))

-- The line ends the prompt.
abbrev pub Quits : (line : List ℕ) → Type 0
Quits line = IsWithoutReturn line (codes ":quit")

-- The answer to a line that is not UTF-8: the index of the first byte that is not.
abbrev pub ignored_text : List ℕ → List ℕ
ignored_text line =
    codes "not UTF-8 at byte " ++ (decimal (utf8_valid_len line) ++ codes ": ignored\n")

-- The answer to the bytes of a line, and the text that is held after it. One CR at the end does not
-- belong to the line. A line that is not UTF-8 changes nothing.
pub record IsReply (held line after answer : List ℕ) : Type 0 where
  pub text : IsUtf8 line →
      (stripped : List ℕ) × IsWithoutReturn line stripped × IsAnswered held stripped after answer
  pub ignored : ¬ IsUtf8 line → (after ≡ held) × (answer ≡ ignored_text line)

-- At the end: the refusal of the lines that are held, if any is.
abbrev pub IsLastAnswer : (held answer : List ℕ) → Type 0
IsLastAnswer [] answer = answer ≡ []
IsLastAnswer (c ∷ held) answer =
    (lines : List ℕ) × (e : ParseError) × (lines ++ 10 ∷ [] ≡ c ∷ held)
    × IsRefused literal_parse (chars lines) e × ShowsRefusal lines e answer
