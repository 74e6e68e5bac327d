-- The text before a delimiter, which is read as one literal. The Rust Reference does not define it.
use Rattle.std.specs.Prelude.{◌≡◌, ℕ, ◌-◌, ◌==◌, ◌||◌, Bool, List, [], ◌∷◌, length, take, if◌then◌else◌, IsTrue}
use Rattle.std.specs.List.{list_any}
use Rattle.std.specs.Str.{drop_trailing_whitespace}
use Rattle.litrs_base.specs.Refusal.{refusal_of, char_span_of, shifted, shifted_span}
use Rattle.litrs_base.specs.Text.{byte_len, first_passes, is_empty}
use Rattle.litrs_base.specs.declared.err.ParseError.{ParseError}
use Rattle.litrs_grammar.specs.Literal.{literal_parse}
use Rattle.litrs_grammar.specs.Refused.{IsRefusedOrOutOfMemory}
use Rattle.litrs_prefix.specs.declared.MalformedPrefix.{MalformedPrefix}
use Rattle.litrs_prefix.specs.Piece.{after_opened}
use Rattle.litrs_prefix.specs.Opens.{opens}

-- `true` iff the character is one of the delimiters.
abbrev pub is_delimiter : (delimiters : List ℕ) → ℕ → Bool
is_delimiter delimiters c = list_any (λ d. d == c) delimiters

-- The text from its first delimiter on, or nothing if there is none.
abbrev pub from_first : (delimiters : List ℕ) → List ℕ → List ℕ
from_first delimiters [] = []
from_first delimiters (c ∷ t) =
    if is_delimiter delimiters c then c ∷ t else from_first delimiters t

-- The text in which the delimiter is looked for: that after the piece at the front, or all of the
-- text if no literal begins there.
abbrev pub after_literal : List ℕ → List ℕ
after_literal t = if opens t then after_opened t else t

-- The text from the delimiter on.
abbrev pub from_delimiter : (delimiters : List ℕ) → List ℕ → List ℕ
from_delimiter delimiters t = from_first delimiters (after_literal t)

-- The text before the delimiter, without the white space at its end.
abbrev pub before_delimiter : (delimiters : List ℕ) → List ℕ → List ℕ
before_delimiter delimiters t =
    drop_trailing_whitespace (take (length t - length (from_delimiter delimiters t)) t)

-- The text starts with a delimiter, or is empty.
abbrev pub StartsWithDelimiter : (delimiters : List ℕ) → List ℕ → Type 0
StartsWithDelimiter delimiters t =
    IsTrue (is_empty t || first_passes (is_delimiter delimiters) t)

-- `e` is the error of the parse of a literal of any kind for the text `t`, with its spans moved by
-- `start`. The text is `start` bytes into a longer one.
pub record IsRefusedUntil (start : ℕ) (t : List ℕ) (e : MalformedPrefix) : Type 0 where
  pub of_text : ParseError
  pub refused : IsRefusedOrOutOfMemory literal_parse t of_text
  pub len : e.len ≡ byte_len t
  pub refusal : refusal_of e.error ≡ shifted start (refusal_of of_text)
  pub char_span : char_span_of e.error ≡ shifted_span start (char_span_of of_text)
