-- The starts of the lines of a text.
use Rattle.std.specs.Prelude.{◌≡◌, ◌<◌, ◌+◌, ℕ, List, [], ◌∷◌, ◌++◌, length, take, count_by, slice_index, IsFalse}
use Rattle.std.specs.List.{list_any}
use Rattle.std.specs.Str.{chars, IsCharBoundary}
use Rattle.litrs_diagnostic.specs.Position.{is_line_feed, last_line}

-- A line of the text starts at the byte `start`, after `number` LFs.
pub record IsLineStart (source : List ℕ) (number start : ℕ) : Type 0 where
  pub boundary : IsCharBoundary source start
  pub line_feeds : count_by is_line_feed (chars (take start source)) ≡ number
  pub starts : last_line (chars (take start source)) ≡ []

-- The numbers are the starts of the lines after the first, in order.
abbrev pub AreLineStarts : (source starts : List ℕ) → Type 0
AreLineStarts source starts =
    (k : ℕ) → k < length starts → IsLineStart source (k + 1) (slice_index starts k)

-- There is a start for each LF, so no start is missing.
abbrev pub HasEachStart : (source starts : List ℕ) → Type 0
HasEachStart source starts = length starts ≡ count_by is_line_feed (chars source)

-- The first line of the text has `len` bytes, with the LF that ends it.
pub record IsLineLen (text : List ℕ) (len : ℕ) : Type 0 where
  pub boundary : IsCharBoundary text len
  pub some : 0 < len
  pub line : List ℕ
  pub whole : chars (take len text) ≡ line ++ 10 ∷ []
  pub none : IsFalse (list_any is_line_feed line)
