-- Texts as they are shown, and their widths.
use Rattle.std.specs.Prelude.{ℕ, Bool, nat_le, ◌==◌, ◌&&◌, List, [], ◌∷◌, unwrap_or, false, replicate, if◌then◌else◌}
use Rattle.std.specs.List.{flat_map, sum_by}
use Rattle.std.specs.Char.Escape.{escape_unicode}
use Rattle.unicode_width.specs.Width.{char_width}
use Rattle.litrs_diagnostic.specs.Printable.{is_printable}
use Rattle.litrs_diagnostic.specs.declared.marks.Glyph.{Glyph}
use Rattle.litrs_diagnostic.specs.declared.marks.Glyph.TheVariants.{Space, Caret, Dash}

-- A space, a tab, a caret and a dash.
abbrev pub blank : ℕ
blank = 32

abbrev pub tab : ℕ
tab = 9

abbrev pub caret : ℕ
caret = 94

abbrev pub dash : ℕ
dash = 45

-- The character that is written once for each column.
abbrev pub glyph_char : Glyph → ℕ
glyph_char Space = blank
glyph_char Caret = caret
glyph_char Dash = dash

-- `true` iff the character is printable ASCII: from the space to `~`.
abbrev pub is_plain : ℕ → Bool
is_plain c = nat_le 32 c && nat_le c 126

-- A tab is shown as four blanks, and a character that is not printable as `\u{..}`.
unfoldable pub shown_char : ℕ → List ℕ
shown_char c =
    if c == tab then replicate 4 blank else if is_printable c then c ∷ [] else escape_unicode c

-- A text as it is shown, character by character.
abbrev pub shown : List ℕ → List ℕ
shown t = flat_map shown_char t

-- The number of columns of a character in a terminal, by Unicode's East Asian Width.
abbrev pub char_columns : ℕ → ℕ
char_columns c = unwrap_or (char_width false c) 0

-- The columns of a text are those of its characters, each by itself.
abbrev pub columns : List ℕ → ℕ
columns t = sum_by char_columns t
