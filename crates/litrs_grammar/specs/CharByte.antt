-- Chars and bytes. The Rust Reference, Tokens, Literals: "Character literals" and "Byte literals".
use Rattle.std.specs.Prelude.{◌≡◌, ℕ, ◌+◌, Bool, true, not, ◌==◌, ◌&&◌, ◌||◌, if◌then◌else◌, List, [], ◌∷◌, ◌++◌, Option, Some, None, IsTrue, length, take, drop, option_map, is_some}
use Rattle.std.specs.List.{list_any}
use Rattle.litrs_base.specs.declared.quotes.CharKind.{CharKind}
use Rattle.litrs_base.specs.declared.quotes.CharKind.TheVariants.{Char as char_kind, Byte as byte_kind}
use Rattle.litrs_base.specs.Quotes.{char_front, char_switches_of}
use Rattle.litrs_base.specs.Unescape.{unescaped_number}
use Rattle.litrs_base.specs.Refusal.{Refusal, without_span, at_byte, shifted}
use Rattle.litrs_base.specs.declared.err.ParseErrorKind.{ParseErrorKind}
use Rattle.litrs_base.specs.declared.err.ParseErrorKind.TheVariants.{Empty, DoesNotStartWithQuote, InvalidByteLiteralStart, UnterminatedCharLiteral, UnterminatedByteLiteral, UnescapedSingleQuote, EmptyCharLiteral, EmptyByteLiteral, UnescapedSpecialWhitespace, NonAsciiInByteLiteral, OverlongCharLiteral, OverlongByteLiteral}
use Rattle.litrs_base.specs.Characters.{line_feed, tab, carriage_return, single_quote, backslash, is_ascii}
use Rattle.litrs_grammar.specs.Escape.{Escape, escape_text, escape_value, is_escape, escape_at_front, escape_refusal}
use Rattle.litrs_grammar.specs.Suffix.{is_suffix, suffix_kind}
use Rattle.litrs_base.specs.Text.{byte_len, first_passes, begins_with}

-- The item between the quotes: one plain character, or one escape.
pub data CharItem : Type 0 where
  plain_char : ℕ → CharItem
  escaped_char : Escape → CharItem

-- The text of an item.
abbrev pub char_item_text : CharItem → List ℕ
char_item_text (plain_char c) = c ∷ []
char_item_text (escaped_char e) = escape_text e

-- The value of an item: a character or a byte.
abbrev pub char_value : CharItem → ℕ
char_value (plain_char c) = c
char_value (escaped_char e) = unescaped_number (escape_value e)

-- LF, tab and CR, which must be escaped.
abbrev pub is_special_whitespace : ℕ → Bool
is_special_whitespace c = (c == line_feed) || (c == tab) || (c == carriage_return)

-- A char may contain every character, and a byte only ASCII characters.
abbrev pub allows_char : CharKind → ℕ → Bool
allows_char char_kind c = true
allows_char byte_kind c = is_ascii c

-- A plain character is not `'`, a backslash, LF, tab or CR. In a byte it is ASCII. An escape is one
-- of those that the kind allows.
abbrev pub is_char_item : CharKind → CharItem → Bool
is_char_item kind (plain_char c) =
    not (c == single_quote) && not (c == backslash) && not (is_special_whitespace c)
    && allows_char kind c
is_char_item kind (escaped_char e) = is_escape (char_switches_of kind) e

-- The parts of a char or a byte, which is the front, one item, `'` and a suffix.
pub record CharParts : Type 0 where
  pub item : CharItem
  pub suffix : List ℕ

-- The text of a char or a byte.
abbrev pub char_text : CharKind → CharParts → List ℕ
char_text kind d = char_front kind ++ (char_item_text d.item ++ single_quote ∷ d.suffix)

-- `t` is a literal of the kind with the parts `d` iff they spell `t`, the item is one of the kind,
-- and the suffix is a suffix.
pub record IsCharLiteral (kind : CharKind) (t : List ℕ) (d : CharParts) : Type 0 where
  pub spells : char_text kind d ≡ t
  pub item : IsTrue (is_char_item kind d.item)
  pub suffix : IsTrue (is_suffix d.suffix)

-- Refusals. In each function the first row that fits decides. If none fits, the text is a literal.

-- The three error kinds that differ between chars and bytes.
abbrev pub unterminated_kind : CharKind → ParseErrorKind
unterminated_kind char_kind = UnterminatedCharLiteral
unterminated_kind byte_kind = UnterminatedByteLiteral

abbrev pub empty_kind : CharKind → ParseErrorKind
empty_kind char_kind = EmptyCharLiteral
empty_kind byte_kind = EmptyByteLiteral

abbrev pub overlong_kind : CharKind → ParseErrorKind
overlong_kind char_kind = OverlongCharLiteral
overlong_kind byte_kind = OverlongByteLiteral

-- The refusal of a text that does not start with the front of the kind.
abbrev pub start_refusal : CharKind → List ℕ → Refusal
start_refusal kind [] = without_span Empty
start_refusal char_kind (c ∷ t) = at_byte 0 DoesNotStartWithQuote
start_refusal byte_kind (c ∷ t) = without_span InvalidByteLiteralStart

-- The item at the front of a text `t` that starts with `c`, if there is one.
abbrev pub char_item_at_front : ℕ → List ℕ → CharItem
char_item_at_front c t = if c == backslash then escaped_char (escape_at_front t) else plain_char c

-- The refusal by the text `t` after the item, which ends at `place`, in bytes.
abbrev pub closing_refusal : CharKind → ℕ → List ℕ → Option Refusal
closing_refusal kind place t =
    if not (list_any (λ c. c == single_quote) t) then Some (without_span (unterminated_kind kind))
    else if not (first_passes (λ c. c == single_quote) t)
    then Some (without_span (overlong_kind kind))
    else if not (is_suffix (drop 1 t)) then Some (at_byte (place + 1) (suffix_kind (drop 1 t)))
    else None

-- The refusal by the text after the front. Spans count from the end of the front.
abbrev pub char_item_refusal : CharKind → List ℕ → Option Refusal
char_item_refusal kind [] = Some (without_span (unterminated_kind kind))
char_item_refusal kind (c ∷ t) =
    let n = length (char_item_text (char_item_at_front c (c ∷ t))) in
    if (c == single_quote) && first_passes (λ d. d == single_quote) t
    then Some (at_byte 0 UnescapedSingleQuote)
    else if c == single_quote then Some (without_span (empty_kind kind))
    else if is_special_whitespace c then Some (at_byte 0 UnescapedSpecialWhitespace)
    else if (c == backslash) && is_some (escape_refusal (char_switches_of kind) (c ∷ t))
    then escape_refusal (char_switches_of kind) (c ∷ t)
    else if not (allows_char kind c) then Some (at_byte 0 NonAsciiInByteLiteral)
    else closing_refusal kind (byte_len (take n (c ∷ t))) (drop n (c ∷ t))

-- The refusal of a text as a literal of the kind.
unfoldable pub char_kind_refusal : CharKind → List ℕ → Option Refusal
char_kind_refusal kind t =
    let place = length (char_front kind) in
    if begins_with (char_front kind) t
    then option_map (shifted place) (char_item_refusal kind (drop place t))
    else Some (start_refusal kind t)

-- The refusal of a text as a char.
abbrev pub char_refusal : List ℕ → Option Refusal
char_refusal = char_kind_refusal char_kind

-- The refusal of a text as a byte.
abbrev pub byte_refusal : List ℕ → Option Refusal
byte_refusal = char_kind_refusal byte_kind
