-- Quoted strings, byte strings and C strings. The Rust Reference, Tokens, Literals:
-- "String literals", "Byte string literals" and "C string literals"; Literal expressions:
-- "String continuation escapes".
use Rattle.std.specs.Prelude.{◌≡◌, ℕ, Bool, true, not, ◌==◌, ◌&&◌, if◌then◌else◌, List, [], ◌∷◌, ◌++◌, Option, Some, None, IsTrue, encode_utf8}
use Rattle.std.specs.List.{list_all}
use Rattle.litrs_base.specs.Quotes.{quoted_front, switches_of}
use Rattle.litrs_base.specs.Refusal.{Refusal, without_span, at_byte, shifted}
use Rattle.litrs_base.specs.declared.err.ParseErrorKind.TheVariants.{UnterminatedString, CarriageReturn, NulByte, NonAsciiInByteLiteral}
use Rattle.litrs_base.specs.Characters.{line_feed, carriage_return, double_quote, backslash, is_blank, fits_charset, nul_is_allowed}
use Rattle.litrs_base.specs.declared.quotes.Switches.{Switches}
use Rattle.litrs_base.specs.declared.quotes.StringKind.{StringKind}
use Rattle.litrs_grammar.specs.Escape.{Escape, escape_text, escape_value, value_bytes, allows_value, is_escape, escape_refusal}
use Rattle.litrs_grammar.specs.Suffix.{is_suffix, suffix_kind}
use Rattle.litrs_base.specs.Text.{is_empty, byte_len, first_passes}

-- An item of a body: a plain character, an escape, or a continuation. A continuation is a
-- backslash, LF and all spaces, tabs and LFs after it.
pub data Item : Type 0 where
  plain_item : ℕ → Item
  escape_item : Escape → Item
  continuation : List ℕ → Item

-- The text of an item.
abbrev pub item_text : Item → List ℕ
item_text (plain_item c) = c ∷ []
item_text (escape_item e) = escape_text e
item_text (continuation blanks) = backslash ∷ line_feed ∷ blanks

-- The value of an item, in bytes. That of a continuation is empty.
abbrev pub item_value : Item → List ℕ
item_value (plain_item c) = encode_utf8 c
item_value (escape_item e) = value_bytes (escape_value e)
item_value (continuation blanks) = []

-- A plain character is not `"`, a backslash or CR. In a byte string it is ASCII, and in a C string
-- it is not NUL.
abbrev pub is_plain : Switches → ℕ → Bool
is_plain w c =
    not (c == double_quote) && not (c == backslash) && not (c == carriage_return)
    && fits_charset w.unicode c && nul_is_allowed w.allow_nul c

abbrev pub is_item : Switches → Item → Bool
is_item w (plain_item c) = is_plain w c
is_item w (escape_item e) = is_escape w e
is_item w (continuation blanks) = list_all is_blank blanks

-- The texts of items, one after the other.
abbrev pub body_text : List Item → List ℕ
body_text [] = []
body_text (item ∷ items) = item_text item ++ body_text items

-- The values of items, one after the other.
abbrev pub body_value : List Item → List ℕ
body_value [] = []
body_value (item ∷ items) = item_value item ++ body_value items

-- `true` iff the item is not a continuation that a space, tab or LF follows.
abbrev pub takes_all_blanks : Item → List ℕ → Bool
takes_all_blanks (plain_item c) after = true
takes_all_blanks (escape_item e) after = true
takes_all_blanks (continuation blanks) after = not (first_passes is_blank after)

-- A quoted body is a list of items. No item that starts with a space, tab or LF follows a
-- continuation.
abbrev pub is_body : Switches → List Item → Bool
is_body w [] = true
is_body w (item ∷ items) =
    is_item w item && takes_all_blanks item (body_text items) && is_body w items

-- `t` is the text of a body with these items iff they spell `t` and are a body under the switches.
pub record IsBodyOf (w : Switches) (t : List ℕ) (items : List Item) : Type 0 where
  pub spells : body_text items ≡ t
  pub body : IsTrue (is_body w items)

-- The parts of a quoted literal, which is the front, a body, `"` and a suffix.
pub record QuotedParts : Type 0 where
  pub items : List Item
  pub suffix : List ℕ

-- The text of a quoted literal.
abbrev pub quoted_text : List ℕ → QuotedParts → List ℕ
quoted_text front q = front ++ (body_text q.items ++ double_quote ∷ q.suffix)

-- `t` is a quoted literal with the parts `q` after `front` iff they spell `t`, the items are a body
-- under the switches `w`, and the suffix is a suffix.
pub record IsQuoted (front : List ℕ) (w : Switches) (t : List ℕ) (q : QuotedParts) : Type 0 where
  pub spells : quoted_text front q ≡ t
  pub body : IsTrue (is_body w q.items)
  pub suffix : IsTrue (is_suffix q.suffix)

-- The text is a quoted literal of the kind with these parts iff it is one after the front of the
-- kind, under its switches.
abbrev pub IsQuotedLiteral : StringKind → List ℕ → QuotedParts → Type 0
IsQuotedLiteral kind = IsQuoted (quoted_front kind) (switches_of kind)

-- Refusals. A refused text is the front, the text of a list of items, and a rest, which alone
-- decides the refusal.

-- `true` iff the item belongs to the list if `after` follows it. A continuation takes all spaces,
-- tabs and LFs, as in a body. A continuation or an escape that ends the text belongs to the rest.
abbrev pub is_complete_before : List ℕ → Item → Bool
is_complete_before after (plain_item c) = true
is_complete_before after (escape_item e) = not (is_empty after)
is_complete_before after (continuation blanks) =
    not (is_empty after) && takes_all_blanks (continuation blanks) after

-- `true` iff the items belong to the list if `rest` follows them.
abbrev pub is_item_list : Switches → List ℕ → List Item → Bool
is_item_list w rest [] = true
is_item_list w rest (item ∷ items) =
    is_item w item && is_complete_before (body_text items ++ rest) item && is_item_list w rest items

-- A text without its last character.
abbrev pub without_last : List ℕ → List ℕ
without_last [] = []
without_last (c ∷ []) = []
without_last (c ∷ d ∷ t) = c ∷ without_last (d ∷ t)

-- The refusal of a rest that starts with a backslash. Either LF and only spaces, tabs and LFs
-- follow up to the end of the text, or there is no LF after the backslash and no escape. The escape
-- is parsed without the last character of the text.
abbrev pub backslash_refusal : Switches → List ℕ → Option Refusal
backslash_refusal w t =
    if first_passes (λ c. c == line_feed) t
    then (if list_all is_blank t then Some (without_span UnterminatedString) else None)
    else escape_refusal w (without_last (backslash ∷ t))

-- The refusal of a rest, with spans that count from its start. At the end of the text the closing
-- quote is missing. It is `None` if the rest starts with an item, or is the closing quote and a
-- suffix.
unfoldable pub item_refusal : Switches → List ℕ → Option Refusal
item_refusal w [] = Some (without_span UnterminatedString)
item_refusal w (c ∷ t) =
    if c == backslash then backslash_refusal w t
    else if c == carriage_return then Some (at_byte 0 CarriageReturn)
    else if not (allows_value w c) then Some (at_byte 0 NulByte)
    else if not (fits_charset w.unicode c) then Some (at_byte 0 NonAsciiInByteLiteral)
    else if (c == double_quote) && not (is_suffix t) then Some (at_byte 1 (suffix_kind t))
    else None

-- `t` is refused as a quoted literal after `front` iff the rest after some items is refused. The
-- span moves by the length in bytes of the text before the rest.
pub record IsQuotedRefusal (front : List ℕ) (w : Switches) (t : List ℕ) (e : Refusal) : Type 0 where
  pub items : List Item
  pub rest : List ℕ
  pub cause : Refusal
  pub spells : front ++ (body_text items ++ rest) ≡ t
  pub taken : IsTrue (is_item_list w rest items)
  pub decided : item_refusal w rest ≡ Some cause
  pub placed : shifted (byte_len (front ++ body_text items)) cause ≡ e

-- The text is refused as a quoted literal of the kind iff it is refused after the front of the
-- kind, under its switches.
abbrev pub IsQuotedLiteralRefusal : StringKind → List ℕ → Refusal → Type 0
IsQuotedLiteralRefusal kind = IsQuotedRefusal (quoted_front kind) (switches_of kind)
