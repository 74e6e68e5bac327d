-- A literal that is rewritten in a style: the items of its body are written anew, one by one. The
-- Rust Reference, Tokens, Literals: the tables of escapes; Literal expressions: "String
-- continuation escapes".
use Rattle.std.specs.Prelude.{ℕ, Bool, true, false, ◌==◌, List, [], ◌∷◌, ◌++◌, if◌then◌else◌}
use Rattle.std.specs.List.{prefix_len}
use Rattle.litrs_base.specs.declared.escape.Unescape.{Unescape}
use Rattle.litrs_base.specs.declared.escape.Unescape.TheVariants.{Byte, Unicode as unicode_value}
use Rattle.litrs_base.specs.Characters.{line_feed, single_quote, double_quote, letter_n, is_ascii, is_blank}
use Rattle.litrs_grammar.specs.Escape.{Escape, simple_escape, hex_escape, unicode_escape, escape_value, pair_value, hex_value}
use Rattle.litrs_grammar.specs.CharByte.{CharItem, plain_char, escaped_char, CharParts}
use Rattle.litrs_grammar.specs.Quoted.{Item, plain_item, escape_item, continuation}
use Rattle.litrs_grammar.specs.Literal.{StringParts, quoted_parts, raw_parts, Derivation, a_bool, an_integer, a_float, a_char, a_byte, a_string, a_byte_string, a_c_string}
use Rattle.litrs_build.specs.RewrittenFloat.{keeps_floats, rewritten_float}
use Rattle.litrs_build.specs.RewrittenInteger.{keeps_integers, rewritten_integer}
use Rattle.litrs_build.specs.Pieces.{is_plain}
use Rattle.litrs_build.specs.Spelling.{cased_char, cased_item, char_spelling}
use Rattle.litrs_build.specs.Written.{quoted_of}
use Rattle.litrs_build.specs.declared.pieces.Charset.{Charset}
use Rattle.litrs_build.specs.declared.pieces.Charset.TheVariants.{Ascii, Any}
use Rattle.litrs_build.specs.declared.rewriting.Before.{Before}
use Rattle.litrs_build.specs.declared.rewriting.Before.TheVariants.{Text, Mark, Continuation}
use Rattle.litrs_build.specs.declared.rewriting.Rewriting.{Rewriting}
use Rattle.litrs_build.specs.declared.rewriting.Rewriting.TheVariants.{Unchanged, Spelled, Removed}
use Rattle.litrs_build.specs.declared.spelling.Spelling.{Spelling}
use Rattle.litrs_build.specs.declared.spelling.Spelling.TheVariants.{Plain, Simple, Hex, Unicode}
use Rattle.litrs_build.specs.declared.style.Style.{Style}
use Rattle.litrs_build.specs.declared.style.Case.{Case}
use Rattle.litrs_build.specs.declared.style.Escapes.{Escapes}
use Rattle.litrs_build.specs.declared.style.Escapes.TheVariants.{Kept as escapes_kept, Respelled, Needed}
use Rattle.litrs_build.specs.declared.style.Lines.{Lines}
use Rattle.litrs_build.specs.declared.style.Lines.TheVariants.{Kept as lines_kept, Joined}

-- The spelling of a character or an escape, by what comes before it.

-- `true` iff a combining character would be shown on what comes before it: the opening quote, an
-- escape, or the start of a line.
abbrev pub is_mark : Before → Bool
is_mark Text = false
is_mark Mark = true
is_mark Continuation = true

-- A continuation would take a blank that follows it, so that the blank is escaped.
abbrev pub after_blanks : Before → Spelling → Spelling
after_blanks Continuation (Plain c) = if is_blank c then Hex c else Plain c
after_blanks _ spelling = spelling

-- The set of the characters that stay as they are.
abbrev pub plain_charset : Escapes → Charset
plain_charset Needed = Ascii
plain_charset _ = Any

-- The length of the plain bytes at the front, which are written as they are: of all of them if
-- characters stay, otherwise of ASCII. After a continuation it is 0.
abbrev pub run_len : Escapes → Before → List ℕ → ℕ
run_len escapes Continuation bytes = 0
run_len escapes _ bytes = prefix_len (is_plain (plain_charset escapes)) bytes

-- The spelling of a character that has only the escapes that are needed.
abbrev pub needed_char : (quote : ℕ) → Before → ℕ → Spelling
needed_char quote before c = after_blanks before (char_spelling quote (is_mark before) c)

-- The spelling of a value. A byte that is not ASCII is escaped.
abbrev pub needed_spelling : (quote : ℕ) → Before → Unescape → Spelling
needed_spelling quote before (Byte b) = if is_ascii b then needed_char quote before b else Hex b
needed_spelling quote before (unicode_value c) = needed_char quote before c

-- The spelling of an escape that keeps its form.
abbrev pub own_spelling : Escape → Spelling
own_spelling (simple_escape c) = Simple c
own_spelling (hex_escape high low) = Hex (pair_value high low)
own_spelling (unicode_escape inner) = Unicode (hex_value inner)

-- The rewriting of each item.

-- A character stays as it is, if the style does not ask for the escapes that are needed.
abbrev pub plain_rewriting : Escapes → (quote : ℕ) → Before → ℕ → Rewriting
plain_rewriting Needed quote before c = Spelled (needed_char quote before c)
plain_rewriting _ quote before c = Unchanged

abbrev pub escape_rewriting : Escapes → (quote : ℕ) → Before → Escape → Rewriting
escape_rewriting escapes_kept quote before e = Unchanged
escape_rewriting Respelled quote before e = Spelled (own_spelling e)
escape_rewriting Needed quote before e = Spelled (needed_spelling quote before (escape_value e))

-- An LF stays, or is escaped.
abbrev pub line_feed_rewriting : Lines → Rewriting
line_feed_rewriting lines_kept = Unchanged
line_feed_rewriting Joined = Spelled (Simple letter_n)

-- A continuation stays, or is left out.
abbrev pub continuation_rewriting : Lines → Rewriting
continuation_rewriting lines_kept = Unchanged
continuation_rewriting Joined = Removed

abbrev pub item_rewriting : Style → (quote : ℕ) → Before → Item → Rewriting
item_rewriting style quote before (plain_item c) =
    if c == line_feed then line_feed_rewriting style.lines
    else plain_rewriting style.escapes quote before c
item_rewriting style quote before (escape_item e) = escape_rewriting style.escapes quote before e
item_rewriting style quote before (continuation blanks) = continuation_rewriting style.lines

-- The items that are written for an item: itself, another, or none.
abbrev pub items_of : Case → Item → Rewriting → List Item
items_of case item Unchanged = item ∷ []
items_of case item (Spelled spelling) = cased_item case spelling ∷ []
items_of case item Removed = []

-- The text before the next item.
abbrev pub before_next : Item → Before
before_next (plain_item c) = if c == line_feed then Mark else Text
before_next (escape_item e) = Mark
before_next (continuation blanks) = Continuation

abbrev pub before_after : Before → List Item → Before
before_after before [] = before
before_after before (item ∷ items) = before_next item

-- The items of a body, rewritten one by one.
abbrev pub rewritten_items : Style → Before → List Item → List Item
rewritten_items style before [] = []
rewritten_items style before (item ∷ items) =
    let rewriting = item_rewriting style double_quote before item in
    let written = items_of style.escape_digits item rewriting in
    written ++ rewritten_items style (before_after before written) items

-- A quoted string is rewritten item by item. A raw one has no escapes, and is unchanged.
abbrev pub rewritten_string : Style → StringParts → StringParts
rewritten_string style (quoted_parts d) = quoted_of (rewritten_items style Mark d.items) d.suffix
rewritten_string style (raw_parts d) = raw_parts d

-- The item of a char or a byte is rewritten as that of a string is, after the opening quote.
abbrev pub as_item : CharItem → Item
as_item (plain_char c) = plain_item c
as_item (escaped_char e) = escape_item e

abbrev pub char_item_of : Case → CharItem → Rewriting → CharItem
char_item_of case item (Spelled spelling) = cased_char case spelling
char_item_of case item _ = item

abbrev pub rewritten_char : Style → CharParts → CharParts
rewritten_char style d = record {
  item = char_item_of style.escape_digits d.item
      (item_rewriting style single_quote Mark (as_item d.item));
  suffix = d.suffix;
}

-- A literal rewritten in the style. Bools are unchanged.
abbrev pub rewritten : Style → Derivation → Derivation
rewritten style (a_bool b) = a_bool b
rewritten style (an_integer d) = an_integer (rewritten_integer style d)
rewritten style (a_float d) = a_float (rewritten_float style d)
rewritten style (a_char d) = a_char (rewritten_char style d)
rewritten style (a_byte d) = a_byte (rewritten_char style d)
rewritten style (a_string d) = a_string (rewritten_string style d)
rewritten style (a_byte_string d) = a_byte_string (rewritten_string style d)
rewritten style (a_c_string d) = a_c_string (rewritten_string style d)

-- `true` iff a style with these escapes and lines does not change anything between quotes.
abbrev pub keeps_bodies : Escapes → Lines → Bool
keeps_bodies escapes_kept lines_kept = true
keeps_bodies _ _ = false

-- `true` only if the style does not change any literal of the kind of this one.
abbrev pub keeps : Style → Derivation → Bool
keeps style (a_bool b) = true
keeps style (an_integer d) = keeps_integers style.digits style.groups
keeps style (a_float d) = keeps_floats style.exponents style.float_groups
keeps style _ = keeps_bodies style.escapes style.lines
