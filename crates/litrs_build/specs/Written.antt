-- The literal of a value: its parts, from which its text follows. The Rust Reference, Tokens,
-- Literals.
use Rattle.std.specs.Prelude.{ℕ, Bool, true, List, [], ◌∷◌, map}
use Rattle.litrs_base.specs.Characters.{single_quote, double_quote}
use Rattle.litrs_grammar.specs.CharByte.{CharParts}
use Rattle.litrs_grammar.specs.Quoted.{Item}
use Rattle.litrs_grammar.specs.Literal.{StringParts, quoted_parts}
use Rattle.litrs_build.specs.Spelling.{char_spelling, byte_spelling, is_escaped, spelled_item, spelled_char}

-- The parts of the char of a character.
abbrev pub written_char : ℕ → List ℕ → CharParts
written_char c suffix =
    record { item = spelled_char (char_spelling single_quote true c); suffix = suffix }

-- The parts of the byte of a number.
abbrev pub written_byte : ℕ → List ℕ → CharParts
written_byte b suffix =
    record { item = spelled_char (byte_spelling single_quote b); suffix = suffix }

-- The items of characters in a string. The spelling of each depends on the opening quote or an
-- escape before it.
abbrev pub char_items : (follows_mark : Bool) → List ℕ → List Item
char_items follows_mark [] = []
char_items follows_mark (c ∷ cs) =
    let spelling = char_spelling double_quote follows_mark c in
    spelled_item spelling ∷ char_items (is_escaped spelling) cs

-- The items of bytes in a byte string.
abbrev pub byte_items : List ℕ → List Item
byte_items bytes = map (λ b. spelled_item (byte_spelling double_quote b)) bytes

-- The parts of a quoted literal.
abbrev pub quoted_of : List Item → List ℕ → StringParts
quoted_of items suffix = quoted_parts (record { items = items; suffix = suffix })

-- The parts of the string of a text.
abbrev pub written_string : List ℕ → List ℕ → StringParts
written_string text suffix = quoted_of (char_items true text) suffix

-- The parts of the byte string of some bytes.
abbrev pub written_byte_string : List ℕ → List ℕ → StringParts
written_byte_string bytes suffix = quoted_of (byte_items bytes) suffix
