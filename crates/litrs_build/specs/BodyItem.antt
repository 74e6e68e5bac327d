-- The item at the front of a text.
use Rattle.std.specs.Prelude.{◌≡◌, ℕ, Bool, not, ◌==◌, List, ◌∷◌, ◌++◌, IsTrue}
use Rattle.std.specs.List.{list_all}
use Rattle.std.specs.Str.{chars}
use Rattle.litrs_base.specs.Characters.{backslash, double_quote, letter_x, letter_u, is_blank}
use Rattle.litrs_base.specs.Text.{byte_len}
use Rattle.litrs_base.specs.declared.quotes.Switches.{Switches}
use Rattle.litrs_grammar.specs.Escape.{Escape, simple_escape, hex_escape, unicode_escape, is_escape, is_simple, escape_value}
use Rattle.litrs_grammar.specs.Quoted.{Item, plain_item, escape_item, continuation, item_text, takes_all_blanks, body_text, is_body}
use Rattle.litrs_build.specs.Rewriting.{own_spelling}
use Rattle.litrs_build.specs.declared.body_item.BodyItem.{BodyItem}
use Rattle.litrs_build.specs.declared.body_item.BodyItem.TheVariants.{Plain, Escape as an_escape, Continuation}

-- A character other than a backslash, an escape, or a continuation.
abbrev pub is_any_item : Switches → Item → Bool
is_any_item w (plain_item c) = not (c == backslash)
is_any_item w (escape_item e) = is_escape w e
is_any_item w (continuation blanks) = list_all is_blank blanks

-- The text of these bytes starts with the item, which `after` follows.
pub record BeginsWithItem (w : Switches) (bytes : List ℕ) (item : Item) (after : List ℕ) : Type 0
  where
    pub spells : chars bytes ≡ item_text item ++ after
    pub allowed : IsTrue (is_any_item w item)
    pub taken : IsTrue (takes_all_blanks item after)

-- The item that was read is this one. An escape has its value, and its spelling in its own form.
abbrev pub Reads : BodyItem → Item → Type 0
Reads (Plain c) (plain_item d) = c ≡ d
Reads (an_escape spelling value) (escape_item e) =
    (spelling ≡ own_spelling e) × (value ≡ escape_value e)
Reads Continuation (continuation blanks) = Unit {0}
Reads _ _ = ⊥

-- The character after the backslash of an escape.
abbrev pub IsLetterOf : ℕ → Escape → Type 0
IsLetterOf letter (simple_escape c) = (letter ≡ c) × IsTrue (is_simple c)
IsLetterOf letter (hex_escape high low) = letter ≡ letter_x
IsLetterOf letter (unicode_escape inner) = letter ≡ letter_u

-- The item that was read, and its length in bytes.
abbrev pub IsItemRead : BodyItem → (len : ℕ) → Item → Type 0
IsItemRead read len item = Reads read item × (byte_len (item_text item) ≡ len)

-- The text of these bytes is a body with these items, the closing quote and the suffix.
pub record IsBody (w : Switches) (bytes : List ℕ) (items : List Item) (suffix : List ℕ) : Type 0
  where
    pub spells : chars bytes ≡ body_text items ++ double_quote ∷ suffix
    pub body : IsTrue (is_body w items)
