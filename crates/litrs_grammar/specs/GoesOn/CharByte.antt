-- The refused texts that begin a char or a byte. The Rust Reference, Tokens, Literals:
-- "Character literals" and "Byte literals". It does not define refusals.
use Rattle.std.specs.Prelude.{◌≡◌, ◌⊎◌, ℕ, List, [], ◌∷◌, ◌++◌, IsTrue}
use Rattle.litrs_base.specs.Characters.{single_quote, underscore}
use Rattle.litrs_base.specs.Text.{begins_with}
use Rattle.litrs_base.specs.declared.quotes.CharKind.{CharKind}
use Rattle.litrs_base.specs.Quotes.{char_front, char_switches_of}
use Rattle.litrs_grammar.specs.CharByte.{CharItem, plain_char, char_item_text, is_char_item}
use Rattle.litrs_grammar.specs.GoesOn.Escape.{BeginsEscape}

-- After the front: a text that begins an escape; or one plain character; or an item, the closing
-- quote and `_` alone, which is not yet a suffix.
abbrev pub CharRestGoesOn : CharKind → List ℕ → Type 0
CharRestGoesOn kind rest =
    BeginsEscape (char_switches_of kind) rest
    ⊎ (((c : ℕ) × IsTrue (is_char_item kind (plain_char c)) × (rest ≡ c ∷ []))
    ⊎ ((item : CharItem) × IsTrue (is_char_item kind item)
    × (rest ≡ char_item_text item ++ (single_quote ∷ underscore ∷ []))))

-- The text is a prefix of the front, which may be empty, or the front followed by a text that can
-- be continued.
abbrev pub CharGoesOn : CharKind → List ℕ → Type 0
CharGoesOn kind t =
    IsTrue (begins_with t (char_front kind))
    ⊎ ((rest : List ℕ) × (char_front kind ++ rest ≡ t) × CharRestGoesOn kind rest)
