-- The refused quoted texts that begin a quoted literal, by the rest that decides the refusal. The
-- Rust Reference, Tokens, Literals: "String literals", "Byte string literals" and "C string
-- literals". It does not define refusals.
use Rattle.std.specs.Prelude.{◌≡◌, ◌⊎◌, ℕ, List, [], ◌∷◌, ◌++◌, IsTrue}
use Rattle.std.specs.List.{list_all}
use Rattle.litrs_base.specs.Characters.{line_feed, double_quote, backslash, underscore, is_blank}
use Rattle.litrs_base.specs.declared.quotes.Switches.{Switches}
use Rattle.litrs_grammar.specs.GoesOn.Escape.{BeginsEscape}
use Rattle.litrs_grammar.specs.Quoted.{Item, body_text, is_item_list, IsQuoted}

-- An open rest: nothing, or a continuation that ends the text.
abbrev pub IsOpenRest : List ℕ → Type 0
IsOpenRest rest =
    (rest ≡ [])
    ⊎ ((blanks : List ℕ) × (rest ≡ backslash ∷ line_feed ∷ blanks)
    × IsTrue (list_all is_blank blanks))

-- The rest can be continued if it is open, begins an escape, or is the closing quote and `_` alone,
-- which is not yet a suffix.
abbrev pub RestGoesOn : Switches → List ℕ → Type 0
RestGoesOn w rest =
    IsOpenRest rest ⊎ (BeginsEscape w rest ⊎ (rest ≡ double_quote ∷ underscore ∷ []))

-- The closing quote makes `t` a literal without a suffix, whose body is all of `t` after the front.
pub record IsClosedQuoted (front : List ℕ) (w : Switches) (t : List ℕ) : Type 0 where
  pub items : List Item
  pub literal : IsQuoted front w (t ++ double_quote ∷ []) (record { items = items; suffix = [] })
  pub body : front ++ body_text items ≡ t

-- `t` is the front, items that belong to the list before a rest, and a rest that can be continued.
pub record QuotedGoesOn (front : List ℕ) (w : Switches) (t : List ℕ) : Type 0 where
  pub items : List Item
  pub rest : List ℕ
  pub spells : front ++ (body_text items ++ rest) ≡ t
  pub taken : IsTrue (is_item_list w rest items)
  pub goes_on : RestGoesOn w rest
