-- The state of reading a quoted body.
use Rattle.std.specs.Prelude.{◌≡◌, ◌⊎◌, ℕ, ◌≤◌, ◌<◌, ◌==◌, length, List, ◌++◌, drop, take, Option, option_map, Some, Result, MatchResult, IsTrue, IsFalse}
use Rattle.std.specs.Str.{chars, IsCharBoundary}
use Rattle.litrs_base.specs.declared.err.ParseError.{ParseError}
use Rattle.litrs_base.specs.Characters.{double_quote}
use Rattle.litrs_base.specs.Refusal.{refusal_of, HasCharSpan}
use Rattle.litrs_base.specs.Text.{byte_len, first_passes}
use Rattle.litrs_base.specs.declared.quotes.Switches.{Switches}
use Rattle.litrs_grammar.specs.Quoted.{Item, body_text, body_value, is_plain, is_item_list, item_refusal, QuotedParts, IsQuoted, IsQuotedRefusal}
use Rattle.litrs_lex.specs.Mask.{IsMaskOf}
use Rattle.litrs_lex.specs.QuotedCut.{IsQuotedValue, IsQuotedOutOfMemory}
use Rattle.litrs_lex.specs.QuotedItems.{IsPlainRun, IsItemAt, EndsItems, stops}
use Rattle.litrs_lex.specs.declared.reading.Reading.{Reading}
use Rattle.litrs_lex.specs.declared.reading.Reached.{Reached}
use Rattle.litrs_lex.specs.declared.reading.Reached.TheVariants.{Quote, Full, Refused}
use Rattle.litrs_lex.specs.declared.stop.Stop.{Stop}
use Rattle.litrs_lex.specs.declared.stop.Stop.TheVariants as stop

-- The front, which ends at `offset`, is followed by items up to `place`, and their value is held.
pub record IsReadTo (w : Switches) (bytes : List ℕ) (offset place : ℕ) (holds : List ℕ → Type 0)
    : Type 0 where
  pub items : List Item
  pub spells :
      chars (take offset bytes) ++ (body_text items ++ chars (drop place bytes)) ≡ chars bytes
  pub taken : IsTrue (is_item_list w (chars (drop place bytes)) items)
  pub size : place ≡ byte_len (chars (take offset bytes) ++ body_text items)
  pub boundary : IsCharBoundary bytes place
  pub fits : length (body_value items) ≤ place
  pub held : holds (body_value items)

-- The items before the first place of the state are read. The characters from there up to the
-- second place are plain, and the mask starts at most at that place.
pub record IsReading (w : Switches) (bytes : List ℕ) (offset : ℕ) (holds : List ℕ → Type 0)
    (s : Reading) : Type 0 where
  pub read : IsReadTo w bytes offset s.at holds
  pub run : IsPlainRun w bytes s.at s.place
  pub after : s.mask.start ≤ s.place
  pub mask : IsMaskOf (stops w.unicode w.allow_nul) bytes s.mask

-- The body is read up to its closing quote.
pub record IsReadBody (w : Switches) (bytes : List ℕ) (offset : ℕ) (holds : List ℕ → Type 0)
    (place : ℕ) : Type 0 where
  pub read : IsReadTo w bytes offset place holds
  pub quote : IsTrue (first_passes (λ c. c == double_quote) (chars (drop place bytes)))
  pub stops : IsFalse (first_passes (is_plain w) (chars (drop place bytes)))

-- The body is read up to the end of its items.
pub record IsItemsEnd (w : Switches) (bytes : List ℕ) (offset : ℕ) (holds : List ℕ → Type 0)
    (place : ℕ) : Type 0 where
  pub read : IsReadTo w bytes offset place holds
  pub stops : IsFalse (first_passes (is_plain w) (chars (drop place bytes)))
  pub ends : EndsItems w (chars (drop place bytes))

-- The table refuses the text with the error.
pub record IsBodyRefused (w : Switches) (bytes : List ℕ) (offset : ℕ) (e : ParseError) : Type 0
  where
    pub table : IsQuotedRefusal (chars (take offset bytes)) w (chars bytes) (refusal_of e)
    pub char_span : HasCharSpan (chars bytes) e

-- The table refuses the rest with the error, whose span counts from the start of the rest.
pub record IsRestRefused (w : Switches) (rest : List ℕ) (e : ParseError) : Type 0 where
  pub table : item_refusal w rest ≡ Some (refusal_of e)
  pub char_span : HasCharSpan rest e

-- The rest starts with the closing quote, or with this item.
abbrev pub StandsAt : Switches → List ℕ → Stop → Type 0
StandsAt w bytes stop.Quote = IsTrue (first_passes (λ c. c == double_quote) (chars bytes))
StandsAt w bytes (stop.Item value len) = IsItemAt w bytes len value

-- The value of the items up to some place has more than `room` bytes.
abbrev pub IsLongerThan : Switches → List ℕ → ℕ → ℕ → Type 0
IsLongerThan w bytes offset room =
    (place : ℕ) × IsReadTo w bytes offset place (λ v. room < length v)

-- The text is a quoted literal, and its value has at most `room` bytes.
pub record HasValueWithin (w : Switches) (bytes : List ℕ) (offset room : ℕ) : Type 0 where
  pub parts : QuotedParts
  pub grammar : IsQuoted (chars (take offset bytes)) w (chars bytes) parts
  pub fits : length (body_value parts.items) ≤ room

-- The reading ends at the closing quote, with the whole value, or in a state in which the value
-- does not fit the room. Or it ends at the end of the items, and the text is refused.
abbrev pub HasReached : Switches → List ℕ → ℕ → (List ℕ → Type 0) → (room : ℕ) → Reached → Type 0
HasReached w bytes offset holds room (Quote place) = IsReadBody w bytes offset holds place
HasReached w bytes offset holds room (Full s) =
    IsReading w bytes offset holds s × IsLongerThan w bytes offset room
HasReached w bytes offset holds room (Refused place e) =
    IsItemsEnd w bytes offset holds place × IsBodyRefused w bytes offset e

-- The value, if the body has a backslash, and the start of the suffix; or the error.
abbrev pub IsReadAsValue : {C : Type 0} → (C → List ℕ) → Switches → List ℕ → ℕ →
    Result (Option C × ℕ) ParseError → Type 0
IsReadAsValue contents w bytes offset result = MatchResult result
    (λ read. IsQuotedValue w bytes offset (option_map contents read.0) read.1)
    (λ e. IsBodyRefused w bytes offset e ⊎ IsQuotedOutOfMemory w bytes offset e)
