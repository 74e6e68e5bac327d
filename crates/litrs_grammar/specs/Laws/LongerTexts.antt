-- Laws of refused texts that are continued, and of the texts of literals.
use Rattle.std.specs.Prelude.{◌≡◌, ◌≢◌, ◌↔◌, ℕ, List, [], ◌∷◌, ◌++◌, Some, IsTrue, IsFalse}
use Rattle.litrs_base.specs.Characters.{line_feed, backslash, double_quote, is_blank}
use Rattle.litrs_base.specs.Finality.{is_final, is_open}
use Rattle.litrs_base.specs.declared.err.ParseErrorKind.{ParseErrorKind}
use Rattle.litrs_base.specs.declared.err.ParseErrorKind.TheVariants.{OutOfMemory}
use Rattle.litrs_base.specs.Refusal.{Refusal}
use Rattle.litrs_base.specs.Text.{first_passes}
use Rattle.litrs_base.specs.Derivations.{IsOnlyDerivation}
use Rattle.litrs_grammar.specs.Suffix.{is_suffix}
use Rattle.litrs_base.specs.declared.quotes.Switches.{Switches}
use Rattle.litrs_grammar.specs.Escape.{escape_refusal}
use Rattle.litrs_grammar.specs.GoesOn.Escape.{BeginsEscape, escape_goes_on}
use Rattle.litrs_grammar.specs.Quoted.{Item, is_item_list, IsBodyOf, IsQuoted, IsQuotedRefusal}
use Rattle.litrs_grammar.specs.Literal.{Derivation, IsLiteral, Parse, IsLiteralOf, Begins}
use Rattle.litrs_grammar.specs.LiteralRefusals.{IsRefusal}
use Rattle.litrs_grammar.specs.LiteralText.{literal_text, AreParts}
use Rattle.litrs_grammar.specs.Closing.{closing_of, IsClosedBy}
use Rattle.litrs_grammar.specs.LongerTexts.{EndsBy}
use Rattle.litrs_grammar.specs.GoesOn.{GoesOn}

-- Of the nine parses.

-- After a final refusal the same parse refuses every longer text: the text followed by any list, be
-- it a text or not, is not a literal.
abbrev pub FinalRefusalsStay : Type 0
FinalRefusalsStay = (parse : Parse) (t : List ℕ) (r : Refusal) →
    IsRefusal parse t r → IsTrue (is_final r.kind) → EndsBy (IsLiteralOf parse) t

-- After an open refusal the closing text makes the text a string literal without a suffix, whose
-- body is all of the text after the opening.
abbrev pub OpenRefusalsClose : Type 0
OpenRefusalsClose = (parse : Parse) (t : List ℕ) (r : Refusal) →
    IsRefusal parse t r → IsTrue (is_open r.kind) →
    IsClosedBy (IsLiteralOf parse) t (closing_of t r)

-- A refused text that ends with LF begins a literal if and only if its refusal is open.
abbrev pub LineEndsAreDecided : Type 0
LineEndsAreDecided = (parse : Parse) (t : List ℕ) (r : Refusal) →
    IsRefusal parse (t ++ line_feed ∷ []) r →
    IsTrue (is_open r.kind) ↔ Begins parse (t ++ line_feed ∷ [])

-- Each kind that is not final, except `OutOfMemory`, is the refusal of some text that begins a
-- literal.
abbrev pub OtherKindsMayGoOn : Type 0
OtherKindsMayGoOn = (kind : ParseErrorKind) → IsFalse (is_final kind) → kind ≢ OutOfMemory →
    (parse : Parse) × (t : List ℕ) × (r : Refusal)
    × IsRefusal parse t r × (r.kind ≡ kind) × Begins parse t

-- A refused text begins a literal if and only if the parts that the table cuts out of it can be
-- continued.
abbrev pub RefusedTextsGoOn : Type 0
RefusedTextsGoOn = (parse : Parse) (t : List ℕ) (r : Refusal) →
    IsRefusal parse t r → Begins parse t ↔ GoesOn parse t

-- Of escapes and quoted literals.

-- An escape refused with a final kind is refused with the same kind and span whatever is appended.
abbrev pub FinalEscapeRefusalsStay : Type 0
FinalEscapeRefusalsStay = (w : Switches) (t more : List ℕ) (r : Refusal) →
    escape_refusal w t ≡ Some r → IsTrue (is_final r.kind) → escape_refusal w (t ++ more) ≡ Some r

-- A refused escape begins an escape if and only if the text after the backslash can be continued.
abbrev pub RefusedEscapesGoOn : Type 0
RefusedEscapesGoOn = (w : Switches) (t : List ℕ) (r : Refusal) →
    escape_refusal w (backslash ∷ t) ≡ Some r →
    BeginsEscape w (backslash ∷ t) ↔ IsTrue (escape_goes_on w t)

-- The items that are taken before a rest are taken before every longer rest.
abbrev pub QuotedItemsStay : Type 0
QuotedItemsStay = (w : Switches) (rest more : List ℕ) (items : List Item) →
    IsTrue (is_item_list w rest items) → IsTrue (is_item_list w (rest ++ more) items)

-- A quoted text refused with a final kind is refused with the same kind and span whatever is
-- appended.
abbrev pub FinalQuotedRefusalsStay : Type 0
FinalQuotedRefusalsStay = (front : List ℕ) (w : Switches) (t more : List ℕ) (r : Refusal) →
    IsQuotedRefusal front w t r → IsTrue (is_final r.kind) → IsQuotedRefusal front w (t ++ more) r

-- Of the texts of literals.

-- A text is a literal with a derivation if and only if it is the text of the derivation and the
-- parts are those of a literal.
abbrev pub LiteralsAreWritten : Type 0
LiteralsAreWritten = (t : List ℕ) (d : Derivation) →
    IsLiteral t d ↔ ((literal_text d ≡ t) × AreParts d)

-- The parts of a literal are the only parts that its text has.
abbrev pub LiteralsParseBack : Type 0
LiteralsParseBack = (d : Derivation) → AreParts d → IsOnlyDerivation (IsLiteral (literal_text d)) d

-- Two bodies between a front and a quote with a suffix are a quoted literal with the items of both.
-- The exception: the second starts with white space that a continuation at the end of the first
-- would skip.
abbrev pub JoinedBodiesAreQuoted : Type 0
JoinedBodiesAreQuoted = (front : List ℕ) (w : Switches) (a b suffix : List ℕ)
    (items others : List Item) → IsBodyOf w a items → IsBodyOf w b others →
    IsFalse (first_passes is_blank b) → IsTrue (is_suffix suffix) →
    IsQuoted front w (front ++ ((a ++ b) ++ double_quote ∷ suffix))
    (record { items = items ++ others; suffix = suffix })
