-- The places at which a quoted string, byte string or C string is cut, in bytes. The Rust
-- Reference, Tokens, Literals.
use Rattle.std.specs.Prelude.{◌≡◌, ℕ, ◌+◌, ◌-◌, ◌≢◌, List, ◌∷◌, ◌++◌, Option, IfSome, IsTrue, IsFalse, is_some, length, take, drop, slice_range}
use Rattle.std.specs.Str.{chars, IsCharBoundary}
use Rattle.litrs_base.specs.declared.err.ParseError.{ParseError}
use Rattle.litrs_base.specs.declared.err.ParseErrorKind.TheVariants.{OutOfMemory}
use Rattle.litrs_base.specs.CharEnd.{PointsAtCharacters}
use Rattle.litrs_base.specs.Characters.{double_quote}
use Rattle.litrs_base.specs.Derivations.{IsOnlyDerivation, HasNoDerivation}
use Rattle.litrs_base.specs.Finality.{is_final, is_open}
use Rattle.litrs_base.specs.Refusal.{Refusal, without_span, refusal_of, kind_of, char_span_of, IsInText, HasCharSpan}
use Rattle.litrs_base.specs.Text.{byte_len}
use Rattle.litrs_base.specs.declared.quotes.Switches.{Switches}
use Rattle.litrs_grammar.specs.Allocation.{has_backslash}
use Rattle.litrs_grammar.specs.LongerTexts.{EndsBy}
use Rattle.litrs_grammar.specs.Quoted.{QuotedParts, IsQuoted, IsQuotedRefusal, body_text, body_value, is_item_list}
use Rattle.litrs_grammar.specs.GoesOn.Quoted.{IsClosedQuoted}
use Rattle.litrs_lex.specs.declared.quoted.QuotedCut.{QuotedCut}

-- The text of these bytes is a quoted literal whose body starts at `offset`, with only these parts.
-- The cut has the length of its value, if its body has a backslash, and the place of its suffix,
-- one byte after the body. Its items belong to the list whatever is appended.
pub record IsQuotedCut (w : Switches) (bytes : List ℕ) (offset : ℕ) (cut : QuotedCut) : Type 0 where
  pub parts : QuotedParts
  pub only : IsOnlyDerivation (IsQuoted (chars (take offset bytes)) w (chars bytes)) parts
  pub value_len : cut.value_len ≡ length (body_value parts.items)
  pub has_escape : cut.has_escape ≡ has_backslash (body_text parts.items)
  pub start_suffix : cut.start_suffix ≡ offset + byte_len (body_text parts.items) + 1
  pub end_body : IsCharBoundary bytes (cut.start_suffix - 1)
  pub boundary : IsCharBoundary bytes cut.start_suffix
  pub body : chars (slice_range bytes offset (cut.start_suffix - 1)) ≡ body_text parts.items
  pub suffix : chars (drop cut.start_suffix bytes) ≡ parts.suffix
  pub plain :
      IsFalse cut.has_escape →
      slice_range bytes offset (cut.start_suffix - 1) ≡ body_value parts.items
  pub items_stay : (more : List ℕ) →
      IsTrue (is_item_list w (double_quote ∷ (parts.suffix ++ more)) parts.items)

-- The text of these bytes is not a quoted literal whose body starts at `offset`:
-- - The table has the kind and the span of the error for it, and no other pair. The kind is not
--   that of an allocation failure.
-- - The span lies within the text and starts on a character boundary, and the character span ends
--   on one.
-- - The items before the rest that decides the refusal belong to the list before every longer rest.
-- - If the kind is final, no longer text is such a literal, and the table has this kind and span
--   for each.
-- - If the kind is open, the closing quote makes the text one.
pub record IsQuotedRefused (w : Switches) (bytes : List ℕ) (offset : ℕ) (e : ParseError)
    : Type 0 where
  pub none : HasNoDerivation (IsQuoted (chars (take offset bytes)) w (chars bytes))
  pub table : IsQuotedRefusal (chars (take offset bytes)) w (chars bytes) (refusal_of e)
  pub only : (r : Refusal) →
      IsQuotedRefusal (chars (take offset bytes)) w (chars bytes) r → r ≡ refusal_of e
  pub span : IsInText (chars bytes) (refusal_of e)
  pub char_span : HasCharSpan (chars bytes) e
  pub char_ends : IfSome (char_span_of e) (PointsAtCharacters (chars bytes))
  pub of_text : kind_of e ≢ OutOfMemory
  pub items_stay : (more : List ℕ) → IsTrue (is_item_list w (table.rest ++ more) table.items)
  pub final : IsTrue (is_final (kind_of e)) →
      EndsBy (IsQuoted (chars (take offset bytes)) w) (chars bytes)
  pub stays : IsTrue (is_final (kind_of e)) → (more : List ℕ) →
      IsQuotedRefusal (chars (take offset bytes)) w (chars bytes ++ more) (refusal_of e)
  pub closes : IsTrue (is_open (kind_of e)) →
      IsClosedQuoted (chars (take offset bytes)) w (chars bytes)

-- The text of these bytes is a quoted literal whose body starts at `offset` and whose suffix starts
-- at the place. Its value is given if the body has a backslash.
pub record IsQuotedValue
    (w : Switches) (bytes : List ℕ) (offset : ℕ) (value : Option (List ℕ)) (start_suffix : ℕ)
    : Type 0 where
  pub cut : QuotedCut
  pub is_cut : IsQuotedCut w bytes offset cut
  pub place : start_suffix ≡ cut.start_suffix
  pub given : is_some value ≡ cut.has_escape
  pub is_value : IfSome value (λ v. v ≡ body_value is_cut.parts.items)

-- The error is that an allocation failed.
abbrev pub IsOutOfMemory : ParseError → Type 0
IsOutOfMemory e = refusal_of e ≡ without_span OutOfMemory

-- The text is a quoted literal whose body has a backslash, and the error is that the allocation of
-- its value failed. If NUL is allowed, the value has no closing zero, and is not empty.
pub record IsQuotedOutOfMemory (w : Switches) (bytes : List ℕ) (offset : ℕ) (e : ParseError)
    : Type 0 where
  pub cut : QuotedCut
  pub is_cut : IsQuotedCut w bytes offset cut
  pub has_escape : IsTrue cut.has_escape
  pub takes : IsTrue w.allow_nul → cut.value_len ≢ 0
  pub error : IsOutOfMemory e
