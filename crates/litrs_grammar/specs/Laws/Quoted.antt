-- Laws of quoted literals: strings, byte strings and C strings.
use Rattle.std.specs.Prelude.{◌≡◌, ◌↔◌, ◌⊎◌, ℕ, ◌≤◌, ◌==◌, List, [], ◌∷◌, ◌++◌, length, IsFalse}
use Rattle.std.specs.List.{list_any}
use Rattle.litrs_base.specs.declared.quotes.StringKind.{StringKind}
use Rattle.litrs_base.specs.declared.quotes.Switches.{Switches}
use Rattle.litrs_base.specs.Refusal.{Refusal, IsInText}
use Rattle.litrs_base.specs.Characters.{backslash, line_feed, nul, is_blank}
use Rattle.litrs_grammar.specs.Quoted.{Item, body_value, IsBodyOf, QuotedParts, IsQuoted, IsQuotedLiteral, IsQuotedRefusal}
use Rattle.litrs_base.specs.Text.{byte_len, first_passes}

-- A text has at most one derivation as a quoted literal, over all three kinds together.
abbrev pub QuotedLiteralsAreUnique : Type 0
QuotedLiteralsAreUnique = (t : List ℕ) (k l : StringKind) (q r : QuotedParts) →
    IsQuotedLiteral k t q → IsQuotedLiteral l t r → (k ≡ l) × (q ≡ r)

-- Of any front and any switches.

-- A text has at most one derivation after the same front and under the same switches.
abbrev pub QuotedTextsAreUnique : Type 0
QuotedTextsAreUnique = (front : List ℕ) (w : Switches) (t : List ℕ) (q r : QuotedParts) →
    IsQuoted front w t q → IsQuoted front w t r → q ≡ r

-- At most one pair of kind and span refuses a text.
abbrev pub QuotedRefusalsAreUnique : Type 0
QuotedRefusalsAreUnique = (front : List ℕ) (w : Switches) (t : List ℕ) (e f : Refusal) →
    IsQuotedRefusal front w t e → IsQuotedRefusal front w t f → e ≡ f

-- A text that starts with the front is a quoted literal or refused.
abbrev pub QuotedTextsAreDecided : Type 0
QuotedTextsAreDecided = (front : List ℕ) (w : Switches) (t : List ℕ) →
    ((q : QuotedParts) × IsQuoted front w (front ++ t) q)
    ⊎ ((e : Refusal) × IsQuotedRefusal front w (front ++ t) e)

-- No text is both a quoted literal and refused as one.
abbrev pub QuotedTextsAreNotRefused : Type 0
QuotedTextsAreNotRefused =
    (front : List ℕ) (w : Switches) (t : List ℕ) (q : QuotedParts) (e : Refusal) →
    IsQuoted front w t q → ¬ IsQuotedRefusal front w t e

-- The span of each refusal lies within the text and starts on a character boundary.
abbrev pub QuotedSpansLieInText : Type 0
QuotedSpansLieInText = (front : List ℕ) (w : Switches) (t : List ℕ) (e : Refusal) →
    IsQuotedRefusal front w t e → IsInText t e

-- No quoted literal ends with LF.
abbrev pub NoQuotedTextEndsWithLineFeed : Type 0
NoQuotedTextEndsWithLineFeed = (front : List ℕ) (w : Switches) (t : List ℕ) (q : QuotedParts) →
    ¬ IsQuoted front w (t ++ line_feed ∷ []) q

-- Of bodies.

-- A text is the text of at most one quoted body.
abbrev pub QuotedBodiesAreUnique : Type 0
QuotedBodiesAreUnique = (w : Switches) (t : List ℕ) (items others : List Item) →
    IsBodyOf w t items → IsBodyOf w t others → items ≡ others

-- Two bodies are one body if the second does not start with a space, tab or LF. Its value is both
-- values, one after the other.
abbrev pub QuotedBodiesJoin : Type 0
QuotedBodiesJoin = (w : Switches) (a b : List ℕ) (items others : List Item) →
    IsBodyOf w a items → IsBodyOf w b others → IsFalse (first_passes is_blank b) →
    IsBodyOf w (a ++ b) (items ++ others)
    × (body_value (items ++ others) ≡ body_value items ++ body_value others)

-- A value has at most as many bytes as its body, and exactly as many if and only if the body has no
-- backslash.
abbrev pub QuotedValuesFitBodies : Type 0
QuotedValuesFitBodies = (w : Switches) (t : List ℕ) (items : List Item) → IsBodyOf w t items →
    (length (body_value items) ≤ byte_len t)
    × ((length (body_value items) ≡ byte_len t) ↔ IsFalse (list_any (λ c. c == backslash) t))

-- No byte of a value is zero if NUL is not allowed, as in C strings.
abbrev pub NoNulInQuotedCStrings : Type 0
NoNulInQuotedCStrings = (w : Switches) (t : List ℕ) (items : List Item) →
    IsFalse w.allow_nul → IsBodyOf w t items →
    IsFalse (list_any (λ b. b == nul) (body_value items))
