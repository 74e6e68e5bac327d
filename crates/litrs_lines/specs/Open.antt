-- Texts that begin a string whose body is open.
use Rattle.std.specs.Prelude.{◌≡◌, ◌≤◌, ◌==◌, not, ℕ, List, [], ◌∷◌, ◌++◌, Option, Some, None, IsTrue, IsFalse, take, drop}
use Rattle.std.specs.List.{list_all}
use Rattle.std.specs.Str.{chars, IsCharBoundary}
use Rattle.litrs_base.specs.Characters.{line_feed, double_quote, backslash, is_blank}
use Rattle.litrs_base.specs.declared.quotes.StringKind.{StringKind}
use Rattle.litrs_base.specs.Quotes.{switches_of, quoted_front, raw_front}
use Rattle.litrs_grammar.specs.Quoted.{Item, body_text, is_item_list}
use Rattle.litrs_grammar.specs.Raw.{hashes, occurs, raw_closing, has_unicode, allows_nul, is_raw_char}
use Rattle.litrs_lines.specs.declared.collector.body.Body.{Body}
use Rattle.litrs_lines.specs.declared.collector.body.Body.TheVariants.{Quoted, Continuation, Raw}
use Rattle.litrs_lines.specs.declared.collector.body.Open.{Open}
use Rattle.litrs_lines.specs.Steps.{BeginsByLine, IsUnfinished}

-- Up to the place the text is the front of the kind and items of a quoted body, which belong to the
-- list before the rest.
pub record IsQuotedTo (kind : StringKind) (place : ℕ) (bytes : List ℕ) : Type 0 where
  pub boundary : IsCharBoundary bytes place
  pub items : List Item
  pub spells : quoted_front kind ++ body_text items ≡ chars (take place bytes)
  pub taken : IsTrue (is_item_list (switches_of kind) (chars (drop place bytes)) items)

-- Up to the place the text is the front, items, and the start of a continuation.
pub record IsContinuedTo (kind : StringKind) (place : ℕ) (bytes : List ℕ) : Type 0 where
  pub boundary : IsCharBoundary bytes place
  pub items : List Item
  pub blanks : List ℕ
  pub spells :
      quoted_front kind ++ (body_text items ++ backslash ∷ line_feed ∷ blanks)
      ≡ chars (take place bytes)
  pub taken : IsTrue (is_item_list (switches_of kind) (backslash ∷ line_feed ∷ blanks) items)
  pub blank : IsTrue (list_all is_blank blanks)

-- Up to the place the text is the front, `n` hashes, the opening quote, and characters that are
-- allowed in a raw body. No closing begins in them.
pub record IsRawTo (kind : StringKind) (n place : ℕ) (bytes : List ℕ) : Type 0 where
  pub boundary : IsCharBoundary bytes place
  pub few : n ≤ 255
  pub body : List ℕ
  pub spells : raw_front kind ++ (hashes n ++ double_quote ∷ body) ≡ chars (take place bytes)
  pub allowed : IsTrue (list_all (is_raw_char (has_unicode kind) (allows_nul kind)) body)
  pub unclosed : (more : List ℕ) → IsFalse (occurs (raw_closing n) more) →
      IsFalse (occurs (raw_closing n) (body ++ more))

-- The text up to the place, for each of the three bodies.
abbrev pub IsBodyTo : Body → StringKind → ℕ → List ℕ → Type 0
IsBodyTo Quoted kind = IsQuotedTo kind
IsBodyTo Continuation kind = IsContinuedTo kind
IsBodyTo (Raw n) kind = IsRawTo kind n

-- The text begins this string, which is read up to its place.
abbrev pub IsOpen : List ℕ → Open → Type 0
IsOpen bytes string = IsBodyTo string.body string.kind string.place bytes

-- The text begins the known string, if there is one.
abbrev pub IsKnown : List ℕ → Option Open → Type 0
IsKnown bytes None = Unit {0}
IsKnown bytes (Some string) = IsOpen bytes string

-- The place is in the last line of the text, or after it: no LF follows it.
abbrev pub IsInLastLine : ℕ → List ℕ → Type 0
IsInLastLine place t = IsTrue (list_all (λ c. not (c == line_feed)) (chars (drop place t)))

-- If lines are held, the string that they begin is known. It was read up to a place in the last
-- line, or after it, from which the next line is read.
abbrev pub IsReadToLastLine : List ℕ → Option Open → Type 0
IsReadToLastLine held None = held ≡ []
IsReadToLastLine held (Some string) =
    IsOpen held string
    × ((lines : List ℕ) × (lines ++ line_feed ∷ [] ≡ held) × IsInLastLine string.place lines)

-- The text is unfinished, and with an LF after it begins this string, which is read up to its last
-- line. Or there is no string, and the text with an LF after it does not begin a literal.
abbrev pub IsAfter : List ℕ → Option Open → Type 0
IsAfter t (Some string) =
    IsUnfinished t × IsOpen (t ++ line_feed ∷ []) string × IsInLastLine string.place t
IsAfter t None = BeginsByLine t → ⊥
