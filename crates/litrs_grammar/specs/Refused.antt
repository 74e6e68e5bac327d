-- The meaning of a refusal.
use Rattle.std.specs.Prelude.{◌≡◌, ◌↔◌, ◌⊎◌, ℕ, List, [], ◌∷◌, ◌++◌, IfSome, IsTrue}
use Rattle.litrs_base.specs.declared.err.ParseError.{ParseError}
use Rattle.litrs_base.specs.declared.err.ParseErrorKind.TheVariants.{OutOfMemory}
use Rattle.litrs_base.specs.CharEnd.{PointsAtCharacters}
use Rattle.litrs_base.specs.Derivations.{HasNoDerivation}
use Rattle.litrs_base.specs.Characters.{line_feed}
use Rattle.litrs_base.specs.Finality.{is_final, is_open}
use Rattle.litrs_base.specs.Refusal.{Refusal, without_span, refusal_of, kind_of, char_span_of, IsInText, HasCharSpan}
use Rattle.litrs_grammar.specs.LongerTexts.{BeginsBy, EndsBy}
use Rattle.litrs_grammar.specs.Closing.{closing_of, IsClosedBy}
use Rattle.litrs_grammar.specs.Literal.{Derivation, Parse, literal_parse, IsLiteralOf}
use Rattle.litrs_grammar.specs.LiteralRefusals.{IsRefusal}
use Rattle.litrs_grammar.specs.Allocation.{allocates, takes_memory}

-- `t` is refused with the error by a parse with these derivations and this table of refusals:
-- - `t` has no derivation.
-- - The table has the kind and the span of the error for `t`, and no other pair.
-- - The span lies within `t` and starts on a character boundary. The character span ends at the
--   least character boundary at or after the end of the span.
-- - If the kind is final, `t` followed by any list does not have a derivation.
-- - If the kind is open, the closing text makes `t` a string literal without a suffix, whose body
--   is all of `t` after the opening.
-- - If `t` ends with LF, `t` begins a text that has a derivation iff the kind is open.
pub record IsRefusedBy
    (Derives : List ℕ → Derivation → Type 0) (Table : List ℕ → Refusal → Type 0)
    (t : List ℕ) (e : ParseError) : Type 0 where
  pub none : HasNoDerivation (Derives t)
  pub table : Table t (refusal_of e)
  pub only : (r : Refusal) → Table t r → r ≡ refusal_of e
  pub span : IsInText t (refusal_of e)
  pub char_span : HasCharSpan t e
  pub char_ends : IfSome (char_span_of e) (PointsAtCharacters t)
  pub final : IsTrue (is_final (kind_of e)) → EndsBy Derives t
  pub closes : IsTrue (is_open (kind_of e)) → IsClosedBy Derives t (closing_of t (refusal_of e))
  pub line_end : (line : List ℕ) → line ++ line_feed ∷ [] ≡ t →
      IsTrue (is_open (kind_of e)) ↔ BeginsBy Derives t

-- The text is refused with the error by one of the nine parses.
abbrev pub IsRefused : Parse → List ℕ → ParseError → Type 0
IsRefused parse t e = IsRefusedBy (IsLiteralOf parse) (IsRefusal parse) t e

-- `t` is a literal of the parse whose value is allocated and takes memory, and the error is that
-- the allocation failed.
pub record IsOutOfMemory (parse : Parse) (t : List ℕ) (e : ParseError) : Type 0 where
  pub derivation : Derivation
  pub literal : IsLiteralOf parse t derivation
  pub allocated : IsTrue (allocates derivation)
  pub takes : IsTrue (takes_memory derivation)
  pub error : refusal_of e ≡ without_span OutOfMemory

-- `e` is the error of a parse that may allocate iff `t` is refused with it, or the allocation of
-- its value failed.
abbrev pub IsRefusedOrOutOfMemory : Parse → List ℕ → ParseError → Type 0
IsRefusedOrOutOfMemory parse t e = IsRefused parse t e ⊎ IsOutOfMemory parse t e

-- The parse of a text may run out of memory iff the text is a literal whose value is allocated and
-- takes memory.
abbrev pub MayLackMemory : List ℕ → Type 0
MayLackMemory t = (e : ParseError) × IsOutOfMemory literal_parse t e
