-- The fields of a refusal, on its text and longer ones, read by name: each line fails if the
-- definition says less.
use Rattle.std.specs.Prelude.{◌≡◌, ◌↔◌, ℕ, List, [], ◌∷◌, ◌++◌, IfSome, IsTrue}
use Rattle.litrs_base.specs.declared.err.ParseError.{ParseError}
use Rattle.litrs_base.specs.CharEnd.{PointsAtCharacters}
use Rattle.litrs_base.specs.Characters.{line_feed}
use Rattle.litrs_base.specs.Finality.{is_final, is_open}
use Rattle.litrs_base.specs.Refusal.{Refusal, refusal_of, kind_of, char_span_of, IsInText, HasCharSpan}
use Rattle.litrs_grammar.specs.Literal.{Derivation, Parse, IsLiteralOf, Begins}
use Rattle.litrs_grammar.specs.LiteralRefusals.{IsRefusal}
use Rattle.litrs_grammar.specs.Refused.{IsRefused}

-- the text is not a literal, and has one error
refused_text :
    (parse : Parse) (t : List ℕ) (e : ParseError) → IsRefused parse t e →
    ((d : Derivation) → ¬ IsLiteralOf parse t d) × IsRefusal parse t (refusal_of e)
    × ((r : Refusal) → IsRefusal parse t r → r ≡ refusal_of e)
refused_text parse t e refused = (refused.none, refused.table, refused.only)

-- both spans lie in the text
refused_spans :
    (parse : Parse) (t : List ℕ) (e : ParseError) → IsRefused parse t e →
    IsInText t (refusal_of e) × HasCharSpan t e × IfSome (char_span_of e) (PointsAtCharacters t)
refused_spans parse t e refused = (refused.span, refused.char_span, refused.char_ends)

-- if the kind is final, no longer text is a literal
refused_longer :
    (parse : Parse) (t : List ℕ) (e : ParseError) → IsRefused parse t e → IsTrue (is_final (kind_of e)) →
    (more : List ℕ) (d : Derivation) → ¬ IsLiteralOf parse (t ++ more) d
refused_longer parse t e refused final = refused.final final

-- a line with its LF begins a literal if and only if the kind is open
refused_line :
    (parse : Parse) (t line : List ℕ) (e : ParseError) → IsRefused parse t e → line ++ line_feed ∷ [] ≡ t →
    IsTrue (is_open (kind_of e)) ↔ Begins parse t
refused_line parse t line e refused ends = refused.line_end line ends
