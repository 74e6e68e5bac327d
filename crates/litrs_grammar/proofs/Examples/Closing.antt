-- The text of an open refusal with its closing text, and texts that do not close anything.
use Rattle.std.specs.Prelude.{◌≡◌, ℕ, List, [], ◌∷◌, ◌++◌, IsTrue, codes, refl}
use Rattle.std.proofs.Common.{sym, ap, ◌∙◌}
use Rattle.litrs_base.specs.declared.err.ParseError.{ParseError}
use Rattle.litrs_base.specs.Finality.{is_open}
use Rattle.litrs_base.specs.Refusal.{refusal_of, kind_of}
use Rattle.litrs_base.specs.declared.quotes.StringKind.{StringKind}
use Rattle.litrs_base.specs.declared.quotes.StringKind.TheVariants.{String as string_kind, ByteString as byte_string_kind, CString as c_string_kind}
use Rattle.litrs_grammar.specs.Quoted.{plain_item}
use Rattle.litrs_grammar.specs.Literal.{Derivation, StringParts, quoted_parts, a_bool, an_integer, a_float, a_char, a_byte, a_string, a_byte_string, a_c_string, Parse, literal_parse, IsLiteralOf, suffix_of, string_suffix}
use Rattle.litrs_grammar.specs.Closing.{closing_of, opening_text, written_body, a_string_of, IsClosedBy}
use Rattle.litrs_grammar.specs.Refused.{IsRefused}
use Rattle.litrs_grammar.proofs.Computing.{computing, quoted}
use Rattle.litrs_grammar.proofs.Laws.Literal.{literals_are_unique}

-- if the kind is open, the closing text makes the text a literal
refused_closes :
    (parse : Parse) (t : List ℕ) (e : ParseError) → IsRefused parse t e → IsTrue (is_open (kind_of e)) →
    IsClosedBy (IsLiteralOf parse) t (closing_of t (refusal_of e))
refused_closes parse t e refused is = refused.closes is

-- which has no suffix
closed_suffix :
    (parse : Parse) (t closing : List ℕ) (closed : IsClosedBy (IsLiteralOf parse) t closing) → string_suffix closed.parts ≡ []
closed_suffix parse t closing closed = closed.no_suffix

-- and all of the text after the opening as its body
closed_body :
    (parse : Parse) (t closing : List ℕ) (closed : IsClosedBy (IsLiteralOf parse) t closing) →
    opening_text closed.kind closed.parts ++ written_body closed.parts ≡ t
closed_body parse t closing closed = closed.body

-- Texts that do not close `"a`

suffix_same : (kind : StringKind) (parts : StringParts) → suffix_of (a_string_of kind parts) ≡ string_suffix parts
suffix_same string_kind parts = refl
suffix_same byte_string_kind parts = refl
suffix_same c_string_kind parts = refl

-- `"a"x` has the suffix `x`
suffix_closes_nothing : IsClosedBy (IsLiteralOf literal_parse) (codes "\"a") (codes "\"x") → ⊥
unfolding computing
suffix_closes_nothing closed =
    let is : a_string_of closed.kind closed.parts ≡ a_string (quoted_parts (record { items = plain_item 97 ∷ []; suffix = codes "x" })) =
    literals_are_unique _ _ _ closed.literal (quoted refl refl refl) in
    let none : codes "x" ≡ [] = sym (ap suffix_of is) ∙ (suffix_same closed.kind closed.parts ∙ closed.no_suffix) in
    cc

-- the text before the closing quote of a string of one of the three kinds
abbrev opened : Derivation → List ℕ
opened (a_bool b) = []
opened (an_integer d) = []
opened (a_float d) = []
opened (a_char d) = []
opened (a_byte d) = []
opened (a_string d) = opening_text string_kind d ++ written_body d
opened (a_byte_string d) = opening_text byte_string_kind d ++ written_body d
opened (a_c_string d) = opening_text c_string_kind d ++ written_body d

opened_same :
    (kind : StringKind) (parts : StringParts) → opened (a_string_of kind parts) ≡ opening_text kind parts ++ written_body parts
opened_same string_kind parts = refl
opened_same byte_string_kind parts = refl
opened_same c_string_kind parts = refl

-- `"ab"` has a longer body
longer_body_closes_nothing : IsClosedBy (IsLiteralOf literal_parse) (codes "\"a") (codes "b\"") → ⊥
unfolding computing
longer_body_closes_nothing closed =
    let is : a_string_of closed.kind closed.parts ≡ a_string (quoted_parts (record { items = plain_item 97 ∷ plain_item 98 ∷ []; suffix = [] })) =
    literals_are_unique _ _ _ closed.literal (quoted refl refl refl) in
    let all : codes "\"ab" ≡ codes "\"a" = sym (ap opened is) ∙ (opened_same closed.kind closed.parts ∙ closed.body) in
    cc
