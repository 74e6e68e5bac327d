-- Laws of the literals at the front of texts.
use Rattle.std.specs.Prelude.{◌≡◌, ℕ, List, [], ◌∷◌, ◌++◌, IsTrue}
use Rattle.litrs_base.specs.Text.{IsText}
use Rattle.litrs_grammar.specs.Suffix.{is_suffix}
use Rattle.litrs_grammar.specs.Literal.{Derivation, IsLiteral}
use Rattle.litrs_base.specs.Refusal.{refusal_of}
use Rattle.litrs_prefix.specs.declared.MalformedPrefix.{MalformedPrefix}
use Rattle.litrs_prefix.specs.Malformed.{IsMalformed}
use Rattle.litrs_prefix.specs.MayChange.{AnswerStays}
use Rattle.litrs_prefix.specs.Opens.{opens}
use Rattle.litrs_prefix.specs.Prefix.{HasPrefix, ends_suffix}

-- A literal has itself at its front, and an empty rest.
abbrev pub LiteralsAreTheirPrefix : Type 0
LiteralsAreTheirPrefix = (t : List ℕ) (d : Derivation) → IsLiteral t d → HasPrefix t d []

-- Every longer text has the same literal at its front, if the rest is not empty.
abbrev pub PrefixesStay : Type 0
PrefixesStay = (t : List ℕ) (d : Derivation) (c : ℕ) (rest more : List ℕ) →
    HasPrefix t d (c ∷ rest) → HasPrefix (t ++ more) d (c ∷ (rest ++ more))

-- A text is in only one way a suffix and a rest before which it ends.
abbrev pub SuffixesAreUnique : Type 0
SuffixesAreUnique = (s x r y : List ℕ) → IsTrue (is_suffix s) → IsTrue (is_suffix x) →
    IsTrue (ends_suffix s r) → IsTrue (ends_suffix x y) → s ++ r ≡ x ++ y → (s ≡ x) × (r ≡ y)

-- A text has at most one literal at its front.
abbrev pub PrefixesAreUnique : Type 0
PrefixesAreUnique = (t : List ℕ) (d e : Derivation) (r u : List ℕ) →
    HasPrefix t d r → HasPrefix t e u → (d ≡ e) × (r ≡ u)

-- A literal begins at the front of a text that has a literal there.
abbrev pub PrefixesOpen : Type 0
PrefixesOpen = (t : List ℕ) (d : Derivation) (rest : List ℕ) →
    HasPrefix t d rest → IsTrue (opens t)

-- A malformed prefix has only one length and one refusal.
abbrev pub MalformedAreUnique : Type 0
MalformedAreUnique = (t : List ℕ) (e f : MalformedPrefix) → IsMalformed t e → IsMalformed t f →
    (e.len ≡ f.len) × (refusal_of e.error ≡ refusal_of f.error)

-- Every longer text has the same malformed prefix and error, if the answer for the text stays.
abbrev pub MalformedStay : Type 0
MalformedStay = (t more : List ℕ) (e : MalformedPrefix) → AnswerStays t → IsText more →
    IsMalformed t e → IsMalformed (t ++ more) e
