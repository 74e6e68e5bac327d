-- An identifier is `_`, or a suffix that is not empty.
use Rattle.std.proofs.Common.{◌≡◌, ℕ, Bool, true, false, not, ◌&&◌, eqb, List, [], ◌∷◌, refl, sym, ap, ◌∙◌}
use Rattle.std.specs.List.{list_all}
use Rattle.std.specs.Str.{chars, IsUtf8, encode_utf8_all}
use Rattle.std.specs.Prelude.{codes, nat_lt}
use Rattle.std.proofs.lemmas.Bool.{and_parts, eqb-true, false_from_ne_true}
use Rattle.std.proofs.lemmas.Str.{encodes-chars, encodes-IsAscii, chars-nil}
use Rattle.unicode_ident.specs.Ident.{is_xid_continue}
use Rattle.unicode_ident.proofs.Computing.{unicode_ident}
use Rattle.litrs_base.specs.Text.{is_empty}
use Rattle.litrs_base.proofs.Chars.{ascii_by_test}
use Rattle.litrs_grammar.specs.Bool.{bool_text}
use Rattle.litrs_grammar.specs.Suffix.{starts_identifier, is_suffix}
use Rattle.litrs_token.specs.Tokens.{is_ident}

no_element : (t : List ℕ) → is_empty t ≡ true → t ≡ []
no_element [] e = refl
no_element (c ∷ cs) e = cc

and_not_false : (b v : Bool) → v ≡ false → (b && not v) ≡ b
and_not_false true v e = ap not e
and_not_false false v e = refl

not_alone : (c : ℕ) (cs : List ℕ) → (c ∷ cs ≡ 95 ∷ [] → ⊥) → (eqb c 95 && is_empty cs) ≡ false
not_alone c cs other = false_from_ne_true (eqb c 95 && is_empty cs) (λ both.
    let parts = and_parts (eqb c 95) (is_empty cs) both in
    let first : c ≡ 95 = eqb-true c 95 parts.0 in
    let rest : cs ≡ [] = no_element cs parts.1 in other cc)

suffix_is_ident : (t : List ℕ) → (t ≡ [] → ⊥) → (t ≡ 95 ∷ [] → ⊥) → is_suffix t ≡ is_ident t
unfolding is_suffix is_ident
suffix_is_ident [] some other = absurd (some refl)
suffix_is_ident (c ∷ cs) some other =
    and_not_false (starts_identifier c && list_all is_xid_continue cs) _ (not_alone c cs other)

pub lone_is_ident : (bs : List ℕ) → bs ≡ codes "_" → is_ident (chars bs) ≡ true
unfolding is_ident chars
lone_is_ident bs e = ap (λ l. is_ident (chars l)) e

pub empty_is_no_ident : (bs : List ℕ) → bs ≡ [] → is_ident (chars bs) ≡ false
unfolding is_ident
empty_is_no_ident bs e = ap (λ l. is_ident (chars l)) e ∙ ap is_ident chars-nil

-- a text whose characters are ASCII is their bytes
bytes_of : (bs t : List ℕ) → IsUtf8 bs → list_all (λ c. nat_lt c 128) t ≡ true → chars bs ≡ t →
    bs ≡ t
bytes_of bs t u low e =
    sym (encodes-chars bs u) ∙ (ap encode_utf8_all e ∙ encodes-IsAscii t (ascii_by_test t low))

pub ident_by_suffix : (bs : List ℕ) → IsUtf8 bs → (bs ≡ [] → ⊥) → (bs ≡ codes "_" → ⊥) →
    is_suffix (chars bs) ≡ is_ident (chars bs)
ident_by_suffix bs u some other =
    suffix_is_ident (chars bs)
    (λ e. some (bytes_of bs [] u refl e)) (λ e. other (bytes_of bs (codes "_") u refl e))

-- The words that are written as identifiers

pub bool_is_ident : (b : Bool) → is_ident (chars (bool_text b)) ≡ true
unfolding is_ident chars unicode_ident
bool_is_ident false = refl
bool_is_ident true = refl

pub compile_error_is_ident : is_ident (chars (codes "compile_error")) ≡ true
unfolding is_ident chars unicode_ident
compile_error_is_ident = refl
