-- A text has at most one token at its front: the class decides the kind, and the kind what follows.
use Rattle.std.proofs.Common.{◌≡◌, ◌⊎◌, inl, inr, ℕ, Bool, true, false, not, ◌&&◌, List, [], ◌∷◌, ◌++◌, refl, sym, ap, subst, ◌∙◌, arith}
use Rattle.std.specs.Prelude.{if◌then◌else◌, ◌==◌}
use Rattle.std.specs.Char.{is_ascii_digit}
use Rattle.std.proofs.lemmas.Bool.{and_parts, and_from, or_cases, or_parts, not-true, true≢false, false≢true, eqb-true, false_from_ne_true}
use Rattle.std.proofs.lemmas.Bool.Decides.{nat_tests}
use Rattle.std.proofs.lemmas.List.{append_cancel_left}
use Rattle.unicode_ident.proofs.IdentLemmas.{is_xid_start-ascii, is_xid_continue-ascii}
use Rattle.litrs_base.specs.Text.{first_passes, is_text}
use Rattle.litrs_base.proofs.ListTests.{if_true}
use Rattle.litrs_grammar.specs.Bool.{bool_text, is_bool}
use Rattle.litrs_grammar.specs.Suffix.{starts_identifier}
use Rattle.litrs_grammar.specs.Literal.{Derivation}
use Rattle.unicode_ident.specs.Ident.{is_xid_continue}
use Rattle.litrs_prefix.specs.Opens.{first_name, after_name, after_run, is_single_quote, opens}
use Rattle.litrs_prefix.specs.Prefix.{HasPrefix, is_quote_or_hash, ends_bool}
use Rattle.litrs_prefix.proofs.PieceLaws.{piece_unique}
use Rattle.litrs_prefix.proofs.Names.{bool_after, name_and_rest}
use Rattle.litrs_prefix.proofs.Opened.{opened}
use Rattle.litrs_prefix.proofs.Unique.{at_bool, unique}
use Rattle.litrs_lexer.specs.declared.kind.TokenKind.{TokenKind}
use Rattle.litrs_lexer.specs.declared.kind.TokenKind.TheVariants.{Whitespace, LineComment, BlockComment, UnterminatedBlockComment, Ident, RawIdent, UnknownPrefix, Lifetime, RawLifetime, UnknownPrefixLifetime, Literal, MalformedLiteral, Punctuation, Unknown}
use Rattle.litrs_lexer.specs.Laws.{TokensAreUnique}
use Rattle.litrs_lexer.specs.Comment.{IsBody, is_star_or_slash, after_line}
use Rattle.litrs_lexer.specs.Identifier.{begins_name, begins_raw_name}
use Rattle.litrs_lexer.specs.Lifetime.{is_hash}
use Rattle.litrs_lexer.specs.Literal.{opens_quoted}
use Rattle.litrs_lexer.specs.Punctuation.{is_punctuation, is_unknown}
use Rattle.litrs_lexer.specs.Token.{IsToken}
use Rattle.litrs_lexer.specs.Whitespace.{is_white_space}
use Rattle.litrs_lexer.proofs.Bodies.{one_body_end}
use Rattle.litrs_lexer.proofs.Classes.{class, quote_class, slash_class, other_class, no_start, name_at, both_no, quoted_class, white_starts_none, punctuation_starts_none, slash_starts_none, single_starts_none}

-- the class of each kind
abbrev pub class_of : TokenKind → ℕ
class_of Whitespace = 1
class_of LineComment = 2
class_of BlockComment = 5
class_of UnterminatedBlockComment = 5
class_of Ident = 11
class_of RawIdent = 12
class_of UnknownPrefix = 13
class_of Lifetime = 14
class_of RawLifetime = 15
class_of UnknownPrefixLifetime = 16
class_of Literal = 17
class_of MalformedLiteral = 17
class_of Punctuation = 19
class_of Unknown = 20

white_class : (t : List ℕ) → first_passes is_white_space t ≡ true → class t ≡ 1
white_class [] h = absurd (false≢true h)
white_class (c ∷ t) h = no_start c t (white_starts_none c h) ∙ rw h refl

slash_at : (t : List ℕ) → class (47 ∷ t) ≡ slash_class t
slash_at t = no_start 47 t slash_starts_none

single_at : (t : List ℕ) (a b h r : Bool) → begins_name t ≡ a → first_passes is_single_quote (after_name t) ≡ b → first_passes is_hash (after_name t) ≡ h → begins_raw_name t ≡ r →
    class (39 ∷ t) ≡ quote_class a b h r
single_at t a b h r ea eb eh er = no_start 39 t single_starts_none ∙ (λ i. quote_class (ea i) (eb i) (eh i) (er i))

ident_class : (t : List ℕ) → begins_name t ≡ true → is_bool (first_name t) ≡ false → first_passes is_quote_or_hash (after_name t) ≡ false → class t ≡ 11
ident_class [] h b m = absurd (false≢true h)
ident_class (c ∷ t) h b m = name_at c t false (begins_raw_name (c ∷ t)) (opens_quoted (c ∷ t)) false h m refl refl b

prefix_class : (t : List ℕ) → begins_name t ≡ true → first_passes is_quote_or_hash (after_name t) ≡ true → opens_quoted t ≡ false → begins_raw_name t ≡ false → class t ≡ 13
prefix_class [] h m q r = absurd (false≢true h)
prefix_class (c ∷ t) h m q r = name_at c t true false false (is_bool (first_name (c ∷ t))) h m r q refl

r_starts : starts_identifier 114 ≡ true
r_starts = is_xid_start-ascii 114 (omega arith)

-- after `r` before `#`
r_alone : (t : List ℕ) → after_name (114 ∷ 35 ∷ t) ≡ 35 ∷ t
r_alone t = if_true (starts_identifier 114) (after_run (35 ∷ t)) (114 ∷ 35 ∷ t) r_starts ∙ rw (is_xid_continue-ascii 35 (omega arith)) refl

raw_class : (name : List ℕ) → begins_name name ≡ true → class (114 ∷ 35 ∷ name) ≡ 12
raw_class name h =
    name_at 114 (35 ∷ name) true true (opens_quoted (114 ∷ 35 ∷ name)) (is_bool (first_name (114 ∷ 35 ∷ name))) r_starts (ap (first_passes is_quote_or_hash) (r_alone name)) h refl refl

raw_lifetime_class : (name : List ℕ) → begins_name name ≡ true → class (39 ∷ 114 ∷ 35 ∷ name) ≡ 15
raw_lifetime_class name h =
    single_at (114 ∷ 35 ∷ name) true false true true r_starts (ap (first_passes is_single_quote) (r_alone name)) (ap (first_passes is_hash) (r_alone name)) h

hash_no_quote : (t : List ℕ) → first_passes is_hash t ≡ true → first_passes is_single_quote t ≡ false
hash_no_quote [] h = refl
hash_no_quote (c ∷ t) h = ap (λ (x : ℕ). x == 39) (eqb-true c 35 h)

same_text : (w t : List ℕ) → is_text w t ≡ true → w ≡ t
same_text [] [] h = refl
same_text [] (d ∷ t) h = absurd (false≢true h)
same_text (c ∷ w) [] h = absurd (false≢true h)
same_text (c ∷ w) (d ∷ t) h =
    let p = and_parts (c == d) (is_text w t) h in
    let head : c ≡ d = eqb-true c d p.0 in
    let tail : w ≡ t = same_text w t p.1 in λ i. head i ∷ tail i

a_bool_text : (t : List ℕ) → is_bool t ≡ true → (b : Bool) × (bool_text b ≡ t)
a_bool_text t h = elim (or_cases (is_text (bool_text true) t) (is_text (bool_text false) t) h) [
  | inl e ↦ (true, same_text (bool_text true) t e)
  | inr e ↦ (false, same_text (bool_text false) t e)
]

no_mark : (r : List ℕ) → ends_bool r ≡ true → first_passes is_quote_or_hash r ≡ false
no_mark r h = not-true (first_passes is_quote_or_hash r) (and_parts (not (first_passes is_xid_continue r)) (not (first_passes is_quote_or_hash r)) h).1

bool_class : (t : List ℕ) → is_bool (first_name t) ≡ true → first_passes is_quote_or_hash (after_name t) ≡ false → class t ≡ 17
bool_class [] b m = absurd (false≢true b)
bool_class (c ∷ t) b m = go (starts_identifier c) refl
  where
    go : (v : Bool) → starts_identifier c ≡ v → class (c ∷ t) ≡ 17
    go true e = name_at c t false (begins_raw_name (c ∷ t)) (opens_quoted (c ∷ t)) true e m refl refl b
    go false e = absurd (both_no (is_bool (first_name (c ∷ t))) b (rw e refl))

literal_class : (t : List ℕ) (d : Derivation) (r : List ℕ) → HasPrefix t d r → class t ≡ 17
literal_class t d r h = go (is_bool (first_name t)) refl
  where
    go : (b : Bool) → is_bool (first_name t) ≡ b → class t ≡ 17
    go false e = quoted_class t (and_from (opens t) (not (is_bool (first_name t))) (opened t d r h) (ap not e))
    go true e =
        let v = a_bool_text (first_name t) e in
        at_bool (class t ≡ 17) t r (after_name t) d v.0 h (ap (λ (l : List ℕ). l ++ after_name t) v.1 ∙ name_and_rest t)
        (λ b spells ends.
        let rest : after_name t ≡ r = ap after_name (sym spells) ∙ bool_after b r ends in
        bool_class t e (ap (first_passes is_quote_or_hash) rest ∙ no_mark r ends))

slash_alone : (r : List ℕ) → first_passes is_star_or_slash r ≡ false → slash_class r ≡ 19
slash_alone [] h = refl
slash_alone (d ∷ r) h = let p = or_parts (d == 42) (d == 47) h in rw p.1 (rw p.0 refl)

punctuation_class : (c : ℕ) (r : List ℕ) → is_punctuation c ≡ true → ((c == 47) && first_passes is_star_or_slash r) ≡ false → class (c ∷ r) ≡ 19
punctuation_class c r h none =
    let white : is_white_space c ≡ false = grind (arith, nat_tests) in
    let digit : is_ascii_digit c ≡ false = grind (arith, nat_tests) in
    let quote : (c == 34) ≡ false = grind (arith, nat_tests) in
    let single : (c == 39) ≡ false = grind (arith, nat_tests) in
    no_start c r (punctuation_starts_none c h) ∙ (λ i. other_class (white i) (digit i) (quote i) (single i) (c == 47) (h i) r) ∙ go (c == 47) refl none
  where
    go : (v : Bool) → (c == 47) ≡ v → (v && first_passes is_star_or_slash r) ≡ false → (if v then slash_class r else 19) ≡ 19
    go true e none = slash_alone r none
    go false e none = refl

six : (a b d e f g : Bool) → (not a && not b && not d && not e && not f && not g) ≡ true → (a ≡ false) × (b ≡ false) × (d ≡ false) × (e ≡ false) × (f ≡ false) × (g ≡ false)
six true b d e f g h = absurd (false≢true h)
six false true d e f g h = absurd (false≢true h)
six false false true e f g h = absurd (false≢true h)
six false false false true f g h = absurd (false≢true h)
six false false false false true g h = absurd (false≢true h)
six false false false false false true h = absurd (false≢true h)
six false false false false false false h = (refl, refl, refl, refl, refl, refl)

unknown_class : (c : ℕ) (r : List ℕ) → is_unknown c ≡ true → class (c ∷ r) ≡ 20
unknown_class c r h =
    let p = six (is_white_space c) (starts_identifier c) (is_ascii_digit c) (c == 34) (c == 39) (is_punctuation c) h in
    let slash : (c == 47) ≡ false = false_from_ne_true (c == 47) (λ e. both_no (is_punctuation c) (ap is_punctuation (eqb-true c 47 e)) p.5) in
    no_start c r p.1 ∙ (λ i. other_class (p.0 i) (p.2 i) (p.3 i) (p.4 i) (slash i) (p.5 i) r)

pub token_class : (k : TokenKind) (t r : List ℕ) → IsToken k t r → class t ≡ class_of k
token_class Whitespace t r h = white_class t h.0
token_class LineComment t r h = ap class h.1 ∙ slash_at (47 ∷ h.0)
token_class BlockComment t r h = ap class h.1 ∙ slash_at (42 ∷ h.0)
token_class UnterminatedBlockComment t r h = ap class h.1 ∙ slash_at (42 ∷ h.0)
token_class Ident t r h = ident_class t h.0 h.1 (ap (first_passes is_quote_or_hash) (sym h.2) ∙ h.3)
token_class RawIdent t r h = ap class h.1 ∙ raw_class h.0 h.2
token_class UnknownPrefix t r h = prefix_class t h.0 (ap (first_passes is_quote_or_hash) (sym h.1) ∙ h.2) h.3 h.4
token_class Lifetime t r h =
    ap class h.1
    ∙ single_at h.0 true false false (begins_raw_name h.0) h.2 (ap (first_passes is_single_quote) (sym h.3) ∙ h.4) (ap (first_passes is_hash) (sym h.3) ∙ h.5) refl
token_class RawLifetime t r h = ap class h.1 ∙ raw_lifetime_class h.0 h.2
token_class UnknownPrefixLifetime t r h =
    ap class h.1
    ∙ single_at h.0 true false true false h.2 (ap (first_passes is_single_quote) (sym h.3) ∙ hash_no_quote r h.4) (ap (first_passes is_hash) (sym h.3) ∙ h.4) h.5
token_class Literal t r h = literal_class t h.0 r h.1
token_class MalformedLiteral t r h = quoted_class t h.0
token_class Punctuation t r h = ap class h.1 ∙ punctuation_class h.0 r h.2 h.3
token_class Unknown t r h = ap class h.1 ∙ unknown_class h.0 r h.2

one_body : (x y a b : ℕ) (t p q : List ℕ) → t ≡ x ∷ y ∷ p → t ≡ a ∷ b ∷ q → p ≡ q
one_body x y a b t p q h g = let e : x ∷ y ∷ p ≡ a ∷ b ∷ q = sym h ∙ g in cc

one_rest : (x y : ℕ) (t p q : List ℕ) → t ≡ x ∷ p → t ≡ y ∷ q → p ≡ q
one_rest x y t p q h g = let e : x ∷ p ≡ y ∷ q = sym h ∙ g in cc

three_rest : (x y z a b c : ℕ) (t p q : List ℕ) → t ≡ x ∷ y ∷ z ∷ p → t ≡ a ∷ b ∷ c ∷ q → p ≡ q
three_rest x y z a b c t p q h g = let e : x ∷ y ∷ z ∷ p ≡ a ∷ b ∷ c ∷ q = sym h ∙ g in cc

-- the kind, by its class

is_white_kind : (j : TokenKind) → 1 ≡ class_of j → Whitespace ≡ j
is_white_kind Whitespace e = refl
is_white_kind j e = absurd (true≢false (ap (λ (n : ℕ). n == 1) e))

rest_white : (t r u : List ℕ) → IsToken Whitespace t r → IsToken Whitespace t u → r ≡ u
rest_white t r u a b = a.1 ∙ sym b.1

is_ident : (j : TokenKind) → 11 ≡ class_of j → Ident ≡ j
is_ident Ident e = refl
is_ident j e = absurd (true≢false (ap (λ (n : ℕ). n == 11) e))

rest_ident : (t r u : List ℕ) → IsToken Ident t r → IsToken Ident t u → r ≡ u
rest_ident t r u a b = a.2 ∙ sym b.2

is_raw_ident : (j : TokenKind) → 12 ≡ class_of j → RawIdent ≡ j
is_raw_ident RawIdent e = refl
is_raw_ident j e = absurd (true≢false (ap (λ (n : ℕ). n == 12) e))

rest_raw_ident : (t r u : List ℕ) → IsToken RawIdent t r → IsToken RawIdent t u → r ≡ u
rest_raw_ident t r u a b = let same : a.0 ≡ b.0 = one_body 114 35 114 35 t a.0 b.0 a.1 b.1 in a.3 ∙ (ap after_name same ∙ sym b.3)

is_prefix : (j : TokenKind) → 13 ≡ class_of j → UnknownPrefix ≡ j
is_prefix UnknownPrefix e = refl
is_prefix j e = absurd (true≢false (ap (λ (n : ℕ). n == 13) e))

rest_prefix : (t r u : List ℕ) → IsToken UnknownPrefix t r → IsToken UnknownPrefix t u → r ≡ u
rest_prefix t r u a b = a.1 ∙ sym b.1

is_lifetime : (j : TokenKind) → 14 ≡ class_of j → Lifetime ≡ j
is_lifetime Lifetime e = refl
is_lifetime j e = absurd (true≢false (ap (λ (n : ℕ). n == 14) e))

rest_lifetime : (t r u : List ℕ) → IsToken Lifetime t r → IsToken Lifetime t u → r ≡ u
rest_lifetime t r u a b = let same : a.0 ≡ b.0 = one_rest 39 39 t a.0 b.0 a.1 b.1 in a.3 ∙ (ap after_name same ∙ sym b.3)

is_raw_lifetime : (j : TokenKind) → 15 ≡ class_of j → RawLifetime ≡ j
is_raw_lifetime RawLifetime e = refl
is_raw_lifetime j e = absurd (true≢false (ap (λ (n : ℕ). n == 15) e))

rest_raw_lifetime : (t r u : List ℕ) → IsToken RawLifetime t r → IsToken RawLifetime t u → r ≡ u
rest_raw_lifetime t r u a b = let same : a.0 ≡ b.0 = three_rest 39 114 35 39 114 35 t a.0 b.0 a.1 b.1 in a.3 ∙ (ap after_name same ∙ sym b.3)

is_lifetime_prefix : (j : TokenKind) → 16 ≡ class_of j → UnknownPrefixLifetime ≡ j
is_lifetime_prefix UnknownPrefixLifetime e = refl
is_lifetime_prefix j e = absurd (true≢false (ap (λ (n : ℕ). n == 16) e))

rest_lifetime_prefix : (t r u : List ℕ) → IsToken UnknownPrefixLifetime t r → IsToken UnknownPrefixLifetime t u → r ≡ u
rest_lifetime_prefix t r u a b = let same : a.0 ≡ b.0 = one_rest 39 39 t a.0 b.0 a.1 b.1 in a.3 ∙ (ap after_name same ∙ sym b.3)

is_punctuation_kind : (j : TokenKind) → 19 ≡ class_of j → Punctuation ≡ j
is_punctuation_kind Punctuation e = refl
is_punctuation_kind j e = absurd (true≢false (ap (λ (n : ℕ). n == 19) e))

rest_punctuation : (t r u : List ℕ) → IsToken Punctuation t r → IsToken Punctuation t u → r ≡ u
rest_punctuation t r u a b = one_rest a.0 b.0 t r u a.1 b.1

is_unknown_kind : (j : TokenKind) → 20 ≡ class_of j → Unknown ≡ j
is_unknown_kind Unknown e = refl
is_unknown_kind j e = absurd (true≢false (ap (λ (n : ℕ). n == 20) e))

rest_unknown : (t r u : List ℕ) → IsToken Unknown t r → IsToken Unknown t u → r ≡ u
rest_unknown t r u a b = one_rest a.0 b.0 t r u a.1 b.1

is_line : (j : TokenKind) → 2 ≡ class_of j → LineComment ≡ j
is_line LineComment e = refl
is_line j e = absurd (true≢false (ap (λ (n : ℕ). n == 2) e))

rest_line : (t r u : List ℕ) → IsToken LineComment t r → IsToken LineComment t u → r ≡ u
rest_line t r u a b = let same : a.0 ≡ b.0 = one_body 47 47 47 47 t a.0 b.0 a.1 b.1 in a.2 ∙ (ap after_line same ∙ sym b.2)

is_block : (j : TokenKind) → 5 ≡ class_of j → (BlockComment ≡ j) ⊎ (UnterminatedBlockComment ≡ j)
is_block BlockComment e = inl refl
is_block UnterminatedBlockComment e = inr refl
is_block j e = absurd (true≢false (ap (λ (n : ℕ). n == 5) e))

rest_block : (t r u : List ℕ) → IsToken BlockComment t r → IsToken BlockComment t u → r ≡ u
rest_block t r u a b =
    let same : a.0 ≡ b.0 = one_body 47 42 47 42 t a.0 b.0 a.1 b.1 in
    one_body_end b.0 r u (subst (λ (l : List ℕ). IsBody l r) same a.2) b.2

rest_open : (t r u : List ℕ) → IsToken UnterminatedBlockComment t r → IsToken UnterminatedBlockComment t u → r ≡ u
rest_open t r u a b = a.3 ∙ sym b.3

not_open : (t r u : List ℕ) → IsToken BlockComment t r → IsToken UnterminatedBlockComment t u → ⊥
not_open t r u a b =
    let same : a.0 ≡ b.0 = one_body 47 42 47 42 t a.0 b.0 a.1 b.1 in
    b.2 r (subst (λ (l : List ℕ). IsBody l r) same a.2)

is_literal : (j : TokenKind) → 17 ≡ class_of j → (Literal ≡ j) ⊎ (MalformedLiteral ≡ j)
is_literal Literal e = inl refl
is_literal MalformedLiteral e = inr refl
is_literal j e = absurd (true≢false (ap (λ (n : ℕ). n == 17) e))

rest_literal : (t r u : List ℕ) → IsToken Literal t r → IsToken Literal t u → r ≡ u
rest_literal t r u a b = (unique t a.0 b.0 r u a.1 b.1).1

rest_malformed : (t r u : List ℕ) → IsToken MalformedLiteral t r → IsToken MalformedLiteral t u → r ≡ u
rest_malformed t r u a b =
    let m = a.2 in
    let n = b.2 in
    let same : m.0 ≡ n.0 = piece_unique t m.0 n.0 r u m.2 n.2 m.1 n.1 m.3 n.3 in
    append_cancel_left n.0 r u (ap (λ (l : List ℕ). l ++ r) (sym same) ∙ (m.1 ∙ sym n.1))

not_malformed : (t r u : List ℕ) → IsToken Literal t r → IsToken MalformedLiteral t u → ⊥
not_malformed t r u a b = b.1 a.0 r a.1

-- at the kind that it is
at_kind : (k j : TokenKind) (t u : List ℕ) → k ≡ j → IsToken j t u → IsToken k t u
at_kind k j t u is b = subst (λ (x : TokenKind). IsToken x t u) (sym is) b

by_white : (j : TokenKind) (t r u : List ℕ) → 1 ≡ class_of j → IsToken Whitespace t r → IsToken j t u → (Whitespace ≡ j) × (r ≡ u)
by_white j t r u e a b = let is : Whitespace ≡ j = is_white_kind j e in (is, rest_white t r u a (at_kind Whitespace j t u is b))

by_ident : (j : TokenKind) (t r u : List ℕ) → 11 ≡ class_of j → IsToken Ident t r → IsToken j t u → (Ident ≡ j) × (r ≡ u)
by_ident j t r u e a b = let is : Ident ≡ j = is_ident j e in (is, rest_ident t r u a (at_kind Ident j t u is b))

by_raw_ident : (j : TokenKind) (t r u : List ℕ) → 12 ≡ class_of j → IsToken RawIdent t r → IsToken j t u → (RawIdent ≡ j) × (r ≡ u)
by_raw_ident j t r u e a b = let is : RawIdent ≡ j = is_raw_ident j e in (is, rest_raw_ident t r u a (at_kind RawIdent j t u is b))

by_prefix : (j : TokenKind) (t r u : List ℕ) → 13 ≡ class_of j → IsToken UnknownPrefix t r → IsToken j t u → (UnknownPrefix ≡ j) × (r ≡ u)
by_prefix j t r u e a b = let is : UnknownPrefix ≡ j = is_prefix j e in (is, rest_prefix t r u a (at_kind UnknownPrefix j t u is b))

by_lifetime : (j : TokenKind) (t r u : List ℕ) → 14 ≡ class_of j → IsToken Lifetime t r → IsToken j t u → (Lifetime ≡ j) × (r ≡ u)
by_lifetime j t r u e a b = let is : Lifetime ≡ j = is_lifetime j e in (is, rest_lifetime t r u a (at_kind Lifetime j t u is b))

by_raw_lifetime : (j : TokenKind) (t r u : List ℕ) → 15 ≡ class_of j → IsToken RawLifetime t r → IsToken j t u → (RawLifetime ≡ j) × (r ≡ u)
by_raw_lifetime j t r u e a b = let is : RawLifetime ≡ j = is_raw_lifetime j e in (is, rest_raw_lifetime t r u a (at_kind RawLifetime j t u is b))

by_lifetime_prefix : (j : TokenKind) (t r u : List ℕ) → 16 ≡ class_of j → IsToken UnknownPrefixLifetime t r → IsToken j t u → (UnknownPrefixLifetime ≡ j) × (r ≡ u)
by_lifetime_prefix j t r u e a b = let is : UnknownPrefixLifetime ≡ j = is_lifetime_prefix j e in (is, rest_lifetime_prefix t r u a (at_kind UnknownPrefixLifetime j t u is b))

by_punctuation : (j : TokenKind) (t r u : List ℕ) → 19 ≡ class_of j → IsToken Punctuation t r → IsToken j t u → (Punctuation ≡ j) × (r ≡ u)
by_punctuation j t r u e a b = let is : Punctuation ≡ j = is_punctuation_kind j e in (is, rest_punctuation t r u a (at_kind Punctuation j t u is b))

by_unknown : (j : TokenKind) (t r u : List ℕ) → 20 ≡ class_of j → IsToken Unknown t r → IsToken j t u → (Unknown ≡ j) × (r ≡ u)
by_unknown j t r u e a b = let is : Unknown ≡ j = is_unknown_kind j e in (is, rest_unknown t r u a (at_kind Unknown j t u is b))

by_line : (j : TokenKind) (t r u : List ℕ) → 2 ≡ class_of j → IsToken LineComment t r → IsToken j t u → (LineComment ≡ j) × (r ≡ u)
by_line j t r u e a b = let is : LineComment ≡ j = is_line j e in (is, rest_line t r u a (at_kind LineComment j t u is b))

by_block : (j : TokenKind) (t r u : List ℕ) → 5 ≡ class_of j → IsToken BlockComment t r → IsToken j t u → (BlockComment ≡ j) × (r ≡ u)
by_block j t r u e a b = elim (is_block j e) [
  | inl same ↦ (same, rest_block t r u a (at_kind BlockComment j t u same b))
  | inr same ↦ absurd (not_open t r u a (at_kind UnterminatedBlockComment j t u same b))
]

by_open : (j : TokenKind) (t r u : List ℕ) → 5 ≡ class_of j → IsToken UnterminatedBlockComment t r → IsToken j t u → (UnterminatedBlockComment ≡ j) × (r ≡ u)
by_open j t r u e a b = elim (is_block j e) [
  | inl same ↦ absurd (not_open t u r (at_kind BlockComment j t u same b) a)
  | inr same ↦ (same, rest_open t r u a (at_kind UnterminatedBlockComment j t u same b))
]

by_literal : (j : TokenKind) (t r u : List ℕ) → 17 ≡ class_of j → IsToken Literal t r → IsToken j t u → (Literal ≡ j) × (r ≡ u)
by_literal j t r u e a b = elim (is_literal j e) [
  | inl same ↦ (same, rest_literal t r u a (at_kind Literal j t u same b))
  | inr same ↦ absurd (not_malformed t r u a (at_kind MalformedLiteral j t u same b))
]

by_malformed : (j : TokenKind) (t r u : List ℕ) → 17 ≡ class_of j → IsToken MalformedLiteral t r → IsToken j t u → (MalformedLiteral ≡ j) × (r ≡ u)
by_malformed j t r u e a b = elim (is_literal j e) [
  | inl same ↦ absurd (not_malformed t u r (at_kind Literal j t u same b) a)
  | inr same ↦ (same, rest_malformed t r u a (at_kind MalformedLiteral j t u same b))
]

by_class : (k j : TokenKind) (t r u : List ℕ) → class_of k ≡ class_of j → IsToken k t r → IsToken j t u → (k ≡ j) × (r ≡ u)
by_class Whitespace j t r u e a b = by_white j t r u e a b
by_class Ident j t r u e a b = by_ident j t r u e a b
by_class RawIdent j t r u e a b = by_raw_ident j t r u e a b
by_class UnknownPrefix j t r u e a b = by_prefix j t r u e a b
by_class Lifetime j t r u e a b = by_lifetime j t r u e a b
by_class RawLifetime j t r u e a b = by_raw_lifetime j t r u e a b
by_class UnknownPrefixLifetime j t r u e a b = by_lifetime_prefix j t r u e a b
by_class Punctuation j t r u e a b = by_punctuation j t r u e a b
by_class Unknown j t r u e a b = by_unknown j t r u e a b
by_class LineComment j t r u e a b = by_line j t r u e a b
by_class BlockComment j t r u e a b = by_block j t r u e a b
by_class UnterminatedBlockComment j t r u e a b = by_open j t r u e a b
by_class Literal j t r u e a b = by_literal j t r u e a b
by_class MalformedLiteral j t r u e a b = by_malformed j t r u e a b

pub unique_tokens : TokensAreUnique
unique_tokens t k j r u a b = by_class k j t r u (sym (token_class k t r a) ∙ token_class j t u b) a b
