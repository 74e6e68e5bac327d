-- Tokens that more text changes, and those that stay.
use Rattle.std.proofs.Common.{◌≡◌, ◌⊎◌, inl, inr, ℕ, Bool, true, false, not, ◌&&◌, List, [], ◌∷◌, ◌++◌, refl, sym, ap, subst, ◌∙◌, append_assoc}
use Rattle.std.specs.Prelude.{codes, ◌==◌, if◌then◌else◌}
use Rattle.std.proofs.lemmas.Bool.{and_parts, and_from, and_right, eqb-true, true≢false, false≢true}
use Rattle.std.proofs.lemmas.List.{append_cancel_right}
use Rattle.litrs_base.specs.Text.{IsText, first_passes, is_empty, is_text}
use Rattle.litrs_grammar.specs.Bool.{is_bool}
use Rattle.litrs_grammar.specs.Literal.{Derivation, IsLiteral}
use Rattle.litrs_grammar.specs.Suffix.{starts_identifier}
use Rattle.litrs_grammar.proofs.Laws.Literal.{is_text-is}
use Rattle.litrs_prefix.specs.MayChange.{malformed, IsMalformedFront, AnswerStays, AnswerChanges, is_open_front}
use Rattle.litrs_prefix.specs.Piece.{IsPiece}
use Rattle.litrs_prefix.specs.Opens.{first_run, first_name, after_name, is_single_quote, opens}
use Rattle.litrs_prefix.specs.Prefix.{is_quote_or_hash}
use Rattle.litrs_prefix.proofs.LongerTexts.{stays}
use Rattle.litrs_prefix.proofs.MayChange.{front_later, letter_follows_none, opens_unless_bool}
use Rattle.litrs_prefix.proofs.Names.{first_of_bool}
use Rattle.litrs_prefix.proofs.PieceEnds.{some_left, first_stays, rest_kept, name_kept, name_taken, x_begins}
use Rattle.litrs_lexer.specs.declared.kind.TokenKind.{TokenKind}
use Rattle.litrs_lexer.specs.declared.kind.TokenKind.TheVariants.{Whitespace, LineComment, BlockComment, UnterminatedBlockComment, Ident, RawIdent, UnknownPrefix, Lifetime, RawLifetime, UnknownPrefixLifetime, Literal, MalformedLiteral, Punctuation, Unknown}
use Rattle.litrs_lexer.specs.Comment.{IsBody, is_of_line, is_star_or_slash, starts_with_mark, after_line}
use Rattle.litrs_lexer.specs.Comment.IsBody.{closed, comment, character}
use Rattle.litrs_lexer.specs.Identifier.{begins_name, begins_raw_name}
use Rattle.litrs_lexer.specs.Laws.{SettledTokensStay}
use Rattle.litrs_lexer.specs.Lifetime.{is_hash}
use Rattle.litrs_lexer.specs.Literal.{opens_quoted}
use Rattle.litrs_lexer.specs.MayChange.{TokenStays, TokenChanges, is_malformed, is_open}
use Rattle.litrs_lexer.specs.Token.{IsToken}
use Rattle.litrs_lexer.specs.Whitespace.{is_white_space, after_while, after_white_space}
use Rattle.litrs_lexer.proofs.Unique.{unique_tokens, token_class, class_of}

-- it is enough that one token stays, or that it does not
stays_one : (kind : TokenKind) (t rest : List ℕ) → IsToken kind t rest → ((m : List ℕ) → IsText m → IsToken kind (t ++ m) (rest ++ m)) → TokenStays t
stays_one kind t rest at longer k r m text is =
    let same = unique_tokens t kind k rest r at is in
    subst (λ (j : TokenKind). IsToken j (t ++ m) (r ++ m)) same.0 (subst (λ (l : List ℕ). IsToken kind (t ++ m) (l ++ m)) same.1 (longer m text))

changes_one : (kind : TokenKind) (t rest m : List ℕ) → IsToken kind t rest → IsText m → (IsToken kind (t ++ m) (rest ++ m) → ⊥) → TokenChanges t
changes_one kind t rest m at text never = (
  m,
  text,
  λ k r is longer.
      let same = unique_tokens t k kind r rest is at in
      never (subst (λ (j : TokenKind). IsToken j (t ++ m) (rest ++ m)) same.0 (subst (λ (l : List ℕ). IsToken k (t ++ m) (l ++ m)) same.1 longer)),
)

some_rest : (rest u : List ℕ) → rest ≡ u → is_empty rest ≡ false → is_empty u ≡ false
some_rest rest u same some = ap is_empty (sym same) ∙ some

-- white space, and lines

while_kept : (p : ℕ → Bool) (t m : List ℕ) → is_empty (after_while p t) ≡ false → after_while p (t ++ m) ≡ after_while p t ++ m
while_kept p [] m h = absurd (true≢false h)
while_kept p (c ∷ t) m h = go (p c) (while_kept p t m) h
  where
    go : (v : Bool) → (is_empty (after_while p t) ≡ false → after_while p (t ++ m) ≡ after_while p t ++ m) → is_empty (if v then after_while p t else (c ∷ t)) ≡ false →
        (if v then after_while p (t ++ m) else (c ∷ (t ++ m))) ≡ (if v then after_while p t else (c ∷ t)) ++ m
    go true rest h = rest h
    go false rest h = refl

while_to : (p : ℕ → Bool) (t m : List ℕ) → is_empty (after_while p t) ≡ true → after_while p (t ++ m) ≡ after_while p m
while_to p [] m h = refl
while_to p (c ∷ t) m h = go (p c) (while_to p t m) h
  where
    go : (v : Bool) → (is_empty (after_while p t) ≡ true → after_while p (t ++ m) ≡ after_while p m) → is_empty (if v then after_while p t else (c ∷ t)) ≡ true →
        (if v then after_while p (t ++ m) else (c ∷ (t ++ m))) ≡ after_while p m
    go true rest h = rest h
    go false rest h = absurd (false≢true h)

white_stays : (t rest m : List ℕ) → IsToken Whitespace t rest → is_empty rest ≡ false → IsToken Whitespace (t ++ m) (rest ++ m)
white_stays t rest m is some = (
  first_stays is_white_space t m (some_left is_white_space t is.0) ∙ is.0,
  ap (λ (l : List ℕ). l ++ m) is.1 ∙ sym (while_kept is_white_space t m (some_rest rest (after_white_space t) is.1 some)),
)

line_stays : (t rest m : List ℕ) → IsToken LineComment t rest → is_empty rest ≡ false → IsToken LineComment (t ++ m) (rest ++ m)
line_stays t rest m is some = (
  is.0 ++ m,
  ap (λ (l : List ℕ). l ++ m) is.1,
  ap (λ (l : List ℕ). l ++ m) is.2 ∙ sym (while_kept is_of_line is.0 m (some_rest rest (after_line is.0) is.2 some)),
)

-- block comments

body_some : {t rest : List ℕ} → IsBody t rest → is_empty t ≡ false
body_some (closed h) = refl
body_some (comment o a b) = refl
body_some (character plain b) = refl

mark_stays : (c : ℕ) (t m : List ℕ) → is_empty t ≡ false → starts_with_mark (c ∷ (t ++ m)) ≡ starts_with_mark (c ∷ t)
mark_stays c [] m h = absurd (true≢false h)
mark_stays c (d ∷ t) m h = refl

body_stays : (m : List ℕ) {t rest : List ℕ} → IsBody t rest → IsBody (t ++ m) (rest ++ m)
body_stays m (closed h) = closed h
body_stays m (comment o a b) = comment o (body_stays m a) (body_stays m b)
body_stays m (character {c} {t} plain b) = character (mark_stays c t m (body_some b) ∙ plain) (body_stays m b)

block_stays : (t rest m : List ℕ) → IsToken BlockComment t rest → IsToken BlockComment (t ++ m) (rest ++ m)
block_stays t rest m is = (is.0 ++ m, ap (λ (l : List ℕ). l ++ m) is.1, body_stays m is.2)

-- names

begins_stays : (t m : List ℕ) → begins_name t ≡ true → begins_name (t ++ m) ≡ true
begins_stays t m h = first_stays starts_identifier t m (some_left starts_identifier t h) ∙ h

after_stays : (t rest m : List ℕ) → rest ≡ after_name t → is_empty rest ≡ false → rest ++ m ≡ after_name (t ++ m)
after_stays t rest m same some = ap (λ (l : List ℕ). l ++ m) same ∙ sym (rest_kept t m (some_rest rest (after_name t) same some))

ident_stays : (t rest m : List ℕ) → IsToken Ident t rest → is_empty rest ≡ false → IsToken Ident (t ++ m) (rest ++ m)
ident_stays t rest m is some = (
  begins_stays t m is.0,
  ap is_bool (name_kept t m (some_rest rest (after_name t) is.2 some)) ∙ is.1,
  after_stays t rest m is.2 some,
  first_stays is_quote_or_hash rest m some ∙ is.3,
)

raw_ident_stays : (t rest m : List ℕ) → IsToken RawIdent t rest → is_empty rest ≡ false → IsToken RawIdent (t ++ m) (rest ++ m)
raw_ident_stays t rest m is some = (is.0 ++ m, ap (λ (l : List ℕ). l ++ m) is.1, begins_stays is.0 m is.2, after_stays is.0 rest m is.3 some)

lifetime_stays : (t rest m : List ℕ) → IsToken Lifetime t rest → is_empty rest ≡ false → IsToken Lifetime (t ++ m) (rest ++ m)
lifetime_stays t rest m is some = (
  is.0 ++ m,
  ap (λ (l : List ℕ). l ++ m) is.1,
  begins_stays is.0 m is.2,
  after_stays is.0 rest m is.3 some,
  first_stays is_single_quote rest m some ∙ is.4,
  first_stays is_hash rest m some ∙ is.5,
)

raw_lifetime_stays : (t rest m : List ℕ) → IsToken RawLifetime t rest → is_empty rest ≡ false → IsToken RawLifetime (t ++ m) (rest ++ m)
raw_lifetime_stays t rest m is some = (is.0 ++ m, ap (λ (l : List ℕ). l ++ m) is.1, begins_stays is.0 m is.2, after_stays is.0 rest m is.3 some)

-- `r#` with more is a raw name
raw_name_stays : (name m : List ℕ) → begins_raw_name name ≡ false → is_text (codes "r#") name ≡ false → begins_name name ≡ true → is_empty (after_name name) ≡ false →
    begins_raw_name (name ++ m) ≡ false
raw_name_stays [] m h other begins some = absurd (false≢true begins)
raw_name_stays (c ∷ []) m h other begins some = absurd (true≢false (sym (whole (starts_identifier c) begins) ∙ some))
  where
    whole : (v : Bool) → v ≡ true → is_empty (if v then [] else (c ∷ [])) ≡ true
    whole true e = refl
    whole false e = absurd (false≢true e)
raw_name_stays (c ∷ d ∷ []) m h other begins some = go (c == 114) (d == 35) refl refl
  where
    go : (v w : Bool) → (c == 114) ≡ v → (d == 35) ≡ w → (v && w && begins_name m) ≡ false
    go true true e f =
        absurd (true≢false (ap (is_text (codes "r#")) (λ i. sym (eqb-true c 114 e) i ∷ sym (eqb-true d 35 f) i ∷ []) ∙ other))
    go true false e f = refl
    go false w e f = refl
raw_name_stays (c ∷ d ∷ e ∷ name) m h other begins some = h

prefix_of_name : (c : ℕ) (t : List ℕ) → begins_name (c ∷ t) ≡ true → is_open_front (c ∷ t) ≡ false → is_text (codes "r#") (c ∷ t) ≡ false
prefix_of_name c t begins front = go (is_text (codes "r#") (c ∷ t)) refl
  where
    go : (v : Bool) → is_text (codes "r#") (c ∷ t) ≡ v → v ≡ false
    go true e = absurd (true≢false (ap is_open_front (is_text-is (codes "r#") (c ∷ t) e) ∙ front))
    go false e = refl

not_open : (t m : List ℕ) → opens t ≡ false → is_open_front t ≡ false → is_empty (after_name t) ≡ false → opens (t ++ m) ≡ false
not_open [] m h front some = absurd (true≢false some)
not_open (c ∷ t) m h front some = opens_unless_bool c t m h front (λ bool. ap is_bool (sym (name_kept (c ∷ t) m some)) ∙ bool)

unquoted_stays : (t m : List ℕ) → opens_quoted t ≡ false → is_open_front t ≡ false → is_empty (after_name t) ≡ false → opens_quoted (t ++ m) ≡ false
unquoted_stays t m h front some = go (is_bool (first_name t)) (opens t) refl refl h
  where
    kept : is_bool (first_name (t ++ m)) ≡ is_bool (first_name t)
    kept = ap is_bool (name_kept t m some)

    go : (v w : Bool) → is_bool (first_name t) ≡ v → opens t ≡ w → (w && not v) ≡ false → opens_quoted (t ++ m) ≡ false
    go true w e f h = and_right (opens (t ++ m)) _ (ap not (kept ∙ e))
    go false true e f h = absurd (true≢false h)
    go false false e f h = ap (λ (v : Bool). v && not (is_bool (first_name (t ++ m)))) (not_open t m f front some)

prefix_stays : (t rest m : List ℕ) → IsToken UnknownPrefix t rest → is_open_front t ≡ false → IsToken UnknownPrefix (t ++ m) (rest ++ m)
prefix_stays [] rest m is front = absurd (false≢true is.0)
prefix_stays (c ∷ t) rest m is front =
    let some = some_left is_quote_or_hash rest is.2 in
    let left = some_rest rest (after_name (c ∷ t)) is.1 some in (
      begins_stays (c ∷ t) m is.0,
      after_stays (c ∷ t) rest m is.1 some,
      first_stays is_quote_or_hash rest m some ∙ is.2,
      unquoted_stays (c ∷ t) m is.3 front left,
      raw_name_stays (c ∷ t) m is.4 (prefix_of_name c t is.0 front) is.0 left,
    )

lifetime_prefix_stays : (t rest m : List ℕ) → IsToken UnknownPrefixLifetime t rest → is_text (codes "'r#") t ≡ false → IsToken UnknownPrefixLifetime (t ++ m) (rest ++ m)
lifetime_prefix_stays t rest m is other =
    let some = some_left is_hash rest is.4 in (
      is.0 ++ m,
      ap (λ (l : List ℕ). l ++ m) is.1,
      begins_stays is.0 m is.2,
      after_stays is.0 rest m is.3 some,
      first_stays is_hash rest m some ∙ is.4,
      raw_name_stays is.0 m is.5 (ap (is_text (codes "'r#")) (sym is.1) ∙ other) is.2 (some_rest rest (after_name is.0) is.3 some),
    )

-- literals

literal_token_stays : (t rest m : List ℕ) → IsToken Literal t rest → is_empty rest ≡ false → IsToken Literal (t ++ m) (rest ++ m)
literal_token_stays t [] m is some = absurd (true≢false some)
literal_token_stays t (c ∷ rest) m is some = (is.0, stays t is.0 c rest m is.1)

-- a bool does not begin there
no_bool_open : (t m : List ℕ) → opens_quoted t ≡ true → is_bool (first_name (t ++ m)) ≡ false
no_bool_open [] m h = absurd (false≢true h)
no_bool_open (c ∷ t) m h = go (is_bool (first_name (c ∷ (t ++ m)))) refl
  where
    both : (a : Bool) → (a && not a) ≡ true → ⊥
    both true e = false≢true e
    both false e = false≢true e

    at : (c ≡ 116) ⊎ (c ≡ 102) → ⊥
    at (inl is) = both (is_bool (first_name (116 ∷ t))) (subst (λ (n : ℕ). opens_quoted (n ∷ t) ≡ true) is h)
    at (inr is) = both (is_bool (first_name (102 ∷ t))) (subst (λ (n : ℕ). opens_quoted (n ∷ t) ≡ true) is h)

    go : (v : Bool) → is_bool (first_name (c ∷ (t ++ m))) ≡ v → v ≡ false
    go true e = absurd (at (first_of_bool (starts_identifier c) c (first_run (t ++ m)) e))
    go false e = refl

malformed_answer : (t rest front : List ℕ) → opens_quoted t ≡ true → (is : IsToken MalformedLiteral t rest) → front ≡ is.2.0 → IsMalformedFront t front
malformed_answer t rest front opens_at is same = record {
  rest = rest;
  spells = ap (λ (l : List ℕ). l ++ rest) same ∙ is.2.1;
  opens = (and_parts (opens t) (not (is_bool (first_name t))) opens_at).0;
  none = is.1;
  is_piece = subst (λ (l : List ℕ). IsPiece t l) (sym same) is.2.2;
  invalid = subst (λ (l : List ℕ). (d : Derivation) → IsLiteral l d → ⊥) (sym same) is.2.3;
}

pub malformed_token_stays : (t rest : List ℕ) → IsToken MalformedLiteral t rest → AnswerStays t → TokenStays t
malformed_token_stays t rest is stay = stays_one MalformedLiteral t rest is go
  where
    go : (m : List ℕ) → IsText m → IsToken MalformedLiteral (t ++ m) (rest ++ m)
    go m text =
        let front = is.2.0 in
        let longer = stay (malformed front) m text (malformed_answer t rest front is.0 is refl) in (
          and_from (opens (t ++ m)) (not (is_bool (first_name (t ++ m)))) longer.opens (ap not (no_bool_open t m is.0)),
          longer.none,
          (front, sym (append_assoc front rest m) ∙ ap (λ (l : List ℕ). l ++ m) is.2.1, longer.is_piece, longer.invalid),
        )

pub malformed_token_changes : (t rest : List ℕ) → IsToken MalformedLiteral t rest → AnswerChanges t → TokenChanges t
malformed_token_changes t rest is change = changes_one MalformedLiteral t rest change.0 is change.1 never
  where
    never : IsToken MalformedLiteral (t ++ change.0) (rest ++ change.0) → ⊥
    never longer =
        let front = is.2.0 in
        let same : longer.2.0 ≡ front = append_cancel_right longer.2.0 front (rest ++ change.0)
        (longer.2.1 ∙ (ap (λ (l : List ℕ). l ++ change.0) (sym is.2.1) ∙ append_assoc front rest change.0)) in
        change.2 (malformed front) (malformed_answer t rest front is.0 is refl) (malformed_answer (t ++ change.0) (rest ++ change.0) front longer.0 longer (sym same))

-- one character

not_text : (w t : List ℕ) → is_text w w ≡ true → is_text w t ≡ false → t ≡ w → ⊥
not_text w t self other same = true≢false (sym self ∙ (ap (is_text w) (sym same) ∙ other))

punctuation_stays : (t rest m : List ℕ) → IsToken Punctuation t rest → is_text (codes "/") t ≡ false → IsToken Punctuation (t ++ m) (rest ++ m)
punctuation_stays t [] m is other = (is.0, ap (λ (l : List ℕ). l ++ m) is.1, is.2, go (is.0 == 47) refl)
  where
    go : (v : Bool) → (is.0 == 47) ≡ v → (v && first_passes is_star_or_slash m) ≡ false
    go true e = absurd (not_text (codes "/") t refl other (is.1 ∙ ap (λ (n : ℕ). n ∷ []) (eqb-true is.0 47 e)))
    go false e = refl
punctuation_stays t (c ∷ rest) m is other = (is.0, ap (λ (l : List ℕ). l ++ m) is.1, is.2, is.3)

unknown_stays : (t rest m : List ℕ) → IsToken Unknown t rest → IsToken Unknown (t ++ m) (rest ++ m)
unknown_stays t rest m is = (is.0, ap (λ (l : List ℕ). l ++ m) is.1, is.2)

pub open_stays : (kind : TokenKind) (t rest : List ℕ) → is_malformed kind ≡ false → IsToken kind t rest → is_open kind t rest ≡ false → TokenStays t
open_stays Whitespace t rest k is some = stays_one Whitespace t rest is (λ m text. white_stays t rest m is some)
open_stays LineComment t rest k is some = stays_one LineComment t rest is (λ m text. line_stays t rest m is some)
open_stays BlockComment t rest k is some = stays_one BlockComment t rest is (λ m text. block_stays t rest m is)
open_stays UnterminatedBlockComment t rest k is some = absurd (true≢false (sym (ap is_empty is.3) ∙ some))
open_stays Ident t rest k is some = stays_one Ident t rest is (λ m text. ident_stays t rest m is some)
open_stays RawIdent t rest k is some = stays_one RawIdent t rest is (λ m text. raw_ident_stays t rest m is some)
open_stays UnknownPrefix t rest k is other = stays_one UnknownPrefix t rest is (λ m text. prefix_stays t rest m is other)
open_stays Lifetime t rest k is some = stays_one Lifetime t rest is (λ m text. lifetime_stays t rest m is some)
open_stays RawLifetime t rest k is some = stays_one RawLifetime t rest is (λ m text. raw_lifetime_stays t rest m is some)
open_stays UnknownPrefixLifetime t rest k is other = stays_one UnknownPrefixLifetime t rest is (λ m text. lifetime_prefix_stays t rest m is other)
open_stays Literal t rest k is some = stays_one Literal t rest is (λ m text. literal_token_stays t rest m is some)
open_stays MalformedLiteral t rest k is some = absurd (true≢false k)
open_stays Punctuation t rest k is other = stays_one Punctuation t rest is (λ m text. punctuation_stays t rest m is other)
open_stays Unknown t rest k is some = stays_one Unknown t rest is (λ m text. unknown_stays t rest m is)

-- changes of tokens

abbrev x : List ℕ
x = 120 ∷ []

one_left : (c : ℕ) (rest u : List ℕ) → is_empty rest ≡ true → rest ++ c ∷ [] ≡ u → u ≡ [] → ⊥
one_left c [] u h same none = true≢false (sym (ap is_empty none) ∙ ap is_empty (sym same))
one_left c (d ∷ rest) u h same none = false≢true h

-- the name takes the letter
name_changes : (t rest u : List ℕ) → is_empty rest ≡ true → rest ≡ after_name t → rest ++ x ≡ after_name u → u ≡ t ++ x → ⊥
name_changes t rest u end same longer is = one_left 120 rest (after_name u) end longer (ap after_name is ∙ name_taken t (ap is_empty (sym same) ∙ end))

white_changes : (t rest : List ℕ) → IsToken Whitespace t rest → is_empty rest ≡ true → IsToken Whitespace (t ++ 32 ∷ []) (rest ++ 32 ∷ []) → ⊥
white_changes t rest is end longer =
    one_left 32 rest _ end longer.1 (while_to is_white_space t (32 ∷ []) (ap is_empty (sym is.1) ∙ end))

drop_two : (a b : ℕ) (s t u : List ℕ) → t ≡ a ∷ b ∷ s → t ++ x ≡ a ∷ b ∷ u → u ≡ s ++ x
drop_two a b s t u is longer = let same : a ∷ b ∷ (s ++ x) ≡ a ∷ b ∷ u = ap (λ (l : List ℕ). l ++ x) (sym is) ∙ longer in cc

line_changes : (t rest : List ℕ) → IsToken LineComment t rest → is_empty rest ≡ true → IsToken LineComment (t ++ x) (rest ++ x) → ⊥
line_changes t rest is end longer =
    one_left 120 rest _ end longer.2
    (ap after_line (drop_two 47 47 is.0 t longer.0 is.1 longer.1) ∙ while_to is_of_line is.0 x (ap is_empty (sym is.2) ∙ end))

raw_ident_changes : (t rest : List ℕ) → IsToken RawIdent t rest → is_empty rest ≡ true → IsToken RawIdent (t ++ x) (rest ++ x) → ⊥
raw_ident_changes t rest is end longer = name_changes is.0 rest longer.0 end is.3 longer.3 (drop_two 114 35 is.0 t longer.0 is.1 longer.1)

drop_one : (a : ℕ) (s t u : List ℕ) → t ≡ a ∷ s → t ++ x ≡ a ∷ u → u ≡ s ++ x
drop_one a s t u is longer = let same : a ∷ (s ++ x) ≡ a ∷ u = ap (λ (l : List ℕ). l ++ x) (sym is) ∙ longer in cc

lifetime_changes : (t rest : List ℕ) → IsToken Lifetime t rest → is_empty rest ≡ true → IsToken Lifetime (t ++ x) (rest ++ x) → ⊥
lifetime_changes t rest is end longer = name_changes is.0 rest longer.0 end is.3 longer.3 (drop_one 39 is.0 t longer.0 is.1 longer.1)

drop_three : (a b c : ℕ) (s t u : List ℕ) → t ≡ a ∷ b ∷ c ∷ s → t ++ x ≡ a ∷ b ∷ c ∷ u → u ≡ s ++ x
drop_three a b c s t u is longer = let same : a ∷ b ∷ c ∷ (s ++ x) ≡ a ∷ b ∷ c ∷ u = ap (λ (l : List ℕ). l ++ x) (sym is) ∙ longer in cc

raw_lifetime_changes : (t rest : List ℕ) → IsToken RawLifetime t rest → is_empty rest ≡ true → IsToken RawLifetime (t ++ x) (rest ++ x) → ⊥
raw_lifetime_changes t rest is end longer = name_changes is.0 rest longer.0 end is.3 longer.3 (drop_three 39 114 35 is.0 t longer.0 is.1 longer.1)

lifetime_prefix_changes : (t rest : List ℕ) → is_text (codes "'r#") t ≡ true → IsToken UnknownPrefixLifetime (t ++ x) (rest ++ x) → ⊥
lifetime_prefix_changes t rest is longer =
    let same : longer.0 ≡ 114 ∷ 35 ∷ 120 ∷ [] = drop_one 39 (114 ∷ 35 ∷ []) t longer.0 (sym (is_text-is (codes "'r#") t is)) longer.1 in
    true≢false (sym x_begins ∙ (ap begins_raw_name (sym same) ∙ longer.5))

literal_token_changes : (t rest : List ℕ) → is_empty rest ≡ true → IsToken Literal (t ++ x) (rest ++ x) → ⊥
literal_token_changes t [] end longer = true≢false (sym longer.1.follows ∙ letter_follows_none longer.0)
literal_token_changes t (c ∷ rest) end longer = false≢true end

punctuation_changes : (t rest : List ℕ) → is_text (codes "/") t ≡ true → IsToken Punctuation t rest → IsToken Punctuation (t ++ 47 ∷ []) (rest ++ 47 ∷ []) → ⊥
punctuation_changes t rest slash is longer =
    let same : 47 ∷ [] ≡ t = is_text-is (codes "/") t slash in
    let whole : 47 ∷ 47 ∷ [] ≡ longer.0 ∷ (rest ++ 47 ∷ []) = ap (λ (l : List ℕ). l ++ 47 ∷ []) same ∙ longer.1 in
    let first : longer.0 ≡ 47 = cc in
    let left : rest ++ 47 ∷ [] ≡ 47 ∷ [] = cc in
    true≢false (ap (λ (n : ℕ). (n == 47) && true) (sym first) ∙ (ap (λ (l : List ℕ). (longer.0 == 47) && first_passes is_star_or_slash l) (sym left) ∙ longer.3))

front_no_bool : (c : ℕ) (t : List ℕ) → is_open_front (c ∷ t) ≡ true → (c ≡ 116) ⊎ (c ≡ 102) → ⊥
front_no_bool c t h (inl is) = false≢true (subst (λ (n : ℕ). is_open_front (n ∷ t) ≡ true) is h)
front_no_bool c t h (inr is) = false≢true (subst (λ (n : ℕ). is_open_front (n ∷ t) ≡ true) is h)

prefix_changes : (t rest m : List ℕ) → is_open_front t ≡ true → opens (t ++ m) ≡ true → IsToken UnknownPrefix (t ++ m) (rest ++ m) → ⊥
prefix_changes [] rest m front open_at longer = false≢true front
prefix_changes (c ∷ t) rest m front open_at longer = go (is_bool (first_name (c ∷ (t ++ m)))) refl
  where
    go : (v : Bool) → is_bool (first_name (c ∷ (t ++ m))) ≡ v → ⊥
    go true e = front_no_bool c t front (first_of_bool (starts_identifier c) c (first_run (t ++ m)) e)
    go false e = true≢false (sym (and_from (opens (c ∷ (t ++ m))) _ open_at (ap not e)) ∙ longer.3)

pub open_changes : (kind : TokenKind) (t rest : List ℕ) → is_malformed kind ≡ false → IsToken kind t rest → is_open kind t rest ≡ true → TokenChanges t
open_changes Whitespace t rest k is end = changes_one Whitespace t rest (32 ∷ []) is refl (white_changes t rest is end)
open_changes LineComment t rest k is end = changes_one LineComment t rest x is refl (line_changes t rest is end)
open_changes BlockComment t rest k is end = absurd (false≢true end)
open_changes UnterminatedBlockComment t rest k is end = changes_one UnterminatedBlockComment t rest x is refl (λ longer. one_left 120 rest (rest ++ x) end refl longer.3)
open_changes Ident t rest k is end = changes_one Ident t rest x is refl (λ longer. name_changes t rest (t ++ x) end is.2 longer.2 refl)
open_changes RawIdent t rest k is end = changes_one RawIdent t rest x is refl (raw_ident_changes t rest is end)
open_changes UnknownPrefix t rest k is front =
    let later = front_later t front in
    changes_one UnknownPrefix t rest later.0 is later.1 (prefix_changes t rest later.0 front later.2)
open_changes Lifetime t rest k is end = changes_one Lifetime t rest x is refl (lifetime_changes t rest is end)
open_changes RawLifetime t rest k is end = changes_one RawLifetime t rest x is refl (raw_lifetime_changes t rest is end)
open_changes UnknownPrefixLifetime t rest k is front = changes_one UnknownPrefixLifetime t rest x is refl (lifetime_prefix_changes t rest front)
open_changes Literal t rest k is end = changes_one Literal t rest x is refl (literal_token_changes t rest end)
open_changes MalformedLiteral t rest k is end = absurd (true≢false k)
open_changes Punctuation t rest k is slash = changes_one Punctuation t rest (47 ∷ []) is refl (punctuation_changes t rest slash is)
open_changes Unknown t rest k is end = absurd (false≢true end)

pub malformed_kind : (kind : TokenKind) → is_malformed kind ≡ true → kind ≡ MalformedLiteral
malformed_kind Whitespace h = absurd (false≢true h)
malformed_kind LineComment h = absurd (false≢true h)
malformed_kind BlockComment h = absurd (false≢true h)
malformed_kind UnterminatedBlockComment h = absurd (false≢true h)
malformed_kind Ident h = absurd (false≢true h)
malformed_kind RawIdent h = absurd (false≢true h)
malformed_kind UnknownPrefix h = absurd (false≢true h)
malformed_kind Lifetime h = absurd (false≢true h)
malformed_kind RawLifetime h = absurd (false≢true h)
malformed_kind UnknownPrefixLifetime h = absurd (false≢true h)
malformed_kind Literal h = absurd (false≢true h)
malformed_kind MalformedLiteral h = refl
malformed_kind Punctuation h = absurd (false≢true h)
malformed_kind Unknown h = absurd (false≢true h)

some_class : (kind : TokenKind) → (class_of kind == 0) ≡ false
some_class Whitespace = refl
some_class LineComment = refl
some_class BlockComment = refl
some_class UnterminatedBlockComment = refl
some_class Ident = refl
some_class RawIdent = refl
some_class UnknownPrefix = refl
some_class Lifetime = refl
some_class RawLifetime = refl
some_class UnknownPrefixLifetime = refl
some_class Literal = refl
some_class MalformedLiteral = refl
some_class Punctuation = refl
some_class Unknown = refl

-- the empty text has none
pub empty_changes : (t : List ℕ) → t ≡ [] → TokenChanges t
empty_changes t none = (x, refl, λ kind rest is longer. true≢false (ap (λ (n : ℕ). n == 0) (token_class kind [] rest (subst (λ (l : List ℕ). IsToken kind l rest) none is)) ∙ some_class kind))

-- tokens, one after the other
pub settled_stay : SettledTokensStay
settled_stay t rest m [] text is = ap (λ (l : List ℕ). l ++ m) is
settled_stay t rest m (cut ∷ cuts) text is = (
  is.0 ++ m,
  sym (append_assoc cut.text is.0 m) ∙ ap (λ (l : List ℕ). l ++ m) is.1,
  is.3 cut.kind is.0 m text is.2,
  settled_stay is.0 rest m cuts text is.4,
)
