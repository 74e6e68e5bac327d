-- Tokens at the front of a text, in its bytes and in its characters.
use Rattle.std.proofs.Common.{◌≡◌, ℕ, zero, suc, ◌-◌, ◌<◌, ◌≤◌, Bool, true, false, not, List, [], ◌∷◌, ◌++◌, length, take, drop, refl, sym, ap, subst, ◌∙◌, length-drop, arith}
use Rattle.std.specs.Prelude.{if◌then◌else◌, ◌==◌, ◌&&◌, ◌||◌}
use Rattle.std.specs.Str.{chars, IsUtf8, IsCharBoundary}
use Rattle.std.proofs.lemmas.Bool.{and_parts, and_from, and_left, and_right, or_parts, eqb-true, ne_eqb, true≢false, false≢true, false_from_ne_true}
use Rattle.std.proofs.lemmas.Bool.Decides.{nat_tests}
use Rattle.unicode_ident.proofs.IdentLemmas.{is_xid_start-ascii}
use Rattle.std.proofs.lemmas.Str.{IsCharBoundary-start}
use Rattle.std.proofs.lemmas.List.{append_cancel_right}
use Rattle.unicode_ident.specs.Ident.{is_xid_continue}
use Rattle.litrs_base.specs.Text.{first_passes}
use Rattle.litrs_base.proofs.ListTests.{if_true}
use Rattle.litrs_grammar.specs.Suffix.{starts_identifier}
use Rattle.litrs_grammar.specs.Bool.{bool_text, is_bool}
use Rattle.litrs_grammar.proofs.Laws.Literal.{some_bool}
use Rattle.litrs_grammar.specs.Literal.{Derivation, a_bool, IsLiteral}
use Rattle.litrs_prefix.specs.Ends.{IsEndOf}
use Rattle.litrs_prefix.specs.Piece.{IsPiece}
use Rattle.litrs_prefix.specs.Opens.{is_single_quote, after_run, first_run, first_name, after_name, opens}
use Rattle.litrs_prefix.specs.Prefix.{HasPrefix, HasNoPrefix, is_quote_or_hash, ends_bool}
use Rattle.litrs_prefix.proofs.Ends.{end_at, all, after_first, after_bytes, end_of_end, not_longer, shorter}
use Rattle.litrs_prefix.proofs.Names.{name_and_rest}
use Rattle.litrs_prefix.proofs.Pieces.{no_empty_piece, parts_spell}
use Rattle.litrs_lexer.specs.declared.kind.TokenKind.{TokenKind}
use Rattle.litrs_lexer.specs.declared.kind.TokenKind.TheVariants.{Literal, MalformedLiteral}
use Rattle.litrs_lexer.specs.Cut.{begins_bool, begins_prefix, IsCut, IsFirstChar}
use Rattle.litrs_lexer.specs.Identifier.{begins_name, begins_raw_name}
use Rattle.litrs_lexer.specs.Literal.{opens_quoted}
use Rattle.litrs_lexer.specs.Punctuation.{is_punctuation, is_unknown}
use Rattle.litrs_lexer.specs.Token.{IsToken}
use Rattle.litrs_lexer.specs.Tokens.{IsLiteralBy}
use Rattle.litrs_lexer.proofs.Classes.{digit_starts_none, quote_starts_none, single_starts_none}
use Rattle.litrs_lexer.specs.Whitespace.{is_white_space}
use Rattle.std.specs.Char.{is_ascii_digit, is_ascii_alphabetic}

pub after_char : (text after : List ℕ) (c : ℕ) → IsFirstChar text c after → IsEndOf text after
after_char text after c first = after_first text text after c (all text) first.bytes

-- a token that ends after the first character
pub cut_after : (kind : TokenKind) (text after rest : List ℕ) (c : ℕ) → IsFirstChar text c after → IsEndOf after rest → IsToken kind (chars text) (chars rest) → IsCut text kind rest
cut_after kind text after rest c first end is =
    let a : length after < length text = shorter text c after first.bytes in
    let b : length rest ≤ length after = not_longer after rest end in
    record { is = is; end = end_of_end text after rest (after_char text after c first) end; shorter = omega arith }

-- a literal opens
pub opened_parts : (t : List ℕ) → opens_quoted t ≡ true → opens t ≡ true
opened_parts t h = (and_parts (opens t) (not (is_bool (first_name t))) h).0

-- a text that is cut after some bytes
pub cut_at : (kind : TokenKind) (text rest : List ℕ) (n : ℕ) → 0 < n → IsCharBoundary text n → rest ≡ drop n text → IsToken kind (chars text) (chars rest) → IsCut text kind rest
cut_at kind text rest n some at back is =
    let size : length rest ≡ length text - n = ap length back ∙ length-drop n text in
    let within : n ≤ length text = at.0 in
    record { is = is; end = after_bytes text rest n back; shorter = omega arith }

-- a literal is not empty
pub literal_some : (text : List ℕ) (n : ℕ) (d : Derivation) → IsUtf8 text → IsCharBoundary text n → HasPrefix (chars text) d (chars (drop n text)) → 0 < n
literal_some text zero d u at h = absurd (no_empty_piece text d (chars text) h (IsCharBoundary-start text u, refl))
literal_some text (suc n) d u at h = omega arith

pub piece_token : (text rest : List ℕ) (n : ℕ) → IsUtf8 text → IsCharBoundary text n → rest ≡ drop n text → opens_quoted (chars text) ≡ true → HasNoPrefix (chars text) →
    IsPiece (chars text) (chars (take n text)) → ((d : Derivation) → IsLiteral (chars (take n text)) d → ⊥) → IsToken MalformedLiteral (chars text) (chars rest)
piece_token text rest n u at back opens none is_piece refused =
    (opens, none, (chars (take n text), parts_spell text (take n text) rest n u at refl back, is_piece, refused))

-- a bool is the whole name at the front
bool_token : (t rest name : List ℕ) (b : Bool) → name ≡ first_name t → name ≡ bool_text b → rest ≡ after_name t → ends_bool rest ≡ true → IsToken Literal t rest
bool_token t rest name b named is after ends = (
  a_bool b,
  record {
    front = name;
    spells = ap (λ (l : List ℕ). name ++ l) after ∙ (ap (λ (l : List ℕ). l ++ after_name t) named ∙ name_and_rest t);
    literal = sym is;
    follows = ends;
  },
)

pub bool_token_of : (t rest : List ℕ) → is_bool (first_name t) ≡ true → rest ≡ after_name t → ends_bool rest ≡ true → IsToken Literal t rest
bool_token_of t rest h after ends =
    let b = some_bool (first_name t) h in
    bool_token t rest (first_name t) b.0 refl (sym b.1) after ends

-- the text after a name
pub name_rest : (c : ℕ) (t after rest : List ℕ) → t ≡ c ∷ after → starts_identifier c ≡ true → rest ≡ after_run after → rest ≡ after_name t
name_rest c t after rest is name run = run ∙ sym (ap after_name is ∙ if_true (starts_identifier c) (after_run after) (c ∷ after) name)

run_stops : (t : List ℕ) → first_passes is_xid_continue (after_run t) ≡ false
run_stops [] = refl
run_stops (c ∷ t) = go (is_xid_continue c) refl (run_stops t)
  where
    go : (b : Bool) → is_xid_continue c ≡ b → first_passes is_xid_continue (after_run t) ≡ false → first_passes is_xid_continue (if b then after_run t else (c ∷ t)) ≡ false
    go true e rec = rec
    go false e rec = e

pub bool_ends : (after rest : List ℕ) → rest ≡ after_run after → first_passes is_quote_or_hash rest ≡ false → ends_bool rest ≡ true
bool_ends after rest is none = rw (ap (first_passes is_xid_continue) is ∙ run_stops after) (rw none refl)

-- a character that no test passes
pub unknown : (c : ℕ) → is_white_space c ≡ false → starts_identifier c ≡ false → is_ascii_digit c ≡ false → (c == 34) ≡ false → (c == 39) ≡ false → is_punctuation c ≡ false → is_unknown c ≡ true
unknown c a b d e f g = rw a (rw b (rw d (rw e (rw f (rw g refl)))))

-- the text of a token is a literal by its kind
pub literal_by : (kind : TokenKind) (t text rest : List ℕ) → text ++ rest ≡ t → IsToken kind t rest → IsLiteralBy kind text
literal_by Literal t text rest spells h =
    let same : h.1.front ≡ text = append_cancel_right h.1.front text rest (h.1.spells ∙ sym spells) in
    (h.0, subst (λ (l : List ℕ). IsLiteral l h.0) same h.1.literal)
literal_by MalformedLiteral t text rest spells h =
    let m = h.2 in
    let same : m.0 ≡ text = append_cancel_right m.0 text rest (m.1 ∙ sym spells) in
    λ d is. m.3 d (subst (λ (l : List ℕ). IsLiteral l d) (sym same) is)
literal_by kind t text rest spells h = tt

-- the two parts of a text, in characters
pub parts : (bs text rest : List ℕ) (n : ℕ) → IsUtf8 rest → IsEndOf bs rest → n ≡ length bs - length rest → text ≡ take n bs → IsUtf8 bs → chars text ++ chars rest ≡ chars bs
parts bs text rest n u end is front whole =
    let place = end_at bs end.0 rest u end.1 in
    parts_spell bs text rest n whole (subst (IsCharBoundary bs) (sym is) place.0) front (sym (ap (λ (k : ℕ). drop k bs) is ∙ place.1))

swap : (a b : Bool) → (a || b) ≡ true → (b || a) ≡ true
swap true true h = refl
swap true false h = refl
swap false b h = rw h refl

-- an ASCII letter or `_` begins a name
pub ascii_name : (c : ℕ) → (is_ascii_alphabetic c || (c == 95)) ≡ true → starts_identifier c ≡ true
ascii_name c h =
    let low : c < 128 = grind (arith, nat_tests) in
    ap (λ (v : Bool). (c == 95) || v) (is_xid_start-ascii c low) ∙ swap (is_ascii_alphabetic c) (c == 95) h

-- a digit opens a literal that is not a bool
pub digit_opens : (c : ℕ) (t : List ℕ) → is_ascii_digit c ≡ true → opens_quoted (c ∷ t) ≡ true
digit_opens c t h =
    and_from (opens (c ∷ t)) (not (is_bool (first_name (c ∷ t)))) (rw h refl) (rw (digit_starts_none c h) refl)

-- a name that is a bool begins with `t` or `f`
no_bool_of : (c : ℕ) (t : List ℕ) → begins_bool c ≡ false → is_bool (c ∷ t) ≡ false
no_bool_of c t h = grind (arith, nat_tests)

first_bool : (c : ℕ) (t : List ℕ) (b : Bool) → begins_bool c ≡ false → is_bool (if b then c ∷ first_run t else []) ≡ false
first_bool c t true h = no_bool_of c (first_run t) h
first_bool c t false h = refl

pub no_bool : (text : List ℕ) (c : ℕ) (after : List ℕ) → IsFirstChar text c after → begins_bool c ≡ false → is_bool (first_name (chars text)) ≡ false
no_bool text c after first h = ap (λ (l : List ℕ). is_bool (first_name l)) first.is ∙ first_bool c (chars after) (starts_identifier c) h

-- a byte opens a literal
pub byte_opens : (c : ℕ) (t : List ℕ) → ((c == 98) && first_passes is_single_quote t) ≡ true → opens_quoted (c ∷ t) ≡ true
byte_opens c [] h = absurd (false≢true (sym (and_right (c == 98) false refl) ∙ h))
byte_opens c (d ∷ t) h =
    let both = and_parts (c == 98) (is_single_quote d) h in
    let b : c ≡ 98 = eqb-true c 98 both.0 in
    let q : d ≡ 39 = eqb-true d 39 both.1 in
    subst (λ (k : ℕ). opens_quoted (k ∷ d ∷ t) ≡ true) (sym b)
    (subst (λ (k : ℕ). opens_quoted (98 ∷ k ∷ t) ≡ true) (sym q)
    (and_from (opens (98 ∷ 39 ∷ t)) (not (is_bool (first_name (98 ∷ 39 ∷ t)))) refl (ap not (first_bool 98 (39 ∷ t) (starts_identifier 98) refl))))

-- a name that begins with `b`, `c` or `r` is not a bool
pub prefix_opens : (c : ℕ) (t : List ℕ) → begins_prefix c ≡ true → opens_quoted (c ∷ t) ≡ opens (c ∷ t)
prefix_opens c t h =
    let other : begins_bool c ≡ false = grind (arith, nat_tests) in
    ap (λ (v : Bool). opens (c ∷ t) && not v) (first_bool c t (starts_identifier c) other) ∙ and_true (opens (c ∷ t))
  where
    and_true : (v : Bool) → (v && true) ≡ v
    and_true true = refl
    and_true false = refl

-- a name that begins with another letter does not begin a literal, except a bool
pub no_prefix_opens : (c : ℕ) (t : List ℕ) → starts_identifier c ≡ true → begins_prefix c ≡ false → opens_quoted (c ∷ t) ≡ false
no_prefix_opens c t name other =
    let digit : is_ascii_digit c ≡ false = false_from_ne_true (is_ascii_digit c) (λ e. true≢false (sym name ∙ digit_starts_none c e)) in
    let quote : (c == 34) ≡ false = ne_eqb c 34 (λ e. true≢false (sym name ∙ (ap starts_identifier e ∙ quote_starts_none))) in
    let single : (c == 39) ≡ false = ne_eqb c 39 (λ e. true≢false (sym name ∙ (ap starts_identifier e ∙ single_starts_none))) in
    let letters = or_parts ((c == 98) || (c == 99)) (c == 114) other in
    let more = or_parts (c == 98) (c == 99) letters.0 in
    last (is_ascii_digit c) (c == 34) (c == 39) (c == 114) (c == 98) (c == 99) _ _ _ _ (is_bool (first_name (c ∷ t))) digit quote single letters.1 more.0 more.1
  where
    last : (a b d e f g x y z w v : Bool) → a ≡ false → b ≡ false → d ≡ false → e ≡ false → f ≡ false → g ≡ false →
        ((a || b || (d && x) || (e && y) || (f && z) || (g && w) || v) && not v) ≡ false
    last a b d e f g x y z w true ha hb hd he hf hg = and_right _ false refl
    last a b d e f g x y z w false ha hb hd he hf hg = rw (ha, hb, hd, he, hf, hg) refl

-- a raw mark begins with `r`
pub no_raw_name : (c : ℕ) (t : List ℕ) → (c == 114) ≡ false → begins_raw_name (c ∷ t) ≡ false
no_raw_name c [] h = refl
no_raw_name c (d ∷ t) h = and_left ((c == 114) && (d == 35)) (begins_name t) (and_left (c == 114) (d == 35) h)
