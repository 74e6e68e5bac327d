-- Escapes: what their bytes say of the characters.
use Rattle.std.proofs.lemmas.List.{get_or-drop, length-drop}
use Rattle.std.proofs.Common.{◌≡◌, ℕ, suc, ◌+◌, ◌-◌, ◌<◌, ◌≤◌, Bool, true, false, not, ◌&&◌, ◌||◌, List, [], ◌∷◌, ◌++◌, length, drop, get_or, Some, None, refl, sym, ap, ◌∙◌, subst, arith, inl, inr, ◌^◌, cond, take, take-append-drop}
use Rattle.std.specs.Prelude.{◌==◌, Result, Ok, Err, IfErr, count_by, encode_utf8_all}
use Rattle.std.specs.Char.{IsScalar, is_ascii_hexdigit, digit_value}
use Rattle.std.specs.Str.{chars, IsUtf8, IsCharBoundary}
use Rattle.std.proofs.lemmas.Bool.{eq-eqb, not-false, and_from, ne_eqb, eqb-true, cases_lt, false≢true, or_left, and_parts, or_cases, true≢false, and_left, or_right, false_from_ne_true}
use Rattle.std.proofs.lemmas.Bool.Decides.{nat_tests}
use Rattle.std.proofs.lemmas.Str.{chars-nil, chars_from_encodes, encodes-chars, encodes-append, IsUtf8-drop, IsUtf8-take}
use Rattle.litrs_base.specs.declared.err.ParseError.{ParseError}
use Rattle.litrs_base.specs.declared.err.ParseErrorKind.TheVariants.{UnterminatedEscape, DisallowedNulEscape, UnicodeEscapeInByteLiteral, UnknownEscape, InvalidXEscape, NonAsciiXEscape}
use Rattle.litrs_base.specs.declared.escape.Unescape.{Unescape}
use Rattle.litrs_base.specs.declared.escape.Unescape.TheVariants.{Byte}
use Rattle.litrs_base.specs.Characters.{is_scalar}
use Rattle.litrs_base.specs.Refusal.{refusal_of, IsInText, HasCharSpan, at_byte, spanning}
use Rattle.litrs_base.specs.Text.{byte_len, first_passes, is_empty, begins_with}
use Rattle.litrs_base.proofs.Begins.{begins_with-split}
use Rattle.litrs_base.proofs.ByteLen.{byte_len_one_ascii, length-le-byte_len}
use Rattle.litrs_base.proofs.CharEnds.{char_span_points}
use Rattle.litrs_base.proofs.Chars.{chars_ascii, chars_wide, chars_empty, utf8_after_ascii, first_passes-chars, OnlyAscii}
use Rattle.litrs_base.proofs.ListTests.{if_true, if_false}
use Rattle.litrs_base.specs.declared.quotes.Switches.{Switches}
use Rattle.litrs_grammar.specs.Escape.{Escape, simple_escape, hex_escape, unicode_escape, is_escape, escape_text, escape_value, escape_refusal, is_simple, simple_value, allows_value, is_hex_or_underscore, hex_value, hex_refusal, pair_value, allows_byte, has_two_bytes}
use Rattle.litrs_grammar.specs.Laws.Escape.{BeginsWithEscape}
use Rattle.litrs_grammar.proofs.Laws.Escape.{same_escape, refusal_escape, by_simple, hexdigit_ascii, two_bytes}
use Rattle.litrs_grammar.proofs.Spans.Escape.{escape_spans_lie_in_text}
use Rattle.litrs_grammar.proofs.LongerTexts.Escape.{escape_final, escape_finality}
use Rattle.litrs_lex.specs.Unescaped.{switches, IsUnescaped, IsEscapeRefused, HasEscapeRefusal}
use Rattle.litrs_lex.proofs.CharCuts.{cut_at, byte_len-all}
use Rattle.litrs_lex.proofs.AsciiTests.{only_char}
use Rattle.std.proofs.Math.Nat.{pow-le-pow_right}
use Rattle.std.specs.List.{list_all}
use Rattle.std.proofs.lemmas.List.{take_more, drop-drop, length-take-le}
use Rattle.std.proofs.lemmas.List.Sums.{sum_by-cons, sum_by-append}
use Rattle.litrs_base.proofs.Runs.{list_all-append}
use Rattle.litrs_lex.proofs.NumeralLemmas.{numeral_underscore}

-- an escape at the front is the only one, and the text may be cut after it
pub unescaped : (w : Switches) (bytes : List ℕ) (e : Escape) (rest : List ℕ) (value : Unescape) (len : ℕ) → IsUtf8 bytes →
    chars bytes ≡ escape_text e ++ rest → is_escape w e ≡ true → escape_value e ≡ value → byte_len (escape_text e) ≡ len → IsUnescaped w bytes value len
unescaped w bytes e rest value len u spells grammar is_value size =
    let cut = cut_at bytes (escape_text e) rest u spells in record {
      escape = e;
      rest = rest;
      spells = sym spells;
      grammar = grammar;
      only = λ f r same is. (same_escape w f e r rest is grammar (same ∙ spells)).0;
      is_value = is_value;
      size = size;
      within = subst (λ (n : ℕ). n ≤ length bytes) size cut.within;
      boundary = subst (λ (n : ℕ). IsCharBoundary bytes n) size cut.boundary;
      after = subst (λ (n : ℕ). chars (drop n bytes) ≡ rest) size cut.rest;
      utf8 = subst (λ (n : ℕ). IsUtf8 (drop n bytes)) size cut.utf8;
    }

-- a row of the table refuses the text
no_escape_in_nothing : (w : Switches) → ¬ BeginsWithEscape w []
no_escape_in_nothing w (simple_escape c, rest, spells, grammar) = cc
no_escape_in_nothing w (hex_escape c d, rest, spells, grammar) = cc
no_escape_in_nothing w (unicode_escape inner, rest, spells, grammar) = cc

pub has_refusal : (w : Switches) (t : List ℕ) (e : ParseError) → escape_refusal w t ≡ Some (refusal_of e) → HasCharSpan t e → HasEscapeRefusal w t e
has_refusal w t e table ends = record { table = table; char_span = ends }

pub escape_is_refused : (w : Switches) (t : List ℕ) (e : ParseError) → (is_empty t || first_passes (λ c. c == 92) t) ≡ true →
    escape_refusal w t ≡ Some (refusal_of e) → HasCharSpan t e → IsEscapeRefused w t e
escape_is_refused w [] e begins table ends = record {
  none = no_escape_in_nothing w;
  table = table;
  span = λ some. cc;
  char_span = ends;
  char_ends = λ some. cc;
  final = λ final. escape_finality w [] (refusal_of e) final table;
  stays = λ final more. escape_final w [] more (refusal_of e) final table;
}
escape_is_refused w (c ∷ t) e begins table ends = at_backslash (eqb-true c 92 begins)
  where
    refused : escape_refusal w (92 ∷ t) ≡ Some (refusal_of e) → HasCharSpan (92 ∷ t) e → IsEscapeRefused w (92 ∷ t) e
    refused table ends =
        let inside : IsInText (92 ∷ t) (refusal_of e) = escape_spans_lie_in_text w t (refusal_of e) table in record {
          none = λ (f, rest, spells, grammar). absurd (let none : escape_refusal w (92 ∷ t) ≡ None = subst (λ (l : List ℕ). escape_refusal w l ≡ None) spells (refusal_escape w f rest grammar) in cc);
          table = table;
          span = λ some. inside;
          char_span = ends;
          char_ends = λ some. char_span_points (92 ∷ t) e inside ends;
          final = λ final. escape_finality w (92 ∷ t) (refusal_of e) final table;
          stays = λ final more. escape_final w (92 ∷ t) more (refusal_of e) final table;
        }

    at_backslash : c ≡ 92 → IsEscapeRefused w (c ∷ t) e
    at_backslash is = subst (λ (n : ℕ). IsEscapeRefused w (n ∷ t) e) (sym is)
        (refused (subst (λ (n : ℕ). escape_refusal w (n ∷ t) ≡ Some (refusal_of e)) is table) (subst (λ (n : ℕ). HasCharSpan (n ∷ t) e) is ends))

-- switches that allow `\u{..}`
pub unicode_on : (w : Switches) → w.unicode ≡ true → w ≡ switches true w.byte_escapes w.allow_nul
unicode_on w is = ap (λ b. switches b w.byte_escapes w.allow_nul) is

-- the whole refusal, of what an escape of one form is refused for
pub err_refused : (w : Switches) (t : List ℕ) (r : Result (Unescape × ℕ) ParseError) → (is_empty t || first_passes (λ c. c == 92) t) ≡ true →
    IfErr r (HasEscapeRefusal w t) → IfErr r (IsEscapeRefused w t)
err_refused w t (Ok read) begins refused = tt
err_refused w t (Err e) begins refused = escape_is_refused w t e begins refused.table refused.char_span

-- The backslash and what follows it

-- the first byte is the backslash if the first character is
pub begins_bytes : (bs : List ℕ) → IsUtf8 bs → (is_empty (chars bs) || first_passes (λ c. c == 92) (chars bs)) ≡ true → 1 ≤ length bs → bs ≡ 92 ∷ drop 1 bs
begins_bytes [] u begins some = absurd (omega arith)
begins_bytes (b ∷ bs) u begins some =
    let filled : is_empty (chars (b ∷ bs)) ≡ false = chars_empty (b ∷ bs) u ∙ ne_eqb (suc (length bs)) 0 (λ e. omega arith) in
    let first : first_passes (λ c. c == 92) (chars (b ∷ bs)) ≡ true = ap (λ v. v || first_passes (λ c. c == 92) (chars (b ∷ bs))) (sym filled) ∙ begins in
    let same : (b == 92) ≡ true = sym (first_passes-chars (λ c. c == 92) (b ∷ bs) (only_char 92 (omega arith)) u) ∙ first in
    ap (λ n. n ∷ bs) (eqb-true b 92 same)

two_at : (bs : List ℕ) (b : ℕ) → bs ≡ 92 ∷ drop 1 bs → 1 < length bs → b ≡ get_or bs 1 0 → bs ≡ 92 ∷ b ∷ drop 2 bs
two_at [] b first some is = absurd (omega arith)
two_at (c ∷ []) b first some is = absurd (omega arith)
two_at (c ∷ d ∷ bs) b first some is = let same : c ≡ 92 = cc in ap (λ n. n ∷ d ∷ bs) same ∙ ap (λ n. 92 ∷ n ∷ bs) (sym is)

-- the backslash and a letter
pub letter_bytes : (bs seen : List ℕ) (b : ℕ) → IsUtf8 bs → (is_empty (chars bs) || first_passes (λ c. c == 92) (chars bs)) ≡ true → seen ≡ bs →
    1 < length seen → b ≡ get_or seen 1 0 → bs ≡ 92 ∷ b ∷ drop 2 bs
letter_bytes bs seen b u begins same some is =
    let more : 1 < length bs = let e = ap length same in omega arith in
    two_at bs b (begins_bytes bs u begins (omega arith)) more (is ∙ ap (λ l. get_or l 1 0) same)

-- the first character is the backslash
pub first_slash : (bs : List ℕ) (b : ℕ) → bs ≡ 92 ∷ b ∷ drop 2 bs → (is_empty (chars bs) || first_passes (λ c. c == 92) (chars bs)) ≡ true
first_slash bs b is = ap (λ t. is_empty t || first_passes (λ c. c == 92) t) (ap chars is ∙ chars_ascii 92 (b ∷ drop 2 bs) (omega arith))

chars_slash : (bs : List ℕ) → chars (92 ∷ bs) ≡ 92 ∷ chars bs
chars_slash bs = chars_ascii 92 bs (omega arith)

pub letter_chars : (bs : List ℕ) (b : ℕ) → b < 128 → bs ≡ 92 ∷ b ∷ drop 2 bs → chars bs ≡ 92 ∷ b ∷ chars (drop 2 bs)
letter_chars bs b low is = ap chars is ∙ (chars_slash (b ∷ drop 2 bs) ∙ ap (λ l. 92 ∷ l) (chars_ascii b (drop 2 bs) low))

pub begins_letter : (bs : List ℕ) (b : ℕ) → bs ≡ 92 ∷ b ∷ drop 2 bs → begins_with (92 ∷ b ∷ []) bs ≡ true
begins_letter bs b is = subst (λ (l : List ℕ). begins_with (92 ∷ b ∷ []) l ≡ true) (sym is) (rw (eq-eqb b b refl) refl)

pub utf8_at : (bs : List ℕ) (b : ℕ) → b < 128 → IsUtf8 bs → bs ≡ 92 ∷ b ∷ drop 2 bs → IsUtf8 (drop 2 bs)
utf8_at bs b low u is = utf8_after_ascii b (drop 2 bs) low (utf8_after_ascii 92 (b ∷ drop 2 bs) (omega arith) (subst (λ (l : List ℕ). IsUtf8 l) is u))

-- fewer than two characters
nothing_left : (bs : List ℕ) → length bs ≤ 1 → drop 1 bs ≡ []
nothing_left [] few = refl
nothing_left (c ∷ []) few = refl
nothing_left (c ∷ d ∷ bs) few = absurd (omega arith)

pub end_row : (w : Switches) (bs : List ℕ) → IsUtf8 bs → (is_empty (chars bs) || first_passes (λ c. c == 92) (chars bs)) ≡ true → length bs ≤ 1 →
    escape_refusal w (chars bs) ≡ Some (at_byte 0 UnterminatedEscape)
unfolding escape_refusal
end_row w [] u begins few = ap (escape_refusal w) chars-nil
end_row w (c ∷ bs) u begins few =
    let first = begins_bytes (c ∷ bs) u begins (omega arith) in
    let none = nothing_left (c ∷ bs) few in
    ap (λ l. escape_refusal w (chars l)) (first ∙ ap (λ l. 92 ∷ l) none) ∙ (ap (escape_refusal w) (chars_slash []) ∙ ap (λ l. escape_refusal w (92 ∷ l)) chars-nil)

pub few_bytes : (bs seen : List ℕ) → seen ≡ bs → length seen ≤ 1 → length bs ≤ 1
few_bytes bs seen same none = let e = ap length same in omega arith

-- by the letter
pub unicode_off_row : (byte_escapes allow_nul : Bool) (t : List ℕ) → escape_refusal (switches false byte_escapes allow_nul) (92 ∷ 117 ∷ t) ≡ Some (spanning 0 2 UnicodeEscapeInByteLiteral)
unfolding escape_refusal
unicode_off_row byte_escapes allow_nul t = refl

unknown_at : (w : Switches) (c : ℕ) (t : List ℕ) → (c == 48) ≡ false → (c == 120) ≡ false → (c == 117) ≡ false → is_simple c ≡ false →
    escape_refusal w (92 ∷ c ∷ t) ≡ Some (spanning 0 2 UnknownEscape)
unfolding escape_refusal
unknown_at w c t nul hex unicode simple =
    if_false _ _ _ (ap (λ v. v && not w.allow_nul) nul) ∙ (if_false _ _ _ hex ∙ (if_false _ _ _ unicode ∙ if_false _ _ _ simple))

not_simple_wide : (c : ℕ) → 128 ≤ c → is_simple c ≡ false
not_simple_wide c high = grind (arith, nat_tests)

not_zero : (c : ℕ) → is_simple c ≡ false → (c == 48) ≡ false
not_zero c simple = grind (arith, nat_tests)

pub unknown_row : (w : Switches) (bs : List ℕ) (b : ℕ) → IsUtf8 bs → bs ≡ 92 ∷ b ∷ drop 2 bs → (b ≡ 120 → ⊥) → (b ≡ 117 → ⊥) → is_simple b ≡ false →
    escape_refusal w (chars bs) ≡ Some (spanning 0 2 UnknownEscape)
unknown_row w bs b u is no_hex no_unicode simple = elim (cases_lt b 128) [
  | inl low ↦ ap (escape_refusal w) (letter_chars bs b low is) ∙ unknown_at w b (chars (drop 2 bs)) (not_zero b simple) (ne_eqb b 120 no_hex) (ne_eqb b 117 no_unicode) simple
  | inr high ↦ (let v = chars_wide b (drop 2 bs) high (utf8_after_ascii 92 (b ∷ drop 2 bs) (omega arith) (subst (λ (l : List ℕ). IsUtf8 l) is u)) in
      let wide = v.wide in
      ap (escape_refusal w) (ap chars is ∙ (chars_slash (b ∷ drop 2 bs) ∙ ap (λ l. 92 ∷ l) v.is))
      ∙ unknown_at w v.first v.rest (not_zero v.first (not_simple_wide v.first wide)) (ne_eqb v.first 120 (λ e. omega arith)) (ne_eqb v.first 117 (λ e. omega arith)) (not_simple_wide v.first wide))
]

simple_low : (b : ℕ) → is_simple b ≡ true → b < 128
simple_low b h = grind (arith, nat_tests)

simple_size : (b : ℕ) → b < 128 → byte_len (92 ∷ b ∷ []) ≡ 2
simple_size b low = byte_len_one_ascii 92 (b ∷ []) (omega arith) ∙ ap (λ n. 1 + n) (byte_len_one_ascii b [] low)

pub simple_read : (w : Switches) (bs : List ℕ) (b value : ℕ) → IsUtf8 bs → bs ≡ 92 ∷ b ∷ drop 2 bs → is_simple b ≡ true → value ≡ simple_value b →
    allows_value w value ≡ true → IsUnescaped w bs (Byte value) 2
simple_read w bs b value u is simple is_value allowed =
    unescaped w bs (simple_escape b) (chars (drop 2 bs)) (Byte value) 2 u (letter_chars bs b (simple_low b simple) is)
    (and_from _ _ simple (ap (allows_value w) (sym is_value) ∙ allowed)) (ap Byte (sym is_value)) (simple_size b (simple_low b simple))

-- among the simple escapes only `\0` is NUL
nul_at : (w : Switches) (t : List ℕ) → w.allow_nul ≡ false → escape_refusal w (92 ∷ 48 ∷ t) ≡ Some (spanning 0 2 DisallowedNulEscape)
unfolding escape_refusal
nul_at w t off = if_true _ _ _ (ap not off)

nul_letter : (b : ℕ) → is_simple b ≡ true → simple_value b ≡ 0 → b ≡ 48
nul_letter b h = by_simple (λ c. simple_value c ≡ 0 → c ≡ 48) b h
    (λ z. absurd (omega arith)) (λ z. absurd (omega arith)) (λ z. absurd (omega arith)) (λ z. absurd (omega arith)) (λ z. absurd (omega arith)) (λ z. absurd (omega arith)) (λ z. refl)

nul_value : (w : Switches) (value : ℕ) → allows_value w value ≡ false → (w.allow_nul ≡ false) × (value ≡ 0)
nul_value w value never = go w.allow_nul refl
  where
    go : (b : Bool) → w.allow_nul ≡ b → (w.allow_nul ≡ false) × (value ≡ 0)
    go true is = absurd (false≢true (sym (ap (λ v. v || not (value == 0)) (sym is) ∙ never) ∙ refl))
    go false is = (is, eqb-true value 0 (not-false (value == 0) (ap (λ v. v || not (value == 0)) (sym is) ∙ never)))

pub simple_nul_row : (w : Switches) (bs : List ℕ) (b value : ℕ) → bs ≡ 92 ∷ b ∷ drop 2 bs → is_simple b ≡ true → value ≡ simple_value b →
    allows_value w value ≡ false → escape_refusal w (chars bs) ≡ Some (spanning 0 2 DisallowedNulEscape)
simple_nul_row w bs b value is simple is_value never =
    let found = nul_value w value never in
    let letter : b ≡ 48 = nul_letter b simple (sym is_value ∙ found.1) in
    ap (escape_refusal w) (letter_chars bs b (simple_low b simple) is) ∙ (ap (λ n. escape_refusal w (92 ∷ n ∷ chars (drop 2 bs))) letter ∙ nul_at w (chars (drop 2 bs)) found.0)

pub letter_of : (bs : List ℕ) (b : ℕ) → begins_with (92 ∷ b ∷ []) bs ≡ true → bs ≡ 92 ∷ b ∷ drop 2 bs
letter_of bs b begins = sym (begins_with-split (92 ∷ b ∷ []) bs begins)

-- a scalar value by the test
pub scalar_by : (c : ℕ) → IsScalar c → is_scalar c ≡ true
scalar_by c h = grind (arith, nat_tests)

-- Hex digits

pub hexdigit_only : OnlyAscii is_ascii_hexdigit
hexdigit_only c high = grind (arith, nat_tests)

pub hex_or_underscore_only : OnlyAscii is_hex_or_underscore
hex_or_underscore_only c high = grind (arith, nat_tests)

-- one more byte of the digits
pub digit_small : (c : ℕ) → is_ascii_hexdigit c ≡ true → digit_value c < 16
digit_small c h = grind (arith, nat_tests)

pub digit_no_underscore : (c : ℕ) → is_ascii_hexdigit c ≡ true → c ≡ 95 → ⊥
digit_no_underscore c h e = grind (arith, nat_tests)

pub all_more : (p : ℕ → Bool) (t : List ℕ) (i : ℕ) → i < length t → list_all p (take i t) ≡ true → p (get_or t i 0) ≡ true → list_all p (take (i + 1) t) ≡ true
all_more p t i h all passes = ap (list_all p) (take_more t i 0 h) ∙ list_all-append p (take i t) (get_or t i 0 ∷ []) all (and_from _ _ passes refl)

pub count_one : (p : ℕ → Bool) (t : List ℕ) (i : ℕ) → i < length t → count_by p (take (i + 1) t) ≡ count_by p (take i t) + cond {A = ℕ} (p (get_or t i 0)) 1 0
count_one p t i h =
    let f : ℕ → ℕ = λ c. cond (p c) 1 0 in
    let both = sum_by-append f (take i t) (get_or t i 0 ∷ []) in
    let first = sum_by-cons f (get_or t i 0) [] in
    ap (count_by p) (take_more t i 0 h) ∙ omega arith

pub digit_or_underscore : (l : List ℕ) → first_passes is_ascii_hexdigit l ≡ true → first_passes is_hex_or_underscore l ≡ true
digit_or_underscore [] h = h
digit_or_underscore (c ∷ l) h = or_left _ _ h

-- one underscore more: no digit more, and the same number
pub underscore_more : (t : List ℕ) (i : ℕ) → i < length t → get_or t i 0 ≡ 95 → list_all is_hex_or_underscore (take i t) ≡ true →
    (list_all is_hex_or_underscore (take (i + 1) t) ≡ true) × (count_by is_ascii_hexdigit (take (i + 1) t) ≡ count_by is_ascii_hexdigit (take i t))
    × (hex_value (take (i + 1) t) ≡ hex_value (take i t))
underscore_more t i inside is all =
    let no_digit : cond {A = ℕ} (is_ascii_hexdigit (get_or t i 0)) 1 0 ≡ 0 = ap (λ c. cond {A = ℕ} (is_ascii_hexdigit c) 1 0) is in
    let more = count_one is_ascii_hexdigit t i inside in (
      all_more is_hex_or_underscore t i inside all (ap is_hex_or_underscore is),
      omega arith,
      numeral_underscore 16 t i inside is,
    )

-- four more
pub four_underscores_more : (t rest : List ℕ) (i : ℕ) → drop i t ≡ 95 ∷ 95 ∷ 95 ∷ 95 ∷ rest → list_all is_hex_or_underscore (take i t) ≡ true →
    (i + 4 ≤ length t) × (list_all is_hex_or_underscore (take (i + 4) t) ≡ true)
    × (count_by is_ascii_hexdigit (take (i + 4) t) ≡ count_by is_ascii_hexdigit (take i t)) × (hex_value (take (i + 4) t) ≡ hex_value (take i t))
four_underscores_more t rest i is all =
    let long : length (95 ∷ 95 ∷ 95 ∷ 95 ∷ rest) ≡ length t - i = sym (ap length is) ∙ length-drop i t in
    let more : 4 ≤ length (95 ∷ 95 ∷ 95 ∷ 95 ∷ rest) = omega arith in
    let inside : i + 4 ≤ length t = omega (arith, long, more) in
    let at : (k n : ℕ) → i + k ≡ n → get_or (95 ∷ 95 ∷ 95 ∷ 95 ∷ rest) k 0 ≡ 95 → get_or t n 0 ≡ 95 = λ k n sum here.
    sym (get_or-drop i t k 0 ∙ ap (λ m. get_or t m 0) sum) ∙ (ap (λ (l : List ℕ). get_or l k 0) is ∙ here) in
    let a = underscore_more t i (omega (arith, inside)) (at 0 i (omega arith) refl) all in
    let b = underscore_more t (i + 1) (omega (arith, inside)) (at 1 (i + 1) refl refl) a.0 in
    let c = underscore_more t (i + 1 + 1) (omega (arith, inside)) (at 2 (i + 1 + 1) (omega arith) refl) b.0 in
    let d = underscore_more t (i + 1 + 1 + 1) (omega (arith, inside)) (at 3 (i + 1 + 1 + 1) (omega arith) refl) c.0 in
    let same : i + 1 + 1 + 1 + 1 ≡ i + 4 = omega arith in (
      inside,
      ap (λ n. list_all is_hex_or_underscore (take n t)) (sym same) ∙ d.0,
      ap (λ n. count_by is_ascii_hexdigit (take n t)) (sym same) ∙ (d.1 ∙ (c.1 ∙ (b.1 ∙ a.1))),
      ap (λ n. hex_value (take n t)) (sym same) ∙ (d.2 ∙ (c.2 ∙ (b.2 ∙ a.2))),
    )

-- fewer than six digits leave room for one more
pub six_digits : (value count : ℕ) → value < 16 ^ count → count < 6 → value < 16 ^ 5
six_digits value count small few =
    let some : 0 < 16 = omega arith in
    let i : count ≤ 5 = omega arith in
    let bound = pow-le-pow_right some i in omega arith

-- Escapes of two hex digits

-- the values of two bytes that are characters
two_by : (a b : List ℕ) → byte_len a ≡ 2 → has_two_bytes (a ++ b) ≡ true
two_by [] b two = absurd (omega arith)
two_by (c ∷ []) [] two = eq-eqb _ _ two
two_by (c ∷ []) (d ∷ b) two = or_left _ _ (eq-eqb _ _ two)
two_by (c ∷ d ∷ []) b two = or_right _ _ (eq-eqb _ _ two)
two_by (c ∷ d ∷ e ∷ a) b two = absurd (let long = length-le-byte_len (c ∷ d ∷ e ∷ a) in omega arith)

pub two_there : (r : List ℕ) → IsUtf8 r → IsCharBoundary r 2 → has_two_bytes (chars r) ≡ true
two_there r u on =
    let front : IsUtf8 (take 2 r) = IsUtf8-take r 2 u on in
    let after : IsUtf8 (drop 2 r) = IsUtf8-drop r 2 u on in
    let spelled : encode_utf8_all (chars (take 2 r) ++ chars (drop 2 r)) ≡ r =
    encodes-append (chars (take 2 r)) (chars (drop 2 r)) ∙ (ap (λ l. l ++ encode_utf8_all (chars (drop 2 r))) (encodes-chars (take 2 r) front)
    ∙ (ap (λ l. take 2 r ++ l) (encodes-chars (drop 2 r) after) ∙ take-append-drop 2 r)) in
    let split : chars (take 2 r) ++ chars (drop 2 r) ≡ chars r = chars_from_encodes (chars (take 2 r) ++ chars (drop 2 r)) r u spelled in
    let size : byte_len (chars (take 2 r)) ≡ 2 = ap length (encodes-chars (take 2 r) front) ∙ length-take-le 2 r on.0 in
    ap has_two_bytes (sym split) ∙ two_by (chars (take 2 r)) (chars (drop 2 r)) size

two_cut : (r t : List ℕ) → IsUtf8 r → chars r ≡ t → has_two_bytes t ≡ true → IsCharBoundary r 2
two_cut r [] u is two = cc
two_cut r (c ∷ []) u is two =
    subst (λ (n : ℕ). IsCharBoundary r n) (eqb-true _ 2 two) (cut_at r (c ∷ []) [] u is).boundary
two_cut r (c ∷ d ∷ t) u is two = elim (or_cases (byte_len (c ∷ []) == 2) (byte_len (c ∷ d ∷ []) == 2) two) [
  | inl one ↦ subst (λ (n : ℕ). IsCharBoundary r n) (eqb-true _ 2 one) (cut_at r (c ∷ []) (d ∷ t) u is).boundary
  | inr both ↦ subst (λ (n : ℕ). IsCharBoundary r n) (eqb-true _ 2 both) (cut_at r (c ∷ d ∷ []) t u is).boundary
]

-- a place in the text is one in what follows the backslash and the letter
after_two : (a b : ℕ) (r : List ℕ) → IsCharBoundary (a ∷ b ∷ r) 4 → IsCharBoundary r 2
after_two a b r on = (omega (arith, on.0), λ within. on.1 (omega arith))

before_two : (a b : ℕ) (r : List ℕ) → IsCharBoundary r 2 → IsCharBoundary (a ∷ b ∷ r) 4
before_two a b r on = (omega (arith, on.0), λ within. on.1 (omega arith))

-- the first character is a hex digit if the first byte is, and so is the second
first_at : (t : List ℕ) → is_ascii_hexdigit (get_or t 0 0) ≡ first_passes is_ascii_hexdigit t
first_at [] = refl
first_at (c ∷ t) = refl

first_same : (r : List ℕ) → IsUtf8 r → is_ascii_hexdigit (get_or (chars r) 0 0) ≡ is_ascii_hexdigit (get_or r 0 0)
first_same r u = first_at (chars r) ∙ (first_passes-chars is_ascii_hexdigit r hexdigit_only u ∙ sym (first_at r))

abbrev are_digits : List ℕ → Bool
are_digits t = is_ascii_hexdigit (get_or t 0 0) && is_ascii_hexdigit (get_or t 1 0)

pair_same : (r : List ℕ) → IsUtf8 r → are_digits (chars r) ≡ are_digits r
pair_same [] u = ap are_digits chars-nil
pair_same (b ∷ r) u = elim (cases_lt b 128) [
  | inl low ↦ ap are_digits (chars_ascii b r low) ∙ ap (λ v. is_ascii_hexdigit b && v) (first_same r (utf8_after_ascii b r low u))
  | inr high ↦ (let w = chars_wide b r high u in let wide = w.wide in
      ap are_digits w.is ∙ (and_left _ _ (hexdigit_only w.first wide) ∙ sym (and_left _ _ (hexdigit_only b high))))
]

pair_chars : (r : List ℕ) → are_digits r ≡ true → chars r ≡ get_or r 0 0 ∷ get_or r 1 0 ∷ chars (drop 2 r)
pair_chars [] two = cc
pair_chars (b ∷ []) two = let both = and_parts (is_ascii_hexdigit b) _ two in absurd (true≢false (sym both.1))
pair_chars (b ∷ d ∷ r) two =
    let both = and_parts (is_ascii_hexdigit b) (is_ascii_hexdigit d) two in
    chars_ascii b (d ∷ r) (hexdigit_ascii b both.0) ∙ ap (λ l. b ∷ l) (chars_ascii d r (hexdigit_ascii d both.1))

to_hex : (w : Switches) (t : List ℕ) → escape_refusal w (92 ∷ 120 ∷ t) ≡ hex_refusal w t
unfolding escape_refusal
to_hex w t = refl

-- a text that begins with `\x`
pub record IsHexText (bs : List ℕ) : Type 0 where
  pub is : bs ≡ 92 ∷ 120 ∷ drop 2 bs
  pub characters : chars bs ≡ 92 ∷ 120 ∷ chars (drop 2 bs)
  pub utf8 : IsUtf8 (drop 2 bs)

hex_text : (bs : List ℕ) → IsUtf8 bs → begins_with (92 ∷ 120 ∷ []) bs ≡ true → IsHexText bs
hex_text bs u begins =
    let is = letter_of bs 120 begins in
    record { is = is; characters = letter_chars bs 120 (omega arith) is; utf8 = utf8_at bs 120 (omega arith) u is }

pub hex_end_row : (w : Switches) (bs : List ℕ) → IsUtf8 bs → begins_with (92 ∷ 120 ∷ []) bs ≡ true → (IsCharBoundary bs 4 → ⊥) →
    escape_refusal w (chars bs) ≡ Some (spanning 0 (length bs) UnterminatedEscape)
hex_end_row w bs u begins off =
    let x = hex_text bs u begins in
    let r = drop 2 bs in
    let never : has_two_bytes (chars r) ≡ false =
    false_from_ne_true (has_two_bytes (chars r)) (λ two. off (subst (λ (l : List ℕ). IsCharBoundary l 4) (sym x.is) (before_two 92 120 r (two_cut r (chars r) x.utf8 refl two)))) in
    let size : 2 + byte_len (chars r) ≡ length bs = let e = byte_len-all r x.utf8 in let f = ap length x.is in omega arith in
    ap (escape_refusal w) x.characters ∙ (to_hex w (chars r) ∙ (if_true _ _ _ (ap not never) ∙ ap (λ n. Some (spanning 0 n UnterminatedEscape)) size))

there : (bs : List ℕ) → IsHexText bs → IsCharBoundary bs 4 → has_two_bytes (chars (drop 2 bs)) ≡ true
there bs x on = two_there (drop 2 bs) x.utf8 (after_two 92 120 (drop 2 bs) (subst (λ (l : List ℕ). IsCharBoundary l 4) x.is on))

second_at : (bs : List ℕ) (k : ℕ) → bs ≡ 92 ∷ 120 ∷ drop 2 bs → get_or bs (suc (suc k)) 0 ≡ get_or (drop 2 bs) k 0
second_at bs k is = ap (λ l. get_or l (suc (suc k)) 0) is

pub hex_digits_row : (w : Switches) (bs : List ℕ) → IsUtf8 bs → begins_with (92 ∷ 120 ∷ []) bs ≡ true → IsCharBoundary bs 4 →
    (is_ascii_hexdigit (get_or bs 2 0) && is_ascii_hexdigit (get_or bs 3 0)) ≡ false → escape_refusal w (chars bs) ≡ Some (spanning 0 4 InvalidXEscape)
hex_digits_row w bs u begins on never =
    let x = hex_text bs u begins in
    let r = drop 2 bs in
    let two = there bs x on in
    let same : are_digits (chars r) ≡ false = pair_same r x.utf8 ∙ (ap (λ n. is_ascii_hexdigit n && is_ascii_hexdigit (get_or r 1 0)) (sym (second_at bs 0 x.is))
    ∙ (ap (λ n. is_ascii_hexdigit (get_or bs 2 0) && is_ascii_hexdigit n) (sym (second_at bs 1 x.is)) ∙ never)) in
    ap (escape_refusal w) x.characters ∙ (to_hex w (chars r) ∙ (if_false _ _ _ (ap not two) ∙ if_true _ _ _ (ap not same)))

-- two digits are there
pub record IsPair (bs : List ℕ) (high low : ℕ) : Type 0 where
  pub characters : chars bs ≡ 92 ∷ 120 ∷ high ∷ low ∷ chars (drop 4 bs)
  pub high_digit : is_ascii_hexdigit high ≡ true
  pub low_digit : is_ascii_hexdigit low ≡ true

pub pair_of : (bs : List ℕ) (high low : ℕ) → IsUtf8 bs → begins_with (92 ∷ 120 ∷ []) bs ≡ true → get_or bs 2 0 ≡ high → get_or bs 3 0 ≡ low →
    (is_ascii_hexdigit high && is_ascii_hexdigit low) ≡ true → IsPair bs high low
pair_of bs high low u begins is_high is_low digits =
    let x = hex_text bs u begins in
    let r = drop 2 bs in
    let at_high : get_or r 0 0 ≡ high = sym (second_at bs 0 x.is) ∙ is_high in
    let at_low : get_or r 1 0 ≡ low = sym (second_at bs 1 x.is) ∙ is_low in
    let both = and_parts (is_ascii_hexdigit high) (is_ascii_hexdigit low) digits in
    let are : are_digits r ≡ true = ap (λ n. is_ascii_hexdigit n && is_ascii_hexdigit (get_or r 1 0)) at_high ∙ (ap (λ n. is_ascii_hexdigit high && is_ascii_hexdigit n) at_low ∙ digits) in
    record {
      characters = x.characters ∙ ap (λ l. 92 ∷ 120 ∷ l) (pair_chars r are
          ∙ (ap (λ n. n ∷ get_or r 1 0 ∷ chars (drop 2 r)) at_high ∙ (ap (λ n. high ∷ n ∷ chars (drop 2 r)) at_low ∙ ap (λ l. high ∷ low ∷ chars l) (drop-drop 2 2 bs))));
      high_digit = both.0;
      low_digit = both.1;
    }

pub hex_byte_row : (w : Switches) (bs : List ℕ) (high low value : ℕ) → IsPair bs high low → value ≡ pair_value high low → allows_byte w value ≡ false →
    escape_refusal w (chars bs) ≡ Some (spanning 0 4 NonAsciiXEscape)
hex_byte_row w bs high low value p is_value never =
    ap (escape_refusal w) p.characters ∙ (to_hex w _ ∙ (if_false _ _ _ (ap not (two_bytes high low (chars (drop 4 bs)) p.high_digit p.low_digit))
    ∙ (if_false _ _ _ (ap not (and_from _ _ p.high_digit p.low_digit)) ∙ if_true _ _ _ (ap not (ap (allows_byte w) (sym is_value) ∙ never)))))

pub hex_nul_row : (w : Switches) (bs : List ℕ) (high low value : ℕ) → IsPair bs high low → value ≡ pair_value high low → allows_byte w value ≡ true →
    allows_value w value ≡ false → escape_refusal w (chars bs) ≡ Some (spanning 0 4 DisallowedNulEscape)
hex_nul_row w bs high low value p is_value allowed never =
    ap (escape_refusal w) p.characters ∙ (to_hex w _ ∙ (if_false _ _ _ (ap not (two_bytes high low (chars (drop 4 bs)) p.high_digit p.low_digit))
    ∙ (if_false _ _ _ (ap not (and_from _ _ p.high_digit p.low_digit)) ∙ (if_false _ _ _ (ap not (ap (allows_byte w) (sym is_value) ∙ allowed)) ∙ if_true _ _ _ (ap not (ap (allows_value w) (sym is_value) ∙ never))))))

four_bytes : (c d : ℕ) → c < 128 → d < 128 → byte_len (92 ∷ 120 ∷ c ∷ d ∷ []) ≡ 4
four_bytes c d low low_d =
    byte_len_one_ascii 92 (120 ∷ c ∷ d ∷ []) (omega arith) ∙ ap (λ n. 1 + n) (byte_len_one_ascii 120 (c ∷ d ∷ []) (omega arith)
    ∙ ap (λ n. 1 + n) (byte_len_one_ascii c (d ∷ []) low ∙ ap (λ n. 1 + n) (byte_len_one_ascii d [] low_d)))

pub hex_read : (w : Switches) (bs : List ℕ) (high low value : ℕ) → IsUtf8 bs → IsPair bs high low → value ≡ pair_value high low →
    allows_byte w value ≡ true → allows_value w value ≡ true → IsUnescaped w bs (Byte value) 4
hex_read w bs high low value u p is_value allowed_byte allowed =
    unescaped w bs (hex_escape high low) (chars (drop 4 bs)) (Byte value) 4 u p.characters
    (and_from _ _ (and_from _ _ (and_from _ _ p.high_digit p.low_digit) (ap (allows_byte w) (sym is_value) ∙ allowed_byte)) (ap (allows_value w) (sym is_value) ∙ allowed))
    (ap Byte (sym is_value)) (four_bytes high low (hexdigit_ascii high p.high_digit) (hexdigit_ascii low p.low_digit))
