-- Escapes of the form `\u{41}`: what their bytes say of the characters.
use Rattle.std.proofs.Common.{◌≡◌, ℕ, zero, suc, ◌+◌, ◌<◌, ◌≤◌, Bool, true, false, not, ◌&&◌, ◌||◌, cond, leb, ltb, List, [], ◌∷◌, ◌++◌, length, take, drop, Some, None, refl, sym, ap, ◌∙◌, subst, arith, append_assoc, length-append, take-append-drop}
use Rattle.std.specs.Prelude.{◌==◌, count_by, take_while, if◌then◌else◌}
use Rattle.std.specs.Char.{is_ascii_hexdigit}
use Rattle.std.specs.List.{list_all, list_any, before_first}
use Rattle.std.specs.Str.{chars, IsUtf8}
use Rattle.std.proofs.lemmas.Bool.{and_parts, and_from, not-true, eqb-true, or_left, true≢false, lt-ltb, le-ltb, leb-true, le-leb, or_right, false_from_ne_true}
use Rattle.std.proofs.lemmas.Bool.Decides.{nat_tests}
use Rattle.std.proofs.lemmas.List.{append-nil}
use Rattle.std.proofs.lemmas.List.Folds.{list_any-append}
use Rattle.std.proofs.lemmas.List.Sums.{take_while-cons, sum_by-cons, sum_by-append}
use Rattle.litrs_base.specs.declared.err.ParseErrorKind.TheVariants.{DisallowedNulEscape, UnicodeEscapeWithoutBrace, UnterminatedUnicodeEscape, InvalidStartOfUnicodeEscape, NonHexDigitInUnicodeEscape, TooManyDigitInUnicodeEscape, InvalidUnicodeEscapeChar}
use Rattle.litrs_base.specs.declared.escape.Unescape.TheVariants.{Unicode}
use Rattle.litrs_base.specs.Characters.{is_scalar}
use Rattle.litrs_base.specs.Refusal.{at_byte, spanning}
use Rattle.litrs_base.specs.Text.{byte_len, first_passes, is_empty, begins_with}
use Rattle.litrs_base.proofs.Begins.{begins_with-split}
use Rattle.litrs_base.proofs.ByteLen.{byte_len_one_ascii, byte_len_all_ascii}
use Rattle.litrs_base.proofs.Chars.{OnlyAscii, chars_ascii, utf8_after_ascii, first_passes-chars}
use Rattle.litrs_base.proofs.ListTests.{if_true, if_false, Split, split_first, before_first-split, list_any-split}
use Rattle.litrs_base.proofs.Runs.{list_all-weaken}
use Rattle.litrs_base.proofs.Spans.{byte_len-append}
use Rattle.litrs_base.specs.declared.quotes.Switches.{Switches}
use Rattle.litrs_grammar.specs.Escape.{unicode_escape, escape_refusal, unicode_refusal, inner_refusal, hex_value, is_hex_or_underscore, allows_value, place_after}
use Rattle.litrs_grammar.proofs.Laws.Escape.{hex_or_underscore_ascii, not_brace, starts_inner, no_stranger, has_stranger}
use Rattle.litrs_lex.specs.declared.escape.HexDigits.{HexDigits}
use Rattle.litrs_lex.specs.Unescaped.{switches, IsUnescaped, IsHexDigits}
use Rattle.litrs_lex.proofs.CharCuts.{byte_len-all}
use Rattle.litrs_lex.proofs.AsciiTests.{only_char, list_any-chars, ascii_front, first_next}
use Rattle.litrs_lex.proofs.EscapeBytes.{unescaped, first_slash, letter_chars, utf8_at, hexdigit_only, hex_or_underscore_only}

to_unicode : (w : Switches) (t : List ℕ) → escape_refusal w (92 ∷ 117 ∷ t) ≡ unicode_refusal w t
unfolding escape_refusal
to_unicode w t = refl

pub no_brace_row : (byte_escapes allow_nul : Bool) (bs : List ℕ) → IsUtf8 bs → bs ≡ 92 ∷ 117 ∷ drop 2 bs → first_passes (λ c. c == 123) (drop 2 bs) ≡ false →
    escape_refusal (switches true byte_escapes allow_nul) (chars bs) ≡ Some (spanning 0 2 UnicodeEscapeWithoutBrace)
no_brace_row byte_escapes allow_nul bs u is never =
    let w = switches true byte_escapes allow_nul in
    ap (escape_refusal w) (letter_chars bs 117 (omega arith) is)
    ∙ (to_unicode w (chars (drop 2 bs))
    ∙ if_true _ _ _ (ap not (first_passes-chars (λ c. c == 123) (drop 2 bs) (only_char 123 (omega arith)) (utf8_at bs 117 (omega arith) u is) ∙ never)))

-- a text that begins with `\u{`
pub record IsBraced (bs : List ℕ) : Type 0 where
  pub characters : chars bs ≡ 92 ∷ 117 ∷ 123 ∷ chars (drop 3 bs)
  pub utf8 : IsUtf8 (drop 3 bs)
  pub size : length bs ≡ 3 + length (drop 3 bs)
  pub begins : (is_empty (chars bs) || first_passes (λ c. c == 92) (chars bs)) ≡ true

pub braced : (bs : List ℕ) → IsUtf8 bs → begins_with (92 ∷ 117 ∷ 123 ∷ []) bs ≡ true → IsBraced bs
braced bs u begins =
    let is : bs ≡ 92 ∷ 117 ∷ 123 ∷ drop 3 bs = sym (begins_with-split (92 ∷ 117 ∷ 123 ∷ []) bs begins) in
    let letter : bs ≡ 92 ∷ 117 ∷ drop 2 bs = is ∙ ap (λ l. 92 ∷ 117 ∷ l) (sym (ap (drop 2) is)) in
    let after : drop 2 bs ≡ 123 ∷ drop 3 bs = ap (drop 2) is in
    let text : IsUtf8 (123 ∷ drop 3 bs) = subst (λ (l : List ℕ). IsUtf8 l) after (utf8_at bs 117 (omega arith) u letter) in
    record {
      characters = letter_chars bs 117 (omega arith) letter ∙ ap (λ l. 92 ∷ 117 ∷ l) (ap chars after ∙ chars_ascii 123 (drop 3 bs) (omega arith));
      utf8 = utf8_after_ascii 123 (drop 3 bs) (omega arith) text;
      size = ap length is ∙ omega arith;
      begins = first_slash bs 117 letter;
    }

braced_refusal : (w : Switches) (bs : List ℕ) → IsBraced bs → escape_refusal w (chars bs) ≡ unicode_refusal w (123 ∷ chars (drop 3 bs))
braced_refusal w bs b = ap (escape_refusal w) b.characters ∙ to_unicode w (123 ∷ chars (drop 3 bs))

brace_only : OnlyAscii (λ c. c == 125)
brace_only = only_char 125 (omega arith)

pub unclosed_row : (byte_escapes allow_nul : Bool) (bs : List ℕ) → IsBraced bs → list_any (λ c. c == 125) (drop 3 bs) ≡ false →
    escape_refusal (switches true byte_escapes allow_nul) (chars bs) ≡ Some (spanning 0 (length bs) UnterminatedUnicodeEscape)
unclosed_row byte_escapes allow_nul bs b never =
    let r = drop 3 bs in
    let size : 2 + byte_len (123 ∷ chars r) ≡ length bs = let e = byte_len_one_ascii 123 (chars r) (omega arith) in let f = byte_len-all r b.utf8 in let g = b.size in omega arith in
    braced_refusal (switches true byte_escapes allow_nul) bs b
    ∙ (if_true _ _ _ (ap not (list_any-chars (λ c. c == 125) r brace_only b.utf8 ∙ never)) ∙ ap (λ n. Some (spanning 0 n UnterminatedUnicodeEscape)) size)

-- the text between the braces
to_inner : (byte_escapes allow_nul : Bool) (inner t : List ℕ) (c : ℕ) (zs : List ℕ) → Split (λ c. c == 125) t inner c zs →
    unicode_refusal (switches true byte_escapes allow_nul) (123 ∷ t) ≡ inner_refusal (switches true byte_escapes allow_nul) inner
to_inner byte_escapes allow_nul inner t c zs s =
    let any : list_any (λ c. c == 125) t ≡ true = subst (λ (l : List ℕ). list_any (λ c. c == 125) l ≡ true) s.spells (list_any-split (λ c. c == 125) inner c zs s.passes) in
    let is : before_first (λ c. c == 125) t ≡ inner = subst (λ (l : List ℕ). before_first (λ c. c == 125) l ≡ inner) s.spells (before_first-split (λ c. c == 125) inner c zs s.before s.passes) in
    if_false _ _ _ (ap not any) ∙ ap (inner_refusal (switches true byte_escapes allow_nul)) is

abbrev pub is_wrong_start : ℕ → Bool
is_wrong_start c = (c == 125) || (c == 95)

wrong_only : OnlyAscii is_wrong_start
wrong_only c high = grind (arith, nat_tests)

start_inner : (w : Switches) (inner t : List ℕ) (c : ℕ) (zs : List ℕ) → Split (λ c. c == 125) t inner c zs → first_passes is_wrong_start t ≡ true →
    inner_refusal w inner ≡ Some (at_byte 3 InvalidStartOfUnicodeEscape)
start_inner w [] t c zs s wrong = refl
start_inner w (i ∷ inner) t c zs s wrong =
    let first : is_wrong_start i ≡ true = ap (first_passes is_wrong_start) s.spells ∙ wrong in
    let open_first = and_parts (not (i == 125)) _ s.before in
    let is : (i == 95) ≡ true = ap (λ v. v || (i == 95)) (sym (not-true (i == 125) open_first.0)) ∙ first in
    if_true _ _ _ is

pub start_row : (byte_escapes allow_nul : Bool) (bs : List ℕ) → IsBraced bs → list_any (λ c. c == 125) (drop 3 bs) ≡ true → first_passes is_wrong_start (drop 3 bs) ≡ true →
    escape_refusal (switches true byte_escapes allow_nul) (chars bs) ≡ Some (at_byte 3 InvalidStartOfUnicodeEscape)
start_row byte_escapes allow_nul bs b any wrong =
    let r = drop 3 bs in
    let found = split_first (λ c. c == 125) (chars r) (list_any-chars (λ c. c == 125) r brace_only b.utf8 ∙ any) in
    braced_refusal (switches true byte_escapes allow_nul) bs b
    ∙ (to_inner byte_escapes allow_nul found.0 (chars r) found.1 found.2 found.3
    ∙ start_inner (switches true byte_escapes allow_nul) found.0 (chars r) found.1 found.2 found.3 (first_passes-chars is_wrong_start r wrong_only b.utf8 ∙ wrong))

-- the digits are the first characters between the braces
after_front : (xs inner : List ℕ) (c : ℕ) (zs ys : List ℕ) → list_all is_hex_or_underscore xs ≡ true → (c == 125) ≡ true → inner ++ c ∷ zs ≡ xs ++ ys →
    (us : List ℕ) × (inner ≡ xs ++ us) × (us ++ c ∷ zs ≡ ys)
after_front [] inner c zs ys all brace same = (inner, refl, same)
after_front (x ∷ xs) [] c zs ys all brace same =
    let head : c ≡ x = cc in
    let open_x = not_brace x (and_parts (is_hex_or_underscore x) _ all).0 in
    let is : (x == 125) ≡ true = ap (λ n. n == 125) (sym head) ∙ brace in
    absurd (true≢false (sym is ∙ not-true (x == 125) open_x))
after_front (x ∷ xs) (i ∷ inner) c zs ys all brace same =
    let head : i ≡ x = cc in
    let rest : inner ++ c ∷ zs ≡ xs ++ ys = cc in
    let more = after_front xs inner c zs ys (and_parts (is_hex_or_underscore x) _ all).1 brace rest in
    (more.0, ap (λ n. n ∷ inner) head ∙ ap (λ l. x ∷ l) more.1, more.2)

or_right_false : (a b : Bool) → (a || b) ≡ false → b ≡ false
or_right_false true b h = cc
or_right_false false b h = h

right_start : (inner rest : List ℕ) → first_passes is_wrong_start (inner ++ rest) ≡ false → is_empty inner ≡ false → (is_empty inner || first_passes (λ c. c == 95) inner) ≡ false
right_start [] rest right some = cc
right_start (i ∷ inner) rest right some = or_right_false (i == 125) (i == 95) right

take_while_front : (p : ℕ → Bool) (xs l : List ℕ) → list_all p xs ≡ true → take_while p (xs ++ l) ≡ xs ++ take_while p l
take_while_front p [] l all = refl
take_while_front p (x ∷ xs) l all =
    let both = and_parts (p x) (list_all p xs) all in
    take_while-cons p x (xs ++ l) ∙ (if_true (p x) _ _ both.0 ∙ ap (λ t. x ∷ t) (take_while_front p xs l both.1))

some_after : (xs : List ℕ) (u : ℕ) (us : List ℕ) → is_empty (xs ++ u ∷ us) ≡ false
some_after [] u us = refl
some_after (x ∷ xs) u us = refl

longer : (xs : List ℕ) (u : ℕ) (us : List ℕ) → length xs < length (xs ++ u ∷ us)
longer xs u us = let e = length-append xs (u ∷ us) in omega arith

-- a character that is neither a hex digit nor an underscore
nonhex_inner : (w : Switches) (xs : List ℕ) (u : ℕ) (us : List ℕ) → list_all is_hex_or_underscore xs ≡ true → is_hex_or_underscore u ≡ false → count_by is_ascii_hexdigit xs ≤ 6 →
    (is_empty (xs ++ u ∷ us) || first_passes (λ c. c == 95) (xs ++ u ∷ us)) ≡ false →
    inner_refusal w (xs ++ u ∷ us) ≡ Some (at_byte (3 + length xs) NonHexDigitInUnicodeEscape)
nonhex_inner w xs u us all other few right =
    let run : take_while is_hex_or_underscore (xs ++ u ∷ us) ≡ xs =
    take_while_front is_hex_or_underscore xs (u ∷ us) all ∙ (ap (λ l. xs ++ l) (take_while-cons is_hex_or_underscore u us ∙ if_false _ _ _ other) ∙ append-nil xs) in
    let stranger : has_stranger (xs ++ u ∷ us) ≡ true =
    ap (λ d. ltb (length d) (length (xs ++ u ∷ us)) && leb (count_by is_ascii_hexdigit d) 6) run ∙ and_from _ _ (lt-ltb _ _ (longer xs u us)) (le-leb _ _ few) in
    if_false _ _ _ right ∙ (if_true _ _ _ stranger ∙ ap (λ l. Some (at_byte (3 + length l) NonHexDigitInUnicodeEscape)) run)

count_more : (xs : List ℕ) (u : ℕ) (l : List ℕ) → is_ascii_hexdigit u ≡ true → count_by is_ascii_hexdigit xs ≡ 6 → 6 < count_by is_ascii_hexdigit (xs ++ u ∷ l)
count_more xs u l digit six =
    let f : ℕ → ℕ = λ c. cond (is_ascii_hexdigit c) 1 0 in
    let both = sum_by-append f xs (u ∷ l) in
    let first = sum_by-cons f u l in
    let one : f u ≡ 1 = ap (λ v. cond v 1 0) digit in
    omega arith

and_false : (a b : Bool) → b ≡ false → (a && b) ≡ false
and_false true b h = h
and_false false b h = refl

place_at : (p : ℕ → Bool) (n : ℕ) (xs : List ℕ) (u : ℕ) (l : List ℕ) → p u ≡ true → count_by p xs ≡ n → place_after n p (xs ++ u ∷ l) ≡ length xs
place_at p zero [] u l passes count = if_true _ _ _ passes
place_at p (suc n) [] u l passes count = absurd (omega arith)
place_at p n (x ∷ xs) u l passes count = go n (p x) refl (sym (sum_by-cons one x xs) ∙ count) (λ m c. place_at p m xs u l passes c)
  where
    one : ℕ → ℕ
    one c = cond (p c) 1 0

    go : (n : ℕ) (b : Bool) → p x ≡ b → cond {A = ℕ} (p x) 1 0 + count_by p xs ≡ n → ((m : ℕ) → count_by p xs ≡ m → place_after m p (xs ++ u ∷ l) ≡ length xs) →
        place_after n p (x ∷ (xs ++ u ∷ l)) ≡ suc (length xs)
    go zero true is count rec = absurd (let is_one : cond {A = ℕ} (p x) 1 0 ≡ cond {A = ℕ} true 1 0 = ap (λ v. cond {A = ℕ} v 1 0) is in omega arith)
    go zero false is count rec =
        let is_none : cond {A = ℕ} (p x) 1 0 ≡ cond {A = ℕ} false 1 0 = ap (λ v. cond {A = ℕ} v 1 0) is in
        let more = rec zero (omega arith) in
        if_false _ _ _ is ∙ omega arith
    go (suc n) true is count rec =
        let is_one : cond {A = ℕ} (p x) 1 0 ≡ cond {A = ℕ} true 1 0 = ap (λ v. cond {A = ℕ} v 1 0) is in
        let more = rec n (omega arith) in
        ap (λ v. 1 + place_after (if v then n else suc n) p (xs ++ u ∷ l)) is ∙ omega arith
    go (suc n) false is count rec =
        let is_none : cond {A = ℕ} (p x) 1 0 ≡ cond {A = ℕ} false 1 0 = ap (λ v. cond {A = ℕ} v 1 0) is in
        let more = rec (suc n) (omega arith) in
        ap (λ v. 1 + place_after (if v then n else suc n) p (xs ++ u ∷ l)) is ∙ omega arith

-- a seventh digit
many_inner : (w : Switches) (xs : List ℕ) (u : ℕ) (us : List ℕ) → list_all is_hex_or_underscore xs ≡ true → is_ascii_hexdigit u ≡ true → count_by is_ascii_hexdigit xs ≡ 6 →
    (is_empty (xs ++ u ∷ us) || first_passes (λ c. c == 95) (xs ++ u ∷ us)) ≡ false →
    inner_refusal w (xs ++ u ∷ us) ≡ Some (at_byte (3 + length xs) TooManyDigitInUnicodeEscape)
many_inner w xs u us all digit six right =
    let run : take_while is_hex_or_underscore (xs ++ u ∷ us) ≡ xs ++ u ∷ take_while is_hex_or_underscore us =
    take_while_front is_hex_or_underscore xs (u ∷ us) all ∙ ap (λ l. xs ++ l) (take_while-cons is_hex_or_underscore u us ∙ if_true _ _ _ (or_left _ _ digit)) in
    let more : 6 < count_by is_ascii_hexdigit (take_while is_hex_or_underscore (xs ++ u ∷ us)) =
    let m = count_more xs u (take_while is_hex_or_underscore us) digit six in let e = ap (count_by is_ascii_hexdigit) run in omega arith in
    let many : leb (count_by is_ascii_hexdigit (take_while is_hex_or_underscore (xs ++ u ∷ us))) 6 ≡ false = false_from_ne_true _ (λ e. let few = leb-true _ _ e in omega arith) in
    if_false _ _ _ right ∙ (if_false _ _ _ (and_false _ _ many) ∙ (if_true _ _ _ (lt-ltb 6 _ (count_more xs u us digit six))
    ∙ ap (λ n. Some (at_byte (3 + n) TooManyDigitInUnicodeEscape)) (place_at is_ascii_hexdigit 6 xs u us digit six)))

-- the digits in the text: xs are they, and ys the bytes after them
pub record IsDigitText (bs xs ys : List ℕ) : Type 0 where
  pub characters : chars (drop 3 bs) ≡ xs ++ chars ys
  pub bytes : drop 3 bs ≡ xs ++ ys
  pub passes : list_all is_hex_or_underscore xs ≡ true
  pub utf8 : IsUtf8 ys

pub digit_text : (bs : List ℕ) (digits : HexDigits) → IsBraced bs → IsHexDigits (drop 3 bs) digits → IsDigitText bs (take digits.len (drop 3 bs)) (drop digits.len (drop 3 bs))
digit_text bs digits b d =
    let r = drop 3 bs in
    let front = ascii_front is_hex_or_underscore r digits.len hex_or_underscore_only b.utf8 d.within d.passes in
    record {
      characters = sym (take-append-drop digits.len (chars r)) ∙ (ap (λ l. l ++ drop digits.len (chars r)) front.taken ∙ ap (λ l. take digits.len r ++ l) front.rest);
      bytes = sym (take-append-drop digits.len r);
      passes = d.passes;
      utf8 = front.utf8;
    }

no_brace : (xs : List ℕ) → list_all is_hex_or_underscore xs ≡ true → list_any (λ c. c == 125) xs ≡ false
no_brace [] all = refl
no_brace (x ∷ xs) all =
    let parts = and_parts (is_hex_or_underscore x) _ all in
    ap (λ v. v || list_any (λ c. c == 125) xs) (not-true _ (not_brace x parts.0)) ∙ no_brace xs parts.1

-- a `}` of the text is after the digits
pub any_after : (r : List ℕ) (digits : HexDigits) → IsHexDigits r digits → list_any (λ c. c == 125) r ≡ list_any (λ c. c == 125) (drop digits.len r)
any_after r digits d =
    let xs = take digits.len r in
    let ys = drop digits.len r in
    ap (list_any (λ c. c == 125)) (sym (take-append-drop digits.len r))
    ∙ (list_any-append (λ c. c == 125) xs ys ∙ ap (λ v. v || list_any (λ c. c == 125) ys) (no_brace xs d.passes))

-- a `}` after the digits is wrong where they do not begin with a digit
closed_wrong : (xs ys : List ℕ) → list_all is_hex_or_underscore xs ≡ true → first_passes (λ c. c == 125) ys ≡ true → first_passes is_ascii_hexdigit (xs ++ ys) ≡ false →
    first_passes is_wrong_start (xs ++ ys) ≡ true
closed_wrong [] [] all closed no_digit = cc
closed_wrong [] (y ∷ ys) all closed no_digit = or_left _ _ closed
closed_wrong (x ∷ xs) ys all closed no_digit =
    let first = (and_parts (is_hex_or_underscore x) _ all).0 in
    or_right _ _ (ap (λ v. v || (x == 95)) (sym no_digit) ∙ first)

left_false : (a b : Bool) → b ≡ true → (a && b) ≡ false → a ≡ false
left_false true b h g = absurd (true≢false (sym h ∙ g))
left_false false b h g = refl

-- the digits do not end at a closing brace, or there are none
abbrev pub AtEnd : List ℕ → List ℕ → Type 0
AtEnd bs ys = (first_passes is_ascii_hexdigit (drop 3 bs) && first_passes (λ c. c == 125) ys) ≡ false

-- between the braces, a further character follows the digits
pub record IsStopped (bs xs ys : List ℕ) : Type 0 where
  pub inner : List ℕ
  pub brace : ℕ
  pub rest : List ℕ
  pub split : Split (λ c. c == 125) (chars (drop 3 bs)) inner brace rest
  pub next : ℕ
  pub more : List ℕ
  pub inner_is : inner ≡ xs ++ next ∷ more
  pub next_is : chars ys ≡ next ∷ (more ++ brace ∷ rest)
  pub right : (is_empty (xs ++ next ∷ more) || first_passes (λ c. c == 95) (xs ++ next ∷ more)) ≡ false

pub stopped : (bs xs ys : List ℕ) → IsBraced bs → IsDigitText bs xs ys → list_any (λ c. c == 125) (drop 3 bs) ≡ true → first_passes is_wrong_start (drop 3 bs) ≡ false →
    AtEnd bs ys → IsStopped bs xs ys
stopped bs xs ys b d any right open_end =
    let r = drop 3 bs in
    let found = split_first (λ c. c == 125) (chars r) (list_any-chars (λ c. c == 125) r brace_only b.utf8 ∙ any) in
    let after = after_front xs found.0 found.1 found.2 (chars ys) d.passes found.3.passes (found.3.spells ∙ d.characters) in
    go found.0 found.1 found.2 found.3 after.0 after.1 after.2
  where
    wrong_chars : first_passes is_wrong_start (chars (drop 3 bs)) ≡ false
    wrong_chars = first_passes-chars is_wrong_start (drop 3 bs) wrong_only b.utf8 ∙ right

    closed : (c : ℕ) (zs : List ℕ) → (c == 125) ≡ true → c ∷ zs ≡ chars ys → ⊥
    closed c zs brace same =
        let first : first_passes (λ c. c == 125) ys ≡ true = sym (first_passes-chars (λ c. c == 125) ys brace_only d.utf8) ∙ (ap (first_passes (λ c. c == 125)) (sym same) ∙ brace) in
        let no_digit : first_passes is_ascii_hexdigit (drop 3 bs) ≡ false = left_false (first_passes is_ascii_hexdigit (drop 3 bs)) (first_passes (λ c. c == 125) ys) first open_end in
        let wrong : first_passes is_wrong_start (drop 3 bs) ≡ true = ap (first_passes is_wrong_start) d.bytes
        ∙ closed_wrong xs ys d.passes first (ap (first_passes is_ascii_hexdigit) (sym d.bytes) ∙ no_digit) in
        true≢false (sym wrong ∙ right)

    go : (inner : List ℕ) (c : ℕ) (zs : List ℕ) → Split (λ c. c == 125) (chars (drop 3 bs)) inner c zs → (us : List ℕ) → inner ≡ xs ++ us → us ++ c ∷ zs ≡ chars ys → IsStopped bs xs ys
    go inner c zs s [] is same = absurd (closed c zs s.passes same)
    go inner c zs s (u ∷ us) is same = record {
      inner = inner;
      brace = c;
      rest = zs;
      split = s;
      next = u;
      more = us;
      inner_is = is;
      next_is = sym same;
      right = right_start (xs ++ u ∷ us) (c ∷ zs) (ap (λ l. first_passes is_wrong_start (l ++ c ∷ zs)) (sym is) ∙ (ap (first_passes is_wrong_start) s.spells ∙ wrong_chars)) (some_after xs u us);
    }

pub many_row : (byte_escapes allow_nul : Bool) (bs xs ys : List ℕ) → IsBraced bs → IsDigitText bs xs ys → IsStopped bs xs ys → count_by is_ascii_hexdigit xs ≡ 6 →
    first_passes is_ascii_hexdigit ys ≡ true → escape_refusal (switches true byte_escapes allow_nul) (chars bs) ≡ Some (at_byte (3 + length xs) TooManyDigitInUnicodeEscape)
many_row byte_escapes allow_nul bs xs ys b d s six digit =
    let w = switches true byte_escapes allow_nul in
    braced_refusal w bs b ∙ (to_inner byte_escapes allow_nul s.inner (chars (drop 3 bs)) s.brace s.rest s.split ∙ (ap (inner_refusal w) s.inner_is
    ∙ many_inner w xs s.next s.more d.passes (first_next is_ascii_hexdigit ys s.next _ hexdigit_only d.utf8 s.next_is ∙ digit) six s.right))

pub nonhex_row : (byte_escapes allow_nul : Bool) (bs xs ys : List ℕ) → IsBraced bs → IsDigitText bs xs ys → IsStopped bs xs ys → count_by is_ascii_hexdigit xs ≤ 6 →
    first_passes is_hex_or_underscore ys ≡ false → escape_refusal (switches true byte_escapes allow_nul) (chars bs) ≡ Some (at_byte (3 + length xs) NonHexDigitInUnicodeEscape)
nonhex_row byte_escapes allow_nul bs xs ys b d s few other =
    let w = switches true byte_escapes allow_nul in
    braced_refusal w bs b ∙ (to_inner byte_escapes allow_nul s.inner (chars (drop 3 bs)) s.brace s.rest s.split ∙ (ap (inner_refusal w) s.inner_is
    ∙ nonhex_inner w xs s.next s.more d.passes (first_next is_hex_or_underscore ys s.next _ hex_or_underscore_only d.utf8 s.next_is ∙ other) few s.right))

-- a closed escape
pub record IsClosed (bs xs : List ℕ) : Type 0 where
  pub rest : List ℕ
  pub characters : chars (drop 3 bs) ≡ xs ++ 125 ∷ rest
  pub first : first_passes is_ascii_hexdigit xs ≡ true
  pub passes : list_all is_hex_or_underscore xs ≡ true

brace_first : (ys : List ℕ) → first_passes (λ c. c == 125) ys ≡ true → ys ≡ 125 ∷ drop 1 ys
brace_first [] closed = cc
brace_first (y ∷ ys) closed = ap (λ n. n ∷ ys) (eqb-true y 125 closed)

first_of_front : (xs ys : List ℕ) → first_passes is_ascii_hexdigit (xs ++ 125 ∷ ys) ≡ true → first_passes is_ascii_hexdigit xs ≡ true
first_of_front [] ys first = cc
first_of_front (x ∷ xs) ys first = first

pub closed_text : (bs xs ys : List ℕ) → IsDigitText bs xs ys → (first_passes is_ascii_hexdigit (drop 3 bs) && first_passes (λ c. c == 125) ys) ≡ true → IsClosed bs xs
closed_text bs xs ys d h =
    let both = and_parts (first_passes is_ascii_hexdigit (drop 3 bs)) (first_passes (λ c. c == 125) ys) h in
    let is = brace_first ys both.1 in
    record {
      rest = chars (drop 1 ys);
      characters = d.characters ∙ ap (λ l. xs ++ l) (ap chars is ∙ chars_ascii 125 (drop 1 ys) (omega arith));
      first = first_of_front xs (drop 1 ys) (ap (first_passes is_ascii_hexdigit) (ap (λ l. xs ++ l) (sym is) ∙ sym d.bytes) ∙ both.0);
      passes = d.passes;
    }

closed_split : (bs xs : List ℕ) (c : IsClosed bs xs) → Split (λ c. c == 125) (chars (drop 3 bs)) xs 125 c.rest
closed_split bs xs c = record { spells = sym c.characters; before = list_all-weaken _ _ not_brace xs c.passes; passes = refl }

closed_to_value : (byte_escapes allow_nul : Bool) (bs xs : List ℕ) → IsBraced bs → IsClosed bs xs → count_by is_ascii_hexdigit xs ≤ 6 →
    escape_refusal (switches true byte_escapes allow_nul) (chars bs)
    ≡ (if not (allows_value (switches true byte_escapes allow_nul) (hex_value xs)) then Some (spanning 0 (4 + length xs) DisallowedNulEscape)
    else if not (is_scalar (hex_value xs)) then Some (spanning 0 (4 + length xs) InvalidUnicodeEscapeChar) else None)
closed_to_value byte_escapes allow_nul bs xs b c few =
    braced_refusal (switches true byte_escapes allow_nul) bs b
    ∙ (to_inner byte_escapes allow_nul xs (chars (drop 3 bs)) 125 c.rest (closed_split bs xs c)
    ∙ (if_false _ _ _ (starts_inner xs c.first) ∙ (if_false _ _ _ (no_stranger xs c.passes) ∙ if_false _ _ _ (le-ltb _ _ few))))

pub value_nul_row : (byte_escapes allow_nul : Bool) (bs xs : List ℕ) → IsBraced bs → IsClosed bs xs → count_by is_ascii_hexdigit xs ≤ 6 →
    allows_value (switches true byte_escapes allow_nul) (hex_value xs) ≡ false → escape_refusal (switches true byte_escapes allow_nul) (chars bs) ≡ Some (spanning 0 (4 + length xs) DisallowedNulEscape)
value_nul_row byte_escapes allow_nul bs xs b c few never = closed_to_value byte_escapes allow_nul bs xs b c few ∙ if_true _ _ _ (ap not never)

pub value_row : (byte_escapes allow_nul : Bool) (bs xs : List ℕ) → IsBraced bs → IsClosed bs xs → count_by is_ascii_hexdigit xs ≤ 6 →
    allows_value (switches true byte_escapes allow_nul) (hex_value xs) ≡ true → is_scalar (hex_value xs) ≡ false →
    escape_refusal (switches true byte_escapes allow_nul) (chars bs) ≡ Some (spanning 0 (4 + length xs) InvalidUnicodeEscapeChar)
value_row byte_escapes allow_nul bs xs b c few allowed never =
    closed_to_value byte_escapes allow_nul bs xs b c few ∙ (if_false _ _ _ (ap not allowed) ∙ if_true _ _ _ (ap not never))

unicode_size : (xs : List ℕ) → list_all is_hex_or_underscore xs ≡ true → byte_len (92 ∷ 117 ∷ 123 ∷ (xs ++ 125 ∷ [])) ≡ 4 + length xs
unicode_size xs all =
    let a = byte_len_one_ascii 92 (117 ∷ 123 ∷ (xs ++ 125 ∷ [])) (omega arith) in
    let b = byte_len_one_ascii 117 (123 ∷ (xs ++ 125 ∷ [])) (omega arith) in
    let c = byte_len_one_ascii 123 (xs ++ 125 ∷ []) (omega arith) in
    let d = byte_len-append xs (125 ∷ []) in
    let e = byte_len_all_ascii is_hex_or_underscore hex_or_underscore_ascii xs all in
    let f : byte_len (125 ∷ []) ≡ 1 = byte_len_one_ascii 125 [] (omega arith) in
    omega arith

pub unicode_read : (byte_escapes allow_nul : Bool) (bs xs : List ℕ) (value len : ℕ) → IsUtf8 bs → IsBraced bs → IsClosed bs xs → count_by is_ascii_hexdigit xs ≤ 6 →
    hex_value xs ≡ value → length xs ≡ len → allows_value (switches true byte_escapes allow_nul) value ≡ true → is_scalar value ≡ true →
    IsUnescaped (switches true byte_escapes allow_nul) bs (Unicode value) (4 + len)
unicode_read byte_escapes allow_nul bs xs value len u b c few is_value is_len allowed scalar =
    let w = switches true byte_escapes allow_nul in
    unescaped w bs (unicode_escape xs) c.rest (Unicode value) (4 + len) u
    (b.characters ∙ ap (λ l. 92 ∷ 117 ∷ 123 ∷ l) (c.characters ∙ sym (append_assoc xs (125 ∷ []) c.rest)))
    (and_from _ _ (and_from _ _ (and_from _ _ (and_from _ _ c.first c.passes) (le-leb _ _ few)) (ap (allows_value w) is_value ∙ allowed)) (ap is_scalar is_value ∙ scalar))
    (ap Unicode is_value) (unicode_size xs c.passes ∙ ap (λ n. 4 + n) is_len)
