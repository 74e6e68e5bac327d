-- White space at the front of a text: its ASCII characters may be passed over by their bytes. The first byte.
use Rattle.std.proofs.Common.{◌≡◌, ℕ, suc, ◌+◌, ◌<◌, ◌≤◌, Bool, true, false, cond, List, [], ◌∷◌, ◌++◌, length, drop, slice_index_or, refl, sym, ap, subst, ◌∙◌, arith}
use Rattle.std.specs.Prelude.{◌||◌, encode_utf8}
use Rattle.std.specs.List.{prefix_len}
use Rattle.std.specs.Str.{chars, IsUtf8, IsCharBoundary}
use Rattle.std.proofs.lemmas.Bool.Decides.{nat_tests}
use Rattle.std.proofs.lemmas.Str.{IsCharBoundary-from_drop, chars-nil, encode_ascii}
use Rattle.litrs_base.proofs.Chars.{chars_ascii, utf8_after_ascii, OnlyAscii, first_passes-chars, ascii_from_test, passing_front, prefix_len-chars}
use Rattle.litrs_base.proofs.ListTests.{if_true, if_false}
use Rattle.litrs_base.specs.Text.{first_passes}
use Rattle.litrs_grammar.proofs.Laws.Integer.{first_passes-rest}
use Rattle.litrs_prefix.specs.Opens.{is_single_quote}
use Rattle.litrs_prefix.specs.Prefix.{is_quote_or_hash}
use Rattle.litrs_lexer.specs.Cut.{is_wide, is_ascii_white_space, IsFirstChar}
use Rattle.litrs_lexer.specs.Whitespace.{is_white_space, after_while, after_white_space}

-- the second test is the first one on ASCII, and fails elsewhere
record IsAsciiPart (p q : ℕ → Bool) : Type 0 where
  ascii : OnlyAscii q
  alike : (c : ℕ) → c < 128 → p c ≡ q c

skip_more : (c : ℕ) (n : ℕ) (t : List ℕ) → drop (1 + n) (c ∷ t) ≡ drop n t
skip_more c n t = let e : 1 + n ≡ suc n = omega arith in ap (λ (k : ℕ). drop k (c ∷ t)) e

run_from : (p q : ℕ → Bool) → IsAsciiPart p q → (t : List ℕ) → after_while p t ≡ after_while p (drop (prefix_len q t) t)
run_from p q part [] = refl
run_from p q part (c ∷ t) = go (q c) refl (run_from p q part t)
  where
    go : (b : Bool) → q c ≡ b → after_while p t ≡ after_while p (drop (prefix_len q t) t) →
        after_while p (c ∷ t) ≡ after_while p (drop (cond b (1 + prefix_len q t) 0) (c ∷ t))
    go true e rec = if_true (p c) (after_while p t) (c ∷ t) (part.alike c (ascii_from_test q c part.ascii e) ∙ e) ∙ (rec ∙ ap (after_while p) (sym (skip_more c (prefix_len q t) t)))
    go false e rec = refl

-- the place at which the text is cut after the ASCII characters
run_cut : (p q : ℕ → Bool) → IsAsciiPart p q → (bs : List ℕ) (n : ℕ) → IsUtf8 bs → n ≡ prefix_len q bs → IsCharBoundary bs n × (after_while p (chars (drop n bs)) ≡ after_while p (chars bs))
run_cut p q part bs n u is =
    let m : ℕ = prefix_len q bs in
    let f = passing_front q bs part.ascii u in
    let same : after_while p (chars (drop m bs)) ≡ after_while p (chars bs) =
    ap (after_while p) (sym f.rest) ∙ (ap (λ (k : ℕ). after_while p (drop k (chars bs))) (sym (prefix_len-chars q bs part.ascii u)) ∙ sym (run_from p q part (chars bs))) in
    subst (λ (k : ℕ). IsCharBoundary bs k × (after_while p (chars (drop k bs)) ≡ after_while p (chars bs))) (sym is) (IsCharBoundary-from_drop bs m f.within f.utf8, same)

-- no more characters pass before an ASCII character that does not
ends_at : (p q : ℕ → Bool) → IsAsciiPart p q → (bs : List ℕ) → first_passes q bs ≡ false → first_passes is_wide bs ≡ false → after_while p (chars bs) ≡ chars bs
ends_at p q part [] a b = ap (after_while p) chars-nil ∙ sym chars-nil
ends_at p q part (c ∷ bs) a b =
    let low : c < 128 = grind (arith, nat_tests) in
    ap (after_while p) (chars_ascii c bs low) ∙ (if_false (p c) (after_while p (chars bs)) (c ∷ chars bs) (part.alike c low ∙ a) ∙ sym (chars_ascii c bs low))

run_ends : (p q : ℕ → Bool) → IsAsciiPart p q → (bs rest : List ℕ) (n : ℕ) → IsUtf8 bs → n ≡ prefix_len q bs → rest ≡ drop n bs → first_passes is_wide rest ≡ false → chars rest ≡ after_while p (chars bs)
run_ends p q part bs rest n u is back narrow =
    let stops : first_passes q rest ≡ false = ap (first_passes q) (back ∙ ap (λ (k : ℕ). drop k bs) is) ∙ first_passes-rest q bs in
    sym (ends_at p q part rest stops narrow) ∙ (ap (λ (l : List ℕ). after_while p (chars l)) back ∙ (run_cut p q part bs n u is).1)

-- white space

white_part : IsAsciiPart is_white_space is_ascii_white_space
white_part = record { ascii = λ c wide. grind (arith, nat_tests); alike = λ c low. grind (arith, nat_tests) }

pub white_cut : (bs : List ℕ) (n : ℕ) → IsUtf8 bs → n ≡ prefix_len is_ascii_white_space bs → IsCharBoundary bs n × (after_white_space (chars (drop n bs)) ≡ after_white_space (chars bs))
white_cut = run_cut is_white_space is_ascii_white_space white_part

pub white_ends : (bs rest : List ℕ) (n : ℕ) → IsUtf8 bs → n ≡ prefix_len is_ascii_white_space bs → rest ≡ drop n bs → first_passes is_wide rest ≡ false → chars rest ≡ after_white_space (chars bs)
white_ends = run_ends is_white_space is_ascii_white_space white_part

neither : (a b : Bool) → (a || b) ≡ false → (a ≡ false) × (b ≡ false)
neither true b h = cc
neither false b h = (refl, h)

-- no white space
pub white_none : (bs : List ℕ) → (first_passes is_ascii_white_space bs || first_passes is_wide bs) ≡ false → chars bs ≡ after_white_space (chars bs)
white_none bs h =
    let both = neither (first_passes is_ascii_white_space bs) (first_passes is_wide bs) h in
    sym (ends_at is_white_space is_ascii_white_space white_part bs both.0 both.1)

-- the first byte

pub marks_are_ascii : OnlyAscii is_quote_or_hash
marks_are_ascii c wide = grind (arith, nat_tests)

pub quote_is_ascii : OnlyAscii is_single_quote
quote_is_ascii c wide = grind (arith, nat_tests)

first_of : (p : ℕ → Bool) → OnlyAscii p → (bs : List ℕ) → IsUtf8 bs → 1 ≤ length bs → p (slice_index_or bs 0 0) ≡ first_passes p (chars bs)
first_of p ascii [] u some = absurd (omega arith)
first_of p ascii (b ∷ bs) u some = sym (first_passes-chars p (b ∷ bs) ascii u)

pub first_byte : (p : ℕ → Bool) → OnlyAscii p → (text bs : List ℕ) → IsUtf8 text → bs ≡ text → 1 ≤ length bs → p (slice_index_or bs 0 0) ≡ first_passes p (chars text)
first_byte p ascii text bs u same some = first_of p ascii bs (subst IsUtf8 (sym same) u) some ∙ ap (λ (l : List ℕ). first_passes p (chars l)) same

none_of : (p : ℕ → Bool) (bs : List ℕ) → IsUtf8 bs → length bs < 1 → false ≡ first_passes p (chars bs)
none_of p [] u none = sym (ap (first_passes p) chars-nil)
none_of p (b ∷ bs) u none = absurd (omega arith)

pub no_first_byte : (p : ℕ → Bool) (text bs : List ℕ) → IsUtf8 text → bs ≡ text → length bs < 1 → false ≡ first_passes p (chars text)
no_first_byte p text bs u same none = none_of p bs (subst IsUtf8 (sym same) u) none ∙ ap (λ (l : List ℕ). first_passes p (chars l)) same

boundary_of : (bs : List ℕ) → IsUtf8 bs → 1 ≤ length bs → slice_index_or bs 0 0 < 128 → IsCharBoundary bs 1
boundary_of [] u some low = absurd (omega arith)
boundary_of (b ∷ bs) u some low = IsCharBoundary-from_drop (b ∷ bs) 1 some (utf8_after_ascii b bs low u)

pub ascii_boundary : (text bs : List ℕ) → IsUtf8 text → bs ≡ text → 1 ≤ length bs → slice_index_or bs 0 0 < 128 → IsCharBoundary text 1
ascii_boundary text bs u same some low = subst (λ (l : List ℕ). IsCharBoundary l 1) same (boundary_of bs (subst IsUtf8 (sym same) u) some low)

char_of : (bs : List ℕ) (c : ℕ) (rest : List ℕ) → 1 ≤ length bs → slice_index_or bs 0 0 < 128 → c ≡ slice_index_or bs 0 0 → rest ≡ drop 1 bs → IsFirstChar bs c rest
char_of [] c rest some low is back = absurd (omega arith)
char_of (b ∷ bs) c rest some low is back =
    let same : rest ≡ bs = back in record {
      bytes = sym (ap (λ (l : List ℕ). l ++ rest) (ap encode_utf8 is ∙ encode_ascii b low) ∙ ap (λ (l : List ℕ). b ∷ l) same);
      is = chars_ascii b bs low ∙ (λ i. sym is i ∷ chars (sym same i));
    }

pub ascii_char : (text bs : List ℕ) (c : ℕ) (rest : List ℕ) → bs ≡ text → 1 ≤ length bs → slice_index_or bs 0 0 < 128 → c ≡ slice_index_or bs 0 0 → rest ≡ drop 1 text → IsFirstChar text c rest
ascii_char text bs c rest same some low is back =
    subst (λ (l : List ℕ). IsFirstChar l c rest) same (char_of bs c rest some low is (back ∙ ap (drop 1) (sym same)))
