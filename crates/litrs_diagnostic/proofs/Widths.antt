-- The width of a character that is shown.
use Rattle.std.proofs.Common.{◌≡◌, ◌≤◌, ◌<◌, ◌/◌, ◌%◌, ℕ, Bool, true, false, cond, nat_lt, List, [], ◌∷◌, ◌++◌, length, refl, sym, ap, ◌∙◌, arith, lit<, lit≤, add-zero, lt-ltb, le-ltb, le-leb, ne_eqb, inl, inr}
use Rattle.std.specs.Char.{digit_char}
use Rattle.std.specs.Char.Escape.{escape_unicode, hex_digit_at}
use Rattle.std.specs.Char.Iter.{escape_rest, escape_steps}
use Rattle.std.specs.Iterator.{Drains}
use Rattle.std.proofs.lemmas.Bool.{cases_lt}
use Rattle.std.proofs.lemmas.Iterator.Consumers.{YieldsList-from_shown, count_from_yields_List}
use Rattle.std.proofs.lemmas.List.Sums.{sum_by-cons}
use Rattle.unicode_width.specs.Width.{char_width}
use Rattle.litrs_diagnostic.specs.Printable.{is_printable}
use Rattle.litrs_diagnostic.specs.Shown.{char_columns, columns, shown_char}

-- ---- which form a character is shown in

pub tab_is_shown : (c : ℕ) → c ≡ 9 → shown_char c ≡ 32 ∷ 32 ∷ 32 ∷ 32 ∷ []
unfolding shown_char
tab_is_shown c same = rw same refl

pub printable_is_shown : (c : ℕ) → (c ≡ 9 → ⊥) → is_printable c ≡ true → shown_char c ≡ c ∷ []
unfolding shown_char
printable_is_shown c other printable = rw (ne_eqb c 9 other) (rw printable refl)

pub escape_is_shown : (c : ℕ) → (c ≡ 9 → ⊥) → is_printable c ≡ false →
    shown_char c ≡ escape_unicode c
unfolding shown_char
escape_is_shown c other hidden = rw (ne_eqb c 9 other) (rw hidden refl)

-- ---- columns

tab_columns : columns (32 ∷ 32 ∷ 32 ∷ 32 ∷ []) ≡ 4
unfolding char_width
tab_columns = refl

pub tab_width : (c : ℕ) → c ≡ 9 → 4 ≡ columns (shown_char c)
tab_width c same = sym (ap columns (tab_is_shown c same) ∙ tab_columns)

pub printable_width : (c : ℕ) → (c ≡ 9 → ⊥) → is_printable c ≡ true →
    char_columns c ≡ columns (shown_char c)
printable_width c other printable =
    sym (ap columns (printable_is_shown c other printable)
    ∙ (sum_by-cons char_columns c [] ∙ add-zero (char_columns c)))

-- printable ASCII has one column
abbrev pub IsPlain : ℕ → Type 0
IsPlain c = (32 ≤ c) × (c < 127)

abbrev pub ArePlain : List ℕ → Type 0
ArePlain [] = Unit {0}
ArePlain (c ∷ cs) = IsPlain c × ArePlain cs

pub plain_column : (c : ℕ) → IsPlain c → char_columns c ≡ 1
unfolding char_width
plain_column c h = rw (lt-ltb c 127 h.1) (rw (le-leb 32 c h.0) refl)

plain_columns : (cs : List ℕ) → ArePlain cs → columns cs ≡ length cs
plain_columns [] h = refl
plain_columns (c ∷ cs) h =
    let one = plain_column c h.0 in
    let more = plain_columns cs h.1 in
    sum_by-cons char_columns c cs ∙ (omega (arith, one, more))

plain_cond : (b : Bool) (xs ys : List ℕ) → ArePlain xs → ArePlain ys → ArePlain (cond b xs ys)
plain_cond true xs ys h k = h
plain_cond false xs ys h k = k

digit_within : (d : ℕ) → d < 16 → IsPlain (digit_char d)
digit_within d h = elim (cases_lt d 10) [
  | inl low ↦ rw (lt-ltb d 10 low) (omega arith, omega arith)
  | inr high ↦ rw (le-ltb d 10 high) (omega arith, omega arith)
]

digit : (place c : ℕ) → IsPlain (hex_digit_at place c)
digit place c = digit_within (c / place % 16) (omega arith)

slash : IsPlain 92
slash = (lit≤ tt, lit< tt)

letter : IsPlain 117
letter = (lit≤ tt, lit< tt)

open_brace : IsPlain 123
open_brace = (lit≤ tt, lit< tt)

close_brace : IsPlain 125
close_brace = (lit≤ tt, lit< tt)

-- the digits of an escape by how many it has, and the escape of these digits
abbrev digits1 : ℕ → List ℕ
digits1 c = hex_digit_at 1 c ∷ []

abbrev digits2 : ℕ → List ℕ
digits2 c = hex_digit_at 0x10 c ∷ digits1 c

abbrev digits3 : ℕ → List ℕ
digits3 c = hex_digit_at 0x100 c ∷ digits2 c

abbrev digits4 : ℕ → List ℕ
digits4 c = hex_digit_at 0x1000 c ∷ digits3 c

abbrev digits5 : ℕ → List ℕ
digits5 c = hex_digit_at 0x1_0000 c ∷ digits4 c

abbrev digits6 : ℕ → List ℕ
digits6 c = hex_digit_at 0x10_0000 c ∷ digits5 c

abbrev braced : List ℕ → List ℕ
braced ds = 92 ∷ 117 ∷ 123 ∷ (ds ++ 125 ∷ [])

abbrev from5 : ℕ → List ℕ
from5 c = cond (nat_lt c 0x10_0000) (braced (digits5 c)) (braced (digits6 c))

abbrev from4 : ℕ → List ℕ
from4 c = cond (nat_lt c 0x1_0000) (braced (digits4 c)) (from5 c)

abbrev from3 : ℕ → List ℕ
from3 c = cond (nat_lt c 0x1000) (braced (digits3 c)) (from4 c)

abbrev from2 : ℕ → List ℕ
from2 c = cond (nat_lt c 0x100) (braced (digits2 c)) (from3 c)

plain1 : (c : ℕ) → ArePlain (digits1 c)
plain1 c = (digit 1 c, tt)

plain2 : (c : ℕ) → ArePlain (digits2 c)
plain2 c = (digit 0x10 c, plain1 c)

plain3 : (c : ℕ) → ArePlain (digits3 c)
plain3 c = (digit 0x100 c, plain2 c)

plain4 : (c : ℕ) → ArePlain (digits4 c)
plain4 c = (digit 0x1000 c, plain3 c)

plain5 : (c : ℕ) → ArePlain (digits5 c)
plain5 c = (digit 0x1_0000 c, plain4 c)

plain6 : (c : ℕ) → ArePlain (digits6 c)
plain6 c = (digit 0x10_0000 c, plain5 c)

plain_append : (xs ys : List ℕ) → ArePlain xs → ArePlain ys → ArePlain (xs ++ ys)
plain_append [] ys h k = k
plain_append (x ∷ xs) ys h k = (h.0, plain_append xs ys h.1 k)

plain_braced : (ds : List ℕ) → ArePlain ds → ArePlain (braced ds)
plain_braced ds h = (slash, (letter, (open_brace, plain_append ds (125 ∷ []) h (close_brace, tt))))

pub plain_escape : (c : ℕ) → ArePlain (escape_unicode c)
plain_escape c =
    plain_cond (nat_lt c 0x10) (braced (digits1 c)) (from2 c) (plain_braced (digits1 c) (plain1 c))
    (plain_cond (nat_lt c 0x100) (braced (digits2 c)) (from3 c)
    (plain_braced (digits2 c) (plain2 c))
    (plain_cond (nat_lt c 0x1000) (braced (digits3 c)) (from4 c)
    (plain_braced (digits3 c) (plain3 c))
    (plain_cond (nat_lt c 0x1_0000) (braced (digits4 c)) (from5 c)
    (plain_braced (digits4 c) (plain4 c))
    (plain_cond (nat_lt c 0x10_0000) (braced (digits5 c)) (braced (digits6 c))
    (plain_braced (digits5 c) (plain5 c))
    (plain_braced (digits6 c) (plain6 c))))))

pub escape_width : (c : ℕ) → (c ≡ 9 → ⊥) → is_printable c ≡ false →
    length (escape_unicode c) ≡ columns (shown_char c)
escape_width c other hidden =
    sym (ap columns (escape_is_shown c other hidden)
    ∙ plain_columns (escape_unicode c) (plain_escape c))

-- the number of characters of an escape
pub escape_count : (s : _) (count : ℕ) → (xs : List ℕ) × Drains escape_steps s xs ×
    (count ≡ length xs) → count ≡ length (escape_rest s)
escape_count s count ran =
    count_from_yields_List s count ran
    (YieldsList-from_shown escape_steps (λ c. c) escape_rest (λ s t h. rw h.1.0 refl)
    (λ s c t h. h.1.0) s)
