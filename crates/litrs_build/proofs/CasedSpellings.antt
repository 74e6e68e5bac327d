-- Spellings with hex digits in either case: each is an item with the value that it is of.
use Rattle.std.proofs.Common.{◌≡◌, ℕ, ◌/◌, ◌%◌, ◌<◌, Bool, true, false, List, [], ◌∷◌, ◌++◌, refl, sym, ap, ◌∙◌, subst, arith, inl, inr}
use Rattle.std.specs.Char.{digit_value, is_ascii_hexdigit, encode_utf8}
use Rattle.std.specs.Fmt.{digits, digit_glyph}
use Rattle.std.specs.List.{list_all}
use Rattle.std.specs.Prelude.{encode_utf8_all}
use Rattle.std.proofs.lemmas.Bool.{and_from, and_parts, cond_both, or_right, ltb-true, lt-ltb, true≢false}
use Rattle.std.proofs.lemmas.Bool.Decides.{nat_tests}
use Rattle.std.proofs.lemmas.List.{append_assoc}
use Rattle.std.proofs.lemmas.Str.{encode_ascii}
use lib.Utf8.{scalar, scalars}
use Rattle.litrs_base.specs.Characters.{is_ascii, is_scalar, is_blank, fits_charset}
use Rattle.litrs_base.specs.declared.quotes.Switches.{Switches}
use Rattle.litrs_grammar.specs.Escape.{Escape, simple_escape, hex_escape, unicode_escape, is_escape, is_simple, is_hex_or_underscore, pair_value, hex_value, simple_value, allows_byte, allows_value, escape_value, value_bytes}
use Rattle.litrs_grammar.specs.Quoted.{is_plain, is_item, item_text, item_value, takes_all_blanks}
use Rattle.litrs_grammar.proofs.Laws.Escape.{by_simple}
use Rattle.litrs_build.specs.Rewriting.{own_spelling, after_blanks}
use Rattle.litrs_build.specs.Spelling.{char_spelling, is_upper, cased_item}
use Rattle.litrs_build.specs.declared.rewriting.Before.{Before}
use Rattle.litrs_build.specs.declared.rewriting.Before.TheVariants.{Text, Mark, Continuation}
use Rattle.litrs_build.specs.declared.spelling.Spelling.{Spelling}
use Rattle.litrs_build.specs.declared.spelling.Spelling.TheVariants.{Plain, Simple, Hex, Unicode}
use Rattle.litrs_build.specs.declared.style.Case.{Case}
use Rattle.litrs_build.proofs.CasedDigits.{cased_glyph_passes, cased_digits_pass, cased_digits_begin, cased_numeral, cased_count, cased_value}
use Rattle.litrs_build.proofs.Spellings.{IsOther, spelling_by, scalar_small, scalars_all, scalars_append, or_true, all_append, encodes_ascii}

-- Numbers as escapes

pub cased_pair : (upper : Bool) (b : ℕ) → b < 256 →
    pair_value (digit_glyph upper (b / 16)) (digit_glyph upper (b % 16)) ≡ b
cased_pair upper b small =
    let high = cased_value upper (b / 16) (omega arith) in
    let low = cased_value upper (b % 16) (omega arith) in
    omega (arith, high, low)

cased_hex : (w : Switches) (upper : Bool) (b : ℕ) → b < 256 → allows_byte w b ≡ true →
    allows_value w b ≡ true →
    is_escape w (hex_escape (digit_glyph upper (b / 16)) (digit_glyph upper (b % 16))) ≡ true
cased_hex w upper b small byte value =
    let high = cased_glyph_passes upper is_ascii_hexdigit refl refl (b / 16) (omega arith) in
    let low = cased_glyph_passes upper is_ascii_hexdigit refl refl (b % 16) (omega arith) in
    let pair = cased_pair upper b small in
    and_from _ _ (and_from _ _ (and_from _ _ high low) (ap (allows_byte w) pair ∙ byte))
    (ap (allows_value w) pair ∙ value)

pub number_is : (upper : Bool) (c : ℕ) → scalar c ≡ true → hex_value (digits 16 upper c) ≡ c
number_is upper c e = let small = scalar_small c e in cased_numeral upper c (omega arith)

cased_unicode : (w : Switches) (upper : Bool) (c : ℕ) → w.unicode ≡ true → scalar c ≡ true →
    allows_value w c ≡ true → is_escape w (unicode_escape (digits 16 upper c)) ≡ true
cased_unicode w upper c unicode e value =
    let small = scalar_small c e in
    let number = number_is upper c e in
    let begins = cased_digits_begin upper c (omega arith) in
    let all = cased_digits_pass upper is_hex_or_underscore refl refl c in
    let count = cased_count upper c (omega arith) in
    and_from _ _ (and_from _ _ (and_from _ _ (and_from _ _ (and_from _ _ unicode begins) all) count)
    (ap (allows_value w) number ∙ value)) (ap is_scalar number ∙ e)

hex_small : (c : ℕ) → is_ascii_hexdigit c ≡ true → digit_value c < 16
hex_small c is = grind (arith, nat_tests)

pub pair_small : (high low : ℕ) → is_ascii_hexdigit high ≡ true → is_ascii_hexdigit low ≡ true →
    pair_value high low < 256
pair_small high low h l =
    let first = hex_small high h in let second = hex_small low l in omega (arith, first, second)

wide_unicode : (w : Switches) (c : ℕ) → fits_charset w.unicode c ≡ true → is_ascii c ≡ false →
    w.unicode ≡ true
wide_unicode w c charset high = elim (or_true w.unicode (is_ascii c) charset) [
  | inl is ↦ is
  | inr low ↦ absurd (true≢false (sym low ∙ high))
]

-- A spelling under switches, if these characters are written as themselves

abbrev pub Fits : Switches → (ℕ → Bool) → Spelling → Type 0
Fits w plain (Plain c) = (plain c ≡ true) × (scalar c ≡ true)
Fits w plain (Simple c) = is_escape w (simple_escape c) ≡ true
Fits w plain (Hex b) = (b < 256) × (allows_byte w b ≡ true) × (allows_value w b ≡ true)
Fits w plain (Unicode c) = (w.unicode ≡ true) × (scalar c ≡ true) × (allows_value w c ≡ true)

-- the value of a spelling, in bytes
abbrev pub spelling_value : Spelling → List ℕ
spelling_value (Plain c) = encode_utf8 c
spelling_value (Simple c) = simple_value c ∷ []
spelling_value (Hex b) = b ∷ []
spelling_value (Unicode c) = encode_utf8 c

pub cased_is_item : (w : Switches) (case : Case) (s : Spelling) → Fits w (is_plain w) s →
    is_item w (cased_item case s) ≡ true
cased_is_item w case (Plain c) fits = fits.0
cased_is_item w case (Simple c) fits = fits
cased_is_item w case (Hex b) fits = cased_hex w (is_upper case) b fits.0 fits.1 fits.2
cased_is_item w case (Unicode c) fits = cased_unicode w (is_upper case) c fits.0 fits.1 fits.2

pub cased_item_value : (w : Switches) (plain : ℕ → Bool) (case : Case) (s : Spelling) →
    Fits w plain s → item_value (cased_item case s) ≡ spelling_value s
cased_item_value w plain case (Plain c) fits = refl
cased_item_value w plain case (Simple c) fits = refl
cased_item_value w plain case (Hex b) fits =
    ap (λ (v : ℕ). v ∷ []) (cased_pair (is_upper case) b fits.0)
cased_item_value w plain case (Unicode c) fits =
    ap encode_utf8 (number_is (is_upper case) c fits.1)

pub cased_free : (case : Case) (s : Spelling) (x : List ℕ) →
    takes_all_blanks (cased_item case s) x ≡ true
cased_free case (Plain c) x = refl
cased_free case (Simple c) x = refl
cased_free case (Hex b) x = refl
cased_free case (Unicode c) x = refl

-- Their texts

simple_scalars : (c : ℕ) → is_simple c ≡ true → scalars (92 ∷ c ∷ []) ≡ true
simple_scalars c is = by_simple (λ c. scalars (92 ∷ c ∷ []) ≡ true) c is refl refl refl refl refl refl refl

pub cased_scalars : (w : Switches) (plain : ℕ → Bool) (case : Case) (s : Spelling) →
    Fits w plain s → scalars (item_text (cased_item case s)) ≡ true
cased_scalars w plain case (Plain c) fits = and_from _ _ fits.1 refl
cased_scalars w plain case (Simple c) fits = simple_scalars c (and_parts _ _ fits).0
cased_scalars w plain case (Hex b) fits =
    let small = fits.0 in
    and_from _ _ (cased_glyph_passes (is_upper case) scalar refl refl (b / 16) (omega arith))
    (and_from _ _ (cased_glyph_passes (is_upper case) scalar refl refl (b % 16) (omega arith)) refl)
cased_scalars w plain case (Unicode c) fits =
    scalars_append (digits 16 (is_upper case) c) (125 ∷ [])
    (scalars_all (digits 16 (is_upper case) c)
    (cased_digits_pass (is_upper case) scalar refl refl c)) refl

-- The spelling of an escape in its own form

pub own_fits : (w : Switches) (plain : ℕ → Bool) (e : Escape) → is_escape w e ≡ true →
    Fits w plain (own_spelling e)
own_fits w plain (simple_escape c) is = is
own_fits w plain (hex_escape high low) is =
    let value = and_parts _ _ is in
    let byte = and_parts _ _ value.0 in
    let both = and_parts (is_ascii_hexdigit high) (is_ascii_hexdigit low) byte.0 in
    (pair_small high low both.0 both.1, byte.1, value.1)
own_fits w plain (unicode_escape inner) is =
    let all = and_parts _ _ is in
    let value = and_parts _ _ all.0 in
    let count = and_parts _ _ value.0 in
    let digits = and_parts _ _ count.0 in
    ((and_parts w.unicode _ digits.0).0, all.1, value.1)

pub own_value : (e : Escape) → spelling_value (own_spelling e) ≡ value_bytes (escape_value e)
own_value (simple_escape c) = refl
own_value (hex_escape high low) = refl
own_value (unicode_escape inner) = refl

-- The spelling with only the escapes that are needed

-- a character fits switches that allow it unescaped if it has no short escape
pub char_fits : (w : Switches) (plain : ℕ → Bool) (q : ℕ) (m : Bool) (c : ℕ) → is_simple q ≡ true →
    simple_value q ≡ q → allows_value w q ≡ true →
    scalar c ≡ true → fits_charset w.unicode c ≡ true → allows_value w c ≡ true →
    (IsOther q c → plain c ≡ true) → Fits w plain (char_spelling q m c)
char_fits w plain q m c quote quote_value quote_allowed e charset value other =
    spelling_by q m c (Fits w plain)
    (λ is. subst (λ (n : ℕ). allows_value w n ≡ true) is value)
    (λ is. or_right w.allow_nul true refl) (λ is. or_right w.allow_nul true refl)
    (λ is. or_right w.allow_nul true refl)
    (λ is. subst (λ (n : ℕ). Fits w plain (Simple n)) (sym is)
    (and_from _ _ quote (ap (allows_value w) quote_value ∙ quote_allowed)))
    (λ is. subst (λ (n : ℕ). Fits w plain (Simple n)) (sym is) (or_right w.allow_nul true refl))
    (λ is shown. (other is, e))
    (λ is low. (let small = ltb-true c 128 low in omega arith, or_right w.byte_escapes _ low, value))
    (λ is high. (wide_unicode w c charset high, e, value))

-- the value of a character's spelling
pub char_spelling-value : (q : ℕ) (m : Bool) (c : ℕ) → simple_value q ≡ q →
    encode_utf8 q ≡ q ∷ [] → spelling_value (char_spelling q m c) ≡ encode_utf8 c
unfolding encode_utf8
char_spelling-value q m c quote_value quote_bytes =
    let P : Spelling → Type 0 = λ s. spelling_value s ≡ encode_utf8 c in
    let by : (d v : ℕ) → c ≡ v → simple_value d ∷ [] ≡ encode_utf8 v →
    P (Simple d) = λ d v is value. value ∙ ap encode_utf8 (sym is) in
    let mark : (d : ℕ) → c ≡ d → simple_value d ∷ [] ≡ encode_utf8 d → P (Simple c) =
    λ d is value. ap (λ (v : ℕ). simple_value v ∷ []) is ∙ (value ∙ ap encode_utf8 (sym is)) in
    spelling_by q m c P (λ is. by 48 0 is refl) (λ is. by 116 9 is refl) (λ is. by 110 10 is refl)
    (λ is. by 114 13 is refl)
    (λ is. mark q is (ap (λ (v : ℕ). v ∷ []) quote_value ∙ sym quote_bytes))
    (λ is. mark 92 is refl) (λ other shown. refl)
    (λ other low. sym (encode_ascii c (ltb-true c 128 low))) (λ other high. refl)

-- After a continuation

abbrev pub NotBlank : Spelling → Type 0
NotBlank (Plain c) = is_blank c ≡ false
NotBlank (Simple c) = Unit {0}
NotBlank (Hex b) = Unit {0}
NotBlank (Unicode c) = Unit {0}

-- A spelling that fits, with this value. After a continuation it does not start with a blank.
pub record IsSpelled (w : Switches) (plain : ℕ → Bool) (before : Before) (value : List ℕ)
    (s : Spelling) : Type 0 where
  pub fits : Fits w plain s
  pub is_value : spelling_value s ≡ value
  pub safe : before ≡ Continuation → NotBlank s

pub blank_small : (c : ℕ) → is_blank c ≡ true → c < 128
blank_small c is = grind (arith, nat_tests)

pub after_blanks_spelled : (w : Switches) (plain : ℕ → Bool) (before : Before) (value : List ℕ)
    (s : Spelling) → ((c : ℕ) → plain c ≡ true → allows_value w c ≡ true) → Fits w plain s →
    spelling_value s ≡ value → IsSpelled w plain before value (after_blanks before s)
after_blanks_spelled w plain Text value s allowed fits is =
    record { fits = fits; is_value = is; safe = λ other. cc }
after_blanks_spelled w plain Mark value s allowed fits is =
    record { fits = fits; is_value = is; safe = λ other. cc }
after_blanks_spelled w plain Continuation value (Plain c) allowed fits is =
    cond_both (is_blank c) (Hex c) (Plain c) (IsSpelled w plain Continuation value)
    (λ blank. let low = blank_small c blank in record {
      fits = (omega arith, or_right w.byte_escapes (is_ascii c) (lt-ltb c 128 low), allowed c fits.0);
      is_value = sym (encode_ascii c low) ∙ is;
      safe = λ same. tt;
    })
    (λ other. record { fits = fits; is_value = is; safe = λ same. other })
after_blanks_spelled w plain Continuation value (Simple c) allowed fits is =
    record { fits = fits; is_value = is; safe = λ same. tt }
after_blanks_spelled w plain Continuation value (Hex b) allowed fits is =
    record { fits = fits; is_value = is; safe = λ same. tt }
after_blanks_spelled w plain Continuation value (Unicode c) allowed fits is =
    record { fits = fits; is_value = is; safe = λ same. tt }

-- `\u{`, the digits and `}`, byte by byte

pub unicode_pushed : (case : Case) (s : Spelling) (c n : ℕ) (old one two three : List ℕ) →
    s ≡ Unicode c → n ≡ c → one ≡ old ++ (92 ∷ 117 ∷ 123 ∷ []) →
    two ≡ one ++ digits 16 (is_upper case) n → three ≡ two ++ encode_utf8 125 →
    three ≡ old ++ encode_utf8_all (item_text (cased_item case s))
unfolding encode_utf8
unicode_pushed case s c n old one two three spelled number first second third =
    let front : List ℕ = 92 ∷ 117 ∷ 123 ∷ [] in
    let ds = digits 16 (is_upper case) c in
    let ascii : list_all is_ascii (front ++ (ds ++ 125 ∷ [])) ≡ true =
    all_append is_ascii ds (125 ∷ []) (cased_digits_pass (is_upper case) is_ascii refl refl c) refl in
    let grouped : ((old ++ front) ++ ds) ++ 125 ∷ [] ≡ old
    ++ (front ++ (ds ++ 125 ∷ [])) = simp append_assoc in
    third ∙ (ap (λ (x : List ℕ). x ++ encode_utf8 125) (second
    ∙ ap (λ (x : List ℕ). x ++ digits 16 (is_upper case) n) first)
    ∙ (ap (λ (m : ℕ). ((old ++ front) ++ digits 16 (is_upper case) m) ++ 125 ∷ []) number
    ∙ (grouped ∙ (ap (λ (x : List ℕ). old ++ x)
    (sym (encodes_ascii (front ++ (ds ++ 125 ∷ [])) ascii))
    ∙ ap (λ (v : Spelling). old ++ encode_utf8_all (item_text (cased_item case v))) (sym spelled)))))
