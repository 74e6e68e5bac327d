-- Each spelling is an escape or a character of its kind, with the value that it is of.
use Rattle.std.proofs.Common.{◌≡◌, ℕ, ◌/◌, ◌%◌, ◌<◌, Bool, true, false, not, ◌&&◌, ◌||◌, eqb, List, [], ◌∷◌, ◌++◌, refl, sym, ap, ◌∙◌, arith}
use Rattle.std.specs.Char.{digit_value, is_ascii_hexdigit, encode_utf8}
use Rattle.std.specs.Fmt.{digits}
use Rattle.std.specs.List.{list_all}
use Rattle.std.specs.Str.{encode_utf8_all}
use Rattle.std.proofs.lemmas.Bool.{and_from, and_parts, cond_both, eqb-true, eqb-false, ltb-true}
use Rattle.std.proofs.lemmas.Str.{encode_ascii}
use lib.Utf8.{scalar, scalars, scalar_cases, low_scalar}
use Rattle.litrs_base.specs.Characters.{is_ascii, is_scalar}
use Rattle.litrs_base.specs.declared.quotes.Switches.{Switches}
use Rattle.litrs_base.specs.Quotes.{char_switches, byte_switches, string_switches, byte_string_switches, c_string_switches, char_switches_of}
use Rattle.litrs_base.specs.declared.quotes.CharKind.{CharKind}
use Rattle.litrs_base.specs.declared.quotes.CharKind.TheVariants.{Char as char_kind, Byte as byte_kind}
use Rattle.litrs_grammar.specs.Escape.{simple_escape, hex_escape, unicode_escape, is_escape, is_hex_or_underscore, pair_value}
use Rattle.litrs_build.specs.declared.spelling.Spelling.{Spelling}
use Rattle.litrs_build.specs.declared.spelling.Spelling.TheVariants.{Plain, Simple, Hex, Unicode}
use Rattle.litrs_build.specs.declared.style.Case.TheVariants.{Lower}
use Rattle.litrs_build.specs.Spelling.{char_spelling, byte_spelling, is_shown, cased_digit}
use Rattle.litrs_build.proofs.HexDigits.{glyph_passes, digits_pass, digits_begin, digits-numeral, digits_count}
use Rattle.std.proofs.Common.{◌⊎◌, inl, inr}
use Rattle.std.proofs.lemmas.Bool.{true≢false}
use Rattle.std.proofs.lemmas.Str.{digit_value-digit_char}
use Rattle.litrs_grammar.specs.Escape.{simple_value, allows_byte, allows_value, hex_value}
use Rattle.litrs_grammar.specs.CharByte.{is_special_whitespace, allows_char, char_value, char_item_text, is_char_item}
use Rattle.litrs_grammar.specs.Quoted.{is_plain, is_item, item_text, item_value, takes_all_blanks}
use Rattle.litrs_build.specs.Spelling.{spelled_item, spelled_char}

-- Tests

pub or_true : (a b : Bool) → (a || b) ≡ true → (a ≡ true) ⊎ (b ≡ true)
or_true true b e = inl refl
or_true false b e = inr e

pub or_false : (a b : Bool) → (a || b) ≡ false → (a ≡ false) × (b ≡ false)
or_false true b e = absurd (true≢false e)
or_false false b e = (refl, e)

-- The spelling of a character

-- a character that has no short escape
pub record IsOther (q c : ℕ) : Type 0 where
  pub nul : eqb c 0 ≡ false
  pub tab : eqb c 9 ≡ false
  pub line_feed : eqb c 10 ≡ false
  pub return : eqb c 13 ≡ false
  pub quote : eqb c q ≡ false
  pub backslash : eqb c 92 ≡ false

-- a property of the six rows of short escapes and of the three below is one of a character's
pub spelling_by : (q : ℕ) (m : Bool) (c : ℕ) (P : Spelling → Type 0) →
    (c ≡ 0 → P (Simple 48)) → (c ≡ 9 → P (Simple 116)) → (c ≡ 10 → P (Simple 110)) →
    (c ≡ 13 → P (Simple 114)) →
    (c ≡ q → P (Simple c)) → (c ≡ 92 → P (Simple c)) →
    (IsOther q c → is_shown m c ≡ true → P (Plain c)) →
    (IsOther q c → is_ascii c ≡ true → P (Hex c)) →
    (IsOther q c → is_ascii c ≡ false → P (Unicode c)) → P (char_spelling q m c)
unfolding char_spelling
spelling_by q m c P nul tab line_feed return quote backslash plain hex unicode =
    cond_both (eqb c 0) _ _ P (λ e. nul (eqb-true c 0 e)) (λ n0.
    cond_both (eqb c 9) _ _ P (λ e. tab (eqb-true c 9 e)) (λ n9.
    cond_both (eqb c 10) _ _ P (λ e. line_feed (eqb-true c 10 e)) (λ n10.
    cond_both (eqb c 13) _ _ P (λ e. return (eqb-true c 13 e)) (λ n13.
    cond_both (eqb c q || eqb c 92) _ _ P
    (λ e. elim (or_true (eqb c q) (eqb c 92) e) [
      | inl is ↦ quote
          (eqb-true c q is)
      | inr is ↦ backslash (eqb-true c 92 is)
    ])
    (λ marks.
    let none = or_false (eqb c q) (eqb c 92) marks in
    let other : IsOther q c =
    record {
      nul = n0;
      tab = n9;
      line_feed = n10;
      return = n13;
      quote = none.0;
      backslash = none.1;
    } in
    cond_both (is_shown m c) _ _ P (λ e. plain other e) (λ hidden.
    cond_both (is_ascii c) _ _ P (λ e. hex other e) (λ e. unicode other e)))))))

-- Numbers as escapes

pub pair_is : (b : ℕ) → b < 256 → pair_value (cased_digit Lower (b / 16)) (cased_digit Lower (b % 16)) ≡ b
pair_is b small =
    let high : digit_value (cased_digit Lower (b / 16))
    ≡ b / 16 = digit_value-digit_char (b / 16) (omega arith) in
    let low : digit_value (cased_digit Lower (b % 16))
    ≡ b % 16 = digit_value-digit_char (b % 16) (omega arith) in
    omega (arith, high, low)

hex_fits : (w : Switches) (b : ℕ) → b < 256 → allows_byte w b ≡ true → allows_value w b ≡ true →
    is_escape w (hex_escape (cased_digit Lower (b / 16)) (cased_digit Lower (b % 16))) ≡ true
hex_fits w b small byte value =
    let high = glyph_passes is_ascii_hexdigit refl (b / 16) (omega arith) in
    let low = glyph_passes is_ascii_hexdigit refl (b % 16) (omega arith) in
    let pair = pair_is b small in
    and_from _ _ (and_from _ _ (and_from _ _ high low) (ap (allows_byte w) pair ∙ byte))
    (ap (allows_value w) pair ∙ value)

pub scalar_small : (c : ℕ) → scalar c ≡ true → c < 1114112
scalar_small c e = elim (scalar_cases c e) [ inl low ↦ omega arith | inr high ↦ high.1 ]

number_is : (c : ℕ) → scalar c ≡ true → hex_value (digits 16 false c) ≡ c
number_is c e = let small = scalar_small c e in digits-numeral c (omega arith)

unicode_fits : (w : Switches) (c : ℕ) → w.unicode ≡ true → scalar c ≡ true →
    allows_value w c ≡ true →
    is_escape w (unicode_escape (digits 16 false c)) ≡ true
unicode_fits w c unicode e value =
    let small = scalar_small c e in
    let number = number_is c e in
    let begins = digits_begin is_ascii_hexdigit refl c (omega arith) in
    let all = digits_pass is_hex_or_underscore refl c in
    let count = digits_count c (omega arith) in
    and_from _ _ (and_from _ _ (and_from _ _ (and_from _ _ (and_from _ _ unicode begins) all) count)
    (ap (allows_value w) number ∙ value)) (ap is_scalar number ∙ e)

-- A spelling under switches, if these characters are written as themselves

abbrev fits : Switches → (ℕ → Bool) → Spelling → Bool
fits w plain (Plain c) = plain c
fits w plain (Simple c) = is_escape w (simple_escape c)
fits w plain (Hex b) = is_escape w (hex_escape (cased_digit Lower (b / 16)) (cased_digit Lower (b % 16)))
fits w plain (Unicode c) = is_escape w (unicode_escape (digits 16 false c))

item_fits : (w : Switches) (s : Spelling) → is_item w (spelled_item s) ≡ fits w (is_plain w) s
item_fits w (Plain c) = refl
item_fits w (Simple c) = refl
item_fits w (Hex b) = refl
item_fits w (Unicode c) = refl

-- a character that may be unescaped between single quotes
abbrev plain_char_in : CharKind → ℕ → Bool
plain_char_in kind c = not (eqb c 39) && not (eqb c 92) && not (is_special_whitespace c)
    && allows_char kind c

char_item_fits : (kind : CharKind) (s : Spelling) →
    is_char_item kind (spelled_char s) ≡ fits (char_switches_of kind) (plain_char_in kind) s
char_item_fits kind (Plain c) = refl
char_item_fits kind (Simple c) = refl
char_item_fits kind (Hex b) = refl
char_item_fits kind (Unicode c) = refl

pub spelled_free : (s : Spelling) (x : List ℕ) → takes_all_blanks (spelled_item s) x ≡ true
spelled_free (Plain c) x = refl
spelled_free (Simple c) x = refl
spelled_free (Hex b) x = refl
spelled_free (Unicode c) x = refl

-- The text of a spelling is one of scalar values

pub scalars_all : (t : List ℕ) → list_all scalar t ≡ true → scalars t ≡ true
scalars_all [] all = refl
scalars_all (c ∷ t) all =
    let both = and_parts (scalar c) (list_all scalar t) all in and_from _ _ both.0
    (scalars_all t both.1)

pub scalars_append : (s t : List ℕ) → scalars s ≡ true → scalars t ≡ true → scalars (s ++ t) ≡ true
scalars_append [] t a b = b
scalars_append (c ∷ s) t a b =
    let both = and_parts (scalar c) (scalars s) a in and_from _ _ both.0
    (scalars_append s t both.1 b)

abbrev IsText : Spelling → Type 0
IsText s = scalars (item_text (spelled_item s)) ≡ true

pub hex_text : (b : ℕ) → b < 256 → IsText (Hex b)
hex_text b small =
    and_from _ _ (glyph_passes scalar refl (b / 16) (omega arith))
    (and_from _ _ (glyph_passes scalar refl (b % 16) (omega arith)) refl)

unicode_text : (c : ℕ) → IsText (Unicode c)
unicode_text c = scalars_append (digits 16 false c) (125 ∷ [])
    (scalars_all (digits 16 false c) (digits_pass scalar refl c)) refl

below_256 : (c : ℕ) → is_ascii c ≡ true → c < 256
below_256 c e = let low = ltb-true c 128 e in omega arith

pub char_text_scalars : (m : Bool) (c : ℕ) (q : ℕ) → scalar c ≡ true →
    scalars (item_text (spelled_item (char_spelling q m c))) ≡ true
char_text_scalars m c q e =
    let one : scalars (c ∷ []) ≡ true = and_from _ _ e refl in
    spelling_by q m c IsText (λ is. refl) (λ is. refl) (λ is. refl) (λ is. refl) (λ is. one)
    (λ is. one)
    (λ other shown. one) (λ other low. hex_text c (below_256 c low)) (λ other high. unicode_text c)

pub byte_text_scalars : (b : ℕ) (q : ℕ) → b < 256 →
    scalars (item_text (spelled_item (byte_spelling q b))) ≡ true
unfolding byte_spelling
byte_text_scalars b q small =
    cond_both (is_ascii b) (char_spelling q false b) (Hex b) IsText
    (λ low. char_text_scalars false b q (low_scalar b (omega arith))) (λ high. hex_text b small)

-- Characters in strings

abbrev FitsString : Spelling → Type 0
FitsString s = fits string_switches (is_plain string_switches) s ≡ true

simple_fits : (w : Switches) (plain : ℕ → Bool) (c d : ℕ) → c ≡ d → fits w plain (Simple d) ≡ true →
    fits w plain (Simple c) ≡ true
simple_fits w plain c d is fit = ap (λ (v : ℕ). fits w plain (Simple v)) is ∙ fit

string_fits : (m : Bool) (c : ℕ) → scalar c ≡ true → FitsString (char_spelling 34 m c)
string_fits m c e =
    let w = string_switches in
    spelling_by 34 m c FitsString (λ is. refl) (λ is. refl) (λ is. refl) (λ is. refl)
    (λ is. simple_fits w (is_plain w) c 34 is refl) (λ is. simple_fits w (is_plain w) c 92 is refl)
    (λ other shown. simp (other.quote, other.backslash, other.return))
    (λ other low. hex_fits w c (below_256 c low) low refl)
    (λ other high. unicode_fits w c refl e refl)

pub string_item : (m : Bool) (c : ℕ) → scalar c ≡ true →
    is_item string_switches (spelled_item (char_spelling 34 m c)) ≡ true
string_item m c e = item_fits string_switches (char_spelling 34 m c) ∙ string_fits m c e

pub string_item_value : (m : Bool) (c : ℕ) → scalar c ≡ true →
    item_value (spelled_item (char_spelling 34 m c)) ≡ encode_utf8 c
unfolding encode_utf8
string_item_value m c e =
    let P : Spelling → Type 0 = λ s. item_value (spelled_item s) ≡ encode_utf8 c in
    let by : (d v : ℕ) → c ≡ v → simple_value d ∷ [] ≡ encode_utf8 v →
    P (Simple d) = λ d v is value. value ∙ ap encode_utf8 (sym is) in
    let mark : (d : ℕ) → c ≡ d → simple_value d ∷ [] ≡ encode_utf8 d → P (Simple c) =
    λ d is value. ap (λ (v : ℕ). simple_value v ∷ []) is ∙ (value ∙ ap encode_utf8 (sym is)) in
    spelling_by 34 m c P (λ is. by 48 0 is refl) (λ is. by 116 9 is refl) (λ is. by 110 10 is refl)
    (λ is. by 114 13 is refl)
    (λ is. mark 34 is refl) (λ is. mark 92 is refl) (λ other shown. refl)
    (λ other low. ap (λ (v : ℕ). v ∷ []) (pair_is c (below_256 c low))
    ∙ sym (encode_ascii c (ltb-true c 128 low)))
    (λ other high. ap encode_utf8 (number_is c e))

-- Bytes in byte strings

abbrev FitsByteString : Spelling → Type 0
FitsByteString s = fits byte_string_switches (is_plain byte_string_switches) s ≡ true

byte_string_fits : (b : ℕ) → b < 256 → FitsByteString (byte_spelling 34 b)
unfolding byte_spelling
byte_string_fits b small =
    let w = byte_string_switches in
    cond_both (is_ascii b) (char_spelling 34 false b) (Hex b) FitsByteString
    (λ low. spelling_by 34 false b FitsByteString (λ is. refl) (λ is. refl) (λ is. refl)
    (λ is. refl)
    (λ is. simple_fits w (is_plain w) b 34 is refl) (λ is. simple_fits w (is_plain w) b 92 is refl)
    (λ other shown. simp (other.quote, other.backslash, other.return, low))
    (λ other low. hex_fits w b small refl refl)
    (λ other high. absurd (true≢false (sym low ∙ high))))
    (λ high. hex_fits w b small refl refl)

pub byte_string_item : (b : ℕ) → b < 256 →
    is_item byte_string_switches (spelled_item (byte_spelling 34 b)) ≡ true
byte_string_item b small = item_fits byte_string_switches (byte_spelling 34 b)
    ∙ byte_string_fits b small

pub byte_string_item_value : (b : ℕ) → b < 256 →
    item_value (spelled_item (byte_spelling 34 b)) ≡ b ∷ []
unfolding byte_spelling
byte_string_item_value b small =
    let P : Spelling → Type 0 = λ s. item_value (spelled_item s) ≡ b ∷ [] in
    cond_both (is_ascii b) (char_spelling 34 false b) (Hex b) P
    (λ low. string_item_value false b (low_scalar b (omega arith))
    ∙ encode_ascii b (ltb-true b 128 low))
    (λ high. ap (λ (v : ℕ). v ∷ []) (pair_is b small))

-- Characters and bytes in C strings

abbrev FitsCString : Spelling → Type 0
FitsCString s = fits c_string_switches (is_plain c_string_switches) s ≡ true

c_string_fits : (m : Bool) (c : ℕ) → scalar c ≡ true → eqb c 0 ≡ false →
    FitsCString (char_spelling 34 m c)
c_string_fits m c e nul =
    let w = c_string_switches in
    spelling_by 34 m c FitsCString (λ is. absurd (eqb-false c 0 nul is)) (λ is. refl) (λ is. refl)
    (λ is. refl)
    (λ is. simple_fits w (is_plain w) c 34 is refl) (λ is. simple_fits w (is_plain w) c 92 is refl)
    (λ other shown. simp (other.quote, other.backslash, other.return, other.nul))
    (λ other low. hex_fits w c (below_256 c low) refl (ap not other.nul))
    (λ other high. unicode_fits w c refl e (ap not other.nul))

pub c_string_item : (m : Bool) (c : ℕ) → scalar c ≡ true → eqb c 0 ≡ false →
    is_item c_string_switches (spelled_item (char_spelling 34 m c)) ≡ true
c_string_item m c e nul = item_fits c_string_switches (char_spelling 34 m c)
    ∙ c_string_fits m c e nul

pub c_byte_item : (b : ℕ) → b < 256 → eqb b 0 ≡ false →
    is_item c_string_switches (spelled_item (Hex b)) ≡ true
c_byte_item b small nul = hex_fits c_string_switches b small refl (ap not nul)

-- Chars and bytes

abbrev FitsChar : CharKind → Spelling → Type 0
FitsChar kind s = fits (char_switches_of kind) (plain_char_in kind) s ≡ true

char_fits : (c : ℕ) → scalar c ≡ true → FitsChar char_kind (char_spelling 39 true c)
char_fits c e =
    let w = char_switches in
    let plain = plain_char_in char_kind in
    spelling_by 39 true c (FitsChar char_kind) (λ is. refl) (λ is. refl) (λ is. refl) (λ is. refl)
    (λ is. simple_fits w plain c 39 is refl) (λ is. simple_fits w plain c 92 is refl)
    (λ other shown. simp (other.quote, other.backslash, other.line_feed, other.tab, other.return))
    (λ other low. hex_fits w c (below_256 c low) low refl)
    (λ other high. unicode_fits w c refl e refl)

pub char_item : (c : ℕ) → scalar c ≡ true →
    is_char_item char_kind (spelled_char (char_spelling 39 true c)) ≡ true
char_item c e = char_item_fits char_kind (char_spelling 39 true c) ∙ char_fits c e

byte_fits : (b : ℕ) → b < 256 → FitsChar byte_kind (byte_spelling 39 b)
unfolding byte_spelling
byte_fits b small =
    let w = byte_switches in
    let plain = plain_char_in byte_kind in
    cond_both (is_ascii b) (char_spelling 39 false b) (Hex b) (FitsChar byte_kind)
    (λ low. spelling_by 39 false b (FitsChar byte_kind) (λ is. refl) (λ is. refl) (λ is. refl)
    (λ is. refl)
    (λ is. simple_fits w plain b 39 is refl) (λ is. simple_fits w plain b 92 is refl)
    (λ other shown. simp (
      other.quote,
      other.backslash,
      other.line_feed,
      other.tab,
      other.return,
      low,
    ))
    (λ other low. hex_fits w b small refl refl)
    (λ other high. absurd (true≢false (sym low ∙ high))))
    (λ high. hex_fits w b small refl refl)

pub byte_item : (b : ℕ) → b < 256 →
    is_char_item byte_kind (spelled_char (byte_spelling 39 b)) ≡ true
byte_item b small = char_item_fits byte_kind (byte_spelling 39 b) ∙ byte_fits b small

pub char_number : (m : Bool) (c : ℕ) → scalar c ≡ true →
    char_value (spelled_char (char_spelling 39 m c)) ≡ c
char_number m c e =
    let P : Spelling → Type 0 = λ s. char_value (spelled_char s) ≡ c in
    let mark : (d : ℕ) → c ≡ d → simple_value d ≡ d →
    P (Simple c) = λ d is value. ap simple_value is ∙ (value ∙ sym is) in
    spelling_by 39 m c P (λ is. sym is) (λ is. sym is) (λ is. sym is) (λ is. sym is)
    (λ is. mark 39 is refl) (λ is. mark 92 is refl) (λ other shown. refl)
    (λ other low. pair_is c (below_256 c low)) (λ other high. number_is c e)

pub byte_number : (b : ℕ) → b < 256 → char_value (spelled_char (byte_spelling 39 b)) ≡ b
unfolding byte_spelling
byte_number b small =
    cond_both (is_ascii b) (char_spelling 39 false b) (Hex b) (λ s. char_value (spelled_char s) ≡ b)
    (λ low. char_number false b (low_scalar b (omega arith))) (λ high. pair_is b small)

-- an item and a char are written alike
pub same_text : (s : Spelling) → char_item_text (spelled_char s) ≡ item_text (spelled_item s)
same_text (Plain c) = refl
same_text (Simple c) = refl
same_text (Hex b) = refl
same_text (Unicode c) = refl

-- In bytes

pub all_append : (p : ℕ → Bool) (s t : List ℕ) → list_all p s ≡ true → list_all p t ≡ true →
    list_all p (s ++ t) ≡ true
all_append p [] t a b = b
all_append p (c ∷ s) t a b =
    let both = and_parts (p c) (list_all p s) a in
    and_from _ _ both.0 (all_append p s t both.1 b)

pub encodes_ascii : (t : List ℕ) → list_all is_ascii t ≡ true → encode_utf8_all t ≡ t
encodes_ascii [] all = refl
encodes_ascii (c ∷ t) all =
    let both = and_parts (is_ascii c) (list_all is_ascii t) all in
    ap (λ (x : List ℕ). x ++ encode_utf8_all t) (encode_ascii c (ltb-true c 128 both.0))
    ∙ ap (λ (x : List ℕ). c ∷ x) (encodes_ascii t both.1)
