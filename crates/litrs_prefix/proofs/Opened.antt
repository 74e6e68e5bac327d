-- If a literal is at the front of a text, one begins there, and its rest is what follows what opens
-- there.
use Rattle.litrs_prefix.proofs.Words.{◌≡◌, ℕ, zero, suc, Bool, true, false, List, ◌∷◌, ◌++◌, refl, sym, ap, ◌∙◌, arith, ◌⊎◌, inl, ◌<◌, [], subst, append_assoc, ◌==◌, is_ascii_digit, first_passes, char_kind, byte_kind, switches_of, quoted_front, raw_front, char_front, starts_identifier, bool_text, plain_char, escaped_char, char_item_text, is_char_item, IsCharLiteral, hashes, raw_closing, RawParts, IsRawLiteral, Derivation, a_bool, an_integer, a_float, a_char, a_byte, IsLiteral, may_follow, ends_bool, ends_suffix, ends_float, HasPrefix, after_hashes, begins_with_lifetime, opens_raw, opens, after_name, PrefixesOpen, list_all, is_xid_continue, Switches, IsFloatOf, IntegerParts, IsIntegerOf, is_e, IsQuotedLiteral, past_quote, past_single_quote, after_single_quote, after_char, after_closing, after_raw, after_number, after_body, after_opened, StringKind, string_kind, byte_string_kind, c_string_kind, is_suffix, CharItem, CharParts, occurs, StringParts, quoted_parts, raw_parts, IsString, a_string, a_byte_string, a_c_string, string_suffix, prefix, is_digit_or_underscore, is_blank, IntegerBase, Decimal, CharKind, Escape, simple_escape, hex_escape, unicode_escape, escape_text, is_escape, is_hex_or_underscore, FloatParts, Item, plain_item, escape_item, continuation, item_text, is_item, body_text, is_body, QuotedParts, and_parts, or_left, starts_with_digit, first_passes-append, suffix_no_period, nat_tests, is_xid_start-ascii, is_xid_continue-ascii, cut_of_text, hash_len-append}
use Rattle.litrs_grammar.proofs.QuotedItems.{escape_second}
use Rattle.litrs_grammar.proofs.Laws.Float.{starts_digit}
use Rattle.litrs_base.proofs.Runs.{list_all-append, list_all-weaken}
use Rattle.litrs_prefix.proofs.Chars.{longer_char, longer_raw, longer}
use Rattle.litrs_prefix.proofs.Names.{run_after, name_after, bool_after}
use Rattle.litrs_grammar.proofs.RawCuts.{length_before-body}
use Rattle.litrs_grammar.proofs.SuffixStart.{suffix_continues}
use Rattle.litrs_prefix.proofs.PieceBodies.{past_quote_is, past_single_quote_is, digits_passed, number_parts}
use Rattle.litrs_prefix.proofs.Numbers.{longer_integer, longer_float, with_rest, float_cut_stays}
use Rattle.litrs_grammar.proofs.Laws.Raw as raw

open_digit : (t : List ℕ) → first_passes is_ascii_digit t ≡ true → opens t ≡ true
open_digit t h = grind arith

open_bool : (b : Bool) (r : List ℕ) → ends_bool r ≡ true → opens (bool_text b ++ r) ≡ true
open_bool b r h = grind (arith, is_xid_start-ascii, is_xid_continue-ascii)

-- a char is not a lifetime
no_lifetime : (a : CharItem) (x : List ℕ) → begins_with_lifetime (char_item_text a ++ 39 ∷ x) ≡ false
no_lifetime a x = grind (arith, is_xid_start-ascii, is_xid_continue-ascii)

pub after_all : (n : ℕ) (y : List ℕ) → after_hashes (hashes n ++ 34 ∷ y) ≡ 34 ∷ y
after_all zero y = refl
after_all (suc n) y = after_all n y

open_raw : (kind : StringKind) (u : List ℕ) → opens_raw u ≡ true → opens (raw_front kind ++ u) ≡ true
open_raw kind u h = grind arith

open_quoted : (kind : StringKind) (u : List ℕ) → opens (quoted_front kind ++ u) ≡ true
open_quoted kind u = grind arith

string_opens : (kind : StringKind) (s r : List ℕ) (d : StringParts) → IsString kind s d → opens (s ++ r) ≡ true
string_opens kind s r (quoted_parts d) h = ap opens (longer (quoted_front kind) (switches_of kind) s r d h) ∙ open_quoted kind _
string_opens kind s r (raw_parts d) h = rw (longer_raw kind s r d h) (open_raw kind _ (ap (first_passes (λ c. c == 34)) (after_all d.hash_count _)))

float_digit : (s r : List ℕ) (d : FloatParts) → IsFloatOf s d → first_passes is_ascii_digit (s ++ r) ≡ true
float_digit s r d h = first_passes-append is_ascii_digit s r (rw (← h.spells) (starts_digit d.integer _ h.grammar.integer).1)

literal_opens : (s r : List ℕ) (d : Derivation) → IsLiteral s d → may_follow d r ≡ true → opens (s ++ r) ≡ true
literal_opens s r (a_bool b) h f = ap (λ (l : List ℕ). opens (l ++ r)) (sym h) ∙ open_bool b r f
literal_opens s r (an_integer d) h f = open_digit (s ++ r) (first_passes-append is_ascii_digit s r (starts_with_digit s d h))
literal_opens s r (a_float d) h f = open_digit (s ++ r) (float_digit s r d h)
literal_opens s r (a_char d) h f = rw (longer_char char_kind s r d h, no_lifetime d.item (d.suffix ++ r)) refl
literal_opens s r (a_byte d) h f = ap (λ (l : List ℕ). opens (l ++ r)) (sym h.spells)
literal_opens s r (a_string d) h f = string_opens string_kind s r d h
literal_opens s r (a_byte_string d) h f = string_opens byte_string_kind s r d h
literal_opens s r (a_c_string d) h f = string_opens c_string_kind s r d h

pub opened : PrefixesOpen
opened t d rest h = ap opens (sym h.spells) ∙ literal_opens h.front rest d h.literal h.follows

-- escapes

hex_digits : (w : Switches) (a b : ℕ) → is_escape w (hex_escape a b) ≡ true → list_all is_hex_or_underscore (a ∷ b ∷ []) ≡ true
hex_digits w a b h = grind (arith, nat_tests, and_parts, or_left)

unicode_digits : (w : Switches) (u : List ℕ) → is_escape w (unicode_escape u) ≡ true → list_all is_hex_or_underscore u ≡ true
unicode_digits w u h = grind arith

-- quoted strings

run_passed : (p : ℕ → Bool) → ((c : ℕ) → p c ≡ true → ((c == 34) ≡ false) × ((c == 92) ≡ false)) → (a t : List ℕ) → list_all p a ≡ true →
    past_quote 34 false (a ++ t) ≡ past_quote 34 false t
run_passed p only [] t h = refl
run_passed p only (c ∷ a) t h = grind (arith, only c, run_passed p only a t)

digit_none : (c : ℕ) → is_hex_or_underscore c ≡ true → ((c == 34) ≡ false) × ((c == 92) ≡ false)
digit_none c h = (grind (arith, nat_tests), grind (arith, nat_tests))

escape_passed : (w : Switches) (e : Escape) (t : List ℕ) → is_escape w e ≡ true → past_quote 34 false (escape_text e ++ t) ≡ past_quote 34 false t
escape_passed w (simple_escape c) t h = grind arith
escape_passed w (hex_escape a b) t h = run_passed is_hex_or_underscore digit_none (a ∷ b ∷ []) t (hex_digits w a b h)
escape_passed w (unicode_escape u) t h =
    ap (past_quote 34 false) (append_assoc u (125 ∷ []) t) ∙ run_passed is_hex_or_underscore digit_none u (125 ∷ t) (unicode_digits w u h)

pub item_passed : (w : Switches) (a : Item) (t : List ℕ) → is_item w a ≡ true → past_quote 34 false (item_text a ++ t) ≡ past_quote 34 false t
item_passed w (plain_item c) t h = grind (arith, nat_tests)
item_passed w (escape_item e) t h = escape_passed w e t h
item_passed w (continuation blanks) t h = grind (arith, nat_tests, run_passed is_blank)

body_passed : (w : Switches) (items : List Item) (x : List ℕ) → is_body w items ≡ true → past_quote 34 false (body_text items ++ 34 ∷ x) ≡ x
body_passed w [] x h = refl
body_passed w (a ∷ items) x h = grind (arith, append_assoc, item_passed w a (body_text items ++ 34 ∷ x), body_passed w items x)

pub quoted_opened : (kind : StringKind) (y : List ℕ) → after_opened (quoted_front kind ++ y) ≡ after_name (past_quote 34 false y)
quoted_opened kind y = grind (arith, past_quote_is)

quoted_rest : (kind : StringKind) (s r : List ℕ) (q : QuotedParts) → IsQuotedLiteral kind s q → ends_suffix q.suffix r ≡ true → after_opened (s ++ r) ≡ r
quoted_rest kind s r q h e =
    rw (longer (quoted_front kind) _ s r q h, quoted_opened kind (body_text q.items ++ 34 ∷ (q.suffix ++ r)), body_passed _ q.items (q.suffix ++ r) h.body) (name_after q.suffix r h.suffix e)

-- chars and bytes

line_passed : (a t : List ℕ) → list_all is_hex_or_underscore a ≡ true → past_single_quote false (a ++ t) ≡ past_single_quote false t
line_passed [] t h = refl
line_passed (c ∷ a) t h = grind (arith, nat_tests, line_passed a t)

escape_closed : (w : Switches) (e : Escape) (x : List ℕ) → is_escape w e ≡ true → past_single_quote false (escape_text e ++ 39 ∷ x) ≡ x
escape_closed w (simple_escape c) x h = grind (arith, escape_second w (simple_escape c) [] c [] h refl)
escape_closed w (hex_escape a b) x h = line_passed (a ∷ b ∷ []) (39 ∷ x) (hex_digits w a b h)
escape_closed w (unicode_escape u) x h = ap (past_single_quote false) (append_assoc u (125 ∷ []) (39 ∷ x)) ∙ line_passed u (125 ∷ 39 ∷ x) (unicode_digits w u h)

after_escape : (e : Escape) (y : List ℕ) → after_char (escape_text e ++ y) ≡ after_single_quote (escape_text e ++ y)
after_escape e y = grind arith

item_closed : (kind : CharKind) (a : CharItem) (x : List ℕ) → is_char_item kind a ≡ true → after_char (char_item_text a ++ 39 ∷ x) ≡ x
item_closed kind (plain_char c) x h = grind (arith, nat_tests)
item_closed kind (escaped_char e) x h = after_escape e (39 ∷ x) ∙ (sym (past_single_quote_is (escape_text e ++ 39 ∷ x)) ∙ escape_closed _ e x h)

char_rest : (kind : CharKind) (s r : List ℕ) (d : CharParts) → IsCharLiteral kind s d → ends_suffix d.suffix r ≡ true → after_opened (s ++ r) ≡ r
char_rest kind s r d h e =
    let body : (y : List ℕ) → after_body (char_front kind ++ y) ≡ after_char y = λ y. grind arith in
    rw (longer_char kind s r d h, body (char_item_text d.item ++ 39 ∷ (d.suffix ++ r)), item_closed kind d.item (d.suffix ++ r) h.item) (name_after d.suffix r h.suffix e)

-- raw strings

raw_closed : (n : ℕ) (body x : List ℕ) → occurs (raw_closing n) body ≡ false → after_closing n (body ++ (raw_closing n ++ x)) ≡ x
raw_closed n body x h = rw (length_before-body n body x h) (raw.after_closing n body x)

raw_body : (kind : StringKind) (y : List ℕ) → opens_raw y ≡ true → after_body (raw_front kind ++ y) ≡ after_raw y
raw_body kind y h = grind arith

pub raw_opened : (kind : StringKind) (n : ℕ) (z : List ℕ) → after_opened (raw_front kind ++ (hashes n ++ (34 ∷ z))) ≡ after_name (after_closing n z)
raw_opened kind n z = grind (arith, raw_body, after_all, hash_len-append)

raw_rest : (kind : StringKind) (s r : List ℕ) (d : RawParts) → IsRawLiteral kind s d → ends_suffix d.suffix r ≡ true → after_opened (s ++ r) ≡ r
raw_rest kind s r d h e =
    rw (longer_raw kind s r d h, raw_opened kind d.hash_count, raw_closed d.hash_count d.body (d.suffix ++ r) h.grammar.body.unclosed) (name_after d.suffix r h.grammar.suffix e)

string_rest : (kind : StringKind) (s r : List ℕ) (d : StringParts) → IsString kind s d → ends_suffix (string_suffix d) r ≡ true → after_opened (s ++ r) ≡ r
string_rest kind s r d h e = grind (arith, quoted_rest, raw_rest)

-- bools

bool_body : (b : Bool) (r : List ℕ) → after_body (bool_text b ++ r) ≡ bool_text b ++ r
bool_body b r = grind arith

-- numbers

pub number_body : (t : List ℕ) → first_passes is_ascii_digit t ≡ true → after_body t ≡ after_number t
number_body t h = grind arith

float_rest : (s r : List ℕ) (d : FloatParts) → IsFloatOf s d → ends_suffix d.suffix r ≡ true → ends_float d r ≡ true → after_opened (s ++ r) ≡ r
float_rest s r d h e f =
    rw (number_body (s ++ r) (float_digit s r d h), longer_float d s r h, cut_of_text (with_rest d r) (float_cut_stays d s r h e f), after_number) (name_after d.suffix r h.grammar.suffix e)

word_continues : (base : IntegerBase) (c : ℕ) → is_digit_or_underscore base c ≡ true → is_xid_continue c ≡ true
word_continues base c h = let low : c < 128 = grind (arith, nat_tests) in is_xid_continue-ascii c low ∙ grind (arith, nat_tests)

-- the letter of a base, its digits and the suffix are one name
letter_rest : (base : IntegerBase) (b : ℕ) (m : List ℕ) (c : ℕ) (x r : List ℕ) → starts_identifier b ≡ true → list_all (is_digit_or_underscore base) m ≡ true →
    is_suffix (c ∷ x) ≡ true → ends_suffix (c ∷ x) r ≡ true → after_name (b ∷ (m ++ (c ∷ (x ++ r)))) ≡ r
letter_rest base b m c x r starts digits suffix e =
    grind (arith, run_after (m ++ (c ∷ x)) r, append_assoc m (c ∷ x) r, list_all-append is_xid_continue m (c ∷ x), suffix_continues (c ∷ x), list_all-weaken (is_digit_or_underscore base) is_xid_continue (word_continues base) m)

base_rest : (base : IntegerBase) (m : List ℕ) (c : ℕ) (x r : List ℕ) → list_all (is_digit_or_underscore base) m ≡ true → is_digit_or_underscore base c ≡ false →
    is_suffix (c ∷ x) ≡ true → is_e c ≡ false → ends_suffix (c ∷ x) r ≡ true → after_name (after_number (prefix base ++ (m ++ (c ∷ (x ++ r))))) ≡ r
base_rest Decimal m c x r digits ends suffix letter e =
    rw (number_parts (m ++ (c ∷ (x ++ r))), digits_passed m (c ∷ (x ++ r)) digits ends, suffix_no_period (c ∷ x) suffix, letter) (name_after (c ∷ x) r suffix e)
base_rest base m c x r digits ends suffix letter e = grind (arith, number_parts, letter_rest base, is_xid_start-ascii)

-- an integer without a suffix
abbrev pub IsBare : Derivation → Type 0
IsBare d = (x : IntegerParts) × (d ≡ an_integer x) × (x.suffix ≡ [])

-- An integer without a suffix may end before what opens there does, as in `1..2`.
number_rest : (base : IntegerBase) (m x r : List ℕ) → list_all (is_digit_or_underscore base) m ≡ true → first_passes (is_digit_or_underscore base) x ≡ false →
    is_suffix x ≡ true → first_passes is_e x ≡ false → ends_suffix x r ≡ true → (after_name (after_number (prefix base ++ (m ++ (x ++ r)))) ≡ r) ⊎ (x ≡ [])
number_rest base m x r digits ends suffix letter e = grind (arith, base_rest base m)

integer_rest : (s r : List ℕ) (d : IntegerParts) → IsIntegerOf s d → ends_suffix d.suffix r ≡ true → (after_opened (s ++ r) ≡ r) ⊎ IsBare (an_integer d)
integer_rest s r d h e =
    let g = h.grammar in
    let number = number_rest d.base d.main d.suffix r g.digits g.ends g.suffix g.no_exponent e in
    grind (arith, number_body (s ++ r) (first_passes-append is_ascii_digit s r (starts_with_digit s d h)), longer_integer s r d h)

-- literals of every kind

front_rest : (s r : List ℕ) (d : Derivation) → IsLiteral s d → may_follow d r ≡ true → (after_opened (s ++ r) ≡ r) ⊎ IsBare d
front_rest s r (a_bool b) h f = inl (ap (λ (l : List ℕ). after_opened (l ++ r)) (sym h) ∙ (ap after_name (bool_body b r) ∙ bool_after b r f))
front_rest s r (an_integer d) h f = integer_rest s r d h (and_parts (ends_suffix d.suffix r) _ f).0
front_rest s r (a_float d) h f = let p = and_parts (ends_suffix d.suffix r) _ f in inl (float_rest s r d h p.0 p.1)
front_rest s r (a_char d) h f = inl (char_rest char_kind s r d h f)
front_rest s r (a_byte d) h f = inl (char_rest byte_kind s r d h f)
front_rest s r (a_string d) h f = inl (string_rest string_kind s r d h f)
front_rest s r (a_byte_string d) h f = inl (string_rest byte_string_kind s r d h f)
front_rest s r (a_c_string d) h f = inl (string_rest c_string_kind s r d h f)

pub only_rest : (t : List ℕ) (d : Derivation) (r : List ℕ) → HasPrefix t d r → (after_opened t ≡ r) ⊎ IsBare d
only_rest t d r at = subst (λ (l : List ℕ). (after_opened l ≡ r) ⊎ IsBare d) at.spells (front_rest at.front r d at.literal at.follows)
