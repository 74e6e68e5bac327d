-- Integers: what the cut of the bytes says of the characters.
use Rattle.std.proofs.Common.{◌≡◌, ℕ, suc, ◌+◌, ◌-◌, ◌≤◌, Bool, true, false, not, cond, ltb, eqb, ◌||◌, ◌&&◌, ◌<◌, List, [], ◌∷◌, ◌++◌, length, take, drop, slice_range, slice_get, Some, refl, sym, ap, ◌∙◌, arith}
use Rattle.std.specs.Str.{chars, IsUtf8, IsAscii, encode_utf8_all}
use Rattle.std.specs.Prelude.{◌==◌}
use Rattle.std.specs.Char.{is_ascii_digit, is_ascii_alphabetic}
use Rattle.std.specs.List.{prefix_len, list_all, list_any, take_while}
use Rattle.std.proofs.lemmas.List.{drop-drop, length-append, take_rest}
use Rattle.std.proofs.lemmas.List.Folds.{length-prefix_len}
use Rattle.std.proofs.lemmas.Str.{chars-nil, encodes-chars, encodes-IsAscii, chars-IsAscii, IsAscii-append, IsCharBoundary-from_drop, IsUtf8-drop}
use Rattle.std.proofs.lemmas.Bool.{ne_eqb, and_parts}
use Rattle.std.proofs.lemmas.Bool.Decides.{nat_tests}
use Rattle.litrs_lex.specs.declared.integer.IntegerCut.{IntegerCut}
use Rattle.litrs_base.specs.declared.integer.IntegerBase.{IntegerBase}
use Rattle.litrs_base.specs.declared.integer.IntegerBase.TheVariants.{Binary, Octal, Decimal, Hexadecimal}
use Rattle.litrs_base.specs.declared.err.ParseErrorKind.TheVariants.{Empty, DoesNotStartWithDigit}
use Rattle.litrs_base.specs.Refusal.{without_span, at_byte}
use Rattle.litrs_base.specs.Text.{is_empty, byte_len, first_passes, begins_with}
use Rattle.litrs_grammar.specs.Suffix.{is_suffix, starts_identifier, suffix_kind}
use Rattle.litrs_grammar.proofs.SuffixStart.{starts_ascii}
use Rattle.litrs_grammar.proofs.LongerTexts.Suffix.{no_suffix}
use Rattle.litrs_base.specs.Base.{prefix, is_digit, is_digit_or_underscore}
use Rattle.litrs_base.specs.Numeral.{is_no_underscore}
use Rattle.litrs_grammar.specs.Integer.{integer_text, is_e, base_of, integer_cut, integer_cut_refusal, integer_refusal}
use Rattle.litrs_lex.specs.IntegerCut.{integer_parts_at, IsIntegerWithin, IsDigitsCut}
use Rattle.litrs_base.proofs.Chars.{chars_empty, OnlyAscii, IsAsciiFront, front_zero, front_front, begins_front, passing_front, prefix_len-chars, first_passes-chars, begins_with-chars, ascii_by_test}
use Rattle.litrs_base.proofs.Runs.{list_all-take_while}
use Rattle.litrs_grammar.proofs.Laws.Integer.{cut_with, integer_cut-is, cut-spells, integer_rows}

-- only ASCII characters are digits or underscores
pub digits_are_ascii : (base : IntegerBase) → OnlyAscii (is_digit_or_underscore base)
digits_are_ascii Binary c high = grind (arith, nat_tests)
digits_are_ascii Octal c high = grind (arith, nat_tests)
digits_are_ascii Decimal c high = grind (arith, nat_tests)
digits_are_ascii Hexadecimal c high = grind (arith, nat_tests)

pub prefix_is_ascii : (base : IntegerBase) → list_all (λ c. ltb c 128) (prefix base) ≡ true
prefix_is_ascii Binary = refl
prefix_is_ascii Octal = refl
prefix_is_ascii Decimal = refl
prefix_is_ascii Hexadecimal = refl

-- the base is decided by the first bytes
pub base_of-chars : (bs : List ℕ) → IsUtf8 bs → base_of (chars bs) ≡ base_of bs
base_of-chars bs u = rw (begins_with-chars (prefix Binary) bs refl u, begins_with-chars (prefix Octal) bs refl u, begins_with-chars (prefix Hexadecimal) bs refl u) refl

front_by : (bs : List ℕ) (b o x : Bool) → IsUtf8 bs → begins_with (prefix Binary) bs ≡ b → begins_with (prefix Octal) bs ≡ o → begins_with (prefix Hexadecimal) bs ≡ x →
    IsAsciiFront bs (length (prefix (cond b Binary (cond o Octal (cond x Hexadecimal Decimal)))))
front_by bs true o x u is_b is_o is_x = begins_front (prefix Binary) bs refl is_b u
front_by bs false true x u is_b is_o is_x = begins_front (prefix Octal) bs refl is_o u
front_by bs false false true u is_b is_o is_x = begins_front (prefix Hexadecimal) bs refl is_x u
front_by bs false false false u is_b is_o is_x = front_zero bs u

-- a text may be cut after its prefix
pub prefix_front : (bs : List ℕ) → IsUtf8 bs → IsAsciiFront bs (length (prefix (base_of bs)))
prefix_front bs u = front_by bs (begins_with (prefix Binary) bs) (begins_with (prefix Octal) bs) (begins_with (prefix Hexadecimal) bs) u refl refl refl

-- the prefix, and the digits and underscores after it
pub digits_front : (bs : List ℕ) → IsUtf8 bs → IsAsciiFront (drop (length (prefix (base_of bs))) bs) (prefix_len (is_digit_or_underscore (base_of bs)) (drop (length (prefix (base_of bs))) bs))
digits_front bs u = passing_front (is_digit_or_underscore (base_of bs)) (drop (length (prefix (base_of bs))) bs) (digits_are_ascii (base_of bs)) (prefix_front bs u).utf8

-- the cut of the bytes, as numbers
abbrev pub start_of : List ℕ → ℕ
start_of bs = length (prefix (base_of bs))

abbrev pub run_of : List ℕ → ℕ
run_of bs = prefix_len (is_digit_or_underscore (base_of bs)) (drop (start_of bs) bs)

main_chars : (bs : List ℕ) → IsUtf8 bs →
    take_while (is_digit_or_underscore (base_of bs)) (chars (drop (start_of bs) bs)) ≡ take (run_of bs) (drop (start_of bs) bs)
main_chars bs u =
    let p = is_digit_or_underscore (base_of bs) in
    let after = drop (start_of bs) bs in
    ap (λ n. take n (chars after)) (prefix_len-chars p after (digits_are_ascii (base_of bs)) (prefix_front bs u).utf8) ∙ (digits_front bs u).taken

-- the cut of the characters is the cut of the bytes
pub cut-chars : (bs : List ℕ) → IsUtf8 bs → integer_cut (chars bs) ≡ record {
  base = base_of bs;
  main = take (run_of bs) (drop (start_of bs) bs);
  suffix = chars (drop (start_of bs + run_of bs) bs);
}
cut-chars bs u =
    let p = is_digit_or_underscore (base_of bs) in
    let after = drop (start_of bs) bs in
    let n = run_of bs in
    integer_cut-is (chars bs) ∙ (ap (λ b. cut_with b (chars bs)) (base_of-chars bs u)
    ∙ (ap (λ t. record { base = base_of bs; main = take_while p t; suffix = drop (length (take_while p t)) t }) (prefix_front bs u).rest
    ∙ (ap (λ m. record { base = base_of bs; main = m; suffix = drop (length m) (chars after) }) (main_chars bs u)
    ∙ (ap (λ k. record { base = base_of bs; main = take n after; suffix = drop k (chars after) }) (length-prefix_len p after)
    ∙ ap (λ x. record { base = base_of bs; main = take n after; suffix = x }) ((digits_front bs u).rest ∙ ap chars (drop-drop n (start_of bs) bs))))))

pub digit_is_ascii : OnlyAscii is_ascii_digit
digit_is_ascii c high = grind (arith, nat_tests)

pub e_is_ascii : OnlyAscii is_e
e_is_ascii c high = grind (arith, nat_tests)

byte_len-ascii : (t : List ℕ) → IsAscii t → byte_len t ≡ length t
byte_len-ascii t a = ap length (encodes-IsAscii t a)

byte_len-chars : (t bs : List ℕ) → IsUtf8 bs → t ≡ chars bs → byte_len t ≡ length bs
byte_len-chars t bs u e = ap length (ap encode_utf8_all e ∙ encodes-chars bs u)

-- the whole front of an integer, and its length
pub number_front : (bs : List ℕ) → IsUtf8 bs → IsAsciiFront bs (start_of bs + run_of bs)
number_front bs u = front_front bs (start_of bs) (run_of bs) (prefix_front bs u) (digits_front bs u)

number_len : (bs : List ℕ) → IsUtf8 bs → byte_len (prefix (base_of bs) ++ take (run_of bs) (drop (start_of bs) bs)) ≡ start_of bs + run_of bs
number_len bs u =
    let main = take (run_of bs) (drop (start_of bs) bs) in
    byte_len-ascii (prefix (base_of bs) ++ main)
    (IsAscii-append (prefix (base_of bs)) main (ascii_by_test (prefix (base_of bs)) (prefix_is_ascii (base_of bs))) (digits_front bs u).ascii)
    ∙ (length-append (prefix (base_of bs)) main ∙ ap (λ n. start_of bs + n) (length-prefix_len (is_digit_or_underscore (base_of bs)) (drop (start_of bs) bs)))

-- the refusal of a text, by the cut of its bytes
pub refusal_of_bytes : (bs : List ℕ) → IsUtf8 bs → integer_cut_refusal (integer_cut (chars bs)) ≡
    integer_rows (start_of bs) (start_of bs + run_of bs) (length bs)
    (is_suffix (chars (drop (start_of bs + run_of bs) bs)))
    (first_passes is_ascii_digit (drop (start_of bs + run_of bs) bs))
    (suffix_kind (chars (drop (start_of bs + run_of bs) bs)))
    (first_passes is_e (drop (start_of bs + run_of bs) bs))
    (list_any (is_digit (base_of bs)) (take (run_of bs) (drop (start_of bs) bs)))
refusal_of_bytes bs u =
    let base = base_of bs in
    let main = take (run_of bs) (drop (start_of bs) bs) in
    let x = drop (start_of bs + run_of bs) bs in
    let front = number_front bs u in
    let cut = cut-chars bs u in
    let start : byte_len (prefix base) ≡ start_of bs = byte_len-ascii (prefix base) (ascii_by_test (prefix base) (prefix_is_ascii base)) in
    let end : byte_len (prefix base ++ main) ≡ start_of bs + run_of bs = number_len bs u in
    let spelled : prefix base ++ (main ++ chars x) ≡ chars bs =
    ap integer_text (sym cut) ∙ (ap integer_text (integer_cut-is (chars bs)) ∙ cut-spells (chars bs)) in
    let len : byte_len (prefix base ++ (main ++ chars x)) ≡ length bs = byte_len-chars (prefix base ++ (main ++ chars x)) bs u spelled in
    let digit : first_passes is_ascii_digit (chars x) ≡ first_passes is_ascii_digit x = first_passes-chars is_ascii_digit x digit_is_ascii front.utf8 in
    let e : first_passes is_e (chars x) ≡ first_passes is_e x = first_passes-chars is_e x e_is_ascii front.utf8 in
    ap integer_cut_refusal cut
    ∙ (ap (λ n. integer_rows n (byte_len (prefix base ++ main)) (byte_len (prefix base ++ (main ++ chars x))) (is_suffix (chars x)) (first_passes is_ascii_digit (chars x)) (suffix_kind (chars x)) (first_passes is_e (chars x)) (list_any (is_digit base) main)) start
    ∙ (ap (λ n. integer_rows (start_of bs) n (byte_len (prefix base ++ (main ++ chars x))) (is_suffix (chars x)) (first_passes is_ascii_digit (chars x)) (suffix_kind (chars x)) (first_passes is_e (chars x)) (list_any (is_digit base) main)) end
    ∙ (ap (λ n. integer_rows (start_of bs) (start_of bs + run_of bs) n (is_suffix (chars x)) (first_passes is_ascii_digit (chars x)) (suffix_kind (chars x)) (first_passes is_e (chars x)) (list_any (is_digit base) main)) len
    ∙ (ap (λ v. integer_rows (start_of bs) (start_of bs + run_of bs) (length bs) (is_suffix (chars x)) v (suffix_kind (chars x)) (first_passes is_e (chars x)) (list_any (is_digit base) main)) digit
    ∙ ap (λ v. integer_rows (start_of bs) (start_of bs + run_of bs) (length bs) (is_suffix (chars x)) (first_passes is_ascii_digit x) (suffix_kind (chars x)) v (list_any (is_digit base) main)) e))))

-- Likewise by the cut that the code makes.

pub cut_bytes_is : (cut : IntegerCut) (bs : List ℕ) → IsDigitsCut cut bs →
    (cut.start_main ≡ start_of bs) × (cut.end_main ≡ start_of bs + run_of bs)
cut_bytes_is cut bs h =
    let s : cut.start_main ≡ start_of bs = h.start ∙ ap (λ b. length (prefix b)) h.base in (
      s,
      h.end ∙ (ap (λ b. cut.start_main + prefix_len (is_digit_or_underscore b) (drop cut.start_main bs)) h.base
          ∙ ap (λ n. n + prefix_len (is_digit_or_underscore (base_of bs)) (drop n bs)) s),
    )

pub refusal_of_cut : (cut : IntegerCut) (bs : List ℕ) → IsUtf8 bs → IsDigitsCut cut bs → integer_cut_refusal (integer_cut (chars bs)) ≡
    integer_rows cut.start_main cut.end_main (length bs)
    (is_suffix (chars (drop cut.end_main bs))) (first_passes is_ascii_digit (drop cut.end_main bs))
    (suffix_kind (chars (drop cut.end_main bs))) (first_passes is_e (drop cut.end_main bs))
    (list_any (is_digit cut.base) (slice_range bs cut.start_main cut.end_main))
refusal_of_cut cut bs u h =
    let is = cut_bytes_is cut bs h in
    let run : start_of bs + run_of bs - start_of bs ≡ run_of bs = omega arith in
    rw (is.0, is.1, h.base, run) (refusal_of_bytes bs u)

-- a digit is not an underscore
pub digit_is_no_underscore : (base : IntegerBase) (c : ℕ) → is_digit base c ≡ true → eqb c 95 ≡ false
digit_is_no_underscore Binary c is = grind (arith, nat_tests)
digit_is_no_underscore Octal c is = grind (arith, nat_tests)
digit_is_no_underscore Decimal c is = grind (arith, nat_tests)
digit_is_no_underscore Hexadecimal c is = grind (arith, nat_tests)

one_of_two : (digit underscore : Bool) → (digit || underscore) ≡ true → (digit ≡ true → underscore ≡ false) → digit ≡ not underscore
one_of_two true underscore some apart = sym (ap not (apart refl))
one_of_two false underscore some apart = sym (ap not some)

-- among digits and underscores, a character that is not an underscore is a digit
pub any_digit : (base : IntegerBase) (t : List ℕ) → list_all (is_digit_or_underscore base) t ≡ true → list_any (is_digit base) t ≡ list_any is_no_underscore t
any_digit base [] all = refl
any_digit base (c ∷ t) all =
    let parts = and_parts (is_digit_or_underscore base c) (list_all (is_digit_or_underscore base) t) all in
    let first : is_digit base c ≡ is_no_underscore c = one_of_two (is_digit base c) (eqb c 95) parts.0 (digit_is_no_underscore base c) in
    λ i. first i || any_digit base t parts.1 i

-- the parts that the cut names are those of the characters
pub parts_of_cut : (cut : IntegerCut) (bs : List ℕ) → IsUtf8 bs → IsDigitsCut cut bs → integer_cut (chars bs) ≡ integer_parts_at cut bs
parts_of_cut cut bs u h =
    let is = cut_bytes_is cut bs h in
    let run : start_of bs + run_of bs - start_of bs ≡ run_of bs = omega arith in
    rw (is.0, is.1, h.base, run, chars-IsAscii (take (run_of bs) (drop (start_of bs) bs)) (digits_front bs u).ascii) (cut-chars bs u)

pub places_of_cut : (cut : IntegerCut) (bs : List ℕ) → IsUtf8 bs → IsDigitsCut cut bs → IsIntegerWithin cut bs
places_of_cut cut bs u h =
    let is = cut_bytes_is cut bs h in
    let front = number_front bs u in
    let start = prefix_front bs u in
    record {
      in_order = omega (arith, is.0, is.1);
      start = rw (is.0) (IsCharBoundary-from_drop bs (start_of bs) start.within start.utf8);
      end = rw (is.1) (IsCharBoundary-from_drop bs (start_of bs + run_of bs) front.within front.utf8);
    }

-- no suffix begins with a digit
digit_no_suffix : (t : List ℕ) → first_passes is_ascii_digit t ≡ true → is_suffix t ≡ false
digit_no_suffix [] h = cc
digit_no_suffix (c ∷ t) h = no_suffix c t (go (starts_identifier c) refl)
  where
    go : (b : Bool) → starts_identifier c ≡ b → b ≡ false
    go false e = refl
    go true e =
        let low : c < 128 = grind (arith, nat_tests) in
        let letter : (is_ascii_alphabetic c || (c == 95)) ≡ true = starts_ascii c low e in
        grind (arith, nat_tests)

suffix_unless_digit : (x : List ℕ) → IsUtf8 x → is_suffix (chars x) ≡ (not (first_passes is_ascii_digit x) && is_suffix (chars x))
suffix_unless_digit x u = go (first_passes is_ascii_digit x) refl
  where
    go : (b : Bool) → first_passes is_ascii_digit x ≡ b → is_suffix (chars x) ≡ (not b && is_suffix (chars x))
    go true e = digit_no_suffix (chars x) (first_passes-chars is_ascii_digit x digit_is_ascii u ∙ e)
    go false e = refl

-- likewise with the code's test of the main part
pub refusal_of_main : (cut : IntegerCut) (bs : List ℕ) → IsUtf8 bs → IsDigitsCut cut bs → integer_cut_refusal (integer_cut (chars bs)) ≡
    integer_rows cut.start_main cut.end_main (length bs)
    (not (first_passes is_ascii_digit (chars (drop cut.end_main bs))) && is_suffix (chars (drop cut.end_main bs)))
    (first_passes is_ascii_digit (chars (drop cut.end_main bs)))
    (suffix_kind (chars (drop cut.end_main bs))) (first_passes is_e (drop cut.end_main bs))
    (list_any is_no_underscore (slice_range bs cut.start_main cut.end_main))
refusal_of_main cut bs u h =
    let p = is_digit_or_underscore cut.base in
    let len : cut.end_main - cut.start_main ≡ prefix_len p (drop cut.start_main bs) = let end = h.end in omega arith in
    let all : list_all p (slice_range bs cut.start_main cut.end_main) ≡ true =
    ap (λ n. list_all p (take n (drop cut.start_main bs))) len ∙ list_all-take_while p (drop cut.start_main bs) in
    let utf8 : IsUtf8 (drop cut.end_main bs) = IsUtf8-drop bs cut.end_main u (places_of_cut cut bs u h).end in
    refusal_of_cut cut bs u h
    ∙ ap (integer_rows cut.start_main cut.end_main (length bs)
    (is_suffix (chars (drop cut.end_main bs))) (first_passes is_ascii_digit (drop cut.end_main bs))
    (suffix_kind (chars (drop cut.end_main bs))) (first_passes is_e (drop cut.end_main bs)))
    (any_digit cut.base (slice_range bs cut.start_main cut.end_main) all)
    ∙ ap (λ v. integer_rows cut.start_main cut.end_main (length bs) v (first_passes is_ascii_digit (drop cut.end_main bs))
    (suffix_kind (chars (drop cut.end_main bs))) (first_passes is_e (drop cut.end_main bs))
    (list_any is_no_underscore (slice_range bs cut.start_main cut.end_main)))
    (suffix_unless_digit (drop cut.end_main bs) utf8)
    ∙ ap (λ d. integer_rows cut.start_main cut.end_main (length bs)
    (not d && is_suffix (chars (drop cut.end_main bs))) d
    (suffix_kind (chars (drop cut.end_main bs))) (first_passes is_e (drop cut.end_main bs))
    (list_any is_no_underscore (slice_range bs cut.start_main cut.end_main)))
    (sym (first_passes-chars is_ascii_digit (drop cut.end_main bs) digit_is_ascii utf8))

-- the facts about the cut that the code needs
pub within_bytes : (bs : List ℕ) → IsUtf8 bs → (start_of bs ≤ length bs) × (start_of bs + run_of bs ≤ length bs)
within_bytes bs u = ((prefix_front bs u).within, (number_front bs u).within)

-- the code computes a cut from the bytes
pub digits_cut_made : (bs bytes front : List ℕ) (base : IntegerBase) (n : ℕ) → IsUtf8 bs → bytes ≡ bs → base ≡ base_of bytes → front ≡ prefix base →
    n ≡ prefix_len (is_digit_or_underscore base) (take (length bytes - length front) (drop (length front) bytes)) →
    IsDigitsCut (record { start_main = length front; end_main = length front + n; base = base }) bs
digits_cut_made bs bytes front base n u same is_base is_front is_run =
    let base_is : base ≡ base_of bs = is_base ∙ ap base_of same in
    let start : length front ≡ length (prefix base) = ap length is_front in
    let run : n ≡ prefix_len (is_digit_or_underscore base) (drop (length front) bs) =
    is_run ∙ (ap (prefix_len (is_digit_or_underscore base)) (take_rest bytes (length front)) ∙ ap (λ t. prefix_len (is_digit_or_underscore base) (drop (length front) t)) same) in
    let start_is : length front ≡ start_of bs = start ∙ ap (λ b. length (prefix b)) base_is in
    let run_is : n ≡ run_of bs = run ∙ (ap (λ b. prefix_len (is_digit_or_underscore b) (drop (length front) bs)) base_is
    ∙ ap (λ k. prefix_len (is_digit_or_underscore (base_of bs)) (drop k bs)) start_is) in
    let inside = (within_bytes bs u).1 in
    record { base = base_is; start = start; end = ap (λ k. length front + k) run; within = omega arith }

-- a text that has a first byte is not empty
pub filled_by_first : (bs : List ℕ) (b : ℕ) → IsUtf8 bs → slice_get bs 0 ≡ Some b → is_empty (chars bs) ≡ false
filled_by_first [] b u e = cc
filled_by_first (c ∷ bs) b u e = chars_empty (c ∷ bs) u ∙ ne_eqb (suc (length bs)) 0 (λ h. omega arith)

-- the first two rows of numbers, by the bytes
pub refusal-empty : (bs : List ℕ) → bs ≡ [] → integer_refusal (chars bs) ≡ Some (without_span Empty)
unfolding integer_refusal
refusal-empty bs e = ap (λ t. integer_refusal (chars t)) e ∙ ap integer_refusal chars-nil

pub refusal-no_digit : (bs : List ℕ) (b : ℕ) → IsUtf8 bs → slice_get bs 0 ≡ Some b → first_passes is_ascii_digit bs ≡ false →
    integer_refusal (chars bs) ≡ Some (at_byte 0 DoesNotStartWithDigit)
unfolding integer_refusal
refusal-no_digit bs b u first none = rw (filled_by_first bs b u first, first_passes-chars is_ascii_digit bs digit_is_ascii u, none) refl

pub digit-chars : (bs : List ℕ) → IsUtf8 bs → first_passes is_ascii_digit (chars bs) ≡ first_passes is_ascii_digit bs
digit-chars bs u = first_passes-chars is_ascii_digit bs digit_is_ascii u
