-- Numbers: what the cut of the digits says of how a text is parsed.
use Rattle.std.proofs.Common.{◌≡◌, ℕ, ◌+◌, ◌≤◌, ◌&&◌, Bool, true, eqb, ◌-◌, List, [], ◌∷◌, length, take, drop, slice_range, None, refl, sym, ap, subst, ◌∙◌, zero-add, arith}
use Rattle.std.specs.Prelude.{if◌then◌else◌, nat_le}
use Rattle.std.specs.Char.{is_ascii_digit, is_ascii_hexdigit}
use Rattle.std.proofs.Math.Seq.{drop-length}
use Rattle.std.proofs.lemmas.List.{take_rest, length-drop}
use Rattle.std.specs.Str.{chars, IsUtf8}
use Rattle.std.specs.List.{prefix_len, list_all, list_any}
use Rattle.std.proofs.lemmas.Bool.{and_parts, or_left}
use Rattle.litrs_base.proofs.Runs.{list_all-weaken, prefix_len_all}
use Rattle.litrs_grammar.proofs.LongerTexts.Dispatch.{digits_base}
use Rattle.std.proofs.lemmas.Str.{chars-nil}
use Rattle.std.proofs.lemmas.Bool.Decides.{nat_tests}
use Rattle.litrs_base.specs.declared.integer.IntegerBase.TheVariants.{Decimal, Hexadecimal}
use Rattle.litrs_base.specs.declared.err.ParseError.{ParseError}
use Rattle.litrs_base.specs.Base.{prefix, is_digit, is_digit_or_underscore}
use Rattle.litrs_base.specs.declared.integer.IntegerBase.{IntegerBase}
use Rattle.litrs_base.specs.Text.{first_passes}
use Rattle.litrs_base.proofs.Chars.{OnlyAscii, prefix_len-chars, passing_front, first_passes-chars}
use Rattle.litrs_grammar.specs.Literal.{LiteralKind, kind_parse, integer_literal, float_literal}
use Rattle.litrs_grammar.specs.LiteralRefusals.{is_float_mark, begins_with_float}
use Rattle.litrs_base.specs.Derivations.{IsOnlyDerivation}
use Rattle.litrs_base.specs.Numeral.{is_no_underscore}
use Rattle.litrs_grammar.specs.Refused.{IsRefused}
use Rattle.litrs_grammar.specs.Integer.{IntegerParts, IsIntegerOf, base_of, integer_cut, integer_cut_refusal, integer_refusal}
use Rattle.litrs_grammar.proofs.Laws.Integer.{only_cut, refusal_of_digit}
use Rattle.litrs_grammar.proofs.LongerTexts.Suffix.{is_suffix-nil}
use Rattle.litrs_lex.specs.declared.integer.IntegerCut.{IntegerCut}
use Rattle.litrs_lex.specs.IntegerCut.{integer_parts_at, IsIntegerWithin, IsDigitsCut}
use Rattle.litrs_lex.specs.NumberCut.{number_kind}
use Rattle.litrs_lex.proofs.IntegerBytes.{digits_are_ascii, digit-chars, parts_of_cut, places_of_cut, refusal_of_main, digit_is_no_underscore}

marks_are_ascii : OnlyAscii is_float_mark
marks_are_ascii c high = grind (arith, nat_tests)

-- the bytes tell what the characters do
pub begins_with_float-chars : (bs : List ℕ) → IsUtf8 bs → begins_with_float (chars bs) ≡ begins_with_float bs
begins_with_float-chars bs u =
    let p = is_digit_or_underscore Decimal in
    let front = passing_front p bs (digits_are_ascii Decimal) u in
    ap (λ n. first_passes is_float_mark (drop n (chars bs))) (prefix_len-chars p bs (digits_are_ascii Decimal) u)
    ∙ (ap (first_passes is_float_mark) front.rest ∙ first_passes-chars is_float_mark (drop (prefix_len p bs) bs) marks_are_ascii front.utf8)

pub kind_by_bytes : (bs : List ℕ) (v : Bool) → IsUtf8 bs → begins_with_float bs ≡ v → number_kind (chars bs) ≡ (if v then float_literal else integer_literal)
kind_by_bytes bs v u is = ap (λ b. if b then float_literal else integer_literal) (begins_with_float-chars bs u ∙ is)

pub refused_by_kind : (bs : List ℕ) (v : Bool) (e : ParseError) → IsUtf8 bs → begins_with_float bs ≡ v →
    IsRefused (kind_parse (if v then float_literal else integer_literal)) (chars bs) e → IsRefused (kind_parse (number_kind (chars bs))) (chars bs) e
refused_by_kind bs v e u is refused = subst (λ (k : LiteralKind). IsRefused (kind_parse k) (chars bs) e) (sym (kind_by_bytes bs v u is)) refused

-- if the base is ten, the cut is after the leading run
pub decimal_run : (cut : IntegerCut) (bs : List ℕ) → IsDigitsCut cut bs → cut.base ≡ Decimal → cut.end_main ≡ prefix_len (is_digit_or_underscore Decimal) bs
decimal_run cut bs h ten =
    let start : cut.start_main ≡ 0 = h.start ∙ ap (λ b. length (prefix b)) ten in
    h.end ∙ ((λ i. start i + prefix_len (is_digit_or_underscore (ten i)) (drop (start i) bs)) ∙ zero-add (prefix_len (is_digit_or_underscore Decimal) bs))

pub decimal_float : (cut : IntegerCut) (bs : List ℕ) → IsDigitsCut cut bs → cut.base ≡ Decimal → begins_with_float bs ≡ first_passes is_float_mark (drop cut.end_main bs)
decimal_float cut bs h ten = ap (λ n. first_passes is_float_mark (drop n bs)) (sym (decimal_run cut bs h ten))

-- Digits alone

is_run : (base : IntegerBase) (bs : List ℕ) → list_all (is_digit base) bs ≡ true → list_all (is_digit_or_underscore base) bs ≡ true
is_run base bs all = list_all-weaken (is_digit base) (is_digit_or_underscore base) (λ c h. or_left (is_digit base c) (eqb c 95) h) bs all

-- the cut of a text of the prefix and digits
abbrev pub whole_cut : IntegerBase → List ℕ → IntegerCut
whole_cut base bs = record { start_main = length (prefix base); end_main = length bs; base = base }

-- a text of the prefix and at least one digit
pub record IsPrefixAndDigits (base : IntegerBase) (bs : List ℕ) : Type 0 where
  pub base_is : base ≡ base_of bs
  pub some : 1 + length (prefix base) ≤ length bs
  pub all : list_all (is_digit base) (drop (length (prefix base)) bs) ≡ true

-- if `are_few_digits` returns true
pub few_decimal_digits : (bytes bs : List ℕ) → bytes ≡ bs →
    (nat_le 1 (length bytes) && nat_le (length bytes) 8 && list_all is_ascii_digit bytes) ≡ true → IsPrefixAndDigits Decimal bs
few_decimal_digits bytes bs same short =
    let parts = and_parts (nat_le 1 (length bytes) && nat_le (length bytes) 8) (list_all is_ascii_digit bytes) short in
    let all : list_all is_ascii_digit bs ≡ true = ap (list_all is_ascii_digit) (sym same) ∙ parts.1 in
    let some : 1 ≤ length bs = let len = ap length same in let low = (and_parts (nat_le 1 (length bytes)) (nat_le (length bytes) 8) parts.0).0 in grind (arith, nat_tests) in
    record { base_is = sym (digits_base bs (is_run Decimal bs all)); some = some; all = all }

pub few_hexadecimal_digits : (bytes bs : List ℕ) → bytes ≡ bs → Hexadecimal ≡ base_of bs → let digits = take (length bytes - 2) (drop 2 bytes) in
    (nat_le 1 (length digits) && nat_le (length digits) 8 && list_all is_ascii_hexdigit digits) ≡ true → IsPrefixAndDigits Hexadecimal bs
few_hexadecimal_digits bytes bs same is short =
    let digits = take (length bytes - 2) (drop 2 bytes) in
    let parts = and_parts (nat_le 1 (length digits) && nat_le (length digits) 8) (list_all is_ascii_hexdigit digits) short in
    let are : digits ≡ drop 2 bs = take_rest bytes 2 ∙ ap (drop 2) same in
    let some : 3 ≤ length bs = let len = ap length are ∙ length-drop 2 bs in let low = (and_parts (nat_le 1 (length digits)) (nat_le (length digits) 8) parts.0).0 in grind (arith, nat_tests) in
    record { base_is = is; some = some; all = ap (list_all is_ascii_hexdigit) (sym are) ∙ parts.1 }

whole_is_cut : (base : IntegerBase) (bs : List ℕ) → IsPrefixAndDigits base bs → IsDigitsCut (whole_cut base bs) bs
whole_is_cut base bs h = record {
  base = h.base_is;
  start = refl;
  end = let run = prefix_len_all (is_digit_or_underscore base) (drop (length (prefix base)) bs) (is_run base (drop (length (prefix base)) bs) h.all) in let len = length-drop (length (prefix base)) bs in let some = h.some in omega arith;
  within = omega arith;
}

some_digit : (base : IntegerBase) (bs : List ℕ) → 1 ≤ length bs → list_all (is_digit base) bs ≡ true → list_any is_no_underscore bs ≡ true
some_digit base [] some all = absurd (omega arith)
some_digit base (c ∷ bs) some all = rw (digit_is_no_underscore base c (and_parts (is_digit base c) (list_all (is_digit base) bs) all).0) refl

-- digits alone after the prefix are an integer with no suffix, and nothing else
pub digits_are_an_integer : (base : IntegerBase) (bs : List ℕ) → IsUtf8 bs → first_passes is_ascii_digit bs ≡ true → IsPrefixAndDigits base bs →
    IsOnlyDerivation (IsIntegerOf (chars bs)) (integer_parts_at (whole_cut base bs) bs) × IsIntegerWithin (whole_cut base bs) bs
digits_are_an_integer base bs u first h =
    let start = length (prefix base) in
    let cut = whole_is_cut base bs h in
    let none : drop (length bs) bs ≡ [] = drop-length bs in
    let main : slice_range bs start (length bs) ≡ drop start bs = take_rest bs start in
    let digit : list_any is_no_underscore (drop start bs) ≡ true = some_digit base (drop start bs) (let len = length-drop start bs in let some = h.some in omega arith) h.all in
    let rows : integer_cut_refusal (integer_cut (chars bs)) ≡ None =
    refusal_of_main (whole_cut base bs) bs u cut ∙ rw (none, main, chars-nil, is_suffix-nil, digit) refl in
    let free : integer_refusal (chars bs) ≡ None = refusal_of_digit (chars bs) (digit-chars bs u ∙ first) ∙ rows in (
      subst (λ (d : IntegerParts). IsOnlyDerivation (IsIntegerOf (chars bs)) d) (parts_of_cut (whole_cut base bs) bs u cut) (only_cut (chars bs) free),
      places_of_cut (whole_cut base bs) bs u cut,
    )
