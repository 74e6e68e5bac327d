-- Lines and the reports on them, by computation. The digits of a number in base ten are not computed.
use Rattle.std.specs.Prelude.{◌≡◌, ◌++◌, true, false, Some, None, [], ◌∷◌, codes, refl}
use Rattle.std.proofs.Common.{inl, inr}
use Rattle.std.specs.Fmt.{decimal, digits}
use Rattle.litrs_base.specs.declared.err.ParseErrorKind.TheVariants as kind
use Rattle.litrs_base.specs.Refusal.{without_span, at_byte}
use Rattle.litrs_base.specs.Numeral.{place_sum}
use Rattle.litrs_grammar.specs.CharByte.{plain_char, escaped_char}
use Rattle.litrs_grammar.specs.Integer.{integer_cut}
use Rattle.litrs_grammar.specs.Escape.{simple_escape, hex_escape}
use Rattle.litrs_grammar.specs.Quoted.{plain_item, escape_item}
use Rattle.litrs_grammar.specs.Literal.{quoted_parts, raw_parts, a_bool, an_integer, a_float, a_char, a_byte, a_string, a_byte_string, a_c_string}
use Rattle.litrs_grammar.proofs.Computing.{computing}
use Rattle.litrs_lines.specs.Report.{value_text, literal_report, IsTextReport}
use Rattle.litrs_lines.specs.Lines.{ended_parts, open_part, ended_parts_of, open_line, lines_of}

-- Texts

bools : IsTextReport (codes "true") (codes "bool true") × IsTextReport (codes "false") (codes "bool false")
bools = (inl (a_bool true, refl, refl), inl (a_bool false, refl, refl))

integers : (literal_report (an_integer (integer_cut (codes "0xff80")))
    ≡ codes "integer base=" ++ (decimal 16 ++ (codes " digits=ff80 suffix= value=")) ++ decimal 65408)
    × (literal_report (an_integer (integer_cut (codes "1_000u32")))
    ≡ codes "integer base=" ++ (decimal 10 ++ (codes " digits=1_000 suffix=u32 value=")) ++ decimal 1000)
unfolding computing integer_cut place_sum
integers = (refl, refl)

floats : (literal_report (a_float (record { integer = codes "3"; fraction = Some (codes "14"); exponent = []; suffix = codes "f33" }))
    ≡ codes "float int=3 frac=14 exp= suffix=f33")
    × (literal_report (a_float (record { integer = codes "3"; fraction = None; exponent = codes "e2"; suffix = codes "e5" }))
    ≡ codes "float int=3 frac=- exp=e2 suffix=e5")
unfolding computing
floats = (refl, refl)

characters : (literal_report (a_char (record { item = plain_char 0x1F98A; suffix = codes "good_boy" }))
    ≡ codes "char value=1f98a suffix=good_boy")
    × (literal_report (a_byte (record { item = escaped_char (hex_escape 70 70); suffix = [] })) ≡ codes "byte value=ff suffix=")
unfolding computing digits
characters = (refl, refl)

strings : (literal_report (a_string (quoted_parts (record { items = plain_item 97 ∷ escape_item (simple_escape 116) ∷ plain_item 98 ∷ []; suffix = codes "x" })))
    ≡ codes "string raw=no suffix=x value=610962")
    × (literal_report (a_byte_string (raw_parts (record { hash_count = 0; body = codes "\\n"; suffix = [] })))
    ≡ codes "bytestring raw=yes suffix= value=5c6e")
    × (literal_report (a_c_string (quoted_parts (record { items = plain_item 233 ∷ escape_item (hex_escape 70 70) ∷ []; suffix = [] })))
    ≡ codes "cstring raw=no suffix= value=c3a9ff")
unfolding computing
strings = (refl, refl, refl)

refusals : IsTextReport (codes "") (codes "error input is empty")
    × IsTextReport (codes "0;") (codes "error unexpected character (at " ++ decimal 1 ++ codes ".." ++ decimal 2 ++ codes ")")
unfolding computing
refusals = (inr (without_span kind.Empty, refl, refl), inr (at_byte 1 kind.UnexpectedChar, refl, refl))

-- Values

value-greatest : value_text 340282366920938463463374607431768211455 ≡ decimal 340282366920938463463374607431768211455
value-greatest = refl

value-none : value_text 340282366920938463463374607431768211456 ≡ codes "none"
value-none = refl

-- Lines

-- without parts, no part has ended, and no part is open
parts-none : (ended_parts [] ≡ []) × (open_part [] ≡ [])
parts-none = (refl, refl)

lines-last_open : lines_of (codes "a\n\nb") ≡ codes "a" ∷ [] ∷ codes "b" ∷ []
unfolding lines_of ended_parts_of open_line
lines-last_open = refl

lines-last_ended : lines_of (codes "a\n") ≡ codes "a" ∷ []
unfolding lines_of ended_parts_of open_line
lines-last_ended = refl

lines-none : lines_of [] ≡ []
unfolding lines_of ended_parts_of open_line
lines-none = refl

-- one CR right before an LF is left out, and no other: not the first of two, nor one that no LF follows
lines-returns : lines_of (49 ∷ 13 ∷ 10 ∷ 13 ∷ 10 ∷ 50 ∷ 13 ∷ 13 ∷ 10 ∷ 51 ∷ 13 ∷ 52 ∷ 10 ∷ 53 ∷ 13 ∷ [])
    ≡ codes "1" ∷ [] ∷ (50 ∷ 13 ∷ []) ∷ (51 ∷ 13 ∷ 52 ∷ []) ∷ (53 ∷ 13 ∷ []) ∷ []
unfolding lines_of ended_parts_of open_line
lines-returns = refl
