-- Literals of all kinds by computation: the rows of the dispatch and of the starts, parts, beginnings, and what refusals
-- call for.
use Prim.Native.String.{String}
use Rattle.std.specs.Prelude.{◌≡◌, true, false, ℕ, List, [], ◌∷◌, ◌++◌, None, codes, refl}
use Rattle.litrs_base.specs.declared.err.ParseErrorKind.TheVariants as kind
use Rattle.litrs_base.specs.Refusal.{Refusal, without_span, at_byte, spanning}
use Rattle.litrs_base.specs.Finality.{is_final, is_open}
use Rattle.litrs_base.specs.Text.{IsText}
use Rattle.litrs_grammar.specs.Escape.{simple_escape}
use Rattle.litrs_grammar.specs.Bool.{bool_refusal}
use Rattle.litrs_grammar.specs.CharByte.{plain_char}
use Rattle.litrs_grammar.specs.Quoted.{plain_item, escape_item}
use Rattle.litrs_grammar.specs.Raw.{hashes}
use Rattle.litrs_grammar.specs.Literal.{Derivation, quoted_parts, raw_parts, a_bool, a_char, a_string, IsLiteral, suffix_of, string_value, LiteralKind, bool_literal, integer_literal, char_literal, string_literal, byte_string_literal, c_string_literal, Parse, literal_parse, kind_parse, IsLiteralOf, Begins}
use Rattle.litrs_grammar.specs.LiteralRefusals.{parsed_as, dispatch, IsRefusal}
use Rattle.litrs_grammar.specs.Closing.{closing_of}
use Rattle.litrs_grammar.specs.Allocation.{may_allocate}
use Rattle.litrs_grammar.proofs.Computing.{computing, char_or_byte, refused_after, raw}

-- the text is refused by the parse
abbrev Refused : Parse → String → Refusal → Type 0
Refused parse text refusal = IsRefusal parse (codes text) refusal

-- it is a literal, by the parse of its kind
abbrev Is : LiteralKind → String → Derivation → Type 0
Is kind text d = IsLiteralOf (kind_parse kind) (codes text) d

-- a longer text is one
abbrev BeginsLiteral : Parse → String → Type 0
BeginsLiteral parse text = Begins parse (codes text)

-- Literals, each by the parse of its kind

literals :
    Is bool_literal "false" (a_bool false)
unfolding computing
literals = (refl, refl)

abbrev fox : Derivation
fox = a_char (record { item = plain_char 0x1F98A; suffix = codes "good_boy" })

abbrev raw_string : Derivation
raw_string = a_string (raw_parts (record { hash_count = 2; body = codes "a\"#"; suffix = [] }))

literals_of_any_kind :
    IsLiteral (codes "'🦊'good_boy") fox
unfolding computing
literals_of_any_kind = char_or_byte refl refl refl

-- Suffixes

suffixes :
    suffix_of (a_bool true) ≡ []
unfolding computing
suffixes = refl

-- Values of strings

string_values :
    string_value (quoted_parts (record { items = plain_item 233 ∷ escape_item (simple_escape 110) ∷ []; suffix = codes "x" })) ≡ 0xC3 ∷ 0xA9 ∷ 10 ∷ []
unfolding computing
string_values = refl

-- Bools

bools :
    (bool_refusal (codes "true") ≡ None)
    × (bool_refusal (codes "false") ≡ None)
    × (dispatch (codes "true") ≡ parsed_as bool_literal)
    × (dispatch (codes "false") ≡ parsed_as bool_literal)
unfolding computing
bools = (refl, refl, refl, refl)

-- Refused by `Literal::parse`, by the rows of the dispatch

any-empty :
    Refused literal_parse "" (without_span kind.Empty)
unfolding computing
any-empty = refl

any-float :
    Refused literal_parse "1.e4" (at_byte 2 kind.UnexpectedChar)
    × Refused literal_parse "0eel" (spanning 1 2 kind.NoExponentDigits)
    × Refused literal_parse "98e" (spanning 2 3 kind.NoExponentDigits)
    × Refused literal_parse "12345._987" (at_byte 6 kind.UnexpectedChar)
unfolding computing
any-float = (refl, refl, refl, refl)

any-integer :
    Refused literal_parse "0b1e3" (at_byte 3 kind.IntegerSuffixStartingWithE)
    × Refused literal_parse "0xg" (spanning 2 2 kind.NoDigits)
unfolding computing
any-integer = (refl, refl)

any-char :
    Refused literal_parse "'''" (at_byte 1 kind.UnescapedSingleQuote)
    × Refused literal_parse "'" (without_span kind.UnterminatedCharLiteral)
unfolding computing
any-char = (refl, refl)

any-string :
    Refused literal_parse "\"ab" (without_span kind.UnterminatedString)
    × Refused literal_parse "r##\"a\"#" (without_span kind.UnterminatedRawString)
unfolding computing
any-string = (
  refused_after (plain_item 97 ∷ plain_item 98 ∷ []) ([]) (without_span kind.UnterminatedString) refl refl refl refl,
  refl,
)

any-byte :
    Refused literal_parse "b''" (without_span kind.EmptyByteLiteral)
    × Refused literal_parse "b'" (without_span kind.UnterminatedByteLiteral)
unfolding computing
any-byte = (refl, refl)

any-byte_string :
    Refused literal_parse "b\"\né" (at_byte 3 kind.NonAsciiInByteLiteral)
    × IsRefusal literal_parse (codes "br" ++ (hashes 256 ++ codes "\"")) (spanning 2 258 kind.TooManyHashes)
unfolding computing
any-byte_string = (
  refused_after (plain_item 10 ∷ []) (codes "é") (at_byte 0 kind.NonAsciiInByteLiteral) refl refl refl refl,
  refl,
)

any-c_string :
    Refused literal_parse "c\"\0\"" (at_byte 2 kind.NulByte)
    × Refused literal_parse "cat" (without_span kind.InvalidCStringLiteralStart)
unfolding computing
any-c_string = (
  refused_after ([]) (codes "\0\"") (at_byte 0 kind.NulByte) refl refl refl refl,
  refl,
)

any-other :
    Refused literal_parse "b" (without_span kind.InvalidLiteral)
    × Refused literal_parse "foo" (without_span kind.InvalidLiteral)
unfolding computing
any-other = (refl, refl)

-- Refused by the parse of one kind, by how the text starts

one-number :
    Refused (kind_parse integer_literal) "3.14" (spanning 1 4 kind.UnexpectedChar)
unfolding computing
one-number = refl

one-bool :
    Refused (kind_parse bool_literal) "" (without_span kind.InvalidLiteral)
    × Refused (kind_parse bool_literal) "truee" (without_span kind.InvalidLiteral)
unfolding computing
one-bool = (refl, refl)

one-char :
    Refused (kind_parse char_literal) "x" (at_byte 0 kind.DoesNotStartWithQuote)
unfolding computing
one-char = refl

one-string :
    Refused (kind_parse string_literal) "" (without_span kind.Empty)
    × Refused (kind_parse string_literal) "x" (at_byte 0 kind.InvalidStringLiteralStart)
    × Refused (kind_parse string_literal) "b\"\"" (at_byte 0 kind.InvalidStringLiteralStart)
unfolding computing
one-string = (refl, refl, refl)

one-byte_string :
    Refused (kind_parse byte_string_literal) "" (without_span kind.Empty)
    × Refused (kind_parse byte_string_literal) "b" (without_span kind.InvalidByteStringLiteralStart)
    × Refused (kind_parse byte_string_literal) "\"" (without_span kind.InvalidByteStringLiteralStart)
unfolding computing
one-byte_string = (refl, refl, refl)

one-c_string :
    Refused (kind_parse c_string_literal) "c" (without_span kind.InvalidCStringLiteralStart)
unfolding computing
one-c_string = refl

-- Texts that begin literals

beginnings :
    -- with the closing text of its refusal
    BeginsLiteral (kind_parse string_literal) "r##\"a\"#"
unfolding computing
beginnings = (closing_of (codes "r##\"a\"#") (without_span kind.UnterminatedRawString), raw_string, refl, (refl, raw refl refl refl refl refl))

-- the rest after a beginning is a text
after_beginning : (parse : Parse) (t : List ℕ) (begins : Begins parse t) → IsText begins.0
after_beginning parse t begins = begins.2

-- Final and open refusals, and closing texts

finality :
    (is_final kind.UnexpectedChar ≡ true)
    × (is_final kind.InvalidStringLiteralStart ≡ true)
    × (is_final kind.InvalidCStringLiteralStart ≡ false)
    × (is_final kind.UnterminatedString ≡ false)
    × (is_final kind.OutOfMemory ≡ false)
    × (is_open kind.UnterminatedString ≡ true)
    × (is_open kind.UnterminatedRawString ≡ true)
    × (is_open kind.UnterminatedUnicodeEscape ≡ false)
unfolding computing
finality = (refl, refl, refl, refl, refl, refl, refl, refl)

closings :
    (closing_of (codes "b\"ab") (without_span kind.UnterminatedString) ≡ codes "\"")
    × (closing_of (codes "r##\"a\"#") (without_span kind.UnterminatedRawString) ≡ codes "\"##")
    × (closing_of (codes "br##\"a") (without_span kind.UnterminatedRawString) ≡ codes "\"##")
    × (closing_of (codes "cr#\"a") (without_span kind.UnterminatedRawString) ≡ codes "\"#")
unfolding computing
closings = (refl, refl, refl, refl)

-- Texts whose parse may allocate, and texts whose parse never does

may_allocate-true :
    (may_allocate (codes "\"a\\n\"") ≡ true)
    × (may_allocate (codes "b\"\\n") ≡ true)
    × (may_allocate (codes "c\"\"") ≡ true)
    × (may_allocate (codes "cr") ≡ true)
    × (may_allocate (codes "b\"\\") ≡ true)
    × (may_allocate (codes "\"a\"\\") ≡ true)
unfolding computing
may_allocate-true = (refl, refl, refl, refl, refl, refl)

may_allocate-false :
    (may_allocate (codes "\"ab\"") ≡ false)
    × (may_allocate (codes "r\"\\n\"") ≡ false)
    × (may_allocate (codes "'\\n'") ≡ false)
    × (may_allocate (codes "b\"ab\"") ≡ false)
unfolding computing
may_allocate-false = (refl, refl, refl, refl)
