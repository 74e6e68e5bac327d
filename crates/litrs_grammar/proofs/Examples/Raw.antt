-- Raw strings, byte strings and C strings by computation: forms, values, and each row of the table of refusals.
use Prim.Native.String.{String}
use Rattle.std.specs.Prelude.{◌≡◌, ℕ, List, [], ◌∷◌, ◌++◌, Some, None, refl, codes, true, false}
use Rattle.litrs_base.specs.declared.err.ParseErrorKind.TheVariants as kind
use Rattle.litrs_base.specs.Refusal.{Refusal, without_span, spanning, at_byte}
use Rattle.litrs_base.specs.declared.quotes.StringKind.{StringKind}
use Rattle.litrs_base.specs.declared.quotes.StringKind.TheVariants.{String as string_kind, ByteString as byte_string_kind, CString as c_string_kind}
use Rattle.litrs_grammar.specs.Raw.{hashes, raw_value, IsRawLiteral, raw_literal_refusal, raw_refusal, is_raw_char, raw_char_kind, length_before}
use Rattle.litrs_grammar.proofs.Computing.{computing, raw}

-- the text is a raw string of the kind, with this number of hashes, this body and this suffix
abbrev Is : StringKind → List ℕ → ℕ → String → String → Type 0
Is kind text hash_count body suffix =
    IsRawLiteral kind text (record { hash_count = hash_count; body = codes body; suffix = codes suffix })

-- the text is refused as one
abbrev Refused : StringKind → List ℕ → Refusal → Type 0
Refused kind text refusal = raw_literal_refusal kind text ≡ Some refusal

-- it is not
abbrev Accepted : StringKind → List ℕ → Type 0
Accepted kind text = raw_literal_refusal kind text ≡ None

-- Literals and their parts

literals :
    Is c_string_kind (codes "cr#\"a\\x0cb\\\\\"#_jürgen") 1 "a\\x0cb\\\\" "_jürgen"
    × Is byte_string_kind (codes "br#\"\t\n\"#x") 1 "\t\n" "x"
unfolding computing
literals = (raw refl refl refl refl refl, raw refl refl refl refl refl)

-- Values

values :
    raw_value (codes "\\n") ≡ 0x5c ∷ 0x6e ∷ []
unfolding computing
values = refl

-- Texts that the grammar allows, and texts that it does not

characters :
    is_raw_char true true 13 ≡ false
unfolding computing
characters = refl

kinds :
    raw_char_kind 13 ≡ kind.CarriageReturn
unfolding computing
kinds = refl

-- if neither NUL nor characters beyond ASCII are allowed, the first one in the text decides
first_characters :
    (raw_refusal false false 0 (34 ∷ 13 ∷ 0 ∷ 233 ∷ []) ≡ Some (at_byte 1 kind.CarriageReturn))
    × (raw_refusal false false 0 (34 ∷ 0 ∷ 13 ∷ 233 ∷ []) ≡ Some (at_byte 1 kind.NulByte))
    × (raw_refusal false false 0 (34 ∷ 0 ∷ 233 ∷ 13 ∷ []) ≡ Some (at_byte 1 kind.NulByte))
    × (raw_refusal false false 0 (34 ∷ 233 ∷ 0 ∷ 13 ∷ []) ≡ Some (at_byte 1 kind.NonAsciiInByteLiteral))
unfolding computing
first_characters = (refl, refl, refl, refl)

places :
    length_before (codes "\"#") (codes "ab") ≡ 2
unfolding computing
places = refl

-- Texts that are not refused

accepted :
    Accepted byte_string_kind (codes "br\"\0\"")
    × Accepted string_kind (codes "r##\"a\"#\"##")
unfolding computing
accepted = (refl, refl)

-- Refused texts, by the rows of the table

rows-invalid_literal :
    Refused string_kind (codes "r") (without_span kind.InvalidLiteral)
    -- before that the hashes are too many
    × Refused string_kind (codes "r" ++ hashes 256) (without_span kind.InvalidLiteral)
    × Refused string_kind (codes "r####x") (without_span kind.InvalidLiteral)
unfolding computing
rows-invalid_literal = (refl, refl, refl)

rows-too_many_hashes :
    Refused byte_string_kind (codes "br" ++ (hashes 256 ++ (codes "\"peter\"" ++ hashes 256))) (spanning 2 258 kind.TooManyHashes)
    -- before the quote that lacks
    × Refused string_kind (codes "r" ++ (hashes 256 ++ codes "x")) (spanning 1 257 kind.TooManyHashes)
unfolding computing
rows-too_many_hashes = (refl, refl)

rows-carriage_return :
    Refused byte_string_kind (codes "br\"a\\\r\"") (at_byte 5 kind.CarriageReturn)
unfolding computing
rows-carriage_return = refl

rows-nul_byte :
    Refused c_string_kind (codes "cr\"a\0\"") (at_byte 4 kind.NulByte)
unfolding computing
rows-nul_byte = refl

rows-non_ascii_in_byte_literal :
    Refused byte_string_kind (codes "br\"x🦊baz\"") (at_byte 4 kind.NonAsciiInByteLiteral)
unfolding computing
rows-non_ascii_in_byte_literal = refl

rows-unterminated_raw_string :
    Refused string_kind (codes "r####\"") (without_span kind.UnterminatedRawString)
    × Refused string_kind (codes "r##\"a\"#") (without_span kind.UnterminatedRawString)
unfolding computing
rows-unterminated_raw_string = (refl, refl)

rows-unexpected_char :
    -- the first `"#` closes
    Refused c_string_kind (codes "cr#\"foo \"# bar\"#") (at_byte 10 kind.UnexpectedChar)
    × Refused string_kind (codes "r\"a\"\r") (at_byte 4 kind.UnexpectedChar)
unfolding computing
rows-unexpected_char = (refl, refl)

rows-invalid_suffix :
    Refused string_kind (codes "r\"a\"_") (at_byte 4 kind.InvalidSuffix)
unfolding computing
rows-invalid_suffix = refl
