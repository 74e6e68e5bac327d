-- The fields of answers, read by name: each line fails if the definition says less.
use Rattle.std.specs.Prelude.{◌≡◌, ◌≤◌, ◌⊎◌, ℕ, ◌+◌, ◌*◌, ◌^◌, List, [], Some, None, true, false, length, drop, unwrap_or, codes}
use Rattle.std.specs.Str.{chars, IsUtf8, IsCharBoundary}
use Rattle.std.proofs.Common.{arith, refl, ap, sym, subst, ◌∙◌}
use Rattle.litrs_base.specs.declared.err.ParseError.{ParseError}
use Rattle.litrs_base.specs.declared.err.ParseErrorKind.TheVariants as kind
use Rattle.litrs_base.specs.declared.integer.IntegerBase.TheVariants.{Decimal, Hexadecimal}
use Rattle.litrs_grammar.specs.Literal.{Derivation, raw_parts, a_bool, an_integer, a_float, a_byte_string, IsLiteral, literal_parse}
use Rattle.litrs_grammar.specs.Refused.{IsRefused, MayLackMemory}
use Rattle.litrs_grammar.proofs.Computing.{computing}
use Rattle.litrs_lexer.specs.Comment.{doc_style}
use Rattle.litrs_lexer.specs.Token.{is_trivia}
use Rattle.litrs_lexer.specs.Tokens.{IsFirstToken}
use Rattle.litrs_lexer.specs.declared.kind.TokenKind.TheVariants.{LineComment}
use Rattle.litrs_lexer.specs.declared.token.Token.{Token}
use Rattle.litrs_prefix.specs.Malformed.{IsMalformed, IsOutOfMemoryAt}
use Rattle.litrs_prefix.specs.Prefix.{HasPrefix}
use Rattle.litrs_c.specs.declared.LiteralFields.{LiteralFields}
use Rattle.litrs_c.specs.declared.Place.{Place}
use Rattle.litrs_c.specs.declared.RefusalFields.{RefusalFields}
use Rattle.litrs_c.specs.declared.tokens.TokenFields.{TokenFields}
use Rattle.litrs_c.specs.Answers.{IsLiteralAnd, IsRefusedAnd, IsKept, IsWritten, IsWrittenFrom, WritesValue, WritesMessage}
use Rattle.litrs_c.specs.Codes.{token_code, doc_code}
use Rattle.litrs_c.specs.LiteralFields.{IsLiteralFields}
use Rattle.litrs_c.specs.Numbers.{IsCopied, LacksNumberMemory}
use Rattle.litrs_c.specs.Places.{nowhere}
use Rattle.litrs_c.specs.Prefixes.{IsPrefixAnd, IsMalformedAnd, LacksMemoryAt}
use Rattle.litrs_c.specs.RefusalFields.{IsRefusalFields}
use Rattle.litrs_c.specs.Tokens.{IsTokenFields, IsTokenAt, HasNoTokenAt}
use Rattle.litrs_c.specs.Writes.{WritesLiteral}

-- Texts

-- every derivation of the text is the one of which something is said
only_literal : (t : List ℕ) (Says : Derivation → Type 0) (is : IsLiteralAnd t Says) (d : Derivation) → IsLiteral t d → d ≡ is.0
only_literal t Says is d literal = is.1.1 d literal

-- and it is said of that one
said_of_literal : (t : List ℕ) (Says : Derivation → Type 0) (is : IsLiteralAnd t Says) → Says is.0
said_of_literal t Says is = is.2

-- the text is refused with the error of which something is said
said_of_refused : (t : List ℕ) (Says : ParseError → Type 0) (is : IsRefusedAnd t Says) → IsRefused literal_parse t is.0 × Says is.0
said_of_refused t Says is = (is.1, is.2)

-- the literal at the front of a longer text, what follows its bytes, and that a character ends with them
prefix : (bytes : List ℕ) (len : ℕ) (Says : Derivation → Type 0) (is : IsPrefixAnd bytes len Says) →
    HasPrefix (chars bytes) is.0 (chars (drop len bytes)) × IsCharBoundary bytes len × Says is.0
prefix bytes len Says is = (is.1, is.2, is.3)

-- the malformed one, its length, and its error
malformed : (t : List ℕ) (len : ℕ) (Says : ParseError → Type 0) (is : IsMalformedAnd t len Says) →
    IsMalformed t is.0 × (is.0.len ≡ len) × Says is.0.error
malformed t len Says is = (is.1, is.2, is.3)

-- the one for whose value there was no memory, and its length
lacks_memory : (t : List ℕ) (len : ℕ) (is : LacksMemoryAt t len) → IsOutOfMemoryAt t is.0 × (is.0.len ≡ len)
lacks_memory t len is = (is.1, is.2)

-- Tokens

-- the token at a place of the text, its fields, and what follows it
token : (text : List ℕ) (at : ℕ) (fields : TokenFields) (is : IsTokenAt text at fields) →
    IsCharBoundary text at × IsFirstToken text (drop at text) is.token (drop fields.place.end text)
    × IsTokenFields is.token fields × (fields.place.start ≡ at)
token text at fields is = (is.place, is.is, is.are, is.start)

-- or where no token is
no_token : (text : List ℕ) (at : ℕ) → HasNoTokenAt text at → (at ≡ length text) ⊎ (IsCharBoundary text at → ⊥)
no_token text at is = is

-- the fields of a line comment
comment_fields : (found : Token) (fields : TokenFields) → found.kind ≡ LineComment → IsTokenFields found fields →
    (fields.kind ≡ 2) × (fields.is_trivia ≡ true) × (fields.place.start ≡ found.start)
    × (fields.place.end ≡ found.start + length found.text.now)
    × (fields.doc_style ≡ doc_code (doc_style found.kind (chars found.text.now)))
comment_fields found fields kind is =
    (is.kind ∙ ap token_code kind, is.trivia ∙ ap is_trivia kind, is.start, is.end, is.doc_style)

-- Fields of a literal

-- from the one byte up to the other
abbrev place : ℕ → ℕ → Place
place start end = record { start = start; end = end }

-- `0xFF_u8`
abbrev hexadecimal : Derivation
hexadecimal = an_integer (record { base = Hexadecimal; main = codes "FF_"; suffix = codes "u8" })

integer_fields : (fields : LiteralFields) → IsLiteralFields 7 hexadecimal fields →
    (fields.kind ≡ 2) × (fields.base ≡ 16) × (fields.is_raw ≡ false) × (fields.has_fraction ≡ false)
    × (fields.main ≡ place 2 5) × (fields.fraction ≡ nowhere) × (fields.exponent ≡ nowhere)
unfolding computing
integer_fields fields is = (is.kind, is.base, is.raw, is.has_fraction, is.main, is.fraction, is.exponent)

integer_value : (fields : LiteralFields) → IsLiteralFields 7 hexadecimal fields →
    (fields.has_value ≡ true) × (fields.value_low + 2 ^ 64 * fields.value_high ≡ 255)
unfolding computing
integer_value fields is = (is.number.has_value, is.number.value)

integer_suffix : (fields : LiteralFields) → IsLiteralFields 7 hexadecimal fields → (fields.suffix.start ≡ 5) × (fields.suffix.end ≡ 7)
unfolding computing
integer_suffix fields is =
    let start : fields.suffix.start + 2 ≡ 7 = is.suffix.start in
    (omega (arith, start), is.suffix.end)

-- 2^128, which the halves do not hold
great_integer_value : (fields : LiteralFields) →
    IsLiteralFields 39 (an_integer (record { base = Decimal; main = codes "340282366920938463463374607431768211456"; suffix = [] })) fields →
    (fields.has_value ≡ false) × (fields.value_low + 2 ^ 64 * fields.value_high ≡ 0)
unfolding computing
great_integer_value fields is = (is.number.has_value, is.number.value)

-- `1.5e3f32`
float_fields : (fields : LiteralFields) →
    IsLiteralFields 8 (a_float (record { integer = codes "1"; fraction = Some (codes "5"); exponent = codes "e3"; suffix = codes "f32" })) fields →
    (fields.kind ≡ 3) × (fields.base ≡ 0) × (fields.has_fraction ≡ true)
    × (fields.main ≡ place 0 1) × (fields.fraction ≡ place 2 3) × (fields.exponent ≡ place 3 5)
unfolding computing
float_fields fields is = (is.kind, is.base, is.has_fraction, is.main, is.fraction, is.exponent)

-- `br"a"`
abbrev raw : Derivation
raw = a_byte_string (raw_parts (record { hash_count = 0; body = codes "ab"; suffix = [] }))

raw_fields : (fields : LiteralFields) → IsLiteralFields 6 raw fields → (fields.kind ≡ 7) × (fields.is_raw ≡ true)
unfolding computing
raw_fields fields is = (is.kind, is.raw)

-- `true`
bool_fields : (fields : LiteralFields) → IsLiteralFields 4 (a_bool true) fields →
    (fields.kind ≡ 1) × (fields.has_value ≡ true) × (fields.value_low + 2 ^ 64 * fields.value_high ≡ 1)
unfolding computing
bool_fields fields is = (is.kind, is.number.has_value, is.number.value)

-- Fields of a refusal

-- the refusal of `b'é'`, whose character has two bytes
final_fields : (fields : RefusalFields) →
    IsRefusalFields (record { span = Some (record { start = 2; end = 3 }); char_end = 4; kind = kind.NonAsciiInByteLiteral }) fields →
    (fields.kind ≡ 25) × (fields.is_final ≡ true) × (fields.is_open ≡ false) × (fields.has_span ≡ true)
    × (fields.span ≡ place 2 3) × (fields.char_span ≡ place 2 4)
final_fields fields is = (is.kind, is.final, is.lacks_closing, is.has_span, is.span, is.char_span)

-- the refusal of `"a`
open_fields : (fields : RefusalFields) →
    IsRefusalFields (record { span = None; char_end = 0; kind = kind.UnterminatedString }) fields →
    (fields.kind ≡ 30) × (fields.is_final ≡ false) × (fields.is_open ≡ true) × (fields.has_span ≡ false)
    × (fields.span ≡ nowhere) × (fields.char_span ≡ nowhere)
open_fields fields is = (is.kind, is.final, is.lacks_closing, is.has_span, is.span, is.char_span)

-- Writes to a room

-- nothing is written with a length of 1
kept_without_length : ¬ IsKept [] [] 1
kept_without_length kept =
    let none : ◌≡◌ {A = ℕ} 1 0 = kept.0 in
    cc

-- nor where the room has other bytes
kept_bytes : (old new : List ℕ) (len : ℕ) → IsKept old new len → new ≡ old
kept_bytes old new len kept = kept.1

-- a room that is longer than the bytes keeps its end
written_long : (new : List ℕ) (len : ℕ) → IsWritten (codes "a") (codes "xyz") new len → new ≡ codes "ayz"
unfolding computing
written_long new len is = is.room

-- a part from the second byte on
written_from : (new : List ℕ) (end : ℕ) → IsWrittenFrom 1 (codes "ab") (codes "wxyz") new end → (end ≡ 3) × (new ≡ codes "wabz")
unfolding computing
written_from new end is = (is.ends, is.room)

-- the value of `br"ab"`
value_written : (new : List ℕ) (len : ℕ) → WritesValue (codes "x") new len raw → (len ≡ 2) × (new ≡ codes "a")
unfolding computing
value_written new len is =
    let bytes : codes "ab" ≡ is.bytes = ap (λ o. unwrap_or o []) is.value in
    let written : IsWritten (codes "ab") (codes "x") new len =
    subst (λ (b : List ℕ). IsWritten b (codes "x") new len) (sym bytes) is.written in
    (written.len, written.room)

-- the message on the empty text
message_written : (new : List ℕ) (len : ℕ) →
    WritesMessage (codes "xx") new len (record { span = None; char_end = 0; kind = kind.Empty }) → (len ≡ 14) × (new ≡ codes "in")
unfolding computing
message_written new len is = (is.len, is.room)

-- the literal of a value
literal_written : (old new : List ℕ) (len : ℕ) (d : Derivation) (is : WritesLiteral old new len d) →
    IsUtf8 is.text × IsLiteral (chars is.text) d × IsWritten is.text old new len
literal_written old new len d is = (is.utf8, is.literal, is.written)

-- Numbers that need memory

-- the float `1_0.5`
copied_float : IsCopied (a_float (record { integer = codes "1_0"; fraction = Some (codes "5"); exponent = []; suffix = [] }))
unfolding computing
copied_float = refl

-- not that of `10.5`
plain_float_stays : ¬ IsCopied (a_float (record { integer = codes "10"; fraction = Some (codes "5"); exponent = []; suffix = [] }))
unfolding computing
plain_float_stays copied =
    let none : false ≡ true = copied in
    cc

-- `0xFF_u8` is not in base ten, and `27_` is less than 2^64
hexadecimal_stays : ¬ IsCopied hexadecimal
hexadecimal_stays copied =
    let ten : Hexadecimal ≡ Decimal = copied.1 in
    cc

small_integer_stays : ¬ IsCopied (an_integer (record { base = Decimal; main = codes "27_"; suffix = [] }))
unfolding computing
small_integer_stays copied =
    let large : 2 ^ 64 ≤ 27 = copied.2 in
    absurd (omega (arith, large))

-- nor is a bool
bool_stays : ¬ IsCopied (a_bool true)
bool_stays copied = copied

-- there was no memory for the value of a text that is not a number, or for the number
number_lacks_memory : (t : List ℕ) → LacksNumberMemory t → MayLackMemory t ⊎ IsLiteralAnd t IsCopied
number_lacks_memory t is = is
