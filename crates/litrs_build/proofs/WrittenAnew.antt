-- A string literal is built of its own value: with these parts, and with no error.
use Rattle.std.proofs.Common.{◌≡◌, true, List, ℕ, ap}
use Rattle.std.specs.Prelude.{None}
use Rattle.std.specs.Str.{chars, IsUtf8}
use Rattle.std.proofs.lemmas.Bool.{false≢true}
use Rattle.litrs_base.specs.declared.quotes.StringKind.{StringKind}
use Rattle.litrs_base.specs.declared.quotes.StringKind.TheVariants.{ByteString as byte_string_kind}
use Rattle.litrs_grammar.specs.Literal.{StringParts, quoted_parts, raw_parts, IsString, string_suffix, string_value}
use Rattle.litrs_grammar.specs.Strings.{is_raw}
use Rattle.litrs_grammar.specs.Suffix.{is_suffix}
use Rattle.litrs_build.specs.Raw.{raw_kind_error, written_raw}
use Rattle.litrs_build.specs.WrittenAnew.{unescaped_string}
use Rattle.litrs_build.proofs.RawLiterals.{body_bytes, body_chars, raw_literals_are_built}

pub raw_again : (kind : StringKind) (bytes : List ℕ) (d : StringParts) → is_raw d ≡ true →
    IsUtf8 bytes → IsString kind (chars bytes) d →
    written_raw (chars (string_value d)) (string_suffix d) ≡ unescaped_string kind d
raw_again kind bytes (quoted_parts d) raw u is = absurd (false≢true raw)
raw_again kind bytes (raw_parts d) raw u is =
    ap (λ (t : List ℕ). written_raw t d.suffix) (body_chars kind bytes d u is)

pub raw_bytes_again : (bytes : List ℕ) (d : StringParts) → is_raw d ≡ true →
    IsString byte_string_kind (chars bytes) d →
    written_raw (string_value d) (string_suffix d) ≡ unescaped_string byte_string_kind d
raw_bytes_again bytes (quoted_parts d) raw is = absurd (false≢true raw)
raw_bytes_again bytes (raw_parts d) raw is =
    ap (λ (t : List ℕ). written_raw t d.suffix) (body_bytes d is.grammar)

pub raw_is_possible : (kind : StringKind) (bytes : List ℕ) (d : StringParts) → is_raw d ≡ true →
    IsUtf8 bytes → IsString kind (chars bytes) d →
    raw_kind_error kind (string_value d) (string_suffix d) ≡ None
raw_is_possible kind bytes (quoted_parts d) raw u is = absurd (false≢true raw)
raw_is_possible kind bytes (raw_parts d) raw u is = raw_literals_are_built kind bytes d u is

pub string_has_suffix : (kind : StringKind) (t : List ℕ) (d : StringParts) → IsString kind t d →
    is_suffix (string_suffix d) ≡ true
string_has_suffix kind t (quoted_parts d) is = is.suffix
string_has_suffix kind t (raw_parts d) is = is.grammar.suffix
