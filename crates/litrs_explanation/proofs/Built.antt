-- A literal that is built of the value of another one, without a suffix: it fails only if an
-- allocation does, and between its quotes all is printable.
use Rattle.std.proofs.Common.{◌≡◌, ℕ, ◌<◌, true, false, List, [], ◌∷◌, get_or, refl, ap, subst}
use Rattle.std.specs.Prelude.{Option, None}
use Rattle.std.specs.List.{list_all, list_any}
use Rattle.std.specs.Str.{chars}
use Rattle.std.proofs.lemmas.Str.{chars-nil}
use Rattle.litrs_grammar.specs.CharByte.{char_text, char_item_text}
use Rattle.litrs_grammar.specs.Quoted.{body_text}
use Rattle.litrs_grammar.specs.Raw.{is_nul}
use Rattle.litrs_grammar.specs.Suffix.{is_suffix}
use Rattle.litrs.specs.CharKind.{char_kind}
use Rattle.litrs.specs.StringKind.{string_kind, byte_string_kind, c_string_kind}
use Rattle.litrs.specs.LiteralText.{string_text}
use Rattle.litrs_build.specs.CStrings.{c_items, c_string_error, written_c_string}
use Rattle.litrs_build.specs.Errors.{IsErrorOf, suffix_error}
use Rattle.litrs_build.specs.Written.{written_char, char_items, byte_items, written_string, written_byte_string}
use Rattle.litrs_build.specs.declared.error.BuildError.{BuildError}
use Rattle.litrs_build.specs.declared.error.BuildError.TheVariants.{Memory}
use Rattle.litrs_build.proofs.PrintableTexts.{chars_are_printable, strings_are_printable, byte_strings_are_printable, c_strings_are_printable}
use Rattle.litrs_build.proofs.RawLiterals.{no_nul_error}
use Rattle.litrs_explanation.specs.Explanation.{is_line_feed_or_printable}
use Rattle.litrs_explanation.proofs.Printed.{quoted_clean}

no_suffix : is_suffix (chars []) ≡ true
unfolding is_suffix
no_suffix = ap is_suffix chars-nil

no_suffix_error : suffix_error (chars []) ≡ None
unfolding is_suffix
no_suffix_error = ap suffix_error chars-nil

pub only_memory : (e : BuildError) → IsErrorOf (suffix_error (chars [])) e → e ≡ Memory
only_memory e is = subst (λ (o : Option BuildError). IsErrorOf o e) no_suffix_error is

pub only_memory_of_c : (bytes : List ℕ) (e : BuildError) → list_any is_nul bytes ≡ false →
    IsErrorOf (c_string_error bytes (chars [])) e → e ≡ Memory
only_memory_of_c bytes e none is =
    subst (λ (o : Option BuildError). IsErrorOf o e) (no_nul_error bytes (chars []) no_suffix none) is

pub char_clean : (c : ℕ) →
    list_all is_line_feed_or_printable (char_text char_kind (written_char c [])) ≡ true
char_clean c =
    quoted_clean (39 ∷ []) (char_item_text (written_char c []).item) 39 refl (chars_are_printable c []) refl

pub string_clean : (text : List ℕ) →
    list_all is_line_feed_or_printable (string_text string_kind (written_string text [])) ≡ true
string_clean text =
    quoted_clean (34 ∷ []) (body_text (char_items true text)) 34 refl (strings_are_printable true text) refl

pub byte_string_clean : (bytes : List ℕ) → ((i : ℕ) → get_or bytes i 0 < 256) →
    list_all is_line_feed_or_printable (string_text byte_string_kind (written_byte_string bytes [])) ≡ true
byte_string_clean bytes small =
    quoted_clean (98 ∷ 34 ∷ []) (body_text (byte_items bytes)) 34 refl (byte_strings_are_printable bytes small) refl

pub c_string_clean : (bytes : List ℕ) → ((i : ℕ) → get_or bytes i 0 < 256) →
    list_all is_line_feed_or_printable (string_text c_string_kind (written_c_string bytes [])) ≡ true
c_string_clean bytes small =
    quoted_clean (99 ∷ 34 ∷ []) (body_text (c_items 0 true bytes)) 34 refl
    (c_strings_are_printable 0 true bytes small) refl
