-- The beginning of a text decides the only kind that it may have. A text that is not a literal of
-- that kind is not a literal at all, or is a bool.
use Rattle.std.proofs.Common.{◌≡◌, ℕ, Bool, true, false, List, refl, sym, ap, ◌∙◌, ◌⊎◌, inl, inr, subst}
use Rattle.std.specs.Prelude.{◌≢◌, codes, if◌then◌else◌}
use Rattle.std.specs.Char.{is_ascii_digit}
use Rattle.std.specs.Str.{chars, IsUtf8}
use Rattle.std.proofs.lemmas.Bool.{both_ways}
use Rattle.litrs_base.specs.declared.err.ParseError.{ParseError}
use Rattle.litrs_base.specs.declared.err.ParseErrorKind.TheVariants.{Empty, InvalidLiteral}
use Rattle.litrs_base.specs.Derivations.{HasNoDerivation}
use Rattle.litrs_base.specs.Refusal.{without_span}
use Rattle.litrs_base.specs.Text.{first_passes, begins_with}
use Rattle.litrs_base.proofs.Begins.{begins_with-split}
use Rattle.litrs_base.proofs.Chars.{begins_with-chars}
use Rattle.litrs_grammar.specs.Literal.{Derivation, a_bool, an_integer, a_float, a_char, a_byte, a_string, a_byte_string, a_c_string, StringParts, quoted_parts, raw_parts, IsString, IsLiteral, LiteralKind, bool_literal, integer_literal, float_literal, char_literal, byte_literal, c_string_literal, literal_kind, kind_parse, IsLiteralOf, string_literal_of}
use Rattle.litrs_grammar.specs.LiteralRefusals.{Dispatch, begins_with_float, refused_as, parsed_as, dispatch}
use Rattle.litrs_base.specs.Quotes.{quoted_front, raw_front}
use Rattle.litrs_base.specs.declared.quotes.StringKind.{StringKind}
use Rattle.litrs_base.specs.declared.quotes.StringKind.TheVariants.{String as string_kind, ByteString as byte_string_kind, CString as c_string_kind}
use Rattle.litrs_grammar.specs.Refused.{IsRefused}
use Rattle.litrs_grammar.specs.Strings.{StringDerivation}
use Rattle.litrs_grammar.proofs.Laws.Integer.{not_empty_by_first}
use Rattle.litrs_grammar.proofs.Laws.Literal.{dispatch_literal, is_bool-digit, dispatch_quoted, dispatch_raw}
use Rattle.litrs_lex.proofs.IntegerBytes.{digit-chars}
use Rattle.litrs_lex.specs.declared.kind.Front.{Front}
use Rattle.litrs_lex.specs.declared.kind.Front.TheVariants as front
use Rattle.litrs_lex.specs.Front.{IsFront}
use Rattle.litrs_lex.specs.NumberCut.{number_kind}
use Rattle.litrs_lex.proofs.Dispatch.{dispatch-chars}
use Rattle.litrs_lex.proofs.Fronts.{char_row, byte_row}
use Rattle.litrs_token.specs.LiteralToken.{IsNoLiteralToken}
use Rattle.litrs_token.proofs.StringTests.{quoted_split, raw_split}

no_token : (t : List ℕ) (kind : LiteralKind) → dispatch t ≡ parsed_as kind →
    HasNoDerivation (IsLiteralOf (kind_parse kind) t) → IsNoLiteralToken t
no_token t kind is none k r =
    let both : parsed_as (literal_kind r.derivation) ≡ parsed_as kind =
    sym (dispatch_literal t r.derivation r.literal) ∙ is in
    let same : literal_kind r.derivation ≡ kind = cc in
    none r.derivation (same, r.literal)

-- Numbers

digit_row : (t : List ℕ) (v : Bool) → first_passes is_ascii_digit t ≡ true →
    begins_with_float t ≡ v → dispatch t ≡ parsed_as (if v then float_literal else integer_literal)
unfolding dispatch
digit_row t true digit float =
    rw (not_empty_by_first is_ascii_digit t digit, is_bool-digit t digit, digit, float) refl
digit_row t false digit float =
    rw (not_empty_by_first is_ascii_digit t digit, is_bool-digit t digit, digit, float) refl

pub no_number : (bs : List ℕ) (e : ParseError) → IsUtf8 bs → first_passes is_ascii_digit bs ≡ true →
    IsRefused (kind_parse (number_kind (chars bs))) (chars bs) e → IsNoLiteralToken (chars bs)
no_number bs e u digit refused =
    no_token (chars bs) (number_kind (chars bs))
    (digit_row (chars bs) (begins_with_float (chars bs)) (digit-chars bs u ∙ digit) refl) refused.none

-- Chars and bytes

pub no_char : (bs : List ℕ) (e : ParseError) → IsUtf8 bs → begins_with (codes "'") bs ≡ true →
    IsRefused (kind_parse char_literal) (chars bs) e → IsNoLiteralToken (chars bs)
no_char bs e u front refused =
    let cut = begins_with-split (codes "'") (chars bs)
    (begins_with-chars (codes "'") bs refl u ∙ front) in
    no_token (chars bs) char_literal (ap dispatch (sym cut) ∙ char_row _) refused.none

pub no_byte : (bs : List ℕ) (e : ParseError) → IsUtf8 bs → begins_with (codes "b'") bs ≡ true →
    IsRefused (kind_parse byte_literal) (chars bs) e → IsNoLiteralToken (chars bs)
no_byte bs e u front refused =
    let cut = begins_with-split (codes "b'") (chars bs)
    (begins_with-chars (codes "b'") bs refl u ∙ front) in
    no_token (chars bs) byte_literal (ap dispatch (sym cut) ∙ byte_row _) refused.none

-- Strings

-- the parts of a literal that is a string of the kind
string_parts : (kind : StringKind) (t : List ℕ) (d : Derivation) →
    literal_kind d ≡ string_literal_of kind → IsLiteral t d → StringDerivation kind t
string_parts string_kind t (a_string d) is r = (d, r)
string_parts byte_string_kind t (a_byte_string d) is r = (d, r)
string_parts c_string_kind t (a_c_string d) is r = (d, r)
string_parts string_kind t (a_byte_string d) is r = cc
string_parts string_kind t (a_c_string d) is r = cc
string_parts byte_string_kind t (a_string d) is r = cc
string_parts byte_string_kind t (a_c_string d) is r = cc
string_parts c_string_kind t (a_string d) is r = cc
string_parts c_string_kind t (a_byte_string d) is r = cc
string_parts string_kind t (a_bool d) is r = cc
string_parts string_kind t (an_integer d) is r = cc
string_parts string_kind t (a_float d) is r = cc
string_parts string_kind t (a_char d) is r = cc
string_parts string_kind t (a_byte d) is r = cc
string_parts byte_string_kind t (a_bool d) is r = cc
string_parts byte_string_kind t (an_integer d) is r = cc
string_parts byte_string_kind t (a_float d) is r = cc
string_parts byte_string_kind t (a_char d) is r = cc
string_parts byte_string_kind t (a_byte d) is r = cc
string_parts c_string_kind t (a_bool d) is r = cc
string_parts c_string_kind t (an_integer d) is r = cc
string_parts c_string_kind t (a_float d) is r = cc
string_parts c_string_kind t (a_char d) is r = cc
string_parts c_string_kind t (a_byte d) is r = cc

no_string : (kind : StringKind) (t : List ℕ) → dispatch t ≡ parsed_as (string_literal_of kind) →
    HasNoDerivation (IsString kind t) → IsNoLiteralToken t
no_string kind t is none = no_token t (string_literal_of kind) is
    (λ d r. let parts = string_parts kind t d r.0 r.1 in none parts.0 parts.1)

pub no_quoted : (kind : StringKind) (bs : List ℕ) → IsUtf8 bs →
    begins_with (quoted_front kind) bs ≡ true → HasNoDerivation (IsString kind (chars bs)) →
    IsNoLiteralToken (chars bs)
no_quoted kind bs u front none =
    no_string kind (chars bs)
    (ap dispatch (sym (quoted_split kind bs u front)) ∙ dispatch_quoted kind _) none

pub no_raw : (kind : StringKind) (bs : List ℕ) → IsUtf8 bs →
    begins_with (raw_front kind) bs ≡ true → HasNoDerivation (IsString kind (chars bs)) →
    IsNoLiteralToken (chars bs)
no_raw kind bs u front none =
    no_string kind (chars bs)
    (ap dispatch (sym (raw_split kind bs u front)) ∙ dispatch_raw kind _) none

-- Other texts

-- a text that begins so is not parsed as a literal of any kind, or as a bool
no_row : (bs : List ℕ) (row : Dispatch) → IsUtf8 bs → row ≡ dispatch bs →
    ((kind : LiteralKind) → (kind ≢ bool_literal) → parsed_as kind ≡ row → ⊥) →
    IsNoLiteralToken (chars bs)
no_row bs row u is none k r =
    none (literal_kind r.derivation) r.no_bool
    (sym (dispatch_literal (chars bs) r.derivation r.literal) ∙ (dispatch-chars bs u ∙ sym is))

no_text : (bs : List ℕ) → IsUtf8 bs → IsFront front.Empty bs → IsNoLiteralToken (chars bs)
no_text bs u is = no_row bs (refused_as (without_span Empty)) u is.row (λ kind no_bool e. cc)

only_bool : (value : Bool) (bs : List ℕ) → IsUtf8 bs → IsFront (front.Bool value) bs →
    IsNoLiteralToken (chars bs)
only_bool value bs u is =
    no_row bs (parsed_as bool_literal) u is.row
    (λ kind no_bool e. let same : kind ≡ bool_literal = cc in no_bool same)

-- a C string begins with one of its two fronts
begins_c_string : (t : List ℕ) (d : StringParts) → IsString c_string_kind t d →
    begins_with (codes "c\"") t ≡ false → begins_with (codes "cr") t ≡ false → ⊥
begins_c_string t (quoted_parts d) r quoted raw =
    both_ways _ quoted (ap (begins_with (codes "c\"")) (sym r.spells))
begins_c_string t (raw_parts d) r quoted raw =
    both_ways _ raw (ap (begins_with (codes "cr")) (sym r.spells))

other_at : (bs : List ℕ) (v : Bool) → IsUtf8 bs → IsFront front.Other bs →
    begins_with (codes "c") bs ≡ v → IsNoLiteralToken (chars bs)
other_at bs true u is begins =
    no_string c_string_kind (chars bs)
    (dispatch-chars bs u ∙ sym (ap (λ w. if w then parsed_as c_string_literal
    else refused_as (without_span InvalidLiteral)) (sym begins) ∙ is.row))
    (λ d r. begins_c_string (chars bs) d r
    (begins_with-chars (codes "c\"") bs refl u ∙ is.begins.0)
    (begins_with-chars (codes "cr") bs refl u ∙ is.begins.1))
other_at bs false u is begins =
    no_row bs (refused_as (without_span InvalidLiteral)) u
    (ap (λ w. if w then parsed_as c_string_literal else refused_as (without_span InvalidLiteral))
    (sym begins) ∙ is.row)
    (λ kind no_bool e. cc)

no_front : (bs : List ℕ) → IsUtf8 bs → IsFront front.Other bs → IsNoLiteralToken (chars bs)
no_front bs u is = other_at bs (begins_with (codes "c") bs) u is refl

pub no_kind : (f : Front) (bs : List ℕ) → IsUtf8 bs → IsFront f bs →
    (f ≡ front.Empty) ⊎ (((value : Bool) × (f ≡ front.Bool value)) ⊎ (f ≡ front.Other)) →
    IsNoLiteralToken (chars bs)
no_kind f bs u is (inl empty) = no_text bs u (subst (λ (g : Front). IsFront g bs) empty is)
no_kind f bs u is (inr (inl bool)) =
    only_bool bool.0 bs u (subst (λ (g : Front). IsFront g bs) bool.1 is)
no_kind f bs u is (inr (inr other)) = no_front bs u (subst (λ (g : Front). IsFront g bs) other is)
