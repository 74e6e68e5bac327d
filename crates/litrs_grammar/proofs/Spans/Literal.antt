-- The spans of the refusals of all parses, and what literals end with.
use Rattle.std.proofs.Common.{◌≡◌, ℕ, Bool, true, false, List, [], ◌∷◌, ◌++◌, Some, None, refl, sym, ap, subst, ◌∙◌}
use Rattle.std.specs.Prelude.{if◌then◌else◌}
use Rattle.std.proofs.lemmas.Bool.{true≢false}
use Rattle.litrs_base.specs.declared.err.ParseErrorKind.TheVariants.{Empty, InvalidLiteral, InvalidStringLiteralStart, InvalidByteStringLiteralStart, InvalidCStringLiteralStart}
use Rattle.litrs_base.specs.Refusal.{Refusal, without_span, IsInText}
use Rattle.litrs_base.specs.Text.{begins_with}
use Rattle.litrs_base.specs.declared.quotes.StringKind.{StringKind}
use Rattle.litrs_base.specs.declared.quotes.StringKind.TheVariants.{String as string_kind, ByteString as byte_string_kind, CString as c_string_kind}
use Rattle.litrs_base.specs.Quotes.{switches_of, quoted_front, raw_front}
use Rattle.litrs_base.specs.declared.quotes.CharKind.TheVariants.{Char as char_kind, Byte as byte_kind}
use Rattle.litrs_grammar.specs.Bool.{bool_text, is_bool}
use Rattle.litrs_grammar.specs.Literal.{StringParts, quoted_parts, raw_parts, IsString, a_bool, an_integer, a_float, a_char, a_byte, a_string, a_byte_string, a_c_string, LiteralKind, bool_literal, integer_literal, float_literal, char_literal, byte_literal, string_literal, byte_string_literal, c_string_literal, literal_parse, kind_parse}
use Rattle.litrs_grammar.specs.LiteralRefusals.{StringStart, refused_start, quoted_start, raw_start, string_start, string_start_refusal, IsRefusalOfStart, IsKindRefusal, Dispatch, refused_as, parsed_as, dispatch, IsRefusalOfDispatch}
use Rattle.litrs_grammar.specs.Laws.Literal.{RefusalSpansLieInText, NoLiteralEndsWithLineFeed}
use Rattle.litrs_base.proofs.Runs.{last_passes, is_line_feed, line_feed_last}
use Rattle.litrs_base.proofs.Spans.{plain_within, at_within}
use Rattle.litrs_grammar.proofs.Spans.Integer.{row_is, integer_refusal_within, no_integer_with_line_feed}
use Rattle.litrs_grammar.proofs.Spans.Float.{float_refusal_within, no_float_with_line_feed}
use Rattle.litrs_grammar.proofs.Laws.CharByte.{no_char_ends_with_line_feed}
use Rattle.litrs_grammar.proofs.Laws.Quoted.{no_quoted_text_ends_with_line_feed}
use Rattle.litrs_grammar.proofs.Spans.Quoted.{quoted_spans_lie_in_text}
use Rattle.litrs_grammar.proofs.Spans.CharByte.{char_spans_lie_in_text}
use Rattle.litrs_grammar.proofs.RawKinds.{literal_refusal_within, no_literal_with_line_feed}
use Rattle.litrs_grammar.proofs.Laws.Literal.{string_start_says, dispatch_refusal}

-- The ends of literals

bool_last : (b : Bool) → last_passes is_line_feed (bool_text b) ≡ false
bool_last false = refl
bool_last true = refl

string_last : (kind : StringKind) (t : List ℕ) (d : StringParts) → ¬ IsString kind (t ++ (10 ∷ [])) d
string_last kind t (quoted_parts d) r = no_quoted_text_ends_with_line_feed (quoted_front kind) (switches_of kind) t d r
string_last kind t (raw_parts d) r = no_literal_with_line_feed kind t d r

pub no_literal_ends_with_line_feed : NoLiteralEndsWithLineFeed
no_literal_ends_with_line_feed t (a_bool b) r = true≢false (sym (line_feed_last t) ∙ (ap (last_passes is_line_feed) (sym r) ∙ bool_last b))
no_literal_ends_with_line_feed t (an_integer d) r = no_integer_with_line_feed t d r
no_literal_ends_with_line_feed t (a_float d) r = no_float_with_line_feed t d r
no_literal_ends_with_line_feed t (a_char d) r = no_char_ends_with_line_feed char_kind t d r
no_literal_ends_with_line_feed t (a_byte d) r = no_char_ends_with_line_feed byte_kind t d r
no_literal_ends_with_line_feed t (a_string d) r = string_last string_kind t d r
no_literal_ends_with_line_feed t (a_byte_string d) r = string_last byte_string_kind t d r
no_literal_ends_with_line_feed t (a_c_string d) r = string_last c_string_kind t d r

-- The spans of refusals

bool_within : (t : List ℕ) (e : Refusal) (v : Bool) → (if v then None else Some (without_span InvalidLiteral)) ≡ Some e → IsInText t e
bool_within t e true h = cc
bool_within t e false h = row_is t (without_span InvalidLiteral) e (plain_within t InvalidLiteral) h

start_within : (kind : StringKind) (c : ℕ) (t : List ℕ) → IsInText (c ∷ t) (string_start_refusal kind)
start_within string_kind c t = at_within (c ∷ t) [] c t 0 InvalidStringLiteralStart refl refl
start_within byte_string_kind c t = plain_within (c ∷ t) InvalidByteStringLiteralStart
start_within c_string_kind c t = plain_within (c ∷ t) InvalidCStringLiteralStart

last_start : (quoted raw : Bool) (e f : Refusal) → (if quoted then quoted_start else if raw then raw_start else refused_start e) ≡ refused_start f → e ≡ f
last_start true raw e f h = cc
last_start false true e f h = cc
last_start false false e f h = cc

no_start_within : (kind : StringKind) (t : List ℕ) (refusal : Refusal) → string_start kind t ≡ refused_start refusal → IsInText t refusal
no_start_within kind [] refusal h = subst (λ e. IsInText [] e) (let same : without_span Empty ≡ refusal = cc in same) (plain_within [] Empty)
no_start_within kind (c ∷ t) refusal h =
    subst (λ e. IsInText (c ∷ t) e) (last_start (begins_with (quoted_front kind) (c ∷ t)) (begins_with (raw_front kind) (c ∷ t)) (string_start_refusal kind) refusal h)
    (start_within kind c t)

started_within : (kind : StringKind) (start : StringStart) (t : List ℕ) (e : Refusal) → string_start kind t ≡ start → IsRefusalOfStart kind start t e → IsInText t e
started_within kind (refused_start refusal) t e is refused = subst (λ f. IsInText t f) refused (no_start_within kind t refusal is)
started_within kind quoted_start t e is refused = quoted_spans_lie_in_text (quoted_front kind) (switches_of kind) t e refused
started_within kind raw_start t e is refused =
    let says = string_start_says kind t in
    literal_refusal_within kind t (says.1 is) e refused

kind_within : (kind : LiteralKind) (t : List ℕ) (e : Refusal) → IsKindRefusal kind t e → IsInText t e
kind_within bool_literal t e refused = bool_within t e (is_bool t) refused
kind_within integer_literal t e refused = integer_refusal_within t e refused
kind_within float_literal t e refused = float_refusal_within t e refused
kind_within char_literal t e refused = char_spans_lie_in_text char_kind t e refused
kind_within byte_literal t e refused = char_spans_lie_in_text byte_kind t e refused
kind_within string_literal t e refused = started_within string_kind (string_start string_kind t) t e refl refused
kind_within byte_string_literal t e refused = started_within byte_string_kind (string_start byte_string_kind t) t e refl refused
kind_within c_string_literal t e refused = started_within c_string_kind (string_start c_string_kind t) t e refl refused

dispatched_within : (o : Dispatch) (t : List ℕ) (e : Refusal) → ((refusal : Refusal) → o ≡ refused_as refusal → IsInText t refusal) → IsRefusalOfDispatch o t e → IsInText t e
dispatched_within (refused_as refusal) t e within refused = subst (λ f. IsInText t f) refused (within refusal refl)
dispatched_within (parsed_as kind) t e within refused = kind_within kind t e refused

pub refusal_spans_lie_in_text : RefusalSpansLieInText
refusal_spans_lie_in_text literal_parse t e refused =
    dispatched_within (dispatch t) t e (λ refusal is. dispatch_refusal (IsInText t) t refusal (plain_within t Empty) (plain_within t InvalidLiteral) is) refused
refusal_spans_lie_in_text (kind_parse kind) t e refused = kind_within kind t e refused
