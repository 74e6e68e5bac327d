-- No refusal of a text is an allocation failure.
use Rattle.std.proofs.Common.{◌≡◌, ◌≢◌, ℕ, Bool, true, false, List, [], ◌∷◌, Option, Some, None, refl, sym, ap, subst, ◌∙◌}
use Rattle.std.specs.Prelude.{if◌then◌else◌, option_map}
use Rattle.std.proofs.lemmas.Bool.{true≢false}
use Rattle.litrs_base.specs.declared.err.ParseErrorKind.{ParseErrorKind}
use Rattle.litrs_base.specs.declared.err.ParseErrorKind.TheVariants.{Empty, InvalidLiteral, OutOfMemory, UnexpectedChar, InvalidSuffix}
use Rattle.litrs_base.specs.Refusal.{Refusal, without_span, shifted}
use Rattle.litrs_grammar.specs.Suffix.{is_ascii_symbol, suffix_kind}
use Rattle.litrs_base.specs.Text.{first_passes}
use Rattle.litrs_base.specs.declared.quotes.StringKind.{StringKind}
use Rattle.litrs_base.specs.declared.quotes.StringKind.TheVariants.{String as string_kind, ByteString as byte_string_kind, CString as c_string_kind}
use Rattle.litrs_base.specs.Quotes.{switches_of, quoted_front}
use Rattle.litrs_base.specs.declared.quotes.Switches.{Switches}
use Rattle.litrs_base.specs.declared.quotes.CharKind.{CharKind}
use Rattle.litrs_base.specs.declared.quotes.CharKind.TheVariants.{Char as char_kind, Byte as byte_kind}
use Rattle.litrs_grammar.specs.Bool.{is_bool, bool_refusal}
use Rattle.litrs_grammar.specs.Integer.{integer_refusal}
use Rattle.litrs_grammar.specs.Float.{float_refusal}
use Rattle.litrs_grammar.specs.Escape.{hex_refusal, inner_refusal, unicode_refusal, escape_refusal}
use Rattle.litrs_grammar.specs.CharByte.{unterminated_kind, empty_kind, overlong_kind, start_refusal, closing_refusal, char_item_refusal, char_kind_refusal}
use Rattle.litrs_grammar.specs.Quoted.{backslash_refusal, item_refusal, IsQuotedRefusal}
use Rattle.litrs_grammar.specs.Raw.{raw_char_kind, raw_body_refusal, raw_refusal, raw_literal_refusal}
use Rattle.litrs_grammar.specs.Literal.{LiteralKind, bool_literal, integer_literal, float_literal, char_literal, byte_literal, string_literal, byte_string_literal, c_string_literal, literal_parse, kind_parse}
use Rattle.litrs_grammar.specs.LiteralRefusals.{StringStart, refused_start, quoted_start, raw_start, string_start, string_start_refusal, IsRefusalOfStart, IsKindRefusal, Dispatch, refused_as, parsed_as, dispatch, IsRefusalOfDispatch}
use Rattle.litrs_grammar.specs.Laws.Literal.{NoRefusalIsOfMemory}
use Rattle.litrs_grammar.proofs.Laws.Literal.{dispatch_refusal}
use Rattle.litrs_grammar.proofs.Laws.Integer.{number_rows}

-- the kind is another
abbrev is_of_text : ParseErrorKind → Bool
is_of_text OutOfMemory = false
is_of_text _ = true

-- the refusal that a table gives has another kind
abbrev is_fine : Option Refusal → Bool
is_fine None = true
is_fine (Some e) = is_of_text e.kind

fine_if : (b : Bool) (x y : Option Refusal) → is_fine x ≡ true → is_fine y ≡ true → is_fine (if b then x else y) ≡ true
fine_if true x y f g = f
fine_if false x y f g = g

fine_kind_if : (b : Bool) (x y : ParseErrorKind) → is_of_text x ≡ true → is_of_text y ≡ true → is_of_text (if b then x else y) ≡ true
fine_kind_if true x y f g = f
fine_kind_if false x y f g = g

fine_suffix : (t : List ℕ) → is_of_text (suffix_kind t) ≡ true
fine_suffix t = fine_kind_if (first_passes is_ascii_symbol t) UnexpectedChar InvalidSuffix refl refl

fine_moved : (n : ℕ) (o : Option Refusal) → is_fine o ≡ true → is_fine (option_map (shifted n) o) ≡ true
fine_moved n None h = h
fine_moved n (Some e) h = h

-- Escapes

fine_hex : (w : Switches) (t : List ℕ) → is_fine (hex_refusal w t) ≡ true
fine_hex w t = search fine_if

fine_inner : (w : Switches) (inner : List ℕ) → is_fine (inner_refusal w inner) ≡ true
fine_inner w inner = search fine_if

fine_unicode : (w : Switches) (t : List ℕ) → is_fine (unicode_refusal w t) ≡ true
fine_unicode w t = search (fine_if, fine_inner)

fine_escape : (w : Switches) (t : List ℕ) → is_fine (escape_refusal w t) ≡ true
unfolding escape_refusal
fine_escape w [] = refl
fine_escape w (c ∷ []) = refl
fine_escape w (c ∷ letter ∷ t) = search (fine_if, fine_hex, fine_unicode)

-- Quoted strings

fine_backslash : (w : Switches) (t : List ℕ) → is_fine (backslash_refusal w t) ≡ true
fine_backslash w t = search (fine_if, fine_escape)

fine_rest : (w : Switches) (t : List ℕ) → is_fine (item_refusal w t) ≡ true
unfolding item_refusal
fine_rest w [] = refl
fine_rest w (c ∷ t) = search (fine_if, fine_backslash, fine_suffix) depth 8

-- Chars and bytes

fine_unterminated : (kind : CharKind) → is_of_text (unterminated_kind kind) ≡ true
fine_unterminated char_kind = refl
fine_unterminated byte_kind = refl

fine_empty : (kind : CharKind) → is_of_text (empty_kind kind) ≡ true
fine_empty char_kind = refl
fine_empty byte_kind = refl

fine_overlong : (kind : CharKind) → is_of_text (overlong_kind kind) ≡ true
fine_overlong char_kind = refl
fine_overlong byte_kind = refl

fine_start : (kind : CharKind) (t : List ℕ) → is_of_text (start_refusal kind t).kind ≡ true
fine_start kind [] = refl
fine_start char_kind (c ∷ t) = refl
fine_start byte_kind (c ∷ t) = refl

fine_closing : (kind : CharKind) (place : ℕ) (t : List ℕ) → is_fine (closing_refusal kind place t) ≡ true
fine_closing kind place t = search (fine_if, fine_unterminated, fine_overlong, fine_suffix)

fine_item : (kind : CharKind) (t : List ℕ) → is_fine (char_item_refusal kind t) ≡ true
fine_item kind [] = fine_unterminated kind
fine_item kind (c ∷ t) = search (fine_if, fine_empty, fine_escape, fine_closing) depth 8

fine_char : (kind : CharKind) (t : List ℕ) → is_fine (char_kind_refusal kind t) ≡ true
unfolding char_kind_refusal
fine_char kind t = search (fine_if, fine_moved, fine_item, fine_start)

-- Numbers

fine_number : (empty digit : Bool) (o : Option Refusal) → is_fine o ≡ true → is_fine (number_rows empty digit o) ≡ true
fine_number empty digit o h = search (fine_if, h)

fine_integer : (t : List ℕ) → is_fine (integer_refusal t) ≡ true
unfolding integer_refusal
fine_integer t = search (fine_number, fine_if, fine_suffix)

fine_float : (t : List ℕ) → is_fine (float_refusal t) ≡ true
unfolding float_refusal
fine_float t = search (fine_number, fine_if, fine_suffix)

-- Raw strings

fine_raw_char : (c : ℕ) → is_of_text (raw_char_kind c) ≡ true
fine_raw_char c = search fine_kind_if

fine_raw_body : (unicode allow_nul : Bool) (n start : ℕ) (t : List ℕ) → is_fine (raw_body_refusal unicode allow_nul n start t) ≡ true
unfolding raw_body_refusal
fine_raw_body unicode allow_nul n start t = search (fine_if, fine_raw_char, fine_suffix)

fine_raw : (unicode allow_nul : Bool) (start : ℕ) (t : List ℕ) → is_fine (raw_refusal unicode allow_nul start t) ≡ true
unfolding raw_refusal
fine_raw unicode allow_nul start t = search (fine_if, fine_raw_body)

-- All

abbrev pub IsOfText : Refusal → Type 0
IsOfText e = e.kind ≢ OutOfMemory

of_kind : (kind : ParseErrorKind) → is_of_text kind ≡ true → kind ≢ OutOfMemory
of_kind kind h memory = true≢false (sym h ∙ ap is_of_text memory)

of_table : (o : Option Refusal) (e : Refusal) → is_fine o ≡ true → o ≡ Some e → IsOfText e
of_table o e h is = of_kind e.kind (sym (ap is_fine is) ∙ h)

pub integer_refusal_of_text : (t : List ℕ) (e : Refusal) → integer_refusal t ≡ Some e → IsOfText e
integer_refusal_of_text t e refused = of_table (integer_refusal t) e (fine_integer t) refused

pub quoted_of_text : (front : List ℕ) (w : Switches) (t : List ℕ) (e : Refusal) → IsQuotedRefusal front w t e → IsOfText e
quoted_of_text front w t e h = subst IsOfText h.placed (of_table (item_refusal w h.rest) h.cause (fine_rest w h.rest) h.decided)

string_start_of_text : (kind : StringKind) → IsOfText (string_start_refusal kind)
string_start_of_text string_kind memory = cc
string_start_of_text byte_string_kind memory = cc
string_start_of_text c_string_kind memory = cc

no_start_of_text : (kind : StringKind) (empty quoted raw : Bool) (e : Refusal) →
    (if empty then refused_start (without_span Empty) else if quoted then quoted_start else if raw then raw_start else refused_start (string_start_refusal kind)) ≡ refused_start e → IsOfText e
no_start_of_text kind true quoted raw e is = subst IsOfText (let same : without_span Empty ≡ e = cc in same) (λ memory. cc)
no_start_of_text kind false true raw e is = cc
no_start_of_text kind false false true e is = cc
no_start_of_text kind false false false e is = subst IsOfText (let same : string_start_refusal kind ≡ e = cc in same) (string_start_of_text kind)

started_of_text : (kind : StringKind) (start : StringStart) (t : List ℕ) (e : Refusal) → string_start kind t ≡ start → IsRefusalOfStart kind start t e → IsOfText e
started_of_text kind (refused_start refusal) t e is refused = subst IsOfText refused (no_start_of_text kind _ _ _ refusal is)
started_of_text kind quoted_start t e is refused = quoted_of_text (quoted_front kind) (switches_of kind) t e refused
started_of_text kind raw_start t e is refused = of_table (raw_literal_refusal kind t) e (fine_raw _ _ _ _) refused

kind_of_text : (kind : LiteralKind) (t : List ℕ) (e : Refusal) → IsKindRefusal kind t e → IsOfText e
kind_of_text bool_literal t e refused = of_table (bool_refusal t) e (fine_if (is_bool t) None (Some (without_span InvalidLiteral)) refl refl) refused
kind_of_text integer_literal t e refused = integer_refusal_of_text t e refused
kind_of_text float_literal t e refused = of_table (float_refusal t) e (fine_float t) refused
kind_of_text char_literal t e refused = of_table (char_kind_refusal char_kind t) e (fine_char char_kind t) refused
kind_of_text byte_literal t e refused = of_table (char_kind_refusal byte_kind t) e (fine_char byte_kind t) refused
kind_of_text string_literal t e refused = started_of_text string_kind (string_start string_kind t) t e refl refused
kind_of_text byte_string_literal t e refused = started_of_text byte_string_kind (string_start byte_string_kind t) t e refl refused
kind_of_text c_string_literal t e refused = started_of_text c_string_kind (string_start c_string_kind t) t e refl refused

dispatched_of_text : (o : Dispatch) (t : List ℕ) (e : Refusal) → ((refusal : Refusal) → o ≡ refused_as refusal → IsOfText refusal) → IsRefusalOfDispatch o t e → IsOfText e
dispatched_of_text (refused_as refusal) t e of refused = subst IsOfText refused (of refusal refl)
dispatched_of_text (parsed_as kind) t e of refused = kind_of_text kind t e refused

pub no_refusal_is_of_memory : NoRefusalIsOfMemory
no_refusal_is_of_memory literal_parse t e refused =
    dispatched_of_text (dispatch t) t e (λ refusal is. dispatch_refusal IsOfText t refusal (λ memory. cc) (λ memory. cc) is) refused
no_refusal_is_of_memory (kind_parse kind) t e refused = kind_of_text kind t e refused
