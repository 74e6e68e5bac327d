-- An error of the parse of a kind is one of the parse of all kinds if the text is dispatched to
-- that kind.
use Rattle.std.proofs.Common.{◌≡◌, ◌⊎◌, inl, inr, ℕ, Bool, true, false, List, refl, sym, ap, subst, ◌∙◌}
use Rattle.std.specs.Prelude.{codes, if◌then◌else◌}
use Rattle.std.specs.Str.{chars, IsUtf8}
use Rattle.litrs_base.specs.declared.err.ParseError.{ParseError}
use Rattle.litrs_base.specs.declared.err.ParseErrorKind.{ParseErrorKind}
use Rattle.litrs_base.specs.declared.err.ParseErrorKind.TheVariants.{InvalidLiteral, InvalidCStringLiteralStart}
use Rattle.litrs_base.specs.Refusal.{Refusal, without_span, refusal_of}
use Rattle.litrs_base.specs.Text.{begins_with}
use Rattle.litrs_base.specs.Derivations.{IsOnlyDerivation}
use Rattle.litrs_base.proofs.CharEnds.{no_span}
use Rattle.litrs_base.proofs.Chars.{begins_with-chars}
use Rattle.litrs_base.proofs.ListTests.{if_false}
use Rattle.litrs_grammar.specs.Literal.{Derivation, IsLiteral, LiteralKind, integer_literal, float_literal, c_string_literal, string_literal_of, literal_parse, kind_parse}
use Rattle.litrs_grammar.specs.LiteralRefusals.{StringStart, refused_start, string_start, IsRefusalOfStart, Dispatch, refused_as, parsed_as, begins_with_float, dispatch, IsRefusalOfDispatch, IsRefusal}
use Rattle.litrs_grammar.specs.Refused.{IsRefused, IsRefusedOrOutOfMemory}
use Rattle.litrs_base.specs.declared.quotes.StringKind.TheVariants.{CString as c_string_kind}
use Rattle.litrs_base.specs.declared.quotes.StringKind.{StringKind}
use Rattle.litrs_grammar.proofs.Laws.Literal.{literals_are_unique}
use Rattle.litrs_grammar.proofs.Refused.{is_refused}
use Rattle.litrs.proofs.OutOfMemory.{of_any_kind}
use Rattle.litrs_lex.specs.NumberCut.{number_kind}
use Rattle.litrs_lex.proofs.NumberBytes.{kind_by_bytes}
use Rattle.litrs_lex.specs.declared.kind.Front.{Front}
use Rattle.litrs_lex.specs.declared.kind.Front.TheVariants as front
use Rattle.litrs_lex.specs.Front.{row_of, IsFront}
use Rattle.litrs_lex.proofs.Dispatch.{is_empty-chars, dispatch-chars}
use Rattle.litrs_lex.proofs.Fronts.{some_text}

-- a literal is the only derivation of its text
pub only_literal : (t : List ℕ) (d : Derivation) → IsLiteral t d → IsOnlyDerivation (IsLiteral t) d
only_literal t d r = (r, λ e s. literals_are_unique t e d s r)

kind_refused : (kind : LiteralKind) (t : List ℕ) (e : ParseError) → dispatch t ≡ parsed_as kind → IsRefused (kind_parse kind) t e → IsRefused literal_parse t e
kind_refused kind t e is refused =
    is_refused literal_parse t e (subst (λ (row : Dispatch). IsRefusalOfDispatch row t (refusal_of e)) (sym is) refused.table) refused.char_span

kind_error : (kind : LiteralKind) (t : List ℕ) (e : ParseError) → dispatch t ≡ parsed_as kind → IsRefusedOrOutOfMemory (kind_parse kind) t e →
    IsRefusedOrOutOfMemory literal_parse t e
kind_error kind t e is (inl refused) = inl (kind_refused kind t e is refused)
kind_error kind t e is (inr lack) = inr (of_any_kind (kind_parse kind) t e lack)

-- Likewise by the answer of the code's dispatch on the bytes

row_at : (bytes text : List ℕ) (row : Dispatch) → IsUtf8 text → text ≡ bytes → row ≡ dispatch text → dispatch (chars bytes) ≡ row
row_at bytes text row u same is = ap (λ (b : List ℕ). dispatch (chars b)) (sym same) ∙ (dispatch-chars text u ∙ sym is)

pub kind_error_at : (kind : LiteralKind) (bytes text : List ℕ) (e f : ParseError) → IsUtf8 text → text ≡ bytes → parsed_as kind ≡ dispatch text →
    f ≡ e → IsRefusedOrOutOfMemory (kind_parse kind) (chars bytes) e → IsRefusedOrOutOfMemory literal_parse (chars bytes) f
kind_error_at kind bytes text e f u same is copy error =
    subst (IsRefusedOrOutOfMemory literal_parse (chars bytes)) (sym copy) (kind_error kind (chars bytes) e (row_at bytes text (parsed_as kind) u same is) error)

-- a text that begins as a quoted or a raw string of a kind is dispatched to it
pub string_row : (f : Front) (kind : StringKind) (bs : List ℕ) → (f ≡ front.Quoted kind) ⊎ (f ≡ front.Raw kind) → row_of f bs ≡ dispatch bs →
    parsed_as (string_literal_of kind) ≡ dispatch bs
string_row f kind bs (inl quoted) row = sym (ap (λ (g : Front). row_of g bs) quoted) ∙ row
string_row f kind bs (inr raw) row = sym (ap (λ (g : Front). row_of g bs) raw) ∙ row

-- a number is dispatched by its bytes to the kind that its characters name
number_row : (bs : List ℕ) (v : Bool) → IsUtf8 bs → begins_with_float bs ≡ v →
    parsed_as (number_kind (chars bs)) ≡ (if v then parsed_as float_literal else parsed_as integer_literal)
number_row bs true u is = ap parsed_as (kind_by_bytes bs true u is)
number_row bs false u is = ap parsed_as (kind_by_bytes bs false u is)

pub number_error_at : (bytes text number : List ℕ) (e f : ParseError) → IsUtf8 text → text ≡ bytes → number ≡ bytes →
    (if begins_with_float text then parsed_as float_literal else parsed_as integer_literal) ≡ dispatch text →
    f ≡ e → IsRefused (kind_parse (number_kind (chars number))) (chars number) e → IsRefusedOrOutOfMemory literal_parse (chars bytes) f
number_error_at bytes text number e f u same again is copy refused =
    let kind = number_kind (chars text) in
    kind_error_at kind bytes text e f u same (number_row text (begins_with_float text) u refl ∙ is) copy
    (inl (subst (λ (bs : List ℕ). IsRefused (kind_parse kind) (chars bs) e) same
    (subst (λ (bs : List ℕ). IsRefused (kind_parse (number_kind (chars bs))) (chars bs) e) (again ∙ sym same) refused)))

-- a text that is refused by how it begins alone
pub start_refused : (text : List ℕ) (r : Refusal) → IsUtf8 text → refused_as r ≡ dispatch text → IsRefusal literal_parse (chars text) r
start_refused text r u is = subst (λ (row : Dispatch). IsRefusalOfDispatch row (chars text) r) (is ∙ sym (dispatch-chars text u)) refl

pub start_error_at : (bytes text : List ℕ) (kind : ParseErrorKind) (e : ParseError) → text ≡ bytes → IsRefusal literal_parse (chars text) (without_span kind) →
    refusal_of e ≡ without_span kind → IsRefusedOrOutOfMemory literal_parse (chars bytes) e
start_error_at bytes text kind e same table is =
    inl (is_refused literal_parse (chars bytes) e
    (subst (λ (r : Refusal). IsRefusal literal_parse (chars bytes) r) (sym is)
    (subst (λ (b : List ℕ). IsRefusal literal_parse (chars b) (without_span kind)) same table))
    (no_span (chars bytes) e kind is))

-- a text that begins with `c` and with neither front of a C string
pub c_refused : (text : List ℕ) → IsUtf8 text → IsFront front.Other text → begins_with (codes "c") text ≡ true →
    IsRefusal literal_parse (chars text) (without_span InvalidCStringLiteralStart)
c_refused text u is begins =
    subst (λ (row : Dispatch). IsRefusalOfDispatch row (chars text) (without_span InvalidCStringLiteralStart))
    (ap (λ v. if v then parsed_as c_string_literal else refused_as (without_span InvalidLiteral)) (sym begins) ∙ (is.row ∙ sym (dispatch-chars text u)))
    (subst (λ (start : StringStart). IsRefusalOfStart c_string_kind start (chars text) (without_span InvalidCStringLiteralStart)) (sym start) refl)
  where
    start : string_start c_string_kind (chars text) ≡ refused_start (without_span InvalidCStringLiteralStart)
    start = if_false _ _ _ (is_empty-chars text u ∙ some_text front.Other text is (λ e. cc))
        ∙ (if_false _ _ _ (begins_with-chars (codes "c\"") text refl u ∙ is.begins.0)
        ∙ if_false _ _ _ (begins_with-chars (codes "cr") text refl u ∙ is.begins.1))

-- a text that begins with another letter, as no literal
pub other_refused : (text : List ℕ) → IsUtf8 text → IsFront front.Other text → begins_with (codes "c") text ≡ false →
    IsRefusal literal_parse (chars text) (without_span InvalidLiteral)
other_refused text u is other =
    start_refused text (without_span InvalidLiteral) u
    (ap (λ v. if v then parsed_as c_string_literal else refused_as (without_span InvalidLiteral)) (sym other) ∙ is.row)
