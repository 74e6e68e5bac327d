-- Consequences of the front of a text.
use Rattle.std.proofs.Common.{◌≡◌, ℕ, Bool, true, false, List, [], ◌∷◌, ◌++◌, refl, sym, ap, subst, ◌∙◌}
use Rattle.std.specs.Prelude.{codes, if◌then◌else◌}
use Rattle.std.proofs.lemmas.Bool.{both_ways}
use Rattle.litrs_base.specs.declared.err.ParseErrorKind.{ParseErrorKind}
use Rattle.litrs_base.specs.declared.err.ParseErrorKind.TheVariants.{Empty, InvalidLiteral}
use Rattle.litrs_base.specs.Refusal.{without_span}
use Rattle.litrs_base.specs.Text.{is_empty, begins_with}
use Rattle.litrs_base.proofs.Begins.{begins_with-split}
use Rattle.litrs_grammar.specs.Literal.{bool_literal, integer_literal, float_literal, char_literal, byte_literal, string_literal, byte_string_literal, c_string_literal, string_literal_of}
use Rattle.litrs_grammar.specs.LiteralRefusals.{Dispatch, refused_as, parsed_as, begins_with_float, dispatch}
use Rattle.litrs_base.specs.Quotes.{quoted_front, raw_front}
use Rattle.litrs_base.specs.declared.quotes.StringKind.{StringKind}
use Rattle.litrs_base.specs.declared.quotes.StringKind.TheVariants.{String as string_kind, ByteString as byte_string_kind, CString as c_string_kind}
use Rattle.litrs_lex.specs.declared.kind.Front.{Front}
use Rattle.litrs_lex.specs.declared.kind.Front.TheVariants as front
use Rattle.litrs_lex.specs.Front.{row_of, BeginsAs, IsFront}
use Rattle.litrs_grammar.proofs.Laws.Literal.{dispatch_quoted, dispatch_raw}

-- the kind of a refusal that is a row
abbrev row_error : Dispatch → ParseErrorKind
row_error (refused_as refusal) = refusal.kind
row_error (parsed_as kind) = Empty

-- a text with another front is not empty
some_text_at : (f : Front) (bs : List ℕ) → BeginsAs f bs → row_of f bs ≡ dispatch bs →
    (f ≡ front.Empty → ⊥) → is_empty bs ≡ false
unfolding dispatch
some_text_at f (b ∷ bs) begins row other = refl
some_text_at front.Empty [] begins row other = absurd (other refl)
some_text_at (front.Bool value) [] begins row other =
    let both : parsed_as bool_literal ≡ refused_as (without_span Empty) = row in cc
some_text_at front.Number [] begins row other = cc
some_text_at front.Char [] begins row other = cc
some_text_at front.Byte [] begins row other = cc
some_text_at (front.Quoted string_kind) [] begins row other = cc
some_text_at (front.Quoted byte_string_kind) [] begins row other = cc
some_text_at (front.Quoted c_string_kind) [] begins row other = cc
some_text_at (front.Raw string_kind) [] begins row other = cc
some_text_at (front.Raw byte_string_kind) [] begins row other = cc
some_text_at (front.Raw c_string_kind) [] begins row other = cc
some_text_at front.Other [] begins row other =
    let both : InvalidLiteral ≡ Empty = ap row_error row in cc

pub some_text : (f : Front) (bs : List ℕ) → IsFront f bs → (f ≡ front.Empty → ⊥) →
    is_empty bs ≡ false
some_text f bs is other = some_text_at f bs is.begins is.row other

-- one of two rows
row_by : (test : Bool) (a b row : Dispatch) → (a ≡ row → ⊥) → (b ≡ row → ⊥) →
    (if test then a else b) ≡ row → ⊥
row_by true a b row not_a not_b is = not_a is
row_by false a b row not_a not_b is = not_b is

-- Chars and bytes

pub char_row : (x : List ℕ) → dispatch (codes "'" ++ x) ≡ parsed_as char_literal
unfolding dispatch
char_row x = refl

pub byte_row : (x : List ℕ) → dispatch (codes "b'" ++ x) ≡ parsed_as byte_literal
unfolding dispatch
byte_row x = refl

char_alone : (f : Front) (bs : List ℕ) → row_of f bs ≡ parsed_as char_literal →
    (f ≡ front.Char → ⊥) → ⊥
char_alone front.Char bs row other = other refl
char_alone front.Empty bs row other = cc
char_alone (front.Bool value) bs row other = cc
char_alone front.Number bs row other =
    row_by (begins_with_float bs) (parsed_as float_literal) (parsed_as integer_literal)
    (parsed_as char_literal) (λ e. cc) (λ e. cc) row
char_alone front.Byte bs row other = cc
char_alone (front.Quoted string_kind) bs row other = cc
char_alone (front.Quoted byte_string_kind) bs row other = cc
char_alone (front.Quoted c_string_kind) bs row other = cc
char_alone (front.Raw string_kind) bs row other = cc
char_alone (front.Raw byte_string_kind) bs row other = cc
char_alone (front.Raw c_string_kind) bs row other = cc
char_alone front.Other bs row other =
    row_by (begins_with (codes "c") bs) (parsed_as c_string_literal)
    (refused_as (without_span InvalidLiteral)) (parsed_as char_literal) (λ e. cc) (λ e. cc) row

byte_alone : (f : Front) (bs : List ℕ) → row_of f bs ≡ parsed_as byte_literal →
    (f ≡ front.Byte → ⊥) → ⊥
byte_alone front.Byte bs row other = other refl
byte_alone front.Empty bs row other = cc
byte_alone (front.Bool value) bs row other = cc
byte_alone front.Number bs row other =
    row_by (begins_with_float bs) (parsed_as float_literal) (parsed_as integer_literal)
    (parsed_as byte_literal) (λ e. cc) (λ e. cc) row
byte_alone front.Char bs row other = cc
byte_alone (front.Quoted string_kind) bs row other = cc
byte_alone (front.Quoted byte_string_kind) bs row other = cc
byte_alone (front.Quoted c_string_kind) bs row other = cc
byte_alone (front.Raw string_kind) bs row other = cc
byte_alone (front.Raw byte_string_kind) bs row other = cc
byte_alone (front.Raw c_string_kind) bs row other = cc
byte_alone front.Other bs row other =
    row_by (begins_with (codes "c") bs) (parsed_as c_string_literal)
    (refused_as (without_span InvalidLiteral)) (parsed_as byte_literal) (λ e. cc) (λ e. cc) row

-- a test is false that can't be true
not_true : (test : Bool) → (test ≡ true → ⊥) → test ≡ false
not_true false never = refl
not_true true never = absurd (never refl)

-- a text with another front does not begin with this one
pub no_char_front : (f : Front) (bs : List ℕ) → IsFront f bs → (f ≡ front.Char → ⊥) →
    begins_with (codes "'") bs ≡ false
no_char_front f bs is other = not_true (begins_with (codes "'") bs)
    (λ begins. char_alone f bs (is.row ∙ (ap dispatch (sym (begins_with-split (codes "'") bs begins))
    ∙ char_row _)) other)

pub no_byte_front : (f : Front) (bs : List ℕ) → IsFront f bs → (f ≡ front.Byte → ⊥) →
    begins_with (codes "b'") bs ≡ false
no_byte_front f bs is other = not_true (begins_with (codes "b'") bs)
    (λ begins. byte_alone f bs (is.row ∙ (ap dispatch (sym (begins_with-split (codes "b'") bs begins))
    ∙ byte_row _)) other)

-- Strings

-- kinds with one row are one
same_kind : (a b : StringKind) → parsed_as (string_literal_of a)
    ≡ parsed_as (string_literal_of b) → a ≡ b
same_kind string_kind string_kind row = refl
same_kind string_kind byte_string_kind row = cc
same_kind string_kind c_string_kind row = cc
same_kind byte_string_kind string_kind row = cc
same_kind byte_string_kind byte_string_kind row = refl
same_kind byte_string_kind c_string_kind row = cc
same_kind c_string_kind string_kind row = cc
same_kind c_string_kind byte_string_kind row = cc
same_kind c_string_kind c_string_kind row = refl

-- `true` if it is the row of a kind of strings
abbrev is_string_row : Dispatch → Bool
is_string_row (refused_as refusal) = false
is_string_row (parsed_as bool_literal) = false
is_string_row (parsed_as integer_literal) = false
is_string_row (parsed_as float_literal) = false
is_string_row (parsed_as char_literal) = false
is_string_row (parsed_as byte_literal) = false
is_string_row (parsed_as string_literal) = true
is_string_row (parsed_as byte_string_literal) = true
is_string_row (parsed_as c_string_literal) = true

row_of_string : (kind : StringKind) → is_string_row (parsed_as (string_literal_of kind)) ≡ true
row_of_string string_kind = refl
row_of_string byte_string_kind = refl
row_of_string c_string_kind = refl

no_string_row : (kind : StringKind) (row : Dispatch) → is_string_row row ≡ false →
    row ≡ parsed_as (string_literal_of kind) → ⊥
no_string_row kind row other is = both_ways (is_string_row row) other
    (ap is_string_row is ∙ row_of_string kind)

-- a text that is parsed as a string of the kind has one of its fronts, or begins with `c` alone
string_alone : (kind : StringKind) (f : Front) (bs : List ℕ) →
    row_of f bs ≡ parsed_as (string_literal_of kind) →
    (f ≡ front.Quoted kind → ⊥) → (f ≡ front.Raw kind → ⊥) → (f ≡ front.Other → ⊥) → ⊥
string_alone kind front.Empty bs row quoted raw other =
    no_string_row kind (refused_as (without_span Empty)) refl row
string_alone kind (front.Bool value) bs row quoted raw other =
    no_string_row kind (parsed_as bool_literal) refl row
string_alone kind front.Number bs row quoted raw other =
    row_by (begins_with_float bs) (parsed_as float_literal) (parsed_as integer_literal)
    (parsed_as (string_literal_of kind))
    (no_string_row kind (parsed_as float_literal) refl)
    (no_string_row kind (parsed_as integer_literal) refl) row
string_alone kind front.Char bs row quoted raw other =
    no_string_row kind (parsed_as char_literal) refl row
string_alone kind front.Byte bs row quoted raw other =
    no_string_row kind (parsed_as byte_literal) refl row
string_alone kind (front.Quoted found) bs row quoted raw other =
    quoted (ap front.Quoted (same_kind found kind row))
string_alone kind (front.Raw found) bs row quoted raw other =
    raw (ap front.Raw (same_kind found kind row))
string_alone kind front.Other bs row quoted raw other = other refl

-- such a text is parsed as no string of another kind
other_row : (bs : List ℕ) (row : Dispatch) → IsFront front.Other bs → dispatch bs ≡ row →
    (parsed_as c_string_literal ≡ row → ⊥) → (refused_as (without_span InvalidLiteral) ≡ row → ⊥) → ⊥
other_row bs row is named no_string no_literal =
    row_by (begins_with (codes "c") bs) (parsed_as c_string_literal)
    (refused_as (without_span InvalidLiteral)) row no_string no_literal (is.row ∙ named)

other_quoted : (kind : StringKind) (bs : List ℕ) → IsFront front.Other bs →
    begins_with (quoted_front kind) bs ≡ true → ⊥
other_quoted string_kind bs is begins =
    other_row bs (parsed_as string_literal) is
    (ap dispatch (sym (begins_with-split (quoted_front string_kind) bs begins))
    ∙ dispatch_quoted string_kind _) (λ e. cc) (λ e. cc)
other_quoted byte_string_kind bs is begins =
    other_row bs (parsed_as byte_string_literal) is
    (ap dispatch (sym (begins_with-split (quoted_front byte_string_kind) bs begins))
    ∙ dispatch_quoted byte_string_kind _) (λ e. cc) (λ e. cc)
other_quoted c_string_kind bs is begins =
    both_ways (begins_with (codes "c\"") bs) is.begins.0 begins

other_raw : (kind : StringKind) (bs : List ℕ) → IsFront front.Other bs →
    begins_with (raw_front kind) bs ≡ true → ⊥
other_raw string_kind bs is begins =
    other_row bs (parsed_as string_literal) is
    (ap dispatch (sym (begins_with-split (raw_front string_kind) bs begins))
    ∙ dispatch_raw string_kind _) (λ e. cc) (λ e. cc)
other_raw byte_string_kind bs is begins =
    other_row bs (parsed_as byte_string_literal) is
    (ap dispatch (sym (begins_with-split (raw_front byte_string_kind) bs begins))
    ∙ dispatch_raw byte_string_kind _) (λ e. cc) (λ e. cc)
other_raw c_string_kind bs is begins =
    both_ways (begins_with (codes "cr") bs) is.begins.1 begins

pub no_quoted_front : (kind : StringKind) (f : Front) (bs : List ℕ) → IsFront f bs →
    (f ≡ front.Quoted kind → ⊥) → (f ≡ front.Raw kind → ⊥) →
    begins_with (quoted_front kind) bs ≡ false
no_quoted_front kind f bs is quoted raw = not_true (begins_with (quoted_front kind) bs)
    (λ begins. string_alone kind f bs
    (is.row ∙ (ap dispatch (sym (begins_with-split (quoted_front kind) bs begins))
    ∙ dispatch_quoted kind _)) quoted raw
    (λ e. other_quoted kind bs (subst (λ (g : Front). IsFront g bs) e is) begins))

pub no_raw_front : (kind : StringKind) (f : Front) (bs : List ℕ) → IsFront f bs →
    (f ≡ front.Quoted kind → ⊥) → (f ≡ front.Raw kind → ⊥) →
    begins_with (raw_front kind) bs ≡ false
no_raw_front kind f bs is quoted raw = not_true (begins_with (raw_front kind) bs)
    (λ begins. string_alone kind f bs
    (is.row ∙ (ap dispatch (sym (begins_with-split (raw_front kind) bs begins))
    ∙ dispatch_raw kind _)) quoted raw
    (λ e. other_raw kind bs (subst (λ (g : Front). IsFront g bs) e is) begins))
