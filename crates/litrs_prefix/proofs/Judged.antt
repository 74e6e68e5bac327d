-- Decisions if a piece of a text is a literal, and if the rest may follow it.
use Rattle.litrs_prefix.proofs.Words.{◌≡◌, inl, inr, ℕ, ◌<◌, Bool, true, false, List, ◌++◌, take, drop, Option, Some, None, refl, sym, ap, subst, ◌∙◌, arith, ◌&&◌, if◌then◌else◌, false≢true, begins_with-split, dispatch_literal, literals_are_unique}
use Rattle.litrs_prefix.specs.Words.{codes, chars, IsUtf8, IsCharBoundary, quoted_front, raw_front, begins_with, char_kind, byte_kind, IsCharLiteral, IsFloatOf, IsIntegerOf, Derivation, an_integer, a_char, a_byte, IsLiteral, begins_with_float, IsQuotedLiteral, RawParts, IsRawLiteral, IsFront, IsOnlyRest, IsLiteralLen, IsMalformedLen, IsJudged, IsJudgedBy, IsPiece, opens, may_follow, ends_suffix, ends_integer, HasPrefix, HasNoPrefix, InvalidLiteral, HasNoDerivation, without_span, StringKind, string_kind, byte_string_kind, c_string_kind, CharParts, IsString, StringParts, quoted_parts, raw_parts, string_suffix, char_literal, byte_literal, c_string_literal, string_literal_of, literal_kind, Dispatch, refused_as, parsed_as, dispatch, QuotedParts, EndsBefore}
use Rattle.litrs_lex.specs.declared.kind.Front.{Front}
use Rattle.litrs_lex.specs.declared.kind.Front.TheVariants as front
use Rattle.litrs_lex.specs.Front.{row_of}
use Rattle.litrs_lex.proofs.Dispatch.{dispatch-chars}
use Rattle.litrs_lex.proofs.StringFronts.{quoted_begins, raw_begins}
use Rattle.litrs_prefix.proofs.Pieces.{parts_spell, piece_is}
use Rattle.litrs_prefix.proofs.Unique.{number_kind}
use Rattle.litrs_grammar.specs.Closing.{a_string_of}

-- the strings of a kind: a quoted one is not raw

pub to_string : (kind : StringKind) (t : List ℕ) (x : StringParts) → IsString kind t x → IsLiteral t (a_string_of kind x)
to_string kind t x h = grind arith

from_string : (kind : StringKind) (t : List ℕ) (x : StringParts) → IsLiteral t (a_string_of kind x) → IsString kind t x
from_string kind t x h = grind arith

pub string_follows : (kind : StringKind) (x : StringParts) (r : List ℕ) → may_follow (a_string_of kind x) r ≡ ends_suffix (string_suffix x) r
string_follows kind x r = grind arith

string_of : (kind : StringKind) (t : List ℕ) (d : Derivation) → IsLiteral t d → dispatch t ≡ parsed_as (string_literal_of kind) → (x : StringParts) × IsString kind t x
string_of kind t d h row = (let x = at kind d (sym (dispatch_literal t d h) ∙ row) in (x.0, from_string kind t x.0 (subst (λ (e : Derivation). IsLiteral t e) x.1 h)))
  where
    at : (kind : StringKind) (d : Derivation) → parsed_as (literal_kind d) ≡ parsed_as (string_literal_of kind) → (x : StringParts) × (d ≡ a_string_of kind x)
    at string_kind d h = grind arith
    at byte_string_kind d h = grind arith
    at c_string_kind d h = grind arith

quoted_row : (kind : StringKind) (y : List ℕ) → (dispatch (quoted_front kind ++ y) ≡ parsed_as (string_literal_of kind)) × (begins_with (raw_front kind) (quoted_front kind ++ y) ≡ false)
unfolding dispatch
quoted_row kind y = grind arith

raw_row : (kind : StringKind) (y : List ℕ) → (dispatch (raw_front kind ++ y) ≡ parsed_as (string_literal_of kind)) × (begins_with (quoted_front kind) (raw_front kind ++ y) ≡ false)
unfolding dispatch
raw_row kind y = grind arith

pub only_quoted : (kind : StringKind) (t : List ℕ) (x : StringParts) → begins_with (quoted_front kind) t ≡ true → IsString kind t x → (q : QuotedParts) × IsQuotedLiteral kind t q
only_quoted kind t (quoted_parts q) begins h = (q, h)
only_quoted kind t (raw_parts q) begins h = absurd (false≢true (sym (raw_row kind _).1 ∙ (ap (begins_with (quoted_front kind)) h.spells ∙ begins)))

pub only_raw : (kind : StringKind) (t : List ℕ) (x : StringParts) → begins_with (raw_front kind) t ≡ true → IsString kind t x → (q : RawParts) × IsRawLiteral kind t q
only_raw kind t (raw_parts q) begins h = (q, h)
only_raw kind t (quoted_parts q) begins h = absurd (false≢true (sym (quoted_row kind _).1 ∙ (ap (begins_with (raw_front kind)) h.spells ∙ begins)))

-- a literal with the front of a kind is a string of the kind
pub quoted_of : (kind : StringKind) (t : List ℕ) (d : Derivation) → begins_with (quoted_front kind) t ≡ true → IsLiteral t d → (q : QuotedParts) × IsQuotedLiteral kind t q
quoted_of kind t d begins h =
    let x = string_of kind t d h (ap dispatch (sym (begins_with-split (quoted_front kind) t begins)) ∙ (quoted_row kind _).0) in
    only_quoted kind t x.0 begins x.1

pub raw_of : (kind : StringKind) (t : List ℕ) (d : Derivation) → begins_with (raw_front kind) t ≡ true → IsLiteral t d → (q : RawParts) × IsRawLiteral kind t q
raw_of kind t d begins h =
    let x = string_of kind t d h (ap dispatch (sym (begins_with-split (raw_front kind) t begins)) ∙ (raw_row kind _).0) in
    only_raw kind t x.0 begins x.1

no_c_string : (t : List ℕ) (x : StringParts) → begins_with (codes "c\"") t ≡ false → begins_with (codes "cr") t ≡ false → IsString c_string_kind t x → ⊥
no_c_string t x quoted raw h = grind arith

-- the kind of the literal that a text is, by how its bytes begin
kind_at : (f : Front) (bs : List ℕ) (row : Dispatch) (d : Derivation) → IsUtf8 bs → IsFront f bs → row_of f bs ≡ row → IsLiteral (chars bs) d → parsed_as (literal_kind d) ≡ row
kind_at f bs row d u is same h = sym (dispatch_literal (chars bs) d h) ∙ (dispatch-chars bs u ∙ (sym is.row ∙ same))

char_of : (d : Derivation) → parsed_as (literal_kind d) ≡ parsed_as char_literal → (x : CharParts) × (d ≡ a_char x)
char_of d h = grind arith

byte_of : (d : Derivation) → parsed_as (literal_kind d) ≡ parsed_as byte_literal → (x : CharParts) × (d ≡ a_byte x)
byte_of d h = grind arith

-- each kind

pub char_before : (bs : List ℕ) → IsUtf8 bs → IsFront front.Char bs → HasNoDerivation (IsCharLiteral char_kind (chars bs)) → HasNoDerivation (IsLiteral (chars bs))
char_before bs u is none = λ d h. let x = char_of d (kind_at front.Char bs (parsed_as char_literal) d u is refl h) in none x.0 (subst (λ (e : Derivation). IsLiteral (chars bs) e) x.1 h)

pub byte_before : (bs : List ℕ) → IsUtf8 bs → IsFront front.Byte bs → HasNoDerivation (IsCharLiteral byte_kind (chars bs)) → HasNoDerivation (IsLiteral (chars bs))
byte_before bs u is none = λ d h. let x = byte_of d (kind_at front.Byte bs (parsed_as byte_literal) d u is refl h) in none x.0 (subst (λ (e : Derivation). IsLiteral (chars bs) e) x.1 h)

pub quoted_before : (kind : StringKind) (bs r : List ℕ) (o : Option Bool) → IsUtf8 bs → IsFront (front.Quoted kind) bs →
    IsJudgedBy (IsQuotedLiteral kind (chars bs)) (λ d. ends_suffix d.suffix r) o → IsJudged o (chars bs) r
quoted_before kind bs r (Some b) u is h = (a_string_of kind (quoted_parts h.0), to_string kind (chars bs) (quoted_parts h.0) h.1, string_follows kind (quoted_parts h.0) r ∙ h.2)
quoted_before kind bs r None u is none = λ d h. let q = quoted_of kind (chars bs) d (quoted_begins kind bs u ∙ is.begins) h in none q.0 q.1

pub raw_before : (kind : StringKind) (bs r : List ℕ) (o : Option Bool) → IsUtf8 bs → IsFront (front.Raw kind) bs →
    IsJudgedBy (IsRawLiteral kind (chars bs)) (λ d. ends_suffix d.suffix r) o → IsJudged o (chars bs) r
raw_before kind bs r (Some b) u is h = (a_string_of kind (raw_parts h.0), to_string kind (chars bs) (raw_parts h.0) h.1, string_follows kind (raw_parts h.0) r ∙ h.2)
raw_before kind bs r None u is none = λ d h. let q = raw_of kind (chars bs) d (raw_begins kind bs u ∙ is.begins) h in none q.0 q.1

pub integer_before : (t r : List ℕ) (b : Bool) → IsJudgedBy (IsIntegerOf t) (λ d. ends_suffix d.suffix r && ends_integer d r) (Some b) → IsJudged (Some b) t r
integer_before t r b h = (an_integer h.0, h.1, h.2)

pub number_before : (bs r : List ℕ) (o : Option Bool) → IsUtf8 bs → IsFront front.Number bs → HasNoDerivation (IsFloatOf (chars bs)) →
    IsJudgedBy (IsIntegerOf (chars bs)) (λ d. ends_suffix d.suffix r && ends_integer d r) o → IsJudged o (chars bs) r
number_before bs r (Some b) u is floats integers = integer_before (chars bs) r b integers
number_before bs r None u is floats integers = λ d h.
    elim (number_kind (begins_with_float bs) d (kind_at front.Number bs _ d u is refl h)) [
      | inl x ↦ integers x.0 (subst (λ (e : Derivation). IsLiteral (chars bs) e) x.1 h)
      | inr x ↦ floats x.0 (subst (λ (e : Derivation). IsLiteral (chars bs) e) x.1 h)
    ]

-- texts that begin as no literal

pub empty_before : (bs r : List ℕ) → IsUtf8 bs → IsFront front.Empty bs → IsJudged None (chars bs) r
empty_before bs r u is = λ d h. let row = kind_at front.Empty bs _ d u is refl h in cc

other_row : (bs : List ℕ) (v : Bool) (d : Derivation) → IsUtf8 bs → IsFront front.Other bs →
    parsed_as (literal_kind d) ≡ (if v then parsed_as c_string_literal else refused_as (without_span InvalidLiteral)) → IsLiteral (chars bs) d → ⊥
other_row bs false d u is row h = cc
other_row bs true d u is row h =
    let x = string_of c_string_kind (chars bs) d h (dispatch_literal (chars bs) d h ∙ row) in
    no_c_string (chars bs) x.0 (quoted_begins c_string_kind bs u ∙ is.begins.0) (raw_begins c_string_kind bs u ∙ is.begins.1) x.1

pub other_before : (bs r : List ℕ) → IsUtf8 bs → IsFront front.Other bs → IsJudged None (chars bs) r
other_before bs r u is = λ d h. absurd (other_row bs (begins_with (codes "c") bs) d u is (kind_at front.Other bs _ d u is refl h) h)

-- a piece at the front of a text

pub judged_prefix : (bs f rest : List ℕ) (n : ℕ) (v : Bool) → IsUtf8 bs → IsCharBoundary bs n → f ≡ take n bs → rest ≡ drop n bs → IsJudged (Some v) (chars f) (chars rest) → v ≡ true → IsLiteralLen bs n
judged_prefix bs f rest n v u bound before after is e = record {
  boundary = bound;
  literal = is.0;
  at_front = subst (λ (l : List ℕ). HasPrefix (chars bs) is.0 (chars l)) after (record { front = chars f; spells = parts_spell bs f rest n u bound before after; literal = is.1; follows = is.2 ∙ e });
}

pub malformed_piece : (bs f rest : List ℕ) (n : ℕ) → IsUtf8 bs → IsCharBoundary bs n → f ≡ take n bs → rest ≡ drop n bs → 0 < n → IsPiece (chars bs) (chars (take n bs)) → opens (chars bs) ≡ true →
    HasNoPrefix (chars bs) → HasNoDerivation (IsLiteral (chars f)) → IsMalformedLen bs n
malformed_piece bs f rest n u bound before after some is_piece opens_at none invalid =
    let same : chars f ≡ chars (take n bs) = ap chars before in
    record {
      boundary = bound;
      some = some;
      front = record {
        rest = chars rest;
        spells = ap (λ (l : List ℕ). l ++ chars rest) (sym same) ∙ parts_spell bs f rest n u bound before after;
        opens = opens_at;
        none = none;
        is_piece = is_piece;
        invalid = λ d h. invalid d (subst (λ (l : List ℕ). IsLiteral l d) (sym same) h);
      };
    }

-- the only piece that a literal at the front can be
pub judged_none : (bs f rest : List ℕ) (n : ℕ) (o : Option Bool) → IsUtf8 bs → IsCharBoundary bs n → f ≡ take n bs → rest ≡ drop n bs → IsOnlyRest (chars bs) (chars (drop n bs)) →
    IsJudged o (chars f) (chars rest) → (o ≡ Some true → ⊥) → HasNoPrefix (chars bs)
judged_none bs f rest n None u bound before after only judged fails = λ d r at. judged d (piece_is bs f n d r u before (bound, sym (only d r at)) at)
judged_none bs f rest n (Some v) u bound before after only judged fails = λ d r at.
    let place : EndsBefore bs r n = (bound, sym (only d r at)) in
    let same : d ≡ judged.0 = literals_are_unique (chars f) d judged.0 (piece_is bs f n d r u before place at) judged.1 in
    let left : chars rest ≡ r = ap chars after ∙ place.1 in
    fails (ap Some (sym judged.2 ∙ (ap (λ (e : Derivation). may_follow e (chars rest)) (sym same) ∙ (ap (may_follow d) left ∙ at.follows))))
