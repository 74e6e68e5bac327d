-- The front of a text, with its sign.
use Rattle.std.proofs.Common.{◌≡◌, ℕ, ◌+◌, ◌-◌, ◌≤◌, Bool, false, eqb, List, [], ◌∷◌, ◌++◌, length, take, drop, IsUtf8, inl, inr, refl, sym, ap, ◌∙◌, subst, length-append, arith}
use Rattle.std.specs.Prelude.{slice_index, if◌then◌else◌}
use Rattle.std.specs.Str.{chars, IsCharBoundary}
use Rattle.std.proofs.lemmas.Bool.{cases_Bool, eqb-true}
use Rattle.std.proofs.lemmas.List.{take_at, take-append-drop, drop-drop, length-take-le, length-drop, nil_from_length}
use Rattle.std.proofs.lemmas.Str.{IsUtf8-drop, IsUtf8-take, IsCharBoundary-start, IsCharBoundary-after_ascii, IsCharBoundary-from_rest}
use Rattle.litrs.specs.Literal.{Derivation, IsLiteral, literal_parse}
use Rattle.litrs.specs.Refusal.{Refusal, refusal_of, kind_of, char_span_of, shifted, shifted_span}
use Rattle.litrs.specs.Refused.{IsRefused}
use Rattle.litrs.specs.Text.{byte_len}
use Rattle.litrs.specs.declared.ParseError.{ParseError}
use Rattle.litrs.specs.declared.ParseErrorKind.TheVariants.{OutOfMemory}
use Rattle.litrs_grammar.proofs.RefusalKinds.{no_refusal_is_of_memory}
use Rattle.litrs_lex.proofs.CharCuts.{cut_at}
use Rattle.litrs_prefix.specs.declared.MalformedPrefix.{MalformedPrefix}
use Rattle.litrs_prefix.specs.Malformed.{IsMovedBy}
use Rattle.litrs_prefix.specs.Piece.{IsPiece}
use Rattle.litrs_prefix.specs.Prefix.{HasPrefix}
use Rattle.litrs_prefix.proofs.Ends.{end_at, front_is}
use Rattle.litrs_prefix.proofs.Marks.{cut_in}
use Rattle.litrs_prefix.proofs.Pieces.{piece_is}
use Rattle.litrs_value.specs.Prefixes.{IsFrontFor, IsPrefixError, IsMarkedIn}
use Rattle.litrs_value.specs.Reads.{is_negative, sign_len, unsigned, IsReadAs, IsValueError}
use Rattle.litrs_value.specs.Refuses.{Refuses}
use Rattle.litrs_value.specs.declared.prefix.PrefixError.{PrefixError}
use Rattle.litrs_value.specs.declared.value_type.ValueType.{ValueType}
use Rattle.litrs_value.specs.declared.error.ValueError.{ValueError}
use Rattle.litrs_value.specs.declared.error.ValueError.TheVariants.{Malformed, Kind, Sign, Suffix, OutOfRange, Memory}
use Rattle.litrs_value.proofs.Errors.{refuses_text}
use Rattle.litrs_value.proofs.Marks.{sign_fits, marks}

-- a text may be cut after its sign
pub sign_cut : (bs : List ℕ) → IsUtf8 bs → IsCharBoundary bs (sign_len bs)
sign_cut [] utf8 = IsCharBoundary-start [] utf8
sign_cut (c ∷ cs) utf8 = elim (cases_Bool (eqb c 45)) [
  | inl e ↦ (let minus : c ≡ 45 = eqb-true c 45 e in rw e (IsCharBoundary-after_ascii (c ∷ cs) 0 utf8 (omega arith) (omega arith)))
  | inr e ↦ rw e (IsCharBoundary-start (c ∷ cs) utf8)
]

first_is : (raw rest cs : List ℕ) (c : ℕ) → raw ++ rest ≡ c ∷ cs → eqb c 45 ≡ false → is_negative raw ≡ false
first_is [] rest cs c is e = refl
first_is (r ∷ rs) rest cs c is e = ap (λ (l : List ℕ). eqb (slice_index l 0) 45) is ∙ e

-- the front of a text that has the sign and this
signed_front : (text raw rest : List ℕ) (len : ℕ) → raw ++ rest ≡ unsigned text → len ≡ sign_len text + length raw → (unsigned (take len text) ≡ raw) × (is_negative (take len text) ≡ is_negative text)
signed_front [] raw rest len is size =
    let both : length raw + length rest ≡ 0 = sym (length-append raw rest) ∙ ap length is in
    let none : raw ≡ [] = nil_from_length raw (omega (arith, both)) in
    let zero : len ≡ 0 = omega (arith, size, both) in
    (ap (λ k. unsigned (take k [])) zero ∙ sym none, ap (λ k. is_negative (take k [])) zero)
signed_front (c ∷ cs) raw rest len is size = elim (cases_Bool (eqb c 45)) [
  | inl e ↦ (
      let after : raw ++ rest ≡ cs = rw e at is in
      let long : len ≡ 1 + length raw = rw e at size in
      let front : take len (c ∷ cs) ≡ c ∷ raw = ap (λ (l : List ℕ). take len (c ∷ l)) (sym after) ∙ take_at (c ∷ raw) rest len (omega (arith, long)) in
      let rest_is : unsigned (c ∷ raw) ≡ raw = rw e refl in
      (ap unsigned front ∙ rest_is, ap is_negative front))
  | inr e ↦ (
      let whole : raw ++ rest ≡ c ∷ cs = rw e at is in
      let long : len ≡ 0 + length raw = rw e at size in
      let front : take len (c ∷ cs) ≡ raw = ap (take len) (sym whole) ∙ take_at raw rest len (omega (arith, long)) in
      let plain : is_negative raw ≡ false = first_is raw rest cs c whole e in
      let rest_is : unsigned raw ≡ raw = rw plain refl in
      (ap unsigned front ∙ rest_is, ap is_negative front ∙ plain ∙ sym e))
]

-- a text that is cut n bytes after its sign
pub record IsCutAfter (text : List ℕ) (n len : ℕ) : Type 0 where
  pub rest_is : unsigned (take len text) ≡ take n (unsigned text)
  pub negative_is : is_negative (take len text) ≡ is_negative text
  pub boundary : IsCharBoundary text len
  pub after_is : drop len text ≡ drop n (unsigned text)
  pub front_utf8 : IsUtf8 (take len text)
  pub rest_utf8 : IsUtf8 (unsigned (take len text))

pub cut_after_sign : (text : List ℕ) (n len : ℕ) → IsUtf8 text → IsCharBoundary (unsigned text) n → len ≡ sign_len text + n → IsCutAfter text n len
cut_after_sign text n len utf8 cut is =
    let u : List ℕ = unsigned text in
    let long : length (take n u) ≡ n = length-take-le n u cut.0 in
    let front = signed_front text (take n u) (drop n u) len (take-append-drop n u) (is ∙ ap (λ k. sign_len text + k) (sym long)) in
    let whole = IsUtf8-drop text (sign_len text) utf8 (sign_cut text utf8) in
    let boundary : IsCharBoundary text len = subst (λ (k : ℕ). IsCharBoundary text k) (sym is) (IsCharBoundary-from_rest text (sign_len text) n (sign_fits text) cut) in
    record {
      rest_is = front.0;
      negative_is = front.1;
      boundary = boundary;
      after_is = ap (λ k. drop k text) is ∙ sym (drop-drop n (sign_len text) text);
      front_utf8 = IsUtf8-take text len utf8 boundary;
      rest_utf8 = subst (λ (l : List ℕ). IsUtf8 l) (sym front.0) (IsUtf8-take u n whole cut);
    }

-- the marked part of the front may be cut in the text
marked_in : (type : ValueType) (text : List ℕ) (n : ℕ) (e : PrefixError) → IsCutAfter text n e.len → IsValueError type (take e.len text) e.error → IsMarkedIn text e
marked_in type text n e cut is = (cut.boundary, cut_in text e.len _ cut.boundary (marks type (take e.len text) e.error cut.front_utf8 cut.rest_utf8 is))

-- the front of an error of a literal
literal_front : (type : ValueType) (negative : Bool) (d : Derivation) (e : ValueError) (t front rest : List ℕ) → Refuses type negative d e → HasPrefix t d rest → IsFrontFor e t front rest
literal_front type negative d (Malformed p) t front rest r found = absurd r
literal_front type negative d (Kind a b) t front rest r found = (d, found)
literal_front type negative d (Sign a) t front rest r found = (d, found)
literal_front type negative d (Suffix a n) t front rest r found = (d, found)
literal_front type negative d (OutOfRange a) t front rest r found = (d, found)
literal_front type negative d Memory t front rest r found = (d, found)

pub refused_prefix : (type : ValueType) (text raw rest : List ℕ) (d : Derivation) (e : PrefixError) → IsUtf8 text → IsUtf8 rest → raw ++ rest ≡ unsigned text
    → HasPrefix (chars (unsigned text)) d (chars rest) → Refuses type (is_negative text) d e.error → e.len ≡ length text - length rest → IsPrefixError type text e × IsMarkedIn text e
refused_prefix type text raw rest d e utf8 rest_utf8 spells found refuses len =
    let u : List ℕ = unsigned text in
    let n : ℕ = length u - length rest in
    let end = end_at u raw rest rest_utf8 spells in
    let fits = sign_fits text in
    let size : length u ≡ length raw + length rest = ap length (sym spells) ∙ length-append raw rest in
    let place : e.len ≡ sign_len text + n = omega (arith, fits, size, len, length-drop (sign_len text) text) in
    let cut = cut_after_sign text n e.len utf8 end.0 place in
    let whole = IsUtf8-drop text (sign_len text) utf8 (sign_cut text utf8) in
    let literal : IsLiteral (chars (take n u)) d = piece_is u (take n u) n d (chars rest) whole refl (end.0, ap chars end.1) found in
    let read : IsReadAs (take e.len text) d = subst (λ (l : List ℕ). IsLiteral (chars l) d) (sym cut.rest_is) literal in
    let is : IsValueError type (take e.len text) e.error = refuses_text type (take e.len text) d e.error read (subst (λ (b : Bool). Refuses type b d e.error) (sym cut.negative_is) refuses) in
    let after : chars (drop e.len text) ≡ chars rest = ap chars (cut.after_is ∙ end.1) in
    let front = literal_front type (is_negative text) d e.error (chars u) (chars (unsigned (take e.len text))) (chars (drop e.len text)) refuses (subst (λ (l : List ℕ). HasPrefix (chars u) d l) (sym after) found) in
    ((is, front), marked_in type text n e cut is)

-- a malformed literal after the sign
module _ (type : ValueType) (text : List ℕ) (m : MalformedPrefix) (utf8 : IsUtf8 text) where
  malformed_cut : (front rest : List ℕ) (n len : ℕ) → front ++ rest ≡ chars (unsigned text) → byte_len front ≡ n → len ≡ sign_len text + n
      → IsCutAfter text n len × (chars (unsigned (take len text)) ≡ front) × (chars (drop len text) ≡ rest)
  malformed_cut front rest n len spells size place =
      let u : List ℕ = unsigned text in
      let whole = IsUtf8-drop text (sign_len text) utf8 (sign_cut text utf8) in
      let at = cut_at u front rest whole (sym spells) in
      let boundary : IsCharBoundary u n = subst (λ (k : ℕ). IsCharBoundary u k) size at.boundary in
      let after : chars (drop n u) ≡ rest = ap (λ k. chars (drop k u)) (sym size) ∙ at.rest in
      let cut = cut_after_sign text n len utf8 boundary place in
      (cut, ap chars cut.rest_is ∙ front_is u n front rest whole boundary after spells, ap chars cut.after_is ∙ after)

  -- its length is at most that of the text
  pub malformed_fits : IsMovedBy (sign_len text) (chars (unsigned text)) m → sign_len text + m.len ≤ length text
  malformed_fits moved = elim moved.malformed [
    | inl is ↦ (malformed_cut is.front is.rest m.len (sign_len text + m.len) is.spells (is.len ∙ sym moved.len) refl).0.boundary.0
    | inr is ↦ (malformed_cut is.front is.rest m.len (sign_len text + m.len) is.spells (is.len ∙ sym moved.len) refl).0.boundary.0
  ]

  pub malformed_prefix : (len : ℕ) → len ≡ sign_len text + m.len → (kind_of m.error ≡ OutOfMemory → ⊥) → IsMovedBy (sign_len text) (chars (unsigned text)) m
      → let e : PrefixError = record { error = Malformed m.error; len = len } in IsPrefixError type text e × IsMarkedIn text e
  malformed_prefix len place other moved = elim moved.malformed [
    | inl is ↦ (
        let o : ParseError = moved.of_text.error in
        let front : List ℕ = take len text in
        let pair = malformed_cut is.front is.rest m.len len is.spells (is.len ∙ sym moved.len) place in
        let cut = pair.0 in
        let sign : (if is_negative front then 1 else 0) ≡ sign_len text = ap (λ (b : Bool). if b then 1 else 0) cut.negative_is in
        let error : IsValueError type front (Malformed m.error) = (
          o,
          subst (λ (t : List ℕ). IsRefused literal_parse t o) (sym pair.1) is.refused,
          moved.refusal ∙ ap (λ k. shifted k (refusal_of o)) (sym sign),
          moved.char_span ∙ ap (λ k. shifted_span k (char_span_of o)) (sym sign),
        ) in
        let is_piece = subst (λ (t : List ℕ). IsPiece (chars (unsigned text)) t) (sym pair.1) is.is_piece in
        ((error, (is.opens, is.none, is_piece)), marked_in type text m.len (record { error = Malformed m.error; len = len }) cut error))
    | inr is ↦ absurd (other (ap (λ (r : Refusal). r.kind) moved.refusal ∙ ap (λ (r : Refusal). r.kind) is.refused.error))
  ]

  pub memory_prefix : (len : ℕ) → len ≡ sign_len text + m.len → kind_of m.error ≡ OutOfMemory → IsMovedBy (sign_len text) (chars (unsigned text)) m
      → let e : PrefixError = record { error = Memory; len = len } in IsPrefixError type text e × IsMarkedIn text e
  memory_prefix len place kind moved = elim moved.malformed [
    | inl is ↦ absurd (no_refusal_is_of_memory literal_parse is.front (refusal_of moved.of_text.error) is.refused.table (sym (ap (λ (r : Refusal). r.kind) moved.refusal) ∙ kind))
    | inr is ↦ (
        let d : Derivation = is.refused.derivation in
        let pair = malformed_cut is.front is.rest m.len len is.spells (is.len ∙ sym moved.len) place in
        let error : IsValueError type (take len text) Memory = (d, subst (λ (t : List ℕ). IsLiteral t d) (sym pair.1) is.refused.literal, inl (is.refused.allocated, is.refused.takes)) in
        let found = subst (λ (l : List ℕ). HasPrefix (chars (unsigned text)) d l) (sym pair.2) is.prefix in
        ((error, (d, found)), marked_in type text m.len (record { error = Memory; len = len }) pair.0 error))
  ]
