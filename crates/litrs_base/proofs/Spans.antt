-- Lengths in bytes, and spans that lie within a text.
use Rattle.std.proofs.Common.{◌≡◌, ℕ, suc, ◌+◌, ◌≤◌, Bool, true, false, cond, ltb, List, [], ◌∷◌, ◌++◌, length, Option, Some, None, refl, sym, ap, subst, ◌∙◌, arith}
use Rattle.std.specs.Prelude.{encode_utf8_all}
use Rattle.std.specs.Char.{encode_utf8}
use Rattle.std.specs.List.{list_all}
use Rattle.std.specs.Option.{ForSome}
use Rattle.std.proofs.lemmas.Bool.{and_parts, ltb-true}
use Rattle.std.proofs.lemmas.List.{length-append}
use Rattle.std.proofs.lemmas.Str.{encodes-append, encode_ascii, length-encode, len_utf8_bounds}
use Rattle.litrs_base.specs.declared.err.ParseErrorKind.{ParseErrorKind}
use Rattle.litrs_base.specs.Refusal.{Refusal, IsInText, without_span, spanning, at_byte}
use Rattle.litrs_base.specs.Text.{byte_len}

pub byte_len-append : (s t : List ℕ) → byte_len (s ++ t) ≡ byte_len s + byte_len t
byte_len-append s t = ap length (encodes-append s t) ∙ length-append (encode_utf8_all s) (encode_utf8_all t)

-- a character has at least one byte
pub byte_len-cons : (c : ℕ) (t : List ℕ) → 1 + byte_len t ≤ byte_len (c ∷ t)
byte_len-cons c t = omega (arith, length-append (encode_utf8 c) (encode_utf8_all t), length-encode c, len_utf8_bounds c)

abbrev pub is_ascii_char : ℕ → Bool
is_ascii_char c = ltb c 128

-- ASCII has one byte a character
pub byte_len_ascii : (t : List ℕ) → list_all is_ascii_char t ≡ true → byte_len t ≡ length t
byte_len_ascii [] all = refl
byte_len_ascii (c ∷ cs) all =
    let parts : (is_ascii_char c ≡ true) × (list_all is_ascii_char cs ≡ true) = and_parts _ _ all in
    let one : encode_utf8 c ≡ c ∷ [] = encode_ascii c (ltb-true c 128 parts.0) in
    let more : byte_len cs ≡ length cs = byte_len_ascii cs parts.1 in
    ap (λ b. length (b ++ encode_utf8_all cs)) one ∙ ap suc more

pub plain_within : (t : List ℕ) (kind : ParseErrorKind) → IsInText t (without_span kind)
plain_within t kind = tt

-- a span over a part of the text
pub over_within : (t a b c : List ℕ) (start end : ℕ) (kind : ParseErrorKind) → a ++ (b ++ c) ≡ t → byte_len a ≡ start → start + byte_len b ≡ end → IsInText t (spanning start end kind)
over_within t a b c start end kind spells at_start at_end =
    let all : byte_len t ≡ byte_len a + (byte_len b + byte_len c) = ap byte_len (sym spells) ∙ (byte_len-append a (b ++ c) ∙ ap (λ n. byte_len a + n) (byte_len-append b c)) in
    record { front = a; rest = b ++ c; cut = spells; start = sym at_start; in_order = omega arith; within = omega arith }

-- a span of one byte where a character begins
pub at_within : (t a : List ℕ) (c : ℕ) (b : List ℕ) (place : ℕ) (kind : ParseErrorKind) → a ++ (c ∷ b) ≡ t → byte_len a ≡ place → IsInText t (at_byte place kind)
at_within t a c b place kind spells at_place =
    let all : byte_len t ≡ byte_len a + byte_len (c ∷ b) = ap byte_len (sym spells) ∙ byte_len-append a (c ∷ b) in
    let room : 1 + byte_len b ≤ byte_len (c ∷ b) = byte_len-cons c b in
    record { front = a; rest = c ∷ b; cut = spells; start = sym at_place; in_order = omega arith; within = omega arith }

-- facts about the refusal, if there is one
pub of_some : (P : Refusal → Type 0) (e : Refusal) → P e → ForSome (Some e) P
of_some P e here found h = subst P (let same : Some e ≡ Some found = h in let inside : e ≡ found = cc in inside) here

pub of_none : (P : Refusal → Type 0) → ForSome None P
of_none P e h = absurd (cc)

-- no row fits: not the first, nor those below it
pub none_from : (b : Bool) (e : Refusal) (o : Option Refusal) → cond b (Some e) o ≡ None → (b ≡ false) × (o ≡ None)
none_from true e o h = absurd (cc)
none_from false e o h = (refl, h)
