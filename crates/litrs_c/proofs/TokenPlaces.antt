-- The token that the iterator gives, at its place.
use Rattle.std.proofs.Common.{◌≡◌, ℕ, ◌+◌, ◌-◌, ◌≤◌, List, ◌++◌, length, take, drop, sym, ap, subst, ◌∙◌, append_assoc, length-append, arith}
use Rattle.std.proofs.Math.Seq.{drop-append_seam}
use Rattle.std.proofs.lemmas.List.{length-drop, take-append-drop}
use Rattle.std.proofs.lemmas.Str.{IsCharBoundary-at_seam}
use Rattle.std.specs.Str.{IsUtf8, IsCharBoundary}
use Rattle.litrs_lexer.specs.Tokens.{IsFirstToken}
use Rattle.litrs_lexer.specs.declared.token.Token.{Token}
use Rattle.litrs_prefix.specs.Ends.{IsEndOf}
use Rattle.litrs_c.specs.Tokens.{IsTokenFields, IsTokenAt}
use Rattle.litrs_c.specs.declared.tokens.TokenFields.{TokenFields}

-- the end of a text is at most as long as the text
pub end_fits : (text rest : List ℕ) → IsEndOf text rest → length rest ≤ length text
end_fits text rest end =
    let all : length end.0 + length rest ≡ length text = sym (length-append end.0 rest) ∙ ap length end.1 in
    omega arith

start_is : (text rest : List ℕ) (end : IsEndOf text rest) → length text - length rest ≡ length end.0
start_is text rest end =
    let all : length end.0 + length rest ≡ length text = sym (length-append end.0 rest) ∙ ap length end.1 in
    omega arith

pub start_place : (text rest : List ℕ) → IsEndOf text rest → IsUtf8 rest → IsCharBoundary text (length text - length rest)
start_place text rest end utf8 =
    subst (IsCharBoundary text) (sym (start_is text rest end)) (IsCharBoundary-at_seam text end.0 rest (sym end.1) utf8)

pub start_rest : (text rest : List ℕ) → IsEndOf text rest → drop (length text - length rest) text ≡ rest
start_rest text rest end =
    ap (λ (n : ℕ). drop n text) (start_is text rest end)
    ∙ (ap (λ (l : List ℕ). drop (length end.0) l) (sym end.1) ∙ drop-append_seam end.0 rest)

-- the text after a token is the end of the text
pub ends_text : (text : List ℕ) (at : ℕ) (token : Token) (rest : List ℕ) → IsFirstToken text (drop at text) token rest → IsEndOf text rest
ends_text text at token rest first = (
  take at text ++ token.text.now,
  append_assoc (take at text) token.text.now rest
      ∙ (ap (λ (l : List ℕ). take at text ++ l) first.spells ∙ take-append-drop at text),
)

-- and begins where the token ends
pub end_found : (text : List ℕ) (at end : ℕ) (token : Token) (rest : List ℕ) → IsFirstToken text (drop at text) token rest →
    end ≤ length text → drop end text ≡ rest → end ≡ token.start + length token.text.now
end_found text at end token rest first within left =
    let both : length token.text.now + length rest ≡ length (drop at text) = sym (length-append token.text.now rest) ∙ ap length first.spells in
    let after : length text - end ≡ length rest = sym (length-drop end text) ∙ ap length left in
    let start : token.start + length (drop at text) ≡ length text = first.start in
    omega arith

start_found : (text : List ℕ) (at : ℕ) (token : Token) (rest : List ℕ) → IsFirstToken text (drop at text) token rest → at ≤ length text → token.start ≡ at
start_found text at token rest first within =
    let len : length (drop at text) ≡ length text - at = length-drop at text in
    let start : token.start + length (drop at text) ≡ length text = first.start in
    omega arith

pub token_at : (text : List ℕ) (at end : ℕ) (token : Token) (rest : List ℕ) (fields : TokenFields) → IsFirstToken text (drop at text) token rest →
    IsCharBoundary text at → end ≤ length text → drop end text ≡ rest → IsTokenFields token fields → IsTokenAt text at fields
token_at text at end token rest fields first place within left are =
    let ends : end ≡ fields.place.end = end_found text at end token rest first within left ∙ sym are.end in
    record {
      token = token;
      place = place;
      is = subst (λ (l : List ℕ). IsFirstToken text (drop at text) token l) (sym left ∙ ap (λ (n : ℕ). drop n text) ends) first;
      are = are;
      start = are.start ∙ start_found text at token rest first place.0;
    }
