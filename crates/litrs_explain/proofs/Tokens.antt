-- The token at the front of the end of a text is at its place in the text.
use Rattle.std.proofs.Common.{◌≡◌, ℕ, ◌+◌, ◌-◌, List, ◌++◌, length, take, drop, sym, ap, ◌∙◌, subst, append_assoc, length-append, arith}
use Rattle.std.specs.Str.{IsUtf8, IsCharBoundary}
use Rattle.std.proofs.Math.Seq.{take-append_seam, drop-append_seam}
use Rattle.std.proofs.lemmas.Str.{IsCharBoundary-at_seam}
use Rattle.litrs_lexer.specs.Tokens.{IsFirstToken}
use Rattle.litrs_lexer.specs.declared.token.Token.{Token}
use Rattle.litrs_prefix.specs.Ends.{IsEndOf}
use Rattle.litrs_explain.specs.Places.{IsTokenOf}

pub token_of : (source text : List ℕ) (token : Token) (rest : List ℕ) → IsEndOf source text → IsUtf8 text → IsUtf8 rest → IsFirstToken source text token rest → IsTokenOf source token
token_of source text token rest end utf8 after first =
    let front : List ℕ = end.0 in
    let word : List ℕ = token.text.now in
    let all : length front + length text ≡ length source = sym (length-append front text) ∙ ap length end.1 in
    let start : length front ≡ token.start = omega (arith, all, first.start) in
    let whole : source ≡ (front ++ word) ++ rest = sym end.1 ∙ (ap (λ (t : List ℕ). front ++ t) (sym first.spells) ∙ sym (append_assoc front word rest)) in
    let size : length (front ++ word) ≡ token.start + length word = length-append front word ∙ ap (λ (n : ℕ). n + length word) start in
    let last : IsCharBoundary source (token.start + length word) = subst (IsCharBoundary source) size (IsCharBoundary-at_seam source (front ++ word) rest whole after) in
    let left : drop token.start source ≡ word ++ rest =
    ap (λ (n : ℕ). drop n source) (sym start) ∙ (ap (drop (length front)) (sym end.1) ∙ (drop-append_seam front text ∙ sym first.spells)) in
    let len : (token.start + length word) - token.start ≡ length word = omega arith in
    record {
      cuts = record {
        start = subst (IsCharBoundary source) start (IsCharBoundary-at_seam source front text (sym end.1) utf8);
        end = last;
        in_order = omega arith;
        within = last.0;
      };
      spells = ap (λ (n : ℕ). take n (drop token.start source)) len ∙ (ap (take (length word)) left ∙ take-append_seam word rest);
    }
