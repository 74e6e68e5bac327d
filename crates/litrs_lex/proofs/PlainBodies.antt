-- Quoted bodies of plain characters alone.
use Rattle.std.proofs.Common.{◌≡◌, ℕ, ◌+◌, ◌-◌, ◌≤◌, List, [], ◌∷◌, ◌++◌, length, drop, take, sym, ap, subst, ◌∙◌, append_assoc, arith, None}
use Rattle.std.specs.Str.{chars, IsUtf8, IsCharBoundary}
use Rattle.std.proofs.lemmas.List.{take-append-drop, drop-drop, drop-take, take-take, length-drop, length-take-le, append_cancel_right}
use Rattle.std.proofs.lemmas.Str.{chars-append, chars-nil, IsUtf8-drop, IsUtf8-take, IsCharBoundary-from_drop, IsCharBoundary-from_take}
use Rattle.litrs_base.specs.Text.{first_passes}
use Rattle.litrs_base.specs.declared.quotes.Switches.{Switches}
use Rattle.litrs_base.proofs.Chars.{chars_ascii}
use Rattle.litrs_grammar.specs.Quoted.{is_plain}
use Rattle.litrs_lex.specs.QuotedCut.{IsQuotedValue}
use Rattle.litrs_lex.specs.QuotedItems.{IsPlainRun, IsPlainBody}
use Rattle.litrs_lex.proofs.QuotedBytes.{quote_byte, quote_boundary, quote_first}
use Rattle.litrs_lex.proofs.QuotedCuts.{lone_quote_free}
use Rattle.litrs_lex.proofs.QuotedValues.{plain_of}

lone_quote : chars (34 ∷ []) ≡ 34 ∷ []
lone_quote = chars_ascii 34 [] (omega arith) ∙ ap (λ (l : List ℕ). 34 ∷ l) chars-nil

-- the text up to the closing quote is a string of its own
pub plain_piece : (w : Switches) (bytes : List ℕ) (offset place : ℕ) → IsUtf8 bytes → IsCharBoundary bytes offset → IsPlainBody w bytes offset place →
    IsCharBoundary bytes (place + 1) × IsQuotedValue w (take (place + 1) bytes) offset None (place + 1)
plain_piece w bytes offset place u start b =
    let run = b.run.run in
    let size = b.run.size in
    let end = place + 1 in
    let text = IsUtf8-drop bytes place u b.run.boundary in
    let quote : drop place bytes ≡ 34 ∷ drop 1 (drop place bytes) = quote_byte (drop place bytes) text b.quote in
    let past : drop 1 (drop place bytes) ≡ drop end bytes = drop-drop 1 place bytes in
    let within : end ≤ length bytes = omega (arith, ap length quote, length-drop place bytes) in
    let after : IsCharBoundary bytes end = IsCharBoundary-from_drop bytes end within (subst IsUtf8 past (IsUtf8-drop (drop place bytes) 1 text (quote_boundary (drop place bytes) text b.quote))) in
    let piece = take end bytes in
    let whole : IsUtf8 piece = IsUtf8-take bytes end u after in
    let len : length piece ≡ end = length-take-le end bytes within in
    let cut : (i : ℕ) → i ≤ end → IsCharBoundary bytes i → IsCharBoundary piece i =
    λ i le at. IsCharBoundary-from_take piece i whole (omega arith) (subst IsUtf8 (sym (take-take i end bytes le)) (IsUtf8-take bytes i u at)) in
    let at : IsCharBoundary piece offset = cut offset (omega arith) start in
    let lone : drop place piece ≡ 34 ∷ [] = drop-take place 1 bytes ∙ ap (take 1) quote in
    let n = end - offset in
    let sum : offset + n ≡ end = omega arith in
    let front : drop offset piece ≡ take n (drop offset bytes) = ap (λ (k : ℕ). drop offset (take k bytes)) (sym sum) ∙ drop-take offset n bytes in
    let rest : drop n (drop offset bytes) ≡ drop end bytes = drop-drop n offset bytes ∙ ap (λ (k : ℕ). drop k bytes) sum in
    let bytes_of : drop offset piece ++ drop end bytes ≡ drop offset bytes =
    ap (λ (l : List ℕ). l ++ drop end bytes) front ∙ (ap (λ (l : List ℕ). take n (drop offset bytes) ++ l) (sym rest) ∙ take-append-drop n (drop offset bytes)) in
    let joined : chars (drop offset piece) ++ chars (drop end bytes) ≡ chars (drop offset bytes) =
    sym (chars-append (drop offset piece) (drop end bytes) (IsUtf8-drop piece offset whole at)) ∙ ap chars bytes_of in
    let closed : chars (drop offset bytes) ≡ (run ++ 34 ∷ []) ++ chars (drop end bytes) =
    b.run.split ∙ (ap (λ (l : List ℕ). run ++ l) (ap chars quote ∙ (chars_ascii 34 _ (omega arith) ∙ ap (λ (l : List ℕ). 34 ∷ chars l) past)) ∙ sym (append_assoc run (34 ∷ []) (chars (drop end bytes)))) in
    let body : chars (drop offset piece) ≡ run ++ 34 ∷ [] = append_cancel_right _ _ (chars (drop end bytes)) (joined ∙ closed) in
    let last : chars (drop place piece) ≡ 34 ∷ [] = ap chars lone ∙ lone_quote in
    let mine : IsPlainRun w piece offset place = record {
      run = run;
      split = body ∙ ap (λ (l : List ℕ). run ++ l) (sym last);
      plain = b.run.plain;
      size = size;
      boundary = cut place (omega arith) b.run.boundary;
      stops = ap (first_passes (is_plain w)) last;
    } in
    (after, plain_of w piece offset place whole at mine (quote_first _ [] lone) (lone_quote_free w _ lone))
