-- The spans of refused quoted literals lie within the text.
use Rattle.std.proofs.Common.{◌≡◌, ℕ, ◌<◌, Bool, true, false, not, ◌&&◌, List, [], ◌∷◌, ◌++◌, length, Some, None, refl, sym, ap, ◌∙◌, subst, arith, append_assoc}
use Rattle.std.specs.Prelude.{◌==◌, if◌then◌else◌}
use Rattle.std.specs.List.{list_all}
use Rattle.std.proofs.lemmas.Bool.{and_parts, eqb-true}
use Rattle.litrs_base.specs.Refusal.{Refusal, without_span, shifted, IsInText}
use Rattle.litrs_base.specs.declared.err.ParseErrorKind.TheVariants.{UnterminatedString}
use Rattle.litrs_base.specs.Characters.{is_blank, fits_charset}
use Rattle.litrs_grammar.specs.Suffix.{is_suffix}
use Rattle.litrs_base.specs.Text.{byte_len, first_passes}
use Rattle.litrs_base.specs.declared.quotes.Switches.{Switches}
use Rattle.litrs_grammar.specs.Escape.{escape_refusal, allows_value}
use Rattle.litrs_grammar.specs.Quoted.{body_text, without_last, backslash_refusal, item_refusal}
use Rattle.litrs_grammar.specs.Laws.Quoted.{QuotedSpansLieInText}
use Rattle.litrs_base.proofs.ByteLen.{byte_len_one_ascii, length-le-byte_len}
use Rattle.litrs_grammar.proofs.Spans.Escape.{Marks, AllFit, marks_start, marks_byte, fit_if, fit_unless, fit_either, fit_some, fit_on, fit_later, escape_fits}
use Rattle.litrs_grammar.proofs.QuotedItems.{last_of}

pub first_byte : (c : ℕ) (t : List ℕ) → Marks (c ∷ t) 0 1
first_byte c t = let size = length-le-byte_len (c ∷ t) in marks_start (c ∷ t) 1 (omega arith)

-- a text that is not a suffix is not empty
pub some_no_suffix : (t : List ℕ) → is_suffix t ≡ false → 0 < length t
unfolding is_suffix
some_no_suffix [] h = cc
some_no_suffix (c ∷ t) h = omega arith

lone_backslash : (w : Switches) → AllFit (92 ∷ []) (escape_refusal w [])
unfolding escape_refusal
lone_backslash w = first_byte 92 []

cut_escape_fits : (w : Switches) (t : List ℕ) → AllFit (92 ∷ t) (escape_refusal w (without_last (92 ∷ t)))
cut_escape_fits w [] = lone_backslash w
cut_escape_fits w (c ∷ t) =
    let last = last_of c t in
    let o = escape_refusal w (92 ∷ without_last (c ∷ t)) in
    let Fits : List ℕ → Type 0 = λ l. AllFit l o in
    subst Fits (ap (λ l. 92 ∷ l) last.1) (fit_on (92 ∷ without_last (c ∷ t)) (last.0 ∷ []) o (escape_fits w (without_last (c ∷ t))))

backslash_fits : (w : Switches) (t : List ℕ) → AllFit (92 ∷ t) (backslash_refusal w t)
backslash_fits w t =
    fit_either _ (first_passes (λ c. c == 10) t) (if list_all is_blank t then Some (without_span UnterminatedString) else None) _
    (λ _. fit_if _ (list_all is_blank t) _ None (λ _. tt) (λ _. tt))
    (λ _. cut_escape_fits w t)

rest_fits : (w : Switches) (rest : List ℕ) → AllFit rest (item_refusal w rest)
unfolding item_refusal
rest_fits w [] = tt
rest_fits w (c ∷ t) =
    fit_either _ (c == 92) (backslash_refusal w t) _ (λ e. subst (λ n. AllFit (n ∷ t) (backslash_refusal w t)) (sym (eqb-true c 92 e)) (backslash_fits w t))
    (λ _. fit_if _ (c == 13) _ _ (λ _. first_byte c t)
    (λ _. fit_unless _ (allows_value w c) _ _ (λ _. first_byte c t)
    (λ _. fit_unless _ (fits_charset w.unicode c) _ _ (λ _. first_byte c t)
    (λ _. fit_if _ ((c == 34) && not (is_suffix t)) _ None (λ e. after_quote e) (λ _. tt)))))
  where
    not_suffix : (b : Bool) → not b ≡ true → b ≡ false
    not_suffix false h = refl
    not_suffix true h = cc

    after_quote : ((c == 34) && not (is_suffix t)) ≡ true → Marks (c ∷ t) 1 2
    after_quote e =
        let both = and_parts (c == 34) (not (is_suffix t)) e in
        let ascii : c < 128 = (let at = eqb-true c 34 both.0 in omega arith) in
        marks_byte (c ∷ []) t (c ∷ t) 1 refl (byte_len_one_ascii c [] ascii) (some_no_suffix t (not_suffix _ both.1))

pub quoted_spans_lie_in_text : QuotedSpansLieInText
quoted_spans_lie_in_text front w t e h =
    let before = front ++ body_text h.items in
    let fits = fit_later before h.rest h.cause (fit_some h.rest (item_refusal w h.rest) h.cause (rest_fits w h.rest) h.decided) in
    let whole : before ++ h.rest ≡ t = append_assoc front (body_text h.items) h.rest ∙ h.spells in
    let Text : List ℕ → Type 0 = λ l. IsInText l (shifted (byte_len before) h.cause) in
    let Refusal : Refusal → Type 0 = λ f. IsInText t f in
    subst Refusal h.placed (subst Text whole fits)
