-- The spans of refused chars and bytes lie within the text.
use Rattle.std.proofs.Common.{◌≡◌, ℕ, ◌+◌, ◌<◌, true, false, ◌&&◌, List, [], ◌∷◌, ◌++◌, length, take, drop, Option, Some, None, sym, ap, ◌∙◌, subst, arith, lit<, append_assoc, take-append-drop}
use Rattle.std.specs.Prelude.{◌==◌, option_map, is_some}
use Rattle.std.specs.List.{list_any}
use Rattle.std.proofs.lemmas.Bool.{and_parts, eqb-true}
use Rattle.litrs_base.specs.Refusal.{Refusal, shifted, IsInText}
use Rattle.litrs_grammar.specs.Suffix.{is_suffix}
use Rattle.litrs_base.specs.Text.{byte_len, first_passes, begins_with}
use Rattle.litrs_grammar.specs.Escape.{escape_refusal}
use Rattle.litrs_base.specs.declared.quotes.CharKind.{CharKind}
use Rattle.litrs_base.specs.declared.quotes.CharKind.TheVariants.{Char as char_kind, Byte as byte_kind}
use Rattle.litrs_base.specs.Quotes.{char_front, char_switches_of}
use Rattle.litrs_grammar.specs.CharByte.{char_item_text, is_special_whitespace, allows_char, char_item_at_front, closing_refusal, char_item_refusal, start_refusal, char_kind_refusal}
use Rattle.litrs_grammar.specs.Laws.CharByte.{CharSpansLieInText}
use Rattle.litrs_base.proofs.Spans.{byte_len-append}
use Rattle.litrs_base.proofs.ByteLen.{byte_len_one_ascii}
use Rattle.litrs_grammar.proofs.Spans.Escape.{Marks, AllFit, marks_byte, fit_if, fit_unless, fit_either, fit_some, fit_later, escape_fits}
use Rattle.litrs_base.proofs.Begins.{begins_with-split}
use Rattle.litrs_grammar.proofs.Spans.Quoted.{first_byte, some_no_suffix}

-- after the item of a char
closing_fits : (kind : CharKind) (before after : List ℕ) → AllFit (before ++ after) (closing_refusal kind (byte_len before) after)
closing_fits kind before [] = tt
closing_fits kind before (c ∷ t) =
    fit_unless _ (list_any (λ c. c == 39) (c ∷ t)) _ _ (λ _. tt)
    (λ _. fit_unless _ (c == 39) _ _ (λ _. tt)
    (λ quote. fit_unless _ (is_suffix t) _ None (λ none. after_quote quote none) (λ _. tt)))
  where
    after_quote : (c == 39) ≡ true → is_suffix t ≡ false → Marks (before ++ c ∷ t) (byte_len before + 1) (byte_len before + 1 + 1)
    after_quote quote none =
        let ascii : c < 128 = (let at = eqb-true c 39 quote in omega arith) in
        let one = byte_len_one_ascii c [] ascii in
        let size : byte_len (before ++ c ∷ []) ≡ byte_len before + 1 = byte_len-append before (c ∷ []) ∙ ap (λ n. byte_len before + n) one in
        marks_byte (before ++ c ∷ []) t (before ++ c ∷ t) (byte_len before + 1) (append_assoc before (c ∷ []) t) size (some_no_suffix t none)

item_fits : (kind : CharKind) (t : List ℕ) → AllFit t (char_item_refusal kind t)
item_fits kind [] = tt
item_fits kind (c ∷ t) =
    let n = length (char_item_text (char_item_at_front c (c ∷ t))) in
    fit_if _ ((c == 39) && first_passes (λ d. d == 39) t) _ _ (λ _. first_byte c t)
    (λ _. fit_if _ (c == 39) _ _ (λ _. tt)
    (λ _. fit_if _ (is_special_whitespace c) _ _ (λ _. first_byte c t)
    (λ _. fit_either _ ((c == 92) && is_some (escape_refusal (char_switches_of kind) (c ∷ t))) (escape_refusal (char_switches_of kind) (c ∷ t)) _ (λ e. escaped e)
    (λ _. fit_unless _ (allows_char kind c) _ _ (λ _. first_byte c t)
    (λ _. let Text : List ℕ → Type 0 = λ l. AllFit l (closing_refusal kind (byte_len (take n (c ∷ t))) (drop n (c ∷ t))) in
    subst Text (take-append-drop n (c ∷ t)) (closing_fits kind (take n (c ∷ t)) (drop n (c ∷ t))))))))
  where
    escaped : ((c == 92) && is_some (escape_refusal (char_switches_of kind) (c ∷ t))) ≡ true → AllFit (c ∷ t) (escape_refusal (char_switches_of kind) (c ∷ t))
    escaped e =
        let both = and_parts (c == 92) _ e in
        subst (λ n. AllFit (n ∷ t) (escape_refusal (char_switches_of kind) (n ∷ t))) (sym (eqb-true c 92 both.0)) (escape_fits (char_switches_of kind) t)

front_bytes : (kind : CharKind) → byte_len (char_front kind) ≡ length (char_front kind)
front_bytes char_kind = byte_len_one_ascii 39 [] (lit< tt)
front_bytes byte_kind = byte_len_one_ascii 98 (39 ∷ []) (lit< tt) ∙ ap (λ n. 1 + n) (byte_len_one_ascii 39 [] (lit< tt))

start_fits : (kind : CharKind) (t : List ℕ) → IsInText t (start_refusal kind t)
start_fits kind [] = tt
start_fits char_kind (c ∷ t) = first_byte c t
start_fits byte_kind (c ∷ t) = tt

fit_after : (front t : List ℕ) (o : Option Refusal) → AllFit t o → AllFit (front ++ t) (option_map (shifted (byte_len front)) o)
fit_after front t None h = tt
fit_after front t (Some e) h = fit_later front t e h

char_fits : (kind : CharKind) (t : List ℕ) → AllFit t (char_kind_refusal kind t)
unfolding char_kind_refusal
char_fits kind t =
    fit_either t (begins_with (char_front kind) t) _ (Some (start_refusal kind t)) (λ e. begun e) (λ _. start_fits kind t)
  where
    begun : begins_with (char_front kind) t ≡ true → AllFit t (option_map (shifted (length (char_front kind))) (char_item_refusal kind (drop (length (char_front kind)) t)))
    begun e =
        let rest = drop (length (char_front kind)) t in
        let fits = fit_after (char_front kind) rest (char_item_refusal kind rest) (item_fits kind rest) in
        let Text : List ℕ → Type 0 = λ l. AllFit l (option_map (shifted (byte_len (char_front kind))) (char_item_refusal kind rest)) in
        let Place : ℕ → Type 0 = λ n. AllFit t (option_map (shifted n) (char_item_refusal kind rest)) in
        subst Place (front_bytes kind) (subst Text (begins_with-split (char_front kind) t e) fits)

pub char_spans_lie_in_text : CharSpansLieInText
char_spans_lie_in_text kind t e told = fit_some t (char_kind_refusal kind t) e (char_fits kind t) told
