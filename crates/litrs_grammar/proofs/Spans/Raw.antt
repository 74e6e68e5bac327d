-- The spans of the refusals of raw strings, what raw strings end with, and their values.
use Rattle.std.proofs.Common.{◌≡◌, ℕ, zero, suc, ◌+◌, ◌<◌, Bool, true, false, not, ◌||◌, ltb, List, [], ◌∷◌, ◌++◌, length, take, drop, get_or, Option, refl, sym, ap, subst, ◌∙◌, arith}
use Rattle.std.specs.Prelude.{◌==◌, encode_utf8_all}
use Rattle.std.specs.Char.{encode_utf8}
use Rattle.std.specs.List.{list_all, list_any, prefix_len, slice_index}
use Rattle.std.specs.Option.{ForSome}
use Rattle.std.proofs.lemmas.Bool.{and_parts, true≢false, false≢true, eqb-true, ltb-true, not-true, or_from}
use Rattle.std.proofs.lemmas.List.{take-append-drop, drop_more, length-take-le, append_assoc}
use Rattle.std.proofs.lemmas.List.Folds.{list_any-append}
use Rattle.litrs_base.specs.declared.err.ParseErrorKind.{ParseErrorKind}
use Rattle.litrs_base.specs.declared.err.ParseErrorKind.TheVariants.{InvalidLiteral, TooManyHashes, UnterminatedRawString}
use Rattle.litrs_base.specs.Refusal.{Refusal, IsInText, without_span, spanning, at_byte}
use Rattle.litrs_base.specs.Text.{is_empty, byte_len, first_passes}
use Rattle.litrs_grammar.specs.Suffix.{is_suffix, suffix_kind}
use Rattle.litrs_grammar.specs.Raw.{is_quote, is_hash, is_nul, hashes, raw_closing, is_raw_char, raw_value, RawParts, raw_text, IsRaw, length_before, raw_char_kind, raw_body_refusal, raw_refusal}
use Rattle.litrs_base.proofs.Runs.{last_passes, is_line_feed, last_passes-all, last_passes-append, last_passes-both, list_all-weaken}
use Rattle.litrs_base.proofs.Spans.{byte_len-append, is_ascii_char, byte_len_ascii, plain_within, over_within, at_within, of_some, of_none}
use Rattle.litrs_grammar.proofs.SuffixStart.{suffix_last}
use Rattle.litrs_grammar.proofs.NoNul.{encode_no_nul}
use Rattle.litrs_grammar.proofs.RawCuts.{hashes_pass, length-hashes, hash_cut, ClosingCut, closing_cut, length_before_le}
use Rattle.litrs_grammar.proofs.Laws.Raw.{refusal_of_hashes, before_closing, after_closing, raw_body_rows, raw_rows}

-- a fact about the refusal in each row is one about the tables

body_rows_hold : (P : Refusal → Type 0) (place suffix_place : ℕ) (kind suffix_kind : ParseErrorKind) (refused closed suffix : Bool) →
    (refused ≡ true → P (at_byte place kind)) → P (without_span UnterminatedRawString) → (closed ≡ true → suffix ≡ false → P (at_byte suffix_place suffix_kind)) →
    ForSome (raw_body_rows place suffix_place kind suffix_kind refused closed suffix) P
body_rows_hold P place suffix_place kind suffix_kind true closed suffix a b c = of_some P _ (a refl)
body_rows_hold P place suffix_place kind suffix_kind false false suffix a b c = of_some P _ b
body_rows_hold P place suffix_place kind suffix_kind false true false a b c = of_some P _ (c refl refl)
body_rows_hold P place suffix_place kind suffix_kind false true true a b c = of_none P

rows_hold : (P : Refusal → Type 0) (start n : ℕ) (body_refusal : Option Refusal) (nothing too_many quote : Bool) →
    P (without_span InvalidLiteral) → P (spanning start (start + n) TooManyHashes) → (quote ≡ true → ForSome body_refusal P) →
    ForSome (raw_rows start n body_refusal nothing too_many quote) P
rows_hold P start n body_refusal true too_many quote a b c = of_some P _ a
rows_hold P start n body_refusal false true quote a b c = of_some P _ b
rows_hold P start n body_refusal false false false a b c = of_some P _ a
rows_hold P start n body_refusal false false true a b c = c refl

-- after the opening quote

hash_ascii : (c : ℕ) → is_hash c ≡ true → is_ascii_char c ≡ true
hash_ascii c h = rw (eqb-true c 35 h) refl

pub hashes_bytes : (n : ℕ) → byte_len (hashes n) ≡ n
hashes_bytes n = byte_len_ascii (hashes n) (list_all-weaken is_hash is_ascii_char hash_ascii (hashes n) (hashes_pass n)) ∙ length-hashes n

pub quoted_bytes : (n : ℕ) → byte_len (raw_closing n) ≡ 1 + n
quoted_bytes n = byte_len-append (34 ∷ []) (hashes n) ∙ omega (arith, hashes_bytes n, byte_len_ascii (34 ∷ []) refl)

-- a character in the text
char_span : (t front r : List ℕ) (start k : ℕ) (kind : ParseErrorKind) → front ++ r ≡ t → byte_len front ≡ start → k < length r → IsInText t (at_byte (start + byte_len (take k r)) kind)
char_span t front r start k kind spells at_start inside =
    let split : take k r ++ (get_or r k 0 ∷ drop (k + 1) r) ≡ r = ap (λ s. take k r ++ s) (sym (drop_more r k 0 inside)) ∙ take-append-drop k r in
    at_within t (front ++ take k r) (get_or r k 0) (drop (k + 1) r) (start + byte_len (take k r)) kind
    (append_assoc front (take k r) (get_or r k 0 ∷ drop (k + 1) r) ∙ (ap (λ s. front ++ s) split ∙ spells))
    (byte_len-append front (take k r) ∙ ap (λ m. m + byte_len (take k r)) at_start)

-- the text after a closing, if it is not empty
suffix_span : (t front x : List ℕ) (place : ℕ) (kind : ParseErrorKind) → front ++ x ≡ t → byte_len front ≡ place → is_suffix x ≡ false → IsInText t (at_byte place kind)
unfolding is_suffix
suffix_span t front [] place kind spells at_place h = absurd (true≢false h)
suffix_span t front (c ∷ cs) place kind spells at_place h = at_within t front c cs place kind spells at_place

closed_span : (t front r : List ℕ) (start n : ℕ) (kind : ParseErrorKind) → front ++ r ≡ t → byte_len front ≡ start → (c : ClosingCut n r) →
    is_suffix (drop (length (take (length_before (raw_closing n) r) r) + (1 + n)) r) ≡ false →
    IsInText t (at_byte (start + (byte_len (take (length_before (raw_closing n) r) r) + (1 + n))) kind)
closed_span t front r start n kind spells at_start c h =
    let s : List ℕ = c.before ++ (raw_closing n ++ c.after) in
    let before : take (length_before (raw_closing n) r) r ≡ c.before =
    ap (λ r. take (length_before (raw_closing n) r) r) (sym c.spells) ∙ before_closing n c.before c.after c.unclosed in
    let after : drop (length (take (length_before (raw_closing n) r) r) + (1 + n)) r ≡ c.after =
    (λ j. drop (length (before j) + (1 + n)) (sym c.spells j)) ∙ after_closing n c.before c.after in
    suffix_span t ((front ++ c.before) ++ raw_closing n) c.after _ kind
    (append_assoc (front ++ c.before) (raw_closing n) c.after ∙ (append_assoc front c.before (raw_closing n ++ c.after) ∙ (ap (λ s. front ++ s) c.spells ∙ spells)))
    (byte_len-append (front ++ c.before) (raw_closing n) ∙ (ap (λ m. m + byte_len (raw_closing n)) (byte_len-append front c.before) ∙ omega (arith, quoted_bytes n, at_start, ap byte_len before)))
    (ap is_suffix (sym after) ∙ h)

body_within : (unicode allow_nul : Bool) (t front r : List ℕ) (n start : ℕ) → front ++ r ≡ t → byte_len front ≡ start →
    ForSome (raw_body_refusal unicode allow_nul n start r) (IsInText t)
unfolding raw_body_refusal
body_within unicode allow_nul t front r n start spells at_start =
    let before : List ℕ = take (length_before (raw_closing n) r) r in
    let good : ℕ = prefix_len (is_raw_char unicode allow_nul) before in
    body_rows_hold (IsInText t) _ _ _ _ _ _ _
    (λ refused. char_span t front r start good (raw_char_kind (slice_index r good)) spells at_start
    (omega (arith, ltb-true _ _ refused, length-take-le (length_before (raw_closing n) r) r (length_before_le (raw_closing n) r), length_before_le (raw_closing n) r)))
    (plain_within t UnterminatedRawString)
    (λ closed h. closed_span t front r start n (suffix_kind (drop (length before + (1 + n)) r)) spells at_start (closing_cut n r closed) h)

quoted_within : (unicode allow_nul : Bool) (t front rest : List ℕ) (n start : ℕ) → front ++ rest ≡ t → byte_len front ≡ start → first_passes is_quote rest ≡ true →
    ForSome (raw_body_refusal unicode allow_nul n (start + 1) (drop 1 rest)) (IsInText t)
quoted_within unicode allow_nul t front [] n start spells at_start quote = absurd (false≢true quote)
quoted_within unicode allow_nul t front (c ∷ r) n start spells at_start quote =
    let one : byte_len (c ∷ []) ≡ 1 = ap (λ q. byte_len (q ∷ [])) (eqb-true c 34 quote) ∙ byte_len_ascii (34 ∷ []) refl in
    body_within unicode allow_nul t (front ++ (c ∷ [])) r n (start + 1) (append_assoc front (c ∷ []) r ∙ spells)
    (byte_len-append front (c ∷ []) ∙ omega (arith, one, at_start))

-- the span of a refusal lies within the text, and starts on a character boundary
pub raw_refusal_within : (unicode allow_nul : Bool) (front t : List ℕ) → ForSome (raw_refusal unicode allow_nul (byte_len front) t) (IsInText (front ++ t))
raw_refusal_within unicode allow_nul front t =
    let c = hash_cut t in
    let n = c.count in
    let start = byte_len front in
    let spells : front ++ (hashes n ++ c.rest) ≡ front ++ t = ap (λ s. front ++ s) c.spells in
    let regroup : (front ++ hashes n) ++ c.rest ≡ front ++ t = append_assoc front (hashes n) c.rest ∙ spells in
    let bytes : byte_len (front ++ hashes n) ≡ start + n = byte_len-append front (hashes n) ∙ ap (λ m. start + m) (hashes_bytes n) in
    let same : raw_refusal unicode allow_nul start t
    ≡ raw_rows start n (raw_body_refusal unicode allow_nul n (start + (n + 1)) (drop 1 c.rest)) (is_empty c.rest) (ltb 255 n) (first_passes is_quote c.rest) =
    ap (raw_refusal unicode allow_nul start) (sym c.spells) ∙ refusal_of_hashes unicode allow_nul start n c.rest c.stops in
    subst (λ (o : Option Refusal). ForSome o (IsInText (front ++ t))) (sym same)
    (rows_hold (IsInText (front ++ t)) _ _ _ _ _ _ (plain_within (front ++ t) InvalidLiteral)
    (over_within (front ++ t) front (hashes n) c.rest start (start + n) TooManyHashes spells refl (ap (λ m. start + m) (hashes_bytes n)))
    (λ quote. subst (λ (place : ℕ). ForSome (raw_body_refusal unicode allow_nul n place (drop 1 c.rest)) (IsInText (front ++ t))) (omega arith)
    (quoted_within unicode allow_nul (front ++ t) (front ++ hashes n) c.rest n (start + n) regroup bytes quote)))

-- the last characters of raw literals

hash_line_feed : (c : ℕ) → is_hash c ≡ true → is_line_feed c ≡ false
hash_line_feed c h = rw (eqb-true c 35 h) refl

closing_last : (n : ℕ) → last_passes is_line_feed (raw_closing n) ≡ false
closing_last zero = refl
closing_last (suc n) = last_passes-append is_line_feed (34 ∷ []) 35 (hashes n) ∙ last_passes-all is_hash is_line_feed hash_line_feed (hashes (suc n)) (hashes_pass (suc n))

pub raw_last : (unicode allow_nul : Bool) (front : List ℕ) (d : RawParts) → IsRaw unicode allow_nul d → last_passes is_line_feed (front ++ raw_text d) ≡ false
raw_last unicode allow_nul front d g =
    let n = d.hash_count in
    let tail : List ℕ = hashes n ++ d.suffix in
    let regroup : front ++ raw_text d ≡ (front ++ (hashes n ++ (34 ∷ d.body))) ++ (34 ∷ tail) =
    ap (λ s. front ++ s) (sym (append_assoc (hashes n) (34 ∷ d.body) (34 ∷ tail))) ∙ sym (append_assoc front (hashes n ++ (34 ∷ d.body)) (34 ∷ tail)) in
    ap (last_passes is_line_feed) regroup
    ∙ (last_passes-append is_line_feed (front ++ (hashes n ++ (34 ∷ d.body))) 34 tail
    ∙ last_passes-both is_line_feed (raw_closing n) d.suffix (closing_last n) (suffix_last d.suffix g.suffix))

-- the value if NUL is not allowed

raw_char_no_nul : (unicode : Bool) (c : ℕ) → is_raw_char unicode false c ≡ true → is_nul c ≡ false
raw_char_no_nul unicode c h = not-true _ (and_parts (unicode || ltb c 128) _ (and_parts (not (c == 13)) _ h).1).1

pub raw_no_nul : (unicode : Bool) (body : List ℕ) → list_all (is_raw_char unicode false) body ≡ true → list_any is_nul (raw_value body) ≡ false
raw_no_nul unicode [] h = refl
raw_no_nul unicode (c ∷ cs) h =
    let parts : (is_raw_char unicode false c ≡ true) × (list_all (is_raw_char unicode false) cs ≡ true) = and_parts _ _ h in
    list_any-append is_nul (encode_utf8 c) (encode_utf8_all cs) ∙ or_from _ _ (encode_no_nul c (raw_char_no_nul unicode c parts.0)) (raw_no_nul unicode cs parts.1)
