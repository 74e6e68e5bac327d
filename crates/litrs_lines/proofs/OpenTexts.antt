-- Texts that begin a literal with an LF after them. A text whose body is open at its end is not a
-- literal.
use Rattle.std.proofs.Common.{◌≡◌, ◌∙◌, ◌⊎◌, inl, inr, ℕ, zero, suc, ◌+◌, ◌≤◌, Bool, true, false, not, ◌&&◌, ◌||◌, List, [], ◌∷◌, ◌++◌, length, drop, Some, refl, sym, ap, subst, append_assoc, append-nil}
use Rattle.std.specs.Prelude.{◌==◌, codes, if◌then◌else◌}
use Rattle.std.specs.List.{list_all}
use Rattle.std.proofs.lemmas.Bool.{and_parts, and_from, or_parts, or_from, le-ltb, both_ways, not_from_false, eqb-true, false≢true}
use Rattle.std.proofs.lemmas.List.{drop_at, append_cancel_left}
use Rattle.std.proofs.lemmas.List.Folds.{list_all-append as all-append}
use Rattle.litrs_base.proofs.ListTests.{if_true}
use Rattle.litrs_base.proofs.Runs.{list_all-append, line_feed_last}
use Rattle.litrs_base.specs.Characters.{is_blank}
use Rattle.litrs_base.specs.Derivations.{HasNoDerivation}
use Rattle.litrs_base.specs.Finality.{is_open}
use Rattle.litrs_base.specs.Refusal.{Refusal, without_span, at_byte, shifted}
use Rattle.litrs_base.specs.declared.err.ParseErrorKind.TheVariants.{UnterminatedString, UnterminatedRawString}
use Rattle.litrs_base.specs.Text.{byte_len, begins_with, first_passes}
use Rattle.litrs_base.specs.declared.quotes.StringKind.{StringKind}
use Rattle.litrs_base.specs.declared.quotes.StringKind.TheVariants.{String as string_kind, ByteString as byte_string_kind, CString as c_string_kind}
use Rattle.litrs_base.specs.Quotes.{switches_of, quoted_front, raw_front}
use Rattle.litrs_base.specs.declared.quotes.Switches.{Switches}
use Rattle.litrs_grammar.specs.Suffix.{is_suffix, suffix_kind}
use Rattle.litrs_grammar.specs.LongerTexts.{BeginsBy}
use Rattle.litrs_grammar.specs.Escape.{Escape, escape_text, IsEscape}
use Rattle.litrs_grammar.specs.Quoted.{Item, plain_item, escape_item, body_text, is_item_list, QuotedParts, item_refusal, IsQuotedLiteral, IsQuotedRefusal, IsQuotedLiteralRefusal}
use Rattle.litrs_grammar.specs.GoesOn.Quoted.{IsOpenRest}
use Rattle.litrs_grammar.specs.Raw.{hashes, occurs, raw_closing, has_unicode, allows_nul, is_raw_char, IsRawBody, RawParts, hash_len, raw_body_refusal, raw_refusal}
use Rattle.litrs_grammar.specs.Literal.{LiteralKind, bool_literal, integer_literal, float_literal, char_literal, byte_literal, c_string_literal, StringParts, quoted_parts, raw_parts, IsString, a_string, a_byte_string, a_c_string, IsLiteral, literal_parse, Begins, string_literal_of}
use Rattle.litrs_grammar.specs.LiteralRefusals.{Dispatch, refused_as, StringStart, quoted_start, raw_start, string_start, IsRefusalOfStart, IsStringRefusal, parsed_as, dispatch, IsRefusalOfDispatch, IsRefusal}
use Rattle.litrs_grammar.proofs.Laws.Literal.{start_quoted, start_raw, literals_are_not_refused, texts_are_decided, dispatch_quoted, dispatch_raw}
use Rattle.litrs_grammar.proofs.Laws.Quoted.{body_text-append, quoted_refusals_are_unique, quoted_texts_are_decided}
use Rattle.litrs_grammar.proofs.LongerTexts.OpenRows.{shut_suffix}
use Rattle.litrs_grammar.proofs.QuotedItems.{body_stands}
use Rattle.litrs_grammar.proofs.Laws.Raw.{raw_rows}
use Rattle.litrs_grammar.proofs.SuffixStart.{suffix_last}
use Rattle.litrs_grammar.proofs.LongerTexts.Quoted.{quoted_items_stay, rest_begins}
use Rattle.litrs_grammar.proofs.LongerTexts.Raw.{closing_is_text, rows_of, unclosed_refusal}
use Rattle.litrs_grammar.proofs.LongerTexts.Suffix.{is_suffix-nil}
use Rattle.litrs_lex.specs.BodyStop.{IsShut}
use Rattle.litrs_grammar.specs.Closing.{opening_text, written_body, closing_of, a_string_of}
use Rattle.litrs_grammar.proofs.LineFeeds.{is_other}
use Rattle.litrs_grammar.proofs.RawCuts.{hash_len-append}
use Rattle.litrs_grammar.proofs.LongerTexts.String.{raw_other, quoted_other}
use Rattle.litrs_grammar.proofs.LongerTexts.Literal.{line_ends_are_decided, open_refusals_close}
use Rattle.litrs_grammar.proofs.Spans.Literal.{no_literal_ends_with_line_feed}
use Rattle.litrs_lex.proofs.QuotedScan.{is_item_list-append}
use Rattle.litrs.proofs.StringRefusals.{in_table}
use Rattle.litrs_prefix.proofs.PieceLaws.{no_end}

-- no literal, and with LF after it the beginning of one
abbrev pub IsOpenText : List ℕ → Type 0
IsOpenText t = HasNoDerivation (IsLiteral t) × Begins literal_parse (t ++ 10 ∷ [])

-- A text has the refusal of its kind of string as a literal, and begins a literal if it begins a string.

begins_literal : (kind : StringKind) (t : List ℕ) → BeginsBy (IsString kind) t → Begins literal_parse t
begins_literal string_kind t begins = (begins.0, a_string begins.1, begins.2, begins.3)
begins_literal byte_string_kind t begins = (begins.0, a_byte_string begins.1, begins.2, begins.3)
begins_literal c_string_kind t begins = (begins.0, a_c_string begins.1, begins.2, begins.3)

-- the refusal of a text that begins as a string of the kind
string_refusal : (kind : StringKind) (start : StringStart) (t : List ℕ) (e : Refusal) → dispatch t ≡ parsed_as (string_literal_of kind) → string_start kind t ≡ start →
    IsRefusalOfStart kind start t e → IsRefusal literal_parse t e
string_refusal kind start t e named starts refused =
    let own : IsStringRefusal kind t e = subst (λ s. IsRefusalOfStart kind s t e) (sym starts) refused in
    subst (λ n. IsRefusalOfDispatch n t e) (sym named) (in_table kind t e own)

no_literal : (kind : StringKind) (start : StringStart) (t : List ℕ) (e : Refusal) → dispatch t ≡ parsed_as (string_literal_of kind) → string_start kind t ≡ start →
    IsRefusalOfStart kind start t e → HasNoDerivation (IsLiteral t)
no_literal kind start t e named starts refused d is =
    literals_are_not_refused literal_parse t d e is (string_refusal kind start t e named starts refused)

-- Quoted strings

-- the texts that may follow the items of an open text
abbrev pub IsOpenEnd : Switches → List ℕ → Type 0
IsOpenEnd w rest = IsOpenRest rest ⊎ ((rest ≡ 92 ∷ []) ⊎ ((e : Escape) × (rest ≡ escape_text e) × IsEscape w e))

-- an open rest is refused as unterminated
open_rest : (w : Switches) (rest : List ℕ) → IsOpenRest rest → item_refusal w rest ≡ Some (without_span UnterminatedString)
unfolding item_refusal
open_rest w rest (inl none) = ap (item_refusal w) none
open_rest w rest (inr (blanks, is, all)) = ap (item_refusal w) is ∙ if_true (list_all is_blank blanks) _ _ all

-- more after the rest
pub more_after : (front text rest more t : List ℕ) → front ++ (text ++ rest) ≡ t → front ++ (text ++ (rest ++ more)) ≡ t ++ more
more_after front text rest more t spells =
    ap (λ l. front ++ l) (sym (append_assoc text rest more)) ∙ sym (append_assoc front (text ++ rest) more) ∙ ap (λ l. l ++ more) spells

-- the text and an LF, by its items and the open rest after them
record IsOpenLine (kind : StringKind) (t : List ℕ) : Type 0 where
  items : List Item
  rest : List ℕ
  spells : quoted_front kind ++ (body_text items ++ rest) ≡ t ++ 10 ∷ []
  taken : is_item_list (switches_of kind) rest items ≡ true
  shape : IsOpenRest rest

-- no suffix continues over a line
not_suffix : (s : List ℕ) → is_suffix (s ++ 10 ∷ []) ≡ false
not_suffix s = by (is_suffix (s ++ 10 ∷ [])) refl
  where
    by : (b : Bool) → is_suffix (s ++ 10 ∷ []) ≡ b → b ≡ false
    by false is = refl
    by true is = absurd (both_ways _ (suffix_last (s ++ 10 ∷ []) is) (line_feed_last s))

quote_refused : (kind : StringKind) (t : List ℕ) → is_suffix t ≡ false → item_refusal (switches_of kind) (34 ∷ t) ≡ Some (at_byte 1 (suffix_kind t))
unfolding item_refusal
quote_refused string_kind t other = if_true (not (is_suffix t)) _ _ (not_from_false _ other)
quote_refused byte_string_kind t other = if_true (not (is_suffix t)) _ _ (not_from_false _ other)
quote_refused c_string_kind t other = if_true (not (is_suffix t)) _ _ (not_from_false _ other)

-- a literal with an LF after it is not open
open_is_none : (kind : StringKind) (t : List ℕ) (q : QuotedParts) → IsQuotedLiteral kind t q → IsOpenLine kind t → ⊥
open_is_none kind t q is line =
    let w = switches_of kind in
    let front = quoted_front kind in
    let after : List ℕ = q.suffix ++ 10 ∷ [] in
    let closed : IsQuotedRefusal front w (t ++ 10 ∷ []) (shifted (byte_len (front ++ body_text q.items)) (at_byte 1 (suffix_kind after))) = record {
      items = q.items;
      rest = 34 ∷ after;
      cause = at_byte 1 (suffix_kind after);
      spells = more_after front (body_text q.items) (34 ∷ q.suffix) (10 ∷ []) t is.spells;
      taken = body_stands w q.items after is.body;
      decided = quote_refused kind after (not_suffix q.suffix);
      placed = refl;
    } in
    let unclosed : IsQuotedRefusal front w (t ++ 10 ∷ []) (shifted (byte_len (front ++ body_text line.items)) (without_span UnterminatedString)) = record {
      items = line.items;
      rest = line.rest;
      cause = without_span UnterminatedString;
      spells = line.spells;
      taken = line.taken;
      decided = open_rest w line.rest line.shape;
      placed = refl;
    } in
    let same = quoted_refusals_are_unique front w (t ++ 10 ∷ []) _ _ closed unclosed in
    both_ways (is_open (suffix_kind after)) (shut_suffix after) (ap (λ (r : Refusal). is_open r.kind) same)

line_feed_stands : (kind : StringKind) → is_item_list (switches_of kind) [] (plain_item 10 ∷ []) ≡ true
line_feed_stands string_kind = refl
line_feed_stands byte_string_kind = refl
line_feed_stands c_string_kind = refl

quoted_begins : (kind : StringKind) (t : List ℕ) (items : List Item) (rest : List ℕ) → quoted_front kind ++ (body_text items ++ rest) ≡ t →
    is_item_list (switches_of kind) rest items ≡ true → IsOpenRest rest → Begins literal_parse t
quoted_begins kind t items rest spells taken shape =
    let begins = rest_begins (quoted_front kind) (switches_of kind) t items rest spells taken (inl shape) in
    begins_literal kind t (begins.0, quoted_parts begins.1, begins.2, begins.3)

line_of : (kind : StringKind) (t : List ℕ) (items : List Item) (rest : List ℕ) → quoted_front kind ++ (body_text items ++ rest) ≡ t →
    is_item_list (switches_of kind) rest items ≡ true → IsOpenEnd (switches_of kind) rest → IsOpenLine kind t
line_of kind t items rest spells taken (inl (inl none)) =
    let w = switches_of kind in
    let end : is_item_list w [] items ≡ true = subst (λ (r : List ℕ). is_item_list w r items ≡ true) none taken in
    let text : body_text (items ++ plain_item 10 ∷ []) ++ [] ≡ body_text items ++ (rest ++ 10 ∷ []) =
    append-nil (body_text (items ++ plain_item 10 ∷ [])) ∙ body_text-append items (plain_item 10 ∷ []) ∙ ap (λ (r : List ℕ). body_text items ++ (r ++ 10 ∷ [])) (sym none) in record {
      items = items ++ plain_item 10 ∷ [];
      rest = [];
      spells = ap (λ (l : List ℕ). quoted_front kind ++ l) text ∙ more_after (quoted_front kind) (body_text items) rest (10 ∷ []) t spells;
      taken = is_item_list-append w items (plain_item 10 ∷ []) [] (quoted_items_stay w [] (10 ∷ []) items end) (line_feed_stands kind);
      shape = inl refl;
    }
line_of kind t items rest spells taken (inl (inr (blanks, is, all))) = record {
  items = items;
  rest = rest ++ 10 ∷ [];
  spells = more_after (quoted_front kind) (body_text items) rest (10 ∷ []) t spells;
  taken = quoted_items_stay (switches_of kind) rest (10 ∷ []) items taken;
  shape = inr (blanks ++ 10 ∷ [], ap (λ (l : List ℕ). l ++ 10 ∷ []) is, list_all-append is_blank blanks (10 ∷ []) all refl);
}
line_of kind t items rest spells taken (inr (inl lone)) = record {
  items = items;
  rest = rest ++ 10 ∷ [];
  spells = more_after (quoted_front kind) (body_text items) rest (10 ∷ []) t spells;
  taken = quoted_items_stay (switches_of kind) rest (10 ∷ []) items taken;
  shape = inr ([], ap (λ (l : List ℕ). l ++ 10 ∷ []) lone, refl);
}
line_of kind t items rest spells taken (inr (inr (e, is, grammar))) =
    let w = switches_of kind in
    let more : List Item = escape_item e ∷ plain_item 10 ∷ [] in
    let longer : rest ++ 10 ∷ [] ≡ body_text more ++ [] = ap (λ (r : List ℕ). r ++ 10 ∷ []) is ∙ sym (append-nil (body_text more)) in
    let before : is_item_list w (body_text more ++ []) items ≡ true = subst (λ (r : List ℕ). is_item_list w r items ≡ true) longer (quoted_items_stay w rest (10 ∷ []) items taken) in
    let text : body_text (items ++ more) ++ [] ≡ body_text items ++ (rest ++ 10 ∷ []) =
    append-nil (body_text (items ++ more)) ∙ body_text-append items more ∙ ap (λ (r : List ℕ). body_text items ++ (r ++ 10 ∷ [])) (sym is) in record {
      items = items ++ more;
      rest = [];
      spells = ap (λ (l : List ℕ). quoted_front kind ++ l) text ∙ more_after (quoted_front kind) (body_text items) rest (10 ∷ []) t spells;
      taken = is_item_list-append w items more [] before (and_from _ _ (and_from _ _ grammar refl) (line_feed_stands kind));
      shape = inl refl;
    }

-- a text that begins with the front of the kind, and is open with an LF after it, is not a literal
no_quoted : (kind : StringKind) (t x : List ℕ) → quoted_front kind ++ x ≡ t → IsOpenLine kind t → HasNoDerivation (IsLiteral t)
no_quoted kind t x spells line = elim (quoted_texts_are_decided (quoted_front kind) (switches_of kind) x) [
  | inl q ↦ absurd (open_is_none kind t q.0 (subst (λ (l : List ℕ). IsQuotedLiteral kind l q.0) spells q.1) line)
  | inr e ↦ no_literal kind quoted_start t e.0 (ap dispatch (sym spells) ∙ dispatch_quoted kind x) (ap (string_start kind) (sym spells) ∙ start_quoted kind x)
      (subst (λ (l : List ℕ). IsQuotedLiteralRefusal kind l e.0) spells e.1)
]

pub quoted_is_open : (kind : StringKind) (t : List ℕ) (items : List Item) (rest : List ℕ) → quoted_front kind ++ (body_text items ++ rest) ≡ t →
    is_item_list (switches_of kind) rest items ≡ true → IsOpenEnd (switches_of kind) rest → IsOpenText t
quoted_is_open kind t items rest spells taken shape =
    let line = line_of kind t items rest spells taken shape in (
      no_quoted kind t (body_text items ++ rest) spells line,
      quoted_begins kind (t ++ 10 ∷ []) line.items line.rest line.spells line.taken line.shape,
    )

-- a rest that is shut: with an LF after it, the text does not begin a literal
pub quoted_is_shut : (kind : StringKind) (t : List ℕ) (items : List Item) (rest : List ℕ) → quoted_front kind ++ (body_text items ++ rest) ≡ t →
    is_item_list (switches_of kind) rest items ≡ true → IsShut (switches_of kind) rest → Begins literal_parse (t ++ 10 ∷ []) → ⊥
quoted_is_shut kind t items rest spells taken (e, told, shut) begins =
    let w = switches_of kind in
    let front = quoted_front kind in
    let line : List ℕ = t ++ 10 ∷ [] in
    let x : List ℕ = body_text items ++ (rest ++ 10 ∷ []) in
    let whole : front ++ x ≡ line = more_after front (body_text items) rest (10 ∷ []) t spells in
    let r : Refusal = shifted (byte_len (front ++ body_text items)) e in
    let own : IsQuotedRefusal front w line r = record {
      items = items;
      rest = rest ++ 10 ∷ [];
      cause = e;
      spells = whole;
      taken = quoted_items_stay w rest (10 ∷ []) items taken;
      decided = told;
      placed = refl;
    } in
    let table : IsRefusal literal_parse line r = string_refusal kind quoted_start line r (ap dispatch (sym whole) ∙ dispatch_quoted kind x) (ap (string_start kind) (sym whole) ∙ start_quoted kind x) own in
    both_ways (is_open e.kind) shut ((line_ends_are_decided literal_parse t r table).1 begins)

-- no body continues after its closing quote
pub quote_is_shut : (kind : StringKind) (rest : List ℕ) → first_passes (λ c. c == 34) rest ≡ true → IsShut (switches_of kind) rest
quote_is_shut kind [] h = absurd (false≢true h)
quote_is_shut kind (c ∷ s) h =
    let after : List ℕ = s ++ 10 ∷ [] in
    subst (λ n. IsShut (switches_of kind) (n ∷ s)) (sym (eqb-true c 34 h))
    (at_byte 1 (suffix_kind after), quote_refused kind after (not_suffix s), shut_suffix after)

-- Texts that begin a literal with an LF after them

string_of : (kind : StringKind) (parts : StringParts) (t : List ℕ) → IsLiteral t (a_string_of kind parts) → IsString kind t parts
string_of string_kind parts t lit = lit
string_of byte_string_kind parts t lit = lit
string_of c_string_kind parts t lit = lit

-- an LF after the text does not belong to a front
front_before_line : (front x t : List ℕ) → list_all is_other front ≡ true → front ++ x ≡ t ++ 10 ∷ [] → (y : List ℕ) × (front ++ y ≡ t)
front_before_line [] x t others is = (t, refl)
front_before_line (c ∷ front) x [] others is =
    absurd (let first : 10 ≡ c = cc in false≢true (ap is_other first ∙ (and_parts (is_other c) (list_all is_other front) others).0))
front_before_line (c ∷ front) x (d ∷ t) others is =
    let same : c ≡ d = cc in
    let found = front_before_line front x t (and_parts (is_other c) (list_all is_other front) others).1 (ap (drop 1) is) in
    (found.0, ap (λ l. c ∷ l) found.1 ∙ ap (λ n. n ∷ t) same)

-- nor is it the last character before a body
body_before_line : (a : List ℕ) (c : ℕ) (body x : List ℕ) → (c ≡ 10 → ⊥) → a ++ c ∷ body ≡ x ++ 10 ∷ [] →
    (b : List ℕ) × (body ≡ b ++ 10 ∷ []) × (a ++ c ∷ b ≡ x)
body_before_line [] c body [] other is = absurd (other (let first : c ≡ 10 = cc in first))
body_before_line [] c body (d ∷ x) other is = let same : c ≡ d = cc in (x, ap (drop 1) is, ap (λ n. n ∷ x) same)
body_before_line (h ∷ a) c body [] other is = absurd (no_end a c body (ap (drop 1) is))
body_before_line (h ∷ a) c body (d ∷ x) other is =
    let same : h ≡ d = cc in
    let found = body_before_line a c body x other (ap (drop 1) is) in
    (found.0, found.1, ap (λ l. h ∷ l) found.2 ∙ ap (λ n. n ∷ x) same)

-- after the front of a raw string of the kind: hashes, the opening quote and a body that is not closed
record IsOpenRaw (kind : StringKind) (x : List ℕ) : Type 0 where
  hash_count : ℕ
  body : List ℕ
  spells : hashes hash_count ++ 34 ∷ body ≡ x
  few : hash_count ≤ 255
  grammar : IsRawBody (has_unicode kind) (allows_nul kind) hash_count body

-- the text begins with the front of a quoted string, or is a raw string that is not closed
abbrev BeginsString : StringKind → List ℕ → Type 0
BeginsString kind t =
    ((y : List ℕ) × (quoted_front kind ++ y ≡ t)) ⊎ ((x : List ℕ) × (raw_front kind ++ x ≡ t) × IsOpenRaw kind x)

-- hashes do not reach past LF
hashes_before_line : (n : ℕ) (s t : List ℕ) → begins_with (hashes n) (s ++ 10 ∷ t) ≡ begins_with (hashes n) s
hashes_before_line zero s t = refl
hashes_before_line (suc n) [] t = refl
hashes_before_line (suc n) (c ∷ s) t = ap (λ v. (35 == c) && v) (hashes_before_line n s t)

-- nor does a closing
pub none_over_line : (n : ℕ) (s t : List ℕ) → occurs (raw_closing n) s ≡ false → occurs (raw_closing n) t ≡ false → occurs (raw_closing n) (s ++ 10 ∷ t) ≡ false
none_over_line n [] t none later = later
none_over_line n (c ∷ s) t none later =
    let parts : (begins_with (raw_closing n) (c ∷ s) ≡ false) × (occurs (raw_closing n) s ≡ false) = or_parts _ _ none in
    or_from _ _ (ap (λ v. (34 == c) && v) (hashes_before_line n s t) ∙ parts.0) (none_over_line n s t parts.1 later)

-- a body with an LF after it has a closing only if it has one before
closing_before_line : (n : ℕ) (s : List ℕ) → occurs (raw_closing n) (s ++ 10 ∷ []) ≡ occurs (raw_closing n) s
closing_before_line n [] = refl
closing_before_line n (c ∷ s) =
    ap (λ v. ((34 == c) && v) || occurs (raw_closing n) (s ++ 10 ∷ [])) (hashes_before_line n s [])
    ∙ ap (λ v. begins_with (raw_closing n) (c ∷ s) || v) (closing_before_line n s)

raw_before_line : (kind : StringKind) (n : ℕ) (b : List ℕ) → IsRawBody (has_unicode kind) (allows_nul kind) n (b ++ 10 ∷ []) → IsRawBody (has_unicode kind) (allows_nul kind) n b
raw_before_line kind n b g =
    let p = is_raw_char (has_unicode kind) (allows_nul kind) in record {
      allowed = (and_parts (list_all p b) (list_all p (10 ∷ [])) (sym (all-append p b (10 ∷ [])) ∙ g.allowed)).0;
      unclosed = sym (closing_before_line n b) ∙ g.unclosed;
    }

-- a later part of a raw body is a raw body
later_unclosed : (part a b : List ℕ) → occurs part (a ++ b) ≡ false → occurs part b ≡ false
later_unclosed part [] b none = none
later_unclosed part (c ∷ a) b none = later_unclosed part a b (or_parts (begins_with part (c ∷ (a ++ b))) _ none).1

raw_later : (kind : StringKind) (n : ℕ) (a b : List ℕ) → IsRawBody (has_unicode kind) (allows_nul kind) n (a ++ b) → IsRawBody (has_unicode kind) (allows_nul kind) n b
raw_later kind n a b g =
    let p = is_raw_char (has_unicode kind) (allows_nul kind) in record {
      allowed = (and_parts (list_all p a) (list_all p b) (sym (all-append p a b) ∙ g.allowed)).1;
      unclosed = later_unclosed (raw_closing n) a b g.unclosed;
    }

-- an LF after a raw string without its closing belongs to the body
raw_front_begins : (kind : StringKind) (d : RawParts) (t front body : List ℕ) → raw_front kind ++ front ≡ t → d.body ≡ body ++ 10 ∷ [] → hashes d.hash_count ++ 34 ∷ body ≡ front →
    d.hash_count ≤ 255 → IsRawBody (has_unicode kind) (allows_nul kind) d.hash_count d.body → BeginsString kind t
raw_front_begins kind d t front body opening line spells few is =
    inr (
      front,
      opening,
      record {
        hash_count = d.hash_count;
        body = body;
        spells = spells;
        few = few;
        grammar = raw_before_line kind d.hash_count body (subst (IsRawBody (has_unicode kind) (allows_nul kind) d.hash_count) line is);
      },
    )

by_parts : (kind : StringKind) (parts : StringParts) (t closing : List ℕ) → opening_text kind parts ++ written_body parts ≡ t ++ 10 ∷ [] →
    IsString kind ((t ++ 10 ∷ []) ++ closing) parts → BeginsString kind t
by_parts kind (quoted_parts d) t closing is lit = inl (front_before_line (quoted_front kind) (body_text d.items) t (quoted_other kind) is)
by_parts kind (raw_parts d) t closing is lit =
    let n = d.hash_count in
    let whole : raw_front kind ++ (hashes n ++ 34 ∷ d.body) ≡ t ++ 10 ∷ [] =
    ap (λ l. raw_front kind ++ l) (sym (append_assoc (hashes n) (34 ∷ []) d.body)) ∙ sym (append_assoc (raw_front kind) (hashes n ++ 34 ∷ []) d.body) ∙ is in
    let front = front_before_line (raw_front kind) (hashes n ++ 34 ∷ d.body) t (raw_other kind) whole in
    let line : hashes n ++ 34 ∷ d.body ≡ front.0 ++ 10 ∷ [] =
    append_cancel_left (raw_front kind) _ _ (whole ∙ ap (λ l. l ++ 10 ∷ []) (sym front.1) ∙ append_assoc (raw_front kind) front.0 (10 ∷ [])) in
    let cut = body_before_line (hashes n) 34 d.body front.0 (λ e. cc) line in
    raw_front_begins kind d t front.0 cut.0 front.1 cut.1 cut.2 lit.grammar.hash_count lit.grammar.body

-- The closing of a text that ends with LF makes it a string, of which the text has the opening.
string_begins : (t : List ℕ) → Begins literal_parse (t ++ 10 ∷ []) → (kind : StringKind) × BeginsString kind t
string_begins t begins = elim (texts_are_decided literal_parse (t ++ 10 ∷ [])) [
  | inl d ↦ absurd (no_literal_ends_with_line_feed t d.0 d.1)
  | inr e ↦ (let closed = open_refusals_close literal_parse (t ++ 10 ∷ []) e.0 e.1 ((line_ends_are_decided literal_parse t e.0 e.1).1 begins) in
      let closing = closing_of (t ++ 10 ∷ []) e.0 in
      (closed.kind, by_parts closed.kind closed.parts t closing closed.body (string_of closed.kind closed.parts ((t ++ 10 ∷ []) ++ closing) closed.literal)))
]

-- a text that is not parsed as a string of any kind
pub other_is_shut : (t : List ℕ) (o : Dispatch) → o ≡ dispatch t → ((kind : StringKind) → o ≡ parsed_as (string_literal_of kind) → ⊥) →
    Begins literal_parse (t ++ 10 ∷ []) → ⊥
other_is_shut t o named other begins =
    let s = string_begins t begins in
    elim (s.1) [
      | inl quoted ↦ other s.0 (named ∙ ap dispatch (sym quoted.1) ∙ dispatch_quoted s.0 quoted.0)
      | inr raw ↦ other s.0 (named ∙ ap dispatch (sym raw.1) ∙ dispatch_raw s.0 raw.0)
    ]

pub no_string : (k : LiteralKind) → ((kind : StringKind) → k ≡ string_literal_of kind → ⊥) → (kind : StringKind) → parsed_as k ≡ parsed_as (string_literal_of kind) → ⊥
no_string k other kind is = other kind (let same : k ≡ string_literal_of kind = cc in same)

pub no_bool : (kind : StringKind) → bool_literal ≡ string_literal_of kind → ⊥
no_bool string_kind is = cc
no_bool byte_string_kind is = cc
no_bool c_string_kind is = cc

pub no_char : (kind : StringKind) → char_literal ≡ string_literal_of kind → ⊥
no_char string_kind is = cc
no_char byte_string_kind is = cc
no_char c_string_kind is = cc

pub no_byte : (kind : StringKind) → byte_literal ≡ string_literal_of kind → ⊥
no_byte string_kind is = cc
no_byte byte_string_kind is = cc
no_byte c_string_kind is = cc

no_integer : (kind : StringKind) → integer_literal ≡ string_literal_of kind → ⊥
no_integer string_kind is = cc
no_integer byte_string_kind is = cc
no_integer c_string_kind is = cc

no_float : (kind : StringKind) → float_literal ≡ string_literal_of kind → ⊥
no_float string_kind is = cc
no_float byte_string_kind is = cc
no_float c_string_kind is = cc

pub number_is_shut : (t : List ℕ) (float : Bool) → (if float then parsed_as float_literal else parsed_as integer_literal) ≡ dispatch t → Begins literal_parse (t ++ 10 ∷ []) → ⊥
number_is_shut t true row = other_is_shut t (parsed_as float_literal) row (no_string float_literal no_float)
number_is_shut t false row = other_is_shut t (parsed_as integer_literal) row (no_string integer_literal no_integer)

-- a word, or a text that begins with `c` and with neither front of a C string
c_front : (kind : StringKind) (t : List ℕ) → BeginsString kind t → c_string_literal ≡ string_literal_of kind →
    begins_with (codes "c\"") t ≡ false → begins_with (codes "cr") t ≡ false → ⊥
c_front string_kind t begins is quote raw = cc
c_front byte_string_kind t begins is quote raw = cc
c_front c_string_kind t (inl (y, front)) is quote raw = both_ways (begins_with (codes "c\"") t) quote (ap (begins_with (codes "c\"")) (sym front))
c_front c_string_kind t (inr (x, front, body)) is quote raw = both_ways (begins_with (codes "cr") t) raw (ap (begins_with (codes "cr")) (sym front))

pub word_is_shut : (t : List ℕ) (c : Bool) (r : Refusal) → (if c then parsed_as c_string_literal else refused_as r) ≡ dispatch t →
    begins_with (codes "c\"") t ≡ false → begins_with (codes "cr") t ≡ false → Begins literal_parse (t ++ 10 ∷ []) → ⊥
word_is_shut t false r row quote raw begins = other_is_shut t (refused_as r) row (λ kind is. cc) begins
word_is_shut t true r row quote raw begins =
    let s = string_begins t begins in
    let same : parsed_as c_string_literal ≡ parsed_as (string_literal_of s.0) = row ∙ named s.0 s.1 in
    c_front s.0 t s.1 (let kind : c_string_literal ≡ string_literal_of s.0 = cc in kind) quote raw
  where
    named : (kind : StringKind) → BeginsString kind t → dispatch t ≡ parsed_as (string_literal_of kind)
    named kind (inl (y, front)) = ap dispatch (sym front) ∙ dispatch_quoted kind y
    named kind (inr (x, front, body)) = ap dispatch (sym front) ∙ dispatch_raw kind x

-- the fronts are different
no_both : (a b : StringKind) (x y : List ℕ) → quoted_front a ++ x ≡ raw_front b ++ y → ⊥
no_both string_kind string_kind x y is = false≢true (ap (begins_with (raw_front string_kind)) is)
no_both string_kind byte_string_kind x y is = false≢true (ap (begins_with (raw_front byte_string_kind)) is)
no_both string_kind c_string_kind x y is = false≢true (ap (begins_with (raw_front c_string_kind)) is)
no_both byte_string_kind string_kind x y is = false≢true (ap (begins_with (raw_front string_kind)) is)
no_both byte_string_kind byte_string_kind x y is = false≢true (ap (begins_with (raw_front byte_string_kind)) is)
no_both byte_string_kind c_string_kind x y is = false≢true (ap (begins_with (raw_front c_string_kind)) is)
no_both c_string_kind string_kind x y is = false≢true (ap (begins_with (raw_front string_kind)) is)
no_both c_string_kind byte_string_kind x y is = false≢true (ap (begins_with (raw_front byte_string_kind)) is)
no_both c_string_kind c_string_kind x y is = false≢true (ap (begins_with (raw_front c_string_kind)) is)

same_raw : (a b : StringKind) (x y : List ℕ) → raw_front a ++ x ≡ raw_front b ++ y → IsOpenRaw a x → IsOpenRaw b y
same_raw string_kind string_kind x y is body = subst (IsOpenRaw string_kind) (ap (drop 1) is) body
same_raw string_kind byte_string_kind x y is body = absurd (false≢true (ap (begins_with (raw_front byte_string_kind)) is))
same_raw string_kind c_string_kind x y is body = absurd (false≢true (ap (begins_with (raw_front c_string_kind)) is))
same_raw byte_string_kind string_kind x y is body = absurd (false≢true (ap (begins_with (raw_front string_kind)) is))
same_raw byte_string_kind byte_string_kind x y is body = subst (IsOpenRaw byte_string_kind) (ap (drop 2) is) body
same_raw byte_string_kind c_string_kind x y is body = absurd (false≢true (ap (begins_with (raw_front c_string_kind)) is))
same_raw c_string_kind string_kind x y is body = absurd (false≢true (ap (begins_with (raw_front string_kind)) is))
same_raw c_string_kind byte_string_kind x y is body = absurd (false≢true (ap (begins_with (raw_front byte_string_kind)) is))
same_raw c_string_kind c_string_kind x y is body = subst (IsOpenRaw c_string_kind) (ap (drop 2) is) body

raw_begins : (kind : StringKind) (x t : List ℕ) → raw_front kind ++ x ≡ t → Begins literal_parse (t ++ 10 ∷ []) → IsOpenRaw kind x
raw_begins kind x t spells begins =
    let s = string_begins t begins in
    elim (s.1) [
      | inl quoted ↦ absurd (no_both s.0 kind quoted.0 x (quoted.1 ∙ sym spells))
      | inr raw ↦ same_raw s.0 kind raw.0 x (raw.1 ∙ sym spells) raw.2
    ]

-- Raw strings

raw_refused : (kind : StringKind) (n : ℕ) (body : List ℕ) → n ≤ 255 → IsRawBody (has_unicode kind) (allows_nul kind) n body →
    raw_refusal (has_unicode kind) (allows_nul kind) (length (raw_front kind)) (hashes n ++ 34 ∷ body) ≡ Some (without_span UnterminatedRawString)
raw_refused kind n body few grammar =
    let start = length (raw_front kind) in
    rows_of (has_unicode kind) (allows_nul kind) start n 34 body refl
    ∙ (λ j. raw_rows start n (unclosed_refusal (has_unicode kind) (allows_nul kind) n (start + (n + 1)) body grammar j) false (le-ltb 255 n few j) true)

closed_text : (front marks body closing t : List ℕ) → front ++ (marks ++ 34 ∷ body) ≡ t →
    front ++ (marks ++ 34 ∷ ((body ++ 10 ∷ []) ++ (closing ++ []))) ≡ (t ++ 10 ∷ []) ++ closing
closed_text front marks body closing t spells =
    ap (λ l. front ++ (marks ++ 34 ∷ ((body ++ 10 ∷ []) ++ l))) (append-nil closing)
    ∙ ap (λ l. front ++ l) (sym (append_assoc marks (34 ∷ (body ++ 10 ∷ [])) closing))
    ∙ ap (λ l. front ++ (l ++ closing)) (sym (append_assoc marks (34 ∷ body) (10 ∷ [])))
    ∙ sym (append_assoc front ((marks ++ 34 ∷ body) ++ 10 ∷ []) closing)
    ∙ ap (λ l. l ++ closing) (sym (append_assoc front (marks ++ 34 ∷ body) (10 ∷ [])))
    ∙ ap (λ l. (l ++ 10 ∷ []) ++ closing) spells

line_allowed : (kind : StringKind) → is_raw_char (has_unicode kind) (allows_nul kind) 10 ≡ true
line_allowed string_kind = refl
line_allowed byte_string_kind = refl
line_allowed c_string_kind = refl

pub line_in_body : (kind : StringKind) (body : List ℕ) → list_all (is_raw_char (has_unicode kind) (allows_nul kind)) body ≡ true →
    list_all (is_raw_char (has_unicode kind) (allows_nul kind)) (body ++ 10 ∷ []) ≡ true
line_in_body kind body all = list_all-append (is_raw_char (has_unicode kind) (allows_nul kind)) body (10 ∷ []) all (and_from _ _ (line_allowed kind) refl)

pub raw_is_open : (kind : StringKind) (n : ℕ) (t body : List ℕ) → n ≤ 255 → raw_front kind ++ (hashes n ++ 34 ∷ body) ≡ t →
    IsRawBody (has_unicode kind) (allows_nul kind) n body → IsOpenText t
raw_is_open kind n t body few spells grammar =
    let after : drop (length (raw_front kind)) t ≡ hashes n ++ 34 ∷ body = ap (drop (length (raw_front kind))) (sym spells) ∙ drop_at (raw_front kind) _ (length (raw_front kind)) refl in
    let longer : IsRawBody (has_unicode kind) (allows_nul kind) n (body ++ 10 ∷ []) =
    record { allowed = line_in_body kind body grammar.allowed; unclosed = none_over_line n body [] grammar.unclosed refl } in
    let parts : RawParts = record { hash_count = n; body = body ++ 10 ∷ []; suffix = [] } in (
      no_literal kind raw_start t (without_span UnterminatedRawString) (ap dispatch (sym spells) ∙ dispatch_raw kind _) (ap (string_start kind) (sym spells) ∙ start_raw kind _)
          (ap (raw_refusal (has_unicode kind) (allows_nul kind) (length (raw_front kind))) after ∙ raw_refused kind n body few grammar),
      begins_literal kind (t ++ 10 ∷ []) (
        raw_closing n,
        raw_parts parts,
        closing_is_text n,
        record { spells = closed_text (raw_front kind) (hashes n) body (raw_closing n) t spells; grammar = record { hash_count = few; body = longer; suffix = is_suffix-nil } },
      ),
    )

-- a raw string is shut by a refusal of what follows its front that is not open
pub opening_is_shut : (kind : StringKind) (x t : List ℕ) (e : Refusal) → raw_front kind ++ x ≡ t →
    raw_refusal (has_unicode kind) (allows_nul kind) (length (raw_front kind)) x ≡ Some e → is_open e.kind ≡ false → Begins literal_parse (t ++ 10 ∷ []) → ⊥
opening_is_shut kind x t e spells told shut begins =
    let r = raw_begins kind x t spells begins in
    let table : raw_refusal (has_unicode kind) (allows_nul kind) (length (raw_front kind)) x ≡ Some (without_span UnterminatedRawString) =
    ap (raw_refusal (has_unicode kind) (allows_nul kind) (length (raw_front kind))) (sym r.spells) ∙ raw_refused kind r.hash_count r.body r.few r.grammar in
    let both : Some (without_span UnterminatedRawString) ≡ Some e = sym table ∙ told in
    let same : without_span UnterminatedRawString ≡ e = cc in
    both_ways (is_open e.kind) shut (ap (λ k. is_open k.kind) (sym same))

-- and by a body that is closed before its end, or has a character that is not allowed
pub raw_is_shut : (kind : StringKind) (n start : ℕ) (front rest t : List ℕ) → raw_front kind ++ (hashes n ++ 34 ∷ (front ++ rest)) ≡ t →
    (raw_body_refusal (has_unicode kind) (allows_nul kind) n start rest ≡ Some (without_span UnterminatedRawString) → ⊥) → Begins literal_parse (t ++ 10 ∷ []) → ⊥
raw_is_shut kind n start front rest t spells closed begins =
    let u = has_unicode kind in
    let a = allows_nul kind in
    let r = raw_begins kind (hashes n ++ 34 ∷ (front ++ rest)) t spells begins in
    let count : r.hash_count ≡ n =
    sym (hash_len-append r.hash_count (34 ∷ r.body) refl) ∙ ap hash_len r.spells ∙ hash_len-append n (34 ∷ (front ++ rest)) refl in
    let body : r.body ≡ front ++ rest = ap (drop 1) (append_cancel_left (hashes n) _ _ (ap (λ k. hashes k ++ 34 ∷ r.body) (sym count) ∙ r.spells)) in
    let grammar : IsRawBody u a n (front ++ rest) = subst (IsRawBody u a n) body (subst (λ k. IsRawBody u a k r.body) count r.grammar) in
    closed (unclosed_refusal u a n start rest (raw_later kind n front rest grammar))
