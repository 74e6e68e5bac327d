-- The string that a text begins, by its bytes: it stays open with more bytes after them, and over a line.
use Rattle.std.proofs.Common.{◌≡◌, ◌∙◌, inl, inr, ℕ, zero, suc, ◌+◌, ◌≤◌, ◌<◌, Bool, true, false, List, [], ◌∷◌, ◌++◌, length, take, drop, Option, Some, None, refl, sym, ap, subst, append_assoc, append-nil, arith}
use Rattle.std.specs.Prelude.{◌==◌, if◌then◌else◌}
use Rattle.std.specs.List.{list_all, prefix_len}
use Rattle.std.specs.Str.{chars, IsUtf8, IsCharBoundary}
use Rattle.std.proofs.Math.Seq.{take-length, drop-length}
use Rattle.std.proofs.lemmas.Bool.{and_from, ne_eqb, not_from_false, cases_lt, false≢true}
use Rattle.std.proofs.lemmas.List.{take-append-le, drop-append-le, take-append-drop, length-take-le, length-append, length-drop, drop-drop, append_cancel_left, append_cancel_right, take_at, at_drop_all}
use Rattle.std.proofs.lemmas.Str.{chars-append, chars-nil, IsUtf8-append, IsUtf8-drop, IsUtf8-from_ascii, IsCharBoundary-at_seam, IsCharBoundary-end, IsCharBoundary-from_drop}
use Rattle.litrs_base.specs.Characters.{is_blank}
use Rattle.litrs_base.specs.Text.{is_empty, first_passes, begins_with}
use Rattle.litrs_base.proofs.Begins.{begins_with-split}
use Rattle.litrs_base.proofs.Chars.{ascii_by_test, chars_empty, first_passes-chars, passing_front, prefix_len-chars}
use Rattle.litrs_base.proofs.Runs.{list_all-append, list_all-take_while}
use Rattle.litrs_base.proofs.Spans.{is_ascii_char}
use Rattle.litrs_base.specs.declared.quotes.StringKind.{StringKind}
use Rattle.litrs_base.specs.declared.quotes.StringKind.TheVariants.{String as string_kind, ByteString as byte_string_kind, CString as c_string_kind}
use Rattle.litrs_base.specs.Quotes.{switches_of, quoted_front, raw_front}
use Rattle.litrs_base.specs.declared.quotes.Switches.{Switches}
use Rattle.litrs_grammar.specs.Quoted.{Item, continuation, body_text, is_item_list}
use Rattle.litrs_base.specs.Finality.{is_open}
use Rattle.litrs_base.specs.Refusal.{Refusal, without_span, at_byte}
use Rattle.litrs_base.specs.declared.err.ParseErrorKind.TheVariants.{CarriageReturn, NulByte, NonAsciiInByteLiteral, UnterminatedRawString}
use Rattle.litrs_grammar.specs.Suffix.{is_suffix, suffix_kind}
use Rattle.litrs_grammar.specs.Raw.{is_quote, is_nul, raw_char_kind, hashes, hash_len, occurs, raw_closing, has_unicode, allows_nul, is_raw_char, raw_body_refusal, raw_refusal}
use Rattle.litrs_grammar.specs.Laws.Raw.{NoClosingIn}
use Rattle.litrs_grammar.proofs.Laws.Quoted.{body_text-append}
use Rattle.litrs_grammar.proofs.RawCuts.{HashCut, hash_cut, hash_len-append, after_hashes, length-hashes}
use Rattle.litrs_grammar.proofs.RawScans.{raw_scans_go_on}
use Rattle.litrs_grammar.proofs.LineFeeds.{is_other, escape_other}
use Rattle.litrs_grammar.proofs.LongerTexts.OpenRows.{is_open_row, shut_suffix, shut_kind_if}
use Rattle.litrs_grammar.proofs.LongerTexts.Quoted.{quoted_items_stay}
use Rattle.litrs_lex.proofs.FloatBytes.{chars_after}
use Rattle.litrs_lex.specs.Reading.{IsItemsEnd}
use Rattle.litrs_lex.specs.RawCut.{IsStop, IsRawOpening}
use Rattle.litrs_grammar.proofs.Laws.Integer.{first_passes-rest}
use Rattle.litrs_lex.proofs.QuotedBytes.{blank_ascii}
use Rattle.litrs_lex.proofs.RawBytes.{closing_at, refused_body, suffix_refused, body_cut}
use Rattle.litrs.proofs.Fronts.{front_chars}
use Rattle.litrs_lex.proofs.QuotedScan.{front_splits, is_item_list-append}
use Rattle.litrs_lex.proofs.StringFronts.{quoted_boundary, quoted_before, raw_low}
use Rattle.litrs_lines.specs.declared.collector.body.Body.{Body}
use Rattle.litrs_lines.specs.declared.collector.body.Body.TheVariants.{Quoted, Continuation, Raw}
use Rattle.litrs_lines.specs.declared.collector.body.Open.{Open}
use Rattle.litrs_lex.specs.BodyStop.{IsShut, EndsWithin}
use Rattle.litrs_lex.specs.declared.body_stop.Within.TheVariants.{Escape, Continuation as Continued}
use Rattle.litrs_lines.specs.Open.{IsAfter, IsInLastLine, IsReadToLastLine, IsQuotedTo, IsContinuedTo, IsRawTo, IsBodyTo, IsOpen, IsKnown}
use Rattle.litrs_lines.specs.Steps.{BeginsByLine}
use Rattle.litrs_lines.proofs.StepLemmas.{chars-line_feed}
use Rattle.litrs_lines.proofs.OpenTexts.{IsOpenText, IsOpenEnd, more_after, quoted_is_open, quoted_is_shut, quote_is_shut, none_over_line, line_in_body, raw_is_open, raw_is_shut, opening_is_shut}

-- A longer text

stays_boundary : (bytes more : List ℕ) (place : ℕ) → IsUtf8 bytes → IsUtf8 more → IsCharBoundary bytes place → IsCharBoundary (bytes ++ more) place
stays_boundary bytes more place u v at =
    let rest : IsUtf8 (drop place bytes ++ more) = IsUtf8-append _ _ (IsUtf8-drop bytes place u at) v in
    let is : bytes ++ more ≡ take place bytes ++ (drop place bytes ++ more) =
    ap (λ (l : List ℕ). l ++ more) (sym (take-append-drop place bytes)) ∙ append_assoc (take place bytes) (drop place bytes) more in
    subst (λ (n : ℕ). IsCharBoundary (bytes ++ more) n) (length-take-le place bytes at.0) (IsCharBoundary-at_seam (bytes ++ more) (take place bytes) (drop place bytes ++ more) is rest)

stays_front : (bytes more : List ℕ) (place : ℕ) → place ≤ length bytes → chars (take place bytes) ≡ chars (take place (bytes ++ more))
stays_front bytes more place within = ap chars (sym (take-append-le place bytes more within))

stays_rest : (bytes more : List ℕ) (place : ℕ) → IsUtf8 bytes → IsCharBoundary bytes place → chars (drop place (bytes ++ more)) ≡ chars (drop place bytes) ++ chars more
stays_rest bytes more place u at = ap chars (drop-append-le place bytes more at.0) ∙ chars-append (drop place bytes) more (IsUtf8-drop bytes place u at)

quoted_stays : (kind : StringKind) (place : ℕ) (bytes more : List ℕ) → IsUtf8 bytes → IsUtf8 more → IsQuotedTo kind place bytes → IsQuotedTo kind place (bytes ++ more)
quoted_stays kind place bytes more u v s = record {
  boundary = stays_boundary bytes more place u v s.boundary;
  items = s.items;
  spells = s.spells ∙ stays_front bytes more place s.boundary.0;
  taken = subst (λ (r : List ℕ). is_item_list (switches_of kind) r s.items ≡ true) (sym (stays_rest bytes more place u s.boundary))
      (quoted_items_stay (switches_of kind) (chars (drop place bytes)) (chars more) s.items s.taken);
}

continued_stays : (kind : StringKind) (place : ℕ) (bytes more : List ℕ) → IsUtf8 bytes → IsUtf8 more → IsContinuedTo kind place bytes → IsContinuedTo kind place (bytes ++ more)
continued_stays kind place bytes more u v s = record {
  boundary = stays_boundary bytes more place u v s.boundary;
  items = s.items;
  blanks = s.blanks;
  spells = s.spells ∙ stays_front bytes more place s.boundary.0;
  taken = s.taken;
  blank = s.blank;
}

raw_stays : (kind : StringKind) (n place : ℕ) (bytes more : List ℕ) → IsUtf8 bytes → IsUtf8 more → IsRawTo kind n place bytes → IsRawTo kind n place (bytes ++ more)
raw_stays kind n place bytes more u v s = record {
  boundary = stays_boundary bytes more place u v s.boundary;
  few = s.few;
  body = s.body;
  spells = s.spells ∙ stays_front bytes more place s.boundary.0;
  allowed = s.allowed;
  unclosed = s.unclosed;
}

body_stays : (body : Body) (kind : StringKind) (place : ℕ) (bytes more : List ℕ) → IsUtf8 bytes → IsUtf8 more → IsBodyTo body kind place bytes → IsBodyTo body kind place (bytes ++ more)
body_stays Quoted kind place bytes more u v s = quoted_stays kind place bytes more u v s
body_stays Continuation kind place bytes more u v s = continued_stays kind place bytes more u v s
body_stays (Raw n) kind place bytes more u v s = raw_stays kind n place bytes more u v s

pub open_stays : (string : Open) (bytes more : List ℕ) → IsUtf8 bytes → IsUtf8 more → IsOpen bytes string → IsOpen (bytes ++ more) string
open_stays string bytes more u v s = body_stays string.body string.kind string.place bytes more u v s

pub known_stays : (known : Option Open) (bytes more : List ℕ) → IsUtf8 bytes → IsUtf8 more → IsKnown bytes known → IsKnown (bytes ++ more) known
known_stays None bytes more u v s = tt
known_stays (Some string) bytes more u v s = open_stays string bytes more u v s

-- and of the lines that are held
pub known_of_held : (held : List ℕ) (known : Option Open) → IsReadToLastLine held known → IsKnown held known
known_of_held held None none = tt
known_of_held held (Some string) read = read.0

-- A line

line_utf8 : IsUtf8 (10 ∷ [])
line_utf8 = IsUtf8-from_ascii (10 ∷ []) (ascii_by_test (10 ∷ []) refl)

-- all of a text and the LF after it
line_end : (bytes : List ℕ) (n : ℕ) → n ≡ length bytes → IsUtf8 bytes → chars (take (n + 1) (bytes ++ 10 ∷ [])) ≡ chars bytes ++ 10 ∷ []
line_end bytes n is u =
    let size : n + 1 ≡ length (bytes ++ 10 ∷ []) = omega (arith, is, length-append bytes (10 ∷ [])) in
    ap (λ (k : ℕ). chars (take k (bytes ++ 10 ∷ []))) size ∙ ap chars (take-length (bytes ++ 10 ∷ []))
    ∙ chars-line_feed bytes u

line_boundary : (bytes : List ℕ) (n : ℕ) → n ≡ length bytes → IsCharBoundary (bytes ++ 10 ∷ []) (n + 1)
line_boundary bytes n is =
    let size : length (bytes ++ 10 ∷ []) ≡ n + 1 = omega (arith, is, length-append bytes (10 ∷ [])) in
    subst (λ (k : ℕ). IsCharBoundary (bytes ++ 10 ∷ []) k) size (IsCharBoundary-end (bytes ++ 10 ∷ []))

-- The switches of the code, and the part of a text that it reads

pub stop_by : (kind : StringKind) (w : Switches) (n place end : ℕ) (bytes seen : List ℕ) → seen ≡ bytes → w ≡ switches_of kind →
    IsStop w.unicode w.allow_nul n place seen end → IsStop (has_unicode kind) (allows_nul kind) n place bytes end
stop_by kind w n place end bytes seen same is stop =
    subst (λ (v : Switches). IsStop v.unicode v.allow_nul n place bytes end) is
    (subst (λ (l : List ℕ). IsStop w.unicode w.allow_nul n place l end) same stop)

pub before_end : (bytes : List ℕ) (place k : ℕ) → place ≤ length bytes → k ≤ length (drop place bytes) → (place + k ≡ length bytes → ⊥) → place + k < length bytes
before_end bytes place k low within other = elim (cases_lt (place + k) (length bytes)) [
  | inl less ↦ less
  | inr more ↦ (let whole : place + k ≡ length bytes = omega (arith, length-drop place bytes) in absurd (other whole))
]

-- Quoted bodies

-- the items that are read in a line are items of the body
pub quoted_reads : (kind : StringKind) (place end : ℕ) (bytes : List ℕ) (h : List ℕ → Type 0) → IsUtf8 bytes → IsQuotedTo kind place bytes →
    IsItemsEnd (switches_of kind) bytes place h end → IsQuotedTo kind end bytes
quoted_reads kind place end bytes h u s ended =
    let w = switches_of kind in
    let read = ended.read in
    let rest : List ℕ = chars (drop end bytes) in
    let whole = front_splits bytes place u s.boundary in
    let cut = front_splits bytes end u read.boundary in
    let after : chars (drop place bytes) ≡ body_text read.items ++ rest = append_cancel_left (chars (take place bytes)) _ _ (whole.0 ∙ sym read.spells) in
    let before : chars (take place bytes) ++ body_text read.items ≡ chars (take end bytes) =
    append_cancel_right _ _ rest (append_assoc (chars (take place bytes)) (body_text read.items) rest ∙ read.spells ∙ sym cut.0) in record {
      boundary = read.boundary;
      items = s.items ++ read.items;
      spells = ap (λ (l : List ℕ). quoted_front kind ++ l) (body_text-append s.items read.items)
          ∙ sym (append_assoc (quoted_front kind) (body_text s.items) (body_text read.items))
          ∙ ap (λ (l : List ℕ). l ++ body_text read.items) s.spells ∙ before;
      taken = is_item_list-append w s.items read.items rest (subst (λ (r : List ℕ). is_item_list w r s.items ≡ true) after s.taken) read.taken;
    }

-- the whole text, by its items and the rest
quoted_whole : (kind : StringKind) (place : ℕ) (bytes : List ℕ) → IsUtf8 bytes → (s : IsQuotedTo kind place bytes) →
    quoted_front kind ++ (body_text s.items ++ chars (drop place bytes)) ≡ chars bytes
quoted_whole kind place bytes u s =
    sym (append_assoc (quoted_front kind) (body_text s.items) (chars (drop place bytes))) ∙ ap (λ (l : List ℕ). l ++ chars (drop place bytes)) s.spells
    ∙ (front_splits bytes place u s.boundary).0

pub quoted_unfinished : (kind : StringKind) (place : ℕ) (bytes : List ℕ) → IsUtf8 bytes → IsQuotedTo kind place bytes → IsOpenEnd (switches_of kind) (chars (drop place bytes)) → IsOpenText (chars bytes)
quoted_unfinished kind place bytes u s shape =
    quoted_is_open kind (chars bytes) s.items (chars (drop place bytes)) (quoted_whole kind place bytes u s) s.taken shape

pub quoted_next : (kind : StringKind) (place : ℕ) (bytes : List ℕ) → IsUtf8 bytes → IsQuotedTo kind place bytes → IsQuotedTo kind place (bytes ++ 10 ∷ [])
quoted_next kind place bytes u s = quoted_stays kind place bytes (10 ∷ []) u line_utf8 s

-- a continuation that ends a line continues in the next, even if it is a backslash alone
continuation_next : (kind : StringKind) (place n : ℕ) (bytes more blanks : List ℕ) → IsUtf8 bytes → n ≡ length bytes → IsQuotedTo kind place bytes → chars (drop place bytes) ≡ 92 ∷ more →
    more ++ 10 ∷ [] ≡ 10 ∷ blanks → list_all is_blank blanks ≡ true → IsContinuedTo kind (n + 1) (bytes ++ 10 ∷ [])
continuation_next kind place n bytes more blanks u size s rest line all =
    let w = switches_of kind in
    let whole : quoted_front kind ++ (body_text s.items ++ 92 ∷ more) ≡ chars bytes = subst (λ (r : List ℕ). quoted_front kind ++ (body_text s.items ++ r) ≡ chars bytes) rest (quoted_whole kind place bytes u s) in
    let longer : 92 ∷ (more ++ 10 ∷ []) ≡ 92 ∷ 10 ∷ blanks = ap (λ l. 92 ∷ l) line in record {
      boundary = line_boundary bytes n size;
      items = s.items;
      blanks = blanks;
      spells = ap (λ (l : List ℕ). quoted_front kind ++ (body_text s.items ++ l)) (sym longer)
          ∙ more_after (quoted_front kind) (body_text s.items) (92 ∷ more) (10 ∷ []) (chars bytes) whole ∙ sym (line_end bytes n size u);
      taken = subst (λ (r : List ℕ). is_item_list w r s.items ≡ true) longer
          (quoted_items_stay w (92 ∷ more) (10 ∷ []) s.items (subst (λ (r : List ℕ). is_item_list w r s.items ≡ true) rest s.taken));
      blank = all;
    }

-- nothing follows the LF after the text
pub past_end : (n : ℕ) (bytes : List ℕ) → n ≡ length bytes → IsInLastLine (n + 1) bytes
past_end n bytes size = at_drop_all (λ (l : List ℕ). list_all is_other (chars l)) bytes (n + 1) (omega (arith, size)) ∙ ap (list_all is_other) chars-nil

-- The string that is open after the text, by what ends its items

-- the text ends between two items, or with an escape
pub items_after : (kind : StringKind) (place : ℕ) (bytes : List ℕ) → IsUtf8 bytes → IsQuotedTo kind place bytes → chars (drop place bytes) ≡ [] →
    IsAfter bytes (Some (record { kind = kind; body = Quoted; place = place }))
items_after kind place bytes u s none = (quoted_unfinished kind place bytes u s (inl (inl none)), quoted_next kind place bytes u s, ap (list_all is_other) none)

pub escape_after : (kind : StringKind) (place : ℕ) (bytes : List ℕ) → IsUtf8 bytes → IsQuotedTo kind place bytes → EndsWithin (switches_of kind) Escape (chars (drop place bytes)) →
    IsAfter bytes (Some (record { kind = kind; body = Quoted; place = place }))
escape_after kind place bytes u s (e, is, grammar) = (
  quoted_unfinished kind place bytes u s (inr (inr (e, is, grammar))),
  quoted_next kind place bytes u s,
  ap (list_all is_other) is ∙ escape_other (switches_of kind) e grammar,
)

-- or within a continuation
pub slash_after : (kind : StringKind) (place n : ℕ) (bytes : List ℕ) → IsUtf8 bytes → n ≡ length bytes → IsQuotedTo kind place bytes → chars (drop place bytes) ≡ 92 ∷ [] →
    IsAfter bytes (Some (record { kind = kind; body = Continuation; place = n + 1 }))
slash_after kind place n bytes u size s lone =
    (quoted_unfinished kind place bytes u s (inr (inl lone)), continuation_next kind place n bytes [] [] u size s lone refl refl, past_end n bytes size)

pub blanks_after : (kind : StringKind) (place n : ℕ) (bytes : List ℕ) → IsUtf8 bytes → n ≡ length bytes → IsQuotedTo kind place bytes →
    EndsWithin (switches_of kind) Continued (chars (drop place bytes)) → IsAfter bytes (Some (record { kind = kind; body = Continuation; place = n + 1 }))
blanks_after kind place n bytes u size s (blanks, is, all) = (
  quoted_unfinished kind place bytes u s (inl (inr (blanks, is, all))),
  continuation_next kind place n bytes (10 ∷ blanks) (blanks ++ 10 ∷ []) u size s is refl (list_all-append is_blank blanks (10 ∷ []) all refl),
  past_end n bytes size,
)

-- or it is shut
pub shut_after : (kind : StringKind) (place : ℕ) (bytes : List ℕ) → IsUtf8 bytes → IsQuotedTo kind place bytes → IsShut (switches_of kind) (chars (drop place bytes)) → BeginsByLine bytes → ⊥
shut_after kind place bytes u s shut =
    quoted_is_shut kind (chars bytes) s.items (chars (drop place bytes)) (quoted_whole kind place bytes u s) s.taken shut

pub quote_after : (kind : StringKind) (place : ℕ) (bytes : List ℕ) → IsUtf8 bytes → IsQuotedTo kind place bytes → first_passes (λ c. c == 34) (chars (drop place bytes)) ≡ true → BeginsByLine bytes → ⊥
quote_after kind place bytes u s quote = shut_after kind place bytes u s (quote_is_shut kind (chars (drop place bytes)) quote)

-- Continuations

blanks_front : (bs : List ℕ) → IsUtf8 bs → list_all is_blank (take (prefix_len is_blank bs) (chars bs)) ≡ true
blanks_front bs u = ap (λ (n : ℕ). list_all is_blank (take n (chars bs))) (sym (prefix_len-chars is_blank bs blank_ascii u)) ∙ list_all-take_while is_blank (chars bs)

-- all that is left is blank
record IsBlankRest (kind : StringKind) (bytes : List ℕ) : Type 0 where
  items : List Item
  blanks : List ℕ
  spells : quoted_front kind ++ (body_text items ++ 92 ∷ 10 ∷ blanks) ≡ chars bytes
  taken : is_item_list (switches_of kind) (92 ∷ 10 ∷ blanks) items ≡ true
  blank : list_all is_blank blanks ≡ true

blank_rest : (kind : StringKind) (place k n : ℕ) (bytes : List ℕ) → IsUtf8 bytes → n ≡ length bytes → IsContinuedTo kind place bytes → k ≡ prefix_len is_blank (drop place bytes) → place + k ≡ n →
    IsBlankRest kind bytes
blank_rest kind place k n bytes u size s count whole =
    let bs : List ℕ = drop place bytes in
    let utf8 : IsUtf8 bs = IsUtf8-drop bytes place u s.boundary in
    let end : place + prefix_len is_blank bs ≡ length bytes = omega (arith, count, whole, size) in
    let left : drop (prefix_len is_blank bs) bs ≡ [] = drop-drop (prefix_len is_blank bs) place bytes ∙ ap (λ (m : ℕ). drop m bytes) end ∙ drop-length bytes in
    let front = passing_front is_blank bs blank_ascii utf8 in
    let tail : take (prefix_len is_blank bs) (chars bs) ≡ chars bs =
    sym (append-nil (take (prefix_len is_blank bs) (chars bs))) ∙ ap (λ (l : List ℕ). take (prefix_len is_blank bs) (chars bs) ++ l) (sym (front.rest ∙ ap chars left ∙ chars-nil))
    ∙ take-append-drop (prefix_len is_blank bs) (chars bs) in record {
      items = s.items;
      blanks = s.blanks ++ chars bs;
      spells = more_after (quoted_front kind) (body_text s.items) (92 ∷ 10 ∷ s.blanks) (chars bs) (chars (take place bytes)) s.spells ∙ (front_splits bytes place u s.boundary).0;
      taken = quoted_items_stay (switches_of kind) (92 ∷ 10 ∷ s.blanks) (chars bs) s.items s.taken;
      blank = list_all-append is_blank s.blanks (chars bs) s.blank (ap (list_all is_blank) (sym tail) ∙ blanks_front bs utf8);
    }

pub continued_unfinished : (kind : StringKind) (place k n : ℕ) (bytes : List ℕ) → IsUtf8 bytes → n ≡ length bytes → IsContinuedTo kind place bytes →
    k ≡ prefix_len is_blank (drop place bytes) → place + k ≡ n → IsOpenText (chars bytes)
continued_unfinished kind place k n bytes u size s count whole =
    let b = blank_rest kind place k n bytes u size s count whole in
    quoted_is_open kind (chars bytes) b.items (92 ∷ 10 ∷ b.blanks) b.spells b.taken (inl (inr (b.blanks, refl, b.blank)))

pub continued_next : (kind : StringKind) (place k n : ℕ) (bytes : List ℕ) → IsUtf8 bytes → n ≡ length bytes → IsContinuedTo kind place bytes →
    k ≡ prefix_len is_blank (drop place bytes) → place + k ≡ n → IsContinuedTo kind (n + 1) (bytes ++ 10 ∷ [])
continued_next kind place k n bytes u size s count whole =
    let b = blank_rest kind place k n bytes u size s count whole in record {
      boundary = line_boundary bytes n size;
      items = b.items;
      blanks = b.blanks ++ 10 ∷ [];
      spells = more_after (quoted_front kind) (body_text b.items) (92 ∷ 10 ∷ b.blanks) (10 ∷ []) (chars bytes) b.spells ∙ sym (line_end bytes n size u);
      taken = quoted_items_stay (switches_of kind) (92 ∷ 10 ∷ b.blanks) (10 ∷ []) b.items b.taken;
      blank = list_all-append is_blank b.blanks (10 ∷ []) b.blank refl;
    }

-- a continuation ends before another character
pub continued_quoted : (kind : StringKind) (place k : ℕ) (bytes : List ℕ) → IsUtf8 bytes → IsContinuedTo kind place bytes → k ≡ prefix_len is_blank (drop place bytes) →
    place + k < length bytes → IsQuotedTo kind (place + k) bytes
continued_quoted kind place k bytes u s count inside =
    let w = switches_of kind in
    let bs : List ℕ = drop place bytes in
    let utf8 : IsUtf8 bs = IsUtf8-drop bytes place u s.boundary in
    let m : ℕ = prefix_len is_blank bs in
    let front = passing_front is_blank bs blank_ascii utf8 in
    let more : List ℕ = take m (chars bs) in
    let at : place + m ≡ place + k = omega (arith, count) in
    let there : drop m bs ≡ drop (place + k) bytes = drop-drop m place bytes ∙ ap (λ (j : ℕ). drop j bytes) at in
    let rest : List ℕ = chars (drop (place + k) bytes) in
    let after : chars bs ≡ more ++ rest = sym (take-append-drop m (chars bs)) ∙ ap (λ (l : List ℕ). more ++ l) (front.rest ∙ ap chars there) in
    let left : IsUtf8 (drop (place + k) bytes) = subst (λ (l : List ℕ). IsUtf8 l) there front.utf8 in
    let boundary : IsCharBoundary bytes (place + k) = IsCharBoundary-from_drop bytes (place + k) (omega arith) left in
    let item : Item = continuation (s.blanks ++ more) in
    let text : List ℕ = 92 ∷ 10 ∷ (s.blanks ++ more) in
    let before : chars (take place bytes) ++ more ≡ chars (take (place + k) bytes) =
    append_cancel_right _ _ rest (append_assoc (chars (take place bytes)) more rest ∙ ap (λ (l : List ℕ). chars (take place bytes) ++ l) (sym after)
    ∙ (front_splits bytes place u s.boundary).0 ∙ sym (front_splits bytes (place + k) u boundary).0) in
    let some : is_empty rest ≡ false = chars_empty (drop (place + k) bytes) left ∙ ne_eqb (length (drop (place + k) bytes)) 0 (λ e. omega (arith, length-drop (place + k) bytes)) in
    let stops : first_passes is_blank rest ≡ false =
    first_passes-chars is_blank (drop (place + k) bytes) blank_ascii left ∙ ap (first_passes is_blank) (sym there) ∙ first_passes-rest is_blank bs in
    let all : list_all is_blank (s.blanks ++ more) ≡ true = list_all-append is_blank s.blanks more s.blank (blanks_front bs utf8) in
    let whole : (92 ∷ 10 ∷ s.blanks) ++ (more ++ rest) ≡ (text ++ []) ++ rest =
    sym (append_assoc (92 ∷ 10 ∷ s.blanks) more rest) ∙ ap (λ (l : List ℕ). l ++ rest) (sym (append-nil text)) in record {
      boundary = boundary;
      items = s.items ++ item ∷ [];
      spells = ap (λ (l : List ℕ). quoted_front kind ++ l) (body_text-append s.items (item ∷ []) ∙ ap (λ (l : List ℕ). body_text s.items ++ l) (append-nil text))
          ∙ more_after (quoted_front kind) (body_text s.items) (92 ∷ 10 ∷ s.blanks) more (chars (take place bytes)) s.spells ∙ before;
      taken = is_item_list-append w s.items (item ∷ []) rest
          (subst (λ (r : List ℕ). is_item_list w r s.items ≡ true) whole (quoted_items_stay w (92 ∷ 10 ∷ s.blanks) (more ++ rest) s.items s.taken))
          (and_from _ _ (and_from _ _ all (and_from _ _ (not_from_false _ some) (not_from_false _ stops))) refl);
    }

-- Raw bodies

record IsRawRest (kind : StringKind) (n : ℕ) (bytes : List ℕ) (front : List ℕ) : Type 0 where
  body : List ℕ
  few : n ≤ 255
  spells : raw_front kind ++ (hashes n ++ 34 ∷ (body ++ front)) ≡ chars bytes
  allowed : list_all (is_raw_char (has_unicode kind) (allows_nul kind)) (body ++ front) ≡ true
  passed : occurs (raw_closing n) front ≡ false
  unclosed : (more : List ℕ) → occurs (raw_closing n) more ≡ false → occurs (raw_closing n) (body ++ more) ≡ false

-- a text that a search has passed to its end does not contain a closing
unclosed_front : (n : ℕ) (front : List ℕ) → NoClosingIn n front [] → occurs (raw_closing n) front ≡ false
unclosed_front n front none = ap (occurs (raw_closing n)) (sym (append-nil front)) ∙ (raw_scans_go_on n front [] none).1

raw_rest : (kind : StringKind) (n place end : ℕ) (bytes : List ℕ) → IsUtf8 bytes → IsRawTo kind n place bytes → (stop : IsStop (has_unicode kind) (allows_nul kind) n place bytes end) →
    end ≡ length bytes → IsRawRest kind n bytes stop.passed.front
raw_rest kind n place end bytes u s stop whole =
    let front : List ℕ = stop.passed.front in
    let none : chars (drop end bytes) ≡ [] = ap (λ (k : ℕ). chars (drop k bytes)) whole ∙ ap chars (drop-length bytes) ∙ chars-nil in
    let is : front ≡ chars (drop place bytes) = sym (append-nil front) ∙ ap (λ (l : List ℕ). front ++ l) (sym none) ∙ stop.passed.spells in record {
      body = s.body;
      few = s.few;
      spells = more_after (raw_front kind) (hashes n) (34 ∷ s.body) front (chars (take place bytes)) s.spells
          ∙ ap (λ (l : List ℕ). chars (take place bytes) ++ l) is ∙ (front_splits bytes place u s.boundary).0;
      allowed = list_all-append (is_raw_char (has_unicode kind) (allows_nul kind)) s.body front s.allowed stop.passed.allowed;
      passed = unclosed_front n front (subst (λ (r : List ℕ). NoClosingIn n front r) none stop.passed.unclosed);
      unclosed = s.unclosed;
    }

pub raw_unfinished : (kind : StringKind) (n place end : ℕ) (bytes : List ℕ) → IsUtf8 bytes → IsRawTo kind n place bytes → IsStop (has_unicode kind) (allows_nul kind) n place bytes end →
    end ≡ length bytes → IsOpenText (chars bytes)
raw_unfinished kind n place end bytes u s stop whole =
    let r = raw_rest kind n place end bytes u s stop whole in
    let front : List ℕ = stop.passed.front in
    raw_is_open kind n (chars bytes) (r.body ++ front) r.few r.spells (record { allowed = r.allowed; unclosed = r.unclosed front r.passed })

pub raw_next : (kind : StringKind) (n place end : ℕ) (bytes : List ℕ) → IsUtf8 bytes → IsRawTo kind n place bytes → IsStop (has_unicode kind) (allows_nul kind) n place bytes end →
    end ≡ length bytes → IsRawTo kind n (end + 1) (bytes ++ 10 ∷ [])
raw_next kind n place end bytes u s stop whole =
    let r = raw_rest kind n place end bytes u s stop whole in
    let front : List ℕ = stop.passed.front in
    let body : List ℕ = r.body ++ front in record {
      boundary = line_boundary bytes end whole;
      few = r.few;
      body = body ++ 10 ∷ [];
      spells = more_after (raw_front kind) (hashes n) (34 ∷ body) (10 ∷ []) (chars bytes) r.spells ∙ sym (line_end bytes end whole u);
      allowed = line_in_body kind body r.allowed;
      unclosed = λ more none. subst (λ (l : List ℕ). occurs (raw_closing n) l ≡ false) (sym (append_assoc body (10 ∷ []) more ∙ append_assoc r.body front (10 ∷ more)))
          (r.unclosed (front ++ 10 ∷ more) (none_over_line n front more r.passed none));
    }

-- if the search stops in the text, the body is closed there or has a character that is not allowed
stop_row : (u a : Bool) (n start end : ℕ) (bytes : List ℕ) → IsUtf8 (drop start bytes) → IsStop u a n start bytes end →
    (first_passes is_quote (drop end bytes) ≡ true → begins_with (raw_closing n) (drop end bytes) ≡ true) → (end ≡ length bytes → ⊥) →
    raw_body_refusal u a n start (chars (drop start bytes)) ≡ Some (without_span UnterminatedRawString) → ⊥
stop_row u a n start end bytes utf8 stop closing inside told = by (drop end bytes) refl
  where
    other : (o : Option Refusal) → raw_body_refusal u a n start (chars (drop start bytes)) ≡ o → is_open_row o ≡ false → ⊥
    other o row shut = false≢true (sym shut ∙ ap is_open_row (sym row ∙ told))

    ends : (b : Bool) → begins_with (raw_closing n) (drop end bytes) ≡ true → is_suffix (chars (drop (end + 1 + n) bytes)) ≡ b → ⊥
    ends true begins is = other None (body_cut u a n start end bytes utf8 stop (closing_at n end bytes stop.within stop.utf8 begins) is).free refl
    ends false begins is =
        let suffix = chars (drop (end + 1 + n) bytes) in
        other (Some (at_byte (end + 1 + n) (suffix_kind suffix))) (suffix_refused u a n start end bytes utf8 stop (closing_at n end bytes stop.within stop.utf8 begins) is) (shut_suffix suffix)

    first : (b : ℕ) (r : List ℕ) (q : Bool) → drop end bytes ≡ b ∷ r → (b == 34) ≡ q → ⊥
    first b r true is quote = ends (is_suffix (chars (drop (end + 1 + n) bytes))) (closing (ap (first_passes is_quote) is ∙ quote)) refl
    first b r false is plain =
        other (Some (at_byte end (raw_char_kind b))) (refused_body u a n start end b bytes r utf8 stop is plain)
        (shut_kind_if (b == 13) CarriageReturn (if is_nul b then NulByte else NonAsciiInByteLiteral) refl (shut_kind_if (is_nul b) NulByte NonAsciiInByteLiteral refl refl))

    by : (rest : List ℕ) → drop end bytes ≡ rest → ⊥
    by [] is = inside (let within = stop.within in omega (arith, length-drop end bytes, ap length is))
    by (b ∷ r) is = first b r (b == 34) is refl

pub raw_closed : (kind : StringKind) (n place end : ℕ) (bytes : List ℕ) → IsUtf8 bytes → IsRawTo kind n place bytes → IsStop (has_unicode kind) (allows_nul kind) n place bytes end →
    (first_passes is_quote (drop end bytes) ≡ true → begins_with (raw_closing n) (drop end bytes) ≡ true) → (end ≡ length bytes → ⊥) → BeginsByLine bytes → ⊥
raw_closed kind n place end bytes u s stop closing inside =
    let rest : List ℕ = chars (drop place bytes) in
    raw_is_shut kind n place s.body rest (chars bytes)
    (more_after (raw_front kind) (hashes n) (34 ∷ s.body) rest (chars (take place bytes)) s.spells ∙ (front_splits bytes place u s.boundary).0)
    (stop_row (has_unicode kind) (allows_nul kind) n place end bytes (IsUtf8-drop bytes place u s.boundary) stop closing inside)

-- Openings

pub quoted_opened : (kind : StringKind) (bytes : List ℕ) → IsUtf8 bytes → begins_with (quoted_front kind) bytes ≡ true → IsQuotedTo kind (length (quoted_front kind)) bytes
quoted_opened kind bytes u begins = record {
  boundary = quoted_boundary kind bytes u begins;
  items = [];
  spells = append-nil (quoted_front kind) ∙ sym (quoted_before kind bytes u begins);
  taken = refl;
}

front_ascii : (kind : StringKind) → list_all is_ascii_char (raw_front kind) ≡ true
front_ascii string_kind = refl
front_ascii byte_string_kind = refl
front_ascii c_string_kind = refl

hashes_ascii : (n : ℕ) → list_all is_ascii_char (hashes n) ≡ true
hashes_ascii zero = refl
hashes_ascii (suc n) = hashes_ascii n

-- the hashes at the front of a text, and the rest
hashes_split : (bs : List ℕ) (n : ℕ) → n ≡ hash_len bs → hashes n ++ drop n bs ≡ bs
hashes_split bs n count =
    let cut : HashCut bs = hash_cut bs in
    let same : n ≡ cut.count = count ∙ ap hash_len (sym cut.spells) ∙ hash_len-append cut.count cut.rest cut.stops in
    ap (λ (k : ℕ). hashes k ++ drop k bs) same ∙ ap (λ (l : List ℕ). hashes cut.count ++ drop cut.count l) (sym cut.spells)
    ∙ ap (λ (l : List ℕ). hashes cut.count ++ l) (after_hashes cut.count cut.rest) ∙ cut.spells

pub raw_opened : (kind : StringKind) (front n place : ℕ) (bytes : List ℕ) → IsUtf8 bytes → begins_with (raw_front kind) bytes ≡ true → front ≡ length (raw_front kind) →
    IsRawOpening front bytes (n, place) → IsRawTo kind n place bytes
raw_opened kind front n place bytes u begins at_front o =
    let end : place ≡ front + n + 1 = o.start in
    let rest : List ℕ = drop place bytes in
    let opening : List ℕ = raw_front kind ++ (hashes n ++ 34 ∷ []) in
    let split : raw_front kind ++ drop front bytes ≡ bytes = ap (λ (k : ℕ). raw_front kind ++ drop k bytes) at_front ∙ begins_with-split (raw_front kind) bytes begins in
    let after : drop n (drop front bytes) ≡ 34 ∷ rest = drop-drop n front bytes ∙ o.quote in
    let marks : hashes n ++ 34 ∷ rest ≡ drop front bytes = ap (λ (l : List ℕ). hashes n ++ l) (sym after) ∙ hashes_split (drop front bytes) n o.count in
    let spelled : opening ++ rest ≡ bytes =
    append_assoc (raw_front kind) (hashes n ++ 34 ∷ []) rest ∙ ap (λ (l : List ℕ). raw_front kind ++ l) (append_assoc (hashes n) (34 ∷ []) rest ∙ marks) ∙ split in
    let ascii : list_all is_ascii_char opening ≡ true =
    list_all-append is_ascii_char (raw_front kind) (hashes n ++ 34 ∷ []) (front_ascii kind) (list_all-append is_ascii_char (hashes n) (34 ∷ []) (hashes_ascii n) refl) in
    let size : length opening ≡ place =
    omega (arith, at_front, length-append (raw_front kind) (hashes n ++ 34 ∷ []), length-append (hashes n) (34 ∷ []), length-hashes n) in record {
      boundary = o.boundary;
      few = o.few;
      body = [];
      spells = sym (ap (λ (l : List ℕ). chars (take place l)) (sym spelled) ∙ ap chars (take_at opening rest place size)
          ∙ ap chars (sym (append-nil opening)) ∙ chars_after opening [] ascii ∙ ap (λ (l : List ℕ). opening ++ l) chars-nil ∙ append-nil opening);
      allowed = refl;
      unclosed = λ more none. none;
    }

-- a text that has the front of a raw string and no opening
pub raw_unopened : (kind : StringKind) (front : ℕ) (bytes : List ℕ) (e : Refusal) → IsUtf8 bytes → begins_with (raw_front kind) bytes ≡ true → front ≡ length (raw_front kind) →
    ((unicode allow_nul : Bool) → raw_refusal unicode allow_nul front (chars (drop front bytes)) ≡ Some e) → is_open e.kind ≡ false → BeginsByLine bytes → ⊥
raw_unopened kind front bytes e u begins at told shut =
    opening_is_shut kind (chars (drop (length (raw_front kind)) bytes)) (chars bytes) e (front_chars (raw_front kind) bytes (raw_low kind) u begins)
    (subst (λ (k : ℕ). raw_refusal (has_unicode kind) (allows_nul kind) k (chars (drop k bytes)) ≡ Some e) at (told (has_unicode kind) (allows_nul kind))) shut
