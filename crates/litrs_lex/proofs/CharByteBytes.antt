-- Chars and bytes: what their bytes say of the characters.
use Rattle.std.proofs.Common.{◌≡◌, ℕ, ◌+◌, ◌-◌, ◌^◌, ◌<◌, ◌≤◌, true, false, not, ◌||◌, List, [], ◌∷◌, ◌++◌, length, take, drop, slice_range, slice_get, append-nil, Some, None, refl, sym, ap, ◌∙◌, subst, arith, append_assoc, length-append}
use Rattle.std.specs.Prelude.{◌==◌, Result, Ok, Err, IfOk, IfErr, encode_utf8, encode_utf8_all, option_map, is_some}
use Rattle.std.specs.List.{list_any}
use Rattle.std.specs.Char.{len_utf8}
use Rattle.std.specs.Str.{chars, IsUtf8, IsCharBoundary}
use Rattle.std.proofs.lemmas.Bool.{eq-eqb, lt-ltb, and_parts, and_from, and_left, not_from_false, not-true, ne_eqb, eqb-true}
use Rattle.std.proofs.lemmas.Bool.Decides.{nat_tests}
use Rattle.std.proofs.lemmas.List.{drop_at, take_at}
use Rattle.std.proofs.lemmas.Str.{length-encode, chars-nil, chars_from_encodes, encodes-chars, encodes-append, IsUtf8-take}
use Rattle.litrs_base.specs.declared.err.ParseError.{ParseError}
use Rattle.litrs_base.specs.declared.err.ParseErrorKind.TheVariants.{Empty, DoesNotStartWithQuote, InvalidByteLiteralStart, UnescapedSingleQuote, UnescapedSpecialWhitespace, NonAsciiInByteLiteral}
use Rattle.litrs_base.specs.declared.escape.Unescape.{Unescape}
use Rattle.litrs_base.specs.declared.escape.Unescape.TheVariants.{Byte, Unicode}
use Rattle.litrs_base.specs.Unescape.{unescaped_number}
use Rattle.litrs_base.specs.Refusal.{Refusal, refusal_of, char_span_of, IsInText, HasCharSpan, MovesWithin, at_byte, without_span, shifted, shifted_span}
use Rattle.litrs_base.specs.Text.{byte_len, first_passes, is_empty, begins_with}
use Rattle.litrs_base.proofs.Begins.{begins_with-split, begins_with-append}
use Rattle.litrs_base.proofs.ByteLen.{byte_len_one_ascii}
use Rattle.litrs_base.proofs.CharEnds.{char_span_moved, moves_within, no_span}
use Rattle.litrs_base.proofs.Chars.{OnlyAscii, begins_with-chars, chars_ascii, chars_wide, utf8_after_ascii, first_passes-chars}
use Rattle.litrs_base.proofs.ListTests.{if_true, if_false}
use Rattle.litrs_base.proofs.Spans.{byte_len-append}
use Rattle.litrs_base.specs.declared.quotes.Switches.{Switches}
use Rattle.litrs_base.specs.declared.quotes.CharKind.{CharKind}
use Rattle.litrs_base.specs.declared.quotes.CharKind.TheVariants.{Char as char_kind, Byte as byte_kind}
use Rattle.litrs_base.specs.Quotes.{char_front, char_switches_of}
use Rattle.litrs_grammar.specs.Escape.{Escape, simple_escape, hex_escape, unicode_escape, is_escape, is_simple, escape_text, escape_value, escape_refusal}
use Rattle.litrs_grammar.specs.Suffix.{is_suffix, suffix_kind}
use Rattle.litrs_grammar.specs.CharByte.{CharItem, plain_char, escaped_char, char_item_text, char_value, is_special_whitespace, allows_char, is_char_item, CharParts, IsCharLiteral, unterminated_kind, empty_kind, overlong_kind, start_refusal, closing_refusal, char_item_refusal, char_kind_refusal}
use Rattle.litrs_grammar.specs.Literal.{kind_parse, LiteralKind, char_literal, byte_literal}
use Rattle.litrs_grammar.specs.LiteralRefusals.{IsKindRefusal}
use Rattle.litrs_grammar.specs.Refused.{IsRefused}
use Rattle.litrs_base.specs.Derivations.{IsOnlyDerivation}
use Rattle.litrs_grammar.proofs.Laws.CharByte.{chars_are_unique, closing_read, item_closing}
use Rattle.litrs_grammar.proofs.Spans.CharByte.{char_spans_lie_in_text}
use Rattle.litrs_grammar.proofs.Laws.Escape.{by_simple}
use Rattle.litrs_grammar.proofs.Refused.{is_refused}
use Rattle.litrs_lex.specs.CharCut.{escape_written, item_written, char_parts_at, unwraps_as, IsItemRead, IsItemRefused, IsCutAfter}
use Rattle.litrs_lex.specs.Unescaped.{IsUnescaped, IsEscapeRefused}
use Rattle.litrs_lex.proofs.Dispatch.{is_empty-chars}
use Rattle.litrs_lex.proofs.CharCuts.{cut_at}
use Rattle.litrs_lex.proofs.AsciiTests.{only_char, list_any-chars}

-- After the front

nothing : (bs : List ℕ) → length bs ≡ 0 → bs ≡ []
nothing [] none = refl
nothing (b ∷ bs) none = absurd (omega arith)

-- the text ends
pub end_refused : (kind : CharKind) (bs : List ℕ) (e : ParseError) → length bs ≤ 0 → refusal_of e ≡ without_span (unterminated_kind kind) → IsItemRefused kind (chars bs) e
end_refused kind bs e none is = record {
  table = ap (λ l. char_item_refusal kind (chars l)) (nothing bs (omega arith)) ∙ (ap (char_item_refusal kind) chars-nil ∙ ap Some (sym is));
  char_span = no_span (chars bs) e (unterminated_kind kind) is;
}

-- the first byte
pub front_byte : (bs : List ℕ) (b : ℕ) → begins_with (b ∷ []) bs ≡ true → bs ≡ b ∷ drop 1 bs
front_byte bs b begins = sym (begins_with-split (b ∷ []) bs begins)

pub begins_get : (bs seen : List ℕ) (b : ℕ) → seen ≡ bs → Some b ≡ slice_get seen 0 → begins_with (b ∷ []) bs ≡ true
begins_get bs seen b same is = first bs (is ∙ ap (λ l. slice_get l 0) same)
  where
    first : (bs : List ℕ) → Some b ≡ slice_get bs 0 → begins_with (b ∷ []) bs ≡ true
    first [] is = cc
    first (c ∷ bs) is = let e : b ≡ c = cc in and_from _ _ (eq-eqb b c e) refl

pub none_first : (bs seen : List ℕ) → seen ≡ bs → None ≡ slice_get seen 0 → length bs ≤ 0
none_first bs seen same is = empty bs (is ∙ ap (λ l. slice_get l 0) same)
  where
    empty : (bs : List ℕ) → None ≡ slice_get bs 0 → length bs ≤ 0
    empty [] is = omega arith
    empty (c ∷ bs) is = cc

front_chars : (bs : List ℕ) (b : ℕ) → b < 128 → bs ≡ b ∷ drop 1 bs → chars bs ≡ b ∷ chars (drop 1 bs)
front_chars bs b low is = ap chars is ∙ chars_ascii b (drop 1 bs) low

after_utf8 : (bs : List ℕ) (b : ℕ) → b < 128 → IsUtf8 bs → bs ≡ b ∷ drop 1 bs → IsUtf8 (drop 1 bs)
after_utf8 bs b low u is = utf8_after_ascii b (drop 1 bs) low (subst (λ (l : List ℕ). IsUtf8 l) is u)

quote_only : OnlyAscii (λ c. c == 39)
quote_only = only_char 39 (omega arith)

-- two quotes
quote_first : (kind : CharKind) (bs : List ℕ) → IsUtf8 bs → bs ≡ 39 ∷ drop 1 bs → first_passes (λ c. c == 39) (drop 1 bs) ≡ true →
    char_item_refusal kind (chars bs) ≡ Some (at_byte 0 UnescapedSingleQuote)
quote_first kind bs u is quote =
    ap (char_item_refusal kind) (front_chars bs 39 (omega arith) is)
    ∙ if_true _ _ _ (first_passes-chars (λ c. c == 39) (drop 1 bs) quote_only (after_utf8 bs 39 (omega arith) u is) ∙ quote)

pub quote_row : (kind : CharKind) (bs : List ℕ) → IsUtf8 bs → begins_with (39 ∷ []) bs ≡ true → first_passes (λ c. c == 39) (drop 1 bs) ≡ true →
    char_item_refusal kind (chars bs) ≡ Some (at_byte 0 UnescapedSingleQuote)
quote_row kind bs u begins quote = quote_first kind bs u (front_byte bs 39 begins) quote

pub empty_row : (kind : CharKind) (bs : List ℕ) → IsUtf8 bs → begins_with (39 ∷ []) bs ≡ true → first_passes (λ c. c == 39) (drop 1 bs) ≡ false →
    char_item_refusal kind (chars bs) ≡ Some (without_span (empty_kind kind))
empty_row kind bs u begins quote =
    let is = front_byte bs 39 begins in
    ap (char_item_refusal kind) (front_chars bs 39 (omega arith) is)
    ∙ if_false _ _ _ (first_passes-chars (λ c. c == 39) (drop 1 bs) quote_only (after_utf8 bs 39 (omega arith) u is) ∙ quote)

pub escape_row : (kind : CharKind) (bs : List ℕ) (e : ParseError) → begins_with (92 ∷ []) bs ≡ true → IsEscapeRefused (char_switches_of kind) (chars bs) e → IsItemRefused kind (chars bs) e
escape_row kind bs e begins r =
    let is = front_chars bs 92 (omega arith) (front_byte bs 92 begins) in
    let refused : escape_refusal (char_switches_of kind) (92 ∷ chars (drop 1 bs)) ≡ Some (refusal_of e) =
    ap (escape_refusal (char_switches_of kind)) (sym is) ∙ r.table in
    record {
      table = ap (char_item_refusal kind) is ∙ (if_true _ _ _ (ap is_some refused) ∙ refused);
      char_span = r.char_span;
    }

-- the value of an escape is a character or a byte, by the kind
simple_ascii : (c : ℕ) → is_simple c ≡ true → unwraps_as char_kind (escape_value (simple_escape c)) ≡ true
simple_ascii c h = by_simple (λ n. unwraps_as char_kind (escape_value (simple_escape n)) ≡ true) c h refl refl refl refl refl refl refl

escape_unwraps : (kind : CharKind) (e : Escape) → is_escape (char_switches_of kind) e ≡ true → unwraps_as kind (escape_value e) ≡ true
escape_unwraps char_kind (simple_escape c) h = simple_ascii c (and_parts (is_simple c) _ h).0
escape_unwraps char_kind (hex_escape c d) h = (and_parts _ _ (and_parts _ _ h).0).1
escape_unwraps char_kind (unicode_escape inner) h = refl
escape_unwraps byte_kind (simple_escape c) h = refl
escape_unwraps byte_kind (hex_escape c d) h = refl
escape_unwraps byte_kind (unicode_escape inner) h = cc

pub escape_item : (kind : CharKind) (bs : List ℕ) (value : Unescape) (len : ℕ) → IsUnescaped (char_switches_of kind) bs value len → IsItemRead kind bs value len
escape_item kind bs value len r = record {
  item = escaped_char r.escape;
  rest = r.rest;
  spells = r.spells;
  grammar = r.grammar;
  is_value = ap unescaped_number (sym r.is_value);
  unwraps = ap (unwraps_as kind) (sym r.is_value) ∙ escape_unwraps kind r.escape r.grammar;
  size = r.size;
  boundary = r.boundary;
}

-- a character that is not an escape
special_first : (kind : CharKind) (c : ℕ) (t : List ℕ) → (c == 39) ≡ false → is_special_whitespace c ≡ true → char_item_refusal kind (c ∷ t) ≡ Some (at_byte 0 UnescapedSpecialWhitespace)
special_first kind c t quote special = if_false _ _ _ (and_left _ _ quote) ∙ (if_false _ _ _ quote ∙ if_true _ _ _ special)

special_low : (c : ℕ) → is_special_whitespace c ≡ true → c < 128
special_low c h = grind (arith, nat_tests)

pub special_row : (kind : CharKind) (bs : List ℕ) (b : ℕ) → begins_with (b ∷ []) bs ≡ true → (b ≡ 39 → ⊥) → is_special_whitespace b ≡ true →
    char_item_refusal kind (chars bs) ≡ Some (at_byte 0 UnescapedSpecialWhitespace)
special_row kind bs b begins no_quote special =
    ap (char_item_refusal kind) (front_chars bs b (special_low b special) (front_byte bs b begins)) ∙ special_first kind b (chars (drop 1 bs)) (ne_eqb b 39 no_quote) special

is_plain : (kind : CharKind) (c : ℕ) → (c == 39) ≡ false → (c == 92) ≡ false → is_special_whitespace c ≡ false → allows_char kind c ≡ true → is_char_item kind (plain_char c) ≡ true
is_plain kind c quote slash special allowed =
    and_from _ _ (and_from _ _ (and_from _ _ (not_from_false _ quote) (not_from_false _ slash)) (not_from_false _ special)) allowed

ascii_allowed : (kind : CharKind) (c : ℕ) → c < 128 → allows_char kind c ≡ true
ascii_allowed char_kind c low = refl
ascii_allowed byte_kind c low = lt-ltb c 128 low

ascii_unwraps : (kind : CharKind) (c : ℕ) → c < 128 → unwraps_as kind (Byte c) ≡ true
ascii_unwraps char_kind c low = lt-ltb c 128 low
ascii_unwraps byte_kind c low = refl

-- an item at the front
item_read : (kind : CharKind) (bs : List ℕ) (a : CharItem) (rest : List ℕ) (value : Unescape) (len : ℕ) → IsUtf8 bs → chars bs ≡ char_item_text a ++ rest → is_char_item kind a ≡ true →
    unescaped_number value ≡ char_value a → unwraps_as kind value ≡ true → byte_len (char_item_text a) ≡ len → IsItemRead kind bs value len
item_read kind bs a rest value len u spells grammar is_value unwraps size = record {
  item = a;
  rest = rest;
  spells = sym spells;
  grammar = grammar;
  is_value = is_value;
  unwraps = unwraps;
  size = size;
  boundary = subst (λ (n : ℕ). IsCharBoundary bs n) size (cut_at bs (char_item_text a) rest u spells).boundary;
}

pub ascii_item : (kind : CharKind) (bs : List ℕ) (b : ℕ) → IsUtf8 bs → begins_with (b ∷ []) bs ≡ true → (b ≡ 39 → ⊥) → (b ≡ 92 → ⊥) → is_special_whitespace b ≡ false → b < 128 →
    IsItemRead kind bs (Byte b) 1
ascii_item kind bs b u begins no_quote no_slash special low =
    item_read kind bs (plain_char b) (chars (drop 1 bs)) (Byte b) 1 u (front_chars bs b low (front_byte bs b begins))
    (is_plain kind b (ne_eqb b 39 no_quote) (ne_eqb b 92 no_slash) special (ascii_allowed kind b low)) refl (ascii_unwraps kind b low) (byte_len_one_ascii b [] low)

wide_special : (c : ℕ) → 128 ≤ c → is_special_whitespace c ≡ false
wide_special c high = grind (arith, nat_tests)

wide_first : (bs : List ℕ) (b c : ℕ) (t : List ℕ) → IsUtf8 bs → bs ≡ b ∷ drop 1 bs → 128 ≤ b → chars bs ≡ c ∷ t → 128 ≤ c
wide_first bs b c t u is high same =
    let w = chars_wide b (drop 1 bs) high (subst (λ (l : List ℕ). IsUtf8 l) is u) in
    let wide = w.wide in
    let heads : w.first ∷ w.rest ≡ c ∷ t = sym w.is ∙ (ap chars (sym is) ∙ same) in
    let e : w.first ≡ c = cc in omega arith

pub wide_row : (bs : List ℕ) (b : ℕ) → IsUtf8 bs → begins_with (b ∷ []) bs ≡ true → 128 ≤ b → char_item_refusal byte_kind (chars bs) ≡ Some (at_byte 0 NonAsciiInByteLiteral)
wide_row bs b u begins high =
    let is = front_byte bs b begins in
    let w = chars_wide b (drop 1 bs) high (subst (λ (l : List ℕ). IsUtf8 l) is u) in
    ap (char_item_refusal byte_kind) (ap chars is ∙ w.is) ∙ wide_byte w.first w.rest w.wide
  where
    wide_byte : (c : ℕ) (t : List ℕ) → 128 ≤ c → char_item_refusal byte_kind (c ∷ t) ≡ Some (at_byte 0 NonAsciiInByteLiteral)
    wide_byte c t wide =
        let quote : (c == 39) ≡ false = ne_eqb c 39 (λ e. omega arith) in
        let slash : (c == 92) ≡ false = ne_eqb c 92 (λ e. omega arith) in
        if_false _ _ _ (and_left _ _ quote) ∙ (if_false _ _ _ quote ∙ (if_false _ _ _ (wide_special c wide)
        ∙ (if_false _ _ _ (and_left _ _ slash) ∙ if_true _ _ _ (ap not (not_below c wide)))))
      where
        not_below : (c : ℕ) → 128 ≤ c → allows_char byte_kind c ≡ false
        not_below c wide = grind (arith, nat_tests)

pub wide_item : (bs : List ℕ) (b c : ℕ) (t : List ℕ) (len : ℕ) → IsUtf8 bs → begins_with (b ∷ []) bs ≡ true → 128 ≤ b → chars bs ≡ c ∷ t → len ≡ byte_len (c ∷ []) →
    IsItemRead char_kind bs (Unicode c) len
wide_item bs b c t len u begins high same size =
    let wide = wide_first bs b c t u (front_byte bs b begins) high same in
    item_read char_kind bs (plain_char c) t (Unicode c) len u same
    (is_plain char_kind c (ne_eqb c 39 (λ e. omega arith)) (ne_eqb c 92 (λ e. omega arith)) (wide_special c wide) refl) refl refl (sym size)

-- the text after the item decides
pub after_item : (kind : CharKind) (bs : List ℕ) (value : Unescape) (len : ℕ) → IsUtf8 bs → IsItemRead kind bs value len →
    char_item_refusal kind (chars bs) ≡ closing_refusal kind len (chars (drop len bs))
after_item kind bs value len u r =
    let cut = cut_at bs (char_item_text r.item) r.rest u (sym r.spells) in
    let rest : chars (drop len bs) ≡ r.rest = subst (λ (n : ℕ). chars (drop n bs) ≡ r.rest) r.size cut.rest in
    ap (char_item_refusal kind) (sym r.spells) ∙ (item_closing kind r.item r.rest r.grammar ∙ (ap (λ n. closing_refusal kind n r.rest) r.size ∙ ap (closing_refusal kind len) (sym rest)))

pub closing_refused : (kind : CharKind) (bs : List ℕ) (value : Unescape) (len : ℕ) (e : ParseError) → IsUtf8 bs → IsItemRead kind bs value len →
    closing_refusal kind len (chars (drop len bs)) ≡ Some (refusal_of e) → HasCharSpan (chars bs) e → IsItemRefused kind (chars bs) e
closing_refused kind bs value len e u r table ends = record { table = after_item kind bs value len u r ∙ table; char_span = ends }

pub closed_after : (kind : CharKind) (bs : List ℕ) (value : Unescape) (len start : ℕ) → IsUtf8 bs → IsItemRead kind bs value len →
    closing_refusal kind len (chars (drop len bs)) ≡ None → start ≡ len + 1 → IsCutAfter kind bs value start
closed_after kind bs value len start u r none is_start =
    let cut = cut_at bs (char_item_text r.item) r.rest u (sym r.spells) in
    let rest : chars (drop len bs) ≡ r.rest = subst (λ (n : ℕ). chars (drop n bs) ≡ r.rest) r.size cut.rest in
    let closes = closing_read kind len (chars (drop len bs)) none in
    record {
      item = r.item;
      suffix = closes.0;
      spells = ap (λ l. char_item_text r.item ++ l) (closes.1 ∙ rest) ∙ r.spells;
      grammar = r.grammar;
      is_suffix = closes.2;
      is_value = r.is_value;
      unwraps = r.unwraps;
      size = ap (λ n. n + 1) r.size ∙ sym is_start;
    }

-- The closing quote

pub unterminated_row : (kind : CharKind) (place : ℕ) (bs : List ℕ) → IsUtf8 bs → list_any (λ c. c == 39) bs ≡ false →
    closing_refusal kind place (chars bs) ≡ Some (without_span (unterminated_kind kind))
unterminated_row kind place bs u none = if_true _ _ _ (ap not (list_any-chars (λ c. c == 39) bs quote_only u ∙ none))

pub overlong_row : (kind : CharKind) (place : ℕ) (bs : List ℕ) → IsUtf8 bs → list_any (λ c. c == 39) bs ≡ true → first_passes (λ c. c == 39) bs ≡ false →
    closing_refusal kind place (chars bs) ≡ Some (without_span (overlong_kind kind))
overlong_row kind place bs u some never =
    if_false _ _ _ (ap not (list_any-chars (λ c. c == 39) bs quote_only u ∙ some)) ∙ if_true _ _ _ (ap not (first_passes-chars (λ c. c == 39) bs quote_only u ∙ never))

pub quote_begins : (bs : List ℕ) → first_passes (λ c. c == 39) bs ≡ true → bs ≡ 39 ∷ drop 1 bs
quote_begins [] quote = cc
quote_begins (b ∷ bs) quote = ap (λ n. n ∷ bs) (eqb-true b 39 quote)

quote_chars : (bs : List ℕ) → first_passes (λ c. c == 39) bs ≡ true → chars bs ≡ 39 ∷ chars (drop 1 bs)
quote_chars bs quote = front_chars bs 39 (omega arith) (quote_begins bs quote)

pub suffix_row : (kind : CharKind) (place : ℕ) (bs : List ℕ) → first_passes (λ c. c == 39) bs ≡ true → is_suffix (chars (drop 1 bs)) ≡ false →
    closing_refusal kind place (chars bs) ≡ Some (at_byte (place + 1) (suffix_kind (chars (drop 1 bs))))
suffix_row kind place bs quote none = ap (closing_refusal kind place) (quote_chars bs quote) ∙ if_true _ _ _ (ap not none)

pub closed_row : (kind : CharKind) (place : ℕ) (bs : List ℕ) → first_passes (λ c. c == 39) bs ≡ true → is_suffix (chars (drop 1 bs)) ≡ true →
    closing_refusal kind place (chars bs) ≡ None
closed_row kind place bs quote is = ap (closing_refusal kind place) (quote_chars bs quote) ∙ if_false _ _ _ (ap not is)

-- With the front

-- the front is ASCII
front_size : (kind : CharKind) → byte_len (char_front kind) ≡ length (char_front kind)
front_size char_kind = byte_len_one_ascii 39 [] (omega arith)
front_size byte_kind = byte_len_one_ascii 98 (39 ∷ []) (omega arith) ∙ ap (λ n. 1 + n) (byte_len_one_ascii 39 [] (omega arith))

-- a text after its front
pub record IsFronted (kind : CharKind) (bs rest : List ℕ) : Type 0 where
  pub characters : chars bs ≡ char_front kind ++ chars rest
  pub utf8 : IsUtf8 rest
  pub is_rest : drop (length (char_front kind)) bs ≡ rest

pub fronted : (kind : CharKind) (bs : List ℕ) → IsUtf8 bs → begins_with (char_front kind) bs ≡ true → IsFronted kind bs (drop (length (char_front kind)) bs)
fronted char_kind bs u begins =
    let is = front_byte bs 39 begins in
    record { characters = front_chars bs 39 (omega arith) is; utf8 = after_utf8 bs 39 (omega arith) u is; is_rest = refl }
fronted byte_kind bs u begins =
    let is : bs ≡ 98 ∷ 39 ∷ drop 2 bs = sym (begins_with-split (98 ∷ 39 ∷ []) bs begins) in
    record {
      characters = ap chars is ∙ (chars_ascii 98 (39 ∷ drop 2 bs) (omega arith) ∙ ap (λ l. 98 ∷ l) (chars_ascii 39 (drop 2 bs) (omega arith)));
      utf8 = utf8_after_ascii 39 (drop 2 bs) (omega arith) (utf8_after_ascii 98 (39 ∷ drop 2 bs) (omega arith) (subst (λ (l : List ℕ). IsUtf8 l) is u));
      is_rest = refl;
    }

-- the refusal, moved by the front
pub front_row : (kind : CharKind) (bs rest : List ℕ) (r : Refusal) → IsFronted kind bs rest → char_item_refusal kind (chars rest) ≡ Some r →
    char_kind_refusal kind (chars bs) ≡ Some (shifted (length (char_front kind)) r)
unfolding char_kind_refusal
front_row kind bs rest r f table =
    let begins : begins_with (char_front kind) (chars bs) ≡ true = ap (begins_with (char_front kind)) f.characters ∙ begins_with-append (char_front kind) (chars rest) in
    let after : drop (length (char_front kind)) (chars bs) ≡ chars rest =
    ap (drop (length (char_front kind))) f.characters ∙ drop_at (char_front kind) (chars rest) (length (char_front kind)) refl in
    if_true _ _ _ begins ∙ ap (option_map (shifted (length (char_front kind)))) (ap (char_item_refusal kind) after ∙ table)

-- an error after a front may be moved
pub moves : (kind : CharKind) (bs rest : List ℕ) (e : ParseError) → IsUtf8 bs → IsFronted kind bs rest → IsItemRefused kind (chars rest) e → length bs < 2 ^ 64 →
    MovesWithin (length (char_front kind)) e
moves kind bs rest e u f r small =
    let front = char_front kind in
    let table = front_row kind bs rest (refusal_of e) f r.table ∙ ap (λ n. Some (shifted n (refusal_of e))) (sym (front_size kind)) in
    let inside : IsInText (front ++ chars rest) (shifted (byte_len front) (refusal_of e)) =
    subst (λ (t : List ℕ). IsInText t (shifted (byte_len front) (refusal_of e))) f.characters (char_spans_lie_in_text kind (chars bs) (shifted (byte_len front) (refusal_of e)) table) in
    let size : byte_len (front ++ chars rest) ≡ length bs = ap byte_len (sym f.characters) ∙ ap length (encodes-chars bs u) in
    subst (λ (n : ℕ). MovesWithin n e) (front_size kind) (moves_within front (chars rest) e inside r.char_span (omega arith))

abbrev pub literal_of : CharKind → LiteralKind
literal_of char_kind = char_literal
literal_of byte_kind = byte_literal

kind_refusal : (kind : CharKind) (t : List ℕ) (r : Refusal) → char_kind_refusal kind t ≡ Some r → IsKindRefusal (literal_of kind) t r
kind_refusal char_kind t r table = table
kind_refusal byte_kind t r table = table

pub char_refused : (kind : CharKind) (bs rest : List ℕ) (e f : ParseError) → IsFronted kind bs rest → IsItemRefused kind (chars rest) e →
    refusal_of f ≡ shifted (length (char_front kind)) (refusal_of e) → char_span_of f ≡ shifted_span (length (char_front kind)) (char_span_of e) →
    IsRefused (kind_parse (literal_of kind)) (chars bs) f
char_refused kind bs rest e f fr r is_moved ends =
    is_refused (kind_parse (literal_of kind)) (chars bs) f
    (kind_refusal kind (chars bs) (refusal_of f) (front_row kind bs rest (refusal_of e) fr r.table ∙ ap Some (sym is_moved)))
    (subst (λ (t : List ℕ). HasCharSpan t f) (sym fr.characters)
    (char_span_moved (char_front kind) (chars rest) e f (is_moved ∙ ap (λ n. shifted n (refusal_of e)) (sym (front_size kind))) (ends ∙ ap (λ n. shifted_span n (char_span_of e)) (sym (front_size kind))) r.char_span))

-- texts that are written so
inner_written : (inner : List ℕ) → take (length (92 ∷ 117 ∷ 123 ∷ (inner ++ 125 ∷ [])) - 4) (inner ++ 125 ∷ []) ≡ inner
inner_written inner =
    let size : length (92 ∷ 117 ∷ 123 ∷ (inner ++ 125 ∷ [])) - 4 ≡ length inner = let e = length-append inner (125 ∷ []) in omega arith in
    ap (λ n. take n (inner ++ 125 ∷ [])) size ∙ take_at inner (125 ∷ []) (length inner) refl

escape_again : (w : Switches) (e : Escape) → is_escape w e ≡ true → escape_written (escape_text e) ≡ e
escape_again w (simple_escape c) h = by_simple (λ n. escape_written (escape_text (simple_escape n)) ≡ simple_escape n) c (and_parts (is_simple c) _ h).0 refl refl refl refl refl refl refl
escape_again w (hex_escape c d) h = refl
escape_again w (unicode_escape inner) h = ap unicode_escape (inner_written inner)

item_again : (kind : CharKind) (a : CharItem) → is_char_item kind a ≡ true → item_written (char_item_text a) ≡ a
item_again kind (plain_char c) h =
    let p = and_parts _ (allows_char kind c) h in
    let q = and_parts _ (not (is_special_whitespace c)) p.0 in
    let r = and_parts (not (c == 39)) (not (c == 92)) q.0 in
    if_false _ _ _ (not-true _ r.1)
item_again kind (escaped_char e) h = escaped e h
  where
    escaped : (e : Escape) → is_escape (char_switches_of kind) e ≡ true → item_written (escape_text e) ≡ escaped_char e
    escaped (simple_escape c) h = ap escaped_char (escape_again (char_switches_of kind) (simple_escape c) h)
    escaped (hex_escape c d) h = ap escaped_char (escape_again (char_switches_of kind) (hex_escape c d) h)
    escaped (unicode_escape inner) h = ap escaped_char (escape_again (char_switches_of kind) (unicode_escape inner) h)

-- the bytes of a part are its characters
part_at : (bs a b : List ℕ) → IsUtf8 bs → chars bs ≡ a ++ b → chars (take (byte_len a) bs) ≡ a
part_at bs a b u split =
    let cut = cut_at bs a b u split in
    let both : bs ≡ encode_utf8_all a ++ encode_utf8_all b = sym (encodes-chars bs u) ∙ (ap encode_utf8_all split ∙ encodes-append a b) in
    let front : take (byte_len a) bs ≡ encode_utf8_all a = ap (take (byte_len a)) both ∙ take_at (encode_utf8_all a) (encode_utf8_all b) (byte_len a) refl in
    sym (chars_from_encodes a (take (byte_len a) bs) (IsUtf8-take bs (byte_len a) u cut.boundary) (sym front))

-- the literal that is cut so
pub record IsCharRead (kind : CharKind) (bs : List ℕ) (value start : ℕ) : Type 0 where
  pub only : IsOnlyDerivation (IsCharLiteral kind (chars bs)) (char_parts_at kind start bs)
  pub is_value : char_value (char_parts_at kind start bs).item ≡ value
  pub place : IsCharBoundary bs start

pub char_read : (kind : CharKind) (bs rest : List ℕ) (value : Unescape) (start : ℕ) → IsUtf8 bs → IsFronted kind bs rest → IsCutAfter kind rest value start →
    IsCharRead kind bs (unescaped_number value) (length (char_front kind) + start)
char_read kind bs rest value start u f r =
    let place = length (char_front kind) in
    let text = char_item_text r.item in
    let before = (char_front kind ++ text) ++ 39 ∷ [] in
    let split : chars bs ≡ before ++ r.suffix =
    f.characters ∙ (ap (λ l. char_front kind ++ l) (sym r.spells) ∙ (sym (append_assoc (char_front kind) text (39 ∷ r.suffix)) ∙ sym (append_assoc (char_front kind ++ text) (39 ∷ []) r.suffix))) in
    let size : byte_len before ≡ place + start =
    let a = byte_len-append (char_front kind ++ text) (39 ∷ []) in let b = byte_len-append (char_front kind) text in let c = byte_len_one_ascii 39 [] (omega arith) in
    let d = front_size kind in let e = r.size in omega arith in
    let cut = cut_at bs before r.suffix u split in
    let suffix : chars (drop (place + start) bs) ≡ r.suffix = subst (λ (n : ℕ). chars (drop n bs) ≡ r.suffix) size cut.rest in
    let inner : (place + start - 1) - place ≡ byte_len text = let e = r.size in omega arith in
    let item : item_written (chars (slice_range bs place (place + start - 1))) ≡ r.item =
    ap item_written (ap (λ n. chars (take n (drop place bs))) inner ∙ (ap (λ l. chars (take (byte_len text) l)) f.is_rest ∙ part_at rest text (39 ∷ r.suffix) f.utf8 (sym r.spells)))
    ∙ item_again kind r.item r.grammar in
    let is_parts : char_parts_at kind (place + start) bs ≡ record { item = r.item; suffix = r.suffix } = λ i. record { item = item i; suffix = suffix i } in
    let literal : IsCharLiteral kind (chars bs) (record { item = r.item; suffix = r.suffix }) =
    record { spells = ap (λ l. char_front kind ++ l) r.spells ∙ sym f.characters; item = r.grammar; suffix = r.is_suffix } in
    record {
      only = subst (λ (d : CharParts). IsOnlyDerivation (IsCharLiteral kind (chars bs)) d) (sym is_parts)
          (literal, λ e h. (chars_are_unique (chars bs) kind kind e (record { item = r.item; suffix = r.suffix }) h literal).1);
      is_value = ap char_value item ∙ sym r.is_value;
      place = subst (λ (n : ℕ). IsCharBoundary bs n) size cut.boundary;
    }

-- the front ends where the item begins
pub front_boundary : (kind : CharKind) (bs : List ℕ) → IsUtf8 bs → begins_with (char_front kind) bs ≡ true → IsCharBoundary bs (length (char_front kind))
front_boundary kind bs u begins =
    let f = fronted kind bs u begins in
    subst (λ (n : ℕ). IsCharBoundary bs n) (front_size kind) (cut_at bs (char_front kind) (chars (drop (length (char_front kind)) bs)) u f.characters).boundary

-- a text that begins with a byte has a character
pub wide_some : (bs : List ℕ) (b : ℕ) → IsUtf8 bs → begins_with (b ∷ []) bs ≡ true → 128 ≤ b → chars bs ≡ [] → ⊥
wide_some bs b u begins high none =
    let is = front_byte bs b begins in
    let w = chars_wide b (drop 1 bs) high (subst (λ (l : List ℕ). IsUtf8 l) is u) in
    let never : [] ≡ w.first ∷ w.rest = sym none ∙ (ap chars is ∙ w.is) in cc

pub slash_begins : (bs : List ℕ) → IsUtf8 bs → begins_with (92 ∷ []) bs ≡ true → (is_empty (chars bs) || first_passes (λ c. c == 92) (chars bs)) ≡ true
slash_begins bs u begins = ap (λ t. is_empty t || first_passes (λ c. c == 92) t) (front_chars bs 92 (omega arith) (front_byte bs 92 begins))

-- the answer of `unescape` is the item
pub ok_escape : (kind : CharKind) (bs : List ℕ) (w : Switches) (r : Result (Unescape × ℕ) ParseError) →
    w ≡ char_switches_of kind → IfOk r (λ read. IsUnescaped w bs read.0 read.1) →
    IfOk r (λ read. IsItemRead kind bs read.0 read.1)
ok_escape kind bs w (Ok (value, len)) is read = escape_item kind bs value len (subst (λ (w : Switches). IsUnescaped w bs value len) is read)
ok_escape kind bs w (Err e) is read = tt

pub err_escape : (kind : CharKind) (bs : List ℕ) (w : Switches) (r : Result (Unescape × ℕ) ParseError) →
    w ≡ char_switches_of kind → begins_with (92 ∷ []) bs ≡ true → IfErr r (IsEscapeRefused w (chars bs)) →
    IfErr r (IsItemRefused kind (chars bs))
err_escape kind bs w (Ok read) is begins refused = tt
err_escape kind bs w (Err e) is begins refused = escape_row kind bs e begins (subst (λ (w : Switches). IsEscapeRefused w (chars bs) e) is refused)

pub one_size : (c n : ℕ) → n ≡ len_utf8 c → n ≡ byte_len (c ∷ [])
one_size c n is = is ∙ (sym (length-encode c) ∙ sym (ap length (append-nil (encode_utf8 c))))

-- the suffix starts within the text
pub start_within : (kind : CharKind) (bs : List ℕ) (value : Unescape) (start : ℕ) → IsUtf8 bs → IsCutAfter kind bs value start → start ≤ length bs
start_within kind bs value start u r =
    let text = char_item_text r.item in
    let all : byte_len (text ++ 39 ∷ r.suffix) ≡ length bs = ap byte_len r.spells ∙ ap length (encodes-chars bs u) in
    let both = byte_len-append text (39 ∷ r.suffix) in
    let one = byte_len_one_ascii 39 r.suffix (omega arith) in
    let size = r.size in omega arith

-- A text that does not begin with the front

pub empty_start : (kind : CharKind) (bs : List ℕ) → is_empty bs ≡ true → char_kind_refusal kind (chars bs) ≡ Some (without_span Empty)
unfolding char_kind_refusal
empty_start char_kind [] none = ap (char_kind_refusal char_kind) chars-nil
empty_start byte_kind [] none = ap (char_kind_refusal byte_kind) chars-nil
empty_start kind (b ∷ bs) none = cc

other_start : (kind : CharKind) (bs : List ℕ) → IsUtf8 bs → begins_with (char_front kind) bs ≡ false → char_kind_refusal kind (chars bs) ≡ Some (start_refusal kind (chars bs))
unfolding char_kind_refusal
other_start char_kind bs u never = if_false _ _ _ (begins_with-chars (39 ∷ []) bs refl u ∙ never)
other_start byte_kind bs u never = if_false _ _ _ (begins_with-chars (98 ∷ 39 ∷ []) bs refl u ∙ never)

char_other : (t : List ℕ) → is_empty t ≡ false → start_refusal char_kind t ≡ at_byte 0 DoesNotStartWithQuote
char_other [] some = cc
char_other (c ∷ t) some = refl

byte_other : (t : List ℕ) → is_empty t ≡ false → start_refusal byte_kind t ≡ without_span InvalidByteLiteralStart
byte_other [] some = cc
byte_other (c ∷ t) some = refl

pub char_start : (bs : List ℕ) → IsUtf8 bs → is_empty bs ≡ false → begins_with (39 ∷ []) bs ≡ false → char_kind_refusal char_kind (chars bs) ≡ Some (at_byte 0 DoesNotStartWithQuote)
char_start bs u some never = other_start char_kind bs u never ∙ ap Some (char_other (chars bs) (is_empty-chars bs u ∙ some))

pub byte_start : (bs : List ℕ) → IsUtf8 bs → is_empty bs ≡ false → begins_with (98 ∷ 39 ∷ []) bs ≡ false → char_kind_refusal byte_kind (chars bs) ≡ Some (without_span InvalidByteLiteralStart)
byte_start bs u some never = other_start byte_kind bs u never ∙ ap Some (byte_other (chars bs) (is_empty-chars bs u ∙ some))
