-- Literals that are read once: those without a suffix, before a rest that neither begins nor
-- continues a name.
use Rattle.litrs_prefix.proofs.Words.{◌≡◌, ℕ, true, false, not, ◌&&◌, ◌||◌, List, [], ◌∷◌, ◌++◌, drop, Some, refl, sym, ap, subst, ◌∙◌, append-nil, arith, ◌+◌, ◌-◌, ◌≤◌, length, ◌==◌, Bool, if◌then◌else◌, and_from, and_parts, eqb-true, false≢true, ne_eqb, not-true, nat_tests, drop_at, take-append-drop, chars-nil, IsUtf8-drop, is_xid_continue-ascii, begins_with-append, chars_ascii, first_passes-chars, if_true, list_all-take_while, first_passes-rest, length-hashes, hash_len-append, is_suffix-nil}
use Rattle.litrs_prefix.specs.Words.{⊤, is_ascii, is_ascii_digit, is_ascii_alphanumeric, list_all, list_any, take_while, prefix_len, chars, IsUtf8, IsCharBoundary, is_xid_continue, char_kind, byte_kind, Switches, char_front, quoted_front, switches_of, raw_front, first_passes, begins_with, starts_identifier, IntegerParts, IsIntegerOf, IsFloatOf, is_period, is_decimal_char, char_item_text, IsCharLiteral, is_char_item, IsQuotedLiteral, Derivation, an_integer, a_float, a_char, a_byte, IsLiteral, IsItemsEnd, after_digits, after_fraction, HasPrefix, may_follow, ends_suffix, is_bare, keeps_period, gives_period, is_quote, RawParts, IsRawLiteral, raw_closing, after_closing, hashes, hash_len, has_unicode, allows_nul, Decimal, CharKind, StringKind, integer_text, has_prefix, FloatParts, float_text, is_float_form, CharItem, char_text, Item, QuotedParts, body_text, is_item_list, quoted_text, StringParts, IsString, quoted_parts, string_suffix, raw_parts, raw_text, IsLiteralLen, ltb}
use Rattle.std.proofs.Math.Seq.{drop-append-add}
use Rattle.litrs_grammar.specs.Laws.Raw.{NoClosingIn}
use Rattle.litrs_grammar.proofs.QuotedItems.{stands_body}
use Rattle.litrs_grammar.proofs.RawCuts.{hash_cut, after_hashes}
use Rattle.litrs_grammar.proofs.RawScans.{raw_scans_go_on, raw_bodies_end_at_closings}
use Rattle.litrs_lex.specs.RawCut.{IsRawOpening, IsStop}
use Rattle.litrs_lex.proofs.FloatBytes.{chars_after}
use Rattle.litrs_lex.proofs.RawBytes.{Closing, closing_at, stop_of}
use Rattle.litrs_prefix.proofs.Chars.{longer_char, longer, longer_raw}
use Rattle.litrs_prefix.proofs.Judged.{to_string, string_follows}
use Rattle.litrs_prefix.proofs.PieceBodies.{hashes_low, closing_here}
use Rattle.litrs_prefix.proofs.PieceEnds.{ends_at, digits_are}
use Rattle.litrs_prefix.proofs.Numbers.{longer_integer, longer_float}
use Rattle.litrs_prefix.proofs.Runs.{front_cut}
use Rattle.litrs_grammar.specs.Closing.{a_string_of}
use Rattle.litrs_grammar.proofs.SuffixStart.{starts_continue}

-- a literal at the front of a text, before this rest
abbrev pub HasLiteral : List ℕ → List ℕ → Type 0
HasLiteral t r = (d : Derivation) × HasPrefix t d r

found : (d : Derivation) (s r t : List ℕ) → IsLiteral s d → s ++ r ≡ t → may_follow d r ≡ true → HasLiteral t r
found d s r t literal spells follows = (d, record { front = s; spells = spells; literal = literal; follows = follows })

-- the literal ends where its rest begins
pub literal_len : (bs rest : List ℕ) → IsUtf8 bs → IsUtf8 rest → HasLiteral (chars bs) (chars rest) → (length rest ≤ length bs) × IsLiteralLen bs (length bs - length rest)
literal_len bs rest u v (d, is) =
    let at = ends_at bs rest is.front u v is.spells in
    (at.within, record { boundary = at.boundary; literal = d; at_front = subst (λ (l : List ℕ). HasPrefix (chars bs) d l) (sym at.after) is })

-- the text after an ASCII front
pub after_front : (word bs body : List ℕ) (n : ℕ) → list_all (λ c. ltb c 128) word ≡ true → IsUtf8 bs → begins_with word bs ≡ true → n ≡ length word → body ≡ drop n bs → chars bs ≡ word ++ chars body
after_front word bs body n low u begins is back = sym (front_cut word bs n low u begins is).1 ∙ ap (λ (l : List ℕ). word ++ chars l) (sym back)

pub char_low : (kind : CharKind) → list_all (λ c. ltb c 128) (char_front kind) ≡ true
char_low kind = grind arith

-- the rest

-- a character that does not continue a name does not begin one
pub no_start : (t : List ℕ) → first_passes is_xid_continue t ≡ false → first_passes starts_identifier t ≡ false
no_start t h = grind (arith, starts_continue)

-- an ASCII character that is neither a letter nor a digit nor `_`
pub name_end : (c : ℕ) → (is_ascii c && not (is_ascii_alphanumeric c || (c == 95))) ≡ true → is_xid_continue c ≡ false
name_end c h = grind (arith, nat_tests, is_xid_continue-ascii)

-- digits

-- the digits and underscores at the front
abbrev digits : List ℕ → List ℕ
digits t = take_while is_decimal_char t

spelt : (t r : List ℕ) → r ≡ after_digits t → digits t ++ r ≡ t
spelt t r is = ap (λ (l : List ℕ). digits t ++ l) is ∙ take-append-drop (prefix_len is_decimal_char t) t

all_digits : (t : List ℕ) → list_all is_decimal_char (digits t) ≡ true
all_digits t = list_all-take_while is_decimal_char t

first_digit : (t : List ℕ) → first_passes is_ascii_digit t ≡ true → first_passes is_ascii_digit (digits t) ≡ true
first_digit t h = grind (arith, nat_tests)

no_digit : (t r : List ℕ) → r ≡ after_digits t → first_passes is_ascii_digit r ≡ false
no_digit t r is = let stops = ap (first_passes is_decimal_char) is ∙ first_passes-rest is_decimal_char t in grind (arith, nat_tests)

some_digit : (m : List ℕ) → first_passes is_ascii_digit m ≡ true → list_any is_ascii_digit m ≡ true
some_digit m h = grind arith

no_prefix : (m : List ℕ) → list_all is_decimal_char m ≡ true → has_prefix m ≡ false
no_prefix m all = grind (arith, nat_tests)

integer_follows : (m r : List ℕ) → first_passes starts_identifier r ≡ false → first_passes is_ascii_digit r ≡ false → gives_period r ≡ false → may_follow (an_integer (record { base = Decimal; main = m; suffix = [] })) r ≡ true
integer_follows m r name digit period = grind arith

pub integer_at : (t r : List ℕ) → first_passes is_ascii_digit t ≡ true → r ≡ after_digits t → gives_period r ≡ false → first_passes is_xid_continue r ≡ false → HasLiteral t r
integer_at t r h rest period stops =
    let d : IntegerParts = record { base = Decimal; main = digits t; suffix = [] } in
    let is : IsIntegerOf (integer_text d) d = record {
      spells = refl;
      grammar = record {
        digits = all_digits t;
        some_digit = some_digit (digits t) (first_digit t h);
        ends = refl;
        suffix = is_suffix-nil;
        no_exponent = refl;
        decimal_digit = λ _. first_digit t h;
        decimal_prefix = λ _. ap has_prefix (append-nil (digits t)) ∙ no_prefix (digits t) (all_digits t);
      };
    } in
    found (an_integer d) (integer_text d) r t is (longer_integer (integer_text d) r d is ∙ spelt t r rest) (integer_follows (digits t) r (no_start r stops) (no_digit t r rest) period)

-- floats without an exponent

digits_step : (c : ℕ) (t : List ℕ) → digits (c ∷ t) ≡ (if is_decimal_char c then c ∷ digits t else [])
digits_step c t = grind arith

first_form : (c : ℕ) (m : List ℕ) → keeps_period (c ∷ m) ≡ false → list_all is_decimal_char m ≡ true → is_float_form (Some (if is_decimal_char c then c ∷ m else [])) [] [] ≡ true
first_form c m keeps all = grind (arith, nat_tests)

fraction_form : (a : List ℕ) → keeps_period a ≡ false → is_float_form (Some (digits a)) [] [] ≡ true
fraction_form a keeps = grind (arith, nat_tests, digits_step, first_form, all_digits)

first_ends : (c : ℕ) (m a r : List ℕ) → keeps_period (c ∷ m) ≡ false → (first_passes is_period (if is_decimal_char c then r else (c ∷ a)) && is_bare (Some (if is_decimal_char c then c ∷ m else []))) ≡ false
first_ends c m a r keeps = grind (arith, nat_tests)

fraction_ends : (a r : List ℕ) → keeps_period a ≡ false → r ≡ after_digits a → (first_passes is_period r && is_bare (Some (digits a))) ≡ false
fraction_ends a r keeps is = grind (arith, nat_tests, digits_step, digits_are, first_ends)

float_at : (t a r : List ℕ) → first_passes is_ascii_digit t ≡ true → 46 ∷ a ≡ after_digits t → keeps_period a ≡ false → r ≡ after_digits a → first_passes is_xid_continue r ≡ false → HasLiteral t r
float_at t a r h at keeps rest stops =
    let d : FloatParts = record { integer = digits t; fraction = Some (digits a); exponent = []; suffix = [] } in
    let is : IsFloatOf (float_text d) d = record {
      spells = refl;
      grammar = record {
        integer = and_from _ _ (first_digit t h) (all_digits t);
        form = fraction_form a keeps;
        suffix = is_suffix-nil;
        no_underscore = refl;
        no_letter = λ _. refl;
      };
    } in
    found (a_float d) (float_text d) r t is (longer_float d (float_text d) r is ∙ (ap (λ (l : List ℕ). digits t ++ 46 ∷ l) (spelt a r rest) ∙ spelt t (46 ∷ a) at))
    (and_from _ _ (ap not (no_start r stops)) (and_from _ _ (ap not (no_digit a r rest)) (ap not (fraction_ends a r keeps rest))))

pub fraction_at : (t y r : List ℕ) → first_passes is_ascii_digit t ≡ true → y ≡ after_digits t → gives_period y ≡ true → r ≡ after_fraction y → first_passes is_xid_continue r ≡ false → HasLiteral t r
fraction_at t [] r h at gives rest stops = absurd (false≢true gives)
fraction_at t (c ∷ a) r h at gives rest stops =
    let p = and_parts (is_period c) (not (keeps_period a)) gives in
    float_at t a r h (ap (λ (k : ℕ). k ∷ a) (sym (eqb-true c 46 p.0)) ∙ at) (not-true _ p.1) (rest ∙ if_true (is_period c) (after_digits a) (c ∷ a) p.0) stops

-- a char or a byte

char_literal : (kind : CharKind) (a : CharItem) → is_char_item kind a ≡ true → IsCharLiteral kind (char_text kind (record { item = a; suffix = [] })) (record { item = a; suffix = [] })
char_literal kind a item = record { spells = refl; item = item; suffix = is_suffix-nil }

pub char_at : (kind : CharKind) (t : List ℕ) (a : CharItem) (r : List ℕ) → t ≡ char_front kind ++ (char_item_text a ++ 39 ∷ r) → is_char_item kind a ≡ true → first_passes is_xid_continue r ≡ false → HasLiteral t r
char_at char_kind t a r is item stops = let lit = char_literal char_kind a item in found (a_char _) _ r t lit (longer_char char_kind _ r _ lit ∙ sym is) (ap not (no_start r stops))
char_at byte_kind t a r is item stops = let lit = char_literal byte_kind a item in found (a_byte _) _ r t lit (longer_char byte_kind _ r _ lit ∙ sym is) (ap not (no_start r stops))

-- a string

found_string : (kind : StringKind) (x : StringParts) (s r t : List ℕ) → IsString kind s x → s ++ r ≡ t → ends_suffix (string_suffix x) r ≡ true → HasLiteral t r
found_string kind x s r t literal spells ends = found (a_string_of kind x) s r t (to_string kind s x literal) spells (string_follows kind x r ∙ ends)

pub quoted_at : (kind : StringKind) (t body r : List ℕ) (place : ℕ) → t ≡ quoted_front kind ++ chars body → IsItemsEnd (switches_of kind) body 0 (λ _. ⊤) place →
    chars (drop place body) ≡ 34 ∷ r → first_passes is_xid_continue r ≡ false → HasLiteral t r
quoted_at kind t body r place front e quote stops =
    let w : Switches = switches_of kind in
    let items : List Item = e.read.items in
    let q : QuotedParts = record { items = items; suffix = [] } in
    let s : List ℕ = quoted_text (quoted_front kind) q in
    let taken : is_item_list w (34 ∷ r) items ≡ true = subst (λ (l : List ℕ). is_item_list w l items ≡ true) quote e.read.taken in
    let read : body_text items ++ 34 ∷ r ≡ chars body =
    ap (λ (l : List ℕ). body_text items ++ l) (sym quote) ∙ (ap (λ (l : List ℕ). l ++ (body_text items ++ chars (drop place body))) (sym chars-nil) ∙ e.read.spells) in
    let lit : IsQuotedLiteral kind s q = record { spells = refl; body = stands_body w items r taken; suffix = is_suffix-nil } in
    found_string kind (quoted_parts q) s r t lit (longer (quoted_front kind) w s r q lit ∙ (ap (λ (l : List ℕ). quoted_front kind ++ l) read ∙ sym front)) (ap not (no_start r stops))

-- raw strings

-- the hashes and the quote, in characters
opened_raw : (bs : List ℕ) (n start : ℕ) → IsRawOpening 0 bs (n, start) → chars bs ≡ hashes n ++ (34 ∷ chars (drop start bs))
opened_raw bs n start o =
    let cut = hash_cut bs in
    let count : n ≡ cut.count = o.count ∙ (ap hash_len (sym cut.spells) ∙ hash_len-append cut.count cut.rest cut.stops) in
    let place : cut.count ≡ 0 + n = omega (arith, count) in
    let left : cut.rest ≡ 34 ∷ drop start bs =
    sym (after_hashes cut.count cut.rest) ∙ (ap (drop cut.count) cut.spells ∙ (ap (λ (k : ℕ). drop k bs) place ∙ o.quote)) in
    ap chars (sym cut.spells)
    ∙ (chars_after (hashes cut.count) cut.rest (hashes_low cut.count)
    ∙ ((λ i. hashes (sym count i) ++ chars (left i)) ∙ ap (λ (l : List ℕ). hashes n ++ l) (chars_ascii 34 (drop start bs) (omega arith))))

pub raw_at : (kind : StringKind) (t body : List ℕ) (n start end : ℕ) → t ≡ raw_front kind ++ chars body → IsRawOpening 0 body (n, start) →
    IsStop (has_unicode kind) (allows_nul kind) n start body end → Closing n end body → (rest : List ℕ) → rest ≡ drop (end + 1 + n) body → first_passes is_xid_continue (chars rest) ≡ false → HasLiteral t (chars rest)
raw_at kind t body n start end front o s c rest back stops =
    let r : List ℕ = chars rest in
    let closed : raw_closing n ++ r ≡ chars (drop end body) = ap (λ (l : List ℕ). raw_closing n ++ chars l) back ∙ c.spells in
    let content : List ℕ = s.passed.front in
    let d : RawParts = record { hash_count = n; body = content; suffix = [] } in
    let text : List ℕ = raw_front kind ++ raw_text d in
    let whole : hashes n ++ (34 ∷ (content ++ (raw_closing n ++ r))) ≡ chars body =
    ap (λ (l : List ℕ). hashes n ++ (34 ∷ l)) (ap (λ (l : List ℕ). content ++ l) closed ∙ s.passed.spells) ∙ sym (opened_raw body n start o) in
    let unclosed = subst (λ (l : List ℕ). NoClosingIn n content l) (sym closed) s.passed.unclosed in
    let lit : IsRawLiteral kind text d =
    record { spells = refl; grammar = record { hash_count = o.few; body = raw_bodies_end_at_closings _ _ n content r s.passed.allowed unclosed; suffix = is_suffix-nil } } in
    found_string kind (raw_parts d) text r t lit (longer_raw kind text r d lit ∙ (ap (λ (l : List ℕ). raw_front kind ++ l) whole ∙ sym front)) (ap not (no_start r stops))

-- the search in the body, as the code calls it

pub body_starts : (bytes body : List ℕ) (start : ℕ) → bytes ≡ body → IsUtf8 body → IsCharBoundary body start → (start ≤ length bytes) × IsUtf8 (drop start bytes)
body_starts bytes body start same u bound =
    subst (λ (l : List ℕ). (start ≤ length l) × IsUtf8 (drop start l)) (sym same) (bound.0, IsUtf8-drop body start u bound)

pub stop_in : (kind : StringKind) (w : Switches) (n start end : ℕ) (bytes body : List ℕ) → w ≡ switches_of kind → bytes ≡ body → IsStop w.unicode w.allow_nul n start bytes end →
    IsStop (has_unicode kind) (allows_nul kind) n start body end
stop_in kind w n start end bytes body same_switches same s =
    stop_of _ _ n start end bytes body same (subst (λ (v : Switches). IsStop v.unicode v.allow_nul n start bytes end) same_switches s)

pub closing_in : (u a : Bool) (n start end : ℕ) (bytes body closing : List ℕ) → bytes ≡ body → IsStop u a n start body end → closing ≡ drop end body →
    (first_passes is_quote (drop end bytes) ≡ true → begins_with (raw_closing n) (drop end bytes) ≡ true) → first_passes is_quote (chars closing) ≡ true → Closing n end body
closing_in u a n start end bytes body closing same s back closes quote =
    let here : first_passes is_quote (drop end body) ≡ true =
    sym (first_passes-chars is_quote (drop end body) (λ c wide. ne_eqb c 34 (λ e. omega arith)) s.utf8) ∙ (ap (λ (l : List ℕ). first_passes is_quote (chars l)) (sym back) ∙ quote) in
    closing_at n end body s.within s.utf8
    (subst (λ (l : List ℕ). first_passes is_quote (drop end l) ≡ true → begins_with (raw_closing n) (drop end l) ≡ true) same closes here)

-- no closing begins before the place at which the search stops
pub closing_passed : (u a : Bool) (n start end : ℕ) (bytes : List ℕ) → IsStop u a n start bytes end → after_closing n (chars (drop start bytes)) ≡ after_closing n (chars (drop end bytes))
closing_passed u a n start end bytes s = grind (arith, raw_scans_go_on, drop-append-add)

pub closed_at : (n end : ℕ) (bytes : List ℕ) → Closing n end bytes → after_closing n (chars (drop end bytes)) ≡ chars (drop (end + 1 + n) bytes)
closed_at n end bytes c = grind (arith, closing_here, begins_with-append, drop_at, length-hashes)
