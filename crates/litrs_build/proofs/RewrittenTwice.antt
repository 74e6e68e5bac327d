-- A literal that is rewritten twice in a style is as after the first time.
use Rattle.std.proofs.Common.{◌≡◌, ◌⊎◌, inl, inr, ℕ, ◌<◌, ◌/◌, ◌%◌, Bool, true, false, ◌||◌, List, [], ◌∷◌, ◌++◌, map, refl, sym, ap, ◌∙◌, subst, arith}
use Rattle.std.specs.Prelude.{◌==◌, filter, Option, Some, None}
use Rattle.std.specs.Fmt.{digits, digit_glyph}
use Rattle.std.specs.List.{list_any}
use Rattle.std.specs.Str.{chars, IsUtf8}
use Rattle.std.proofs.lemmas.Bool.{and_parts, cond_both, lt-ltb, ltb-true, not_from_false, true≢false}
use Rattle.std.proofs.lemmas.Str.{scalars-chars}
use lib.Utf8.{scalar, scalars, low_scalar}
use Rattle.litrs_base.proofs.ListTests.{if_true, if_false}
use Rattle.litrs_base.specs.Characters.{is_ascii, is_blank}
use Rattle.litrs_base.specs.declared.escape.Unescape.TheVariants.{Byte}
use Rattle.litrs_base.specs.Numeral.{is_no_underscore}
use Rattle.litrs_base.specs.Quotes.{switches_of, quoted_front, char_switches_of}
use Rattle.litrs_base.specs.declared.quotes.CharKind.{CharKind}
use Rattle.litrs_base.specs.declared.quotes.CharKind.TheVariants.{Char as char_kind, Byte as byte_kind}
use Rattle.litrs_base.specs.declared.quotes.StringKind.{StringKind}
use Rattle.litrs_base.specs.declared.quotes.StringKind.TheVariants.{String as string_kind, ByteString as byte_string_kind, CString as c_string_kind}
use Rattle.litrs_base.specs.declared.quotes.Switches.{Switches}
use Rattle.litrs_grammar.specs.CharByte.{CharItem, plain_char, escaped_char, char_item_text, is_char_item, CharParts, IsCharLiteral}
use Rattle.litrs_grammar.specs.Escape.{Escape, simple_escape, hex_escape, unicode_escape, is_escape, is_simple, simple_value, pair_value, hex_value, escape_value}
use Rattle.litrs_grammar.specs.Float.{is_underscore}
use Rattle.litrs_grammar.specs.Integer.{IntegerParts, IsInteger}
use Rattle.litrs_grammar.specs.Literal.{StringParts, quoted_parts, raw_parts, IsString, Derivation, a_bool, an_integer, a_float, a_char, a_byte, a_string, a_byte_string, a_c_string, IsLiteral}
use Rattle.litrs_grammar.specs.Quoted.{Item, plain_item, escape_item, continuation, is_item, item_text, body_text, is_body}
use Rattle.litrs_build.specs.Rewriting.{is_mark, after_blanks, needed_char, needed_spelling, own_spelling, plain_rewriting, escape_rewriting, line_feed_rewriting, continuation_rewriting, item_rewriting, items_of, before_next, before_after, rewritten_items, char_item_of, as_item, rewritten_string, rewritten_char, rewritten}
use Rattle.litrs_build.specs.BuiltInteger.{main_part}
use Rattle.litrs_build.specs.RewrittenInteger.{cased, len_of, group_of, rewritten_main, rewritten_integer}
use Rattle.litrs_build.specs.Spelling.{char_spelling, is_upper, cased_item, cased_char}
use Rattle.litrs_build.specs.Written.{quoted_of}
use Rattle.litrs_build.specs.declared.rewriting.Before.{Before}
use Rattle.litrs_build.specs.declared.rewriting.Before.TheVariants.{Text, Mark, Continuation}
use Rattle.litrs_build.specs.declared.rewriting.Rewriting.{Rewriting}
use Rattle.litrs_build.specs.declared.rewriting.Rewriting.TheVariants.{Unchanged, Spelled, Removed}
use Rattle.litrs_build.specs.declared.spelling.Spelling.{Spelling}
use Rattle.litrs_build.specs.declared.spelling.Spelling.TheVariants.{Plain, Simple, Hex, Unicode}
use Rattle.litrs_build.specs.declared.style.Style.{Style}
use Rattle.litrs_build.specs.declared.style.Case.{Case}
use Rattle.litrs_build.specs.declared.style.Groups.{Groups}
use Rattle.litrs_build.specs.declared.style.Groups.TheVariants.{Kept, Regrouped, Grouped}
use Rattle.litrs_build.specs.declared.style.Escapes.{Escapes}
use Rattle.litrs_build.specs.declared.style.Escapes.TheVariants.{Kept as escapes_kept, Respelled, Needed}
use Rattle.litrs_build.specs.declared.style.Lines.{Lines}
use Rattle.litrs_build.specs.declared.style.Lines.TheVariants.{Kept as lines_kept, Joined}
use Rattle.litrs_build.proofs.CasedIntegers.{cased_digits, cased_twice, line_same}
use Rattle.litrs_build.proofs.GroupLemmas.{filter_at}
use Rattle.litrs_build.proofs.CasedSpellings.{cased_pair, number_is, own_fits, blank_small}
use Rattle.litrs_build.proofs.IntegerLemmas.{digits_left}
use Rattle.litrs_build.proofs.RewrittenChars.{as_item_text}
use Rattle.litrs_build.proofs.RewrittenFloats.{float_twice}
use Rattle.litrs_build.proofs.RewrittenItems.{scalars_parts, simple_low, by_line_feed}
use Rattle.litrs_build.proofs.RewrittenLiterals.{item_scalars}
use Rattle.litrs_build.proofs.Spellings.{spelling_by, or_false}

-- A spelling of which the item stays, or is spelled so again.
abbrev pub Stable : Style → (quote : ℕ) → Before → Spelling → Type 0
Stable style q before s =
    (item_rewriting style q before (cased_item style.escape_digits s) ≡ Unchanged)
    ⊎ (item_rewriting style q before (cased_item style.escape_digits s) ≡ Spelled s)

-- An escape in its own form

stable_own : (w : Switches) (style : Style) (q : ℕ) (before : Before) (e : Escape) →
    is_escape w e ≡ true → style.escapes ≡ Respelled → Stable style q before (own_spelling e)
stable_own w style q before (simple_escape c) is respelled =
    inr (ap (λ (x : Escapes). escape_rewriting x q before (simple_escape c)) respelled)
stable_own w style q before (hex_escape high low) is respelled =
    let upper = is_upper style.escape_digits in
    let b = pair_value high low in
    let fits = own_fits w (λ c. true) (hex_escape high low) is in
    let e = hex_escape (digit_glyph upper (b / 16)) (digit_glyph upper (b % 16)) in
    inr (ap (λ (x : Escapes). escape_rewriting x q before e) respelled
    ∙ ap (λ (n : ℕ). Spelled (Hex n)) (cased_pair upper b fits.0))
stable_own w style q before (unicode_escape inner) is respelled =
    let upper = is_upper style.escape_digits in
    let c = hex_value inner in
    let fits = own_fits w (λ c. true) (unicode_escape inner) is in
    inr (ap (λ (x : Escapes). escape_rewriting x q before (unicode_escape (digits 16 upper c))) respelled
    ∙ ap (λ (n : ℕ). Spelled (Unicode n)) (number_is upper c fits.1))

-- A character with the escapes that are needed

-- the spelling is of this character
abbrev IsOf : ℕ → Spelling → Type 0
IsOf c (Plain d) = (d ≡ c) × ((c == 10) ≡ false)
IsOf c (Simple d) = (simple_value d ≡ c) × (is_ascii c ≡ true)
IsOf c (Hex b) = (b ≡ c) × (is_ascii c ≡ true)
IsOf c (Unicode d) = d ≡ c

spelling_of : (q : ℕ) (m : Bool) (c : ℕ) → simple_value q ≡ q → is_ascii q ≡ true →
    IsOf c (char_spelling q m c)
spelling_of q m c value ascii =
    spelling_by q m c (IsOf c) (λ is. (sym is, ap is_ascii is)) (λ is. (sym is, ap is_ascii is))
    (λ is. (sym is, ap is_ascii is)) (λ is. (sym is, ap is_ascii is))
    (λ is. (ap simple_value is ∙ (value ∙ sym is), ap is_ascii is ∙ ascii))
    (λ is. (ap simple_value is ∙ sym is, ap is_ascii is))
    (λ other shown. (refl, other.line_feed)) (λ other low. (refl, low)) (λ other high. refl)

blank_of : (c d : ℕ) → IsOf c (Plain d) → is_blank d ≡ true → IsOf c (Hex d)
blank_of c d is blank =
    let low = blank_small d blank in
    (is.0, ap is_ascii (sym is.0) ∙ lt-ltb d 128 low)

after_blanks_of : (before : Before) (c : ℕ) (s : Spelling) → IsOf c s →
    IsOf c (after_blanks before s)
after_blanks_of Text c s is = is
after_blanks_of Mark c s is = is
after_blanks_of Continuation c (Plain d) is =
    cond_both (is_blank d) (Hex d) (Plain d) (IsOf c) (λ blank. blank_of c d is blank) (λ other. is)
after_blanks_of Continuation c (Simple d) is = is
after_blanks_of Continuation c (Hex b) is = is
after_blanks_of Continuation c (Unicode d) is = is

-- an ASCII byte is spelled as a character is
byte_spelled : (q : ℕ) (before : Before) (b c : ℕ) → b ≡ c → is_ascii c ≡ true →
    needed_spelling q before (Byte b) ≡ needed_char q before c
byte_spelled q before b c same ascii =
    ap (λ (n : ℕ). needed_spelling q before (Byte n)) same
    ∙ if_true (is_ascii c) (needed_char q before c) (Hex c) ascii

small_of : (c : ℕ) → is_ascii c ≡ true → c < 256
small_of c ascii = let low = ltb-true c 128 ascii in omega arith

stable_char : (style : Style) (q : ℕ) (before : Before) (c : ℕ) (s : Spelling) →
    style.escapes ≡ Needed → scalar c ≡ true → needed_char q before c ≡ s → IsOf c s →
    Stable style q before s
stable_char style q before c (Plain d) needed e same is =
    inr (if_false (d == 10) (line_feed_rewriting style.lines)
    (plain_rewriting style.escapes q before d) (ap (λ (n : ℕ). n == 10) is.0 ∙ is.1)
    ∙ (ap (λ (x : Escapes). plain_rewriting x q before d) needed
    ∙ ap (λ (t : Spelling). Spelled t) (ap (needed_char q before) is.0 ∙ same)))
stable_char style q before c (Simple d) needed e same is =
    inr (ap (λ (x : Escapes). escape_rewriting x q before (simple_escape d)) needed
    ∙ ap (λ (t : Spelling). Spelled t)
    (byte_spelled q before (simple_value d) c is.0 is.1 ∙ same))
stable_char style q before c (Hex b) needed e same is =
    let upper = is_upper style.escape_digits in
    let escape = hex_escape (digit_glyph upper (b / 16)) (digit_glyph upper (b % 16)) in
    let small = small_of c is.1 in
    let byte : b < 256 = subst (λ (n : ℕ). n < 256) (sym is.0) small in
    inr (ap (λ (x : Escapes). escape_rewriting x q before escape) needed
    ∙ ap (λ (t : Spelling). Spelled t)
    (byte_spelled q before _ c (cased_pair upper b byte ∙ is.0) is.1 ∙ same))
stable_char style q before c (Unicode d) needed e same is =
    let upper = is_upper style.escape_digits in
    inr (ap (λ (x : Escapes). escape_rewriting x q before (unicode_escape (digits 16 upper d))) needed
    ∙ ap (λ (t : Spelling). Spelled t)
    (ap (needed_char q before) (number_is upper d (ap scalar is ∙ e) ∙ is) ∙ same))

stable_needed_char : (style : Style) (q : ℕ) (before : Before) (c : ℕ) → simple_value q ≡ q →
    is_ascii q ≡ true → style.escapes ≡ Needed → scalar c ≡ true →
    Stable style q before (needed_char q before c)
stable_needed_char style q before c value ascii needed e =
    stable_char style q before c (needed_char q before c) needed e refl
    (after_blanks_of before c (char_spelling q (is_mark before) c)
    (spelling_of q (is_mark before) c value ascii))

stable_byte : (style : Style) (q : ℕ) (before : Before) (b : ℕ) → simple_value q ≡ q →
    is_ascii q ≡ true → style.escapes ≡ Needed → b < 256 →
    Stable style q before (needed_spelling q before (Byte b))
stable_byte style q before b value ascii needed small =
    let upper = is_upper style.escape_digits in
    let escape = hex_escape (digit_glyph upper (b / 16)) (digit_glyph upper (b % 16)) in
    cond_both (is_ascii b) (needed_char q before b) (Hex b) (Stable style q before)
    (λ low. stable_needed_char style q before b value ascii needed
    (low_scalar b (let less = ltb-true b 128 low in omega arith)))
    (λ high. inr (ap (λ (x : Escapes). escape_rewriting x q before escape) needed
    ∙ ap (λ (t : Spelling). Spelled t)
    (ap (λ (n : ℕ). needed_spelling q before (Byte n)) (cased_pair upper b small)
    ∙ if_false (is_ascii b) (needed_char q before b) (Hex b) high)))

stable_escape : (w : Switches) (style : Style) (q : ℕ) (before : Before) (e : Escape) →
    simple_value q ≡ q → is_ascii q ≡ true → is_escape w e ≡ true → style.escapes ≡ Needed →
    Stable style q before (needed_spelling q before (escape_value e))
stable_escape w style q before (simple_escape c) value ascii is needed =
    stable_byte style q before (simple_value c) value ascii needed
    (small_of (simple_value c) (simple_low c (and_parts (is_simple c) _ is).0))
stable_escape w style q before (hex_escape high low) value ascii is needed =
    stable_byte style q before (pair_value high low) value ascii needed
    (own_fits w (λ c. true) (hex_escape high low) is).0
stable_escape w style q before (unicode_escape inner) value ascii is needed =
    stable_needed_char style q before (hex_value inner) value ascii needed
    (own_fits w (λ c. true) (unicode_escape inner) is).1

line_feed_needed : (q : ℕ) (before : Before) → needed_spelling q before (Byte 10) ≡ Simple 110
unfolding char_spelling
line_feed_needed q Text = refl
line_feed_needed q Mark = refl
line_feed_needed q Continuation = refl

stable_line_feed : (style : Style) (q : ℕ) (before : Before) (escapes : Escapes) →
    style.escapes ≡ escapes → Stable style q before (Simple 110)
stable_line_feed style q before escapes_kept is =
    inl (ap (λ (x : Escapes). escape_rewriting x q before (simple_escape 110)) is)
stable_line_feed style q before Respelled is =
    inr (ap (λ (x : Escapes). escape_rewriting x q before (simple_escape 110)) is)
stable_line_feed style q before Needed is =
    inr (ap (λ (x : Escapes). escape_rewriting x q before (simple_escape 110)) is
    ∙ ap (λ (t : Spelling). Spelled t) (line_feed_needed q before))

-- A property of each possible rewriting of an item is a property of its rewriting

by_plain : (escapes : Escapes) (q : ℕ) (before : Before) (c : ℕ) (P : Rewriting → Type 0) →
    P Unchanged → (escapes ≡ Needed → P (Spelled (needed_char q before c))) →
    P (plain_rewriting escapes q before c)
by_plain escapes_kept q before c P unchanged spelled = unchanged
by_plain Respelled q before c P unchanged spelled = unchanged
by_plain Needed q before c P unchanged spelled = spelled refl

by_escape : (escapes : Escapes) (q : ℕ) (before : Before) (e : Escape) (P : Rewriting → Type 0) →
    P Unchanged → (escapes ≡ Respelled → P (Spelled (own_spelling e))) →
    (escapes ≡ Needed → P (Spelled (needed_spelling q before (escape_value e)))) →
    P (escape_rewriting escapes q before e)
by_escape escapes_kept q before e P unchanged own needed = unchanged
by_escape Respelled q before e P unchanged own needed = own refl
by_escape Needed q before e P unchanged own needed = needed refl

by_continuation : (lines : Lines) (P : Rewriting → Type 0) → P Unchanged → P Removed →
    P (continuation_rewriting lines)
by_continuation lines_kept P unchanged removed = unchanged
by_continuation Joined P unchanged removed = removed

pub by_stable : (w : Switches) (style : Style) (q : ℕ) (before : Before) (item : Item) →
    simple_value q ≡ q → is_ascii q ≡ true →
    ((c : ℕ) → item ≡ plain_item c → scalar c ≡ true) →
    ((e : Escape) → item ≡ escape_item e → is_escape w e ≡ true) →
    (P : Rewriting → Type 0) → P Unchanged →
    ((s : Spelling) → Stable style q before s → P (Spelled s)) → P Removed →
    P (item_rewriting style q before item)
by_stable w style q before (plain_item c) value ascii plain escape P unchanged spelled removed =
    cond_both (c == 10) (line_feed_rewriting style.lines)
    (plain_rewriting style.escapes q before c) P
    (λ line. by_line_feed style.lines P unchanged
    (spelled (Simple 110) (stable_line_feed style q before style.escapes refl)))
    (λ other. by_plain style.escapes q before c P unchanged
    (λ needed. spelled _ (stable_needed_char style q before c value ascii needed (plain c refl))))
by_stable w style q before (escape_item e) value ascii plain escape P unchanged spelled removed =
    by_escape style.escapes q before e P unchanged
    (λ respelled. spelled _ (stable_own w style q before e (escape e refl) respelled))
    (λ needed. spelled _ (stable_escape w style q before e value ascii (escape e refl) needed))
by_stable w style q before (continuation blanks) value ascii plain escape P unchanged spelled removed =
    by_continuation style.lines P unchanged removed

-- Bodies

stays : (style : Style) (before : Before) (s : Spelling) → Stable style 34 before s →
    items_of style.escape_digits (cased_item style.escape_digits s)
    (item_rewriting style 34 before (cased_item style.escape_digits s))
    ≡ cased_item style.escape_digits s ∷ []
stays style before s (inl same) =
    ap (items_of style.escape_digits (cased_item style.escape_digits s)) same
stays style before s (inr same) =
    ap (items_of style.escape_digits (cased_item style.escape_digits s)) same

item_twice : (style : Style) (before : Before) (item : Item) (rest : List Item) →
    items_of style.escape_digits item (item_rewriting style 34 before item) ≡ item ∷ [] →
    rewritten_items style (before_next item) rest ≡ rest →
    rewritten_items style before (item ∷ rest) ≡ item ∷ rest
item_twice style before item rest once others =
    ap (λ (l : List Item). l ++ rewritten_items style (before_after before l) rest) once
    ∙ ap (λ (l : List Item). item ∷ l) others

plain_scalar : (item : Item) → scalars (item_text item) ≡ true → (c : ℕ) →
    item ≡ plain_item c → scalar c ≡ true
plain_scalar item text c is =
    (and_parts (scalar c) _ (ap (λ (i : Item). scalars (item_text i)) (sym is) ∙ text)).0

escape_of : (w : Switches) (item : Item) → is_item w item ≡ true → (e : Escape) →
    item ≡ escape_item e → is_escape w e ≡ true
escape_of w item is e same = ap (is_item w) (sym same) ∙ is

pub items_twice : (w : Switches) (style : Style) (before : Before) (items : List Item) →
    is_body w items ≡ true → scalars (body_text items) ≡ true →
    rewritten_items style before (rewritten_items style before items)
    ≡ rewritten_items style before items
items_twice w style before [] is text = refl
items_twice w style before (item ∷ items) is text =
    let both = and_parts _ (is_body w items) is in
    let first = and_parts (is_item w item) _ both.0 in
    let texts = scalars_parts (item_text item) (body_text items) text in
    let case = style.escape_digits in
    by_stable w style 34 before item refl refl (plain_scalar item texts.0)
    (escape_of w item first.0)
    (λ r. item_rewriting style 34 before item ≡ r →
    (let written = items_of case item r in
    rewritten_items style before (written ++ rewritten_items style (before_after before written) items)
    ≡ written ++ rewritten_items style (before_after before written) items))
    (λ same. item_twice style before item _ (ap (items_of case item) same)
    (items_twice w style (before_next item) items both.1 texts.1))
    (λ s stable same. item_twice style before (cased_item case s) _ (stays style before s stable)
    (items_twice w style (before_next (cased_item case s)) items both.1 texts.1))
    (λ same. items_twice w style before items both.1 texts.1)
    refl

pub string_twice : (kind : StringKind) (style : Style) (bytes : List ℕ) (d : StringParts) →
    IsUtf8 bytes → IsString kind (chars bytes) d →
    rewritten_string style (rewritten_string style d) ≡ rewritten_string style d
string_twice kind style bytes (quoted_parts d) u is =
    let all : scalars (quoted_front kind ++ (body_text d.items ++ 34 ∷ d.suffix)) ≡ true =
    ap scalars is.spells ∙ scalars-chars bytes u in
    let body = scalars_parts (quoted_front kind) (body_text d.items ++ 34 ∷ d.suffix) all in
    let parts = scalars_parts (body_text d.items) (34 ∷ d.suffix) body.1 in
    ap (λ (items : List Item). quoted_of items d.suffix)
    (items_twice (switches_of kind) style Mark d.items is.body parts.0)
string_twice kind style bytes (raw_parts d) u is = refl

-- Chars and bytes

as_cased : (case : Case) (s : Spelling) → as_item (cased_char case s) ≡ cased_item case s
as_cased case (Plain c) = refl
as_cased case (Simple c) = refl
as_cased case (Hex b) = refl
as_cased case (Unicode c) = refl

char_stays : (style : Style) (s : Spelling) → Stable style 39 Mark s →
    char_item_of style.escape_digits (cased_char style.escape_digits s)
    (item_rewriting style 39 Mark (as_item (cased_char style.escape_digits s)))
    ≡ cased_char style.escape_digits s
char_stays style s stable =
    let case = style.escape_digits in
    ap (λ (i : Item). char_item_of case (cased_char case s) (item_rewriting style 39 Mark i))
    (as_cased case s) ∙ by style s stable
  where
    by : (style : Style) (s : Spelling) → Stable style 39 Mark s →
        char_item_of style.escape_digits (cased_char style.escape_digits s)
        (item_rewriting style 39 Mark (cased_item style.escape_digits s))
        ≡ cased_char style.escape_digits s
    by style s (inl same) =
        ap (char_item_of style.escape_digits (cased_char style.escape_digits s)) same
    by style s (inr same) =
        ap (char_item_of style.escape_digits (cased_char style.escape_digits s)) same

char_escape_of : (kind : CharKind) (item : CharItem) → is_char_item kind item ≡ true →
    (e : Escape) → as_item item ≡ escape_item e → is_escape (char_switches_of kind) e ≡ true
char_escape_of kind (plain_char c) is e same = cc
char_escape_of kind (escaped_char f) is e same =
    let one : f ≡ e = cc in ap (is_escape (char_switches_of kind)) (sym one) ∙ is

char_item_twice : (kind : CharKind) (style : Style) (item : CharItem) →
    is_char_item kind item ≡ true → scalars (char_item_text item) ≡ true →
    (let case = style.escape_digits in
    let again = char_item_of case item (item_rewriting style 39 Mark (as_item item)) in
    char_item_of case again (item_rewriting style 39 Mark (as_item again)) ≡ again)
char_item_twice kind style item is text =
    let case = style.escape_digits in
    by_stable (char_switches_of kind) style 39 Mark (as_item item) refl refl
    (plain_scalar (as_item item) (ap scalars (as_item_text item) ∙ text))
    (char_escape_of kind item is)
    (λ r. item_rewriting style 39 Mark (as_item item) ≡ r →
    (char_item_of case (char_item_of case item r)
    (item_rewriting style 39 Mark (as_item (char_item_of case item r)))
    ≡ char_item_of case item r))
    (λ same. ap (char_item_of case item) same)
    (λ s stable same. char_stays style s stable)
    (λ same. ap (char_item_of case item) same)
    refl

pub char_twice : (kind : CharKind) (style : Style) (bytes : List ℕ) (d : CharParts) →
    IsUtf8 bytes → IsCharLiteral kind (chars bytes) d →
    rewritten_char style (rewritten_char style d) ≡ rewritten_char style d
char_twice kind style bytes d u is =
    ap (λ (item : CharItem). record { item = item; suffix = d.suffix })
    (char_item_twice kind style d.item is.item (item_scalars kind bytes d u is).0)

-- Integers

map_twice : (case : Option Case) (t : List ℕ) →
    map (cased case) (map (cased case) t) ≡ map (cased case) t
map_twice case [] = refl
map_twice case (c ∷ t) = (λ i. cased_twice case c i ∷ map_twice case t i)

none_filtered : (t : List ℕ) → list_any is_underscore t ≡ false → filter is_no_underscore t ≡ t
none_filtered [] none = refl
none_filtered (c ∷ t) none =
    let both = or_false (c == 95) (list_any is_underscore t) none in
    filter_at c t (not_from_false (c == 95) both.0)
    ∙ ap (λ (l : List ℕ). c ∷ l) (none_filtered t both.1)

any_line : (case : Option Case) (t : List ℕ) →
    list_any is_underscore (map (cased case) t) ≡ list_any is_underscore t
any_line case [] = refl
any_line case (c ∷ t) = (λ i. line_same case c i || any_line case t i)

grouped_twice : (case : Option Case) (group : ℕ) (d : IntegerParts) → IsInteger d →
    (let main = rewritten_main case (Some group) d.base d.main d.suffix in
    rewritten_main case (Some group) d.base main d.suffix ≡ main)
grouped_twice case group d h =
    ap (λ (t : List ℕ). main_part d.base group t d.suffix)
    (ap (map (cased case)) (digits_left d.base group
    (map (cased case) (filter is_no_underscore d.main)) d.suffix
    (cased_digits d.base case d.main h.digits))
    ∙ map_twice case (filter is_no_underscore d.main))

-- digits that are a single group
single_group : (case : Option Case) (group : ℕ) (d : IntegerParts) → IsInteger d →
    (let main = rewritten_main case (Some group) d.base d.main d.suffix in
    list_any is_underscore main ≡ false → map (cased case) main ≡ main)
single_group case group d h none =
    let main = rewritten_main case (Some group) d.base d.main d.suffix in
    let ds = map (cased case) (filter is_no_underscore d.main) in
    let same : main ≡ ds = sym (none_filtered main none)
    ∙ digits_left d.base group ds d.suffix (cased_digits d.base case d.main h.digits) in
    ap (map (cased case)) same ∙ (map_twice case (filter is_no_underscore d.main) ∙ sym same)

main_twice : (case : Option Case) (groups : Groups) (d : IntegerParts) → IsInteger d →
    (let main = rewritten_main case (group_of groups d.base d.main) d.base d.main d.suffix in
    rewritten_main case (group_of groups d.base main) d.base main d.suffix ≡ main)
main_twice case Kept d h = map_twice case d.main
main_twice case (Grouped lens) d h = grouped_twice case (len_of lens d.base) d h
main_twice case (Regrouped lens) d h =
    let n = len_of lens d.base in
    let again : List ℕ → Option ℕ = group_of (Regrouped lens) d.base in
    cond_both (list_any is_underscore d.main) (Some n) None
    (λ g. rewritten_main case (again (rewritten_main case g d.base d.main d.suffix)) d.base
    (rewritten_main case g d.base d.main d.suffix) d.suffix
    ≡ rewritten_main case g d.base d.main d.suffix)
    (λ some.
    let main = rewritten_main case (Some n) d.base d.main d.suffix in
    cond_both (list_any is_underscore main) (Some n) None
    (λ g. rewritten_main case g d.base main d.suffix ≡ main)
    (λ more. grouped_twice case n d h) (λ none. single_group case n d h none))
    (λ none.
    let main = map (cased case) d.main in
    cond_both (list_any is_underscore main) (Some n) None
    (λ g. rewritten_main case g d.base main d.suffix ≡ main)
    (λ more. absurd (true≢false (sym more ∙ (any_line case d.main ∙ none))))
    (λ none_left. map_twice case d.main))

integer_twice : (style : Style) (d : IntegerParts) → IsInteger d →
    rewritten_integer style (rewritten_integer style d) ≡ rewritten_integer style d
integer_twice style d h =
    ap (λ (main : List ℕ). record { base = d.base; main = main; suffix = d.suffix })
    (main_twice style.digits style.groups d h)

-- Literals of any kind

pub rewritten_twice : (style : Style) (bytes : List ℕ) (d : Derivation) → IsUtf8 bytes →
    IsLiteral (chars bytes) d → rewritten style (rewritten style d) ≡ rewritten style d
rewritten_twice style bytes (a_bool b) u is = refl
rewritten_twice style bytes (an_integer d) u is = ap an_integer (integer_twice style d is.grammar)
rewritten_twice style bytes (a_float d) u is = ap a_float (float_twice style d is.grammar)
rewritten_twice style bytes (a_char d) u is = ap a_char (char_twice char_kind style bytes d u is)
rewritten_twice style bytes (a_byte d) u is = ap a_byte (char_twice byte_kind style bytes d u is)
rewritten_twice style bytes (a_string d) u is =
    ap a_string (string_twice string_kind style bytes d u is)
rewritten_twice style bytes (a_byte_string d) u is =
    ap a_byte_string (string_twice byte_string_kind style bytes d u is)
rewritten_twice style bytes (a_c_string d) u is =
    ap a_c_string (string_twice c_string_kind style bytes d u is)
