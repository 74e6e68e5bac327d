-- The item at the front of a text, by its first bytes.
use Rattle.std.proofs.Common.{◌≡◌, ℕ, ◌+◌, ◌<◌, Bool, true, false, not, ◌||◌, List, [], ◌∷◌, ◌++◌, length, drop, get_or, cond, refl, sym, ap, ◌∙◌, subst, arith}
use Rattle.std.specs.Prelude.{◌==◌}
use Rattle.std.specs.List.{list_all, prefix_len}
use Rattle.std.specs.Str.{chars, IsUtf8}
use Rattle.std.proofs.lemmas.Bool.{eqb-true, eq-eqb, true≢false, not-true, and_parts}
use Rattle.litrs_base.specs.Characters.{is_blank}
use Rattle.litrs_base.specs.Text.{byte_len, first_passes, is_empty}
use Rattle.litrs_base.specs.declared.escape.Unescape.{Unescape}
use Rattle.litrs_base.specs.declared.quotes.Switches.{Switches}
use Rattle.litrs_base.proofs.ByteLen.{byte_len_one_ascii, byte_len_all_ascii}
use Rattle.litrs_base.proofs.Chars.{chars_ascii, utf8_after_ascii, ascii_from_test, first_passes-chars, prefix_len-chars}
use Rattle.litrs_grammar.specs.Escape.{Escape, simple_escape, hex_escape, unicode_escape, escape_text, escape_value, is_escape, is_simple}
use Rattle.litrs_grammar.specs.Laws.Escape.{BeginsWithEscape}
use Rattle.litrs_grammar.proofs.Laws.Escape.{by_simple}
use Rattle.litrs_grammar.specs.Quoted.{Item, plain_item, escape_item, continuation, item_text, takes_all_blanks}
use Rattle.litrs_lex.specs.Unescaped.{IsUnescaped}
use Rattle.litrs_lex.proofs.AsciiTests.{only_char}
use Rattle.litrs_lex.proofs.EscapeEnds.{slash_byte, slash_chars, starts_escape}
use Rattle.litrs_lex.proofs.QuotedBytes.{blank_ascii}
use Rattle.litrs_build.specs.BodyItem.{BeginsWithItem, IsItemRead, IsLetterOf, is_any_item}
use Rattle.litrs_build.specs.Rewriting.{own_spelling}
use Rattle.litrs_build.specs.declared.body_item.BodyItem.TheVariants.{Escape as an_escape, Continuation}
use Rattle.litrs_build.specs.declared.spelling.Spelling.{Spelling}

abbrev pub is_slash : ℕ → Bool
is_slash c = c == 92

-- A continuation

blank_low : (c : ℕ) → is_blank c ≡ true → c < 128
blank_low c is = ascii_from_test is_blank c blank_ascii is

run_of : (blanks after : List ℕ) → list_all is_blank blanks ≡ true →
    first_passes is_blank after ≡ false → prefix_len is_blank (blanks ++ after) ≡ length blanks
run_of [] [] all ends = refl
run_of [] (c ∷ after) all ends = ap (λ (b : Bool). cond b (1 + prefix_len is_blank after) 0) ends
run_of (c ∷ blanks) after all ends =
    let both = and_parts (is_blank c) (list_all is_blank blanks) all in
    ap (λ (b : Bool). cond b (1 + prefix_len is_blank (blanks ++ after)) 0) both.0
    ∙ omega (arith, run_of blanks after both.1 ends)

continuation_by : (w : Switches) (t : List ℕ) (len : ℕ) (item : Item) (after : List ℕ) →
    len ≡ 2 + prefix_len is_blank t → 92 ∷ 10 ∷ t ≡ item_text item ++ after →
    is_any_item w item ≡ true → takes_all_blanks item after ≡ true →
    IsItemRead Continuation len item
continuation_by w t len (plain_item c) after size spells is taken =
    let same : 92 ≡ c = cc in
    absurd (true≢false (sym is ∙ ap (λ (n : ℕ). not (n == 92)) (sym same)))
continuation_by w t len (escape_item (simple_escape c)) after size spells is taken =
    let same : 10 ≡ c = cc in
    absurd (true≢false (sym (and_parts (is_simple c) _ is).0 ∙ ap is_simple (sym same)))
continuation_by w t len (escape_item (hex_escape high low)) after size spells is taken =
    absurd (let same : 10 ∷ t ≡ 120 ∷ (high ∷ low ∷ after) = ap (drop 1) spells in cc)
continuation_by w t len (escape_item (unicode_escape inner)) after size spells is taken =
    absurd (let same : 10 ∷ t ≡ 117 ∷ (123 ∷ ((inner ++ 125 ∷ []) ++ after)) = ap (drop 1) spells in cc)
continuation_by w t len (continuation blanks) after size spells is taken =
    let same : t ≡ blanks ++ after = cc in
    let run : prefix_len is_blank t ≡ length blanks =
    ap (prefix_len is_blank) same
    ∙ run_of blanks after is (not-true (first_passes is_blank after) taken) in
    let two : byte_len (92 ∷ 10 ∷ blanks) ≡ 2 + byte_len blanks =
    byte_len_one_ascii 92 (10 ∷ blanks) (omega arith)
    ∙ (ap (λ (n : ℕ). 1 + n) (byte_len_one_ascii 10 blanks (omega arith)) ∙ omega arith) in
    let all = byte_len_all_ascii is_blank blank_low blanks is in
    (tt, omega (arith, two, all, size, run))

pub continuation_read : (w : Switches) (bytes t : List ℕ) (len : ℕ) (item : Item)
    (after : List ℕ) → IsUtf8 bytes → bytes ≡ 92 ∷ 10 ∷ t → len ≡ 2 + prefix_len is_blank t →
    BeginsWithItem w bytes item after → IsItemRead Continuation len item
continuation_read w bytes t len item after u is size begins =
    let all : IsUtf8 (92 ∷ 10 ∷ t) = subst (λ (l : List ℕ). IsUtf8 l) is u in
    let rest : IsUtf8 t = utf8_after_ascii 10 t (omega arith)
    (utf8_after_ascii 92 (10 ∷ t) (omega arith) all) in
    let split : chars bytes ≡ 92 ∷ 10 ∷ chars t =
    ap chars is ∙ (chars_ascii 92 (10 ∷ t) (omega arith)
    ∙ ap (λ (l : List ℕ). 92 ∷ l) (chars_ascii 10 t (omega arith))) in
    continuation_by w (chars t) len item after
    (size ∙ ap (λ (n : ℕ). 2 + n) (sym (prefix_len-chars is_blank t blank_ascii rest)))
    (sym split ∙ begins.spells) begins.allowed begins.taken

-- An escape

pub slash_begins : (bytes : List ℕ) → IsUtf8 bytes → first_passes is_slash bytes ≡ true →
    (is_empty (chars bytes) || first_passes is_slash (chars bytes)) ≡ true
slash_begins bytes u e = starts_escape bytes u e

-- the escape that the item is
escape_is : (w : Switches) (t : List ℕ) (item : Item) (after : List ℕ) →
    first_passes (λ c. c == 10) t ≡ false → 92 ∷ t ≡ item_text item ++ after →
    is_any_item w item ≡ true →
    (e : Escape) × (item ≡ escape_item e) × (escape_text e ++ after ≡ 92 ∷ t) × (is_escape w e ≡ true)
escape_is w t (plain_item c) after other spells is =
    let same : 92 ≡ c = cc in
    absurd (true≢false (sym is ∙ ap (λ (n : ℕ). not (n == 92)) (sym same)))
escape_is w t (escape_item e) after other spells is = (e, refl, sym spells, is)
escape_is w t (continuation blanks) after other spells is =
    let same : t ≡ 10 ∷ (blanks ++ after) = cc in
    absurd (true≢false (ap (first_passes (λ c. c == 10)) (sym same) ∙ other))

abbrev IsEscapeItem : Switches → List ℕ → Item → List ℕ → Type 0
IsEscapeItem w bytes item after =
    (e : Escape) × (item ≡ escape_item e) × (escape_text e ++ after ≡ chars bytes)
    × (is_escape w e ≡ true)

escape_begins : (w : Switches) (bytes : List ℕ) (item : Item) (after : List ℕ) → IsUtf8 bytes →
    first_passes is_slash bytes ≡ true → first_passes (λ c. c == 10) (drop 1 bytes) ≡ false →
    BeginsWithItem w bytes item after → IsEscapeItem w bytes item after
escape_begins w bytes item after u slash other begins =
    let split = slash_chars bytes u slash in
    let rest : IsUtf8 (drop 1 bytes) = utf8_after_ascii 92 (drop 1 bytes) (omega arith)
    (subst (λ (l : List ℕ). IsUtf8 l) (slash_byte bytes slash) u) in
    let found = escape_is w (chars (drop 1 bytes)) item after
    (first_passes-chars (λ c. c == 10) (drop 1 bytes) (only_char 10 (omega arith)) rest ∙ other)
    (sym split ∙ begins.spells) begins.allowed in
    (found.0, found.1, found.2 ∙ sym split, found.3)

-- the letter after the backslash
second_byte : (x : ℕ) (bs : List ℕ) → first_passes (λ c. c == x) (drop 1 bs) ≡ true →
    get_or bs 1 0 ≡ x
second_byte x [] e = cc
second_byte x (b ∷ []) e = cc
second_byte x (b ∷ c ∷ bs) e = eqb-true c x e

second_is : (bytes : List ℕ) (x letter : ℕ) (t : List ℕ) → IsUtf8 bytes →
    first_passes is_slash bytes ≡ true → x < 128 → 92 ∷ x ∷ t ≡ chars bytes →
    letter ≡ get_or bytes 1 0 → letter ≡ x
second_is bytes x letter t u slash low spells is =
    let rest : IsUtf8 (drop 1 bytes) = utf8_after_ascii 92 (drop 1 bytes) (omega arith)
    (subst (λ (l : List ℕ). IsUtf8 l) (slash_byte bytes slash) u) in
    let same : x ∷ t ≡ chars (drop 1 bytes) =
    ap (drop 1) (spells ∙ slash_chars bytes u slash) in
    is ∙ second_byte x bytes (sym (first_passes-chars (λ c. c == x) (drop 1 bytes)
    (only_char x low) rest) ∙ (ap (first_passes (λ c. c == x)) (sym same) ∙ eq-eqb x x refl))

simple_small : (c : ℕ) → is_simple c ≡ true → c < 128
simple_small c is = by_simple (λ c. c < 128) c is (omega arith) (omega arith) (omega arith)
    (omega arith) (omega arith) (omega arith) (omega arith)

letter_of : (w : Switches) (e : Escape) (after bytes : List ℕ) (letter : ℕ) → IsUtf8 bytes →
    first_passes is_slash bytes ≡ true → escape_text e ++ after ≡ chars bytes →
    is_escape w e ≡ true → letter ≡ get_or bytes 1 0 → IsLetterOf letter e
letter_of w (simple_escape c) after bytes letter u slash spells grammar is =
    let simple = (and_parts (is_simple c) _ grammar).0 in
    (second_is bytes c letter after u slash (simple_small c simple) spells is, simple)
letter_of w (hex_escape high low) after bytes letter u slash spells grammar is =
    second_is bytes 120 letter (high ∷ low ∷ after) u slash (omega arith) spells is
letter_of w (unicode_escape inner) after bytes letter u slash spells grammar is =
    second_is bytes 117 letter (123 ∷ ((inner ++ 125 ∷ []) ++ after)) u slash (omega arith) spells is

pub escape_read : (w : Switches) (bytes : List ℕ) (value : Unescape) (len letter : ℕ)
    (spelling : Spelling) (item : Item) (after : List ℕ) → IsUtf8 bytes →
    first_passes is_slash bytes ≡ true → first_passes (λ c. c == 10) (drop 1 bytes) ≡ false →
    IsUnescaped w bytes value len → letter ≡ get_or bytes 1 0 →
    ((e : Escape) → IsLetterOf letter e → value ≡ escape_value e → spelling ≡ own_spelling e) →
    BeginsWithItem w bytes item after → IsItemRead (an_escape spelling value) len item
escape_read w bytes value len letter spelling item after u slash other read is own begins =
    let found = escape_begins w bytes item after u slash other begins in
    let same : found.0 ≡ read.escape = read.only found.0 after found.2 found.3 in
    let is_value : value ≡ escape_value found.0 = sym read.is_value ∙ ap escape_value (sym same) in
    let size : byte_len (escape_text found.0) ≡ len =
    ap (λ (e : Escape). byte_len (escape_text e)) same ∙ read.size in
    subst (IsItemRead (an_escape spelling value) len) (sym found.1)
    ((own found.0 (letter_of w found.0 after bytes letter u slash found.2 found.3 is) is_value, is_value), size)

pub no_refusal : (w : Switches) (bytes : List ℕ) (item : Item) (after : List ℕ) → IsUtf8 bytes →
    first_passes is_slash bytes ≡ true → first_passes (λ c. c == 10) (drop 1 bytes) ≡ false →
    BeginsWithItem w bytes item after → BeginsWithEscape w (chars bytes)
no_refusal w bytes item after u slash other begins =
    let found = escape_begins w bytes item after u slash other begins in
    (found.0, after, found.2, found.3)
