-- A literal that is rewritten: it is a literal with the same kind, value and suffix.
use Rattle.std.proofs.Common.{◌≡◌, ℕ, ◌<◌, ◌≤◌, Bool, true, false, not, List, [], ◌∷◌, ◌++◌, length, take, drop, refl, sym, ap, ◌∙◌, subst, arith}
use Rattle.std.specs.Prelude.{◌==◌, ◌-◌, slice_range, encode_utf8_all}
use Rattle.std.specs.Char.{encode_utf8}
use Rattle.std.specs.Str.{chars, IsUtf8, IsCharBoundary}
use Rattle.std.proofs.lemmas.Bool.{and_parts, not-true, true≢false}
use Rattle.std.proofs.lemmas.List.{append_assoc}
use Rattle.std.proofs.lemmas.Str.{chars-encodes, encodes-chars, encodes-append, scalars-chars}
use lib.Utf8.{scalars}
use Rattle.litrs_base.specs.Characters.{is_blank, fits_charset, nul_is_allowed}
use Rattle.litrs_base.specs.Quotes.{switches_of, quoted_front, char_front, char_switches_of}
use Rattle.litrs_base.specs.Text.{byte_len, first_passes}
use Rattle.litrs_base.specs.declared.quotes.CharKind.{CharKind}
use Rattle.litrs_base.specs.declared.quotes.CharKind.TheVariants.{Char as char_kind, Byte as byte_kind}
use Rattle.litrs_base.specs.declared.quotes.StringKind.{StringKind}
use Rattle.litrs_base.specs.declared.quotes.StringKind.TheVariants.{String as string_kind, ByteString as byte_string_kind, CString as c_string_kind}
use Rattle.litrs_base.specs.declared.quotes.Switches.{Switches}
use Rattle.litrs_grammar.specs.CharByte.{CharParts, char_text, char_item_text, IsCharLiteral, char_value}
use Rattle.litrs_grammar.specs.Escape.{simple_escape, hex_escape, unicode_escape}
use Rattle.litrs_grammar.specs.Literal.{StringParts, quoted_parts, raw_parts, IsString, string_suffix, string_value, Derivation, a_bool, an_integer, a_float, a_char, a_byte, a_string, a_byte_string, a_c_string, IsLiteral, suffix_of}
use Rattle.litrs_grammar.specs.LiteralText.{string_text, literal_text, AreCharParts, AreStringParts, AreParts}
use Rattle.litrs_grammar.specs.Quoted.{Item, plain_item, escape_item, continuation, item_text, body_text, is_item, is_body, takes_all_blanks, QuotedParts, IsQuotedLiteral}
use Rattle.litrs_grammar.specs.Strings.{StringDerivation, is_raw}
use Rattle.litrs_grammar.proofs.StringDerivations.{string_derivation-prop}
use Rattle.litrs_grammar.proofs.LiteralTexts.{literals_are_written}
use Rattle.litrs_lex.proofs.AsciiTests.{only_char}
use Rattle.litrs_lex.proofs.CharCuts.{cut_at}
use Rattle.litrs_base.proofs.ByteLen.{length-le-byte_len}
use Rattle.litrs_base.proofs.Chars.{first_passes-chars}
use Rattle.std.proofs.Math.Seq.{take-append_seam}
use Rattle.litrs_build.specs.BodyItem.{BeginsWithItem, IsBody, IsItemRead, Reads, is_any_item}
use Rattle.litrs_build.specs.Rewriting.{item_rewriting, items_of, as_item, before_after, rewritten_items, rewritten_string, rewritten_char, rewritten}
use Rattle.litrs_build.specs.WrittenAnew.{HaveSameValue}
use Rattle.litrs_build.specs.declared.body_item.BodyItem.{BodyItem}
use Rattle.litrs_build.specs.declared.rewriting.Before.{Before}
use Rattle.litrs_build.specs.declared.rewriting.Before.TheVariants.{Mark}
use Rattle.litrs_build.specs.declared.rewriting.Rewriting.{Rewriting}
use Rattle.litrs_build.specs.declared.style.Case.{Case}
use Rattle.litrs_build.specs.declared.style.Style.{Style}
use Rattle.litrs_build.proofs.CasedIntegers.{rewritten_is_integer, rewritten_integer-value}
use Rattle.litrs_build.proofs.RewrittenFloats.{rewritten_is_float, rewritten_float-number}
use Rattle.litrs_build.proofs.RewrittenItems.{rewritten_body, scalars_parts}
use Rattle.litrs_build.proofs.RewrittenChars.{rewritten_item, as_item_text, char_is_any, char_takes}
use Rattle.litrs_build.proofs.Spellings.{scalars_append}

-- The front of a text

char_front_scalars : (kind : CharKind) → scalars (char_front kind) ≡ true
char_front_scalars char_kind = refl
char_front_scalars byte_kind = refl

front_bytes : (kind : StringKind) → encode_utf8_all (quoted_front kind) ≡ quoted_front kind
unfolding encode_utf8
front_bytes string_kind = refl
front_bytes byte_string_kind = refl
front_bytes c_string_kind = refl

char_front_bytes : (kind : CharKind) → encode_utf8_all (char_front kind) ≡ char_front kind
unfolding encode_utf8
char_front_bytes char_kind = refl
char_front_bytes byte_kind = refl

-- A text whose first characters are ASCII may be cut after them.
pub record IsFronted (bytes front t : List ℕ) : Type 0 where
  pub before : take (length front) bytes ≡ front
  pub rest : chars (drop (length front) bytes) ≡ t
  pub utf8 : IsUtf8 (drop (length front) bytes)
  pub boundary : IsCharBoundary bytes (length front)
  pub within : length front ≤ length bytes

pub front_of : (bytes a b : List ℕ) → IsUtf8 bytes → chars bytes ≡ a ++ b →
    take (byte_len a) bytes ≡ encode_utf8_all a
front_of bytes a b u split =
    ap (take (byte_len a)) (sym (encodes-chars bytes u)
    ∙ (ap encode_utf8_all split ∙ encodes-append a b))
    ∙ take-append_seam (encode_utf8_all a) (encode_utf8_all b)

fronted : (bytes front t : List ℕ) → IsUtf8 bytes → front ++ t ≡ chars bytes →
    encode_utf8_all front ≡ front → IsFronted bytes front t
fronted bytes front t u spells ascii =
    let cut = cut_at bytes front t u (sym spells) in
    let size : byte_len front ≡ length front = ap length ascii in record {
      before = ap (λ (n : ℕ). take n bytes) (sym size)
          ∙ (front_of bytes front t u (sym spells) ∙ ascii);
      rest = subst (λ (n : ℕ). chars (drop n bytes) ≡ t) size cut.rest;
      utf8 = subst (λ (n : ℕ). IsUtf8 (drop n bytes)) size cut.utf8;
      boundary = subst (λ (n : ℕ). IsCharBoundary bytes n) size cut.boundary;
      within = subst (λ (n : ℕ). n ≤ length bytes) size cut.within;
    }

pub quoted_fronted : (kind : StringKind) (bytes : List ℕ) (d : QuotedParts) → IsUtf8 bytes →
    IsQuotedLiteral kind (chars bytes) d →
    IsFronted bytes (quoted_front kind) (body_text d.items ++ 34 ∷ d.suffix)
quoted_fronted kind bytes d u is = fronted bytes _ _ u is.spells (front_bytes kind)

pub char_fronted : (kind : CharKind) (bytes : List ℕ) (d : CharParts) → IsUtf8 bytes →
    IsCharLiteral kind (chars bytes) d →
    IsFronted bytes (char_front kind) (char_item_text d.item ++ 39 ∷ d.suffix)
char_fronted kind bytes d u is = fronted bytes _ _ u is.spells (char_front_bytes kind)

-- Quoted strings

-- The parts are those of a string of the kind, with the value and the suffix of the others.
pub record IsStringLike (kind : StringKind) (d e : StringParts) : Type 0 where
  pub parts : AreStringParts kind e
  pub value : string_value d ≡ string_value e
  pub suffix : string_suffix e ≡ string_suffix d
  pub text : scalars (string_text kind e) ≡ true

pub rewritten_is_string : (kind : StringKind) (style : Style) (bytes : List ℕ) (d : StringParts) →
    IsUtf8 bytes → IsString kind (chars bytes) d → IsStringLike kind d (rewritten_string style d)
rewritten_is_string kind style bytes (quoted_parts d) u is =
    let all : scalars (quoted_front kind ++ (body_text d.items ++ 34 ∷ d.suffix)) ≡ true =
    ap scalars is.spells ∙ scalars-chars bytes u in
    let body = scalars_parts (quoted_front kind) (body_text d.items ++ 34 ∷ d.suffix) all in
    let parts = scalars_parts (body_text d.items) (34 ∷ d.suffix) body.1 in
    let like = rewritten_body (switches_of kind) style Mark d.items is.body parts.0 in record {
      parts = (like.body, is.suffix);
      value = sym like.value;
      suffix = refl;
      text = scalars_append (quoted_front kind) _ body.0
          (scalars_append (body_text (rewritten_items style Mark d.items)) (34 ∷ d.suffix)
          like.text parts.1);
    }
rewritten_is_string kind style bytes (raw_parts d) u is = record {
  parts = is.grammar;
  value = refl;
  suffix = refl;
  text = ap scalars is.spells ∙ scalars-chars bytes u;
}

-- the characters of the text
pub quoted_chars : (kind : StringKind) (style : Style) (bytes text : List ℕ) (d : QuotedParts) →
    IsUtf8 bytes → IsQuotedLiteral kind (chars bytes) d →
    text ≡ encode_utf8_all (quoted_front kind
    ++ (body_text (rewritten_items style Mark d.items) ++ 34 ∷ d.suffix)) →
    chars text ≡ string_text kind (rewritten_string style (quoted_parts d))
quoted_chars kind style bytes text d u is written =
    ap chars written
    ∙ chars-encodes _ (rewritten_is_string kind style bytes (quoted_parts d) u is).text

-- Chars and bytes

pub record IsCharPartsLike (kind : CharKind) (d e : CharParts) : Type 0 where
  pub parts : AreCharParts kind e
  pub value : char_value d.item ≡ char_value e.item
  pub text : scalars (char_text kind e) ≡ true

pub item_scalars : (kind : CharKind) (bytes : List ℕ) (d : CharParts) → IsUtf8 bytes →
    IsCharLiteral kind (chars bytes) d →
    (scalars (char_item_text d.item) ≡ true) × (scalars (39 ∷ d.suffix) ≡ true)
item_scalars kind bytes d u is =
    let all : scalars (char_front kind ++ (char_item_text d.item ++ 39 ∷ d.suffix)) ≡ true =
    ap scalars is.spells ∙ scalars-chars bytes u in
    scalars_parts (char_item_text d.item) (39 ∷ d.suffix)
    (scalars_parts (char_front kind) (char_item_text d.item ++ 39 ∷ d.suffix) all).1

pub rewritten_is_char : (kind : CharKind) (style : Style) (bytes : List ℕ) (d : CharParts) →
    IsUtf8 bytes → IsCharLiteral kind (chars bytes) d →
    IsCharPartsLike kind d (rewritten_char style d)
rewritten_is_char kind style bytes d u is =
    let texts = item_scalars kind bytes d u is in
    let like = rewritten_item kind style d.item is.item texts.0 in record {
      parts = (like.is_item, is.suffix);
      value = sym like.value;
      text = scalars_append (char_front kind) _ (char_front_scalars kind)
          (scalars_append (char_item_text (rewritten_char style d).item) (39 ∷ d.suffix) like.text
          texts.1);
    }

-- Literals of any kind

abbrev pub IsLiteralLike : Style → Derivation → Type 0
IsLiteralLike style d =
    HaveSameValue d (rewritten style d) × (suffix_of (rewritten style d) ≡ suffix_of d)

pub rewritten_like : (style : Style) (bytes : List ℕ) (d : Derivation) → IsUtf8 bytes →
    IsLiteral (chars bytes) d → IsLiteralLike style d
rewritten_like style bytes (a_bool b) u is = (refl, refl)
rewritten_like style bytes (an_integer d) u is =
    ((refl, rewritten_integer-value style d is.grammar), refl)
rewritten_like style bytes (a_float d) u is = (rewritten_float-number style d is.grammar, refl)
rewritten_like style bytes (a_char d) u is =
    ((rewritten_is_char char_kind style bytes d u is).value, refl)
rewritten_like style bytes (a_byte d) u is =
    ((rewritten_is_char byte_kind style bytes d u is).value, refl)
rewritten_like style bytes (a_string d) u is =
    let like = rewritten_is_string string_kind style bytes d u is in (like.value, like.suffix)
rewritten_like style bytes (a_byte_string d) u is =
    let like = rewritten_is_string byte_string_kind style bytes d u is in (like.value, like.suffix)
rewritten_like style bytes (a_c_string d) u is =
    let like = rewritten_is_string c_string_kind style bytes d u is in (like.value, like.suffix)

-- the text of the parts is a literal with these parts
pub rewritten_literal : (style : Style) (bytes text : List ℕ) (d : Derivation) → IsUtf8 bytes →
    IsLiteral (chars bytes) d → chars text ≡ literal_text (rewritten style d) →
    IsLiteral (chars text) (rewritten style d)
rewritten_literal style bytes text d u is written =
    (literals_are_written (chars text) (rewritten style d)).1 (sym written, parts style bytes d u is)
  where
    parts : (style : Style) (bytes : List ℕ) (d : Derivation) → IsUtf8 bytes →
        IsLiteral (chars bytes) d → AreParts (rewritten style d)
    parts style bytes (a_bool b) u is = tt
    parts style bytes (an_integer d) u is = rewritten_is_integer style d is.grammar
    parts style bytes (a_float d) u is = rewritten_is_float style d is.grammar
    parts style bytes (a_char d) u is = (rewritten_is_char char_kind style bytes d u is).parts
    parts style bytes (a_byte d) u is = (rewritten_is_char byte_kind style bytes d u is).parts
    parts style bytes (a_string d) u is =
        (rewritten_is_string string_kind style bytes d u is).parts
    parts style bytes (a_byte_string d) u is =
        (rewritten_is_string byte_string_kind style bytes d u is).parts
    parts style bytes (a_c_string d) u is =
        (rewritten_is_string c_string_kind style bytes d u is).parts

-- Turns of the loop

-- the item at the front of a body
any_item : (w : Switches) (item : Item) → is_item w item ≡ true → is_any_item w item ≡ true
any_item w (plain_item c) is =
    let value = and_parts _ (nul_is_allowed w.allow_nul c) is in
    let charset = and_parts _ (fits_charset w.unicode c) value.0 in
    let return = and_parts _ (not (c == 13)) charset.0 in
    (and_parts (not (c == 34)) (not (c == 92)) return.0).1
any_item w (escape_item e) is = is
any_item w (continuation blanks) is = is

blank_or_quote : (t suffix : List ℕ) → first_passes is_blank (t ++ 34 ∷ suffix) ≡ first_passes is_blank t
blank_or_quote [] suffix = refl
blank_or_quote (c ∷ t) suffix = refl

takes_before_quote : (item : Item) (t suffix : List ℕ) → takes_all_blanks item t ≡ true →
    takes_all_blanks item (t ++ 34 ∷ suffix) ≡ true
takes_before_quote (plain_item c) t suffix is = refl
takes_before_quote (escape_item e) t suffix is = refl
takes_before_quote (continuation blanks) t suffix is =
    ap not (blank_or_quote t suffix) ∙ is

pub first_item : (w : Switches) (bytes : List ℕ) (item : Item) (items : List Item)
    (suffix : List ℕ) → IsBody w bytes (item ∷ items) suffix →
    BeginsWithItem w bytes item (body_text items ++ 34 ∷ suffix)
first_item w bytes item items suffix b =
    let both = and_parts _ (is_body w items) b.body in
    let first = and_parts (is_item w item) _ both.0 in record {
      spells = b.spells ∙ append_assoc (item_text item) (body_text items) (34 ∷ suffix);
      allowed = any_item w item first.0;
      taken = takes_before_quote item (body_text items) suffix first.1;
    }

-- a body that does not start with the quote has an item
no_quote : (w : Switches) (bytes suffix : List ℕ) → IsUtf8 bytes → IsBody w bytes [] suffix →
    first_passes (λ c. c == 34) bytes ≡ false → ⊥
no_quote w bytes suffix u b other =
    true≢false (sym (ap (first_passes (λ c. c == 34)) b.spells)
    ∙ (first_passes-chars (λ c. c == 34) bytes (only_char 34 (omega arith)) u ∙ other))

-- an item does not start with a quote, so that a body that does is empty
quote_item : (w : Switches) (item : Item) (t : List ℕ) → is_item w item ≡ true →
    first_passes (λ c. c == 34) (item_text item ++ t) ≡ false
quote_item w (plain_item c) t is =
    let value = and_parts _ (nul_is_allowed w.allow_nul c) is in
    let charset = and_parts _ (fits_charset w.unicode c) value.0 in
    let return = and_parts _ (not (c == 13)) charset.0 in
    not-true (c == 34) (and_parts (not (c == 34)) (not (c == 92)) return.0).0
quote_item w (escape_item (simple_escape c)) t is = refl
quote_item w (escape_item (hex_escape high low)) t is = refl
quote_item w (escape_item (unicode_escape inner)) t is = refl
quote_item w (continuation blanks) t is = refl

pub no_item : (w : Switches) (bytes : List ℕ) (items : List Item) (suffix : List ℕ) →
    IsUtf8 bytes → IsBody w bytes items suffix → first_passes (λ c. c == 34) bytes ≡ true →
    items ≡ []
no_item w bytes [] suffix u b quote = refl
no_item w bytes (item ∷ items) suffix u b quote =
    let both = and_parts _ (is_body w items) b.body in
    let first = and_parts (is_item w item) _ both.0 in
    absurd (true≢false (sym quote
    ∙ (sym (first_passes-chars (λ c. c == 34) bytes (only_char 34 (omega arith)) u)
    ∙ (ap (first_passes (λ c. c == 34)) (b.spells
    ∙ append_assoc (item_text item) (body_text items) (34 ∷ suffix))
    ∙ quote_item w item (body_text items ++ 34 ∷ suffix) first.0))))

-- The body after its first item, and the bytes of the item.
pub record IsStep (w : Switches) (bytes : List ℕ) (len : ℕ) (item : Item) (items : List Item)
    (suffix : List ℕ) : Type 0 where
  pub rest : IsBody w (drop len bytes) items suffix
  pub utf8 : IsUtf8 (drop len bytes)
  pub front : take len bytes ≡ encode_utf8_all (item_text item)
  pub boundary : IsCharBoundary bytes len
  pub within : len ≤ length bytes
  pub some : 0 < len

some_len : (item : Item) → 0 < byte_len (item_text item)
some_len (plain_item c) = let one = length-le-byte_len (c ∷ []) in omega (arith, one)
some_len (escape_item (simple_escape c)) = let one = length-le-byte_len (92 ∷ c ∷ []) in omega (arith, one)
some_len (escape_item (hex_escape high low)) = let one = length-le-byte_len (92 ∷ 120 ∷ high ∷ low ∷ []) in omega (arith, one)
some_len (escape_item (unicode_escape inner)) = let one = length-le-byte_len (92 ∷ 117 ∷ 123 ∷ (inner ++ 125 ∷ [])) in omega (arith, one)
some_len (continuation blanks) = let one = length-le-byte_len (92 ∷ 10 ∷ blanks) in omega (arith, one)

pub step : (w : Switches) (bytes : List ℕ) (len : ℕ) (item : Item) (items : List Item)
    (suffix : List ℕ) → IsUtf8 bytes → IsBody w bytes (item ∷ items) suffix →
    byte_len (item_text item) ≡ len → IsStep w bytes len item items suffix
step w bytes len item items suffix u b size =
    let split : chars bytes ≡ item_text item ++ (body_text items ++ 34 ∷ suffix) =
    b.spells ∙ append_assoc (item_text item) (body_text items) (34 ∷ suffix) in
    let cut = cut_at bytes (item_text item) (body_text items ++ 34 ∷ suffix) u split in
    let both = and_parts _ (is_body w items) b.body in
    subst (λ (n : ℕ). IsStep w bytes n item items suffix) size (record {
      rest = record { spells = cut.rest; body = both.1 };
      utf8 = cut.utf8;
      front = front_of bytes (item_text item) (body_text items ++ 34 ∷ suffix) u split;
      boundary = cut.boundary;
      within = cut.within;
      some = some_len item;
    })

body_text-append : (items others : List Item) →
    body_text (items ++ others) ≡ body_text items ++ body_text others
body_text-append [] others = refl
body_text-append (item ∷ items) others =
    ap (λ (t : List ℕ). item_text item ++ t) (body_text-append items others)
    ∙ sym (append_assoc (item_text item) (body_text items) (body_text others))

-- The items that are left, and the text that they complete.
abbrev pub IsLeft : Switches → Style → Before → (rest text suffix total : List ℕ) → Type 0
IsLeft w style before rest text suffix total =
    (items : List Item) × IsBody w rest items suffix
    × (text ++ encode_utf8_all (body_text (rewritten_items style before items) ++ 34 ∷ suffix)
    ≡ total)

joined : (text written rest end : List ℕ) →
    (text ++ encode_utf8_all written) ++ encode_utf8_all (rest ++ end)
    ≡ text ++ encode_utf8_all ((written ++ rest) ++ end)
joined text written rest end =
    append_assoc text (encode_utf8_all written) (encode_utf8_all (rest ++ end))
    ∙ ap (λ (t : List ℕ). text ++ t) (sym (encodes-append written (rest ++ end))
    ∙ ap encode_utf8_all (sym (append_assoc written rest end)))

-- a turn takes one item
pub take_item : (w : Switches) (style : Style) (before after : Before)
    (rest text new suffix total : List ℕ) (read : BodyItem) (len : ℕ) (r : Rewriting) →
    IsUtf8 rest → first_passes (λ c. c == 34) rest ≡ false →
    ((item : Item) (t : List ℕ) → BeginsWithItem w rest item t → IsItemRead read len item) →
    ((item : Item) → Reads read item → r ≡ item_rewriting style 34 before item) →
    ((item : Item) → take len rest ≡ encode_utf8_all (item_text item) →
    new ≡ text ++ encode_utf8_all (body_text (items_of style.escape_digits item r))) →
    ((item : Item) (case : Case) → Reads read item →
    after ≡ before_after before (items_of case item r)) →
    IsLeft w style before rest text suffix total →
    IsLeft w style after (drop len rest) new suffix total
take_item w style before after rest text new suffix total read len r u other reads rewrites pushes next
    ([], b, whole) = absurd (no_quote w rest suffix u b other)
take_item w style before after rest text new suffix total read len r u other reads rewrites pushes next
    (item ∷ items, b, whole) =
    let case = style.escape_digits in
    let is = reads item (body_text items ++ 34 ∷ suffix) (first_item w rest item items suffix b) in
    let turn = step w rest len item items suffix u b is.1 in
    let same = rewrites item is.0 in
    let written = items_of case item (item_rewriting style 34 before item) in
    let others = rewritten_items style (before_after before written) items in
    let pushed : new ≡ text ++ encode_utf8_all (body_text written) =
    pushes item turn.front
    ∙ ap (λ (q : Rewriting). text ++ encode_utf8_all (body_text (items_of case item q))) same in
    let now : after ≡ before_after before written =
    next item case is.0 ∙ ap (λ (q : Rewriting). before_after before (items_of case item q)) same in (
      items,
      turn.rest,
      ap (λ (a : Before). new ++ encode_utf8_all (body_text (rewritten_items style a items) ++ 34 ∷ suffix)) now
          ∙ (ap (λ (t : List ℕ). t ++ encode_utf8_all (body_text others ++ 34 ∷ suffix)) pushed
          ∙ (joined text (body_text written) (body_text others) (34 ∷ suffix)
          ∙ (ap (λ (t : List ℕ). text ++ encode_utf8_all (t ++ 34 ∷ suffix))
          (sym (body_text-append written others)) ∙ whole))),
    )

-- the place after the item
pub item_step : (w : Switches) (rest : List ℕ) (len : ℕ) (read : BodyItem) (items : List Item) (suffix : List ℕ) →
    IsUtf8 rest → first_passes (λ c. c == 34) rest ≡ false → IsBody w rest items suffix →
    ((item : Item) (t : List ℕ) → BeginsWithItem w rest item t → IsItemRead read len item) →
    (item : Item) × (others : List Item) × IsStep w rest len item others suffix
item_step w rest len read [] suffix u other b reads = absurd (no_quote w rest suffix u b other)
item_step w rest len read (item ∷ items) suffix u other b reads =
    let is = reads item (body_text items ++ 34 ∷ suffix) (first_item w rest item items suffix b) in
    (item, items, step w rest len item items suffix u b is.1)

-- a text with an item at its front
pub some_begins : (w : Switches) (rest : List ℕ) (items : List Item) (suffix : List ℕ) → IsUtf8 rest →
    first_passes (λ c. c == 34) rest ≡ false → IsBody w rest items suffix →
    (item : Item) × (after : List ℕ) × BeginsWithItem w rest item after
some_begins w rest [] suffix u other b = absurd (no_quote w rest suffix u b other)
some_begins w rest (item ∷ items) suffix u other b =
    (item, body_text items ++ 34 ∷ suffix, first_item w rest item items suffix b)

-- at the quote, the rest of the text follows
pub at_quote : (w : Switches) (style : Style) (before : Before)
    (rest text new suffix total : List ℕ) → IsUtf8 rest →
    first_passes (λ c. c == 34) rest ≡ true → new ≡ text ++ rest →
    IsLeft w style before rest text suffix total → new ≡ total
at_quote w style before rest text new suffix total u quote pushed ([], b, whole) =
    pushed ∙ (ap (λ (t : List ℕ). text ++ t)
    (sym (encodes-chars rest u) ∙ ap encode_utf8_all b.spells) ∙ whole)
at_quote w style before rest text new suffix total u quote pushed (item ∷ items, b, whole) =
    absurd (no_cons (no_item w rest (item ∷ items) suffix u b quote))
  where
    no_cons : {x : Item} {xs : List Item} → x ∷ xs ≡ [] → ⊥
    no_cons e = cc

-- The text of a quoted string, as bytes

pub quoted_bytes : (kind : StringKind) (style : Style) (bytes front empty one text : List ℕ)
    (d : QuotedParts) → IsUtf8 bytes → IsQuotedLiteral kind (chars bytes) d →
    front ≡ quoted_front kind → empty ≡ [] → one ≡ empty ++ front →
    text ≡ one ++ encode_utf8_all (body_text (rewritten_items style Mark d.items) ++ 34 ∷ d.suffix) →
    chars text ≡ string_text kind (rewritten_string style (quoted_parts d))
quoted_bytes kind style bytes front empty one text d u is is_front nothing first second =
    let t = body_text (rewritten_items style Mark d.items) ++ 34 ∷ d.suffix in
    quoted_chars kind style bytes text d u is (second
    ∙ (ap (λ (l : List ℕ). l ++ encode_utf8_all t)
    (first ∙ (ap (λ (l : List ℕ). l ++ front) nothing ∙ (is_front ∙ sym (front_bytes kind))))
    ∙ sym (encodes-append (quoted_front kind) t)))

pub quoted_place : (kind : StringKind) (bytes front : List ℕ) (len : ℕ) (d : QuotedParts) →
    IsUtf8 bytes → IsQuotedLiteral kind (chars bytes) d → len ≡ length (quoted_front kind) →
    front ≡ take len bytes → front ≡ quoted_front kind
quoted_place kind bytes front len d u is size before =
    before ∙ (ap (λ (n : ℕ). take n bytes) size ∙ (quoted_fronted kind bytes d u is).before)

-- a string that is not raw is quoted
pub by_quoted : (kind : StringKind) (t : List ℕ) (d : StringParts) (P : StringParts → Type 0) →
    is_raw d ≡ false → IsString kind t d →
    ((q : QuotedParts) → IsQuotedLiteral kind t q → P (quoted_parts q)) → P d
by_quoted kind t (quoted_parts d) P quoted is each = each d is
by_quoted kind t (raw_parts d) P quoted is each = absurd (true≢false quoted)

pub same_form : (kind : StringKind) (t : List ℕ) (d e : StringParts) → IsString kind t d →
    IsString kind t e → is_raw d ≡ is_raw e
same_form kind t d e first second =
    ap (λ (u : StringDerivation kind t). is_raw u.0)
    (string_derivation-prop kind t (d, first) (e, second))

pub quoted_body : (kind : StringKind) (bytes rest : List ℕ) (w : Switches) (d : QuotedParts) →
    IsUtf8 bytes → IsQuotedLiteral kind (chars bytes) d →
    rest ≡ drop (length (quoted_front kind)) bytes → w ≡ switches_of kind →
    IsBody w rest d.items d.suffix
quoted_body kind bytes rest w d u is after same = record {
  spells = ap chars after ∙ (quoted_fronted kind bytes d u is).rest;
  body = ap (λ (v : Switches). is_body v d.items) same ∙ is.body;
}

-- The item of a char, and its text

pub char_begins : (kind : CharKind) (bytes rest : List ℕ) (w : Switches) (d : CharParts) →
    IsUtf8 bytes → IsCharLiteral kind (chars bytes) d →
    rest ≡ drop (length (char_front kind)) bytes → w ≡ char_switches_of kind →
    BeginsWithItem w rest (as_item d.item) (39 ∷ d.suffix)
char_begins kind bytes rest w d u is after same = record {
  spells = ap chars after ∙ ((char_fronted kind bytes d u is).rest
      ∙ ap (λ (t : List ℕ). t ++ 39 ∷ d.suffix) (sym (as_item_text d.item)));
  allowed = ap (λ (v : Switches). is_any_item v (as_item d.item)) same ∙ char_is_any kind d.item is.item;
  taken = char_takes d.item (39 ∷ d.suffix);
}

-- A text that starts with an item may be cut after it.
pub record IsItemCut (rest : List ℕ) (len : ℕ) (item : Item) (after : List ℕ) : Type 0 where
  pub front : take len rest ≡ encode_utf8_all (item_text item)
  pub back : drop len rest ≡ encode_utf8_all after
  pub boundary : IsCharBoundary rest len
  pub within : len ≤ length rest

pub item_cut : (w : Switches) (rest : List ℕ) (len : ℕ) (item : Item) (after : List ℕ) →
    IsUtf8 rest → BeginsWithItem w rest item after → byte_len (item_text item) ≡ len →
    IsItemCut rest len item after
item_cut w rest len item after u begins size =
    let cut = cut_at rest (item_text item) after u begins.spells in
    subst (λ (n : ℕ). IsItemCut rest n item after) size (record {
      front = front_of rest (item_text item) after u begins.spells;
      back = sym (encodes-chars _ cut.utf8) ∙ ap encode_utf8_all cut.rest;
      boundary = cut.boundary;
      within = cut.within;
    })

pub char_rest_utf8 : (kind : CharKind) (bytes rest : List ℕ) (d : CharParts) → IsUtf8 bytes →
    IsCharLiteral kind (chars bytes) d → rest ≡ drop (length (char_front kind)) bytes → IsUtf8 rest
char_rest_utf8 kind bytes rest d u is after =
    subst (λ (l : List ℕ). IsUtf8 l) (sym after) (char_fronted kind bytes d u is).utf8

pub char_place : (kind : CharKind) (bytes front empty one : List ℕ) (len : ℕ) (d : CharParts) →
    IsUtf8 bytes → IsCharLiteral kind (chars bytes) d → len ≡ length (char_front kind) →
    front ≡ take len bytes → empty ≡ [] → one ≡ empty ++ front → one ≡ char_front kind
char_place kind bytes front empty one len d u is size before nothing first =
    first ∙ (ap (λ (l : List ℕ). l ++ front) nothing
    ∙ (before ∙ (ap (λ (n : ℕ). take n bytes) size ∙ (char_fronted kind bytes d u is).before)))

-- the first bytes of a slice
pub front_slice : (bytes : List ℕ) (n : ℕ) → slice_range bytes 0 n ≡ take n bytes
front_slice bytes n = let same : n - 0 ≡ n = omega arith in ap (λ (k : ℕ). take k bytes) same

-- a test of the first byte
pub quote_test : (rest seen : List ℕ) (b v : Bool) → seen ≡ rest →
    b ≡ first_passes (λ c. c == 34) seen → b ≡ v → first_passes (λ c. c == 34) rest ≡ v
quote_test rest seen b v same is value =
    ap (first_passes (λ c. c == 34)) (sym same) ∙ (sym is ∙ value)

pub char_chars : (kind : CharKind) (style : Style) (bytes one two text : List ℕ) (d : CharParts)
    (r : Rewriting) → IsUtf8 bytes → IsCharLiteral kind (chars bytes) d →
    one ≡ char_front kind →
    two ≡ one ++ encode_utf8_all (body_text (items_of style.escape_digits (as_item d.item) r)) →
    text ≡ two ++ encode_utf8_all (39 ∷ d.suffix) →
    r ≡ item_rewriting style 39 Mark (as_item d.item) →
    chars text ≡ char_text kind (rewritten_char style d)
char_chars kind style bytes one two text d r u is first second third same =
    let case = style.escape_digits in
    let texts = item_scalars kind bytes d u is in
    let like = rewritten_item kind style d.item is.item texts.0 in
    let e = rewritten_char style d in
    let item = char_item_text e.item in
    let body : body_text (items_of case (as_item d.item) r) ≡ item =
    ap (λ (q : Rewriting). body_text (items_of case (as_item d.item) q)) same ∙ like.written in
    let all : text ≡ encode_utf8_all (char_text kind e) =
    third ∙ (ap (λ (t : List ℕ). t ++ encode_utf8_all (39 ∷ d.suffix)) (second
    ∙ (ap (λ (t : List ℕ). one ++ encode_utf8_all t) body
    ∙ ap (λ (t : List ℕ). t ++ encode_utf8_all item) (first ∙ sym (char_front_bytes kind))))
    ∙ (append_assoc (encode_utf8_all (char_front kind)) (encode_utf8_all item)
    (encode_utf8_all (39 ∷ d.suffix))
    ∙ (ap (λ (t : List ℕ). encode_utf8_all (char_front kind) ++ t)
    (sym (encodes-append item (39 ∷ d.suffix)))
    ∙ sym (encodes-append (char_front kind) (item ++ 39 ∷ d.suffix))))) in
    ap chars all ∙ chars-encodes (char_text kind e) (rewritten_is_char kind style bytes d u is).text
