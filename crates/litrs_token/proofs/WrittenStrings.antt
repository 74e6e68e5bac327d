-- A text that is written between quotes, with escapes, is a quoted string whose value is the text.
use Rattle.std.proofs.Common.{◌≡◌, ℕ, Bool, true, false, ◌&&◌, eqb, List, [], ◌∷◌, ◌++◌, map, flat_map, refl, sym, ap, subst, ◌∙◌}
use Rattle.std.specs.Prelude.{◌==◌, if◌then◌else◌}
use Rattle.std.specs.Char.{encode_utf8}
use Rattle.std.specs.Str.{chars, IsUtf8, encode_utf8_all}
use Rattle.std.proofs.lemmas.Bool.{eqb-true, and_parts}
use Rattle.std.proofs.lemmas.List.{flat_map_more, append-nil}
use Rattle.std.proofs.lemmas.Str.{encodes-append, encodes-chars, chars-encodes, scalars-chars}
use lib.Utf8.{scalar, scalars}
use Rattle.litrs_base.specs.Derivations.{IsOnlyDerivation}
use Rattle.litrs_base.specs.Quotes.{string_switches}
use Rattle.litrs_grammar.specs.Escape.{simple_escape}
use Rattle.litrs_grammar.specs.Literal.{IsLiteral, Derivation, a_string, quoted_parts}
use Rattle.litrs_grammar.specs.Quoted.{Item, plain_item, escape_item, item_text, item_value, is_item, body_text, body_value, takes_all_blanks, is_body, QuotedParts}
use Rattle.litrs_grammar.proofs.LiteralTexts.{literals_parse_back}
use Rattle.litrs_lex.proofs.SuffixBytes.{is_suffix-nil}
use Rattle.litrs_token.specs.declared.kind.TokenKind.TheVariants as token
use Rattle.litrs_token.specs.LiteralToken.{IsLiteralToken}
use Rattle.litrs_token.specs.StringToken.{escaped, string_token, IsStringOf}

-- One character

-- the item that is written for a character
abbrev item_of : ℕ → Item
item_of c =
    if c == 34 then escape_item (simple_escape 34)
    else if c == 92 then escape_item (simple_escape 92)
    else if c == 10 then escape_item (simple_escape 110)
    else if c == 13 then escape_item (simple_escape 114)
    else if c == 9 then escape_item (simple_escape 116)
    else if c == 0 then escape_item (simple_escape 48)
    else plain_item c

-- It is an item, written as the escaped character, and its value is the character.
record IsWritten (c : ℕ) : Type 0 where
  text : item_text (item_of c) ≡ escaped c
  value : item_value (item_of c) ≡ encode_utf8 c
  grammar : is_item string_switches (item_of c) ≡ true
  free : (x : List ℕ) → takes_all_blanks (item_of c) x ≡ true
  scalars : scalar c ≡ true → scalars (escaped c) ≡ true

-- one of the six characters
abbrev computed : (c : ℕ) → item_text (item_of c) ≡ escaped c →
    item_value (item_of c) ≡ encode_utf8 c → is_item string_switches (item_of c) ≡ true →
    ((x : List ℕ) → takes_all_blanks (item_of c) x ≡ true) → scalars (escaped c) ≡ true →
    IsWritten c
computed c text value grammar free all =
    record { text = text; value = value; grammar = grammar; free = free; scalars = λ e. all }

written_quote : IsWritten 34
unfolding encode_utf8
written_quote = computed 34 refl refl refl (λ x. refl) refl

written_backslash : IsWritten 92
unfolding encode_utf8
written_backslash = computed 92 refl refl refl (λ x. refl) refl

written_line_feed : IsWritten 10
unfolding encode_utf8
written_line_feed = computed 10 refl refl refl (λ x. refl) refl

written_return : IsWritten 13
unfolding encode_utf8
written_return = computed 13 refl refl refl (λ x. refl) refl

written_tab : IsWritten 9
unfolding encode_utf8
written_tab = computed 9 refl refl refl (λ x. refl) refl

written_nul : IsWritten 0
unfolding encode_utf8
written_nul = computed 0 refl refl refl (λ x. refl) refl

-- any other character
written_plain : (c : ℕ) → eqb c 34 ≡ false → eqb c 92 ≡ false → eqb c 10 ≡ false →
    eqb c 13 ≡ false → eqb c 9 ≡ false → eqb c 0 ≡ false → IsWritten c
written_plain c quote backslash line_feed return tab nul = record {
  text = rw (quote, backslash, line_feed, return, tab, nul) refl;
  value = rw (quote, backslash, line_feed, return, tab, nul) refl;
  grammar = simp (quote, backslash, line_feed, return, tab, nul);
  free = λ x. rw (quote, backslash, line_feed, return, tab, nul) refl;
  scalars = λ e. rw (quote, backslash, line_feed, return, tab, nul, e) refl;
}

-- either the character is this one, or the test fails
or_other : (c d : ℕ) → IsWritten d → (eqb c d ≡ false → IsWritten c) → IsWritten c
or_other c d here other = go (eqb c d) refl
  where
    go : (b : Bool) → eqb c d ≡ b → IsWritten c
    go true e = subst IsWritten (sym (eqb-true c d e)) here
    go false e = other e

is_written : (c : ℕ) → IsWritten c
is_written c =
    or_other c 34 written_quote (λ quote.
    or_other c 92 written_backslash (λ backslash.
    or_other c 10 written_line_feed (λ line_feed.
    or_other c 13 written_return (λ return.
    or_other c 9 written_tab (λ tab.
    or_other c 0 written_nul (λ nul.
    written_plain c quote backslash line_feed return tab nul))))))

-- All characters

items_of : List ℕ → List Item
items_of t = map item_of t

body_text-items : (t : List ℕ) → body_text (items_of t) ≡ flat_map escaped t
unfolding items_of
body_text-items [] = refl
body_text-items (c ∷ t) =
    ap (λ x. x ++ body_text (map item_of t)) (is_written c).text
    ∙ ap (λ x. escaped c ++ x) (body_text-items t)

body_value-items : (t : List ℕ) → body_value (items_of t) ≡ encode_utf8_all t
unfolding items_of
body_value-items [] = refl
body_value-items (c ∷ t) =
    ap (λ x. x ++ body_value (map item_of t)) (is_written c).value
    ∙ ap (λ x. encode_utf8 c ++ x) (body_value-items t)

is_body-items : (t : List ℕ) → is_body string_switches (items_of t) ≡ true
unfolding items_of
is_body-items [] = refl
is_body-items (c ∷ t) =
    let written = is_written c in
    rw (written.grammar, written.free (body_text (map item_of t)), is_body-items t) refl

parts_of : List ℕ → QuotedParts
parts_of t = record { items = items_of t; suffix = [] }

string_parts : List ℕ → Derivation
string_parts t = a_string (quoted_parts (parts_of t))

only_string : (t : List ℕ) → IsOnlyDerivation (IsLiteral (string_token t)) (string_parts t)
unfolding parts_of string_parts
only_string t =
    let only = literals_parse_back (string_parts t) (is_body-items t, is_suffix-nil) in
    let Holds : List ℕ → Type 0 =
    λ x. IsOnlyDerivation (IsLiteral (34 ∷ (x ++ 34 ∷ []))) (string_parts t) in
    subst Holds (body_text-items t) only

pub string_of : (t : List ℕ) → IsStringOf (string_token t) (encode_utf8_all t)
unfolding parts_of string_parts
string_of t = record {
  parts = parts_of t;
  only = only_string t;
  is_value = body_value-items t;
  no_suffix = refl;
}

pub string_literal_token : (t value : List ℕ) → IsStringOf t value →
    IsLiteralToken t token.StringLit
string_literal_token t value s = record {
  derivation = a_string (quoted_parts s.parts);
  literal = s.only.0;
  no_bool = λ e. cc;
  is_kind = refl;
}

-- In bytes, character by character

-- the bytes of the opening quote and of some characters
abbrev pub opened : List ℕ → List ℕ
opened cs = encode_utf8_all (34 ∷ flat_map escaped cs)

pub more_escaped : (bytes more cs : List ℕ) (c : ℕ) → bytes ≡ opened cs →
    more ≡ bytes ++ encode_utf8_all (escaped c) → more ≡ opened (cs ++ c ∷ [])
more_escaped bytes more cs c so_far is =
    is ∙ (ap (λ (x : List ℕ). x ++ encode_utf8_all (escaped c)) so_far
    ∙ (sym (encodes-append (34 ∷ flat_map escaped cs) (escaped c))
    ∙ ap encode_utf8_all (flat_map_more escaped (34 ∷ []) cs c)))

closed : (cs : List ℕ) → opened cs ++ encode_utf8 34 ≡ encode_utf8_all (string_token cs)
closed cs =
    ap (λ (x : List ℕ). opened cs ++ x) (sym (append-nil (encode_utf8 34)))
    ∙ sym (encodes-append (34 ∷ flat_map escaped cs) (34 ∷ []))

pub all_escaped : (bytes more cs ds : List ℕ) → bytes ≡ opened cs → cs ≡ ds →
    more ≡ bytes ++ encode_utf8 34 → more ≡ encode_utf8_all (string_token ds)
all_escaped bytes more cs ds so_far same is =
    is ∙ (ap (λ (x : List ℕ). x ++ encode_utf8 34) (so_far ∙ ap opened same) ∙ closed ds)

-- The written text is a text if the value is one.

and_true : (a b : Bool) → a ≡ true → b ≡ true → (a && b) ≡ true
and_true a b e f = rw (e, f) refl

scalars_append : (s t : List ℕ) → scalars s ≡ true → scalars t ≡ true → scalars (s ++ t) ≡ true
scalars_append [] t a b = b
scalars_append (c ∷ s) t a b =
    let both = and_parts (scalar c) (scalars s) a in
    and_true (scalar c) (scalars (s ++ t)) both.0 (scalars_append s t both.1 b)

escaped_scalars : (t : List ℕ) → scalars t ≡ true → scalars (flat_map escaped t) ≡ true
escaped_scalars [] a = refl
escaped_scalars (c ∷ t) a =
    let both = and_parts (scalar c) (scalars t) a in
    let first = (is_written c).scalars both.0 in
    scalars_append (escaped c) (flat_map escaped t) first (escaped_scalars t both.1)

-- the characters of a text that was written
pub written_chars : (bytes value : List ℕ) → IsUtf8 value →
    bytes ≡ encode_utf8_all (string_token (chars value)) → chars bytes ≡ string_token (chars value)
written_chars bytes value u is =
    let inner = escaped_scalars (chars value) (scalars-chars value u) in
    ap chars is ∙ chars-encodes (string_token (chars value))
    (scalars_append (flat_map escaped (chars value)) (34 ∷ []) inner refl)

pub written_string : (bytes value : List ℕ) → IsUtf8 value →
    bytes ≡ encode_utf8_all (string_token (chars value)) → IsStringOf (chars bytes) value
written_string bytes value u is =
    let Written : List ℕ → Type 0 = λ t. IsStringOf t value in
    let HasValue : List ℕ → Type 0 = λ v. IsStringOf (string_token (chars value)) v in
    subst Written (sym (written_chars bytes value u is))
    (subst HasValue (encodes-chars value u) (string_of (chars value)))
