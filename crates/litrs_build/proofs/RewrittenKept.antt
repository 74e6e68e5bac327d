-- A style that keeps all literals of a kind leaves them as they are.
use Rattle.std.proofs.Common.{◌≡◌, ℕ, true, List, [], ◌∷◌, ◌++◌, refl, sym, ap, ◌∙◌}
use Rattle.std.specs.Prelude.{◌==◌, Option, Some, None}
use Rattle.std.specs.Str.{chars}
use Rattle.std.proofs.lemmas.Bool.{cond_both, false≢true}
use Rattle.std.proofs.lemmas.List.{take-append-drop}
use Rattle.litrs_grammar.specs.CharByte.{CharParts}
use Rattle.litrs_grammar.specs.Float.{FloatParts, number_part, sign_len}
use Rattle.litrs_grammar.specs.Integer.{IntegerParts}
use Rattle.litrs_grammar.specs.Literal.{StringParts, quoted_parts, raw_parts, Derivation, a_bool, an_integer, a_float, a_char, a_byte, a_string, a_byte_string, a_c_string, IsLiteral}
use Rattle.litrs_grammar.specs.LiteralText.{literal_text}
use Rattle.litrs_grammar.specs.Quoted.{Item, plain_item, escape_item, continuation}
use Rattle.litrs_grammar.proofs.LiteralTexts.{literals_are_written}
use Rattle.litrs_build.specs.Rewriting.{plain_rewriting, escape_rewriting, line_feed_rewriting, continuation_rewriting, item_rewriting, before_after, before_next, items_of, char_item_of, as_item, rewritten_items, rewritten_string, rewritten_char, rewritten, keeps, keeps_bodies}
use Rattle.litrs_build.specs.RewrittenFloat.{part_lens, regrouped_float, rewritten_exponent, keeps_floats}
use Rattle.litrs_build.specs.RewrittenInteger.{group_of, rewritten_main, keeps_integers}
use Rattle.litrs_build.specs.Written.{quoted_of}
use Rattle.litrs_build.specs.declared.rewriting.Before.{Before}
use Rattle.litrs_build.specs.declared.rewriting.Before.TheVariants.{Mark}
use Rattle.litrs_build.specs.declared.rewriting.Rewriting.{Rewriting}
use Rattle.litrs_build.specs.declared.rewriting.Rewriting.TheVariants.{Unchanged}
use Rattle.litrs_build.specs.declared.style.Style.{Style}
use Rattle.litrs_build.specs.declared.style.Case.{Case}
use Rattle.litrs_build.specs.declared.style.Escapes.{Escapes}
use Rattle.litrs_build.specs.declared.style.Escapes.TheVariants.{Kept as escapes_kept, Respelled, Needed}
use Rattle.litrs_build.specs.declared.style.FloatGroups.{FloatGroups}
use Rattle.litrs_build.specs.declared.style.FloatGroups.TheVariants.{Kept as floats_kept, Regrouped as floats_regrouped, Grouped as floats_grouped}
use Rattle.litrs_build.specs.declared.style.Groups.{Groups}
use Rattle.litrs_build.specs.declared.style.Groups.TheVariants.{Kept, Regrouped, Grouped}
use Rattle.litrs_build.specs.declared.style.Lines.{Lines}
use Rattle.litrs_build.specs.declared.style.Lines.TheVariants.{Kept as lines_kept, Joined}
use Rattle.litrs_build.proofs.RewrittenFloats.{fraction_kept, without_case}

-- Integers and floats

integer_kept : (case : Option Case) (groups : Groups) (d : IntegerParts) →
    keeps_integers case groups ≡ true →
    rewritten_main case (group_of groups d.base d.main) d.base d.main d.suffix ≡ d.main
integer_kept None Kept d kept = without_case d.main
integer_kept None (Regrouped lens) d kept = absurd (false≢true kept)
integer_kept None (Grouped lens) d kept = absurd (false≢true kept)
integer_kept (Some case) groups d kept = absurd (false≢true kept)

exponent_kept : (t : List ℕ) → rewritten_exponent None None t ≡ t
exponent_kept [] = refl
exponent_kept (c ∷ t) = ap (λ (l : List ℕ). c ∷ l) (take-append-drop (sign_len t) t)

float_kept : (case : Option Case) (groups : FloatGroups) (d : FloatParts) →
    keeps_floats case groups ≡ true → regrouped_float case (part_lens groups (number_part d)) d ≡ d
float_kept None floats_kept d kept = (λ i. record {
  integer = d.integer;
  fraction = fraction_kept d.fraction i;
  exponent = exponent_kept d.exponent i;
  suffix = d.suffix;
})
float_kept None (floats_regrouped lens) d kept = absurd (false≢true kept)
float_kept None (floats_grouped lens) d kept = absurd (false≢true kept)
float_kept (Some case) groups d kept = absurd (false≢true kept)

-- Bodies, chars and bytes

item_kept : (escapes : Escapes) (lines : Lines) (style : Style) (q : ℕ) (before : Before)
    (item : Item) → style.escapes ≡ escapes → style.lines ≡ lines →
    keeps_bodies escapes lines ≡ true → item_rewriting style q before item ≡ Unchanged
item_kept escapes_kept lines_kept style q before (plain_item c) escapes lines kept =
    cond_both (c == 10) (line_feed_rewriting style.lines)
    (plain_rewriting style.escapes q before c) (λ (r : Rewriting). r ≡ Unchanged)
    (λ line. ap line_feed_rewriting lines)
    (λ other. ap (λ (e : Escapes). plain_rewriting e q before c) escapes)
item_kept escapes_kept lines_kept style q before (escape_item e) escapes lines kept =
    ap (λ (x : Escapes). escape_rewriting x q before e) escapes
item_kept escapes_kept lines_kept style q before (continuation blanks) escapes lines kept =
    ap continuation_rewriting lines
item_kept escapes_kept Joined style q before item escapes lines kept = absurd (false≢true kept)
item_kept Respelled lines style q before item escapes same kept = absurd (false≢true kept)
item_kept Needed lines style q before item escapes same kept = absurd (false≢true kept)

items_kept : (style : Style) (before : Before) (items : List Item) →
    keeps_bodies style.escapes style.lines ≡ true → rewritten_items style before items ≡ items
items_kept style before [] kept = refl
items_kept style before (item ∷ items) kept =
    ap (λ (r : Rewriting). let written = items_of style.escape_digits item r in
    written ++ rewritten_items style (before_after before written) items)
    (item_kept style.escapes style.lines style 34 before item refl refl kept)
    ∙ ap (λ (l : List Item). item ∷ l) (items_kept style (before_next item) items kept)

string_kept : (style : Style) (d : StringParts) →
    keeps_bodies style.escapes style.lines ≡ true → rewritten_string style d ≡ d
string_kept style (quoted_parts d) kept =
    ap (λ (items : List Item). quoted_of items d.suffix) (items_kept style Mark d.items kept)
string_kept style (raw_parts d) kept = refl

char_kept : (style : Style) (d : CharParts) →
    keeps_bodies style.escapes style.lines ≡ true → rewritten_char style d ≡ d
char_kept style d kept =
    ap (λ (r : Rewriting). record {
      item = char_item_of style.escape_digits d.item r;
      suffix = d.suffix;
    })
    (item_kept style.escapes style.lines style 39 Mark (as_item d.item) refl refl kept)

-- Literals of any kind

literal_kept : (style : Style) (d : Derivation) → keeps style d ≡ true → rewritten style d ≡ d
literal_kept style (a_bool b) kept = refl
literal_kept style (an_integer d) kept =
    ap (λ (main : List ℕ). an_integer (record { base = d.base; main = main; suffix = d.suffix }))
    (integer_kept style.digits style.groups d kept)
literal_kept style (a_float d) kept =
    ap a_float (float_kept style.exponents style.float_groups d kept)
literal_kept style (a_char d) kept = ap a_char (char_kept style d kept)
literal_kept style (a_byte d) kept = ap a_byte (char_kept style d kept)
literal_kept style (a_string d) kept = ap a_string (string_kept style d kept)
literal_kept style (a_byte_string d) kept = ap a_byte_string (string_kept style d kept)
literal_kept style (a_c_string d) kept = ap a_c_string (string_kept style d kept)

-- the text of a literal is that of its parts in such a style
pub text_kept : (style : Style) (bytes : List ℕ) (d : Derivation) → IsLiteral (chars bytes) d →
    keeps style d ≡ true → chars bytes ≡ literal_text (rewritten style d)
text_kept style bytes d is kept =
    sym ((literals_are_written (chars bytes) d).0 is).0
    ∙ ap literal_text (sym (literal_kept style d kept))
