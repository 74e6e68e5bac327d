-- Errors, literals with the same value, and literals that are rewritten.
use Rattle.std.proofs.Common.{refl}
use Rattle.std.specs.Prelude.{◌≡◌, true, false, List, [], ◌∷◌, Some, codes}
use Rattle.std.specs.Fmt.{digits}
use Rattle.litrs_grammar.specs.Float.{FloatParts}
use Rattle.litrs_grammar.specs.Integer.{IntegerParts}
use Rattle.litrs_grammar.specs.Literal.{StringParts, a_bool, an_integer, a_float, a_string, a_c_string}
use Rattle.litrs_grammar.proofs.Computing.{computing}
use Rattle.litrs_build.specs.declared.error.BuildError.{BuildError}
use Rattle.litrs_build.specs.declared.error.BuildError.TheVariants.{NotASuffix, Memory}
use Rattle.litrs_build.specs.Errors.{suffix_error, IsErrorOf}
use Rattle.litrs_build.specs.WrittenAnew.{HaveSameValue}
use Rattle.litrs_base.specs.Numeral.{place_sum}
use Rattle.litrs_base.specs.declared.integer.IntegerBase.TheVariants.{Hexadecimal}
use Rattle.litrs_grammar.specs.Quoted.{Item, plain_item, escape_item, continuation}
use Rattle.litrs_grammar.specs.Escape.{simple_escape, unicode_escape}
use Rattle.litrs_build.specs.RewrittenFloat.{grouped_after, rewritten_float}
use Rattle.litrs_build.specs.RewrittenInteger.{rewritten_integer}
use Rattle.litrs_build.specs.Rewriting.{rewritten_items}
use Rattle.litrs_build.specs.WrittenDigits.{grouped}
use Rattle.litrs_build.specs.declared.rewriting.Before.TheVariants.{Mark}
use Rattle.litrs_build.specs.declared.style.Case.TheVariants.{Upper}
use Rattle.litrs_build.specs.declared.style.Escapes.TheVariants.{Respelled}
use Rattle.litrs_build.specs.declared.style.FloatGroups.TheVariants.{Grouped as FloatGrouped}
use Rattle.litrs_build.specs.declared.style.GroupLens.{GroupLens}
use Rattle.litrs_build.specs.declared.style.Groups.TheVariants.{Grouped}
use Rattle.litrs_build.specs.declared.style.Lines.{Lines}
use Rattle.litrs_build.specs.declared.style.Lines.TheVariants.{Kept as lines_kept, Joined}
use Rattle.litrs_build.specs.declared.style.Style.{Style}

-- `1x` is not a suffix, and the error says so
not_a_suffix : (e : BuildError) → IsErrorOf (suffix_error (codes "1x")) e → e ≡ NotASuffix
unfolding computing
not_a_suffix e is = is

-- `u8` is one, so the error is an allocation failure
no_memory : (e : BuildError) → IsErrorOf (suffix_error (codes "u8")) e → e ≡ Memory
unfolding computing
no_memory e is = is

-- literals of two kinds do not have the same value, nor do `true` and `false`
values_apart :
    ((d : IntegerParts) (e : FloatParts) → ¬ HaveSameValue (an_integer d) (a_float e))
    × ((d e : StringParts) → ¬ HaveSameValue (a_string d) (a_c_string e))
    × ¬ HaveSameValue (a_bool true) (a_bool false)
values_apart = (λ d e same. same, λ d e same. same, λ same. cc)

-- Literals that are rewritten: the parts of `0xf_ff_0001u32`, those of `1_0000.0_0012e-1_0f32`, and
-- those of `"\u{0_0e9}` LF `\` LF `  a"`, whose lines stay or are joined

abbrev pub groups_of_four : GroupLens
groups_of_four = record { binary = 4; octal = 4; decimal = 3; hexadecimal = 4 }

abbrev pub upper_style : Lines → Style
upper_style lines = record {
  escapes = Respelled;
  escape_digits = Upper;
  lines = lines;
  digits = Some Upper;
  groups = Grouped groups_of_four;
  exponents = Some Upper;
  float_groups = FloatGrouped (record { integer = 3; fraction = 3; exponent = 3 });
}

pub integer_in_groups :
    rewritten_integer (upper_style lines_kept) (record {
      base = Hexadecimal;
      main = codes "f_ff_0001";
      suffix = codes "u32";
    }) ≡ record { base = Hexadecimal; main = codes "FFF_0001"; suffix = codes "u32" }
unfolding grouped
integer_in_groups = refl

pub float_in_groups :
    rewritten_float (upper_style lines_kept) (record {
      integer = codes "1_0000";
      fraction = Some (codes "0_0012");
      exponent = codes "e-1_0";
      suffix = codes "f32";
    }) ≡ record {
      integer = codes "10_000";
      fraction = Some (codes "000_12");
      exponent = codes "E-10";
      suffix = codes "f32";
    }
unfolding grouped grouped_after
float_in_groups = refl

abbrev pub two_lines : List Item
two_lines = escape_item (unicode_escape (codes "0_0e9")) ∷ plain_item 10 ∷ continuation (codes "  ")
    ∷ plain_item 97 ∷ []

pub lines_that_stay : rewritten_items (upper_style lines_kept) Mark two_lines
    ≡ escape_item (unicode_escape (codes "E9")) ∷ plain_item 10 ∷ continuation (codes "  ")
    ∷ plain_item 97 ∷ []
unfolding digits place_sum
lines_that_stay = refl

pub joined_lines : rewritten_items (upper_style Joined) Mark two_lines
    ≡ escape_item (unicode_escape (codes "E9")) ∷ escape_item (simple_escape 110)
    ∷ plain_item 97 ∷ []
unfolding digits place_sum
joined_lines = refl
