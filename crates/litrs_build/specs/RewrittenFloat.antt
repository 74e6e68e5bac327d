-- A float that is rewritten in a style: the letter of its exponent, and the groups of the digits of
-- its parts. The Rust Reference, Tokens, Literals: "Floating-point literals".
use Rattle.std.specs.Prelude.{ℕ, ◌+◌, Bool, true, false, List, [], ◌∷◌, ◌++◌, take, drop, filter, Option, Some, None, option_map, if◌then◌else◌}
use Rattle.std.specs.List.{list_any}
use Rattle.litrs_base.specs.Characters.{underscore}
use Rattle.litrs_base.specs.Numeral.{is_no_underscore}
use Rattle.litrs_grammar.specs.Float.{FloatParts, is_underscore, number_part, sign_len}
use Rattle.litrs_build.specs.RewrittenInteger.{cased}
use Rattle.litrs_build.specs.WrittenDigits.{ends_group, grouped}
use Rattle.litrs_build.specs.declared.float_style.PartLens.{PartLens}
use Rattle.litrs_build.specs.declared.style.Style.{Style}
use Rattle.litrs_build.specs.declared.style.Case.{Case}
use Rattle.litrs_build.specs.declared.style.FloatGroupLens.{FloatGroupLens}
use Rattle.litrs_build.specs.declared.style.FloatGroups.{FloatGroups}
use Rattle.litrs_build.specs.declared.style.FloatGroups.TheVariants.{Kept, Regrouped, Grouped}

-- The digits with `_` after each group, counted from the first digit, and `before` digits before
-- them.
unfoldable pub grouped_after : (group before : ℕ) → List ℕ → List ℕ
grouped_after group before [] = []
grouped_after group before (c ∷ cs) =
    (if ends_group group before then underscore ∷ [] else [])
    ++ (c ∷ grouped_after group (before + 1) cs)

-- Each `_` stays where it is.
abbrev pub kept_parts : PartLens
kept_parts = record { integer = None; fraction = None; exponent = None }

-- All parts are in groups.
abbrev pub grouped_parts : FloatGroupLens → PartLens
grouped_parts lens = record {
  integer = Some lens.integer;
  fraction = Some lens.fraction;
  exponent = Some lens.exponent;
}

-- The number of digits of a group in each part, by the text before the suffix.
abbrev pub part_lens : FloatGroups → (number : List ℕ) → PartLens
part_lens Kept number = kept_parts
part_lens (Regrouped lens) number =
    if list_any is_underscore number then grouped_parts lens else kept_parts
part_lens (Grouped lens) number = grouped_parts lens

-- The digits of an integer part or an exponent, in groups that are counted from the last digit.
abbrev pub regrouped : Option ℕ → List ℕ → List ℕ
regrouped None digits = digits
regrouped (Some group) digits = grouped group (filter is_no_underscore digits)

-- The fraction, in groups that are counted from the first digit.
abbrev pub regrouped_fraction : Option ℕ → List ℕ → List ℕ
regrouped_fraction None digits = digits
regrouped_fraction (Some group) digits = grouped_after group 0 (filter is_no_underscore digits)

-- The exponent: its letter in the case, its sign, and its digits in groups.
abbrev pub rewritten_exponent : Option Case → Option ℕ → List ℕ → List ℕ
rewritten_exponent case group [] = []
rewritten_exponent case group (c ∷ cs) =
    cased case c ∷ (take (sign_len cs) cs ++ regrouped group (drop (sign_len cs) cs))

-- The float with its parts in these groups, and the letter of its exponent in this case.
abbrev pub regrouped_float : Option Case → PartLens → FloatParts → FloatParts
regrouped_float case lens d = record {
  integer = regrouped lens.integer d.integer;
  fraction = option_map (regrouped_fraction lens.fraction) d.fraction;
  exponent = rewritten_exponent case lens.exponent d.exponent;
  suffix = d.suffix;
}

abbrev pub rewritten_float : Style → FloatParts → FloatParts
rewritten_float style d =
    regrouped_float style.exponents (part_lens style.float_groups (number_part d)) d

-- `true` iff a style with this case and these groups does not change any float.
abbrev pub keeps_floats : Option Case → FloatGroups → Bool
keeps_floats None Kept = true
keeps_floats _ _ = false
