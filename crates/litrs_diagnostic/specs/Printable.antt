-- Printable characters. The Unicode Standard, section 4.5, "General Category".
use Rattle.std.specs.Prelude.{ℕ, Bool, not, ◌==◌, ◌||◌}
use Rattle.ucd_category.specs.GeneralCategory.{general_category}
use Rattle.ucd_category.specs.GeneralCategoryGroup.{in_group}
use Rattle.ucd_category.specs.declared.GeneralCategoryGroup.TheVariants.{Other, Separator}

-- A character is printable iff it is the space U+0020, or its general category is of neither the
-- group Other nor the group Separator. Other are controls, format characters, surrogates, private
-- use and unassigned ones; Separator are spaces and separators of lines and of paragraphs.
unfoldable pub is_printable : ℕ → Bool
is_printable c =
    (c == 32)
    || not (in_group Other (general_category c) || in_group Separator (general_category c))
