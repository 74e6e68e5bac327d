-- The colors of a terminal.
use Rattle.std.specs.Prelude.{ℕ, Bool, true, false, not, ◌==◌, List, [], ◌∷◌, ◌++◌, codes, if◌then◌else◌}
use Rattle.litrs_diagnostic.specs.declared.colors.Color.{Color}
use Rattle.litrs_diagnostic.specs.declared.colors.Color.TheVariants.{BoldRed, BoldYellow, BoldGreen, BoldCyan, BoldBlue, Green}
use Rattle.litrs_diagnostic.specs.declared.levels.Level.{Level}
use Rattle.litrs_diagnostic.specs.declared.levels.Level.TheVariants.{Error, Warning, Note, Help}

-- The code that begins a color: ESC, `[`, numbers and `m`.
abbrev pub color_code : Color → List ℕ
color_code BoldRed = 27 ∷ codes "[1;31m"
color_code BoldYellow = 27 ∷ codes "[1;33m"
color_code BoldGreen = 27 ∷ codes "[1;32m"
color_code BoldCyan = 27 ∷ codes "[1;36m"
color_code BoldBlue = 27 ∷ codes "[1;34m"
color_code Green = 27 ∷ codes "[32m"

-- The code that ends a color.
abbrev pub plain_code : List ℕ
plain_code = 27 ∷ codes "[0m"

-- The text before a part of a message, if it is in color.
abbrev pub opening : (is_colored : Bool) → Color → List ℕ
opening false color = []
opening true color = color_code color

-- The text after a part of a message, if it is in color.
abbrev pub closing : (is_colored : Bool) → List ℕ
closing false = []
closing true = plain_code

-- A part of a message: between the codes of a color if the message is in color, and as it is if
-- not.
abbrev pub painted : (is_colored : Bool) → Color → List ℕ → List ℕ
painted false color text = text
painted true color text = color_code color ++ (text ++ plain_code)

-- The color of the word of a level, and of the marks below the range.
abbrev pub level_color : Level → Color
level_color Error = BoldRed
level_color Warning = BoldYellow
level_color Note = BoldGreen
level_color Help = BoldCyan

-- The characters that are not part of a code. The first one is in a code iff `is_code`.
unfoldable pub outside_codes : (is_code : Bool) → List ℕ → List ℕ
outside_codes is_code [] = []
outside_codes true (c ∷ t) = outside_codes (not (c == 109)) t
outside_codes false (c ∷ t) =
    if c == 27 then outside_codes true t else c ∷ outside_codes false t

-- A text without the codes in it. A code begins with ESC and ends with the next `m`.
abbrev pub without_codes : List ℕ → List ℕ
without_codes t = outside_codes false t
