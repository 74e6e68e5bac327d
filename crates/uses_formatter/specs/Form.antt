-- The one form of each literal.
use Rattle.std.specs.Prelude.{◌≡◌, ℕ, Bool, false, List, Some, if◌then◌else◌}
use Rattle.litrs.specs.Literal.{Derivation, a_string, a_byte_string, a_c_string, IsLiteral, suffix_of}
use Rattle.litrs.specs.Strings.{is_raw}
use Rattle.litrs_build.specs.Rewriting.{rewritten}
use Rattle.litrs_build.specs.WrittenAnew.{HaveSameValue, unescaped}
use Rattle.litrs_build.specs.declared.style.Case.TheVariants.{Lower}
use Rattle.litrs_build.specs.declared.style.Escapes.TheVariants.{Needed}
use Rattle.litrs_build.specs.declared.style.FloatGroups.TheVariants.{Regrouped as floats_regrouped}
use Rattle.litrs_build.specs.declared.style.Groups.TheVariants.{Regrouped}
use Rattle.litrs_build.specs.declared.style.Lines.TheVariants.{Kept}
use Rattle.litrs_build.specs.declared.style.Style.{Style}

-- `true` iff the literal is a raw string, byte string or C string.
abbrev pub is_raw_literal : Derivation → Bool
is_raw_literal (a_string d) = is_raw d
is_raw_literal (a_byte_string d) = is_raw d
is_raw_literal (a_c_string d) = is_raw d
is_raw_literal _ = false

-- The style of literals that are not raw: only the escapes that are needed, letters in lower case,
-- and groups in numbers that contain `_`.
abbrev pub style : Style
style = record {
  escapes = Needed;
  escape_digits = Lower;
  lines = Kept;
  digits = Some Lower;
  groups = Regrouped (record { binary = 4; octal = 4; decimal = 3; hexadecimal = 4 });
  exponents = Some Lower;
  float_groups = floats_regrouped (record { integer = 3; fraction = 3; exponent = 3 });
}

-- The literal that is written for a literal. A raw one has the least number of hashes.
abbrev pub form : Derivation → Derivation
form d = if is_raw_literal d then unescaped d else rewritten style d

-- The text is the form of the literal. It has its kind, its value and its suffix, and is its own
-- form.
pub record IsFormOf (d : Derivation) (t : List ℕ) : Type 0 where
  pub literal : IsLiteral t (form d)
  pub value : HaveSameValue d (form d)
  pub suffix : suffix_of (form d) ≡ suffix_of d
  pub again : form (form d) ≡ form d

-- The text before is a literal, and the text after is its form.
abbrev pub IsForm : (before after : List ℕ) → Type 0
IsForm before after = (d : Derivation) × IsLiteral before d × IsFormOf d after
