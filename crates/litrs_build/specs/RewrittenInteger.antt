-- An integer that is rewritten in a style: the case of its digits, and their groups. The Rust
-- Reference, Tokens, Literals: "Integer literals".
use Rattle.std.specs.Prelude.{ℕ, Bool, true, false, List, map, filter, Option, Some, None, if◌then◌else◌}
use Rattle.std.specs.Char.{to_ascii_lowercase, to_ascii_uppercase}
use Rattle.std.specs.List.{list_any}
use Rattle.litrs_base.specs.Numeral.{is_no_underscore}
use Rattle.litrs_base.specs.declared.integer.IntegerBase.{IntegerBase}
use Rattle.litrs_base.specs.declared.integer.IntegerBase.TheVariants.{Binary, Octal, Decimal, Hexadecimal}
use Rattle.litrs_grammar.specs.Float.{is_underscore}
use Rattle.litrs_grammar.specs.Integer.{IntegerParts}
use Rattle.litrs_build.specs.BuiltInteger.{main_part}
use Rattle.litrs_build.specs.declared.style.Style.{Style}
use Rattle.litrs_build.specs.declared.style.Case.{Case}
use Rattle.litrs_build.specs.declared.style.Case.TheVariants.{Lower, Upper}
use Rattle.litrs_build.specs.declared.style.GroupLens.{GroupLens}
use Rattle.litrs_build.specs.declared.style.Groups.{Groups}
use Rattle.litrs_build.specs.declared.style.Groups.TheVariants.{Kept, Regrouped, Grouped}

-- A digit in the case, or as it is.
abbrev pub cased : Option Case → ℕ → ℕ
cased None c = c
cased (Some Lower) c = to_ascii_lowercase c
cased (Some Upper) c = to_ascii_uppercase c

-- The number of digits of a group in the base.
abbrev pub len_of : GroupLens → IntegerBase → ℕ
len_of lens Binary = lens.binary
len_of lens Octal = lens.octal
len_of lens Decimal = lens.decimal
len_of lens Hexadecimal = lens.hexadecimal

-- The number of digits of a group, or `None` if each `_` stays where it is.
abbrev pub group_of : Groups → IntegerBase → (main : List ℕ) → Option ℕ
group_of Kept base main = None
group_of (Regrouped lens) base main =
    if list_any is_underscore main then Some (len_of lens base) else None
group_of (Grouped lens) base main = Some (len_of lens base)

-- The main part with its digits in the case, and in groups.
abbrev pub rewritten_main : Option Case → Option ℕ → IntegerBase → (main suffix : List ℕ) → List ℕ
rewritten_main case None base main suffix = map (cased case) main
rewritten_main case (Some group) base main suffix =
    main_part base group (map (cased case) (filter is_no_underscore main)) suffix

abbrev pub rewritten_integer : Style → IntegerParts → IntegerParts
rewritten_integer style d = record {
  base = d.base;
  main = rewritten_main style.digits (group_of style.groups d.base d.main) d.base d.main d.suffix;
  suffix = d.suffix;
}

-- `true` iff a style with this case and these groups does not change any integer.
abbrev pub keeps_integers : Option Case → Groups → Bool
keeps_integers None Kept = true
keeps_integers _ _ = false
