-- The runs in literals. The Rust Reference, Tokens: "Integer literals", "Suffixes", "String
-- literals", "Raw string literals"; Identifiers.
use Rattle.std.specs.Prelude.{ℕ, Bool, ◌==◌, ◌||◌}
use Rattle.std.specs.Char.{is_ascii_alphanumeric}
use Rattle.litrs_base.specs.Characters.{underscore, hash, is_blank}
use Rattle.litrs_base.specs.Base.{is_digit_or_underscore}
use Rattle.litrs_lex.specs.declared.run.Run.{Run}
use Rattle.litrs_lex.specs.declared.run.Run.TheVariants.{Digits, Identifier, Blanks, Hashes}

-- The bytes of a run: the digits of the base and `_`; or ASCII letters, decimal digits and `_`; or
-- space, tab and LF; or `#`.
abbrev pub is_in_run : Run → ℕ → Bool
is_in_run (Digits base) b = is_digit_or_underscore base b
is_in_run Identifier b = is_ascii_alphanumeric b || (b == underscore)
is_in_run Blanks b = is_blank b
is_in_run Hashes b = b == hash
