-- Suffixes. The Rust Reference, Tokens, Suffixes; Identifiers.
use Rattle.std.specs.Prelude.{ℕ, Bool, true, not, ◌==◌, ◌&&◌, ◌||◌, List, [], ◌∷◌, if◌then◌else◌}
use Rattle.std.specs.Char.{is_ascii_alphabetic}
use Rattle.std.specs.List.{list_all}
use Rattle.unicode_ident.specs.Ident.{is_xid_start, is_xid_continue}
use Rattle.litrs_base.specs.declared.err.ParseErrorKind.{ParseErrorKind}
use Rattle.litrs_base.specs.declared.err.ParseErrorKind.TheVariants.{UnexpectedChar, InvalidSuffix}
use Rattle.litrs_base.specs.Characters.{underscore, is_ascii}
use Rattle.litrs_base.specs.Text.{is_empty, first_passes}

-- The first character of an identifier: `_` or an XID_Start character.
abbrev pub starts_identifier : ℕ → Bool
starts_identifier c = (c == underscore) || is_xid_start c

-- A suffix is empty, or `_` or an XID_Start character followed by XID_Continue characters. `_`
-- alone is not a suffix.
unfoldable pub is_suffix : List ℕ → Bool
is_suffix [] = true
is_suffix (c ∷ cs) =
    starts_identifier c && list_all is_xid_continue cs && not ((c == underscore) && is_empty cs)

-- An ASCII character that is neither a letter nor `_`.
abbrev pub is_ascii_symbol : ℕ → Bool
is_ascii_symbol c = is_ascii c && not (is_ascii_alphabetic c || (c == underscore))

-- The error kind of a text that is not a suffix, by its first character: ASCII but neither a letter
-- nor `_`, or any other.
abbrev pub suffix_kind : List ℕ → ParseErrorKind
suffix_kind t = if first_passes is_ascii_symbol t then UnexpectedChar else InvalidSuffix
