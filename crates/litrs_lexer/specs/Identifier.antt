-- Identifiers and keywords, and prefixes. The Rust Reference, "Identifiers" and "Reserved
-- prefixes". `_` is an identifier here.
use Rattle.std.specs.Prelude.{◌≡◌, ℕ, Bool, false, ◌==◌, ◌&&◌, List, [], ◌∷◌, IsTrue, IsFalse}
use Rattle.litrs_base.specs.Characters.{hash, letter_r}
use Rattle.litrs_base.specs.Text.{first_passes}
use Rattle.litrs_grammar.specs.Bool.{is_bool}
use Rattle.litrs_grammar.specs.Suffix.{starts_identifier}
use Rattle.litrs_prefix.specs.Opens.{first_name, after_name}
use Rattle.litrs_prefix.specs.Prefix.{is_quote_or_hash}
use Rattle.litrs_lexer.specs.Literal.{opens_quoted}

-- The text starts with a name: XID_Start or `_`, and then as many XID_Continue as there are.
abbrev pub begins_name : List ℕ → Bool
begins_name t = first_passes starts_identifier t

-- The text starts with `r#` and a name.
abbrev pub begins_raw_name : List ℕ → Bool
begins_raw_name [] = false
begins_raw_name (c ∷ []) = false
begins_raw_name (c ∷ d ∷ t) = (c == letter_r) && (d == hash) && begins_name t

-- An identifier is at the front of the text, up to the rest: the whole name, which is not a bool
-- and not a prefix.
abbrev pub IsIdentifier : (t rest : List ℕ) → Type 0
IsIdentifier t rest =
    IsTrue (begins_name t) × IsFalse (is_bool (first_name t)) × (rest ≡ after_name t)
    × IsFalse (first_passes is_quote_or_hash rest)

-- A raw identifier is at the front of the text, up to the rest: `r#` and the whole name. The
-- compiler rejects the names `_`, `crate`, `self`, `super` and `Self` there.
abbrev pub IsRawIdentifier : (t rest : List ℕ) → Type 0
IsRawIdentifier t rest =
    (name : List ℕ) × (t ≡ letter_r ∷ hash ∷ name) × IsTrue (begins_name name)
    × (rest ≡ after_name name)

-- A reserved prefix is at the front of the text, up to the rest. It is the whole name, directly
-- before `"`, `'` or `#`, if the two begin neither a literal other than a bool nor a raw
-- identifier. So `true` before `"` is one.
abbrev pub IsUnknownPrefix : (t rest : List ℕ) → Type 0
IsUnknownPrefix t rest =
    IsTrue (begins_name t) × (rest ≡ after_name t) × IsTrue (first_passes is_quote_or_hash rest)
    × IsFalse (opens_quoted t) × IsFalse (begins_raw_name t)
