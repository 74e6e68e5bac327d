-- Lifetimes and loop labels. The Rust Reference, "Lifetimes and loop labels".
use Rattle.std.specs.Prelude.{◌≡◌, ℕ, Bool, ◌==◌, List, ◌∷◌, IsTrue, IsFalse}
use Rattle.litrs_base.specs.Characters.{single_quote, hash, letter_r}
use Rattle.litrs_base.specs.Text.{first_passes}
use Rattle.litrs_prefix.specs.Opens.{after_name, is_single_quote}
use Rattle.litrs_lexer.specs.Identifier.{begins_name, begins_raw_name}

abbrev pub is_hash : ℕ → Bool
is_hash c = c == hash

-- A lifetime is at the front of the text, up to the rest: `'` and the whole name, which neither `'`
-- nor `#` follows.
abbrev pub IsLifetime : (t rest : List ℕ) → Type 0
IsLifetime t rest =
    (name : List ℕ) × (t ≡ single_quote ∷ name) × IsTrue (begins_name name)
    × (rest ≡ after_name name) × IsFalse (first_passes is_single_quote rest)
    × IsFalse (first_passes is_hash rest)

-- A raw lifetime is at the front of the text, up to the rest: `'r#` and the whole name. The
-- compiler rejects one that `'` follows, and those of the names that no raw identifier has.
abbrev pub IsRawLifetime : (t rest : List ℕ) → Type 0
IsRawLifetime t rest =
    (name : List ℕ) × (t ≡ single_quote ∷ letter_r ∷ hash ∷ name) × IsTrue (begins_name name)
    × (rest ≡ after_name name)

-- A reserved prefix that is a lifetime is at the front of the text, up to the rest. It is `'` and
-- the whole name, directly before `#`, and does not begin a raw lifetime.
abbrev pub IsUnknownPrefixLifetime : (t rest : List ℕ) → Type 0
IsUnknownPrefixLifetime t rest =
    (name : List ℕ) × (t ≡ single_quote ∷ name) × IsTrue (begins_name name)
    × (rest ≡ after_name name) × IsTrue (first_passes is_hash rest)
    × IsFalse (begins_raw_name name)
