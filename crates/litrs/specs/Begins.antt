-- The texts that begin the end of a literal: they are one, or become one with some text appended.
-- The Rust Reference, Tokens, Literals, and Tokens, Suffixes.
use Rattle.std.specs.Prelude.{◌≡◌, ℕ, List, ◌∷◌, ◌++◌, IsTrue}
use Rattle.litrs_base.specs.Characters.{single_quote, double_quote}
use Rattle.litrs_base.specs.Text.{IsText}
use Rattle.litrs_grammar.specs.Suffix.{is_suffix}

-- `t` begins a suffix.
abbrev pub BeginsSuffix : List ℕ → Type 0
BeginsSuffix t = (more : List ℕ) × IsText more × IsTrue (is_suffix (t ++ more))

-- `t` begins the closing quote of a char or a byte, followed by a suffix.
abbrev pub BeginsClosing : List ℕ → Type 0
BeginsClosing t = (more suffix : List ℕ) × IsText more × (t ++ more ≡ single_quote ∷ suffix)
    × IsTrue (is_suffix suffix)

-- `t` is the closing quote of a quoted string, followed by a suffix.
abbrev pub IsClosed : List ℕ → Type 0
IsClosed t = (suffix : List ℕ) × (t ≡ double_quote ∷ suffix) × IsTrue (is_suffix suffix)
