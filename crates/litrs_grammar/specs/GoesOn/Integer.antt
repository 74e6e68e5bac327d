-- The refused texts that begin an integer. The Rust Reference, Tokens, Literals: "Integer
-- literals". It does not define refusals.
use Rattle.std.specs.Prelude.{◌≡◌, ◌⊎◌, ℕ, List, [], IsTrue}
use Rattle.std.specs.Char.{is_ascii_digit}
use Rattle.litrs_base.specs.Text.{first_passes}
use Rattle.litrs_grammar.specs.Integer.{integer_cut}

-- The text is empty, or it starts with a decimal digit and nothing follows its main part. There is
-- no digit after the prefix yet, and one makes it an integer.
abbrev pub IntegerGoesOn : List ℕ → Type 0
IntegerGoesOn t =
    (t ≡ []) ⊎ (IsTrue (first_passes is_ascii_digit t) × ((integer_cut t).suffix ≡ []))
