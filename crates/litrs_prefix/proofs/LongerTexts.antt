-- A literal at the front of a text, and of longer ones.
use Rattle.litrs_prefix.proofs.Words.{◌≡◌, ℕ, true, List, ◌∷◌, ◌++◌, append_assoc, append-nil, arith, Derivation, may_follow, LiteralsAreTheirPrefix, PrefixesStay}

pub whole : LiteralsAreTheirPrefix
whole t d h = record { front = t; spells = append-nil t; literal = h; follows = grind arith }

-- a period at the end of the text gives way at most
more_follows : (d : Derivation) (c : ℕ) (rest more : List ℕ) → may_follow d (c ∷ rest) ≡ true → may_follow d (c ∷ (rest ++ more)) ≡ true
more_follows d c rest more h = grind arith

pub stays : PrefixesStay
stays t d c rest more h = grind (arith, more_follows, append_assoc)
