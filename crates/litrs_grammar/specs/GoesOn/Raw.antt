-- The refused raw texts that begin a raw literal. The Rust Reference, Tokens, Literals:
-- "Raw string literals", "Raw byte string literals" and "Raw C string literals". It does not define
-- refusals.
use Rattle.std.specs.Prelude.{◌≡◌, ◌≤◌, ◌⊎◌, ℕ, ◌+◌, Bool, List, [], ◌∷◌, ◌++◌, drop}
use Rattle.litrs_base.specs.Characters.{double_quote, underscore}
use Rattle.litrs_grammar.specs.Raw.{raw_closing, hash_len, IsRawBody, RawParts}

-- `t` is a raw body between `n` hashes, the closing, and `after`.
pub record IsClosedRaw (unicode allow_nul : Bool) (n : ℕ) (t after : List ℕ) : Type 0 where
  pub body : List ℕ
  pub spells : body ++ (raw_closing n ++ after) ≡ t
  pub grammar : IsRawBody unicode allow_nul n body

-- After `n` hashes there is nothing, or the opening quote and a raw body that is not closed. Or
-- there are the opening quote, a raw body, the closing, and `_` alone, which is not yet a suffix.
abbrev pub RawRestGoesOn : (unicode allow_nul : Bool) (n : ℕ) → List ℕ → Type 0
RawRestGoesOn unicode allow_nul n [] = Unit {0}
RawRestGoesOn unicode allow_nul n (c ∷ t) =
    (c ≡ double_quote)
    × (IsRawBody unicode allow_nul n t ⊎ IsClosedRaw unicode allow_nul n t (underscore ∷ []))

-- After the front: at most 255 hashes, and a text that can be continued after them.
abbrev pub RawGoesOn : (unicode allow_nul : Bool) → List ℕ → Type 0
RawGoesOn unicode allow_nul t =
    (hash_len t ≤ 255) × RawRestGoesOn unicode allow_nul (hash_len t) (drop (hash_len t) t)

-- The parts of an open text with its closing text, after the front: the hashes at its front, and as
-- the body all text after the opening quote. The suffix is empty.
abbrev pub raw_open_parts : List ℕ → RawParts
raw_open_parts t = record { hash_count = hash_len t; body = drop (hash_len t + 1) t; suffix = [] }
