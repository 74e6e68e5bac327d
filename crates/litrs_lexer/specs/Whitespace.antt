-- White space. The Rust Reference, "Whitespace".
use Rattle.std.specs.Prelude.{◌≡◌, ℕ, Bool, ◌==◌, ◌&&◌, ◌||◌, List, [], ◌∷◌, if◌then◌else◌, nat_le, IsTrue}
use Rattle.litrs_base.specs.Text.{first_passes}

-- The character has the Unicode property Pattern_White_Space: tab to CR, space, U+0085, U+200E,
-- U+200F, U+2028 or U+2029.
abbrev pub is_white_space : ℕ → Bool
is_white_space c =
    (c == 32) || (nat_le 9 c && nat_le c 13) || (c == 133) || (c == 8206) || (c == 8207)
    || (c == 8232) || (c == 8233)

-- The part of the text after the characters at its front that pass.
abbrev pub after_while : (ℕ → Bool) → List ℕ → List ℕ
after_while p [] = []
after_while p (c ∷ t) = if p c then after_while p t else (c ∷ t)

-- The part of the text after the white space at its front.
abbrev pub after_white_space : List ℕ → List ℕ
after_white_space t = after_while is_white_space t

-- White space is at the front of the text, up to the rest: all characters there that have the
-- property, of which there is one or more.
abbrev pub IsWhitespace : (t rest : List ℕ) → Type 0
IsWhitespace t rest = IsTrue (first_passes is_white_space t) × (rest ≡ after_white_space t)
