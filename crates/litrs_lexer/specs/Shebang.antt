-- The byte order mark and the shebang. The Rust Reference, "Input format" and "Shebang".
use Rattle.std.specs.Prelude.{◌≡◌, ℕ, Bool, ◌==◌, List, [], ◌∷◌, None, if◌then◌else◌, IsTrue}
use Rattle.litrs_base.specs.Characters.{hash}
use Rattle.litrs_base.specs.Text.{first_passes}
use Rattle.litrs_lexer.specs.Comment.{exclamation, doc_style}
use Rattle.litrs_lexer.specs.Token.{IsToken, is_trivia}
use Rattle.litrs_lexer.specs.declared.kind.TokenKind.{TokenKind}

-- U+FEFF.
abbrev pub is_byte_order_mark : ℕ → Bool
is_byte_order_mark c = c == 65279

-- The text without a byte order mark at its front.
abbrev pub after_byte_order_mark : List ℕ → List ℕ
after_byte_order_mark [] = []
after_byte_order_mark (c ∷ t) = if is_byte_order_mark c then t else (c ∷ t)

-- `[`
abbrev pub is_bracket : ℕ → Bool
is_bracket c = c == 91

-- The text starts with `[`, after white space and comments that are not documentation: after `#!`
-- it is an attribute.
pub data OpensAttribute : (t : List ℕ) → Type 0 where
  bracket : {t : List ℕ} → IsTrue (first_passes is_bracket t) → OpensAttribute t
  skipped : (kind : TokenKind) {t rest : List ℕ} → IsToken kind t rest →
      IsTrue (is_trivia kind) → doc_style kind t ≡ None → OpensAttribute rest → OpensAttribute t

-- The text starts with a shebang: `#!` that does not begin an attribute.
abbrev pub HasShebang : List ℕ → Type 0
HasShebang t =
    (line : List ℕ) × (t ≡ hash ∷ exclamation ∷ line) × (OpensAttribute line → ⊥)
