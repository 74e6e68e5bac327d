-- Identifiers and punctuation. The Rust Reference, Identifiers; Tokens, Punctuation.
use Rattle.std.specs.Prelude.{ℕ, Bool, false, ◌&&◌, List, [], ◌∷◌}
use Rattle.std.specs.List.{list_all}
use Rattle.unicode_ident.specs.Ident.{is_xid_continue}
use Rattle.litrs_grammar.specs.Suffix.{starts_identifier}
use Rattle.litrs_token.specs.declared.punct.Spacing.{Spacing}
use Rattle.litrs_token.specs.Place.{Place}

-- An identifier is `_` or an XID_Start character, followed by XID_Continue characters. `_` alone,
-- `true` and `false` are identifiers too.
unfoldable pub is_ident : List ℕ → Bool
is_ident [] = false
is_ident (c ∷ cs) = starts_identifier c && list_all is_xid_continue cs

-- An identifier as a token: the bytes of its text, and its span.
pub record IdentToken : Type 0 where
  pub text : List ℕ
  pub span : Place

-- A punctuation character as a token.
pub record PunctToken : Type 0 where
  pub character : ℕ
  pub spacing : Spacing
  pub span : Place
