-- The names by their numbers are those of the kinds.
use Rattle.std.proofs.Common.{◌≡◌, ℕ, ◌<◌, ◌⊎◌, List, map, length, get_or, Bor, inl, inr, refl, sym, ap, ◌∙◌, arith}
use Rattle.std.proofs.lemmas.List.{get_or_past, get_or-map}
use Rattle.litrs_base.specs.declared.err.ParseErrorKind.{ParseErrorKind}
use Rattle.litrs_base.specs.declared.err.ParseErrorKind.TheVariants.{Empty}
use Rattle.litrs_grammar.specs.Literal.{LiteralKind, bool_literal}
use Rattle.litrs_lexer.specs.declared.kind.TokenKind.{TokenKind}
use Rattle.litrs_lexer.specs.declared.kind.TokenKind.TheVariants.{Whitespace}
use Rattle.litrs_c.specs.Codes.{kind_code, error_code, token_code}
use Rattle.litrs_c.specs.Names.{kind_name, error_name, token_name, kind_names, error_names, token_names, name_at, unknown_name, zero_ended}

kind_at_code : (k : LiteralKind) → name_at kind_names (kind_code k) ≡ kind_name k
kind_at_code bool_literal = refl
kind_at_code _ = refl

error_at_code : (k : ParseErrorKind) → name_at error_names (error_code k) ≡ error_name k
error_at_code Empty = refl
error_at_code _ = refl

token_at_code : (k : TokenKind) → name_at token_names (token_code k) ≡ token_name k
token_at_code Whitespace = refl
token_at_code _ = refl

pub kind_named : (k : LiteralKind) (n : ℕ) → n ≡ kind_code k → name_at kind_names n ≡ kind_name k
kind_named k n is = ap (λ (i : ℕ). name_at kind_names i) is ∙ kind_at_code k

pub error_named : (k : ParseErrorKind) (n : ℕ) → n ≡ error_code k → name_at error_names n ≡ error_name k
error_named k n is = ap (λ (i : ℕ). name_at error_names i) is ∙ error_at_code k

pub token_named : (k : TokenKind) (n : ℕ) → n ≡ token_code k → name_at token_names n ≡ token_name k
token_named k n is = ap (λ (i : ℕ). name_at token_names i) is ∙ token_at_code k

pub kind_unknown : (n : ℕ) → (n ≡ 0) ⊎ (8 < n) → name_at kind_names n ≡ unknown_name
kind_unknown n (inl is) = ap (λ (i : ℕ). name_at kind_names i) is
kind_unknown n (inr past) = get_or_past kind_names n unknown_name (omega (arith, past))

pub error_unknown : (n : ℕ) → (n ≡ 0) ⊎ (41 < n) → name_at error_names n ≡ unknown_name
error_unknown n (inl is) = ap (λ (i : ℕ). name_at error_names i) is
error_unknown n (inr past) = get_or_past error_names n unknown_name (omega (arith, past))

pub token_unknown : (n : ℕ) → (n ≡ 0) ⊎ (14 < n) → name_at token_names n ≡ unknown_name
token_unknown n (inl is) = ap (λ (i : ℕ). name_at token_names i) is
token_unknown n (inr past) = get_or_past token_names n unknown_name (omega (arith, past))

-- the contents of a static text at a place of a table
pub text_at : (texts : List (Bor (List ℕ))) (n : ℕ) (d : Bor (List ℕ)) → n < length texts →
    (get_or texts n d).now ≡ get_or (map (λ (b : Bor (List ℕ)). b.now) texts) n d.now
text_at texts n d within = sym (get_or-map (λ (b : Bor (List ℕ)). b.now) texts n d d.now within)

-- names with closing zeros, by their numbers
pub ended_name_at : (names : List (List ℕ)) (n : ℕ) (d : List ℕ) → n < length names →
    get_or (map zero_ended names) n d ≡ zero_ended (name_at names n)
ended_name_at names n d within = get_or-map zero_ended names n unknown_name d within
