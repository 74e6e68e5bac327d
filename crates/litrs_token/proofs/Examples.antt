-- Trees of tokens, and which of them are bools, by computation.
use Prim.Native.String.{String}
use Rattle.std.specs.Prelude.{◌≡◌, ◌≢◌, ◌⊎◌, ℕ, ◌+◌, List, [], ◌∷◌, IsTrue, IsFalse, true, false, Ok, Err, codes, refl}
use Rattle.std.specs.Str.{chars}
use Rattle.std.proofs.Common.{arith, inr}
use Rattle.litrs.specs.declared.bool.BoolLit.TheVariants.{False, True}
use Rattle.litrs_grammar.specs.Literal.{bool_literal, literal_kind, IsLiteral}
use Rattle.litrs_token.specs.declared.err.InvalidToken.{InvalidToken}
use Rattle.litrs_token.specs.declared.kind.TokenKind.{TokenKind}
use Rattle.litrs_token.specs.declared.kind.TokenKind.TheVariants as token
use Rattle.litrs_token.specs.declared.punct.Spacing.{Spacing}
use Rattle.litrs_token.specs.declared.punct.Spacing.TheVariants.{Alone, Joint}
use Rattle.litrs_token.specs.declared.tree.Delimiter.TheVariants.{Brace}
use Rattle.litrs_token.specs.declared.tree.Group.{Group}
use Rattle.litrs_token.specs.declared.tree.TokenTree.{TokenTree}
use Rattle.litrs_token.specs.declared.tree.TokenTree.TheOpen as tree
use Rattle.litrs_token.specs.declared.tree.TokenTree.TheVariants as variant
use Rattle.litrs_token.specs.CompileError.{IsMessageGroup, IsCompileError}
use Rattle.litrs_token.specs.BoolTree.{text_of, is_bool_ident, IsBoolAnswer}
use Rattle.litrs_token.specs.Conversion.{IsWantedKind, IsWanted}
use Rattle.litrs_token.specs.Errors.{mismatch, invalid_span, invalid_text}
use Rattle.litrs_token.specs.LiteralToken.{token_kind, IsLiteralToken}
use Rattle.litrs_token.specs.Mismatch.{actual_kind, literal_mismatch}
use Rattle.litrs_token.specs.Place.{Place, call_site}
use Rattle.litrs_token.specs.StringToken.{string_token, IsStringOf}
use Rattle.litrs_token.specs.Tree.{Shape, shape_of, tree_span, AreAlike, group_delimiter, group_stream, group_span}

-- Tokens at a place

abbrev place : ℕ → Place
place start = record { start = start; end = start + 1 }

abbrev ident : List ℕ → ℕ → Shape
ident text start = tree.Ident (record { text = text; span = place start })

abbrev punct : ℕ → Spacing → ℕ → Shape
punct character spacing start =
    tree.Punct (record { character = character; spacing = spacing; span = place start })

abbrev literal : List ℕ → TokenKind → ℕ → Shape
literal text kind start = tree.Literal (record { text = text; kind = kind; span = place start })

-- Trees that are alike: the place alone may differ

alike :
    AreAlike (ident (codes "a") 0) (ident (codes "a") 5)
    × ((g : Group) → AreAlike (tree.Group g) (tree.Group g))
alike = (refl, λ g. (refl, refl))

not_alike :
    ¬ AreAlike (ident (97 ∷ []) 0) (ident (97 ∷ 98 ∷ []) 0)
    × ¬ AreAlike (punct 43 Alone 0) (punct 45 Alone 0)
    × ¬ AreAlike (punct 43 Alone 0) (punct 43 Joint 0)
    × ¬ AreAlike (literal (49 ∷ []) token.IntegerLit 0) (literal (49 ∷ 50 ∷ []) token.IntegerLit 0)
    × ¬ AreAlike (literal (49 ∷ []) token.IntegerLit 0) (literal (49 ∷ []) token.FloatLit 0)
    × ¬ AreAlike (ident (97 ∷ []) 0) (literal (97 ∷ []) token.IntegerLit 0)
    × ¬ AreAlike (punct 97 Alone 0) (ident (97 ∷ []) 0)
not_alike = (
  λ same. cc,
  λ same. absurd (omega (arith, same.0)),
  λ same. let spacing = same.1 in cc,
  λ same. let text = same.0 in cc,
  λ same. let kind = same.1 in cc,
  λ same. same,
  λ same. same,
)

-- Groups that are alike have the same delimiters and trees.
alike_groups : (g h : Group) → AreAlike (tree.Group g) (tree.Group h) →
    (group_delimiter g ≡ group_delimiter h) × (group_stream g ≡ group_stream h)
alike_groups g h same = same

-- Texts of trees

texts :
    (text_of (ident (codes "a") 0) ≡ codes "a")
    × (text_of (literal (codes "1") token.IntegerLit 0) ≡ codes "1")
    × (text_of (punct 43 Alone 0) ≡ [])
    × ((g : Group) → text_of (tree.Group g) ≡ [])
texts = (refl, refl, refl, λ g. refl)

-- Kinds of trees

kinds :
    ((g : Group) → actual_kind (tree.Group g) ≡ token.Group)
    × (actual_kind (ident [] 0) ≡ token.Ident)
    × (actual_kind (punct 43 Alone 0) ≡ token.Punct)
    × (actual_kind (literal [] token.FloatLit 0) ≡ token.FloatLit)
kinds = (λ g. refl, refl, refl, refl)

-- Messages

-- what is printed if a token of the first kind was expected, and one of the second is there
abbrev Says : (expected actual : TokenKind) → String → Type 0
Says expected actual message = invalid_text (mismatch expected actual call_site) ≡ codes message

messages :
    Says token.IntegerLit token.Punct "expected an integer literal (e.g. `27`), but found a punctuation character"
    × Says token.Literal token.Ident "expected a literal, but found an identifier"
    × Says token.BoolLit token.Group "expected a bool literal (`true` or `false`), but found a group"
    × Says token.ByteLit token.CharLit "expected a byte literal (e.g. `b'r'`), but found a character literal (e.g. `'P'`)"
    × Says token.FloatLit token.StringLit "expected a float literal (e.g. `3.14`), but found a string literal (e.g. \"Ferris\")"
    × Says token.ByteStringLit token.CStringLit "expected a byte string literal (e.g. `b\"fox\"`), but found a C string literal (e.g. c\"Ferris\")"
messages = (refl, refl, refl, refl, refl, refl)

mismatches :
    literal_mismatch token.FloatLit (record { text = []; kind = token.IntegerLit; span = place 0 })
    ≡ mismatch token.FloatLit token.IntegerLit (place 0)
mismatches = refl

-- Trees that are expected

wanted :
    ((wanted kind : TokenKind) → IsWantedKind wanted kind → (kind ≡ wanted) ⊎ (wanted ≡ token.Literal))
    × IsWanted token.Literal (literal [] token.FloatLit 0)
    × IsWanted token.Literal (ident (codes "true") 0)
wanted = (λ wanted kind is. is, inr refl, (refl, refl))

-- Bools

bool_idents :
    (is_bool_ident (ident (codes "true") 0) ≡ true)
    × (is_bool_ident (ident (codes "a") 0) ≡ false)
    × (is_bool_ident (literal (codes "true") token.StringLit 0) ≡ false)
bool_idents = (refl, refl, refl)

-- Facts about a bool, or about the error in its place

bool_answers : (t : TokenTree) →
    (IsBoolAnswer t (Ok True) → IsTrue (is_bool_ident (shape_of t)) × (text_of (shape_of t) ≡ codes "true"))
    × (IsBoolAnswer t (Ok False) → IsTrue (is_bool_ident (shape_of t)) × (text_of (shape_of t) ≡ codes "false"))
bool_answers t = (λ is. is, λ is. is)

bool_errors : (t : TokenTree) (e : InvalidToken) → IsBoolAnswer t (Err e) →
    IsFalse (is_bool_ident (shape_of t)) × (e ≡ mismatch token.BoolLit (actual_kind (shape_of t)) (tree_span t))
bool_errors t e is = is

-- The message of an error is one string between braces, of what is printed of the error.
message : (e : InvalidToken) (group : Group) (is : IsMessageGroup e group) →
    (group_delimiter group ≡ Brace)
    × (group_stream group ≡ variant.Literal is.message ∷ [])
    × (group_span group ≡ invalid_span e)
    × (chars is.message.text ≡ string_token (chars (invalid_text e)))
    × IsStringOf (chars is.message.text) (invalid_text e)
    × (is.message.span ≡ record { start = 0; end = 0 })
message e group is = (is.delimiter, is.stream, is.span, is.text, is.value, is.message_span)

-- It is given to a call of `compile_error`, whose trees have the span of the error.
compile_error : (e : InvalidToken) (trees : List TokenTree) (is : IsCompileError e trees) →
    (trees ≡ variant.Ident is.name ∷ variant.Punct is.mark ∷ variant.Group is.group ∷ [])
    × (is.name.text ≡ codes "compile_error")
    × (is.name.span ≡ invalid_span e)
    × (is.mark.character ∷ [] ≡ codes "!")
    × (is.mark.spacing ≡ Alone)
    × (is.mark.span ≡ invalid_span e)
    × IsMessageGroup e is.group
compile_error e trees is = (is.are, is.is_name, is.name_span, is.is_mark, is.spacing, is.mark_span, is.is_group)

-- A token of a literal has the kind of the literal, which is not a bool.
literal_token : (t : List ℕ) (kind : TokenKind) (is : IsLiteralToken t kind) →
    IsLiteral t is.derivation
    × (literal_kind is.derivation ≢ bool_literal)
    × (token_kind (literal_kind is.derivation) ≡ kind)
literal_token t kind is = (is.literal, is.no_bool, is.is_kind)
