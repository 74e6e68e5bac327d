-- The trees that make the compiler print a message: a call of the macro `compile_error` of the
-- standard library. The Rust Reference, Macros, Macro invocation.
use Rattle.std.specs.Prelude.{◌≡◌, List, [], ◌∷◌, codes}
use Rattle.std.specs.Str.{chars}
use Rattle.litrs_token.specs.declared.err.InvalidToken.{InvalidToken}
use Rattle.litrs_token.specs.declared.punct.Spacing.TheVariants.{Alone}
use Rattle.litrs_token.specs.declared.tree.Delimiter.TheVariants.{Brace}
use Rattle.litrs_token.specs.declared.tree.Group.{Group}
use Rattle.litrs_token.specs.declared.tree.TokenTree.{TokenTree}
use Rattle.litrs_token.specs.declared.tree.TokenTree.TheVariants as tree
use Rattle.litrs_token.specs.Errors.{invalid_span, invalid_text}
use Rattle.litrs_token.specs.LiteralToken.{LiteralToken}
use Rattle.litrs_token.specs.Place.{call_site}
use Rattle.litrs_token.specs.StringToken.{string_token, IsStringOf}
use Rattle.litrs_token.specs.Tokens.{IdentToken, PunctToken}
use Rattle.litrs_token.specs.Tree.{group_delimiter, group_stream, group_span}

-- `group` has one string between braces, whose value is the error `e` as it is printed. The group
-- has the span of the error, and the string has the call-site span.
pub record IsMessageGroup (e : InvalidToken) (group : Group) : Type 0 where
  pub message : LiteralToken
  pub delimiter : group_delimiter group ≡ Brace
  pub stream : group_stream group ≡ tree.Literal message ∷ []
  pub span : group_span group ≡ invalid_span e
  pub text : chars message.text ≡ string_token (chars (invalid_text e))
  pub value : IsStringOf (chars message.text) (invalid_text e)
  pub message_span : message.span ≡ call_site

-- `trees` are `compile_error`, `!` and such a group, all with the span of the error.
pub record IsCompileError (e : InvalidToken) (trees : List TokenTree) : Type 0 where
  pub name : IdentToken
  pub mark : PunctToken
  pub group : Group
  pub are : trees ≡ tree.Ident name ∷ tree.Punct mark ∷ tree.Group group ∷ []
  pub is_name : name.text ≡ codes "compile_error"
  pub name_span : name.span ≡ invalid_span e
  pub is_mark : mark.character ∷ [] ≡ codes "!"
  pub spacing : mark.spacing ≡ Alone
  pub mark_span : mark.span ≡ invalid_span e
  pub is_group : IsMessageGroup e group
