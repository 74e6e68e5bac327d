-- The text of a bool is an identifier.
use Rattle.std.proofs.Common.{ap, ◌∙◌}
use Rattle.std.specs.Str.{chars}
use Rattle.litrs.specs.BoolLiteral.{bool_value}
use Rattle.litrs_token.specs.Tokens.{is_ident}
use Rattle.litrs_token.proofs.Idents.{bool_is_ident}
use Rattle.litrs_token.proofs.into_token.BoolLitIntoIdent.into_ident.Goals as goal

pub copied-requires : goal.copied-requires
copied-requires c =
    ap (λ t. is_ident (chars t)) c.as_str.ensures ∙ bool_is_ident (bool_value c.args.self)
