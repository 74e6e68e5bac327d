-- A bool, or an identifier.
use Rattle.std.proofs.Common.{◌≡◌, ◌<◌, ◌≤◌, length, arith, false, sym, ap, ◌∙◌}
use Rattle.std.specs.Str.{chars}
use Rattle.litrs_base.specs.Text.{first_passes}
use Rattle.litrs_grammar.specs.Suffix.{starts_identifier}
use Rattle.litrs_prefix.specs.Opens.{after_name}
use Rattle.litrs_prefix.specs.Prefix.{is_quote_or_hash}
use Rattle.litrs_prefix.proofs.Ends.{end_of_end, not_longer, shorter}
use Rattle.litrs_lexer.specs.declared.kind.TokenKind.TheVariants.{Ident, Literal}
use Rattle.litrs_lexer.proofs.Cuts.{cut_after, after_char, bool_token_of, bool_ends, name_rest}
use Rattle.litrs_lexer.proofs.cut.cut_word.Goals as goal

pub cut_prefix-kind-requires-clause-end : goal.cut_prefix-kind-requires-clause-end
cut_prefix-kind-requires-clause-end c =
    end_of_end c.args.text.now c.args.after.now c.after_run-rest.result.now (after_char c.args.text.now c.args.after.now c.args.c c.requires.first) c.after_run-rest.ensures.end

pub cut_prefix-kind-requires-clause-shorter : goal.cut_prefix-kind-requires-clause-shorter
cut_prefix-kind-requires-clause-shorter c =
    let a : length c.args.after.now < length c.args.text.now = shorter c.args.text.now c.args.c c.args.after.now c.requires.first.bytes in
    let b : length c.after_run-rest.result.now ≤ length c.args.after.now = not_longer c.args.after.now c.after_run-rest.result.now c.after_run-rest.ensures.end in
    omega arith

pub starts_with_bool-requires-clause-end : goal.starts_with_bool-requires-clause-end
starts_with_bool-requires-clause-end c =
    end_of_end c.args.text.now c.args.after.now c.after_run-rest.result.now (after_char c.args.text.now c.args.after.now c.args.c c.requires.first) c.after_run-rest.ensures.end

pub starts_with_bool-requires-clause-name : goal.starts_with_bool-requires-clause-name
starts_with_bool-requires-clause-name c = name_rest c.args.c (chars c.args.text.now) (chars c.args.after.now) (chars c.after_run-rest.result.now) c.requires.first.is c.requires.name c.after_run-rest.ensures.rest

pub returns-then-starts_with_bool-clause-cut : goal.returns-then-starts_with_bool-clause-cut
returns-then-starts_with_bool-clause-cut c =
    let text = c.args.text.now in
    let after = c.args.after.now in
    let rest = c.after_run-rest.result.now in
    let follows : chars rest ≡ after_name (chars text) = name_rest c.args.c (chars text) (chars after) (chars rest) c.requires.first.is c.requires.name c.after_run-rest.ensures.rest in
    let none : first_passes is_quote_or_hash (chars rest) ≡ false = sym c.starts_with_quote_or_hash.ensures ∙ c.if-starts_with_quote_or_hash.false in
    cut_after Literal text after rest c.args.c c.requires.first c.after_run-rest.ensures.end
    (bool_token_of (chars text) (chars rest) (sym c.starts_with_bool.ensures ∙ c.if-starts_with_bool.true) follows (bool_ends (chars after) (chars rest) c.after_run-rest.ensures.rest none))

pub returns-else-starts_with_bool-clause-cut : goal.returns-else-starts_with_bool-clause-cut
returns-else-starts_with_bool-clause-cut c =
    let text = c.args.text.now in
    let after = c.args.after.now in
    let rest = c.after_run-rest.result.now in
    let follows : chars rest ≡ after_name (chars text) = name_rest c.args.c (chars text) (chars after) (chars rest) c.requires.first.is c.requires.name c.after_run-rest.ensures.rest in
    let none : first_passes is_quote_or_hash (chars rest) ≡ false = sym c.starts_with_quote_or_hash.ensures ∙ c.if-starts_with_quote_or_hash.false in
    cut_after Ident text after rest c.args.c c.requires.first c.after_run-rest.ensures.end
    (ap (first_passes starts_identifier) c.requires.first.is ∙ c.requires.name, sym c.starts_with_bool.ensures ∙ c.if-starts_with_bool.false, follows, none)
