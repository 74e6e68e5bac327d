-- The three trees.
use Rattle.std.proofs.Common.{rules}
use Rattle.litrs_token.proofs.Idents.{compile_error_is_ident}
use Rattle.litrs_token.proofs.Pushes.{pushed}
use Rattle.litrs_token.proofs.err.InvalidToken.to_compile_error.Goals as goal

pub copied-requires : goal.copied-requires
copied-requires c = compile_error_is_ident

pub returns : goal.returns
returns c = record {
  name = c.in_ok-name.name;
  mark = c.set_span.new.self;
  group = c.in_ok-group.group;
  are = pushed _ _ _ _ _ _ _ c.new-trees.ensures.items c.in_ok-push.ensures.items
      c.in_ok-push-2.ensures.items c.in_ok-push-3.ensures.items;
  is_name = c.in_ok-name.ensures.text;
  name_span = c.in_ok-name.ensures.span;
  is_mark = search rules;
  spacing = search rules;
  mark_span = search rules;
  is_group = c.in_ok-group.ensures;
}
