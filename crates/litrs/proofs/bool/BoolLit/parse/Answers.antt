-- The text is compared as bytes, and both words are ASCII.
use Rattle.std.proofs.Common.{rules, ◌≡◌, Bool, Some, true, false, sym, ap, subst, IsFalse, ◌∙◌}
use Rattle.std.specs.Str.{chars}
use Rattle.litrs_grammar.specs.Bool.{is_bool, bool_text}
use Rattle.litrs_grammar.proofs.Laws.Bool.{only_bool, no_bool, chars-bool_text}
use Rattle.litrs_grammar.proofs.Laws.Literal.{bool_refusal-none}
use Rattle.litrs_base.proofs.CharEnds.{no_span}
use Rattle.litrs_grammar.specs.Literal.{kind_parse, bool_literal}
use Rattle.litrs_grammar.proofs.Refused.{is_refused}
use Rattle.litrs.specs.BoolLiteral.{bool_value}
use Rattle.litrs.proofs.bool.BoolLit.parse.Goals as goal

no_bool_text : (b : Bool) → IsFalse (is_bool (bool_text b)) → ⊥
no_bool_text false h = search rules
no_bool_text true h = search rules

pub returns-in-Some-clause-ok : goal.returns-in-Some-clause-ok
returns-in-Some-clause-ok c =
    let value = c.in-Some.value in
    only_bool (chars c.args.s.now) (bool_value c.new.result)
    (ap bool_text c.new.ensures ∙ sym (ap chars c.in-Some.ensures.some ∙ chars-bool_text value))

pub returns-in-None-clause-refused : goal.returns-in-None-clause-refused
returns-in-None-clause-refused c =
    let other = λ (b : Bool) (e : c.args.s.now ≡ bool_text b).
    no_bool_text b (subst IsFalse (ap is_bool e) c.in-None.ensures.none) in
    is_refused (kind_parse bool_literal) (chars c.args.s.now) c.new-in-None.result
    (bool_refusal-none (chars c.args.s.now) (no_bool c.args.s.now c.utf8.s (other false) (other true)) ∙ ap Some (sym c.new-in-None.ensures.refusal))
    (no_span _ _ _ c.new-in-None.ensures.refusal)
