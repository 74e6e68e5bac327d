-- Texts for which the answer may be an allocation failure.
use Rattle.std.specs.Prelude.{◌≡◌, [], ◌∷◌, false, codes, refl}
use Rattle.std.proofs.Common.{sym, ap, ◌∙◌}
use Rattle.std.proofs.lemmas.Bool.{false≢true}
use Rattle.litrs_base.specs.declared.err.ParseError.{ParseError}
use Rattle.litrs_base.specs.declared.err.ParseErrorKind.TheVariants as kind
use Rattle.litrs_base.specs.Refusal.{without_span, at_byte, spanning, refusal_of}
use Rattle.litrs_grammar.specs.Allocation.{may_allocate, takes_memory}
use Rattle.litrs_grammar.specs.Escape.{simple_escape}
use Rattle.litrs_grammar.specs.Literal.{a_string, quoted_parts, literal_parse, IsLiteral}
use Rattle.litrs_grammar.specs.LiteralRefusals.{IsRefusal}
use Rattle.litrs_grammar.specs.Quoted.{plain_item, escape_item, continuation}
use Rattle.litrs_grammar.specs.Refused.{IsOutOfMemory}
use Rattle.litrs_grammar.proofs.Laws.Allocation.{allocation_is_by_parts}
use Rattle.litrs_grammar.proofs.Computing.{computing, quoted, refused_after}
use Rattle.litrs_grammar.proofs.Laws.Literal.{literals_are_unique, literals_are_not_refused}

-- the value of a string with an escape is allocated
with_escape : (e : ParseError) → refusal_of e ≡ without_span kind.OutOfMemory → IsOutOfMemory literal_parse (codes "\"\\n\"") e
unfolding computing
with_escape e is = record {
  derivation = a_string (quoted_parts (record { items = escape_item (simple_escape 110) ∷ []; suffix = [] }));
  literal = quoted refl refl refl;
  allocated = refl;
  takes = refl;
  error = is;
}

-- the value of one without a backslash is not
without_backslash : (e : ParseError) → ¬ IsOutOfMemory literal_parse (codes "\"ab\"") e
unfolding computing
without_backslash e failed =
    let none : may_allocate (codes "\"ab\"") ≡ false = refl in
    absurd (false≢true (sym none ∙ allocation_is_by_parts (codes "\"ab\"") failed.derivation failed.literal ∙ failed.allocated))

-- a string that is not finished has no value
unfinished_refusal : IsRefusal literal_parse (codes "\"a\\n") (spanning 2 3 kind.UnterminatedEscape)
unfolding computing
unfinished_refusal = refused_after (plain_item 97 ∷ []) (codes "\\n") (at_byte 0 kind.UnterminatedEscape) refl refl refl refl

unfinished : (e : ParseError) → ¬ IsOutOfMemory literal_parse (codes "\"a\\n") e
unfinished e failed =
    literals_are_not_refused literal_parse (codes "\"a\\n") failed.derivation (spanning 2 3 kind.UnterminatedEscape) failed.literal unfinished_refusal

-- the value of a line continuation alone is empty
empty_value : (e : ParseError) → ¬ IsOutOfMemory literal_parse (codes "\"\\\n\"") e
unfolding computing
empty_value e failed =
    let value = a_string (quoted_parts (record { items = continuation [] ∷ []; suffix = [] })) in
    let is : IsLiteral (codes "\"\\\n\"") value = quoted refl refl refl in
    let same = literals_are_unique (codes "\"\\\n\"") failed.derivation value failed.literal is in
    false≢true (ap takes_memory (sym same) ∙ failed.takes)
