-- Each form is written; an escape character by character.
use Rattle.std.proofs.Common.{rules, ◌≡◌, ◌++◌, ◌∷◌, [], ℕ, List, sym, ap, ◌∙◌, refl, append_assoc, append-nil}
use Rattle.std.specs.Char.{encode_utf8}
use Rattle.std.specs.Char.Iter.{escape_rest}
use Rattle.std.specs.Str.{encode_utf8_all}
use Rattle.std.proofs.Output.{has_written_append, has_written_of_eq}
use Rattle.litrs_diagnostic.proofs.Encodes.{encodes_more}
use Rattle.litrs_diagnostic.proofs.Widths.{tab_is_shown, printable_is_shown, escape_is_shown}
use Rattle.litrs_diagnostic.proofs.marks.write_shown.Goals as goal

pub returns-then-c-eq9 : goal.returns-then-c-eq9
returns-then-c-eq9 g c = λ plain ok.
    has_written_of_eq _ _ _ _ _ (ap encode_utf8_all (sym (tab_is_shown c.args.c c.if-c-eq9.true)))
    (c.write_times.ensures plain ok)

pub returns-then-is_printable : goal.returns-then-is_printable
returns-then-is_printable g c = λ plain ok.
    let form = printable_is_shown c.args.c c.if-c-eq9.false (sym c.is_printable.ensures
    ∙ c.if-is_printable.true) in
    has_written_of_eq _ _ _ _ _ (sym (ap encode_utf8_all form
    ∙ append-nil (encode_utf8 c.args.c))) (c.write_char.ensures.writes plain ok)

pub loop-part-init : goal.loop-part-init
loop-part-init g c = λ plain. (
  [],
  search rules,
  ap escape_rest c.into_iter-part-iterator.ensures.into_iter_gives
      ∙ c.escape_unicode-part-items.ensures.rest,
)

pub loop-part-preserved : goal.loop-part-preserved
loop-part-preserved g c = λ plain.
    let now = c.loop-part.invariant plain in
    let part = c.in-Some.part in (
      now.0 ++ part ∷ [],
      has_written_of_eq _ _ _ _ _ (encodes_more now.0 part)
          (has_written_append _ _ _ _ _ _ now.1 (search rules)),
      append_assoc now.0 (part ∷ []) _ ∙ ap (λ (l : List ℕ). now.0 ++ l)
          (sym c.in-Some.ensures.steps.1.0) ∙ now.2,
    )

pub returns : goal.returns
returns g c = λ plain ok.
    let now = c.loop-part.invariant plain in
    let none : escape_rest c.loop-part.part-iterator ≡ [] = rw c.in-None.ensures.steps.1.0 refl in
    let form = escape_is_shown c.args.c c.if-c-eq9.false (sym c.is_printable.ensures
    ∙ c.if-is_printable.false) in
    let all = sym (append-nil now.0) ∙ (ap (λ (l : List ℕ). now.0 ++ l) (sym none)
    ∙ (now.2 ∙ sym form)) in
    has_written_of_eq _ _ _ _ _ (ap encode_utf8_all all) now.1
