-- The bool at the front is the name if no more follows.
use Rattle.litrs_prefix.proofs.Words.{not, List, ℕ, sym, ap, ◌∙◌, chars, is_xid_continue, first_passes, is_bool, first_name}
use Rattle.litrs_prefix.proofs.Names.{name_is_bool}
use Rattle.litrs_prefix.proofs.Runs.{bool_front, no_bool_name}
use Rattle.litrs_prefix.proofs.opening.opens_bool.Goals as goal

pub range_from-requires : goal.range_from-requires
range_from-requires c = λ _. let is = c.in-Some.ensures.some in (bool_front c.args.text.now is.0 c.in-Some.len c.utf8.text is.1 is.2).0

pub returns-in-Some : goal.returns-in-Some
returns-in-Some c =
    let is = c.in-Some.ensures.some in
    ap not c.continues_name.ensures
    ∙ (ap (λ (l : List ℕ). not (first_passes is_xid_continue (chars l))) c.range_from.ensures.value
    ∙ (name_is_bool is.0 _ ∙ ap (λ (l : List ℕ). is_bool (first_name l)) (bool_front c.args.text.now is.0 c.in-Some.len c.utf8.text is.1 is.2).1))

pub returns-in-None : goal.returns-in-None
returns-in-None c = sym (no_bool_name c.args.text.now c.utf8.text c.in-None.ensures.none)
