-- Each exit is a row of the refusals, by the tests on the bytes.
use Rattle.std.proofs.Common.{◌≡◌, ℕ, List, Bool, rules, tests, subst, true, false, not, ◌&&◌, eqb, eq-eqb, length, Some, drop, slice_range, sym, ap, ◌∙◌, arith}
use Rattle.std.specs.Str.{chars}
use Rattle.std.specs.Char.{is_ascii_digit}
use Rattle.std.specs.List.{list_any}
use Rattle.std.proofs.lemmas.Bool.{ne_eqb, and_from, and_left, and_right}
use Rattle.std.proofs.lemmas.Iterator.{YieldsList-from_slice}
use Rattle.std.proofs.lemmas.Iterator.Search.{any_from_yields_List}
use Rattle.litrs_base.specs.Refusal.{spanning}
use Rattle.litrs_base.specs.Text.{is_empty}
use Rattle.litrs_grammar.specs.Suffix.{is_suffix, suffix_kind}
use Rattle.litrs_lex.proofs.FloatBytes.{empty_by_length, places_of_cut, refusal_of_cut, row_no_digit, row_suffix, row_integer, row_none}
use Rattle.litrs_lex.proofs.float.cut_refusal.Goals as goal
use Rattle.litrs_lex.proofs.float.cut_refusal.Goals.{else-not-is_empty-via-then-not-is_empty+else-not-any, else-not-is_empty-via-else-not-is_empty}

-- the bytes that are tested are those of the text
same_digits : (start end : ℕ) {bytes text : List ℕ} {v : Bool} → bytes ≡ text →
    (not (is_empty (slice_range bytes start end)) && not (list_any is_ascii_digit (slice_range bytes start end))) ≡ v →
    (not (is_empty (slice_range text start end)) && not (list_any is_ascii_digit (slice_range text start end))) ≡ v
same_digits start end {v = v} same is = subst (λ (t : List ℕ). (not (is_empty (slice_range t start end)) && not (list_any is_ascii_digit (slice_range t start end))) ≡ v) same is

pub split_at-requires : goal.split_at-requires
split_at-requires c = (places_of_cut c.args.cut.now c.args.input.now c.utf8.input c.requires.parts).number

pub returns-then-not-any : goal.returns-then-not-any
returns-then-not-any c =
    let bs = c.args.input.now in
    let cut = c.args.cut.now in
    let wrong = c.requires.fraction in
    let x = slice_range bs cut.end_fraction cut.end_number in
    let seen = slice_range c.as_bytes.result.now cut.end_fraction cut.end_number in
    let none : c.any.result ≡ list_any is_ascii_digit seen =
    any_from_yields_List is_ascii_digit _ _ _ c.any.ensures.ran (YieldsList-from_slice seen c.iter.ensures.rest) (λ x b q k. search (rules, tests)) in
    let some : is_empty seen ≡ false = sym (empty_by_length seen) ∙ (sym c.is_empty.ensures ∙ c.if-not-is_empty.true) in
    let digit : (not (is_empty x) && not (list_any is_ascii_digit x)) ≡ true =
    same_digits cut.end_fraction cut.end_number c.as_bytes.ensures.value (and_from _ _ (ap not some) (ap not (sym none ∙ c.if-not-any.true))) in
    sym (refusal_of_cut cut bs c.utf8.input c.requires.parts ∙ row_no_digit _ _ _ _ _ _ _ _ _ wrong digit)

pub returns-in-Err : goal.returns-in-Err
returns-in-Err c =
    let bs = c.args.input.now in
    let cut = c.args.cut.now in
    let wrong = c.requires.fraction in
    let x = slice_range bs cut.end_fraction cut.end_number in
    let digit : (not (is_empty x) && not (list_any is_ascii_digit x)) ≡ false = same_digits cut.end_fraction cut.end_number c.as_bytes.ensures.value (elim c.else-not-is_empty.branch [
      | else-not-is_empty-via-then-not-is_empty+else-not-any w ↦ and_right _ _ (ap not (sym (any_from_yields_List is_ascii_digit _ _ _ w.any.ensures.ran
          (YieldsList-from_slice (slice_range c.as_bytes.result.now cut.end_fraction cut.end_number) w.iter.ensures.rest) (λ x b q k. search (rules, tests))) ∙ w.if-not-any.false))
      | else-not-is_empty-via-else-not-is_empty w ↦
          and_left _ _ (ap not (sym (empty_by_length (slice_range c.as_bytes.result.now cut.end_fraction cut.end_number)) ∙ (sym c.is_empty.ensures ∙ w.if-not-is_empty.false)))
    ]) in
    let back : chars (drop cut.end_number bs) ≡ chars c.split_at.result.1.now = ap chars (sym c.split_at.ensures.back) in
    let suffix : is_suffix (chars (drop cut.end_number bs)) ≡ false = ap is_suffix back ∙ sym c.in-Err.ensures.ok in
    let kind : c.in-Err.kind ≡ suffix_kind (chars (drop cut.end_number bs)) = c.in-Err.ensures.err ∙ sym (ap suffix_kind back) in
    ap (λ k. Some (spanning cut.end_number (length bs) k)) kind ∙ sym (refusal_of_cut cut bs c.utf8.input c.requires.parts ∙ row_suffix _ _ _ _ _ _ _ _ _ wrong digit suffix)

pub returns-then-cut-end_number : goal.returns-then-cut-end_number
returns-then-cut-end_number c =
    let bs = c.args.input.now in
    let cut = c.args.cut.now in
    let wrong = c.requires.fraction in
    let x = slice_range bs cut.end_fraction cut.end_number in
    let digit : (not (is_empty x) && not (list_any is_ascii_digit x)) ≡ false = same_digits cut.end_fraction cut.end_number c.as_bytes.ensures.value (elim c.else-not-is_empty.branch [
      | else-not-is_empty-via-then-not-is_empty+else-not-any w ↦ and_right _ _ (ap not (sym (any_from_yields_List is_ascii_digit _ _ _ w.any.ensures.ran
          (YieldsList-from_slice (slice_range c.as_bytes.result.now cut.end_fraction cut.end_number) w.iter.ensures.rest) (λ x b q k. search (rules, tests))) ∙ w.if-not-any.false))
      | else-not-is_empty-via-else-not-is_empty w ↦
          and_left _ _ (ap not (sym (empty_by_length (slice_range c.as_bytes.result.now cut.end_fraction cut.end_number)) ∙ (sym c.is_empty.ensures ∙ w.if-not-is_empty.false)))
    ]) in
    let back : chars (drop cut.end_number bs) ≡ chars c.split_at.result.1.now = ap chars (sym c.split_at.ensures.back) in
    let suffix : is_suffix (chars (drop cut.end_number bs)) ≡ true = ap is_suffix back ∙ sym c.in_default.ensures.ok in
    let same : eqb cut.end_integer cut.end_number ≡ true = eq-eqb cut.end_integer cut.end_number (omega (arith, c.if-cut-end_number.true)) in
    sym (refusal_of_cut cut bs c.utf8.input c.requires.parts ∙ row_integer _ _ _ _ _ _ _ _ _ wrong digit suffix same)

pub returns : goal.returns
returns c =
    let bs = c.args.input.now in
    let cut = c.args.cut.now in
    let wrong = c.requires.fraction in
    let x = slice_range bs cut.end_fraction cut.end_number in
    let digit : (not (is_empty x) && not (list_any is_ascii_digit x)) ≡ false = same_digits cut.end_fraction cut.end_number c.as_bytes.ensures.value (elim c.else-not-is_empty.branch [
      | else-not-is_empty-via-then-not-is_empty+else-not-any w ↦ and_right _ _ (ap not (sym (any_from_yields_List is_ascii_digit _ _ _ w.any.ensures.ran
          (YieldsList-from_slice (slice_range c.as_bytes.result.now cut.end_fraction cut.end_number) w.iter.ensures.rest) (λ x b q k. search (rules, tests))) ∙ w.if-not-any.false))
      | else-not-is_empty-via-else-not-is_empty w ↦
          and_left _ _ (ap not (sym (empty_by_length (slice_range c.as_bytes.result.now cut.end_fraction cut.end_number)) ∙ (sym c.is_empty.ensures ∙ w.if-not-is_empty.false)))
    ]) in
    let back : chars (drop cut.end_number bs) ≡ chars c.split_at.result.1.now = ap chars (sym c.split_at.ensures.back) in
    let suffix : is_suffix (chars (drop cut.end_number bs)) ≡ true = ap is_suffix back ∙ sym c.in_default.ensures.ok in
    let other : eqb cut.end_integer cut.end_number ≡ false = ne_eqb cut.end_integer cut.end_number (λ e. omega (arith, c.if-cut-end_number.false)) in
    sym (refusal_of_cut cut bs c.utf8.input c.requires.parts ∙ row_none _ _ _ _ _ _ _ _ _ wrong digit suffix other)
