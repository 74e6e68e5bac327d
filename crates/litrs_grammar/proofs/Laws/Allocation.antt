-- Texts that a parse may allocate memory for, by the parts of the literal.
use Rattle.std.proofs.Common.{◌≡◌, ℕ, Bool, true, false, ◌||◌, List, [], ◌∷◌, ◌++◌, refl, sym, ap, ◌∙◌, arith, inl, inr}
use Rattle.std.specs.Prelude.{◌==◌}
use Rattle.std.specs.Char.{is_ascii_digit, is_ascii_alphanumeric}
use Rattle.std.specs.List.{list_all}
use Rattle.std.proofs.lemmas.Bool.{and_parts, or_from, cases_lt}
use Rattle.std.proofs.lemmas.Bool.Decides.{nat_tests}
use Rattle.std.proofs.lemmas.List.Folds.{list_any-append}
use Rattle.unicode_ident.specs.Ident.{is_xid_continue}
use Rattle.unicode_ident.proofs.IdentLemmas.{is_xid_continue-ascii}
use Rattle.litrs_base.specs.Text.{first_passes}
use Rattle.litrs_grammar.specs.Suffix.{is_suffix}
use Rattle.litrs_grammar.specs.Quoted.{Item, body_text}
use Rattle.litrs_grammar.specs.Literal.{quoted_parts, raw_parts, a_bool, an_integer, a_float, a_char, a_byte, a_string, a_byte_string, a_c_string}
use Rattle.litrs_grammar.specs.Allocation.{has_backslash, may_allocate}
use Rattle.litrs_grammar.specs.Laws.Allocation.{AllocationIsByParts}
use Rattle.litrs_grammar.proofs.SuffixStart.{suffix_continues}
use Rattle.litrs_grammar.proofs.Laws.Integer.{starts_with_digit}
use Rattle.litrs_grammar.proofs.Laws.Literal.{float_digit}

no_backslash_continues : (c : ℕ) → is_xid_continue c ≡ true → (c == 92) ≡ false
no_backslash_continues c h = elim (cases_lt c 128) [
  | inl low ↦ (let e : (is_ascii_alphanumeric c || (c == 95)) ≡ true = sym (is_xid_continue-ascii c low) ∙ h in grind (arith, nat_tests))
  | inr high ↦ grind (arith, nat_tests)
]

no_backslash : (t : List ℕ) → list_all is_xid_continue t ≡ true → has_backslash t ≡ false
no_backslash [] h = refl
no_backslash (c ∷ t) h =
    let p = and_parts (is_xid_continue c) (list_all is_xid_continue t) h in
    or_from _ _ (no_backslash_continues c p.0) (no_backslash t p.1)

-- after its front a quoted literal has a backslash if its body has one
in_body : (items : List Item) (suffix : List ℕ) → is_suffix suffix ≡ true → ((has_backslash (body_text items ++ 34 ∷ suffix) || false) || false) ≡ has_backslash (body_text items)
in_body items suffix h =
    (λ i. ((list_any-append (λ c. c == 92) (body_text items) (34 ∷ suffix) i) || false) || false)
    ∙ ap (λ b. ((has_backslash (body_text items) || b) || false) || false) (no_backslash suffix (suffix_continues suffix h))
    ∙ none_more (has_backslash (body_text items))
  where
    none_more : (b : Bool) → (((b || false) || false) || false) ≡ b
    none_more true = refl
    none_more false = refl

-- a text that begins with a digit does not begin with any of the fronts
of_number : (t : List ℕ) → first_passes is_ascii_digit t ≡ true → may_allocate t ≡ false
of_number [] h = refl
of_number (c ∷ t) h =
    let quote : (34 == c) ≡ false = grind (arith, nat_tests) in
    let letter_b : (98 == c) ≡ false = grind (arith, nat_tests) in
    let letter_c : (99 == c) ≡ false = grind (arith, nat_tests) in
    rw (quote, letter_b, letter_c) refl

pub allocation_is_by_parts : AllocationIsByParts
allocation_is_by_parts t (a_bool true) r = ap may_allocate (sym r)
allocation_is_by_parts t (a_bool false) r = ap may_allocate (sym r)
allocation_is_by_parts t (an_integer d) r = of_number t (starts_with_digit t d r)
allocation_is_by_parts t (a_float d) r = of_number t (float_digit t d r)
allocation_is_by_parts t (a_char d) r = ap may_allocate (sym r.spells)
allocation_is_by_parts t (a_byte d) r = ap may_allocate (sym r.spells)
allocation_is_by_parts t (a_string (quoted_parts d)) r = ap may_allocate (sym r.spells) ∙ in_body d.items d.suffix r.suffix
allocation_is_by_parts t (a_string (raw_parts d)) r = ap may_allocate (sym r.spells)
allocation_is_by_parts t (a_byte_string (quoted_parts d)) r = ap may_allocate (sym r.spells) ∙ in_body d.items d.suffix r.suffix
allocation_is_by_parts t (a_byte_string (raw_parts d)) r = ap may_allocate (sym r.spells)
allocation_is_by_parts t (a_c_string (quoted_parts d)) r = ap may_allocate (sym r.spells)
allocation_is_by_parts t (a_c_string (raw_parts d)) r = ap may_allocate (sym r.spells)
