-- The first and last characters of a suffix.
use Rattle.std.proofs.Common.{◌≡◌, ℕ, ◌<◌, Bool, true, false, ◌||◌, List, [], ◌∷◌, refl, sym, ap, subst, ◌∙◌, inl, inr, arith}
use Rattle.std.specs.Prelude.{◌==◌}
use Rattle.std.specs.Char.{is_ascii_alphabetic, is_ascii_alphanumeric}
use Rattle.std.specs.List.{list_all}
use Rattle.std.proofs.lemmas.Bool.{and_parts, and_from, true≢false, or_cases, eqb-true, cases_Bool, cases_lt}
use Rattle.std.proofs.lemmas.Bool.Decides.{nat_tests}
use Rattle.unicode_ident.specs.Ident.{is_xid_start, is_xid_continue}
use Rattle.unicode_ident.proofs.IdentLemmas.{is_xid_start-ascii, is_xid_continue-ascii, is_xid_start-is_xid_continue}
use Rattle.litrs_base.specs.Text.{first_passes}
use Rattle.litrs_grammar.specs.Suffix.{is_suffix, starts_identifier}
use Rattle.litrs_base.proofs.Runs.{last_passes, is_line_feed, last_passes-all}

-- an ASCII character that begins an identifier is a letter or `_`
pub starts_ascii : (c : ℕ) → c < 128 → starts_identifier c ≡ true → (is_ascii_alphabetic c || (c == 95)) ≡ true
starts_ascii c low starts =
    let e : is_xid_start c ≡ is_ascii_alphabetic c = is_xid_start-ascii c low in
    let s : ((c == 95) || is_ascii_alphabetic c) ≡ true = ap (λ v. (c == 95) || v) (sym e) ∙ starts in
    grind (arith, nat_tests)

-- A test that only ASCII characters pass, and no letter and not `_`, fails at the first character of a suffix.
pub suffix_begins_otherwise : (p : ℕ → Bool) → ((c : ℕ) → p c ≡ true → c < 128) → ((c : ℕ) → p c ≡ true → (is_ascii_alphabetic c || (c == 95)) ≡ false) →
    (t : List ℕ) → is_suffix t ≡ true → first_passes p t ≡ false
unfolding is_suffix
suffix_begins_otherwise p low other [] h = refl
suffix_begins_otherwise p low other (c ∷ cs) h = elim (cases_Bool (p c)) [
  | inr no_pass ↦ no_pass
  | inl pass ↦ absurd (true≢false (sym (starts_ascii c (low c pass) (and_parts _ _ (and_parts _ _ h).0).0) ∙ other c pass))
]

pub not_line_feed : (c : ℕ) → is_xid_continue c ≡ true → is_line_feed c ≡ false
not_line_feed c h = elim (cases_lt c 128) [
  | inl low ↦ (let e : (is_ascii_alphanumeric c || (c == 95)) ≡ true = sym (is_xid_continue-ascii c low) ∙ h in grind (arith, nat_tests))
  | inr high ↦ grind (arith, nat_tests)
]

pub starts_continue : (c : ℕ) → starts_identifier c ≡ true → is_xid_continue c ≡ true
starts_continue c h = elim (or_cases (c == 95) (is_xid_start c) h) [
  | inl underscore ↦ (let e : c ≡ 95 = eqb-true c 95 underscore in subst (λ (x : ℕ). is_xid_continue x ≡ true) (sym e) (is_xid_continue-ascii 95 (omega arith)))
  | inr start ↦ is_xid_start-is_xid_continue c start
]

-- every character of a suffix may continue an identifier
pub suffix_continues : (t : List ℕ) → is_suffix t ≡ true → list_all is_xid_continue t ≡ true
unfolding is_suffix
suffix_continues [] h = refl
suffix_continues (c ∷ cs) h =
    let both : (starts_identifier c ≡ true) × (list_all is_xid_continue cs ≡ true) = and_parts _ _ (and_parts _ _ h).0 in
    and_from _ _ (starts_continue c both.0) both.1

-- a suffix does not end with LF
pub suffix_last : (t : List ℕ) → is_suffix t ≡ true → last_passes is_line_feed t ≡ false
suffix_last t h = last_passes-all is_xid_continue is_line_feed not_line_feed t (suffix_continues t h)
