-- Names at the front of a text.
use Rattle.litrs_prefix.proofs.Words.{◌≡◌, ◌⊎◌, ℕ, Bool, true, false, not, List, [], ◌∷◌, ◌++◌, refl, arith, if◌then◌else◌, is_ascii_digit, list_all, is_xid_continue, first_passes, bool_text, is_bool, first_name, after_run, after_name, begins_with_lifetime, opens_raw, opens_bytes, opens_c_string, opens, ends_suffix, ends_bool, is_suffix, first_run, nat_tests, append_cancel_right, is_xid_start-ascii, is_xid_continue-ascii}
use Rattle.litrs_prefix.specs.Laws.{SuffixesAreUnique}

pub run_and_rest : (t : List ℕ) → first_run t ++ after_run t ≡ t
run_and_rest [] = refl
run_and_rest (c ∷ t) = grind (arith, run_and_rest t)

-- the name and what follows it are the text
pub name_and_rest : (t : List ℕ) → first_name t ++ after_name t ≡ t
name_and_rest [] = refl
name_and_rest (c ∷ t) = grind (arith, run_and_rest t)

-- the text after the name that a suffix is

pub run_after : (s r : List ℕ) → list_all is_xid_continue s ≡ true → first_passes is_xid_continue r ≡ false → after_run (s ++ r) ≡ r
run_after [] r h e = grind arith
run_after (c ∷ s) r h e = grind (arith, run_after s r)

pub name_after : (s r : List ℕ) → is_suffix s ≡ true → ends_suffix s r ≡ true → after_name (s ++ r) ≡ r
unfolding is_suffix
name_after s r h e = grind (arith, run_after)

-- the name of a suffix is the suffix
name_first : (s r : List ℕ) → is_suffix s ≡ true → ends_suffix s r ≡ true → first_name (s ++ r) ≡ s
name_first s r h e = append_cancel_right (first_name (s ++ r)) s r (rw (name_after s r h e) at (name_and_rest (s ++ r)))

pub same_suffix : SuffixesAreUnique
same_suffix s x r y h g e f same = (grind (arith, name_first s r h e, name_first x y g f), grind (arith, name_after s r h e, name_after x y g f))

-- bools

pub bool_after : (b : Bool) (r : List ℕ) → ends_bool r ≡ true → after_name (bool_text b ++ r) ≡ r
bool_after b r h = grind (arith, is_xid_start-ascii, is_xid_continue-ascii)

-- the name is the bool at the front if no more follows
pub name_is_bool : (b : Bool) (r : List ℕ) → not (first_passes is_xid_continue r) ≡ is_bool (first_name (bool_text b ++ r))
name_is_bool b r = grind (arith, is_xid_start-ascii, is_xid_continue-ascii)

-- how a literal begins at the front of a text
pub data Opening : List ℕ → Type 0 where
  digit : {c : ℕ} {t : List ℕ} → is_ascii_digit c ≡ true → Opening (c ∷ t)
  double : {t : List ℕ} → Opening (34 ∷ t)
  single : {t : List ℕ} → begins_with_lifetime t ≡ false → Opening (39 ∷ t)
  raw : {t : List ℕ} → opens_raw t ≡ true → Opening (114 ∷ t)
  bytes : {t : List ℕ} → opens_bytes t ≡ true → Opening (98 ∷ t)
  c_string : {t : List ℕ} → opens_c_string t ≡ true → Opening (99 ∷ t)
  word_true : {t : List ℕ} → is_bool (first_name (116 ∷ t)) ≡ true → Opening (116 ∷ t)
  word_false : {t : List ℕ} → is_bool (first_name (102 ∷ t)) ≡ true → Opening (102 ∷ t)

pub first_of_bool : (v : Bool) (c : ℕ) (l : List ℕ) → is_bool (if v then c ∷ l else []) ≡ true → (c ≡ 116) ⊎ (c ≡ 102)
first_of_bool v c l h = grind (arith, nat_tests)

pub opening : (t : List ℕ) → opens t ≡ true → Opening t
opening t h = grind (arith, nat_tests, digit, double, single, raw, bytes, c_string, word_true, word_false, first_of_bool)
