-- Suffixes, by the first character and the first byte of a text.
use Rattle.std.proofs.Common.{◌≡◌, ℕ, suc, ◌+◌, true, not, ◌&&◌, cond, eqb, List, [], ◌∷◌, length, drop, get_or, ◌≤◌, refl, sym, ap, Bool, false, ◌||◌, ◌<◌, ◌∙◌, slice_get, Some, None, arith}
use Rattle.std.specs.List.{list_all, prefix_len}
use Rattle.unicode_ident.specs.Ident.{is_xid_continue}
use Rattle.litrs_base.specs.Text.{is_empty, first_passes}
use Rattle.litrs_grammar.specs.Suffix.{starts_identifier, is_suffix, is_ascii_symbol, suffix_kind}
use Rattle.std.specs.Str.{chars, IsUtf8}
use Rattle.std.specs.Char.{is_ascii_alphabetic}
use Rattle.std.proofs.lemmas.Bool.Decides.{nat_tests}
use Rattle.std.proofs.lemmas.List.{drop_all}
use Rattle.std.proofs.lemmas.Str.{chars-nil}
use Rattle.unicode_ident.proofs.IdentLemmas.{is_xid_continue-ascii}
use Rattle.std.proofs.lemmas.Bool.{le-ltb}
use Rattle.litrs_base.specs.declared.err.ParseErrorKind.TheVariants.{UnexpectedChar, InvalidSuffix}
use Rattle.litrs_base.proofs.Chars.{OnlyAscii, first_passes-chars, ascii_from_test, chars_ascii, utf8_after_ascii}
use Rattle.litrs_lex.specs.declared.run.Run.TheVariants.{Identifier}
use Rattle.litrs_lex.specs.Run.{is_in_run}

pub is_suffix-nil : is_suffix [] ≡ true
unfolding is_suffix
is_suffix-nil = refl

pub is_suffix-cons : (t : List ℕ) (c : ℕ) (cs : List ℕ) → t ≡ c ∷ cs →
    is_suffix t ≡ ((starts_identifier c && list_all is_xid_continue cs) && not (eqb c 95 && is_empty cs))
unfolding is_suffix
is_suffix-cons t c cs e = ap is_suffix e

pub first_passes_at : (p : ℕ → Bool) (bs : List ℕ) (b : ℕ) → slice_get bs 0 ≡ Some b → first_passes p bs ≡ p b
first_passes_at p [] b e = cc
first_passes_at p (c ∷ bs) b e = let same : c ≡ b = cc in ap p same

pub first_passes_nowhere : (p : ℕ → Bool) (bs : List ℕ) → slice_get bs 0 ≡ None → first_passes p bs ≡ false
first_passes_nowhere p [] e = refl
first_passes_nowhere p (c ∷ bs) e = cc

pub symbols_are_ascii : OnlyAscii is_ascii_symbol
symbols_are_ascii c high = ap (λ low. low && not (is_ascii_alphabetic c || eqb c 95)) (le-ltb c 128 high)

pub suffix_kind-symbol : (bs : List ℕ) → IsUtf8 bs → first_passes is_ascii_symbol bs ≡ true → suffix_kind (chars bs) ≡ UnexpectedChar
suffix_kind-symbol bs u e = rw (first_passes-chars is_ascii_symbol bs symbols_are_ascii u, e) refl

pub suffix_kind-other : (bs : List ℕ) → IsUtf8 bs → first_passes is_ascii_symbol bs ≡ false → suffix_kind (chars bs) ≡ InvalidSuffix
suffix_kind-other bs u e = rw (first_passes-chars is_ascii_symbol bs symbols_are_ascii u, e) refl

-- letters, digits and `_` of ASCII, which may continue an identifier

abbrev pub is_word : ℕ → Bool
is_word = is_in_run Identifier

pub words_are_ascii : OnlyAscii is_word
words_are_ascii c high = grind (arith, nat_tests)

word_continues : (b : ℕ) → b < 128 → is_xid_continue b ≡ is_word b
word_continues b low = is_xid_continue-ascii b low

-- the test of all characters is that of those after the words
continues_step : (b : ℕ) (bs : List ℕ) (v : Bool) → is_word b ≡ v → IsUtf8 (b ∷ bs) →
    (IsUtf8 bs → list_all is_xid_continue (chars bs) ≡ list_all is_xid_continue (chars (drop (prefix_len is_word bs) bs))) →
    list_all is_xid_continue (chars (b ∷ bs)) ≡ list_all is_xid_continue (chars (drop (cond v (1 + prefix_len is_word bs) 0) (b ∷ bs)))
continues_step b bs true is u more =
    let low : b < 128 = ascii_from_test is_word b words_are_ascii is in
    let one : 1 + prefix_len is_word bs ≡ suc (prefix_len is_word bs) = omega arith in
    ap (list_all is_xid_continue) (chars_ascii b bs low)
    ∙ (ap (λ v. v && list_all is_xid_continue (chars bs)) (word_continues b low ∙ is) ∙ (more (utf8_after_ascii b bs low u)
    ∙ ap (λ n. list_all is_xid_continue (chars (drop n (b ∷ bs)))) (sym one)))
continues_step b bs false is u more = refl

pub continues_after : (bs : List ℕ) → IsUtf8 bs → list_all is_xid_continue (chars bs) ≡ list_all is_xid_continue (chars (drop (prefix_len is_word bs) bs))
continues_after [] u = refl
continues_after (b ∷ bs) u = continues_step b bs (is_word b) refl u (continues_after bs)

pub nothing_continues : (bs : List ℕ) (n : ℕ) → length bs ≤ n → list_all is_xid_continue (chars (drop n bs)) ≡ true
nothing_continues bs n past = ap (λ t. list_all is_xid_continue (chars t)) (drop_all n bs past) ∙ ap (list_all is_xid_continue) chars-nil

-- an ASCII byte after them does not continue the suffix
stops_at_ascii : (b : ℕ) (bs : List ℕ) → b < 128 → is_word b ≡ false → list_all is_xid_continue (chars (b ∷ bs)) ≡ false
stops_at_ascii b bs low fails =
    ap (list_all is_xid_continue) (chars_ascii b bs low) ∙ ap (λ v. v && list_all is_xid_continue (chars bs)) (word_continues b low ∙ fails)

ascii_step : (b c : ℕ) (bs : List ℕ) (v : Bool) → is_word b ≡ v →
    get_or (b ∷ bs) (cond v (1 + prefix_len is_word bs) 0) c ≡ c → c < 128 → cond v (1 + prefix_len is_word bs) 0 < length (b ∷ bs) →
    (get_or bs (prefix_len is_word bs) c ≡ c → prefix_len is_word bs < length bs → list_all is_xid_continue (chars (drop (prefix_len is_word bs) bs)) ≡ false) →
    list_all is_xid_continue (chars (drop (cond v (1 + prefix_len is_word bs) 0) (b ∷ bs))) ≡ false
ascii_step b c bs true is e low within more =
    let one : 1 + prefix_len is_word bs ≡ suc (prefix_len is_word bs) = omega arith in
    ap (λ n. list_all is_xid_continue (chars (drop n (b ∷ bs)))) one ∙ more (sym (ap (λ n. get_or (b ∷ bs) n c) one) ∙ e) (omega arith)
ascii_step b c bs false is e low within more = stops_at_ascii b bs (omega arith) is

pub ascii_stops : (bs : List ℕ) (c : ℕ) → get_or bs (prefix_len is_word bs) c ≡ c → c < 128 → prefix_len is_word bs < length bs →
    list_all is_xid_continue (chars (drop (prefix_len is_word bs) bs)) ≡ false
ascii_stops [] c e low within = absurd (omega arith)
ascii_stops (b ∷ bs) c e low within = ascii_step b c bs (is_word b) refl e low within (λ f inside. ascii_stops bs c f low inside)
