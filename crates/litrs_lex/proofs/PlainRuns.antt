-- Runs of plain characters, by a search in bytes. If a test has one answer for all characters from
-- 128 on, as many bytes pass it as the characters that pass have.
use Rattle.std.proofs.Common.{◌≡◌, ℕ, suc, ◌+◌, ◌<◌, ◌≤◌, Bool, true, false, cond, ltb, List, [], ◌∷◌, ◌++◌, length, drop, take, get_or, refl, sym, ap, subst, ◌∙◌, arith, inl, inr, length-append}
use Rattle.std.specs.Prelude.{encode_utf8, encode_utf8_all}
use Rattle.std.specs.List.{prefix_len, list_all, take_while}
use Rattle.std.specs.Str.{chars, IsUtf8, IsCharBoundary}
use Rattle.std.proofs.lemmas.Bool.{cases_Bool, cases_lt, and_parts, both_ways}
use Rattle.std.proofs.lemmas.List.{append-nil, take-append-drop, drop-drop, length-drop}
use Rattle.std.proofs.lemmas.List.Sums.{take_while-cons}
use Rattle.litrs_lex.proofs.CharCuts.{cut_at}
use Rattle.litrs_lex.specs.Special.{is_ordinary}
use Rattle.litrs_lex.specs.QuotedItems.{IsPlainRun}
use Rattle.litrs_lex.specs.Unescaped.{switches}
use Rattle.std.proofs.lemmas.Str.{chars-nil, encode_ascii, inside_one, length-encode, len_utf8_bounds, encodes-chars, IsCharBoundary-from_drop, IsUtf8-drop}
use Rattle.litrs_base.specs.Text.{byte_len, first_passes}
use Rattle.litrs_base.proofs.Chars.{chars_ascii, chars_wide}
use Rattle.std.specs.Prelude.{not, ◌&&◌, ◌||◌, ◌==◌}
use Rattle.std.proofs.lemmas.Bool.{ne_eqb, eqb-true, ltb-true}
use Rattle.litrs_base.specs.Characters.{is_ascii, fits_charset, nul_is_allowed}
use Rattle.litrs_base.specs.declared.quotes.Switches.{Switches}
use Rattle.litrs_base.proofs.Runs.{list_all-take_while}
use Rattle.litrs_grammar.specs.Quoted.{is_plain}
use Rattle.litrs_grammar.proofs.Laws.Integer.{first_passes-rest}

abbrev pub AlikeFrom128 : (ℕ → Bool) → Bool → Type 0
AlikeFrom128 p h = (c : ℕ) → 128 ≤ c → p c ≡ h

-- a byte of a character from 128 on is from 128 on
pub high_bytes : (c i : ℕ) → 128 ≤ c → i < length (encode_utf8 c) → 128 ≤ get_or (encode_utf8 c) i 0
high_bytes c i wide inside = elim (cases_lt (get_or (encode_utf8 c) i 0) 128) [
  | inl low ↦ (let same = inside_one c [] (encode_utf8 c) i (sym (append-nil (encode_utf8 c))) inside low in absurd (omega arith))
  | inr high ↦ high
]

-- all of them pass, or the first fails
pub prefix_len-from_places : (p : ℕ → Bool) (bs x : List ℕ) (h : Bool) → ((i : ℕ) → i < length bs → p (get_or bs i 0) ≡ h) → 0 < length bs →
    prefix_len p (bs ++ x) ≡ cond h (length bs + prefix_len p x) 0
prefix_len-from_places p [] x h pass some = absurd (omega arith)
prefix_len-from_places p (b ∷ []) x h pass some = rw (pass 0 (omega arith)) refl
prefix_len-from_places p (b ∷ d ∷ bs) x false pass some = rw (pass 0 (omega arith)) refl
prefix_len-from_places p (b ∷ d ∷ bs) x true pass some =
    let rec = prefix_len-from_places p (d ∷ bs) x true (λ i inside. pass (suc i) (omega arith)) (omega arith) in
    ap (λ v. cond v (1 + prefix_len p ((d ∷ bs) ++ x)) 0) (pass 0 (omega arith)) ∙ omega (arith, rec)

low_case : (p : ℕ → Bool) (c : ℕ) (cs run : List ℕ) (b : Bool) → p c ≡ b → prefix_len p (encode_utf8_all cs) ≡ byte_len run → c < 128 →
    prefix_len p (encode_utf8 c ++ encode_utf8_all cs) ≡ byte_len (cond b (c ∷ run) [])
low_case p c cs run false is rec low =
    ap (λ l. prefix_len p (l ++ encode_utf8_all cs)) (encode_ascii c low) ∙ ap (λ v. cond v (1 + prefix_len p (encode_utf8_all cs)) 0) is
low_case p c cs run true is rec low =
    let a : prefix_len p (encode_utf8 c ++ encode_utf8_all cs) ≡ 1 + prefix_len p (encode_utf8_all cs) =
    ap (λ l. prefix_len p (l ++ encode_utf8_all cs)) (encode_ascii c low) ∙ ap (λ v. cond v (1 + prefix_len p (encode_utf8_all cs)) 0) is in
    let b : length (encode_utf8 c ++ encode_utf8_all run) ≡ suc (length (encode_utf8_all run)) = ap (λ l. length (l ++ encode_utf8_all run)) (encode_ascii c low) in
    omega (arith, a, b, rec)

wide_case : (p : ℕ → Bool) (h : Bool) (c : ℕ) (cs run : List ℕ) (b : Bool) → AlikeFrom128 p h → p c ≡ b → prefix_len p (encode_utf8_all cs) ≡ byte_len run → 128 ≤ c →
    prefix_len p (encode_utf8 c ++ encode_utf8_all cs) ≡ byte_len (cond b (c ∷ run) [])
wide_case p h c cs run b alike is rec wide =
    let same : h ≡ b = sym (alike c wide) ∙ is in
    let size = length-encode c in let some = len_utf8_bounds c in
    let a = prefix_len-from_places p (encode_utf8 c) (encode_utf8_all cs) b (λ i inside. alike _ (high_bytes c i wide inside) ∙ same) (omega arith) in
    by b a
  where
    by : (v : Bool) → prefix_len p (encode_utf8 c ++ encode_utf8_all cs) ≡ cond v (length (encode_utf8 c) + prefix_len p (encode_utf8_all cs)) 0 →
        prefix_len p (encode_utf8 c ++ encode_utf8_all cs) ≡ byte_len (cond v (c ∷ run) [])
    by false a = a
    by true a = a ∙ (ap (λ n. length (encode_utf8 c) + n) rec ∙ sym (length-append (encode_utf8 c) (encode_utf8_all run)))

-- as many bytes pass as the characters that pass have
pub run_len : (p : ℕ → Bool) (h : Bool) → AlikeFrom128 p h → (cs : List ℕ) → prefix_len p (encode_utf8_all cs) ≡ byte_len (take_while p cs)
run_len p h alike [] = refl
run_len p h alike (c ∷ cs) =
    let rec = run_len p h alike cs in
    elim (cases_lt c 128) [
      | inl low ↦ low_case p c cs (take_while p cs) (p c) refl rec low ∙ ap byte_len (sym (take_while-cons p c cs))
      | inr wide ↦ wide_case p h c cs (take_while p cs) (p c) alike refl rec wide ∙ ap byte_len (sym (take_while-cons p c cs))
    ]

pub not_ascii : (d : ℕ) → 128 ≤ d → is_ascii d ≡ false
not_ascii d high = go (ltb d 128) refl
  where
    go : (b : Bool) → ltb d 128 ≡ b → is_ascii d ≡ false
    go false e = e
    go true e = let low = ltb-true d 128 e in absurd (omega arith)

high_rest : (c : ℕ) (u n : Bool) → 128 ≤ c → (fits_charset u c && nul_is_allowed n c) ≡ u
high_rest c true true wide = refl
high_rest c true false wide = ap not (ne_eqb c 0 (λ e. omega arith))
high_rest c false n wide = ap (λ b. b && nul_is_allowed n c) (not_ascii c wide)

-- the test of plain characters is such a test
pub plain_alike : (w : Switches) → AlikeFrom128 (is_plain w) w.unicode
plain_alike w c wide =
    let a = ne_eqb c 34 (λ e. omega arith) in
    let b = ne_eqb c 92 (λ e. omega arith) in
    let d = ne_eqb c 13 (λ e. omega arith) in
    rw a (rw b (rw d (high_rest c w.unicode w.allow_nul wide)))

pub first_passes-alike : (p : ℕ → Bool) (h : Bool) (bs : List ℕ) → AlikeFrom128 p h → IsUtf8 bs → first_passes p (chars bs) ≡ first_passes p bs
first_passes-alike p h [] alike u = ap (first_passes p) chars-nil
first_passes-alike p h (b ∷ bs) alike u = elim (cases_lt b 128) [
  | inl low ↦ ap (first_passes p) (chars_ascii b bs low)
  | inr high ↦ (let w = chars_wide b bs high u in ap (first_passes p) w.is ∙ (alike w.first w.wide ∙ sym (alike b high)))
]

-- The first n bytes are characters that pass, and the byte after them does not.
pub record IsCharRun (p : ℕ → Bool) (bs : List ℕ) (n : ℕ) : Type 0 where
  pub run : List ℕ
  pub split : run ++ chars (drop n bs) ≡ chars bs
  pub passes : list_all p run ≡ true
  pub utf8 : IsUtf8 (drop n bs)
  pub within : n ≤ length bs
  pub size : byte_len run ≡ n
  pub stops : first_passes p (drop n bs) ≡ false

pub char_run : (p : ℕ → Bool) (h : Bool) → AlikeFrom128 p h → (bs : List ℕ) → IsUtf8 bs → IsCharRun p bs (prefix_len p bs)
char_run p h alike bs u =
    let cs = chars bs in
    let m = prefix_len p cs in
    let n : byte_len (take m cs) ≡ prefix_len p bs = sym (run_len p h alike cs) ∙ ap (prefix_len p) (encodes-chars bs u) in
    let cut = cut_at bs (take m cs) (drop m cs) u (sym (take-append-drop m cs)) in record {
      run = take m cs;
      split = ap (λ l. take m cs ++ l) (sym (ap (λ k. chars (drop k bs)) n) ∙ cut.rest) ∙ take-append-drop m cs;
      passes = list_all-take_while p cs;
      utf8 = subst (λ (k : ℕ). IsUtf8 (drop k bs)) n cut.utf8;
      within = subst (λ (k : ℕ). k ≤ length bs) n cut.within;
      size = n;
      stops = first_passes-rest p bs;
    }

-- runs of what passes end where something else follows
pub same_run : (p : ℕ → Bool) (a b x y : List ℕ) → list_all p a ≡ true → list_all p b ≡ true → first_passes p x ≡ false → first_passes p y ≡ false →
    a ++ x ≡ b ++ y → (a ≡ b) × (x ≡ y)
same_run p [] [] x y h g e f same = (refl, same)
same_run p [] (d ∷ b) x y h g e f same =
    let passes = and_parts (p d) _ g in
    absurd (both_ways (first_passes p (d ∷ (b ++ y))) (subst (λ l. first_passes p l ≡ false) same e) passes.0)
same_run p (c ∷ a) [] x y h g e f same =
    let passes = and_parts (p c) _ h in
    absurd (both_ways (first_passes p (c ∷ (a ++ x))) (subst (λ l. first_passes p l ≡ false) (sym same) f) passes.0)
same_run p (c ∷ a) (d ∷ b) x y h g e f same =
    let left = and_parts (p c) (list_all p a) h in
    let right = and_parts (p d) (list_all p b) g in
    let head : c ≡ d = cc in
    let tail : a ++ x ≡ b ++ y = cc in
    let rec = same_run p a b x y left.1 right.1 e f tail in
    (cc, rec.1)

-- so there is one run from a place on
pub same_place : (w : Switches) (bytes : List ℕ) (from end place : ℕ) → IsPlainRun w bytes from end → IsPlainRun w bytes from place → end ≡ place
same_place w bytes from end place r s =
    let same = same_run (is_plain w) r.run s.run _ _ r.plain s.plain r.stops s.stops (sym r.split ∙ s.split) in
    sym r.size ∙ ap (λ (l : List ℕ). from + byte_len l) same.0 ∙ s.size

-- the bytes from a place on up to the first that is not a plain character are a run
pub plain_run : (w : Switches) (bytes : List ℕ) (from end : ℕ) → IsUtf8 bytes → IsCharBoundary bytes from → end ≡ from + prefix_len (is_plain w) (drop from bytes) →
    IsPlainRun w bytes from end
plain_run w bytes from end whole start is =
    let p = is_plain w in
    let bs = drop from bytes in
    let r = char_run p w.unicode (plain_alike w) bs (IsUtf8-drop bytes from whole start) in
    let same : drop (prefix_len p bs) bs ≡ drop end bytes = drop-drop (prefix_len p bs) from bytes ∙ ap (λ k. drop k bytes) (sym is) in
    let text : IsUtf8 (drop end bytes) = subst (λ (l : List ℕ). IsUtf8 l) same r.utf8 in
    let fits : end ≤ length bytes = omega (arith, r.within, length-drop from bytes, start.0) in record {
      run = r.run;
      split = sym r.split ∙ ap (λ l. r.run ++ chars l) same;
      plain = r.passes;
      size = omega (arith, r.size);
      boundary = IsCharBoundary-from_drop bytes end fits text;
      stops = first_passes-alike p w.unicode _ (plain_alike w) text ∙ (ap (first_passes p) (sym same) ∙ r.stops);
    }

-- the search stops at a character that is not plain if it looks for backslashes, and for the bytes
-- that the switches exclude
pub same_tests : (quote return slash zero ascii u n : Bool) →
    not (quote || return || (true && slash) || (not n && zero) || (not u && not ascii)) ≡ (not quote && not slash && not return && (u || ascii) && (n || not zero))
same_tests true r s z a u n = refl
same_tests false true true z a u n = refl
same_tests false true false z a u n = refl
same_tests false false true z a u n = refl
same_tests false false false true a true true = refl
same_tests false false false true a true false = refl
same_tests false false false true true false true = refl
same_tests false false false true true false false = refl
same_tests false false false true false false true = refl
same_tests false false false true false false false = refl
same_tests false false false false a true true = refl
same_tests false false false false a true false = refl
same_tests false false false false true false true = refl
same_tests false false false false true false false = refl
same_tests false false false false false false true = refl
same_tests false false false false false false false = refl

pub special_run : (u e n : Bool) (text bytes : List ℕ) (from end : ℕ) → bytes ≡ text →
    end ≡ from + prefix_len (is_ordinary (record { backslash = true; nul = not n; non_ascii = not u })) (drop from bytes) →
    end ≡ from + prefix_len (is_plain (switches u e n)) (drop from text)
special_run u e n text bytes from end is place =
    let p = is_ordinary (record { backslash = true; nul = not n; non_ascii = not u }) in
    let same : prefix_len p (drop from bytes) ≡ prefix_len (is_plain (switches u e n)) (drop from bytes) =
    λ i. prefix_len (λ b. same_tests (b == 34) (b == 13) (b == 92) (b == 0) (is_ascii b) u n i) (drop from bytes) in
    let last : prefix_len (is_plain (switches u e n)) (drop from bytes) ≡ prefix_len (is_plain (switches u e n)) (drop from text) =
    ap (λ (l : List ℕ). prefix_len (is_plain (switches u e n)) (drop from l)) is in
    omega arith

-- neither a backslash nor `"` is a plain character, so a run is empty there
stop_first : (w : Switches) (rest : List ℕ) → first_passes (λ c. (c == 92) || (c == 34)) rest ≡ true → prefix_len (is_plain w) rest ≡ 0
stop_first w [] h = refl
stop_first w (b ∷ rest) h = elim (cases_Bool (b == 92)) [
  | inl slash ↦ ap (λ c. prefix_len (is_plain w) (c ∷ rest)) (eqb-true b 92 slash)
  | inr other ↦ ap (λ c. prefix_len (is_plain w) (c ∷ rest)) (eqb-true b 34 (sym (ap (λ v. v || (b == 34)) other) ∙ h))
]

pub empty_run : (w : Switches) (bytes : List ℕ) (from : ℕ) → IsUtf8 bytes → IsCharBoundary bytes from → first_passes (λ c. (c == 92) || (c == 34)) (drop from bytes) ≡ true → IsPlainRun w bytes from from
empty_run w bytes from u start stop = let none = stop_first w (drop from bytes) stop in plain_run w bytes from from u start (omega arith)
