-- The text after the piece that begins at the front of a text is an end of the text, without its
-- first character, and stays the same before more text.
use Rattle.litrs_prefix.proofs.Words.{◌≡◌, ℕ, ◌-◌, ◌<◌, ◌≤◌, Bool, true, false, not, ◌&&◌, List, [], ◌∷◌, ◌++◌, take, drop, length, refl, sym, ap, subst, ◌∙◌, ◌+◌, length-append, arith, ◌⊎◌, inl, inr, zero, suc, ◌==◌, if◌then◌else◌, false≢true, and_right, true≢false, nat_tests, take-append-drop, drop_all, is_xid_start-ascii, is_xid_continue-ascii, if_true, if_false, bytes_spell, end_at, end_of_end, front_is, shorter, length-hashes}
use Rattle.litrs_prefix.specs.Words.{encode_utf8_all, is_ascii_digit, chars, IsUtf8, IsCharBoundary, byte_len, begins_with, first_passes, is_empty, is_decimal_char, starts_identifier, IsEndOf, past_closing, past_single_quote, after_digits, after_fraction, after_exponent, after_sign, after_quoted, after_single_quote, after_char, after_raw, after_prefixed, after_number, after_opened, IsPiece, after_closing, after_body, first_name, after_name, after_hashes, opens, after_run, is_single_quote, begins_with_lifetime, opens_raw, opens_bytes, opens_c_string, is_xid_continue, is_bool, is_quote, hash_len, raw_closing, is_quoted_line_feed, first_run}
use Rattle.litrs_prefix.proofs.Ends.{all as whole}
use Rattle.litrs_prefix.proofs.PieceBodies.{number_parts, past_quote_is, past_single_quote_is, closing_here, closing_later}
use Rattle.litrs_prefix.proofs.PieceLaws.{piece_first}
use Rattle.litrs_prefix.proofs.Names.{name_and_rest, run_and_rest, Opening, opening}
use Rattle.litrs_prefix.proofs.Names.Opening.{digit, double, single, raw, bytes, c_string, word_true, word_false}

-- of a text with one character more, one of two ends
pub next : (c : ℕ) (t x : List ℕ) → IsEndOf t x → IsEndOf (c ∷ t) x
next c t x h = (c ∷ h.0, ap (λ (l : List ℕ). c ∷ l) h.1)

pub either : (v : Bool) (t x y : List ℕ) → IsEndOf t x → IsEndOf t y → IsEndOf t (if v then x else y)
either true t x y h g = h
either false t x y h g = g

pub after_drop : (n : ℕ) (t : List ℕ) → IsEndOf t (drop n t)
after_drop n t = (take n t, take-append-drop n t)

past_end : (quote : ℕ) (in_line escaped : Bool) (t : List ℕ) → IsEndOf t (past_closing quote in_line escaped t)
past_end quote in_line escaped [] = whole []
past_end quote in_line escaped (c ∷ t) =
    either _ _ _ _ (whole (c ∷ t)) (either _ _ _ _ (next c t t (whole t)) (next c t _ (past_end quote in_line ((c == 92) && not escaped) t)))

quoted_end : (t : List ℕ) → IsEndOf t (after_quoted t)
quoted_end t = subst (λ (l : List ℕ). IsEndOf t l) (past_quote_is 34 refl t) (past_end 34 false false t)

single_end : (t : List ℕ) → IsEndOf t (after_single_quote t)
single_end t = subst (λ (l : List ℕ). IsEndOf t l) (past_single_quote_is t) (past_end 39 true false t)

pub char_end : (t : List ℕ) → IsEndOf t (after_char t)
char_end [] = whole []
char_end (c ∷ t) = either _ _ _ _ (next c t _ (after_drop 1 t)) (single_end (c ∷ t))

hashes_end : (t : List ℕ) → IsEndOf t (after_hashes t)
hashes_end [] = whole []
hashes_end (c ∷ t) = either _ _ _ _ (next c t _ (hashes_end t)) (whole (c ∷ t))

raw_end : (t : List ℕ) → IsEndOf t (after_raw t)
raw_end t = (let body = drop 1 (after_hashes t) in
    end_of_end t body _ (end_of_end t (after_hashes t) body (hashes_end t) (after_drop 1 (after_hashes t))) (after_drop _ body))

prefixed_end : (t : List ℕ) → IsEndOf t (after_prefixed t)
prefixed_end [] = whole []
prefixed_end (c ∷ t) = either _ _ _ _ (next c t _ (quoted_end t)) (either _ _ _ _ (next c t _ (char_end t)) (next c t _ (raw_end t)))

-- numbers

pub digits_are : (c : ℕ) (t : List ℕ) → after_digits (c ∷ t) ≡ (if is_decimal_char c then after_digits t else (c ∷ t))
digits_are c t = grind arith

pub digits_end : (t : List ℕ) → IsEndOf t (after_digits t)
digits_end t = after_drop _ t

pub fraction_end : (t : List ℕ) → IsEndOf t (after_fraction t)
fraction_end [] = whole []
fraction_end (c ∷ t) = either _ _ _ _ (next c t _ (digits_end t)) (whole (c ∷ t))

pub sign_end : (t : List ℕ) → IsEndOf t (after_sign t)
sign_end [] = whole []
sign_end (c ∷ t) = either _ _ _ _ (next c t t (whole t)) (whole (c ∷ t))

pub exponent_end : (t : List ℕ) → IsEndOf t (after_exponent t)
exponent_end [] = whole []
exponent_end (c ∷ t) = either _ _ _ _ (next c t _ (end_of_end t (after_sign t) _ (sign_end t) (digits_end (after_sign t)))) (whole (c ∷ t))

first_digit : (c : ℕ) (t : List ℕ) → is_ascii_digit c ≡ true → IsEndOf t (after_digits (c ∷ t))
first_digit c t h = subst (λ (l : List ℕ). IsEndOf t l) (sym (digits_are c t ∙ if_true (is_decimal_char c) _ _ (grind (arith, nat_tests)))) (digits_end t)

number_end : (c : ℕ) (t : List ℕ) → is_ascii_digit c ≡ true → IsEndOf t (after_number (c ∷ t))
number_end c t h =
    let digits : List ℕ = after_digits (c ∷ t) in
    subst (λ (l : List ℕ). IsEndOf t l) (sym (number_parts (c ∷ t)))
    (end_of_end t (after_fraction digits) _ (end_of_end t digits _ (first_digit c t h) (fraction_end digits)) (exponent_end (after_fraction digits)))

-- openings of literals

named : {t x : List ℕ} → IsEndOf t x → IsEndOf t (after_name x)
named {t} {x} e = end_of_end t x (after_name x) e (first_name x, name_and_rest x)

word_end : (c : ℕ) (t : List ℕ) → starts_identifier c ≡ true → IsEndOf t (after_name (c ∷ t))
word_end c t h = subst (λ (l : List ℕ). IsEndOf t l) (sym (if_true (starts_identifier c) _ _ h)) (first_run t, run_and_rest t)

-- without its first character
abbrev EndsWithin : List ℕ → List ℕ → Type 0
EndsWithin rest [] = ⊥
EndsWithin rest (c ∷ t) = IsEndOf t rest

opened_end : {t : List ℕ} → Opening t → EndsWithin (after_opened t) t
opened_end (digit {c} {t} h) = subst (λ (l : List ℕ). IsEndOf t (after_name l)) (sym (if_true (is_ascii_digit c) _ _ h)) (named (number_end c t h))
opened_end (double {t}) = named (quoted_end t)
opened_end (single {t} h) = named (char_end t)
opened_end (raw {t} h) = rw h (named (raw_end t))
opened_end (bytes {t} h) = rw h (named (prefixed_end t))
opened_end (c_string {t} h) = rw h (named (prefixed_end t))
opened_end (word_true {t} h) = word_end 116 t (is_xid_start-ascii 116 (omega arith))
opened_end (word_false {t} h) = word_end 102 t (is_xid_start-ascii 102 (omega arith))

-- the piece that opens, in characters
pub record IsOpened (t : List ℕ) : Type 0 where
  pub first : ℕ
  pub piece : List ℕ
  pub spells : (first ∷ piece) ++ after_opened t ≡ t

pub opened_piece : (t : List ℕ) → opens t ≡ true → IsOpened t
opened_piece [] h = absurd (false≢true h)
opened_piece (c ∷ t) h = let end = opened_end (opening (c ∷ t) h) in record { first = c; piece = end.0; spells = ap (λ (l : List ℕ). c ∷ l) end.1 }

-- the place at which the end of a text begins, by its characters
pub record EndsAt (bs rest front : List ℕ) : Type 0 where
  pub boundary : IsCharBoundary bs (length bs - length rest)
  pub before : chars (take (length bs - length rest) bs) ≡ front
  pub len : byte_len front ≡ length bs - length rest
  pub after : chars (drop (length bs - length rest) bs) ≡ chars rest
  pub within : length rest ≤ length bs

pub ends_at : (bs rest front : List ℕ) → IsUtf8 bs → IsUtf8 rest → front ++ chars rest ≡ chars bs → EndsAt bs rest front
ends_at bs rest front u v is =
    let spells = bytes_spell bs rest front u v is in
    let at = end_at bs (encode_utf8_all front) rest v spells in
    let size : length bs ≡ byte_len front + length rest = ap length (sym spells) ∙ length-append (encode_utf8_all front) rest in
    record {
      boundary = at.0;
      before = front_is bs _ front (chars rest) u at.0 (ap chars at.1) is;
      len = omega arith;
      after = ap chars at.1;
      within = omega arith;
    }

-- the piece that opens, in bytes
pub record OpenedAt (bs : List ℕ) (n : ℕ) : Type 0 where
  pub boundary : IsCharBoundary bs n
  pub some : 0 < n
  pub is_piece : IsPiece (chars bs) (chars (take n bs))
  pub rest : chars (drop n bs) ≡ after_opened (chars bs)

pub opened_at : (bs rest : List ℕ) → IsUtf8 bs → IsUtf8 rest → opens (chars bs) ≡ true → chars rest ≡ after_opened (chars bs) → (length rest ≤ length bs) × OpenedAt bs (length bs - length rest)
opened_at bs rest u v opens is =
    let piece = opened_piece (chars bs) opens in
    let front : List ℕ = piece.first ∷ piece.piece in
    let at = ends_at bs rest front u v (ap (λ (l : List ℕ). front ++ l) is ∙ piece.spells) in
    let more : byte_len piece.piece < byte_len front = shorter (encode_utf8_all front) piece.first (encode_utf8_all piece.piece) refl in
    let len = at.len in (
      at.within,
      record {
        boundary = at.boundary;
        some = omega arith;
        is_piece = subst (λ (l : List ℕ). IsPiece (chars bs) l) (sym at.before) (piece_first (chars bs) front piece.spells);
        rest = at.after ∙ is;
      },
    )

-- before more text

-- With more text, what is left has it at its end; or nothing was left, and now an end of it is.
abbrev Grown : (more x y : List ℕ) → Type 0
Grown more x y = (y ≡ x ++ more) ⊎ ((x ≡ []) × IsEndOf more y)

both_grow : (m : List ℕ) (v : Bool) (x y a b : List ℕ) → Grown m x a → Grown m y b → Grown m (if v then x else y) (if v then a else b)
both_grow m v x y a b h g = grind arith

same : (m : List ℕ) {x y a b : List ℕ} → x ≡ y → a ≡ b → Grown m x a → Grown m y b
same m {x} {y} {a} {b} h g is = subst (λ (l : List ℕ). Grown m l b) h (subst (λ (l : List ℕ). Grown m x l) g is)

-- one part after the other
then_grows : (f : List ℕ → List ℕ) → f [] ≡ [] → ((t : List ℕ) → IsEndOf t (f t)) → ((t m : List ℕ) → Grown m (f t) (f (t ++ m))) →
    (m x y : List ℕ) → Grown m x y → Grown m (f x) (f y)
then_grows f none ends grows m x y (inl is) = rw is (grows x m)
then_grows f none ends grows m x y (inr is) = inr (ap f is.0 ∙ none, end_of_end m y (f y) is.1 (ends y))

drop_grows : (n : ℕ) (t m : List ℕ) → Grown m (drop n t) (drop n (t ++ m))
drop_grows zero t m = inl refl
drop_grows (suc n) [] m = inr (refl, after_drop (suc n) m)
drop_grows (suc n) (c ∷ t) m = drop_grows n t m

-- numbers

pub digits_grow : (t m : List ℕ) → Grown m (after_digits t) (after_digits (t ++ m))
digits_grow [] m = inr (refl, digits_end m)
digits_grow (c ∷ t) m = same m (sym (digits_are c t)) (sym (digits_are c (t ++ m))) (both_grow m _ _ _ _ _ (digits_grow t m) (inl refl))

fraction_grows : (t m : List ℕ) → Grown m (after_fraction t) (after_fraction (t ++ m))
fraction_grows [] m = inr (refl, fraction_end m)
fraction_grows (c ∷ t) m = both_grow m _ _ _ _ _ (digits_grow t m) (inl refl)

sign_grows : (t m : List ℕ) → Grown m (after_sign t) (after_sign (t ++ m))
sign_grows [] m = inr (refl, sign_end m)
sign_grows (c ∷ t) m = both_grow m _ _ _ _ _ (inl refl) (inl refl)

exponent_grows : (t m : List ℕ) → Grown m (after_exponent t) (after_exponent (t ++ m))
exponent_grows [] m = inr (refl, exponent_end m)
exponent_grows (c ∷ t) m = both_grow m _ _ _ _ _ (then_grows after_digits refl digits_end digits_grow m _ _ (sign_grows t m)) (inl refl)

number_grows : (t m : List ℕ) → Grown m (after_number t) (after_number (t ++ m))
number_grows t m =
    same m (sym (number_parts t)) (sym (number_parts (t ++ m)))
    (then_grows after_exponent refl exponent_end exponent_grows m _ _ (then_grows after_fraction refl fraction_end fraction_grows m _ _ (digits_grow t m)))

-- names

run_kept : (t m : List ℕ) → is_empty (after_run t) ≡ false → (first_run (t ++ m) ≡ first_run t) × (after_run (t ++ m) ≡ after_run t ++ m)
run_kept [] m h = absurd (true≢false h)
run_kept (c ∷ t) m h = grind (arith, run_kept t m)

pub name_kept : (t m : List ℕ) → is_empty (after_name t) ≡ false → first_name (t ++ m) ≡ first_name t
name_kept t m h = grind (arith, run_kept)

pub rest_kept : (t m : List ℕ) → is_empty (after_name t) ≡ false → after_name (t ++ m) ≡ after_name t ++ m
rest_kept [] m h = absurd (true≢false h)
rest_kept (c ∷ t) m h = grind (arith, run_kept t m)

pub run_whole : (t m : List ℕ) → is_empty (after_run t) ≡ true → (first_run (t ++ m) ≡ t ++ first_run m) × (after_run (t ++ m) ≡ after_run m)
run_whole [] m h = (refl, refl)
run_whole (c ∷ t) m h = grind (arith, run_whole t m)

pub x_goes_on : is_xid_continue 120 ≡ true
x_goes_on = is_xid_continue-ascii 120 (omega arith)

pub x_begins : starts_identifier 120 ≡ true
x_begins = is_xid_start-ascii 120 (omega arith)

pub name_taken : (t : List ℕ) → is_empty (after_name t) ≡ true → after_name (t ++ 120 ∷ []) ≡ []
name_taken [] h = if_true (starts_identifier 120) [] (120 ∷ []) x_begins
name_taken (c ∷ t) h = grind (arith, run_whole t (120 ∷ []), x_goes_on)

-- quotes

past_grows : (q : ℕ) (line e : Bool) (t m : List ℕ) → Grown m (past_closing q line e t) (past_closing q line e (t ++ m))
past_grows q line e [] m = inr (refl, past_end q line e m)
past_grows q line e (c ∷ t) m =
    both_grow m (line && (c == 10)) (c ∷ t) _ _ _ (inl refl) (both_grow m ((c == q) && not e) t _ _ _ (inl refl) (past_grows q line ((c == 92) && not e) t m))

quoted_grows : (t m : List ℕ) → Grown m (after_quoted t) (after_quoted (t ++ m))
quoted_grows t m = same m (past_quote_is 34 refl t) (past_quote_is 34 refl (t ++ m)) (past_grows 34 false false t m)

single_grows : (t m : List ℕ) → Grown m (after_single_quote t) (after_single_quote (t ++ m))
single_grows t m = same m (past_single_quote_is t) (past_single_quote_is (t ++ m)) (past_grows 39 true false t m)

-- a single character, which is not a line feed, is passed
one_char : (c : ℕ) → (c ∷ [] ≡ 10 ∷ [] → ⊥) → past_single_quote false (c ∷ []) ≡ []
one_char c other = grind (arith, nat_tests)

alone : (c : ℕ) → after_char (c ∷ []) ≡ after_single_quote (c ∷ [])
alone c = if_false (not (c == 92) && false) [] (after_single_quote (c ∷ [])) (and_right (not (c == 92)) false refl)

-- The character after the next is looked at for `'`. With none in the text, one may follow.
char_grows : (t m : List ℕ) → (first_passes is_single_quote m ≡ true → t ≡ 10 ∷ [] → ⊥) → Grown m (after_char t) (after_char (t ++ m))
char_grows [] m ahead = inr (refl, char_end m)
char_grows (c ∷ []) m ahead = same m (sym (alone c)) refl (go (first_passes is_single_quote m) (not (c == 92)) refl)
  where
    go : (v w : Bool) → first_passes is_single_quote m ≡ v → Grown m (after_single_quote (c ∷ [])) (if w && v then drop 1 m else after_single_quote (c ∷ m))
    go true true e = inr (sym (past_single_quote_is (c ∷ [])) ∙ one_char c (ahead e), after_drop 1 m)
    go v false e = single_grows (c ∷ []) m
    go false true e = single_grows (c ∷ []) m
char_grows (c ∷ d ∷ t) m ahead = both_grow m _ _ _ _ _ (inl refl) (single_grows (c ∷ d ∷ t) m)

-- raw strings

hashes_kept : (t m : List ℕ) → is_empty (after_hashes t) ≡ false → (after_hashes (t ++ m) ≡ after_hashes t ++ m) × (hash_len (t ++ m) ≡ hash_len t)
hashes_kept [] m h = absurd (true≢false h)
hashes_kept (c ∷ t) m h = grind (arith, hashes_kept t m)

begins_longer : (p t m : List ℕ) → begins_with p t ≡ true → begins_with p (t ++ m) ≡ true
begins_longer [] t m h = refl
begins_longer (c ∷ p) t m h = grind (arith, begins_longer p)

-- a part that begins in the text alone with more is longer than it
straddles : (p t m : List ℕ) → begins_with p t ≡ false → begins_with p (t ++ m) ≡ true → 1 + length t ≤ length p
straddles [] t m h g = absurd (true≢false h)
straddles (c ∷ p) t m h g = grind (arith, straddles p)

closing_grows : (n : ℕ) (t m : List ℕ) → Grown m (after_closing n t) (after_closing n (t ++ m))
closing_grows n [] m = inr (drop_all _ [] (omega arith), after_drop _ m)
closing_grows n (c ∷ t) m = go (begins_with p (c ∷ t)) (begins_with p (c ∷ (t ++ m))) refl refl (closing_grows n t m)
  where
    p : List ℕ
    p = raw_closing n

    go : (v w : Bool) → begins_with p (c ∷ t) ≡ v → begins_with p (c ∷ (t ++ m)) ≡ w → Grown m (after_closing n t) (after_closing n (t ++ m)) → Grown m (after_closing n (c ∷ t)) (after_closing n (c ∷ (t ++ m)))
    go true w h g rest = same m (sym (closing_here n (c ∷ t) h)) (sym (closing_here n (c ∷ (t ++ m)) (begins_longer p (c ∷ t) m h))) (drop_grows (1 + n) (c ∷ t) m)
    go false true h g rest =
        let size = straddles p (c ∷ t) m h g in
        let len = length-hashes n in
        same m (drop_all (1 + n) (c ∷ t) (omega arith) ∙ sym (drop_all _ (c ∷ t) (omega arith))) (sym (closing_here n (c ∷ (t ++ m)) g)) (drop_grows (1 + n) (c ∷ t) m)
    go false false h g rest = same m (sym (closing_later n c t h)) (sym (closing_later n c (t ++ m) g)) rest

pub some_left : (p : ℕ → Bool) (t : List ℕ) → first_passes p t ≡ true → is_empty t ≡ false
some_left p t h = grind arith

pub first_stays : (p : ℕ → Bool) (t m : List ℕ) → is_empty t ≡ false → first_passes p (t ++ m) ≡ first_passes p t
first_stays p t m h = grind arith

rest_stays : (t m : List ℕ) → is_empty t ≡ false → drop 1 (t ++ m) ≡ drop 1 t ++ m
rest_stays t m h = grind arith

pub raw_stays : (t m : List ℕ) → is_empty (after_hashes t) ≡ false → opens_raw (t ++ m) ≡ opens_raw t
raw_stays t m h = ap (first_passes is_quote) (hashes_kept t m h).0 ∙ first_stays is_quote (after_hashes t) m h

raw_grows : (t m : List ℕ) → opens_raw t ≡ true → Grown m (after_raw t) (after_raw (t ++ m))
raw_grows t m h =
    let some = some_left is_quote (after_hashes t) h in
    let kept = hashes_kept t m some in
    let left : drop 1 (after_hashes (t ++ m)) ≡ drop 1 (after_hashes t) ++ m = ap (drop 1) kept.0 ∙ rest_stays (after_hashes t) m some in
    same m refl (λ i. after_closing (sym kept.1 i) (sym left i)) (closing_grows (hash_len t) (drop 1 (after_hashes t)) m)

-- openings of literals

raw_opens : (t m : List ℕ) → opens_raw t ≡ true → opens_raw (t ++ m) ≡ true
raw_opens t m h = raw_stays t m (some_left is_quote (after_hashes t) h) ∙ h

bytes_open : (t m : List ℕ) → opens_bytes t ≡ true → opens_bytes (t ++ m) ≡ true
bytes_open t m h = grind (arith, raw_opens)

c_opens : (t m : List ℕ) → opens_c_string t ≡ true → opens_c_string (t ++ m) ≡ true
c_opens t m h = grind (arith, raw_opens)

-- after `b`, and after `c`, which fewer texts follow
ways : (c : ℕ) (t : List ℕ) → opens_bytes (c ∷ t) ≡ true → (c ≡ 39) ⊎ ((c ≡ 34) ⊎ ((c ≡ 114) × (opens_raw t ≡ true)))
ways c t h = grind (arith, nat_tests)

bytes_grow : (t m : List ℕ) → opens_bytes t ≡ true → (first_passes is_single_quote m ≡ true → t ≡ 39 ∷ 10 ∷ [] → ⊥) → Grown m (after_prefixed t) (after_prefixed (t ++ m))
bytes_grow [] m h ahead = absurd (false≢true h)
bytes_grow (c ∷ t) m h ahead = elim (ways c t h) [
  | inl is ↦ rw is (char_grows t m (λ q line. ahead q (λ i. is i ∷ line i)))
  | inr (inl is) ↦ rw is (quoted_grows t m)
  | inr (inr is) ↦ rw is.0 (raw_grows t m is.1)
]

c_string_bytes : (t : List ℕ) → opens_c_string t ≡ true → opens_bytes t ≡ true
c_string_bytes t h = grind arith

-- The look ahead does not see `'`, or the text is not one that `'` changes.
abbrev Sees : (m t : List ℕ) → Type 0
Sees m t = first_passes is_single_quote m ≡ true → is_quoted_line_feed t ≡ false

body_grows : {t : List ℕ} → Opening t → (m : List ℕ) → Sees m t → Grown m (after_body t) (after_body (t ++ m))
body_grows (digit {c} {t} h) m sees = same m (sym (if_true (is_ascii_digit c) _ _ h)) (sym (if_true (is_ascii_digit c) _ _ h)) (number_grows (c ∷ t) m)
body_grows (double {t}) m sees = quoted_grows t m
body_grows (single {t} h) m sees = char_grows t m (λ q is. true≢false (rw is at (sees q)))
body_grows (raw {t} h) m sees = rw (h, raw_opens t m h) (raw_grows t m h)
body_grows (bytes {t} h) m sees = rw (h, bytes_open t m h) (bytes_grow t m h (λ q is. true≢false (rw is at (sees q))))
body_grows (c_string {t} h) m sees = rw (h, c_opens t m h) (bytes_grow t m (c_string_bytes t h) (λ q is. false≢true (rw is at h)))
body_grows (word_true h) m sees = inl refl
body_grows (word_false h) m sees = inl refl

-- the letter x after it, if nothing is left

x_end : (f y : List ℕ) → f ++ y ≡ 120 ∷ [] → after_name y ≡ []
x_end [] y is = ap after_name is ∙ name_taken [] refl
x_end (c ∷ f) [] is = refl
x_end (c ∷ f) (d ∷ y) is = absurd (omega (arith, ap length is, length-append f (d ∷ y)))

pub letter_is_taken : (t : List ℕ) → opens t ≡ true → after_opened t ≡ [] → after_opened (t ++ 120 ∷ []) ≡ []
letter_is_taken t h none = grind (arith, body_grows, opening, name_taken, x_end)

-- a literal begins

-- the end of the name after a `'` decides if it begins a lifetime
pub lifetime_stays : (t m : List ℕ) → is_empty (after_name t) ≡ false → begins_with_lifetime (t ++ m) ≡ begins_with_lifetime t
lifetime_stays t m h = grind (arith, rest_kept t m)

-- after `'`, if a char begins and something is there
char_opens : (c : ℕ) (t m : List ℕ) → begins_with_lifetime (c ∷ t) ≡ false → begins_with_lifetime (c ∷ (t ++ m)) ≡ false
char_opens c t m h = grind (arith, run_kept t m)

begins_stays : {t : List ℕ} → Opening t → (m : List ℕ) → is_empty (after_opened t) ≡ false → opens (t ++ m) ≡ true
begins_stays (digit h) m some = rw h refl
begins_stays double m some = refl
begins_stays (single {t = []} h) m some = absurd (true≢false some)
begins_stays (single {t = c ∷ t} h) m some = rw (char_opens c t m h) refl
begins_stays (raw {t} h) m some = rw (raw_opens t m h) refl
begins_stays (bytes {t} h) m some = rw (bytes_open t m h) refl
begins_stays (c_string {t} h) m some = rw (c_opens t m h) refl
begins_stays (word_true {t} h) m some = ap is_bool (name_kept (116 ∷ t) m some) ∙ h
begins_stays (word_false {t} h) m some = ap is_bool (name_kept (102 ∷ t) m some) ∙ h

-- If something follows the piece that begins at the front, it begins in each longer text, and more
-- follows.
pub opened_stays : (t m : List ℕ) → opens t ≡ true → is_quoted_line_feed t ≡ false → is_empty (after_opened t) ≡ false →
    (opens (t ++ m) ≡ true) × (after_opened (t ++ m) ≡ after_opened t ++ m)
opened_stays t m h other some = (
  begins_stays (opening t h) m some,
  elim (body_grows (opening t h) m (λ q. other)) [
    | inl is ↦ ap after_name is ∙ rest_kept (after_body t) m some
    | inr is ↦ absurd (true≢false (sym (ap (λ (l : List ℕ). is_empty (after_name l)) is.0) ∙ some))
  ],
)
