-- The starts of lines follow one another.
use Rattle.std.proofs.Common.{◌≡◌, ◌≤◌, ◌<◌, ◌+◌, ◌-◌, Bor, ℕ, suc, Bool, true, false, cond, List, [], ◌∷◌, ◌++◌, length, get_or, take, drop, slice_index, count_by, refl, sym, ap, subst, ◌∙◌, arith, lit<, inl, inr, append_assoc, length-append, length-take, length-drop, leb, leb-true, true≢false}
use Rattle.std.specs.List.{list_any, AllWithin}
use Rattle.std.specs.Char.{encode_utf8}
use denote.Param.Members.{Mut}
use Rattle.std.specs.Fn.{Called, ComputesKey}
use Rattle.std.specs.List.Sorted.{IsNonDecreasing, IsPartitionedBy, IsPartitionPoint}
use Rattle.std.proofs.lemmas.List.Sorted.{IsPartitionedBy-leb, IsPartitionPoint-from_clause}
use Rattle.std.specs.Str.{chars, IsUtf8, IsCharBoundary, encode_utf8_all}
use Rattle.std.proofs.Math.Seq.{take-add, drop-cons}
use Rattle.std.proofs.lemmas.Bool.{false_from_ne_true, cases_Bool, cases_lt, eqb-true}
use Rattle.std.proofs.lemmas.List.{get_or-take, get_or-drop, get_or_push, take-append-drop}
use Rattle.std.proofs.Math.ListN.{get_or-append}
use Rattle.std.proofs.lemmas.List.Folds.{list_any-append}
use Rattle.std.proofs.lemmas.List.Sums.{sum_by-append}
use Rattle.std.proofs.lemmas.Str.{chars-append, chars-nil, chars_from_encodes, encode_ascii, IsUtf8-take, IsCharBoundary-start, IsCharBoundary-before_ascii, IsCharBoundary-from_rest, lead_after_ascii}
use Rattle.litrs_diagnostic.specs.Position.{is_line_feed, last_line, line_number, column_number}
use Rattle.litrs_diagnostic.specs.Lines.{IsLineStart, AreLineStarts, IsLineLen}
use Rattle.litrs_diagnostic.proofs.TextLines.{or_parts, none_in_front, last_line-after, none_counted}
use Rattle.litrs_base.proofs.Chars.{chars_ascii}
use Rattle.memchr.specs.Find.{Passes, is_byte}

-- ---- characters and bytes

pub none_from_places : (p : ℕ → Bool) (xs : List ℕ) →
    ((k : ℕ) → k < length xs → p (get_or xs k 0) ≡ true → ⊥) → list_any p xs ≡ false
none_from_places p [] h = refl
none_from_places p (x ∷ xs) h =
    rw (false_from_ne_true (p x) (h 0 (omega arith)))
    (none_from_places p xs (λ k within. h (suc k) (omega arith)))

none_at_back : (p : ℕ → Bool) (xs ys : List ℕ) → list_any p (xs ++ ys) ≡ false →
    list_any p ys ≡ false
none_at_back p [] ys h = h
none_at_back p (x ∷ xs) ys h =
    none_at_back p xs ys (or_parts (p x) (list_any p (xs ++ ys)) h).1

no_character : (cs : List ℕ) → list_any is_line_feed (encode_utf8_all cs) ≡ false →
    list_any is_line_feed cs ≡ false
no_character [] h = refl
no_character (c ∷ cs) h =
    let front : list_any is_line_feed (encode_utf8 c) ≡ false =
    none_in_front is_line_feed (encode_utf8 c) (encode_utf8_all cs) h in
    let back : list_any is_line_feed (encode_utf8_all cs) ≡ false =
    none_at_back is_line_feed (encode_utf8 c) (encode_utf8_all cs) h in
    let other : is_line_feed c ≡ false = false_from_ne_true (is_line_feed c) (λ e.
    let same : c ≡ 10 = eqb-true c 10 e in
    let at_ten : list_any is_line_feed (encode_utf8 10) ≡ false =
    subst (λ (d : ℕ). list_any is_line_feed (encode_utf8 d) ≡ false) same front in
    let ten : true ≡ list_any is_line_feed (encode_utf8 10) =
    ap (list_any is_line_feed) (sym (encode_ascii 10 (lit< tt))) in
    true≢false (ten ∙ at_ten)) in
    rw other (no_character cs back)

pub no_line_feed_in : (bs : List ℕ) → IsUtf8 bs → list_any is_line_feed bs ≡ false →
    list_any is_line_feed (chars bs) ≡ false
no_line_feed_in bs u h =
    subst (λ (cs : List ℕ). list_any is_line_feed cs ≡ false) (chars_from_encodes u.0 bs u u.1.1)
    (no_character u.0 (subst (λ (l : List ℕ). list_any is_line_feed l ≡ false) (sym u.1.1) h))

-- ---- the length of the first line

pub line_len_is : (bs : List ℕ) (at : ℕ) → IsUtf8 bs → at < length bs →
    ((k : ℕ) → k < at → Passes (is_byte 10) bs k → ⊥) → Passes (is_byte 10) bs at →
    IsLineLen bs (at + 1)
line_len_is bs at u within before here =
    let byte : get_or bs at 0 ≡ 10 = eqb-true (get_or bs at 0) 10 here in
    let low : get_or bs at 0 < 128 = rw byte (lit< tt) in
    let on = IsCharBoundary-before_ascii bs at within low in
    let front : IsUtf8 (take at bs) = IsUtf8-take bs at u on in
    let size = length-take at bs in
    let none : list_any is_line_feed (take at bs) ≡ false =
    none_from_places is_line_feed (take at bs) (λ k inside is.
    let below : k < at = omega (arith, size, inside) in
    before k below (subst (λ (c : ℕ). is_line_feed c ≡ true) (get_or-take at bs k 0 below) is)) in
    let last : take 1 (drop at bs) ≡ 10 ∷ [] =
    ap (take 1) (drop-cons bs at 0 within) ∙ ap (λ (c : ℕ). c ∷ []) byte in
    record {
      boundary = (omega arith, λ inside high. lead_after_ascii bs at u low inside high);
      some = omega arith;
      line = chars (take at bs);
      whole = ap chars (take-add at 1 bs ∙ ap (λ (l : List ℕ). take at bs ++ l) last)
          ∙ (chars-append (take at bs) (10 ∷ []) front
          ∙ ap (λ (l : List ℕ). chars (take at bs) ++ l) (chars_ascii 10 [] (lit< tt)
          ∙ ap (λ (l : List ℕ). 10 ∷ l) chars-nil));
      none = no_line_feed_in (take at bs) front none;
    }

pub no_line_feeds : (bs : List ℕ) → IsUtf8 bs →
    ((k : ℕ) → k < length bs → Passes (is_byte 10) bs k → ⊥) →
    count_by is_line_feed (chars bs) ≡ 0
no_line_feeds bs u h =
    none_counted is_line_feed (chars bs) (no_line_feed_in bs u (none_from_places is_line_feed bs h))

-- ---- one line after another

last_line-append : (xs ys : List ℕ) → last_line xs ≡ [] → last_line (xs ++ ys) ≡ last_line ys
unfolding last_line
last_line-append [] ys h = refl
last_line-append (x ∷ xs) ys h = elim (cases_Bool (list_any is_line_feed (x ∷ xs))) [
  | inl some ↦
      let rest : last_line xs ≡ [] = rw some at h in
      let more : list_any is_line_feed ((x ∷ xs) ++ ys) ≡ true =
      list_any-append is_line_feed (x ∷ xs) ys ∙ rw some refl in
      rw more (last_line-append xs ys rest)
  | inr none ↦ absurd (let is : x ∷ xs ≡ [] = rw none at h in cc)
]

counted : (xs ys : List ℕ) → count_by is_line_feed (xs ++ ys)
    ≡ count_by is_line_feed xs + count_by is_line_feed ys
counted xs ys = sum_by-append (λ c. cond (is_line_feed c) 1 0) xs ys

-- the first line starts at 0
pub first_start : (bs : List ℕ) → IsUtf8 bs → IsLineStart bs 0 0
unfolding last_line
first_start bs u = record {
  boundary = IsCharBoundary-start bs u;
  line_feeds = ap (count_by is_line_feed) chars-nil;
  starts = ap last_line chars-nil;
}

pub next_start : (bs rest : List ℕ) (number start len : ℕ) → IsUtf8 bs → IsLineStart bs number start →
    rest ≡ drop start bs → IsLineLen rest len → IsLineStart bs (number + 1) (start + len)
next_start bs rest number start len u at is first =
    let line : IsLineLen (drop start bs) len = subst (λ (l : List ℕ). IsLineLen l len) is first in
    let front : IsUtf8 (take start bs) = IsUtf8-take bs start u at.boundary in
    let parts : chars (take (start + len) bs)
    ≡ chars (take start bs) ++ (line.line ++ 10 ∷ []) =
    ap chars (take-add start len bs)
    ∙ (chars-append (take start bs) (take len (drop start bs)) front
    ∙ ap (λ (l : List ℕ). chars (take start bs) ++ l) line.whole) in
    let sum = counted (chars (take start bs)) (line.line ++ 10 ∷ []) in
    let more = counted line.line (10 ∷ []) in
    let none = none_counted is_line_feed line.line line.none in
    let one : count_by is_line_feed (10 ∷ []) ≡ 1 = refl in
    let same = ap (count_by is_line_feed) parts in
    let before = at.line_feeds in
    record {
      boundary = IsCharBoundary-from_rest bs start len at.boundary.0 line.boundary;
      line_feeds = omega (arith, sum, more, none, one, same, before);
      starts = ap last_line (parts ∙ sym (append_assoc (chars (take start bs)) line.line (10 ∷ [])))
          ∙ last_line-after (chars (take start bs) ++ line.line) [] refl;
    }

pub more_starts : (bs starts : List ℕ) (start : ℕ) → AreLineStarts bs starts →
    IsLineStart bs (length starts + 1) start → AreLineStarts bs (starts ++ start ∷ [])
more_starts bs starts start are is k within = elim (cases_lt k (length starts)) [
  | inl before ↦ subst (IsLineStart bs (k + 1))
      (sym (get_or-append starts (start ∷ []) 0 k before)) (are k before)
  | inr after ↦
      let size = length-append starts (start ∷ []) in
      let last : k ≡ length starts = omega (arith, size, within, after) in
      subst (IsLineStart bs (k + 1)) (sym (get_or_push starts start 0 k (sym last)))
      (subst (λ (n : ℕ). IsLineStart bs (n + 1) start) (sym last) is)
]

-- no start is after this place
pub no_later : (starts : List ℕ) (last start : ℕ) → last ≤ start →
    ((k : ℕ) → k < length starts → get_or starts k 0 ≤ last) → (k : ℕ) →
    k < length (starts ++ start ∷ []) → get_or (starts ++ start ∷ []) k 0 ≤ start
no_later starts last start order all k within = elim (cases_lt k (length starts)) [
  | inl before ↦
      let same = get_or-append starts (start ∷ []) 0 k before in
      let bound = all k before in
      omega (arith, same, bound, order)
  | inr after ↦
      let size = length-append starts (start ∷ []) in
      let last : k ≡ length starts = omega (arith, size, within, after) in
      let same = get_or_push starts start 0 k (sym last) in
      omega (arith, same)
]

-- the LFs before a line, and those from there on
pub all_line_feeds : (bs : List ℕ) (number start : ℕ) → IsUtf8 bs → IsLineStart bs number start →
    number + count_by is_line_feed (chars (drop start bs)) ≡ count_by is_line_feed (chars bs)
all_line_feeds bs number start u at =
    let front : IsUtf8 (take start bs) = IsUtf8-take bs start u at.boundary in
    let parts : chars bs ≡ chars (take start bs) ++ chars (drop start bs) =
    ap chars (sym (take-append-drop start bs)) ∙ chars-append (take start bs) (drop start bs) front in
    let sum = counted (chars (take start bs)) (chars (drop start bs)) in
    let same = ap (count_by is_line_feed) parts in
    let before = at.line_feeds in
    omega (arith, sum, same, before)

-- no line starts later
pub each_start : (bs : List ℕ) (number start : ℕ) → IsUtf8 bs → IsLineStart bs number start →
    count_by is_line_feed (chars (drop start bs)) ≡ 0 → number ≡ count_by is_line_feed (chars bs)
each_start bs number start u at none =
    let all = all_line_feeds bs number start u at in omega (arith, all, none)

-- ---- a place in a line

pub record IsPlaceAfter (bs : List ℕ) (number start at line column : ℕ) : Type 0 where
  pub on_line : number + line ≡ line_number 1 (chars (take at bs))
  pub on_column : column ≡ column_number (chars (take at bs))

pub place_after : (bs : List ℕ) (number start at line column : ℕ) → IsUtf8 bs →
    IsLineStart bs number start → start ≤ at →
    line ≡ line_number 1 (chars (take (at - start) (drop start bs))) →
    column ≡ column_number (chars (take (at - start) (drop start bs))) →
    IsPlaceAfter bs number start at line column
place_after bs number start at line column u begins order is_line is_column =
    let front : IsUtf8 (take start bs) = IsUtf8-take bs start u begins.boundary in
    let rest = take (at - start) (drop start bs) in
    let place : start + (at - start) ≡ at = omega arith in
    let parts : chars (take at bs) ≡ chars (take start bs) ++ chars rest =
    ap (λ (n : ℕ). chars (take n bs)) (sym place)
    ∙ (ap chars (take-add start (at - start) bs) ∙ chars-append (take start bs) rest front) in
    let sum = counted (chars (take start bs)) (chars rest) in
    let same = ap (count_by is_line_feed) parts in
    let before = begins.line_feeds in
    record {
      on_line = omega (arith, sum, same, before, is_line);
      on_column = is_column ∙ ap (λ (l : List ℕ). length l + 1)
          (sym (ap last_line parts
          ∙ last_line-append (chars (take start bs)) (chars rest) begins.starts));
    }

-- a place of the text is one of what follows the start
pub boundary_in_rest : (bs : List ℕ) (start at : ℕ) → start ≤ at → IsCharBoundary bs at →
    IsCharBoundary (drop start bs) (at - start)
boundary_in_rest bs start at order on =
    let place : start + (at - start) ≡ at = omega arith in
    let same : get_or (drop start bs) (at - start) 0 ≡ get_or bs at 0 =
    get_or-drop start bs (at - start) 0 ∙ ap (λ (n : ℕ). get_or bs n 0) place in
    let size = length-drop start bs in
    let fits = on.0 in (
      omega (arith, size, fits),
      λ inside high. subst (λ (b : ℕ). 192 ≤ b) (sym same)
          (on.1 (omega (arith, size, inside, place)) (subst (λ (b : ℕ). 128 ≤ b) same high)),
    )

-- the last start that is not after the place
pub record IsLastStart (bs starts : List ℕ) (number at : ℕ) : Type 0 where
  pub within : number - 1 < length starts
  pub begins : IsLineStart bs number (slice_index starts (number - 1))
  pub order : slice_index starts (number - 1) ≤ at

pub last_start : {F : Type 0} {g : Mut F (Bor ℕ × Unit {0}) Bool} {f : F}
    (bs xs starts : List ℕ) (number at : ℕ) → AreLineStarts bs starts → IsNonDecreasing starts →
    xs ≡ starts → number ≤ length xs → (number ≡ 0 → ⊥) →
    ((q : ℕ → Bool) → ComputesKey g q f → IsPartitionedBy q xs →
    IsPartitionPoint (λ y. q y ≡ true) (λ y. q y ≡ false) xs number) →
    ((a : Bor ℕ × Unit {0}) (r : Bool) (f' : F) → Called g f a r f' →
    (r ≡ leb a.0.now at) × (f' ≡ f)) → IsLastStart bs starts number at
last_start bs xs starts number at are sorted same fits some clause called =
    let parted = IsPartitionedBy-leb (λ (y : ℕ). y) xs at (subst IsNonDecreasing (sym same) sorted) in
    let point = IsPartitionPoint-from_clause (λ (y : ℕ). leb y at) xs number clause parted called in
    let all : AllWithin (λ (y : ℕ). leb y at ≡ true) starts 0 number =
    subst (λ (l : List ℕ). AllWithin (λ (y : ℕ). leb y at ≡ true) l 0 number) same point.0 in
    let size = ap length same in
    let within : number - 1 < length starts = omega (arith, size, fits, some) in
    let place : number - 1 + 1 ≡ number = omega (arith, some) in
    record {
      within = within;
      begins = subst (λ (n : ℕ). IsLineStart bs n (slice_index starts (number - 1))) place
          (are (number - 1) within);
      order = leb-true (slice_index starts (number - 1)) at
          (all (number - 1) 0 (omega arith) (omega (arith, some)));
    }
