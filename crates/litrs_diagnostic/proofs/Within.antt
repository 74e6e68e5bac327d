-- As many of the first, or of the last, characters of a text as are shown in a width.
use Rattle.std.proofs.Common.{◌≡◌, ◌≤◌, ◌<◌, ◌+◌, ◌-◌, ◌/◌, ℕ, Bool, true, false, max, List, [], ◌∷◌, ◌++◌, length, take, drop, reverse, refl, sym, ap, subst, ◌∙◌, arith, append_assoc, append-nil, length-append}
use Rattle.std.specs.Str.{chars, IsUtf8, IsCharBoundary}
use Rattle.std.proofs.lemmas.Bool.{le-leb, lt-leb}
use Rattle.std.proofs.lemmas.List.{reverse-append, reverse-reverse, append_cancel_left, append_cancel_right, take_at, drop_at}
use Rattle.std.proofs.lemmas.List.Sums.{sum_by-append}
use Rattle.std.proofs.lemmas.List.{nil_from_length}
use Rattle.std.proofs.lemmas.Str.{chars-append, chars-nil, chars_past_char, IsUtf8-take, IsUtf8-drop, IsCharBoundary-at_seam, IsCharBoundary-from_take}
use Rattle.std.specs.Char.{encode_utf8}
use Rattle.litrs_diagnostic.specs.Shown.{char_columns, columns, shown, shown_char}
use Rattle.litrs_diagnostic.specs.Line.{Line}
use Rattle.litrs_diagnostic.specs.Window.{Window, prefix_within, suffix_within, is_shorter, fitted}
use Rattle.litrs_diagnostic.proofs.Encodes.{columns_more}

-- ---- what is next

pub none_within : (width : ℕ) (t : List ℕ) → t ≡ [] → prefix_within width t ≡ []
unfolding prefix_within
none_within width t e = rw e refl

pub wide_within : (width c : ℕ) (t rest : List ℕ) → rest ≡ c ∷ t → width < columns (shown_char c) →
    prefix_within width rest ≡ []
unfolding prefix_within
wide_within width c t rest e wide = rw (e, lt-leb (columns (shown_char c)) width wide) refl

one_within : (width c : ℕ) (t rest : List ℕ) → rest ≡ c ∷ t → columns (shown_char c) ≤ width →
    prefix_within width rest ≡ c ∷ prefix_within (width - columns (shown_char c)) t
unfolding prefix_within
one_within width c t rest e fits = rw (e, le-leb (columns (shown_char c)) width fits) refl

-- ---- the first characters

-- these characters are taken from the front of the text, before the rest
pub record IsTaken (width left : ℕ) (text front rest done : List ℕ) : Type 0 where
  pub bytes : text ≡ front ++ rest
  pub utf8 : IsUtf8 rest
  pub characters : chars text ≡ done ++ chars rest
  pub taken : prefix_within width (chars text) ≡ done ++ prefix_within left (chars rest)
  pub fits : left + columns (shown done) ≡ width

pub none_taken : (width : ℕ) (text : List ℕ) → IsUtf8 text → IsTaken width width text [] text []
none_taken width text u = record {
  bytes = refl;
  utf8 = u;
  characters = refl;
  taken = refl;
  fits = omega arith;
}

pub one_taken : (width left k c : ℕ) (text front rest done bytes more : List ℕ) →
    IsTaken width left text front rest done → chars rest ≡ c ∷ chars more → rest ≡ bytes ++ more →
    IsUtf8 more → k ≡ columns (shown_char c) → k ≤ left →
    IsTaken width (left - k) text (front ++ bytes) more (done ++ c ∷ [])
one_taken width left k c text front rest done bytes more now first parts u is_k room = record {
  bytes = now.bytes ∙ (ap (λ (l : List ℕ). front ++ l) parts ∙ sym (append_assoc front bytes more));
  utf8 = u;
  characters = now.characters ∙ (ap (λ (l : List ℕ). done ++ l) first
      ∙ sym (append_assoc done (c ∷ []) (chars more)));
  taken = let small : columns (shown_char c) ≤ left = omega (arith, is_k, room) in
      now.taken ∙ (ap (λ (l : List ℕ). done ++ l) (one_within left c (chars more) (chars rest)
      first small ∙ ap (λ (n : ℕ). c ∷ prefix_within (left - n) (chars more)) (sym is_k))
      ∙ sym (append_assoc done (c ∷ []) (prefix_within (left - k) (chars more))));
  fits = let more_columns = columns_more done c in
      let before = now.fits in omega (arith, more_columns, is_k, room, before);
}

pub taken_boundary : (width left : ℕ) (text front rest done : List ℕ) →
    IsTaken width left text front rest done →
    IsCharBoundary text (length text - length rest)
taken_boundary width left text front rest done now =
    let sum : length text ≡ length front + length rest = ap length now.bytes
    ∙ length-append front rest in
    let len : length front ≡ length text - length rest = omega (arith, sum) in
    subst (IsCharBoundary text) len (IsCharBoundary-at_seam text front rest now.bytes now.utf8)

-- the text without the rest
pub record IsPrefix (width left : ℕ) (text rest : List ℕ) : Type 0 where
  pub prefix : chars (take (length text - length rest) text) ≡ prefix_within width (chars text)
  pub remains : left ≡ width - columns (shown (chars (take (length text - length rest) text)))
  pub fits : columns (shown (chars (take (length text - length rest) text))) ≤ width

pub all_taken : (width left : ℕ) (text front rest done : List ℕ) → IsUtf8 text →
    IsTaken width left text front rest done → prefix_within left (chars rest) ≡ [] →
    IsPrefix width left text rest
all_taken width left text front rest done u now none =
    let sum : length text ≡ length front + length rest = ap length now.bytes
    ∙ length-append front rest in
    let len : length text - length rest ≡ length front = omega (arith, sum) in
    let part : take (length text - length rest) text ≡ front =
    ap (take (length text - length rest)) now.bytes
    ∙ take_at front rest (length text - length rest) (sym len) in
    let utf8 : IsUtf8 front = subst IsUtf8 part (IsUtf8-take text (length text - length rest) u
    (taken_boundary width left text front rest done now)) in
    let same : chars front ≡ done = append_cancel_right (chars front) done (chars rest)
    (sym (chars-append front rest utf8) ∙ (sym (ap chars now.bytes) ∙ now.characters)) in
    let is : chars (take (length text - length rest) text) ≡ done = ap chars part ∙ same in
    let width_of : columns (shown (chars (take (length text - length rest) text)))
    ≡ columns (shown done) = ap (λ (l : List ℕ). columns (shown l)) is in
    let columns_are = now.fits in
    record {
      prefix = is ∙ sym (now.taken ∙ (ap (λ (l : List ℕ). done ++ l) none ∙ append-nil done));
      remains = omega (arith, width_of, columns_are);
      fits = omega (arith, width_of, columns_are);
    }

-- ---- the last characters

-- these characters are taken from the end of the text, after the rest
pub record IsTakenBack (width left : ℕ) (text rest tail done : List ℕ) : Type 0 where
  pub bytes : text ≡ rest ++ tail
  pub utf8 : IsUtf8 rest
  pub characters : chars text ≡ chars rest ++ done
  pub taken : prefix_within width (reverse (chars text))
      ≡ reverse done ++ prefix_within left (reverse (chars rest))
  pub fits : left + columns (shown done) ≡ width

pub none_taken_back : (width : ℕ) (text : List ℕ) → IsUtf8 text →
    IsTakenBack width width text text [] []
none_taken_back width text u = record {
  bytes = sym (append-nil text);
  utf8 = u;
  characters = sym (append-nil (chars text));
  taken = refl;
  fits = omega arith;
}

pub last_first : (c : ℕ) (t rest : List ℕ) → rest ≡ t ++ c ∷ [] → reverse rest ≡ c ∷ reverse t
last_first c t rest e = ap reverse e ∙ reverse-append t (c ∷ [])

pub one_taken_back : (width left k c : ℕ) (text rest tail done bytes more : List ℕ) →
    IsTakenBack width left text rest tail done → chars rest ≡ chars more ++ c ∷ [] →
    rest ≡ more ++ bytes → IsUtf8 more → k ≡ columns (shown_char c) → k ≤ left →
    IsTakenBack width (left - k) text more (bytes ++ tail) (c ∷ done)
one_taken_back width left k c text rest tail done bytes more now last parts u is_k room = record {
  bytes = now.bytes ∙ (ap (λ (l : List ℕ). l ++ tail) parts ∙ append_assoc more bytes tail);
  utf8 = u;
  characters = now.characters ∙ (ap (λ (l : List ℕ). l ++ done) last
      ∙ append_assoc (chars more) (c ∷ []) done);
  taken = let small : columns (shown_char c) ≤ left = omega (arith, is_k, room) in
      now.taken ∙ (ap (λ (l : List ℕ). reverse done ++ l) (one_within left c (reverse (chars more))
      (reverse (chars rest)) (last_first c (chars more) (chars rest) last) small
      ∙ ap (λ (n : ℕ). c ∷ prefix_within (left - n) (reverse (chars more))) (sym is_k))
      ∙ (sym (append_assoc (reverse done) (c ∷ []) (prefix_within (left - k)
      (reverse (chars more)))) ∙ ap (λ (l : List ℕ). l ++ prefix_within (left - k)
      (reverse (chars more))) (sym (reverse-append (c ∷ []) done))));
  fits = let both : columns (shown (c ∷ done)) ≡ columns (shown_char c) + columns (shown done) =
      sum_by-append char_columns (shown_char c) (shown done) in
      let before = now.fits in omega (arith, both, is_k, room, before);
}

pub taken_back_boundary : (width left : ℕ) (text rest tail done : List ℕ) → IsUtf8 text →
    IsTakenBack width left text rest tail done → IsCharBoundary text (length rest)
taken_back_boundary width left text rest tail done u now =
    let sum : length text ≡ length rest + length tail = ap length now.bytes
    ∙ length-append rest tail in
    let front : take (length rest) text ≡ rest = ap (take (length rest)) now.bytes
    ∙ take_at rest tail (length rest) refl in
    IsCharBoundary-from_take text (length rest) u (omega (arith, sum))
    (subst IsUtf8 (sym front) now.utf8)

pub record IsSuffix (width left : ℕ) (text rest : List ℕ) : Type 0 where
  pub suffix : chars (drop (length rest) text) ≡ suffix_within width (chars text)
  pub remains : left ≡ width - columns (shown (chars (drop (length rest) text)))
  pub fits : columns (shown (chars (drop (length rest) text))) ≤ width

pub all_taken_back : (width left : ℕ) (text rest tail done : List ℕ) → IsUtf8 text →
    IsTakenBack width left text rest tail done → prefix_within left (reverse (chars rest)) ≡ [] →
    IsSuffix width left text rest
all_taken_back width left text rest tail done u now none =
    let part : drop (length rest) text ≡ tail = ap (drop (length rest)) now.bytes
    ∙ drop_at rest tail (length rest) refl in
    let same : chars tail ≡ done = append_cancel_left (chars rest) (chars tail) done
    (sym (chars-append rest tail now.utf8) ∙ (sym (ap chars now.bytes) ∙ now.characters)) in
    let is : chars (drop (length rest) text) ≡ done = ap chars part ∙ same in
    let width_of : columns (shown (chars (drop (length rest) text))) ≡ columns (shown done) =
    ap (λ (l : List ℕ). columns (shown l)) is in
    let columns_are = now.fits in
    record {
      suffix = is ∙ sym (ap reverse (now.taken ∙ (ap (λ (l : List ℕ). reverse done ++ l) none
          ∙ append-nil (reverse done))) ∙ reverse-reverse done);
      remains = omega (arith, width_of, columns_are);
      fits = omega (arith, width_of, columns_are);
    }

-- ---- the last character

pub no_chars : (bs : List ℕ) → length bs ≡ 0 → chars bs ≡ []
no_chars bs none = ap chars (nil_from_length bs none) ∙ chars-nil

pub last_char : (text rest : List ℕ) (c : ℕ) → IsUtf8 text → IsUtf8 rest →
    text ≡ rest ++ encode_utf8 c → chars text ≡ chars rest ++ c ∷ []
last_char text rest c u v parts =
    let sum : length text ≡ length rest + length (encode_utf8 c) = ap length parts
    ∙ length-append rest (encode_utf8 c) in
    let front : take (length rest) text ≡ rest = ap (take (length rest)) parts
    ∙ take_at rest (encode_utf8 c) (length rest) refl in
    let back : drop (length rest) text ≡ encode_utf8 c = ap (drop (length rest)) parts
    ∙ drop_at rest (encode_utf8 c) (length rest) refl in
    let utf8 : IsUtf8 (encode_utf8 c) = subst IsUtf8 back (IsUtf8-drop text (length rest) u
    (IsCharBoundary-from_take text (length rest) u (omega (arith, sum))
    (subst IsUtf8 (sym front) v))) in
    ap chars parts ∙ (chars-append rest (encode_utf8 c) v
    ∙ ap (λ (l : List ℕ). chars rest ++ l) (chars_past_char (encode_utf8 c) [] c utf8
    (sym (append-nil (encode_utf8 c))) ∙ ap (λ (l : List ℕ). c ∷ l) chars-nil))

-- ---- a line

abbrev pub window : (before marked after : List ℕ) (is_cut_before is_cut_after : Bool) → Window
window before marked after is_cut_before is_cut_after = record {
  before = before;
  marked = marked;
  after = after;
  is_cut_before = is_cut_before;
  is_cut_after = is_cut_after;
}

pub narrow : (width : ℕ) (l : Line) (before marked after : List ℕ) (is_cut : Bool) →
    before ≡ [] → after ≡ [] →
    marked ≡ prefix_within width l.marked → is_shorter marked l.marked ≡ true →
    is_cut ≡ is_shorter before l.before →
    window before marked after is_cut true ≡ fitted width l
unfolding fitted
narrow width l before marked after is_cut no_before no_after is_marked short is_before =
    rw (is_before, no_before, no_after, ← is_marked, short) refl

pub wide : (width : ℕ) (l : Line) (marked : List ℕ) (rest spare : ℕ) (before after : List ℕ)
    (is_cut is_cut_after : Bool) →
    marked ≡ prefix_within width l.marked → is_shorter marked l.marked ≡ false →
    rest ≡ width - columns (shown marked) →
    spare ≡ rest - columns (shown (prefix_within rest l.after)) →
    before ≡ suffix_within (max spare (rest / 2)) l.before →
    after ≡ prefix_within (rest - columns (shown before)) l.after →
    is_cut ≡ is_shorter before l.before → is_cut_after ≡ is_shorter after l.after →
    window before l.marked after is_cut is_cut_after ≡ fitted width l
unfolding fitted
wide width l marked rest spare before after is_cut is_cut_after is_marked short is_rest is_spare
    is_before is_after cut cut_after =
    rw (cut, cut_after, ← is_marked, short, ← is_rest, ← is_spare, ← is_before, ← is_after) refl
