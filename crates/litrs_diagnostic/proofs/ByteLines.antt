-- Lines in the bytes of a text.
use Rattle.std.proofs.Common.{◌≡◌, ◌≢◌, ◌≤◌, ◌<◌, ◌+◌, ◌-◌, ℕ, true, false, eqb, ltb, List, [], ◌∷◌, ◌++◌, Option, Some, None, MatchOption, Bor, length, take, drop, get_or, unwrap_or, refl, sym, ap, subst, ◌∙◌, arith, lit<, append_assoc, append-nil, length-append, length-drop, take_all, drop_of_length-le}
use Rattle.std.specs.List.{list_any, list_all}
use Rattle.std.specs.Str.{chars, IsUtf8, IsCharBoundary, NoCharPasses, encode_utf8_all}
use Rattle.std.specs.Str.Pattern.{HasCharAt, FindsChar, RFindsChar, FindsCharSuffix}
use Rattle.std.proofs.lemmas.List.{take-append-drop, take_at, drop_at, take-append-le}
use lib.Seq.{take-append-add}
use Rattle.std.proofs.lemmas.Str.{chars_from_encodes, chars-append, chars-nil, encode_ascii, encodes-append, encodes-chars, IsUtf8-take, IsUtf8-drop, IsUtf8-from_ascii, IsCharBoundary-before_ascii, IsCharBoundary-at_seam}
use Rattle.std.proofs.lemmas.Str.Pattern.{strip_suffix_char}
use Rattle.litrs_base.proofs.Chars.{chars_ascii, utf8_after_ascii, ascii_by_test}
use Rattle.litrs_diagnostic.specs.Position.{is_line_feed, last_line}
use Rattle.litrs_diagnostic.specs.Line.{first_line, without_line_end}
use Rattle.litrs_diagnostic.proofs.TextLines.{none_pass, none_in_front, last_line-none, last_line-after, first_line-none, first_line-line_feed, first_line-carriage_return, without_line_end-line_feed, without_line_end-carriage_return}

pub no_line_feed : (bs : List ℕ) → IsUtf8 bs → NoCharPasses (λ d. eqb d 10) bs →
    list_any is_line_feed (chars bs) ≡ false
no_line_feed bs u h =
    subst (λ (cs : List ℕ). list_any is_line_feed cs ≡ false) (chars_from_encodes h.0 bs u h.1)
    (none_pass is_line_feed h.0 h.2)

-- a text that is cut before and after an LF
record IsCutAtLineFeed (bs : List ℕ) (i j : ℕ) : Type 0 where
  whole : bs ≡ take i bs ++ 10 ∷ drop j bs
  characters : chars bs ≡ chars (take i bs) ++ 10 ∷ chars (drop j bs)
  front : IsUtf8 (take i bs)
  back : IsUtf8 (drop j bs)

cut_at_line_feed : (bs : List ℕ) (i j : ℕ) → IsUtf8 bs → HasCharAt 10 bs i j →
    IsCutAtLineFeed bs i j
cut_at_line_feed bs i j u at =
    let rest : drop i bs ≡ 10 ∷ drop j bs = at.split
    ∙ ap (λ (l : List ℕ). l ++ drop j bs) (encode_ascii 10 (lit< tt)) in
    let more : i < length bs = omega (arith, length-drop i bs, ap length rest) in
    let low : get_or bs i 0 < 128 = rw (at.byte (lit< tt)) (lit< tt) in
    let on = IsCharBoundary-before_ascii bs i more low in
    let front : IsUtf8 (take i bs) = IsUtf8-take bs i u on in
    let back : IsUtf8 (drop j bs) = utf8_after_ascii 10 (drop j bs) (lit< tt)
    (subst IsUtf8 rest (IsUtf8-drop bs i u on)) in
    let whole : bs ≡ take i bs ++ 10 ∷ drop j bs = sym (take-append-drop i bs)
    ∙ ap (λ (l : List ℕ). take i bs ++ l) rest in
    record {
      whole = whole;
      characters =
          ap chars whole ∙ (chars-append (take i bs) (10 ∷ drop j bs) front
          ∙ ap (λ (l : List ℕ). chars (take i bs) ++ l) (chars_ascii 10 (drop j bs) (lit< tt)));
      front = front;
      back = back;
    }

pub last_line_found : (bs back : List ℕ) (i j : ℕ) → IsUtf8 bs → RFindsChar 10 bs (Some (i, j)) →
    back ≡ drop j bs → chars back ≡ last_line (chars bs)
last_line_found bs back i j u found same =
    let cut = cut_at_line_feed bs i j u found.1 in
    ap chars same
    ∙ sym (ap last_line cut.characters ∙ last_line-after (chars (take i bs)) (chars (drop j bs))
    (no_line_feed (drop j bs) cut.back found.0))

pub last_line_ends : (bs back : List ℕ) (j : ℕ) → back ≡ drop j bs →
    (front : List ℕ) × (bs ≡ front ++ back)
last_line_ends bs back j same = (
  take j bs,
  sym (ap (λ (l : List ℕ). take j bs ++ l) same
      ∙ take-append-drop j bs),
)

pub last_line_missing : (bs : List ℕ) → IsUtf8 bs → RFindsChar 10 bs None →
    chars bs ≡ last_line (chars bs)
last_line_missing bs u none = sym (last_line-none (chars bs) (no_line_feed bs u none))

pub first_line_missing : (bs : List ℕ) → IsUtf8 bs → FindsChar 10 bs None →
    chars bs ≡ first_line (chars bs)
first_line_missing bs u none = sym (first_line-none (chars bs) (no_line_feed bs u none))

-- ---- without a CR

-- a text whose bytes do not end with CR does not end with the character CR
no_carriage_return : (bs : List ℕ) → IsUtf8 bs → ((front : List ℕ) → bs ≢ front ++ 13 ∷ []) →
    (front : List ℕ) → chars bs ≢ front ++ 13 ∷ []
no_carriage_return bs u lacks front e =
    lacks (encode_utf8_all front) (sym (encodes-chars bs u)
    ∙ (ap encode_utf8_all e ∙ (encodes-append front (13 ∷ [])
    ∙ ap (λ (l : List ℕ). encode_utf8_all front ++ l) (append-nil _ ∙ encode_ascii 13 (lit< tt)))))

before_carriage_return : (bs front : List ℕ) → IsUtf8 bs → bs ≡ front ++ 13 ∷ [] →
    chars bs ≡ chars front ++ 13 ∷ []
before_carriage_return bs front u e =
    let last : IsUtf8 (13 ∷ []) = IsUtf8-from_ascii (13 ∷ []) (ascii_by_test (13 ∷ []) refl) in
    let utf8 : IsUtf8 front =
    subst IsUtf8 (ap (take (length front)) e ∙ take_at front (13 ∷ []) (length front) refl)
    (IsUtf8-take bs (length front) u (IsCharBoundary-at_seam bs front (13 ∷ []) e last)) in
    ap chars e ∙ (chars-append front (13 ∷ []) utf8
    ∙ ap (λ (l : List ℕ). chars front ++ l) (chars_ascii 13 [] (lit< tt)
    ∙ ap (λ (l : List ℕ). 13 ∷ l) chars-nil))

-- the clause of `strip_suffix` at a CR
abbrev pub IsStripped : List ℕ → Option (Bor (List ℕ)) → Type 0
IsStripped bs r = MatchOption r (FindsCharSuffix 13 bs None)
    (λ x. (n : ℕ) × FindsCharSuffix 13 bs (Some n) × (x.now ≡ take (length bs - n) bs) ×
    (length x.now + n ≡ length bs))

-- the first line, which is a front of the text
pub record IsFirstLine (bs out : List ℕ) : Type 0 where
  pub line : chars out ≡ first_line (chars bs)
  pub front : (rest : List ℕ) × (bs ≡ out ++ rest)

line_kept : (bs : List ℕ) (i j : ℕ) → IsUtf8 bs → FindsChar 10 bs (Some (i, j)) →
    ((front : List ℕ) → take i bs ≢ front ++ 13 ∷ []) → IsFirstLine bs (take i bs)
line_kept bs i j u found lacks =
    let cut = cut_at_line_feed bs i j u found.1 in
    record {
      line = sym (ap first_line cut.characters
          ∙ first_line-line_feed (chars (take i bs)) (chars (drop j bs))
          (no_line_feed (take i bs) cut.front found.0)
          (no_carriage_return (take i bs) cut.front lacks));
      front = (10 ∷ drop j bs, cut.whole);
    }

line_shortened : (bs out : List ℕ) (i j : ℕ) → IsUtf8 bs → FindsChar 10 bs (Some (i, j)) →
    take i bs ≡ out ++ 13 ∷ [] → IsFirstLine bs out
line_shortened bs out i j u found e =
    let cut = cut_at_line_feed bs i j u found.1 in
    let line : chars (take i bs) ≡ chars out ++ 13 ∷ [] =
    before_carriage_return (take i bs) out cut.front e in
    let none : list_any is_line_feed (chars out) ≡ false =
    none_in_front is_line_feed (chars out) (13 ∷ [])
    (subst (λ (l : List ℕ). list_any is_line_feed l ≡ false) line
    (no_line_feed (take i bs) cut.front found.0)) in
    record {
      line = sym (ap first_line (cut.characters
          ∙ (ap (λ (l : List ℕ). l ++ 10 ∷ chars (drop j bs)) line
          ∙ append_assoc (chars out) (13 ∷ []) (10 ∷ chars (drop j bs))))
          ∙ first_line-carriage_return (chars out) (chars (drop j bs)) none);
      front = (
        13 ∷ 10 ∷ drop j bs,
        cut.whole ∙ (ap (λ (l : List ℕ). l ++ 10 ∷ drop j bs) e
            ∙ append_assoc out (13 ∷ []) (10 ∷ drop j bs)),
      );
    }

pub first_line_found : (bs : List ℕ) (line : Bor (List ℕ)) (i j : ℕ) (r : Option (Bor (List ℕ))) →
    IsUtf8 bs → FindsChar 10 bs (Some (i, j)) →
    line.now ≡ take i bs → IsStripped line.now r → IsFirstLine bs (unwrap_or r line).now
first_line_found bs line i j None u found same stripped =
    let lacks : (front : List ℕ) → line.now ≢ front ++ 13 ∷ [] =
    strip_suffix_char 13 line.now None stripped (lit< tt) in
    subst (IsFirstLine bs) (sym same) (line_kept bs i j u found (λ front e. lacks front (same ∙ e)))
first_line_found bs line i j (Some x) u found same stripped =
    let e : line.now ≡ x.now ++ 13 ∷ [] = strip_suffix_char 13 line.now (Some x) stripped
    (lit< tt) in
    line_shortened bs x.now i j u found (sym same ∙ e)

-- ---- without the end of its last line

-- the bytes without a line end, and the line end after them
pub record IsWithoutLineEnd (bs out : List ℕ) : Type 0 where
  pub value : out ≡ without_line_end bs
  pub front : (end : List ℕ) × IsUtf8 end × (bs ≡ out ++ end)

ascii_utf8 : (bs : List ℕ) → list_all (λ c. ltb c 128) bs ≡ true → IsUtf8 bs
ascii_utf8 bs h = IsUtf8-from_ascii bs (ascii_by_test bs h)

pub line_end_stripped : (bs : List ℕ) (line : Bor (List ℕ)) (r : Option (Bor (List ℕ))) →
    bs ≡ line.now ++ 10 ∷ [] → IsStripped line.now r →
    IsWithoutLineEnd bs (unwrap_or r line).now
line_end_stripped bs line None whole stripped =
    let lacks : (front : List ℕ) → line.now ≢ front ++ 13 ∷ [] =
    strip_suffix_char 13 line.now None stripped (lit< tt) in
    record {
      value = sym (ap without_line_end whole ∙ without_line_end-line_feed line.now lacks);
      front = (10 ∷ [], ascii_utf8 (10 ∷ []) refl, whole);
    }
line_end_stripped bs line (Some x) whole stripped =
    let more : line.now ≡ x.now ++ 13 ∷ [] = strip_suffix_char 13 line.now (Some x) stripped
    (lit< tt) in
    let all : bs ≡ x.now ++ 13 ∷ 10 ∷ [] = whole ∙ (ap (λ (l : List ℕ). l ++ 10 ∷ []) more
    ∙ append_assoc x.now (13 ∷ []) (10 ∷ [])) in
    record {
      value = sym (ap without_line_end all ∙ without_line_end-carriage_return x.now);
      front = (13 ∷ 10 ∷ [], ascii_utf8 (13 ∷ 10 ∷ []) refl, all);
    }

-- ---- a line that is cut

-- the line is a front of the bytes, which are cut at a boundary
pub cut_within : (bs line rest : List ℕ) (n : ℕ) → IsUtf8 bs → IsUtf8 line → bs ≡ line ++ rest →
    IsCharBoundary bs n → n ≤ length line →
    (chars (take n line) ≡ take (length (chars (take n bs))) (chars line)) ×
    (chars (drop n line) ≡ drop (length (chars (take n bs))) (chars line))
cut_within bs line rest n u v whole on fits =
    let same : take n bs ≡ take n line = ap (take n) whole ∙ take-append-le n line rest fits in
    let front : IsUtf8 (take n line) = subst IsUtf8 same (IsUtf8-take bs n u on) in
    let parts : chars line ≡ chars (take n line) ++ chars (drop n line) =
    ap chars (sym (take-append-drop n line)) ∙ chars-append (take n line) (drop n line) front in
    let count : length (chars (take n bs)) ≡ length (chars (take n line)) =
    ap (λ (l : List ℕ). length (chars l)) same in (
      sym (ap (take (length (chars (take n bs)))) parts
          ∙ take_at (chars (take n line)) (chars (drop n line)) (length (chars (take n bs)))
          (sym count)),
      sym (ap (drop (length (chars (take n bs)))) parts
          ∙ drop_at (chars (take n line)) (chars (drop n line)) (length (chars (take n bs)))
          (sym count)),
    )

-- the line ends before the cut
pub cut_past : (bs line rest : List ℕ) (n : ℕ) → IsUtf8 line → bs ≡ line ++ rest → length line ≤ n →
    (chars line ≡ take (length (chars (take n bs))) (chars line)) ×
    (chars [] ≡ drop (length (chars (take n bs))) (chars line))
cut_past bs line rest n v whole past =
    let k = n - length line in
    let sum : n ≡ length line + k = omega arith in
    let front : take n bs ≡ line ++ take k rest =
    ap (take n) whole ∙ (ap (λ (m : ℕ). take m (line ++ rest)) sum ∙ take-append-add line rest k) in
    let count : length (chars line) ≤ length (chars (take n bs)) =
    omega (
      arith,
      ap (λ (l : List ℕ). length (chars l)) front,
      ap length (chars-append line (take k rest) v),
      length-append (chars line) (chars (take k rest)),
    ) in (
      sym (take_all (length (chars (take n bs))) (chars line) count),
      chars-nil ∙ sym (drop_of_length-le (chars line) count),
    )
