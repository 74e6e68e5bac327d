-- Answers that more text changes, and those that stay.
use Rattle.litrs_prefix.proofs.Words.{◌≡◌, ⊎_elim, is_xid_continue-ascii, ◌⊎◌, inl, inr, eqb, ltb, ℕ, true, false, ◌||◌, List, [], ◌∷◌, ◌++◌, length, length-append, refl, sym, ap, ◌∙◌, append_assoc, append-nil, arith, codes, list_all, chars, IsUtf8, is_empty, bool_text, is_bool, Derivation, a_bool, literal_parse, PrefixGoesOn, MalformedStay, AnswerStays, AnswerChanges, OpensNever, OpensLater, is_open_prefix, is_open_front, is_quoted_line_feed, after_opened, first_name, after_name, after_hashes, begins_with_lifetime, opens_bytes, opens_c_string, opens, may_follow, HasPrefix, HasNoPrefix, pointwise, IsText, is_text, Begins, first_run, and_left, cases_Bool, true≢false, false≢true, false_from_ne_true, nat_tests, append_cancel_left, is_xid_start-ascii, some_bool}
use Rattle.litrs_base.proofs.Chars.{is_text-chars}
use Rattle.std.proofs.lemmas.Bool.{or_cases, or_parts}
use Rattle.litrs_grammar.proofs.Laws.Float.{empty-true}
use Rattle.litrs_grammar.proofs.Laws.Literal.{is_text-is}
use Rattle.litrs_prefix.specs.MayChange.{Answer, none, literal, malformed, IsMalformedFront, IsAnswer}
use Rattle.litrs_prefix.proofs.Names.{Opening, opening}
use Rattle.litrs_prefix.proofs.Names.Opening.{digit, double, single, raw, bytes, c_string, word_true, word_false}
use Rattle.litrs_prefix.proofs.LongerTexts.{whole, stays}
use Rattle.litrs_prefix.proofs.Opened.{opened}
use Rattle.litrs_prefix.proofs.PieceEnds.{letter_is_taken, opened_stays, raw_stays, lifetime_stays, name_kept, run_whole, x_goes_on, x_begins}
use Rattle.litrs_prefix.proofs.Unique.{unique}
use Rattle.litrs_prefix.proofs.MoreText.{goes_on_with, text_parts}
use Rattle.litrs_prefix.proofs.Pieces.{malformed_of}

-- a malformed literal

-- it is longer if all of the longer text is taken for it
longer_front : (t : List ℕ) (c : ℕ) (m front : List ℕ) → after_opened (t ++ c ∷ m) ≡ [] → IsMalformedFront t front → IsMalformedFront (t ++ c ∷ m) front → ⊥
longer_front t c m front taken is longer =
    let opened = ap length longer.is_piece.opened in
    absurd (omega (arith, length-append {A = ℕ}, ap length is.spells, ap length longer.is_piece.longer, ap length taken))

malformed_by : (t more : List ℕ) → opens t ≡ true → HasNoPrefix t → IsText more → ((front : List ℕ) → IsMalformedFront t front → IsMalformedFront (t ++ more) front → ⊥) → AnswerChanges t
malformed_by t more h absent text differ = (more, text, go)
  where
    go : (answer : Answer) → IsAnswer t answer → IsAnswer (t ++ more) answer → ⊥
    go none is longer = true≢false (sym h ∙ is)
    go (literal d front) is longer = absent d is.0 is.2
    go (malformed front) is longer = differ front is longer

pub malformed_changes : (t : List ℕ) (c : ℕ) (m : List ℕ) → opens t ≡ true → HasNoPrefix t → IsText (c ∷ m) → after_opened (t ++ c ∷ m) ≡ [] → AnswerChanges t
malformed_changes t c m h absent text taken = malformed_by t (c ∷ m) h absent text (λ front is longer. longer_front t c m front taken is longer)

pub malformed_completes : (t : List ℕ) → opens t ≡ true → HasNoPrefix t → PrefixGoesOn t → AnswerChanges t
malformed_completes t h absent more = malformed_by t more.more h absent more.is_text (λ front is longer. longer.none more.literal more.rest more.found)

-- all of the text is taken, and so is a letter after it
pub malformed_reaches_end : (t : List ℕ) → opens t ≡ true → HasNoPrefix t → is_empty (after_opened t) ≡ true → AnswerChanges t
malformed_reaches_end t h absent end = malformed_changes t 120 [] h absent refl (letter_is_taken t h (empty-true _ end))

-- a test of the bytes is one of the characters
text_test : (w bs : List ℕ) → is_text w bs ≡ pointwise eqb bs w
text_test [] bs = grind arith
text_test (c ∷ w) bs = grind (arith, nat_tests, text_test w)

pub char_test : (w bs : List ℕ) → list_all (λ c. ltb c 128) w ≡ true → IsUtf8 bs → is_text w (chars bs) ≡ pointwise eqb bs w
char_test w bs low u = is_text-chars w bs low u ∙ text_test w bs

pub line_feed_test : (bs : List ℕ) → IsUtf8 bs → is_quoted_line_feed (chars bs) ≡ (pointwise eqb bs (39 ∷ 10 ∷ []) || pointwise eqb bs (98 ∷ 39 ∷ 10 ∷ []))
line_feed_test bs u =
    λ i. char_test (39 ∷ 10 ∷ []) bs refl u i || char_test (98 ∷ 39 ∷ 10 ∷ []) bs refl u i

-- texts that a `'` after the line feed makes longer
pub malformed_line_feed : (t : List ℕ) → opens t ≡ true → HasNoPrefix t → is_quoted_line_feed t ≡ true → AnswerChanges t
malformed_line_feed t h absent is = malformed_changes t 39 [] h absent refl (elim (or_cases (is_text (codes "'\n") t) _ is) [
  | inl char ↦ ap (λ (l : List ℕ). after_opened (l ++ 39 ∷ [])) (sym (is_text-is (codes "'\n") t char))
  | inr byte ↦ ap (λ (l : List ℕ). after_opened (l ++ 39 ∷ [])) (sym (is_text-is (codes "b'\n") t byte))
])

pub malformed_stays : (t : List ℕ) → opens t ≡ true → HasNoPrefix t → (PrefixGoesOn t → ⊥) → is_empty (after_opened t) ≡ false → is_quoted_line_feed t ≡ false → AnswerStays t
malformed_stays t h absent ends some other none m text is = absurd (true≢false (sym h ∙ is))
malformed_stays t h absent ends some other (literal d front) m text is = absurd (absent d is.0 is.2)
malformed_stays t h absent ends some other (malformed front) m text is =
    let longer = opened_stays t m h other some in
    grind (arith, append_assoc, never)
  where
    never : HasNoPrefix (t ++ m)
    never d rest found = ends (goes_on_with t m d rest (λ s. absent s.0 (s.1 ∷ s.2) s.3) text found)

-- its length and its error
pub malformed_stay : MalformedStay
malformed_stay t more e stay text is =
    malformed_of (t ++ more) is.front e (stay (malformed is.front) more text (grind arith)) is.len is.some is.refused

-- a literal

pub literal_stays : (t : List ℕ) (d : Derivation) (rest : List ℕ) → is_empty rest ≡ false → HasPrefix t d rest → AnswerStays t
literal_stays t d [] some at answer m text is = absurd (true≢false some)
literal_stays t d (c ∷ rest) some at none m text is = absurd (true≢false (sym (opened t d (c ∷ rest) at) ∙ is))
literal_stays t d (c ∷ rest) some at (literal e front) m text is =
    let same = unique t e d is.0 (c ∷ rest) is.2 at in
    let longer = stays t e c rest m (rw same.1 at is.2) in
    (is.0 ++ m, rw (← append_assoc front is.0 m, is.1) refl, rw same.1 longer)
literal_stays t d (c ∷ rest) some at (malformed front) m text is = absurd (is.none d (c ∷ rest) at)

-- no literal ends before a letter
pub letter_follows_none : (d : Derivation) → may_follow d (120 ∷ []) ≡ false
letter_follows_none d = grind (arith, x_begins, x_goes_on)

pub literal_changes : (t : List ℕ) (d : Derivation) → HasPrefix t d [] → AnswerChanges t
literal_changes t d at = (120 ∷ [], refl, go)
  where
    go : (answer : Answer) → IsAnswer t answer → IsAnswer (t ++ 120 ∷ []) answer → ⊥
    go none is longer = true≢false (sym (opened t d [] at) ∙ is)
    go (literal e front) is longer =
        let same = unique t e d is.0 [] is.2 at in
        let rest = append_cancel_left t longer.0 (120 ∷ []) (rw (rw (same.1, append-nil) at is.1) at longer.1) in
        true≢false (sym (rw rest at longer.2.follows) ∙ letter_follows_none e)
    go (malformed front) is longer = is.none d [] at

-- no literal begins

pub none_changes : (t : List ℕ) → opens t ≡ false → OpensLater t → AnswerChanges t
none_changes t h later = (later.0, later.1, go)
  where
    go : (answer : Answer) → IsAnswer t answer → IsAnswer (t ++ later.0) answer → ⊥
    go none is longer = true≢false (sym later.2 ∙ longer)
    go (literal d front) is longer = true≢false (sym (opened t d is.0 is.2) ∙ h)
    go (malformed front) is longer = true≢false (sym is.opens ∙ h)

pub none_stays : (t : List ℕ) → opens t ≡ false → OpensNever t → AnswerStays t
none_stays t h never none m text is = never m text
none_stays t h never (literal d front) m text is = absurd (true≢false (sym (opened t d is.0 is.2) ∙ h))
none_stays t h never (malformed front) m text is = absurd (true≢false (sym is.opens ∙ h))

pub begins_later : (t : List ℕ) → Begins literal_parse t → OpensLater t
begins_later t b = (b.0, b.2, opened (t ++ b.0) b.1 [] (whole (t ++ b.0) b.1 b.3))

-- a front that is open

hashes_to : (t m : List ℕ) → is_empty (after_hashes t) ≡ true → after_hashes (t ++ m) ≡ after_hashes m
hashes_to [] m h = refl
hashes_to (c ∷ t) m h = grind (arith, hashes_to t m)

-- a `'` after the name makes it a char
quoted_name : (t : List ℕ) → is_empty (after_name t) ≡ true → begins_with_lifetime (t ++ 39 ∷ []) ≡ false
quoted_name [] h = and_left _ _ (is_xid_start-ascii 39 (omega arith))
quoted_name (c ∷ t) h = grind (arith, run_whole t (39 ∷ []), is_xid_continue-ascii)

-- a quote of one of the two kinds opens it
quotes_open : (c : ℕ) (t : List ℕ) → is_open_front (c ∷ t) ≡ true → (opens (c ∷ (t ++ 39 ∷ [])) ≡ true) ⊎ (opens (c ∷ (t ++ 34 ∷ [])) ≡ true)
quotes_open c t h = grind (arith, nat_tests, quoted_name t, hashes_to)

pub front_later : (t : List ℕ) → is_open_front t ≡ true → OpensLater t
front_later [] h = absurd (false≢true h)
front_later (c ∷ t) h = ⊎_elim (λ is. (39 ∷ [], refl, is)) (λ is. (34 ∷ [], refl, is)) (quotes_open c t h)

-- if neither, none begins later

name_whole : (c : ℕ) (t m : List ℕ) → is_empty (after_name (c ∷ t)) ≡ true → first_name (c ∷ (t ++ m)) ≡ c ∷ (t ++ first_run m)
name_whole c t m h = grind (arith, run_whole t m)

begins_bool : (t z : List ℕ) → is_bool (t ++ z) ≡ true → Begins literal_parse t
begins_bool t z h =
    let bool = some_bool (t ++ z) h in
    (z, a_bool bool.0, (text_parts t z (rw (← bool.1) (grind arith))).1, bool.1)

prefix_stays : (t m : List ℕ) → is_open_prefix t ≡ false → (opens_bytes (t ++ m) ≡ opens_bytes t) × (opens_c_string (t ++ m) ≡ opens_c_string t)
prefix_stays t m h = (grind (arith, raw_stays), grind (arith, raw_stays))

-- a literal begins with the shorter text too, unless the name at the front becomes a bool
opens_shorter : (c : ℕ) (t m : List ℕ) → Opening (c ∷ (t ++ m)) → is_open_front (c ∷ t) ≡ false →
    (is_bool (first_name (c ∷ (t ++ m))) ≡ true → is_bool (first_name (c ∷ t)) ≡ true) → opens (c ∷ t) ≡ true
opens_shorter c t m (digit h) front bool = rw h refl
opens_shorter c t m double front bool = refl
opens_shorter c t m (single h) front bool =
    let none = or_parts (is_empty (after_name t)) false (or_parts (is_empty (after_name t) || false) false front).0 in
    rw (sym (lifetime_stays t m none.0) ∙ h) refl
opens_shorter c t m (raw h) front bool = rw (sym (raw_stays t m (or_parts (is_empty (after_hashes t)) false front).0) ∙ h) refl
opens_shorter c t m (bytes h) front bool = rw (sym (prefix_stays t m front).0 ∙ h) refl
opens_shorter c t m (c_string h) front bool = rw (sym (prefix_stays t m front).1 ∙ h) refl
opens_shorter c t m (word_true h) front bool = bool h
opens_shorter c t m (word_false h) front bool = bool h

pub opens_unless_bool : (c : ℕ) (t m : List ℕ) → opens (c ∷ t) ≡ false → is_open_front (c ∷ t) ≡ false →
    (is_bool (first_name (c ∷ (t ++ m))) ≡ true → is_bool (first_name (c ∷ t)) ≡ true) → opens (c ∷ (t ++ m)) ≡ false
opens_unless_bool c t m h front bool =
    false_from_ne_true _ (λ longer. true≢false (sym (opens_shorter c t m (opening _ longer) front bool) ∙ h))

pub opens_never : (t : List ℕ) → opens t ≡ false → (Begins literal_parse t → ⊥) → is_open_front t ≡ false → OpensNever t
opens_never [] h absent front m text = absurd (absent (bool_text true, a_bool true, refl, refl))
opens_never (c ∷ t) h absent front m text = opens_unless_bool c t m h front bool
  where
    bool : is_bool (first_name (c ∷ (t ++ m))) ≡ true → is_bool (first_name (c ∷ t)) ≡ true
    bool g = elim (cases_Bool (is_empty (after_name (c ∷ t)))) [
      | inl e ↦ absurd (absent (begins_bool (c ∷ t) (first_run m) (ap is_bool (sym (name_whole c t m e)) ∙ g)))
      | inr e ↦ ap is_bool (sym (name_kept (c ∷ t) m e)) ∙ g
    ]
