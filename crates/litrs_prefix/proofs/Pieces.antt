-- A piece at the front of a text that is refused.
use Rattle.litrs_prefix.proofs.Words.{◌≡◌, append_assoc, nat_eq, false, is_empty, nat_tests, chars_empty, IsUtf8-drop, length-drop, IsIntegerAndPeriod, IsBareInteger, ◌↔◌, encode_utf8_all, ◌⊎◌, ℕ, ◌+◌, ◌<◌, ◌^◌, List, ◌++◌, length, take, drop, None, sym, ap, subst, inl, inr, ◌∙◌, length-take, [], ◌∷◌, ◌-◌, refl, arith, chars, IsUtf8, IsCharBoundary, byte_len, Derivation, IsLiteral, literal_parse, IsLiteralLen, IsMalformedLen, IsMalformedOrOutOfMemory, IsPiece, HasPrefix, ParseError, IsRefused, IsRefusedOrOutOfMemory, Refusal, span_of, MovesWithin, MalformedPrefix, EndsBefore, IsMalformed, chars-append, encodes-chars, IsUtf8-take, take-append-drop, append_cancel_right, literals_are_unique, cut_at}
use Rattle.std.proofs.lemmas.Str.{chars-IsAscii, encodes-append, encodes-IsAscii}
use Rattle.litrs_base.proofs.Chars.{ascii_by_test}
use Rattle.litrs.proofs.MovedRefusals.{refusal_moves}
use Rattle.litrs_prefix.specs.MayChange.{IsMalformedFront}
use Rattle.litrs_prefix.proofs.Ends.{front_is}
use Rattle.litrs_prefix.proofs.PieceLaws.{piece_longer}
use Rattle.litrs_prefix.proofs.Unique.{no_literal}

-- the two parts of a text that is cut at a character
pub parts_spell : (bs front rest : List ℕ) (n : ℕ) → IsUtf8 bs → IsCharBoundary bs n → front ≡ take n bs → rest ≡ drop n bs → chars front ++ chars rest ≡ chars bs
parts_spell bs front rest n u bound before after =
    rw (before, after, ← chars-append (take n bs) (drop n bs) (IsUtf8-take bs n u bound), take-append-drop n bs) refl

-- the literal at the front would be the piece
pub piece_is : (bs front : List ℕ) (n : ℕ) (d : Derivation) (r : List ℕ) → IsUtf8 bs → front ≡ take n bs → EndsBefore bs r n → HasPrefix (chars bs) d r → IsLiteral (chars front) d
piece_is bs front n d r u before place at = grind (arith, front_is)

piece_len : (bs front : List ℕ) (n : ℕ) → IsUtf8 bs → IsCharBoundary bs n → front ≡ take n bs → length front ≡ n → byte_len (chars front) ≡ n
piece_len bs front n u bound before size =
    ap length (encodes-chars front (subst (λ (l : List ℕ). IsUtf8 l) (sym before) (IsUtf8-take bs n u bound))) ∙ size

-- the literal that is the front
pub front_found : (bs front rest : List ℕ) (n : ℕ) (x : Derivation) → IsUtf8 bs → front ≡ take n bs → rest ≡ drop n bs → IsLiteralLen bs n ⊎ IsMalformedLen bs n → IsLiteral (chars front) x →
    HasPrefix (chars bs) x (chars rest)
front_found bs front rest n x u before after (inr is) h = absurd (is.front.invalid x (rw before at h))
front_found bs front rest n x u before after (inl is) h =
    grind (arith, piece_is bs front n is.literal (chars (drop n bs)) u before (is.boundary, refl) is.at_front, literals_are_unique (chars front) is.literal x)

-- a malformed front, and its error
pub malformed_of : (t front : List ℕ) (e : MalformedPrefix) → IsMalformedFront t front → byte_len front ≡ e.len → 0 < e.len → IsRefused literal_parse front e.error → IsMalformed t e
malformed_of t front e is len some refused = grind arith

-- the error of the literal, valid or malformed, at the front
pub front_refused : (bs front rest : List ℕ) (n : ℕ) (e : ParseError) → IsUtf8 bs → front ≡ take n bs → rest ≡ drop n bs → length front ≡ n → IsLiteralLen bs n ⊎ IsMalformedLen bs n →
    IsRefusedOrOutOfMemory literal_parse (chars front) e → IsMalformedOrOutOfMemory (chars bs) (record { error = e; len = n })
front_refused bs front rest n e u before after size (inl is) (inl none) =
    absurd (none.none is.literal (piece_is bs front n is.literal (chars (drop n bs)) u before (is.boundary, refl) is.at_front))
front_refused bs front rest n e u before after size (inl is) (inr memory) = inr (record {
  front = chars front;
  rest = chars rest;
  spells = parts_spell bs front rest n u is.boundary before after;
  len = piece_len bs front n u is.boundary before size;
  refused = memory;
  prefix = front_found bs front rest n memory.derivation u before after (inl is) memory.literal;
})
front_refused bs front rest n e u before after size (inr is) (inr memory) = absurd (is.front.invalid memory.derivation (rw before at memory.literal))
front_refused bs front rest n e u before after size (inr is) (inl refused) =
    inl (malformed_of (chars bs) (chars front) _ (rw before is.front) (piece_len bs front n u is.boundary before size) is.some refused)

-- the offset by which the spans of an error are moved fits, if it is within the source text
pub malformed_moves : (bs : List ℕ) (e : MalformedPrefix) (offset : ℕ) → IsUtf8 bs → offset + length bs < 2 ^ 64 → IsMalformedOrOutOfMemory (chars bs) e → MovesWithin offset e.error
malformed_moves bs e offset u small (inl is) =
    let cut = cut_at bs is.front is.rest u (sym is.spells) in
    let front = front_is bs (byte_len is.front) is.front is.rest u cut.boundary cut.rest is.spells in
    let utf8 = IsUtf8-take bs (byte_len is.front) u cut.boundary in
    refusal_moves literal_parse (take (byte_len is.front) bs) e.error offset utf8 (omega (arith, length-take {A = ℕ})) (rw front is.refused)
malformed_moves bs e offset u small (inr is) = λ x same. let none : span_of e.error ≡ None = ap (λ (r : Refusal). r.span) is.refused.error in cc

-- no literal is empty, so that none ends where the text begins
pub no_empty_piece : (bs : List ℕ) (d : Derivation) (r : List ℕ) → HasPrefix (chars bs) d r → EndsBefore bs r 0 → ⊥
no_empty_piece bs d r at place = no_literal d (rw (append_cancel_right at.front [] r (at.spells ∙ place.1)) at at.literal)

-- a text that ends with a period, in bytes and in characters
pub period_bytes : (bs front : List ℕ) → IsUtf8 bs → front ++ 46 ∷ [] ≡ chars bs → encode_utf8_all front ++ 46 ∷ [] ≡ bs
period_bytes bs front u is =
    rw (← encodes-chars bs u, ← is, encodes-append front (46 ∷ []), encodes-IsAscii (46 ∷ []) (ascii_by_test (46 ∷ []) refl)) refl

-- the text before the period, in bytes, is the integer
pub period_after : (bs front : List ℕ) (n : ℕ) → IsUtf8 bs → front ≡ take (length bs - n) bs → n ≡ 1 → bs ≡ take (length bs - n) bs ++ 46 ∷ [] → IsCharBoundary bs (length bs - 1) →
    IsIntegerAndPeriod (chars bs) ↔ IsBareInteger (chars front)
period_after bs front n u before one is bound =
    let text : IsUtf8 front = rw (before, one) (IsUtf8-take bs (length bs - 1) u bound) in
    let spells : chars front ++ 46 ∷ [] ≡ chars bs = cc (chars-append front (46 ∷ []) text, chars-IsAscii (46 ∷ []) (ascii_by_test (46 ∷ []) refl)) in
    (λ integer. subst IsBareInteger (append_cancel_right integer.0 (chars front) (46 ∷ []) (integer.2 ∙ sym spells)) integer.1, λ bare. (chars front, bare, spells))

-- a text without characters has no bytes
pub no_bytes : (bs : List ℕ) → IsUtf8 bs → chars bs ≡ [] → length bs ≡ 0
no_bytes bs u none = ap length (sym (encodes-chars bs u) ∙ ap encode_utf8_all none)

-- a malformed prefix ends at a character
pub malformed_boundary : (bs : List ℕ) (e : MalformedPrefix) → IsUtf8 bs → IsMalformed (chars bs) e → IsCharBoundary bs e.len
malformed_boundary bs e u is = rw (← is.len) (cut_at bs is.front is.rest u (sym is.spells)).boundary

-- the piece that is one character longer than a literal
pub piece_next : (bs : List ℕ) (start n : ℕ) (d : Derivation) → IsUtf8 bs → IsCharBoundary bs start → IsCharBoundary bs n → chars (drop n bs) ≡ drop 1 (chars (drop start bs)) →
    IsPiece (chars bs) (chars (take start bs)) → IsLiteral (chars (take start bs)) d → IsPiece (chars bs) (chars (take n bs))
piece_next bs start n d u before after left is literal =
    go (chars (drop start bs)) left (parts_spell bs (take start bs) (drop start bs) start u before refl refl)
  where
    front : List ℕ
    front = chars (take start bs)

    go : (r : List ℕ) → chars (drop n bs) ≡ drop 1 r → front ++ r ≡ chars bs → IsPiece (chars bs) (chars (take n bs))
    go [] end old = rw (front_is bs n front [] u after end old) is
    go (c ∷ r) end old = rw (front_is bs n (front ++ c ∷ []) r u after end (append_assoc front (c ∷ []) r ∙ old)) (piece_longer (chars bs) front c d is literal)

-- a text is left after a place before its end
pub bytes_left : (bs : List ℕ) (n : ℕ) → IsUtf8 bs → IsCharBoundary bs n → nat_eq n (length bs) ≡ false → is_empty (chars (drop n bs)) ≡ false
bytes_left bs n u at less = grind (arith, nat_tests, chars_empty (drop n bs) (IsUtf8-drop bs n u at), length-drop n bs)
