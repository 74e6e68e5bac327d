-- Ends of texts, in bytes.
use Rattle.std.proofs.Common.{◌≡◌, ℕ, ◌+◌, ◌-◌, ◌<◌, ◌≤◌, List, [], ◌++◌, length, take, drop, refl, sym, ap, subst, ◌∙◌, append_assoc, append-nil, length-append, arith}
use Rattle.litrs_prefix.specs.Words.{encode_utf8, encode_utf8_all, chars, IsUtf8, IsCharBoundary, IsEndOf}
use Rattle.std.proofs.lemmas.List.{append_cancel_right, drop_at, take-append-drop}
use Rattle.std.proofs.lemmas.Str.{chars-append, encodes-append, encodes-chars, length-encode, len_utf8_bounds, IsCharBoundary-from_drop, IsUtf8-take}

pub all : (t : List ℕ) → IsEndOf t t
all t = ([], refl)

pub nothing : (t : List ℕ) → IsEndOf t []
nothing t = (t, append-nil t)

pub end_of_end : (t x y : List ℕ) → IsEndOf t x → IsEndOf x y → IsEndOf t y
end_of_end t x y h g = (h.0 ++ g.0, append_assoc h.0 g.0 y ∙ (ap (λ (l : List ℕ). h.0 ++ l) g.1 ∙ h.1))

pub after_first : (t x after : List ℕ) (c : ℕ) → IsEndOf t x → x ≡ encode_utf8 c ++ after → IsEndOf t after
after_first t x after c h is = end_of_end t x after h (encode_utf8 c, sym is)

pub after_bytes : (t rest : List ℕ) (n : ℕ) → rest ≡ drop n t → IsEndOf t rest
after_bytes t rest n is = (take n t, ap (λ (l : List ℕ). take n t ++ l) is ∙ take-append-drop n t)

pub shorter : (bs : List ℕ) (c : ℕ) (after : List ℕ) → bs ≡ encode_utf8 c ++ after → length after < length bs
shorter bs c after is = grind (arith, length-append, len_utf8_bounds, length-encode)

pub not_longer : (t x : List ℕ) → IsEndOf t x → length x ≤ length t
not_longer t x h = grind (arith, length-append)

-- the place at which the end of a text begins
pub end_at : (bs front after : List ℕ) → IsUtf8 after → front ++ after ≡ bs → IsCharBoundary bs (length bs - length after) × (drop (length bs - length after) bs ≡ after)
end_at bs front after u is =
    let size : length bs ≡ length front + length after = ap length (sym is) ∙ length-append front after in
    let place : length bs - length after ≡ length front = omega arith in
    let left : drop (length bs - length after) bs ≡ after = ap (drop (length bs - length after)) (sym is) ∙ drop_at front after (length bs - length after) (sym place) in
    (IsCharBoundary-from_drop bs (length bs - length after) (omega arith) (subst (λ (l : List ℕ). IsUtf8 l) (sym left) u), left)

-- the end that these characters are, in bytes
pub bytes_spell : (bs rest front : List ℕ) → IsUtf8 bs → IsUtf8 rest → front ++ chars rest ≡ chars bs → encode_utf8_all front ++ rest ≡ bs
bytes_spell bs rest front u v is =
    ap (λ (l : List ℕ). encode_utf8_all front ++ l) (sym (encodes-chars rest v))
    ∙ (sym (encodes-append front (chars rest)) ∙ (ap encode_utf8_all is ∙ encodes-chars bs u))

pub end_boundary : (t rest : List ℕ) → IsUtf8 rest → IsEndOf t rest → IsCharBoundary t (length t - length rest)
end_boundary t rest u h = (end_at t h.0 rest u h.1).0

-- the front of a text, by what follows it
pub front_is : (bs : List ℕ) (n : ℕ) (l r : List ℕ) → IsUtf8 bs → IsCharBoundary bs n → chars (drop n bs) ≡ r → l ++ r ≡ chars bs → chars (take n bs) ≡ l
front_is bs n l r u bound is spells =
    let utf8 : IsUtf8 (take n bs) = IsUtf8-take bs n u bound in
    append_cancel_right (chars (take n bs)) l r
    (ap (λ (x : List ℕ). chars (take n bs) ++ x) (sym is) ∙ (sym (chars-append (take n bs) (drop n bs) utf8) ∙ (ap chars (take-append-drop n bs) ∙ sym spells)))
