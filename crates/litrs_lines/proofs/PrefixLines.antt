-- A literal at the front of lines ends in the last of them.
use Rattle.std.proofs.Common.{◌≡◌, ◌∙◌, ◌⊎◌, inl, inr, ℕ, List, [], ◌∷◌, ◌++◌, refl, sym, ap, subst, append_assoc, length, drop, ◌-◌, ◌≤◌}
use Rattle.std.specs.Str.{chars, IsUtf8, IsCharBoundary}
use Rattle.std.proofs.Math.Utf8.{encodes}
use Rattle.std.proofs.lemmas.List.{append_cancel_right}
use Rattle.std.proofs.lemmas.Str.{chars-append, encodes-append, encodes-chars}
use Rattle.litrs_grammar.specs.Literal.{Derivation, a_bool, an_integer, a_float, a_char, a_byte, a_string, a_byte_string, a_c_string, IsLiteral}
use Rattle.litrs_grammar.specs.Quoted.{without_last}
use Rattle.litrs_prefix.specs.Ends.{IsEndOf}
use Rattle.litrs_prefix.specs.Prefix.{HasPrefix, may_follow}
use Rattle.litrs_prefix.proofs.Ends.{end_at, not_longer}
use Rattle.litrs_prefix.proofs.LongerTexts.{whole}
use Rattle.litrs_prefix.proofs.Unique.{unique}
use Rattle.litrs_lines.specs.Held.{IsHeld}
use Rattle.litrs_lines.specs.PrefixSteps.{IsAfterLiteral}
use Rattle.litrs_lines.specs.Steps.{BeginsByLine}
use Rattle.litrs_prefix.proofs.PieceLaws.{no_end}
use Rattle.litrs_lines.proofs.StepLemmas.{chars-line_feed, lines_are_utf8}

-- the text after an LF does not decide whether the text before it may follow a literal
follows_to_line_feed : (d : Derivation) (s x y : List ℕ) → may_follow d (s ++ 10 ∷ x) ≡ may_follow d (s ++ 10 ∷ y)
follows_to_line_feed (a_bool b) [] x y = refl
follows_to_line_feed (a_bool b) (c ∷ s) x y = refl
follows_to_line_feed (an_integer d) [] x y = refl
follows_to_line_feed (an_integer d) (c ∷ []) x y = refl
follows_to_line_feed (an_integer d) (c ∷ e ∷ s) x y = refl
follows_to_line_feed (a_float d) [] x y = refl
follows_to_line_feed (a_float d) (c ∷ s) x y = refl
follows_to_line_feed (a_char d) [] x y = refl
follows_to_line_feed (a_char d) (c ∷ s) x y = refl
follows_to_line_feed (a_byte d) [] x y = refl
follows_to_line_feed (a_byte d) (c ∷ s) x y = refl
follows_to_line_feed (a_string d) [] x y = refl
follows_to_line_feed (a_string d) (c ∷ s) x y = refl
follows_to_line_feed (a_byte_string d) [] x y = refl
follows_to_line_feed (a_byte_string d) (c ∷ s) x y = refl
follows_to_line_feed (a_c_string d) [] x y = refl
follows_to_line_feed (a_c_string d) (c ∷ s) x y = refl

-- a text that is cut in two ways: the second rest ends the first, or it begins before the character
two_cuts : (u v w z : List ℕ) (c : ℕ) → u ++ v ≡ w ++ c ∷ z → ((p : List ℕ) × (p ++ v ≡ z)) ⊎ ((s : List ℕ) × (u ++ s ≡ w) × (v ≡ s ++ c ∷ z))
two_cuts [] v w z c is = inr (w, refl, is)
two_cuts (a ∷ u) v [] z c is = inl (u, ap (drop 1) is)
two_cuts (a ∷ u) v (b ∷ w) z c is =
    let same : a ≡ b = cc in
    elim (two_cuts u v w z c (ap (drop 1) is)) [
      | inl p ↦ inl p
      | inr s ↦ inr (s.0, ap (λ (l : List ℕ). a ∷ l) s.1 ∙ ap (λ (n : ℕ). n ∷ w) same, s.2)
    ]

-- a literal at the front of lines does not end before the last LF, if they begin a longer one
ends_after : (t s more : List ℕ) (d : Derivation) → BeginsByLine t → HasPrefix (chars t ++ 10 ∷ more) d (s ++ 10 ∷ more) → ⊥
ends_after t s more d begins at =
    let longer : List ℕ = chars t ++ 10 ∷ begins.0 in
    let literal = subst (λ (x : List ℕ). IsLiteral x begins.1) (append_assoc (chars t) (10 ∷ []) begins.0) begins.3 in
    let lines : at.front ++ s ≡ chars t = append_cancel_right (at.front ++ s) (chars t) (10 ∷ more) (append_assoc at.front s (10 ∷ more) ∙ at.spells) in
    let part : HasPrefix longer d (s ++ 10 ∷ begins.0) = record {
      front = at.front;
      spells = sym (append_assoc at.front s (10 ∷ begins.0)) ∙ ap (λ (x : List ℕ). x ++ 10 ∷ begins.0) lines;
      literal = at.literal;
      follows = follows_to_line_feed d s begins.0 more ∙ at.follows;
    } in
    no_end s 10 begins.0 (unique longer d begins.1 (s ++ 10 ∷ begins.0) [] part (whole longer begins.1 literal)).1

-- the end of a text, by its characters
end_by_chars : (line rest front : List ℕ) → IsUtf8 line → IsUtf8 rest → front ++ chars rest ≡ chars line → IsEndOf line rest
end_by_chars line rest front u v is =
    (encodes front, ap (λ (x : List ℕ). encodes front ++ x) (sym (encodes-chars rest v)) ∙ (sym (encodes-append front (chars rest)) ∙ (ap encodes is ∙ encodes-chars line u)))

-- likewise after lines that are held
end_after_lines : (t held line rest : List ℕ) (d : Derivation) → t ++ 10 ∷ [] ≡ held → IsUtf8 t → IsUtf8 held → IsUtf8 line → IsUtf8 rest → BeginsByLine t →
    HasPrefix (chars (held ++ line)) d (chars rest) → IsEndOf line rest
end_after_lines t held line rest d is ut uh ul ur begins at =
    let all : chars (held ++ line) ≡ chars t ++ 10 ∷ chars line =
    chars-append held line uh ∙ (ap (λ (x : List ℕ). x ++ chars line) (ap chars (sym is) ∙ chars-line_feed t ut) ∙ append_assoc (chars t) (10 ∷ []) (chars line)) in
    elim (two_cuts at.front (chars rest) (chars t) (chars line) 10 (at.spells ∙ all)) [
      | inl p ↦ end_by_chars line rest p.0 ul ur p.1
      | inr s ↦ absurd (ends_after t s.0 (chars line) d begins (subst (λ (x : List ℕ). HasPrefix (chars t ++ 10 ∷ chars line) d x) s.2 (subst (λ (x : List ℕ). HasPrefix x d (chars rest)) all at)))
    ]

-- the rest after the literal is the end of the line that was added to what is held
pub ends_in_line : (held line rest : List ℕ) (d : Derivation) → IsHeld held → IsUtf8 held → IsUtf8 line → IsUtf8 rest → HasPrefix (chars (held ++ line)) d (chars rest) → IsEndOf line rest
ends_in_line [] line rest d is uh ul ur at = end_by_chars line rest at.front ul ur at.spells
ends_in_line (c ∷ held) line rest d is uh ul ur at =
    let lines = is (λ none. cc) in
    end_after_lines (without_last (c ∷ held)) (c ∷ held) line rest d lines.0 (lines_are_utf8 (c ∷ held) is uh (λ none. cc)) uh ul ur lines.1.1 at

-- the line is cut before the rest
pub cut_before_rest : (line rest : List ℕ) → IsAfterLiteral line rest → IsUtf8 line → IsUtf8 rest →
    (length rest ≤ length line) × IsCharBoundary line (length line - length rest) × (drop (length line - length rest) line ≡ rest)
cut_before_rest line rest after ul ur =
    let held = after.2 in
    let end = ends_in_line held.0 line rest after.1 held.1 held.2 ul ur (subst (λ (x : List ℕ). HasPrefix (chars x) after.1 (chars rest)) (sym held.3) after.3) in
    let cut = end_at line end.0 rest ur end.1 in
    (not_longer line rest end, cut.0, cut.1)
