-- Chars, bytes and strings, and the rest before which they end.
use Rattle.litrs_prefix.proofs.Words.{◌≡◌, ℕ, List, ◌∷◌, ◌++◌, sym, ap, ◌∙◌, append_assoc}
use Rattle.litrs_prefix.specs.Words.{char_front, raw_front, char_item_text, IsCharLiteral, RawParts, IsRawLiteral, raw_closing, hashes, Switches, IsQuoted, CharKind, StringKind, CharParts, QuotedParts, body_text}

pub longer_char : (kind : CharKind) (s r : List ℕ) (d : CharParts) → IsCharLiteral kind s d →
    s ++ r ≡ char_front kind ++ (char_item_text d.item ++ 39 ∷ (d.suffix ++ r))
longer_char kind s r d h = ap (λ (l : List ℕ). l ++ r) (sym h.spells) ∙ simp append_assoc

-- raw literals

pub longer_raw : (kind : StringKind) (s r : List ℕ) (d : RawParts) → IsRawLiteral kind s d →
    s ++ r ≡ raw_front kind ++ (hashes d.hash_count ++ (34 ∷ (d.body ++ (raw_closing d.hash_count ++ (d.suffix ++ r)))))
longer_raw kind s r d h = ap (λ (l : List ℕ). l ++ r) (sym h.spells) ∙ simp append_assoc

-- the longer text that begins with it
pub longer : (front : List ℕ) (w : Switches) (s r : List ℕ) (p : QuotedParts) → IsQuoted front w s p →
    s ++ r ≡ front ++ (body_text p.items ++ 34 ∷ (p.suffix ++ r))
longer front w s r p h = ap (λ (l : List ℕ). l ++ r) (sym h.spells) ∙ simp append_assoc
