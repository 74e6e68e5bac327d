-- Laws of the search for the parts of a raw literal: the hashes, the first closing, and the first
-- character that is not allowed in the body. Every longer text has the same parts.
use Rattle.std.specs.Prelude.{◌≡◌, ℕ, ◌+◌, Bool, List, ◌∷◌, ◌++◌, length, drop, Some, IsTrue, IsFalse}
use Rattle.std.specs.List.{list_any}
use Rattle.litrs_base.specs.Characters.{double_quote}
use Rattle.litrs_base.specs.Finality.{is_final}
use Rattle.litrs_base.specs.Refusal.{Refusal, at_byte}
use Rattle.litrs_base.specs.Text.{is_empty, byte_len, begins_with}
use Rattle.litrs_grammar.specs.Raw.{is_quote, hashes, raw_closing, occurs, is_raw_char, IsRawBody, hash_len, length_before, raw_char_kind, raw_body_refusal, raw_refusal}

-- Every longer text has the same number of hashes at its front, if any character follows them.
abbrev pub HashCountsStay : Type 0
HashCountsStay = (t more : List ℕ) →
    IsFalse (is_empty (drop (hash_len t) t)) → hash_len (t ++ more) ≡ hash_len t

-- Every longer text has the same first closing.
abbrev pub FirstClosingsStay : Type 0
FirstClosingsStay = (n : ℕ) (t more : List ℕ) → IsTrue (occurs (raw_closing n) t) →
    length_before (raw_closing n) (t ++ more) ≡ length_before (raw_closing n) t

-- Every longer text has the same number of hashes, if any character follows them, and the same
-- first closing after the hashes and the quote.
pub record ScanStays (t : List ℕ) : Type 0 where
  pub hashes : (more : List ℕ) → IsFalse (is_empty (drop (hash_len t) t)) →
      hash_len (t ++ more) ≡ hash_len t
  pub closing : (more : List ℕ) →
      IsTrue (occurs (raw_closing (hash_len t)) (drop (hash_len t + 1) t)) →
      length_before (raw_closing (hash_len t)) (drop (hash_len t + 1) (t ++ more))
      ≡ length_before (raw_closing (hash_len t)) (drop (hash_len t + 1) t)

-- This holds for every text.
abbrev pub RawScansStay : Type 0
RawScansStay = (t : List ℕ) → ScanStays t

-- The first character that is not allowed in a body is refused, whatever follows it.
abbrev pub StoppedBodiesAreRefused : Type 0
StoppedBodiesAreRefused =
    (unicode allow_nul : Bool) (n start : ℕ) (front : List ℕ) (c : ℕ) (t : List ℕ) →
    IsRawBody unicode allow_nul n front → IsFalse (is_raw_char unicode allow_nul c) →
    raw_body_refusal unicode allow_nul n start (front ++ c ∷ t)
    ≡ Some (at_byte (start + byte_len front) (raw_char_kind c))

-- A text refused with a final kind is refused with the same kind and span whatever is appended.
abbrev pub FinalRawRefusalsStay : Type 0
FinalRawRefusalsStay = (unicode allow_nul : Bool) (start : ℕ) (t more : List ℕ) (r : Refusal) →
    raw_refusal unicode allow_nul start t ≡ Some r → IsTrue (is_final r.kind) →
    raw_refusal unicode allow_nul start (t ++ more) ≡ Some r

-- The search for the first closing skips characters that are not `"`.
abbrev pub ClosingsBeginAtQuotes : Type 0
ClosingsBeginAtQuotes = (n : ℕ) (front t : List ℕ) → IsFalse (list_any is_quote front) →
    (occurs (raw_closing n) (front ++ t) ≡ occurs (raw_closing n) t)
    × (length_before (raw_closing n) (front ++ t) ≡ length front + length_before (raw_closing n) t)

-- The first closing is at a `"` that is followed by as many hashes.
abbrev pub ClosingsAreFound : Type 0
ClosingsAreFound = (n : ℕ) (t : List ℕ) → IsTrue (begins_with (hashes n) t) →
    IsTrue (occurs (raw_closing n) (double_quote ∷ t))
    × (length_before (raw_closing n) (double_quote ∷ t) ≡ 0)

-- The search for the first closing skips a `"` that is followed by fewer hashes.
abbrev pub QuotesArePassed : Type 0
QuotesArePassed = (n : ℕ) (t : List ℕ) → IsFalse (begins_with (hashes n) t) →
    (occurs (raw_closing n) (double_quote ∷ t) ≡ occurs (raw_closing n) t)
    × (length_before (raw_closing n) (double_quote ∷ t) ≡ 1 + length_before (raw_closing n) t)
