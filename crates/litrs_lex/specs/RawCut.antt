-- The places at which a raw string is cut, in bytes.
use Rattle.std.specs.Prelude.{◌≡◌, ℕ, ◌+◌, ◌-◌, ◌≤◌, Bool, false, not, List, ◌∷◌, ◌++◌, length, take, slice_range, drop, Some, None, IfSome, IsTrue, IsFalse}
use Rattle.std.specs.List.{list_all}
use Rattle.std.specs.Str.{chars, IsUtf8, IsCharBoundary}
use Rattle.litrs_base.specs.declared.err.ParseError.{ParseError}
use Rattle.litrs_base.specs.CharEnd.{PointsAtCharacters}
use Rattle.litrs_base.specs.Derivations.{IsOnlyDerivation, HasNoDerivation}
use Rattle.litrs_base.specs.Finality.{is_final, is_open}
use Rattle.litrs_base.specs.Refusal.{refusal_of, kind_of, char_span_of, IsInText, HasCharSpan}
use Rattle.litrs_base.specs.Characters.{double_quote}
use Rattle.litrs_base.specs.Text.{first_passes}
use Rattle.litrs_lex.specs.declared.search.Special.{Special}
use Rattle.litrs_lex.specs.Special.{is_ordinary}
use Rattle.litrs_grammar.specs.LongerTexts.{EndsBy}
use Rattle.litrs_grammar.specs.GoesOn.Raw.{raw_open_parts}
use Rattle.litrs_grammar.specs.Laws.Raw.{NoClosingIn}
use Rattle.litrs_grammar.specs.Laws.RawScan.{ScanStays}
use Rattle.litrs_grammar.specs.Raw.{RawParts, IsRawOf, is_raw_char, hash_len, raw_closing, length_before, raw_refusal, raw_body_refusal}

-- The parts of a cut of the text with these bytes, after the offset, by the number of hashes and
-- the start of the suffix.
abbrev pub raw_parts_at : (offset : ℕ) → List ℕ → ℕ × ℕ → RawParts
raw_parts_at offset bytes cut = record {
  hash_count = cut.0;
  body = chars (slice_range bytes (offset + (cut.0 + 1)) (cut.1 - (cut.0 + 1)));
  suffix = chars (drop cut.1 bytes);
}

-- The text after the offset completes a raw literal, with only these parts. The places are in order
-- and character boundaries of the text. Every longer text has the same hashes and the same first
-- closing.
pub record IsRawCut (unicode allow_nul : Bool) (offset : ℕ) (bytes : List ℕ) (cut : ℕ × ℕ) :
    Type 0 where
  pub only : IsOnlyDerivation (IsRawOf unicode allow_nul (chars (drop offset bytes)))
      (raw_parts_at offset bytes cut)
  pub in_order : offset + (cut.0 + 1) ≤ cut.1 - (cut.0 + 1)
  pub start : IsCharBoundary bytes (offset + (cut.0 + 1))
  pub end : IsCharBoundary bytes (cut.1 - (cut.0 + 1))
  pub suffix : IsCharBoundary bytes cut.1
  pub scan : ScanStays (chars (drop offset bytes))

-- The text after the offset is refused with the error:
-- - There is no derivation, and the table has the kind and the span of the error.
-- - Both spans count from the start of the whole text and lie within it, and the character span
--   starts and ends on character boundaries.
-- - Every longer text has the same hashes and the same first closing.
-- - If the kind is final, no longer text is such a literal, and the table has this kind and span
--   for each.
-- - If the kind is open, the closing with as many hashes makes the text one, with all of the text
--   after the opening quote as its body.
pub record IsRawRefused (unicode allow_nul : Bool) (offset : ℕ) (bytes : List ℕ) (e : ParseError) :
    Type 0 where
  pub none : HasNoDerivation (IsRawOf unicode allow_nul (chars (drop offset bytes)))
  pub table : raw_refusal unicode allow_nul offset (chars (drop offset bytes)) ≡ Some (refusal_of e)
  pub span : IsInText (chars bytes) (refusal_of e)
  pub char_span : HasCharSpan (chars bytes) e
  pub char_ends : IfSome (char_span_of e) (PointsAtCharacters (chars bytes))
  pub scan : ScanStays (chars (drop offset bytes))
  pub final : IsTrue (is_final (kind_of e)) →
      EndsBy (IsRawOf unicode allow_nul) (chars (drop offset bytes))
  pub stays : IsTrue (is_final (kind_of e)) → (more : List ℕ) →
      raw_refusal unicode allow_nul offset (chars (drop offset bytes) ++ more)
      ≡ Some (refusal_of e)
  pub closes : IsTrue (is_open (kind_of e)) →
      IsRawOf unicode allow_nul
      (chars (drop offset bytes) ++ raw_closing (hash_len (chars (drop offset bytes))))
      (raw_open_parts (chars (drop offset bytes)))

-- The offset is followed by these hashes, at most 255 and all that there are, and by `"`. The body
-- starts after it.
pub record IsRawOpening (offset : ℕ) (bytes : List ℕ) (opening : ℕ × ℕ) : Type 0 where
  pub count : opening.0 ≡ hash_len (drop offset bytes)
  pub few : opening.0 ≤ 255
  pub quote : drop (offset + opening.0) bytes ≡ double_quote ∷ drop opening.1 bytes
  pub start : opening.1 ≡ offset + opening.0 + 1
  pub boundary : IsCharBoundary bytes opening.1

-- The bytes beside `"` and CR at which a search in a raw body stops.
abbrev pub raw_special : (unicode allow_nul : Bool) → Special
raw_special unicode allow_nul =
    record { backslash = false; nul = not allow_nul; non_ascii = not unicode }

-- The characters of `t` before `rest` are allowed in a raw body, and no closing with `n` hashes
-- begins at one of them.
pub record IsPastBody (unicode allow_nul : Bool) (n : ℕ) (t rest : List ℕ) : Type 0 where
  pub front : List ℕ
  pub spells : front ++ rest ≡ t
  pub allowed : IsTrue (list_all (is_raw_char unicode allow_nul) front)
  pub unclosed : NoClosingIn n front rest

-- The search for the end of a raw body from `start` on stops at `place`: the text ends there, or
-- has a byte at which a search stops.
pub record IsStop (unicode allow_nul : Bool) (n start : ℕ) (bytes : List ℕ) (place : ℕ) :
    Type 0 where
  pub from : start ≤ place
  pub within : place ≤ length bytes
  pub utf8 : IsUtf8 (drop place bytes)
  pub passed : IsPastBody unicode allow_nul n (chars (drop start bytes)) (chars (drop place bytes))
  pub stops : IsFalse
      (first_passes (is_ordinary (raw_special unicode allow_nul)) (drop place bytes))

-- A raw body from `start` on and its closing end at `place`, where the suffix starts.
pub record IsBodyCut (unicode allow_nul : Bool) (n start : ℕ) (bytes : List ℕ) (place : ℕ) :
    Type 0 where
  pub free : raw_body_refusal unicode allow_nul n start (chars (drop start bytes)) ≡ None
  pub body : take (length_before (raw_closing n) (chars (drop start bytes)))
      (chars (drop start bytes)) ≡ chars (slice_range bytes start (place - (n + 1)))
  pub suffix : drop (length_before (raw_closing n) (chars (drop start bytes)) + (1 + n))
      (chars (drop start bytes)) ≡ chars (drop place bytes)
  pub in_order : start + (n + 1) ≤ place
  pub body_end : IsCharBoundary bytes (place - (n + 1))
  pub suffix_start : IsCharBoundary bytes place
