-- The fields of errors at the front of a longer text, read by name: each line fails if the
-- definition says less.
use Rattle.std.specs.Prelude.{◌≡◌, ◌<◌, ◌+◌, ℕ, List, ◌++◌, IsTrue}
use Rattle.litrs_base.specs.CharEnd.{IsCutBy}
use Rattle.litrs_base.specs.Refusal.{refusal_of, char_span_of, shifted, shifted_span}
use Rattle.litrs_base.specs.Text.{byte_len}
use Rattle.litrs_grammar.specs.Literal.{literal_parse}
use Rattle.litrs_grammar.specs.Refused.{IsRefused, IsOutOfMemory}
use Rattle.litrs_prefix.specs.declared.MalformedPrefix.{MalformedPrefix}
use Rattle.litrs_prefix.specs.Malformed.{IsMalformed, IsOutOfMemoryAt, IsMalformedOrOutOfMemory, IsMovedBy, marked_at, IsMarkedAt}
use Rattle.litrs_prefix.specs.Piece.{IsPiece}
use Rattle.litrs_prefix.specs.Opens.{opens}
use Rattle.litrs_prefix.specs.Prefix.{HasPrefix, HasNoPrefix}

-- the malformed prefix, which has a byte or more, and its refusal
malformed_front :
    (t : List ℕ) (e : MalformedPrefix) (is : IsMalformed t e) →
    (is.front ++ is.rest ≡ t) × (byte_len is.front ≡ e.len) × (0 < e.len)
    × IsPiece t is.front × IsRefused literal_parse is.front e.error
malformed_front t e is = (is.spells, is.len, is.some, is.is_piece, is.refused)

-- a literal opens, and none begins the text
malformed_text : (t : List ℕ) (e : MalformedPrefix) → IsMalformed t e → IsTrue (opens t) × HasNoPrefix t
malformed_text t e is = (is.opens, is.none)

-- the front whose value has no memory, which is the literal at the front of the text
out_of_memory_front :
    (t : List ℕ) (e : MalformedPrefix) (is : IsOutOfMemoryAt t e) →
    (is.front ++ is.rest ≡ t) × (byte_len is.front ≡ e.len) × IsOutOfMemory literal_parse is.front e.error × HasPrefix t is.refused.derivation is.rest
out_of_memory_front t e is = (is.spells, is.len, is.refused, is.prefix)

-- the error of the text alone, with both spans moved
moved :
    (start : ℕ) (t : List ℕ) (e : MalformedPrefix) (is : IsMovedBy start t e) →
    IsMalformedOrOutOfMemory t is.of_text × (e.len ≡ is.of_text.len)
    × (refusal_of e.error ≡ shifted start (refusal_of is.of_text.error))
    × (char_span_of e.error ≡ shifted_span start (char_span_of is.of_text.error))
moved start t e is = (is.malformed, is.len, is.refusal, is.char_span)

-- the source can be cut at both ends of the malformed prefix, and of what is marked
marked :
    (start : ℕ) (bs : List ℕ) (e : MalformedPrefix) (is : IsMarkedAt start bs e) →
    IsCutBy bs (record { start = start; end = start + e.len }) × IsCutBy bs (marked_at start e)
marked start bs e is = is
