-- A text is cut where its characters are.
use Rattle.std.proofs.Common.{◌≡◌, ℕ, ◌+◌, ◌≤◌, List, [], ◌∷◌, ◌++◌, length, drop, refl, sym, ap, ◌∙◌, subst, arith, append_assoc, length-append}
use Rattle.std.specs.Prelude.{encode_utf8, encode_utf8_all}
use Rattle.std.specs.Str.{chars, IsUtf8, IsCharBoundary}
use Rattle.std.proofs.lemmas.Str.{chars_from_encodes, encodes-chars, encodes-append, IsCharBoundary-from_drop, IsUtf8-past_char}
use Rattle.std.proofs.Math.Seq.{drop-append_seam}
use Rattle.litrs_base.specs.Text.{byte_len}

pub record IsCut (bytes a b : List ℕ) : Type 0 where
  pub rest : chars (drop (byte_len a) bytes) ≡ b
  pub utf8 : IsUtf8 (drop (byte_len a) bytes)
  pub within : byte_len a ≤ length bytes
  pub boundary : IsCharBoundary bytes (byte_len a)

utf8_after : (run bs rest : List ℕ) → IsUtf8 bs → bs ≡ encode_utf8_all run ++ rest → IsUtf8 rest
utf8_after [] bs rest u same = subst (λ (l : List ℕ). IsUtf8 l) same u
utf8_after (c ∷ run) bs rest u same =
    let split : bs ≡ encode_utf8 c ++ (encode_utf8_all run ++ rest) = same ∙ append_assoc (encode_utf8 c) (encode_utf8_all run) rest in
    utf8_after run (encode_utf8_all run ++ rest) rest (IsUtf8-past_char bs (encode_utf8_all run ++ rest) c u split) refl

pub cut_at : (bytes a b : List ℕ) → IsUtf8 bytes → chars bytes ≡ a ++ b → IsCut bytes a b
cut_at bytes a b u split =
    let both : bytes ≡ encode_utf8_all a ++ encode_utf8_all b = sym (encodes-chars bytes u) ∙ (ap encode_utf8_all split ∙ encodes-append a b) in
    let after : drop (byte_len a) bytes ≡ encode_utf8_all b = ap (drop (byte_len a)) both ∙ drop-append_seam (encode_utf8_all a) (encode_utf8_all b) in
    let text : IsUtf8 (drop (byte_len a) bytes) = utf8_after a bytes _ u (both ∙ ap (λ l. encode_utf8_all a ++ l) (sym after)) in
    let size : length bytes ≡ byte_len a + byte_len b = ap length both ∙ length-append (encode_utf8_all a) (encode_utf8_all b) in
    let fits : byte_len a ≤ length bytes = omega arith in record {
      rest = sym (chars_from_encodes b _ text (sym after));
      utf8 = text;
      within = fits;
      boundary = IsCharBoundary-from_drop bytes (byte_len a) fits text;
    }

-- a text takes as many bytes as its characters
pub byte_len-all : (r : List ℕ) → IsUtf8 r → byte_len (chars r) ≡ length r
byte_len-all r u = ap length (encodes-chars r u)
