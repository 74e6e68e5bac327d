-- The bytes of characters that are written in turn, and their columns.
use Rattle.std.proofs.Common.{◌≡◌, ◌+◌, ℕ, true, List, [], ◌∷◌, ◌++◌, length, replicate, refl, sym, ap, ◌∙◌, append-nil, append_assoc, arith}
use Rattle.std.specs.List.{list_all}
use Rattle.std.specs.Char.{encode_utf8}
use Rattle.std.specs.Prelude.{String, string_bytes}
use Rattle.std.specs.Str.{chars, encode_utf8_all}
use Rattle.std.proofs.lemmas.List.{replicate-append-replicate}
use Rattle.std.proofs.lemmas.List.Concat.{flat_map-append}
use Rattle.std.proofs.lemmas.List.Sums.{sum_by-append}
use Rattle.std.proofs.lemmas.Str.{encodes-append, encodes-chars, encodes_same, IsUtf8-string_bytes}
use Rattle.litrs_diagnostic.specs.Shown.{char_columns, columns, is_plain, shown, shown_char}
use Rattle.litrs_diagnostic.proofs.PlainText.{plain_bytes, plain_columns}

pub encodes_more : (cs : List ℕ) (c : ℕ) → encode_utf8_all cs ++ encode_utf8 c
    ≡ encode_utf8_all (cs ++ c ∷ [])
encodes_more cs c =
    ap (λ (l : List ℕ). encode_utf8_all cs ++ l) (sym (append-nil (encode_utf8 c)))
    ∙ sym (encodes-append cs (c ∷ []))

-- one more character is shown, and printable ASCII after it
pub shown_more : (cs plain : List ℕ) (c : ℕ) → list_all is_plain plain ≡ true →
    (encode_utf8_all (shown cs) ++ encode_utf8_all (shown_char c)) ++ plain
    ≡ encode_utf8_all (shown (cs ++ c ∷ plain))
shown_more cs plain c all =
    ap (λ (l : List ℕ). (encode_utf8_all (shown cs) ++ encode_utf8_all (shown_char c)) ++ l)
    (plain_bytes plain all)
    ∙ (append_assoc (encode_utf8_all (shown cs)) (encode_utf8_all (shown_char c))
    (encode_utf8_all (shown plain))
    ∙ (ap (λ (l : List ℕ). encode_utf8_all (shown cs) ++ l)
    (sym (encodes-append (shown_char c) (shown plain)))
    ∙ (sym (encodes-append (shown cs) (shown_char c ++ shown plain))
    ∙ ap encode_utf8_all (sym (flat_map-append shown_char cs (c ∷ plain))))))

pub columns_more : (cs : List ℕ) (c : ℕ) → columns (shown (cs ++ c ∷ []))
    ≡ columns (shown cs) + columns (shown_char c)
columns_more cs c =
    ap columns (flat_map-append shown_char cs (c ∷ [])
    ∙ ap (λ (l : List ℕ). shown cs ++ l) (append-nil (shown_char c)))
    ∙ sum_by-append char_columns (shown cs) (shown_char c)

columns_all : (cs plain : List ℕ) (c : ℕ) → list_all is_plain plain ≡ true →
    columns (shown (cs ++ c ∷ plain))
    ≡ columns (shown cs) + columns (shown_char c) + length plain
columns_all cs plain c all =
    let parts = sum_by-append char_columns (shown cs) (shown_char c ++ shown plain) in
    let last = sum_by-append char_columns (shown_char c) (shown plain) in
    let wide = plain_columns plain all in
    ap columns (flat_map-append shown_char cs (c ∷ plain)) ∙ (omega (arith, parts, last, wide))

-- the same character, some times and then more times
pub times_more : (m n all mark : ℕ) → m + n ≡ all →
    encode_utf8_all (replicate m mark) ++ encode_utf8_all (replicate n mark)
    ≡ encode_utf8_all (replicate all mark)
times_more m n all mark is =
    sym (encodes-append (replicate m mark) (replicate n mark))
    ∙ ap encode_utf8_all (replicate-append-replicate m n mark
    ∙ ap (λ (k : ℕ). replicate k mark) is)

-- marks below one more character, and below printable ASCII after it
pub below_more : (cs plain : List ℕ) (c width mark : ℕ) → list_all is_plain plain ≡ true →
    width ≡ columns (shown_char c) →
    (encode_utf8_all (replicate (columns (shown cs)) mark)
    ++ encode_utf8_all (replicate width mark))
    ++ encode_utf8_all (replicate (length plain) mark)
    ≡ encode_utf8_all (replicate (columns (shown (cs ++ c ∷ plain))) mark)
below_more cs plain c width mark all is =
    let more = columns_all cs plain c all in
    ap (λ (l : List ℕ). l ++ encode_utf8_all (replicate (length plain) mark))
    (times_more (columns (shown cs)) width (columns (shown cs) + width) mark refl)
    ∙ times_more (columns (shown cs) + width) (length plain)
    (columns (shown (cs ++ c ∷ plain))) mark (omega (arith, more, is))

-- a part of a text, and what follows it
pub parts_more : (text done plain rest next : List ℕ) (c : ℕ) (more : List ℕ) →
    text ≡ done ++ rest → rest ≡ c ∷ more → more ≡ plain ++ next →
    text ≡ (done ++ c ∷ plain) ++ next
parts_more text done plain rest next c more is first then =
    is ∙ (ap (λ (l : List ℕ). done ++ l) (first ∙ ap (λ (l : List ℕ). c ∷ l) then)
    ∙ sym (append_assoc done (c ∷ plain) next))

-- the characters of a string whose bytes are those of a text
pub written_characters : {Z : Type 0} (s : String Z) (t : List ℕ) →
    string_bytes s ≡ encode_utf8_all t → chars (string_bytes s) ≡ t
written_characters s t e = encodes_same (chars (string_bytes s)) t
    (encodes-chars (string_bytes s) (IsUtf8-string_bytes s) ∙ e)
