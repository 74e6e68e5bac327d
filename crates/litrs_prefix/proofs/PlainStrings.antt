-- A string without a backslash at the front of a text.
use Rattle.litrs_prefix.proofs.Words.{◌≡◌, ℕ, suc, ◌+◌, true, false, not, List, [], ◌∷◌, None, length, drop, take, sym, ap, subst, ◌∙◌, arith, length-take-le, chars-nil, IsUtf8-take}
use Rattle.litrs_prefix.specs.Words.{chars, IsUtf8, IsCharBoundary, is_xid_continue, begins_with, first_passes, is_quote, HasPrefix, ends_suffix, IsOnlyDerivation, string_kind, StringParts, IsString, string_suffix, a_string, IsPlainString}
use Rattle.std.proofs.Math.Seq.{drop-length}
use Rattle.litrs_base.specs.Quotes.{string_switches}
use Rattle.litrs_lex.specs.QuotedCut.{IsQuotedValue}
use Rattle.litrs_lex.specs.QuotedItems.{IsPlainBody}
use Rattle.litrs_lex.proofs.PlainBodies.{plain_piece}
use Rattle.litrs_lex.proofs.QuotedBytes.{quote_byte, quote_boundary}
use Rattle.litrs.proofs.ParsedStrings.{plain_string}
use Rattle.litrs_prefix.proofs.Pieces.{parts_spell}
use Rattle.litrs_prefix.proofs.PlainLiterals.{no_start}

pub opening : (bs : List ℕ) → IsUtf8 bs → first_passes is_quote (chars bs) ≡ true → IsCharBoundary bs 1
opening bs u opens = quote_boundary bs u opens

-- the text up to the closing quote
pub piece : (bs : List ℕ) (quote : ℕ) → IsUtf8 bs → first_passes is_quote (chars bs) ≡ true → IsPlainBody string_switches bs 1 quote →
    IsCharBoundary bs (quote + 1) × IsPlainString (take (quote + 1) bs)
piece bs quote u opens body =
    let cut = plain_piece string_switches bs 1 quote u (opening bs u opens) body in
    let size : length (take (quote + 1) bs) ≡ quote + 1 = length-take-le (quote + 1) bs cut.0.0 in
    let more : quote + 1 ≡ suc quote = omega arith in (
      cut.0,
      record {
        quote = ap (λ (l : List ℕ). begins_with (34 ∷ []) (take (quote + 1) l)) (quote_byte bs u opens) ∙ ap (λ (n : ℕ). begins_with (34 ∷ []) (take n (34 ∷ drop 1 bs))) more;
        body = subst (λ (n : ℕ). IsQuotedValue string_switches (take (quote + 1) bs) 1 None n) (sym size) cut.1;
      },
    )

no_suffix : (bs : List ℕ) (d : StringParts) → IsUtf8 bs → IsPlainString bs → IsOnlyDerivation (IsString string_kind (chars bs)) d → string_suffix d ≡ []
no_suffix bs d u is only =
    let parsed = plain_string bs u is in
    ap string_suffix (sym (only.1 parsed.parts parsed.derives)) ∙ (sym parsed.at.suffix ∙ (ap chars (drop-length bs) ∙ chars-nil))

-- it is the literal at the front, before a rest that no name begins
pub found : (bs front rest : List ℕ) (n : ℕ) (d : StringParts) → IsUtf8 bs → IsCharBoundary bs n → front ≡ take n bs → rest ≡ drop n bs → IsPlainString (take n bs) →
    IsOnlyDerivation (IsString string_kind (chars front)) d → first_passes is_xid_continue (chars rest) ≡ false → HasPrefix (chars bs) (a_string d) (chars rest)
found bs front rest n d u bound before after is only ends =
    let text : IsUtf8 front = subst IsUtf8 (sym before) (IsUtf8-take bs n u bound) in
    let none : string_suffix d ≡ [] = no_suffix front d text (subst IsPlainString (sym before) is) only in record {
      front = chars front;
      spells = parts_spell bs front rest n u bound before after;
      literal = only.0;
      follows = ap (λ (s : List ℕ). ends_suffix s (chars rest)) none ∙ ap not (no_start (chars rest) ends);
    }
