-- Beginnings of suffixes.
use Rattle.std.proofs.Common.{◌≡◌, ◌⊎◌, inl, inr, ℕ, Bool, true, false, List, [], ◌∷◌, ◌++◌, refl, sym, ap, ◌∙◌, subst, arith}
use Rattle.std.specs.Prelude.{◌↔◌, IsTrue, codes}
use Rattle.std.specs.Str.{chars, IsUtf8}
use Rattle.std.proofs.lemmas.List.{append-nil}
use Rattle.std.proofs.lemmas.Str.{encodes-chars, encode_ascii}
use Rattle.std.specs.Prelude.{encode_utf8_all}
use Rattle.litrs_base.proofs.Chars.{chars_ascii}
use Rattle.std.proofs.lemmas.Str.{chars-nil}
use Rattle.litrs_grammar.specs.Suffix.{is_suffix}
use Rattle.litrs_grammar.proofs.LongerTexts.Suffix.{suffix_freed, underscore_x}
use Rattle.litrs.specs.Begins.{BeginsSuffix}
use Rattle.litrs.proofs.Begins.{yes, answer_is}

-- a suffix begins one
pub suffix_now : (t : List ℕ) → is_suffix t ≡ true → BeginsSuffix t
suffix_now t is = ([], refl, ap is_suffix (append-nil t) ∙ is)

-- so does a lone underscore
pub lone_begins : BeginsSuffix (95 ∷ [])
lone_begins = (120 ∷ [], refl, underscore_x)

-- and nothing else
pub suffix_cases : (t : List ℕ) → BeginsSuffix t → (is_suffix t ≡ true) ⊎ (t ≡ 95 ∷ [])
suffix_cases t (more, text, is) = by (is_suffix t) refl
  where
    by : (b : Bool) → is_suffix t ≡ b → (is_suffix t ≡ true) ⊎ (t ≡ 95 ∷ [])
    by true h = inl h
    by false h = inr (suffix_freed t more h is)

lone_chars : chars (95 ∷ []) ≡ 95 ∷ []
lone_chars = chars_ascii 95 [] (omega arith) ∙ ap (λ l. 95 ∷ l) chars-nil

-- the text `_`
pub lone_text : (bs : List ℕ) → bs ≡ codes "_" → IsTrue true ↔ BeginsSuffix (chars bs)
lone_text bs is = yes (subst BeginsSuffix (sym (ap chars is ∙ lone_chars)) lone_begins)

-- every other text
pub other_text : (bs : List ℕ) (b : Bool) → IsUtf8 bs → (bs ≡ codes "_" → ⊥) →
    b ≡ is_suffix (chars bs) → IsTrue b ↔ BeginsSuffix (chars bs)
other_text bs b u other is =
    answer_is b (is_suffix (chars bs)) is (
      suffix_now (chars bs),
      λ begins. elim (suffix_cases (chars bs) begins) [
        | inl suffix ↦ suffix
        | inr lone ↦ absurd (other (sym (encodes-chars bs u) ∙ ap encode_utf8_all lone
            ∙ ap (λ l. l ++ []) (encode_ascii 95 (omega arith))))
      ],
    )
