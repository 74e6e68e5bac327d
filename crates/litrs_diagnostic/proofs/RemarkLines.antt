-- The bytes of remarks that are written in turn.
use Rattle.std.proofs.Common.{◌≡◌, ◌<◌, ◌+◌, ℕ, Bool, List, [], ◌∷◌, ◌++◌, length, get_or, take, map, refl, sym, ap, ◌∙◌, arith, append-nil}
use Rattle.std.proofs.lemmas.List.{map-append, take_more}
use Rattle.std.proofs.lemmas.List.Concat.{flat_map-append}
use Rattle.std.proofs.lemmas.Str.{encodes-append}
use Rattle.std.specs.List.{flat_map}
use Rattle.std.specs.Prelude.{codes}
use Rattle.std.specs.Str.{chars, encode_utf8_all}
use Rattle.litrs_diagnostic.specs.Colors.{opening, closing}
use Rattle.litrs_diagnostic.specs.Diagnostic.{level_text, remark_text, remarks_text}
use Rattle.litrs_diagnostic.specs.Row.{blanks}
use Rattle.litrs_diagnostic.specs.Rows.{remark_of}
use Rattle.litrs_diagnostic.specs.Shown.{shown}
use Rattle.litrs_diagnostic.specs.declared.colors.Color.TheVariants.{BoldBlue}
use Rattle.litrs_diagnostic.specs.declared.remarks.Remark.{Remark}
use Rattle.litrs_diagnostic.proofs.Written.{bar_bytes, remark_bytes}

-- the bytes of the remarks
abbrev lines_bytes : Bool → ℕ → List Remark → List ℕ
lines_bytes is_colored margin rs =
    encode_utf8_all (flat_map (remark_text is_colored margin) (map remark_of rs))

pub more_remarks : (is_colored : Bool) (margin : ℕ) (rs : List Remark) (i : ℕ) (d : Remark)
    (blue plain word : List ℕ) → i < length rs →
    blue ≡ opening is_colored BoldBlue → plain ≡ closing is_colored →
    word ≡ level_text (get_or rs i d).level →
    lines_bytes is_colored margin (take i rs)
    ++ (blue ++ (encode_utf8_all (blanks margin) ++ (codes " =" ++ (plain ++ (codes " " ++ (word
    ++ (codes ": " ++ (encode_utf8_all (shown (chars (get_or rs i d).text.now)) ++ 10 ∷ []))))))))
    ≡ lines_bytes is_colored margin (take (i + 1) rs)
more_remarks is_colored margin rs i d blue plain word within is_blue is_plain is_word =
    let r = remark_of (get_or rs i d) in
    let one = remark_text is_colored margin in
    let before = flat_map one (map remark_of (take i rs)) in
    let mapped : map remark_of (take (i + 1) rs) ≡ map remark_of (take i rs) ++ r ∷ [] =
    ap (map remark_of) (take_more rs i d within)
    ∙ map-append remark_of (take i rs) (get_or rs i d ∷ []) in
    let parts : flat_map one (map remark_of (take (i + 1) rs)) ≡ before ++ one r =
    ap (flat_map one) mapped
    ∙ (flat_map-append one (map remark_of (take i rs)) (r ∷ [])
    ∙ ap (λ (l : List ℕ). before ++ l) (append-nil (one r))) in
    ap (λ (l : List ℕ). encode_utf8_all before ++ l)
    (remark_bytes is_colored margin blue plain word r is_blue is_plain is_word)
    ∙ (sym (encodes-append before (one r)) ∙ ap encode_utf8_all (sym parts))

pub all_remarks : (is_colored : Bool) (margin : ℕ) (rs : List Remark) (blue plain : List ℕ) →
    0 < length rs → blue ≡ opening is_colored BoldBlue → plain ≡ closing is_colored →
    (blue ++ (encode_utf8_all (blanks margin) ++ (codes " |" ++ (plain ++ 10 ∷ []))))
    ++ lines_bytes is_colored margin rs
    ≡ encode_utf8_all (remarks_text is_colored margin (map remark_of rs))
all_remarks is_colored margin [] blue plain some is_blue is_plain = absurd (omega arith)
all_remarks is_colored margin (r ∷ rs) blue plain some is_blue is_plain =
    bar_bytes is_colored margin blue plain
    (flat_map (remark_text is_colored margin) (map remark_of (r ∷ rs))) _ is_blue is_plain refl
