-- Printable ASCII: each character from the space to `~`, by the table of categories.
use Rattle.std.proofs.Common.{◌≡◌, ℕ, ◌+◌, ◌-◌, ◌<◌, Bool, true, ◌&&◌, leb, ltb, List, [], ◌∷◌, length, refl, sym, subst, ◌∙◌, arith, ltb-true, leb-true}
use Rattle.std.specs.List.{list_all, range_with_len}
use Rattle.std.proofs.lemmas.Bool.{and_from, and_parts, agree_below, agree_below_at}
use Rattle.std.proofs.lemmas.List.FromFn.{get_or-range_with_len, length-range_with_len}
use Rattle.ucd_category.specs.GeneralCategory.{general_category}
use Rattle.ucd_category.specs.GeneralCategoryRows.{general_category_rows}
use Rattle.ucd_table.specs.Rows.{value_in}
use Rattle.litrs_build.specs.Printable.{is_printable}
use Rattle.litrs_build.proofs.HexDigits.{passes_at}

ascii_printable : list_all is_printable (range_with_len 32 95) ≡ true
unfolding is_printable general_category general_category_rows value_in
ascii_printable = refl

-- a character from the space to `~`
abbrev pub is_plain : ℕ → Bool
is_plain c = leb 32 c && ltb c 127

pub plain_printable : (c : ℕ) → is_plain c ≡ true → is_printable c ≡ true
plain_printable c h =
    let bounds = and_parts (leb 32 c) (ltb c 127) h in
    let low = leb-true 32 c bounds.0 in
    let high = ltb-true c 127 bounds.1 in
    let near : c - 32 < 95 = omega (arith, low, high) in
    let within : c - 32 < length (range_with_len 32 95) =
    subst (λ (n : ℕ). c - 32 < n) (sym (length-range_with_len 32 95)) near in
    let same : 32 + (c - 32) ≡ c = omega (arith, low) in
    subst (λ (n : ℕ). is_printable n ≡ true)
    (get_or-range_with_len 32 95 (c - 32) 0 near ∙ same)
    (passes_at is_printable (range_with_len 32 95) (c - 32) ascii_printable within)

-- of ASCII no other character is printable
abbrev is_shown : ℕ → Bool
is_shown c = leb 32 c && leb c 126

ascii_shown : agree_below is_shown is_printable 128 ≡ true
unfolding is_printable general_category general_category_rows value_in
ascii_shown = refl

pub printable_ascii : (c : ℕ) → c < 128 → is_shown c ≡ is_printable c
printable_ascii c low = agree_below_at is_shown is_printable 128 c ascii_shown low

pub plain_all : (t : List ℕ) → list_all is_plain t ≡ true → list_all is_printable t ≡ true
plain_all [] all = refl
plain_all (c ∷ t) all =
    let both = and_parts (is_plain c) (list_all is_plain t) all in
    and_from (is_printable c) (list_all is_printable t) (plain_printable c both.0)
    (plain_all t both.1)
