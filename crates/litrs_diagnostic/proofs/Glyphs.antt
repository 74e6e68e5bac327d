-- Runs of a glyph.
use Rattle.std.proofs.Common.{◌≡◌, ◌+◌, ◌-◌, ◌≤◌, ◌<◌, ℕ, zero, suc, List, ◌++◌, take, replicate, lit<, sym, ap, subst, ◌∙◌, arith}
use Rattle.std.specs.Str.{encode_utf8_all, IsAscii, IsCharBoundary}
use Rattle.std.proofs.lemmas.List.{take-replicate, length-replicate}
use Rattle.std.proofs.lemmas.Str.{encodes-IsAscii, IsCharBoundary-from_ascii}
use Rattle.std.proofs.lemmas.Str.Ascii.{IsAscii-nil, IsAscii-cons}
use Rattle.litrs_diagnostic.specs.Shown.{glyph_char}
use Rattle.litrs_diagnostic.specs.declared.marks.Glyph.{Glyph}
use Rattle.litrs_diagnostic.specs.declared.marks.Glyph.TheVariants.{Space, Caret, Dash}
use Rattle.litrs_diagnostic.proofs.Encodes.{times_more}

glyph_low : (glyph : Glyph) → glyph_char glyph < 128
glyph_low Space = lit< tt
glyph_low Caret = lit< tt
glyph_low Dash = lit< tt

run_ascii : (glyph : Glyph) (n : ℕ) → IsAscii (replicate n (glyph_char glyph))
run_ascii glyph zero = IsAscii-nil
run_ascii glyph (suc n) = IsAscii-cons (glyph_char glyph) (replicate n (glyph_char glyph))
    (glyph_low glyph) (run_ascii glyph n)

-- a part of a run more
pub run_more : (glyph : Glyph) (done left all : ℕ) (run part : List ℕ) →
    run ≡ replicate 32 (glyph_char glyph) → part ≡ take (left - 0) run → left ≤ 32 →
    done + left ≡ all →
    encode_utf8_all (replicate done (glyph_char glyph)) ++ part
    ≡ encode_utf8_all (replicate all (glyph_char glyph))
run_more glyph done left all run part is cut short sum =
    ap (λ (l : List ℕ). encode_utf8_all (replicate done (glyph_char glyph)) ++ l)
    (cut ∙ (ap (λ (n : ℕ). take n run) (let same : left - 0 ≡ left = omega arith in same)
    ∙ (ap (take left) is ∙ (take-replicate left 32 (glyph_char glyph) short
    ∙ sym (encodes-IsAscii (replicate left (glyph_char glyph)) (run_ascii glyph left))))))
    ∙ times_more done left all (glyph_char glyph) sum

pub run_cut : (glyph : Glyph) (left : ℕ) (run : List ℕ) →
    run ≡ replicate 32 (glyph_char glyph) → left ≤ 32 → IsCharBoundary run left
run_cut glyph left run is short =
    subst (λ (l : List ℕ). IsCharBoundary l left) (sym is)
    (IsCharBoundary-from_ascii (replicate 32 (glyph_char glyph)) left (run_ascii glyph 32)
    (subst (λ (n : ℕ). left ≤ n) (sym (length-replicate 32 (glyph_char glyph))) short))
