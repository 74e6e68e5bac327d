-- One more character.
use Rattle.std.proofs.Common.{ℕ, List, [], ◌∷◌, ◌≤◌, ◌+◌, ◌++◌, length, map, drop, get_or, string_bytes, sym, ap, ◌∙◌, arith}
use Rattle.std.proofs.lemmas.List.{append_assoc, append-nil, drop_more, drop_all}
use Rattle.litrs_build.specs.RewrittenInteger.{cased}
use Rattle.litrs_build.proofs.integer_style.push_cased.Goals as goal

pub returns : goal.returns
returns c =
    let main = c.args.main.now in
    let i = c.loop-byte.byte-index in
    let text = string_bytes c.loop-byte.text in
    let past : length main ≤ i = omega arith in
    sym (append-nil text)
    ∙ (ap (λ (t : List ℕ). text ++ map (cased c.args.case) t) (sym (drop_all i main past))
    ∙ c.loop-byte.invariant)

pub loop-byte-preserved : goal.loop-byte-preserved
loop-byte-preserved c =
    let main = c.args.main.now in
    let f = cased c.args.case in
    let i = c.loop-byte.byte-index in
    let text = string_bytes c.loop-byte.text in
    let byte = get_or main i 0 in
    let rest = map f (drop (i + 1) main) in
    let front = drop_more main i 0 c.loop-byte-test.true in
    ap (λ (t : List ℕ). t ++ rest) (c.in_ok-push_digit.ensures
    ∙ ap (λ (n : ℕ). text ++ n ∷ []) c.cased.ensures.value)
    ∙ (append_assoc text (f byte ∷ []) rest
    ∙ (ap (λ (t : List ℕ). text ++ map f t) (sym front) ∙ c.loop-byte.invariant))
