-- The bytes of the word are spaces.
use Rattle.std.proofs.Common.{◌≡◌, ℕ, zero, suc, ◌+◌, ◌<◌, ◌≤◌, List, [], ◌∷◌, length, drop, get_or, refl, sym, ap, ◌∙◌, arith}
use Rattle.std.specs.Int.{to_le_bytes, w32}
use Rattle.std.specs.List.{prefix_len}
use Rattle.std.proofs.lemmas.Bool.{eqb-true}
use Rattle.std.proofs.lemmas.Nat.{le_bytes_4}
use Rattle.std.proofs.lemmas.List.Sums.{prefix_len-drop_yes}
use Rattle.litrs_base.specs.Characters.{is_blank}
use Rattle.litrs_lex.proofs.run.are_spaces.Goals as goal

four_small : (a b c d : ℕ) → a < 256 → b < 256 → c < 256 → d < 256 → (i : ℕ) → get_or (a ∷ b ∷ c ∷ d ∷ []) i 0 < 256
four_small a b c d first second third fourth zero = first
four_small a b c d first second third fourth (suc zero) = second
four_small a b c d first second third fourth (suc (suc zero)) = third
four_small a b c d first second third fourth (suc (suc (suc zero))) = fourth
four_small a b c d first second third fourth (suc (suc (suc (suc i)))) = omega arith

one : (bytes : List ℕ) (at next : ℕ) → at < length bytes → get_or bytes at 0 ≡ 32 → at + 1 ≡ next →
    prefix_len is_blank (drop at bytes) ≡ 1 + prefix_len is_blank (drop next bytes)
one bytes at next inside space is = prefix_len-drop_yes is_blank bytes at 0 inside (ap is_blank space) ∙ ap (λ n. 1 + prefix_len is_blank (drop n bytes)) is

four : (bytes : List ℕ) (at : ℕ) → at + 4 ≤ length bytes →
    get_or bytes at 0 ∷ get_or bytes (at + 1) 0 ∷ get_or bytes (at + 2) 0 ∷ get_or bytes (at + 3) 0 ∷ [] ≡ 32 ∷ 32 ∷ 32 ∷ 32 ∷ [] →
    prefix_len is_blank (drop at bytes) ≡ 4 + prefix_len is_blank (drop (at + 4) bytes)
four bytes at inside all =
    let first = one bytes at (at + 1) (omega arith) (ap (λ l. get_or l 0 0) all) (omega arith) in
    let second = one bytes (at + 1) (at + 2) (omega arith) (ap (λ l. get_or l 1 0) all) (omega arith) in
    let third = one bytes (at + 2) (at + 3) (omega arith) (ap (λ l. get_or l 2 0) all) (omega arith) in
    let fourth = one bytes (at + 3) (at + 4) (omega arith) (ap (λ l. get_or l 3 0) all) (omega arith) in
    omega (arith, first, second, third, fourth)

pub returns : goal.returns
returns c = λ yes.
    let small : (i : ℕ) → get_or c.args.bytes.now i 0 < 256 = λ i. let f = c.type_inv.bytes i in omega arith in
    four c.args.bytes.now c.args.at c.requires
    (sym (le_bytes_4 _ c.from_le_bytes.result refl (four_small _ _ _ _ (small c.args.at) (small (c.args.at + 1)) (small (c.args.at + 2)) (small (c.args.at + 3))) c.from_le_bytes.ensures)
    ∙ ap (to_le_bytes w32) (eqb-true _ _ yes))
