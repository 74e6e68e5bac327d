-- A closing follows if there are as many hashes.
use Rattle.std.proofs.Common.{◌≡◌, ℕ, zero, suc, ◌+◌, ◌-◌, ◌<◌, Bool, true, false, not, cond, eqb, ltb, ◌&&◌, inl, inr, List, [], ◌∷◌, length, take, drop, get_or, sym, ap, ◌∙◌, eq-eqb, arith}
use Rattle.std.proofs.Math.Bool.{not-not}
use Rattle.std.proofs.lemmas.Bool.{cases_Bool, cases_lt, lt-ltb, le-ltb, eqb-true, ne_eqb, true≢false}
use Rattle.std.proofs.lemmas.List.Sums.{prefix_len-le-length, prefix_len_passes}
use Rattle.std.proofs.lemmas.Grind.{common_steps}
use Rattle.litrs_base.specs.Text.{first_passes, begins_with}
use Rattle.litrs_grammar.specs.Raw.{is_hash, is_quote, hashes, hash_len, raw_closing}
use Rattle.litrs_lex.proofs.hashes.is_inner_quote.Goals as goal
use Rattle.litrs_lex.proofs.hashes.is_inner_quote.Goals.{then-after-hashes, else-after-hashes}

ltb-suc : (k n : ℕ) → ltb (1 + k) (suc n) ≡ ltb k n
ltb-suc k n = elim (cases_lt k n) [
  | inl low ↦ lt-ltb (1 + k) (suc n) (omega arith) ∙ sym (lt-ltb k n low)
  | inr high ↦ le-ltb (1 + k) (suc n) (omega arith) ∙ sym (le-ltb k n high)
]

begins : (n : ℕ) (bs : List ℕ) → not (begins_with (hashes n) bs) ≡ ltb (hash_len bs) n
begins zero bs = sym (le-ltb (hash_len bs) 0 (omega arith))
begins (suc n) [] = sym (lt-ltb 0 (suc n) (omega arith))
begins (suc n) (b ∷ bs) = elim (cases_Bool (eqb b 35)) [
  | inl same ↦ (let there : eqb 35 b ≡ true = eq-eqb 35 b (sym (eqb-true b 35 same)) in
      ap (λ v. not (v && begins_with (hashes n) bs)) there ∙ begins n bs ∙ sym (ap (λ v. ltb (cond v (1 + hash_len bs) 0) (suc n)) same ∙ ltb-suc (hash_len bs) n))
  | inr other ↦ (let none : eqb 35 b ≡ false = ne_eqb 35 b (λ e. true≢false (sym (eq-eqb b 35 (sym e)) ∙ other)) in
      ap (λ v. not (v && begins_with (hashes n) bs)) none ∙ sym (ap (λ v. ltb (cond v (1 + hash_len bs) 0) (suc n)) other ∙ lt-ltb 0 (suc n) (omega arith)))
]

few_hashes : (xs : List ℕ) (n : ℕ) → 0 < n → is_hash (get_or xs (n - 1) 0) ≡ false → hash_len xs < n
few_hashes xs n some other = elim (cases_lt (hash_len xs) n) [
  | inl low ↦ low
  | inr high ↦ absurd (true≢false (sym (prefix_len_passes is_hash xs (n - 1) 0 (omega (arith, some, high))) ∙ other))
]

abbrev is_inner : ℕ → List ℕ → Bool
is_inner n bytes = first_passes is_quote bytes && not (begins_with (raw_closing n) bytes)

pub returns-then-after-hashes-ne35 : goal.returns-then-after-hashes-ne35
returns-then-after-hashes-ne35 c =
    let bytes = c.args.bytes.now in
    let n = c.args.hashes in
    let after = take (length bytes - 1) (drop 1 bytes) in
    let few : hash_len after < n = elim c.if-after-hashes.branch [
      | then-after-hashes w ↦ omega (arith, prefix_len-le-length is_hash after, w.if-after-hashes.true)
      | else-after-hashes w ↦
          few_hashes after n c.if-hashes-gt0.true (sym (not-not (is_hash (get_or after (n - 1) 0))) ∙ ap not (sym w.value-is ∙ c.if-after-hashes-ne35.true))
    ] in
    let lacks : not (begins_with (hashes n) after) ≡ true = begins n after ∙ lt-ltb _ _ few in
    let inner : not (begins_with (hashes n) after) ≡ is_inner n bytes = grind (arith, common_steps) in
    c.if-after-hashes-ne35.true ∙ sym lacks ∙ inner

pub returns-else-after-hashes-ne35 : goal.returns-else-after-hashes-ne35
returns-else-after-hashes-ne35 c =
    let bytes = c.args.bytes.now in
    let n = c.args.hashes in
    let after = take (length bytes - 1) (drop 1 bytes) in
    let few : not (begins_with (hashes n) after) ≡ ltb c.hash_len.result n = begins n after ∙ ap (λ k. ltb k n) (sym c.hash_len.ensures.len) in
    let inner : not (begins_with (hashes n) after) ≡ is_inner n bytes = grind (arith, common_steps) in
    sym few ∙ inner
