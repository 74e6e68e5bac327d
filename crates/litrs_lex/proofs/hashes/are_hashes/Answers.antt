-- All pass if and only if the longest prefix of those that pass is the whole.
use Rattle.std.proofs.Common.{◌≡◌, ℕ, Bool, true, false, eqb, List, length, refl, sym, ap, ◌∙◌, arith}
use Rattle.std.specs.List.{list_all, prefix_len}
use Rattle.std.proofs.lemmas.Bool.{eq-eqb, ne_eqb, false≢true}
use Rattle.litrs_base.proofs.Runs.{prefix_len_all, all_from_prefix_len}
use Rattle.litrs_grammar.specs.Raw.{is_hash}
use Rattle.litrs_lex.proofs.hashes.are_hashes.Goals as goal

whole : (p : ℕ → Bool) (xs : List ℕ) (v : Bool) → list_all p xs ≡ v → eqb (prefix_len p xs) (length xs) ≡ v
whole p xs true all = eq-eqb _ _ (prefix_len_all p xs all)
whole p xs false not_all = ne_eqb _ _ (λ (same : prefix_len p xs ≡ length xs). false≢true (sym not_all ∙ all_from_prefix_len p xs (omega (arith, same))))

pub returns : goal.returns
returns c = ap (λ n. eqb n (length c.args.bytes.now)) c.hash_len.ensures.len ∙ whole is_hash c.args.bytes.now _ refl
