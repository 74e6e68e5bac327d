-- The hashes are counted in bytes.
use Rattle.litrs_prefix.proofs.Words.{◌≡◌, ℕ, drop, sym, ap, subst, ◌∙◌, prefix_len, chars, IsCharBoundary, hash_len, is_hash}
use Rattle.litrs_prefix.proofs.PieceBodies.{hash_is_ascii, hashes_dropped}
use Rattle.litrs_prefix.proofs.Runs.{ascii_front}
use Rattle.litrs_prefix.proofs.opening.after_hashes.Goals as goal

pub range_from-requires : goal.range_from-requires
range_from-requires c = λ _.
    let text = c.args.text.now in
    let n : c.hash_len.result ≡ prefix_len is_hash text = c.hash_len.ensures.len ∙ ap hash_len c.as_bytes.ensures.value in
    subst (λ (k : ℕ). IsCharBoundary text k) (sym n) (ascii_front is_hash hash_is_ascii text c.utf8.text).0

pub returns : goal.returns
returns c =
    let text = c.args.text.now in
    let n : c.hash_len.result ≡ prefix_len is_hash text = c.hash_len.ensures.len ∙ ap hash_len c.as_bytes.ensures.value in
    ap chars c.range_from.ensures.value
    ∙ (ap (λ (k : ℕ). chars (drop k text)) n ∙ ((ascii_front is_hash hash_is_ascii text c.utf8.text).1 ∙ sym (hashes_dropped (chars text))))
