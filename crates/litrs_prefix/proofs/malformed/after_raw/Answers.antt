-- The hashes are counted in bytes.
use Rattle.litrs_prefix.proofs.Words.{◌≡◌, ℕ, drop, sym, ap, ◌∙◌, chars, prefix_len-chars, is_hash, hash_len, after_closing}
use Rattle.litrs_prefix.proofs.PieceBodies.{hash_is_ascii}
use Rattle.litrs_prefix.proofs.malformed.after_raw.Goals as goal

pub returns : goal.returns
returns c =
    let text = c.args.text.now in
    let count : c.hash_len-hashes.result ≡ hash_len (chars text) =
    c.hash_len-hashes.ensures.len ∙ (ap hash_len c.as_bytes.ensures.value ∙ sym (prefix_len-chars is_hash text hash_is_ascii c.utf8.text)) in
    c.after_closing.ensures
    ∙ (ap (λ (n : ℕ). after_closing n (chars c.after_first.result.now)) count
    ∙ ap (after_closing (hash_len (chars text))) (c.after_first.ensures ∙ ap (drop 1) c.after_hashes.ensures))
