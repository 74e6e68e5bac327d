-- The sign, and then the digits.
use Rattle.std.proofs.Common.{ℕ, List, ◌++◌, take, drop, string_bytes, ap, ◌∙◌}
use Rattle.std.proofs.lemmas.List.{append_assoc, take_rest}
use Rattle.litrs_build.specs.RewrittenFloat.{regrouped}
use Rattle.litrs_build.proofs.float_style.push_number.Goals as goal

pub returns : goal.returns
returns c =
    let number = c.args.number.now in
    let group = c.args.group in
    let n = c.sign_len-len.result in
    let old = string_bytes c.args.text.now in
    c.in_ok-push_part.ensures
    ∙ (ap (λ (t : List ℕ). string_bytes c.push_ascii.new.text ++ regrouped group t)
    (take_rest number n)
    ∙ (ap (λ (t : List ℕ). t ++ regrouped group (drop n number)) c.in_ok-push_ascii.ensures
    ∙ (append_assoc old (take n number) (regrouped group (drop n number))
    ∙ ap (λ (k : ℕ). old ++ (take k number ++ regrouped group (drop k number)))
    c.sign_len-len.ensures.len)))
