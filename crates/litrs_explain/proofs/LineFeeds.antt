-- The first line feed of a text.
use Rattle.std.proofs.Common.{◌≡◌, ◌≢◌, ◌==◌, ◌<◌, ℕ, List, [], length, get_or, drop, ap, ◌∙◌, arith}
use Rattle.std.proofs.Math.Seq.{drop-length}
use Rattle.std.proofs.lemmas.Bool.{ne_eqb, eq-eqb}
use Rattle.std.proofs.lemmas.List.Sums.{position_or_len_is}
use Rattle.litrs_base.specs.Characters.{line_feed}
use Rattle.litrs_explain.specs.Comments.{from_line_feed}

pub from_first : (text : List ℕ) (k : ℕ) → k < length text → get_or text k 0 ≡ line_feed → ((i : ℕ) → i < k → get_or text i 0 ≢ line_feed) → from_line_feed text ≡ drop k text
from_first text k within is before =
    ap (λ (n : ℕ). drop n text)
    (position_or_len_is (λ c. c == line_feed) text k 0 (omega arith) (λ i low. ne_eqb _ _ (before i low)) (λ _. eq-eqb _ _ is))

pub from_none : (text : List ℕ) → ((i : ℕ) → i < length text → get_or text i 0 ≢ line_feed) → from_line_feed text ≡ []
from_none text none =
    ap (λ (n : ℕ). drop n text)
    (position_or_len_is (λ c. c == line_feed) text (length text) 0 (omega arith) (λ i low. ne_eqb _ _ (none i low)) (λ low. absurd (omega (arith, low))))
    ∙ drop-length text
