-- The characters of the last line are counted.
use Rattle.std.proofs.Common.{◌≡◌, ◌+◌, ℕ, List, length, ap, ◌∙◌}
use Rattle.std.specs.Str.{chars}
use Rattle.std.proofs.lemmas.Iterator.{YieldsList-from_chars}
use Rattle.std.proofs.lemmas.Iterator.Consumers.{count_from_yields_List}
use Rattle.litrs_diagnostic.specs.Position.{last_line}
use Rattle.litrs_diagnostic.proofs.places.position.Goals as goal

pub returns-clause-column : goal.returns-clause-column
returns-clause-column c =
    let count : c.count.result ≡ length (chars c.last_line.result.now) =
    count_from_yields_List c.chars.result c.count.result c.count.ensures.ran
    (YieldsList-from_chars c.last_line.result.now c.last_line.utf8 cc) in
    ap (λ (n : ℕ). n + 1)
    (count ∙ ap length (c.last_line.ensures.line
    ∙ ap (λ (l : List ℕ). last_line (chars l)) c.split_at.ensures.front))
