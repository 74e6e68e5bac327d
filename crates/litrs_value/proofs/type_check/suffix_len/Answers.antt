-- A text has as many bytes as its characters.
use Rattle.std.proofs.Common.{ap, sym, ◌∙◌, length}
use Rattle.std.proofs.lemmas.Str.{encodes-chars}
use Rattle.litrs.specs.Text.{byte_len}
use Rattle.litrs_value.proofs.type_check.suffix_len.Goals as goal

pub returns : goal.returns
returns g c = sym (ap length (encodes-chars c.suffix-suffix.result.now c.suffix-suffix.utf8)) ∙ ap byte_len c.suffix-suffix.ensures
