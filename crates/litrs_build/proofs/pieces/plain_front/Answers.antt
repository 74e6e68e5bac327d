-- Plain ASCII is UTF-8.
use Rattle.std.proofs.Common.{ℕ, take, sym, subst}
use Rattle.std.specs.List.{prefix_len}
use Rattle.std.specs.Str.{IsUtf8}
use Rattle.std.proofs.lemmas.Str.{IsUtf8-from_ascii}
use Rattle.litrs_build.specs.Pieces.{is_plain_ascii}
use Rattle.litrs_base.proofs.Runs.{list_all-take_while}
use Rattle.litrs_build.proofs.Plain.{all_ascii}
use Rattle.litrs_build.proofs.pieces.plain_front.Goals as goal

pub from_utf8_unchecked-requires : goal.from_utf8_unchecked-requires
from_utf8_unchecked-requires c =
    let bytes = c.args.bytes.now in
    subst (λ (n : ℕ). IsUtf8 (take n bytes)) (sym c.plain_len.ensures.len)
    (IsUtf8-from_ascii (take (prefix_len is_plain_ascii bytes) bytes)
    (all_ascii (take (prefix_len is_plain_ascii bytes) bytes) (list_all-take_while is_plain_ascii bytes)))
