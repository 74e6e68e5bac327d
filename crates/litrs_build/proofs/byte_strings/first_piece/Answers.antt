-- A piece is the plain ASCII at the front, or else the first byte.
use Rattle.std.proofs.Common.{refl}
use Rattle.std.proofs.lemmas.List.{take_rest}
use Rattle.litrs_build.proofs.Plain.{bytes_plain, bytes_spelled}
use Rattle.litrs_build.proofs.byte_strings.first_piece.Goals as goal

pub returns-then-is_empty-clause-text : goal.returns-then-is_empty-clause-text
returns-then-is_empty-clause-text c =
    let bytes = c.args.bytes.now in
    bytes_spelled bytes _ _ c.of_byte.result c.requires refl c.of_byte.ensures (take_rest bytes 1)

pub returns-else-is_empty-clause-text : goal.returns-else-is_empty-clause-text
returns-else-is_empty-clause-text c =
    let bytes = c.args.bytes.now in
    bytes_plain bytes c.plain_front-plain.result.now _ c.plain_front-plain.ensures
    (take_rest bytes _)
