use Rattle.litrs_build.proofs.PrintableTexts.{bytes_are_printable}
use Rattle.litrs_build.proofs.laws.bytes_are_printable.Goals as goal

pub returns : goal.returns
returns c = bytes_are_printable
