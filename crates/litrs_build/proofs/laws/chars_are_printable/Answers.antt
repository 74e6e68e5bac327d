use Rattle.litrs_build.proofs.PrintableTexts.{chars_are_printable}
use Rattle.litrs_build.proofs.laws.chars_are_printable.Goals as goal

pub returns : goal.returns
returns c = chars_are_printable
