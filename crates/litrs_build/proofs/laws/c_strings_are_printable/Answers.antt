use Rattle.litrs_build.proofs.PrintableTexts.{c_strings_are_printable}
use Rattle.litrs_build.proofs.laws.c_strings_are_printable.Goals as goal

pub returns : goal.returns
returns c = c_strings_are_printable
