-- The first character is a digit if the first byte is one.
use Rattle.std.proofs.Common.{arith}
use Rattle.std.proofs.lemmas.Bool.Decides.{nat_tests}
use Rattle.std.proofs.lemmas.Grind.{common_steps}
use Rattle.std.specs.Char.{is_ascii_digit}
use Rattle.litrs_base.proofs.Chars.{OnlyAscii, first_passes-chars}
use Rattle.litrs_base.proofs.characters.begins_with_digit.Goals as goal

digit_is_ascii : OnlyAscii is_ascii_digit
digit_is_ascii c high = grind (arith, nat_tests)

pub returns-in-Some : goal.returns-in-Some
returns-in-Some c = grind (arith, common_steps, first_passes-chars _ _ digit_is_ascii c.utf8.text)

pub returns-in_default : goal.returns-in_default
returns-in_default c = grind (arith, common_steps, first_passes-chars _ _ digit_is_ascii c.utf8.text)

pub returns-in_default-2 : goal.returns-in_default-2
returns-in_default-2 c = grind (arith, common_steps, first_passes-chars _ _ digit_is_ascii c.utf8.text)
