-- The table is held against the definition at each of the 256 bytes, by computing.
use Rattle.std.proofs.Common.{◌≡◌, ◌<◌, ℕ, true, not, eqb, get_or, bit_and, refl, ap, ◌∙◌}
use Rattle.std.proofs.lemmas.Bool.{agree_below, agree_below_at}
use Rattle.litrs_base.specs.declared.integer.IntegerBase.TheVariants.{Binary, Octal, Decimal, Hexadecimal}
use Rattle.litrs_lex.specs.declared.run.Run.{Run}
use Rattle.litrs_lex.specs.declared.run.Run.TheVariants.{Digits, Identifier, Blanks, Hashes}
use Rattle.litrs_lex.specs.declared.run.TheConstants.{CLASSES}
use Rattle.litrs_lex.specs.Run.{is_in_run}
use Rattle.litrs_lex.proofs.run.classes.Goals as goal

agree : (run it : Run) (bits : ℕ) → run ≡ it →
    agree_below (λ b. not (eqb (bit_and (get_or CLASSES b 0) bits) 0)) (is_in_run it) 256 ≡ true →
    (b : ℕ) → b < 256 → not (eqb (bit_and (get_or CLASSES b 0) bits) 0) ≡ is_in_run run b
agree run it bits is all b small = rw is
    (agree_below_at (λ b. not (eqb (bit_and (get_or CLASSES b 0) bits) 0)) (is_in_run it) 256 b all small)

pub returns-in-Digits-Binary : goal.returns-in-Digits-Binary
returns-in-Digits-Binary c =
    let base : c.in-Digits-Binary.field-0 ≡ Binary =
    rw c.in-Digits-Binary.is at c.in-Digits-Binary.field-0-is in
    agree c.args.run (Digits Binary) 0x21 (c.in-Digits-Binary.is ∙ ap Digits base) refl

pub returns-in-Digits-Octal : goal.returns-in-Digits-Octal
returns-in-Digits-Octal c =
    let base : c.in-Digits-Octal.field-0 ≡ Octal =
    rw c.in-Digits-Octal.is at c.in-Digits-Octal.field-0-is in
    agree c.args.run (Digits Octal) 0x22 (c.in-Digits-Octal.is ∙ ap Digits base) refl

pub returns-in-Digits-Decimal : goal.returns-in-Digits-Decimal
returns-in-Digits-Decimal c =
    let base : c.in-Digits-Decimal.field-0 ≡ Decimal =
    rw c.in-Digits-Decimal.is at c.in-Digits-Decimal.field-0-is in
    agree c.args.run (Digits Decimal) 0x24 (c.in-Digits-Decimal.is ∙ ap Digits base) refl

pub returns-in-Digits-Hexadecimal : goal.returns-in-Digits-Hexadecimal
returns-in-Digits-Hexadecimal c =
    let base : c.in-Digits-Hexadecimal.field-0 ≡ Hexadecimal =
    rw c.in-Digits-Hexadecimal.is at c.in-Digits-Hexadecimal.field-0-is in
    agree c.args.run (Digits Hexadecimal) 0x28 (c.in-Digits-Hexadecimal.is ∙ ap Digits base) refl

pub returns-in-Identifier : goal.returns-in-Identifier
returns-in-Identifier c = agree c.args.run Identifier 0x34 c.in-Identifier.is refl

pub returns-in-Blanks : goal.returns-in-Blanks
returns-in-Blanks c = agree c.args.run Blanks 0x40 c.in-Blanks.is refl

pub returns-in-Hashes : goal.returns-in-Hashes
returns-in-Hashes c = agree c.args.run Hashes 0x80 c.in-Hashes.is refl
