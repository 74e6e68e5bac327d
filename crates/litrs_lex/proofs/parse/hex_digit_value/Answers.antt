-- The table is held against the definitions at each of the 256 bytes, by computing.
use Rattle.std.proofs.Common.{◌≡◌, ℕ, ◌<◌, Bool, true, false, not, ◌||◌, eqb, ltb, get_or, refl, sym, ◌∙◌}
use Rattle.std.specs.Char.{is_ascii_hexdigit, digit_value}
use Rattle.std.proofs.lemmas.Bool.{agree_below_at, lt-ltb, le-ltb, eqb-true, true≢false}
use Rattle.litrs_lex.specs.declared.parse.TheConstants.{HEX_VALUES}
use Rattle.litrs_lex.proofs.parse.hex_digit_value.Goals as goal

is_value : (digit : ℕ) → digit < 256 → ltb (get_or HEX_VALUES digit 0) 16 ≡ is_ascii_hexdigit digit
is_value digit byte = agree_below_at (λ b. ltb (get_or HEX_VALUES b 0) 16) is_ascii_hexdigit 256 digit refl byte

from_either : (hex same : Bool) → (not hex || same) ≡ true → hex ≡ true → same ≡ true
from_either true same h is = h
from_either false same h is = cc

value_is : (digit : ℕ) → digit < 256 → is_ascii_hexdigit digit ≡ true → get_or HEX_VALUES digit 0 ≡ digit_value digit
value_is digit byte hex =
    eqb-true (get_or HEX_VALUES digit 0) (digit_value digit) (from_either (is_ascii_hexdigit digit) (eqb (get_or HEX_VALUES digit 0) (digit_value digit))
    (agree_below_at (λ b. not (is_ascii_hexdigit b) || eqb (get_or HEX_VALUES b 0) (digit_value b)) (λ b. true) 256 digit refl byte) hex)

pub returns-then-value-lt16 : goal.returns-then-value-lt16
returns-then-value-lt16 c =
    let hex : is_ascii_hexdigit c.args.digit ≡ true = sym (is_value c.args.digit c.ranges.digit.fits) ∙ lt-ltb _ 16 c.if-value-lt16.true in
    (hex, value_is c.args.digit c.ranges.digit.fits hex)

pub returns-else-value-lt16 : goal.returns-else-value-lt16
returns-else-value-lt16 c = λ hex.
    true≢false (sym hex ∙ (sym (is_value c.args.digit c.ranges.digit.fits) ∙ le-ltb _ 16 c.if-value-lt16.false))
