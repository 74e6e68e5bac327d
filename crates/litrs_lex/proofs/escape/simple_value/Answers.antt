-- The table is held against the definitions at each of the 256 bytes, by computing.
use Rattle.std.proofs.Common.{◌≡◌, ℕ, ◌<◌, Bool, true, false, not, ◌||◌, eqb, get_or, refl, sym, ap, ◌∙◌}
use Rattle.std.proofs.lemmas.Bool.{agree_below_at, ne_eqb, eqb-true}
use Rattle.litrs_grammar.specs.Escape.{is_simple, simple_value}
use Rattle.litrs_lex.specs.declared.escape.TheConstants.{SIMPLE_VALUES}
use Rattle.litrs_lex.proofs.escape.simple_value.Goals as goal

is_value : (letter : ℕ) → letter < 256 → not (eqb (get_or SIMPLE_VALUES letter 0) 45) ≡ is_simple letter
is_value letter byte = agree_below_at (λ b. not (eqb (get_or SIMPLE_VALUES b 0) 45)) is_simple 256 letter refl byte

from_either : (simple same : Bool) → (not simple || same) ≡ true → simple ≡ true → same ≡ true
from_either true same h is = h
from_either false same h is = cc

value_is : (letter : ℕ) → letter < 256 → is_simple letter ≡ true → get_or SIMPLE_VALUES letter 0 ≡ simple_value letter
value_is letter byte simple =
    eqb-true (get_or SIMPLE_VALUES letter 0) (simple_value letter) (from_either (is_simple letter) (eqb (get_or SIMPLE_VALUES letter 0) (simple_value letter))
    (agree_below_at (λ b. not (is_simple b) || eqb (get_or SIMPLE_VALUES b 0) (simple_value b)) (λ b. true) 256 letter refl byte) simple)

pub returns-then-value-ne45 : goal.returns-then-value-ne45
returns-then-value-ne45 c =
    let simple : is_simple c.args.letter ≡ true = sym (is_value c.args.letter c.ranges.letter.fits) ∙ ap not (ne_eqb _ 45 c.if-value-ne45.true) in
    (simple, value_is c.args.letter c.ranges.letter.fits simple)
