-- The opening quote and the characters so far.
use Rattle.std.proofs.Common.{◌≡◌, ◌∷◌, flat_map, string_bytes}
use Rattle.std.specs.Str.{encode_utf8_all}
use Rattle.litrs_base.specs.Characters.{double_quote}
use Rattle.litrs_token.specs.StringToken.{escaped}
use Rattle.litrs_token.proofs.literal.quoted.Given as goal

abbrev pub invariant-loop-c : goal.invariant-loop-c
invariant-loop-c l =
    string_bytes l.text ≡ encode_utf8_all (double_quote ∷ flat_map escaped l.yielded)
