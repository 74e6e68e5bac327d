-- Bools. The Rust Reference, Literal expressions, Boolean literal expressions.
use Rattle.std.specs.Prelude.{◌≡◌, ℕ, Bool, true, false, ◌||◌, List, Option, Some, None, codes, if◌then◌else◌}
use Rattle.litrs_base.specs.Refusal.{Refusal, without_span}
use Rattle.litrs_base.specs.declared.err.ParseErrorKind.TheVariants.{InvalidLiteral}
use Rattle.litrs_base.specs.Text.{is_text}

-- The text of a bool: `true` or `false`.
abbrev pub bool_text : Bool → List ℕ
bool_text false = codes "false"
bool_text true = codes "true"

-- `t` is the bool `b` iff it is the text of `b`.
abbrev pub IsBool : List ℕ → Bool → Type 0
IsBool t b = bool_text b ≡ t

-- `true` iff the text is a bool.
abbrev pub is_bool : List ℕ → Bool
is_bool t = is_text (bool_text true) t || is_text (bool_text false) t

-- Every other text has the same refusal, and so has the empty text.
abbrev pub bool_refusal : List ℕ → Option Refusal
bool_refusal t = if is_bool t then None else Some (without_span InvalidLiteral)
