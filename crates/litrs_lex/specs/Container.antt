-- Containers of values.
use Rattle.std.specs.Prelude.{◌≡◌, ℕ, Bool, true, ◌||◌, List, ◌++◌, IsFalse}
use Rattle.std.specs.Str.{IsUtf8}
use Rattle.litrs_base.specs.Characters.{is_ascii}
use Rattle.litrs_base.specs.declared.escape.Unescape.{Unescape}
use Rattle.litrs_base.specs.declared.escape.Unescape.TheVariants.{Byte, Unicode}

-- `true` iff the value is not a byte above 7F, or the container can hold all bytes.
abbrev pub is_pushable : Bool → Unescape → Bool
is_pushable takes_bytes (Byte b) = takes_bytes || is_ascii b
is_pushable takes_bytes (Unicode c) = true

-- The contents and the piece after them are this value. If the container can hold only texts, the
-- piece is one.
abbrev pub IsFilledTo : (takes_bytes : Bool) (contents piece value : List ℕ) → Type 0
IsFilledTo takes_bytes contents piece value =
    (contents ++ piece ≡ value) × (IsFalse takes_bytes → IsUtf8 piece)
