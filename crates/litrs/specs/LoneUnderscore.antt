-- The refusals of a suffix that is `_` alone, at the end of the text. The Rust Reference does not
-- define refusals.
use Rattle.std.specs.Prelude.{ℕ, Bool, false, List, [], ◌∷◌, drop, Option, Some, None}
use Rattle.std.specs.declared.ops.Range.{Range}
use Rattle.litrs_base.specs.Characters.{underscore}
use Rattle.litrs_base.specs.Text.{is_text}

-- `true` iff the text from the start of the span on is `_` alone.
abbrev pub is_lone_underscore_suffix : Option (Range ℕ) → List ℕ → Bool
is_lone_underscore_suffix None bytes = false
is_lone_underscore_suffix (Some span) bytes = is_text (underscore ∷ []) (drop span.start bytes)
