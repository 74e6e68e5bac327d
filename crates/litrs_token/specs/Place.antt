-- The place of a token in its source.
use Rattle.std.specs.Prelude.{ℕ}

-- The bytes from `start` up to `end`.
pub record Place : Type 0 where
  pub start : ℕ
  pub end : ℕ

-- The place of a token that comes from no source.
abbrev pub call_site : Place
call_site = record { start = 0; end = 0 }
