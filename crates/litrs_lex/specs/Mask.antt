-- Masks of the special bytes of a part.
use Rattle.std.specs.Prelude.{◌≡◌, ℕ, ◌+◌, ◌-◌, ◌≤◌, List, length, drop, map}
use Rattle.std.specs.List.{prefix_len}
use Rattle.std.specs.Simd.Lanes.{mask_l, chunk}
use Rattle.litrs_lex.specs.declared.search.Mask.{Mask}
use Rattle.litrs_lex.specs.declared.search.Special.{Special}
use Rattle.litrs_lex.specs.Special.{is_special, is_ordinary}

-- The part lies within the bytes and has at most 32 of them. Its bits are those of its special
-- bytes, the lowest first.
pub record IsMaskOf (what : Special) (bytes : List ℕ) (m : Mask) : Type 0 where
  pub ordered : m.start ≤ m.end
  pub within : m.end ≤ length bytes
  pub few : m.end ≤ m.start + 32
  pub bits : m.bits ≡ mask_l (map (is_special what) (chunk m.start (m.end - m.start) bytes))

-- A search from a place on has found the next special byte, or the end, and a mask that starts at
-- most there.
pub record IsFoundFrom (from : ℕ) (what : Special) (bytes : List ℕ) (found : ℕ) (m : Mask)
    : Type 0 where
  pub place : found ≡ from + prefix_len (is_ordinary what) (drop from bytes)
  pub after : m.start ≤ found
  pub mask : IsMaskOf what bytes m
