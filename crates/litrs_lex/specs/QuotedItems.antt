-- The items of a quoted body in the bytes of a text.
use Rattle.std.specs.Prelude.{◌≡◌, ◌⊎◌, ℕ, Bool, true, not, ◌+◌, ◌≤◌, ◌<◌, ◌==◌, List, [], ◌++◌, length, drop, Option, Some, None, IfSome, IsTrue, IsFalse}
use Rattle.std.specs.List.{list_all}
use Rattle.std.specs.Str.{chars, IsCharBoundary}
use Rattle.litrs_base.specs.declared.escape.Unescape.{Unescape}
use Rattle.litrs_base.specs.Characters.{double_quote}
use Rattle.litrs_base.specs.Refusal.{Refusal}
use Rattle.litrs_base.specs.Text.{byte_len, first_passes}
use Rattle.litrs_base.specs.declared.quotes.Switches.{Switches}
use Rattle.litrs_grammar.specs.Escape.{value_bytes}
use Rattle.litrs_grammar.specs.Quoted.{Item, item_text, item_value, is_item, is_complete_before, is_plain, item_refusal}
use Rattle.litrs_lex.specs.declared.search.Special.{Special}
use Rattle.litrs_lex.specs.Container.{is_pushable}

-- The bytes beside `"` and CR at which the plain characters of a body end. If only ASCII is
-- allowed, each byte above 7F is one of them.
abbrev pub stops : (unicode allow_nul : Bool) → Special
stops unicode allow_nul =
    record { backslash = true; nul = not allow_nul; non_ascii = not unicode }

-- The characters from `from` up to `end` are plain, and no plain character follows them.
pub record IsPlainRun (w : Switches) (bytes : List ℕ) (from end : ℕ) : Type 0 where
  pub run : List ℕ
  pub split : chars (drop from bytes) ≡ run ++ chars (drop end bytes)
  pub plain : IsTrue (list_all (is_plain w) run)
  pub size : from + byte_len run ≡ end
  pub boundary : IsCharBoundary bytes end
  pub stops : IsFalse (first_passes (is_plain w) (chars (drop end bytes)))

-- The characters of a body from `offset` up to `place` are plain, and the closing quote follows.
pub record IsPlainBody (w : Switches) (bytes : List ℕ) (offset place : ℕ) : Type 0 where
  pub run : IsPlainRun w bytes offset place
  pub quote : IsTrue (first_passes (λ c. c == double_quote) (chars (drop place bytes)))

-- The value of an item with a backslash, in bytes. That of a continuation is empty.
abbrev pub item_bytes : Option Unescape → List ℕ
item_bytes None = []
item_bytes (Some value) = value_bytes value

-- The bytes start with an item of `len` bytes, and more follow. An escape has this value, which is
-- a byte above 7F only if byte escapes are on. A continuation has no value.
pub record IsItemAt (w : Switches) (bytes : List ℕ) (len : ℕ) (value : Option Unescape)
    : Type 0 where
  pub item : Item
  pub split : chars bytes ≡ item_text item ++ chars (drop len bytes)
  pub grammar : IsTrue (is_item w item)
  pub taken : IsTrue (is_complete_before (chars (drop len bytes)) item)
  pub size : byte_len (item_text item) ≡ len
  pub is_value : item_value item ≡ item_bytes value
  pub pushable : IfSome value (λ v. IsTrue (is_pushable w.byte_escapes v))
  pub fits : length (item_bytes value) ≤ len
  pub some : 0 < len
  pub within : len < length bytes
  pub boundary : IsCharBoundary bytes len

-- The rest does not start with an item: it starts with the closing quote, or it is refused.
abbrev pub EndsItems : Switches → List ℕ → Type 0
EndsItems w rest =
    IsTrue (first_passes (λ c. c == double_quote) rest)
    ⊎ ((e : Refusal) × (item_refusal w rest ≡ Some e))
