-- Tables without a row of an open kind.
use Rattle.std.proofs.Common.{◌≡◌, ℕ, Bool, true, false, List, [], ◌∷◌, Option, Some, None, refl}
use Rattle.std.specs.Prelude.{if◌then◌else◌}
use Rattle.litrs_base.specs.declared.err.ParseErrorKind.{ParseErrorKind}
use Rattle.litrs_base.specs.declared.err.ParseErrorKind.TheVariants.{UnexpectedChar, InvalidSuffix}
use Rattle.litrs_base.specs.Finality.{is_open}
use Rattle.litrs_base.specs.Refusal.{Refusal}
use Rattle.litrs_base.specs.Text.{first_passes}
use Rattle.litrs_grammar.specs.Suffix.{is_ascii_symbol, suffix_kind}
use Rattle.litrs_base.specs.declared.quotes.Switches.{Switches}
use Rattle.litrs_grammar.specs.Escape.{hex_refusal, inner_refusal, unicode_refusal, escape_refusal}
use Rattle.litrs_grammar.proofs.Laws.Integer.{number_rows}

-- a table gives an open refusal
abbrev pub is_open_row : Option Refusal → Bool
is_open_row None = false
is_open_row (Some r) = is_open r.kind

pub shut_if : (b : Bool) (x y : Option Refusal) → is_open_row x ≡ false → is_open_row y ≡ false → is_open_row (if b then x else y) ≡ false
shut_if true x y f g = f
shut_if false x y f g = g

pub shut_kind_if : (b : Bool) (x y : ParseErrorKind) → is_open x ≡ false → is_open y ≡ false → is_open (if b then x else y) ≡ false
shut_kind_if true x y f g = f
shut_kind_if false x y f g = g

pub shut_suffix : (t : List ℕ) → is_open (suffix_kind t) ≡ false
shut_suffix t = shut_kind_if (first_passes is_ascii_symbol t) UnexpectedChar InvalidSuffix refl refl

pub shut_number : (empty digit : Bool) (o : Option Refusal) → is_open_row o ≡ false → is_open_row (number_rows empty digit o) ≡ false
shut_number empty digit o h = search (shut_if, h)

shut_hex : (w : Switches) (t : List ℕ) → is_open_row (hex_refusal w t) ≡ false
shut_hex w t = search shut_if

shut_inner : (w : Switches) (inner : List ℕ) → is_open_row (inner_refusal w inner) ≡ false
shut_inner w inner = search shut_if

shut_unicode : (w : Switches) (t : List ℕ) → is_open_row (unicode_refusal w t) ≡ false
shut_unicode w t = search (shut_if, shut_inner)

pub shut_escape : (w : Switches) (t : List ℕ) → is_open_row (escape_refusal w t) ≡ false
unfolding escape_refusal
shut_escape w [] = refl
shut_escape w (c ∷ []) = refl
shut_escape w (c ∷ letter ∷ t) = search (shut_if, shut_hex, shut_unicode)
