-- The texts in which a literal begins, by their first characters. The Rust Reference, Tokens:
-- "Literals", and "Lifetimes and loop labels" for a `'` that does not begin a char.
use Rattle.std.specs.Prelude.{ℕ, Bool, false, not, ◌==◌, ◌&&◌, ◌||◌, List, [], ◌∷◌, if◌then◌else◌}
use Rattle.std.specs.Char.{is_ascii_digit}
use Rattle.unicode_ident.specs.Ident.{is_xid_continue}
use Rattle.litrs_base.specs.Characters.{double_quote, single_quote, letter_b, letter_c, letter_r}
use Rattle.litrs_base.specs.Text.{first_passes}
use Rattle.litrs_grammar.specs.Bool.{is_bool}
use Rattle.litrs_grammar.specs.Raw.{is_quote, is_hash}
use Rattle.litrs_grammar.specs.Suffix.{starts_identifier}

-- The characters at the front that can continue a name.
abbrev pub first_run : List ℕ → List ℕ
first_run [] = []
first_run (c ∷ t) = if is_xid_continue c then c ∷ first_run t else []

-- The name at the front of the text, which is empty if there is none.
abbrev pub first_name : List ℕ → List ℕ
first_name [] = []
first_name (c ∷ t) = if starts_identifier c then c ∷ first_run t else []

-- The part of a text after the characters at its front that can continue a name.
abbrev pub after_run : List ℕ → List ℕ
after_run [] = []
after_run (c ∷ t) = if is_xid_continue c then after_run t else (c ∷ t)

-- The part of a text after the name at its front.
abbrev pub after_name : List ℕ → List ℕ
after_name [] = []
after_name (c ∷ t) = if starts_identifier c then after_run t else (c ∷ t)

-- The part of a text after the hashes at its front.
abbrev pub after_hashes : List ℕ → List ℕ
after_hashes [] = []
after_hashes (c ∷ t) = if is_hash c then after_hashes t else (c ∷ t)

-- `true` for `'`.
abbrev pub is_single_quote : ℕ → Bool
is_single_quote c = c == single_quote

-- `true` iff the text after `'` starts with a name that is not followed by `'`, so it is a
-- lifetime.
abbrev pub begins_with_lifetime : List ℕ → Bool
begins_with_lifetime t =
    first_passes starts_identifier t && not (first_passes is_single_quote (after_name t))

-- `true` iff the text after `r`, `br` or `cr` starts with hashes, or none, and `"`.
abbrev pub opens_raw : List ℕ → Bool
opens_raw t = first_passes is_quote (after_hashes t)

-- `true` iff the text after `c` begins a C string.
abbrev pub opens_c_string : List ℕ → Bool
opens_c_string [] = false
opens_c_string (c ∷ t) = (c == double_quote) || ((c == letter_r) && opens_raw t)

-- `true` iff the text after `b` begins a byte or a byte string.
abbrev pub opens_bytes : List ℕ → Bool
opens_bytes [] = false
opens_bytes (c ∷ t) =
    (c == single_quote) || (c == double_quote) || ((c == letter_r) && opens_raw t)

-- `true` iff a literal begins at the front of the text. This is a decimal digit, `"`, or `'` that
-- does not begin a lifetime. It is also the front of a raw string, a byte, a byte string or a C
-- string, or a bool that is the whole name there.
abbrev pub opens : List ℕ → Bool
opens [] = false
opens (c ∷ t) =
    is_ascii_digit c || (c == double_quote) || ((c == single_quote) && not (begins_with_lifetime t))
    || ((c == letter_r) && opens_raw t) || ((c == letter_b) && opens_bytes t)
    || ((c == letter_c) && opens_c_string t) || is_bool (first_name (c ∷ t))
