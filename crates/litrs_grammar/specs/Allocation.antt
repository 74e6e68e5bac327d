-- The texts for which a parse may allocate memory. The Rust Reference does not define this.
use Rattle.std.specs.Prelude.{ℕ, Bool, true, false, ◌==◌, ◌&&◌, ◌||◌, not, List, codes}
use Rattle.std.specs.List.{list_any}
use Rattle.litrs_base.specs.Characters.{backslash}
use Rattle.litrs_base.specs.Text.{is_empty, begins_with}
use Rattle.litrs_grammar.specs.Quoted.{body_text}
use Rattle.litrs_grammar.specs.Literal.{StringParts, quoted_parts, raw_parts, string_value, Derivation, a_bool, an_integer, a_float, a_char, a_byte, a_string, a_byte_string, a_c_string}

-- `true` iff the text contains a backslash.
abbrev pub has_backslash : List ℕ → Bool
has_backslash t = list_any (λ c. c == backslash) t

-- A parse may allocate for every C string, because its value ends with a zero byte. It may also
-- allocate for a quoted string or byte string with a backslash, because its value differs from its
-- body.
abbrev pub may_allocate : List ℕ → Bool
may_allocate t =
    (begins_with (codes "\"") t || begins_with (codes "b\"") t) && has_backslash t
    || begins_with (codes "c\"") t || begins_with (codes "cr") t

-- `true` iff the body is quoted and contains a backslash.
abbrev pub has_escapes : StringParts → Bool
has_escapes (quoted_parts d) = has_backslash (body_text d.items)
has_escapes (raw_parts d) = false

-- Like `may_allocate`, for the parts of a literal: it is a C string, or its body is quoted and
-- contains a backslash.
abbrev pub allocates : Derivation → Bool
allocates (a_bool b) = false
allocates (an_integer d) = false
allocates (a_float d) = false
allocates (a_char d) = false
allocates (a_byte d) = false
allocates (a_string d) = has_escapes d
allocates (a_byte_string d) = has_escapes d
allocates (a_c_string d) = true

-- `true` iff the value takes memory if it is allocated: it is not empty, or the zero byte of a C
-- string follows it. It is `true` for the kinds whose value is never allocated.
abbrev pub takes_memory : Derivation → Bool
takes_memory (a_string d) = not (is_empty (string_value d))
takes_memory (a_byte_string d) = not (is_empty (string_value d))
takes_memory d = true
