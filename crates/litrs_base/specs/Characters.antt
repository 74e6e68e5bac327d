-- The names of the characters in literals. The Rust Reference, Tokens, Literals.
use Rattle.std.specs.Prelude.{ℕ, Bool, not, ◌==◌, ◌||◌, ◌&&◌, nat_lt, nat_le, true, if◌then◌else◌}

abbrev pub nul : ℕ
nul = 0

abbrev pub tab : ℕ
tab = 9

abbrev pub line_feed : ℕ
line_feed = 10

abbrev pub carriage_return : ℕ
carriage_return = 13

abbrev pub space : ℕ
space = 32

abbrev pub double_quote : ℕ
double_quote = 34

abbrev pub hash : ℕ
hash = 35

abbrev pub single_quote : ℕ
single_quote = 39

abbrev pub plus : ℕ
plus = 43

abbrev pub minus : ℕ
minus = 45

abbrev pub period : ℕ
period = 46

abbrev pub digit_zero : ℕ
digit_zero = 48

abbrev pub capital_e : ℕ
capital_e = 69

abbrev pub backslash : ℕ
backslash = 92

abbrev pub underscore : ℕ
underscore = 95

abbrev pub letter_b : ℕ
letter_b = 98

abbrev pub letter_c : ℕ
letter_c = 99

abbrev pub letter_e : ℕ
letter_e = 101

abbrev pub letter_n : ℕ
letter_n = 110

abbrev pub letter_r : ℕ
letter_r = 114

abbrev pub letter_t : ℕ
letter_t = 116

abbrev pub letter_u : ℕ
letter_u = 117

abbrev pub letter_x : ℕ
letter_x = 120

abbrev pub open_brace : ℕ
open_brace = 123

abbrev pub close_brace : ℕ
close_brace = 125

-- The white space that a continuation takes: space, tab and LF.
abbrev pub is_blank : ℕ → Bool
is_blank c = (c == space) || (c == tab) || (c == line_feed)

-- `true` iff the character is ASCII.
abbrev pub is_ascii : ℕ → Bool
is_ascii c = nat_lt c 128

-- `true` iff the number is a Unicode scalar value: a code point that is not a surrogate.
abbrev pub is_scalar : ℕ → Bool
is_scalar c = if nat_lt c 0xD800 then true else nat_le 0xE000 c && nat_lt c 0x110000

-- A character is ASCII if Unicode is off, as in byte strings.
abbrev pub fits_charset : (unicode : Bool) → ℕ → Bool
fits_charset unicode c = unicode || is_ascii c

-- A character or a value is not NUL if NUL is not allowed, as in C strings.
abbrev pub nul_is_allowed : (allow_nul : Bool) → ℕ → Bool
nul_is_allowed allow_nul c = allow_nul || not (c == nul)
