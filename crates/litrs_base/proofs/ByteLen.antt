-- The length of a text in bytes.
use Rattle.std.proofs.Common.{◌≡◌, ℕ, ◌+◌, ◌<◌, ◌≤◌, Bool, true, List, ◌∷◌, length, ap, ◌∙◌, length-append}
use Rattle.std.specs.Prelude.{encode_utf8, encode_utf8_all}
use Rattle.std.specs.List.{list_all}
use Rattle.std.proofs.lemmas.Bool.{lt-ltb}
use Rattle.std.proofs.lemmas.Str.{length-encode, length-le-encodes, len_utf8_ascii}
use Rattle.litrs_base.specs.Text.{byte_len}
use Rattle.litrs_base.proofs.Spans.{is_ascii_char, byte_len_ascii}
use Rattle.litrs_base.proofs.Runs.{list_all-weaken}

-- a character of ASCII is one byte
pub byte_len_one_ascii : (c : ℕ) (t : List ℕ) → c < 128 → byte_len (c ∷ t) ≡ 1 + byte_len t
byte_len_one_ascii c t h = length-append (encode_utf8 c) (encode_utf8_all t) ∙ ap (λ n. n + byte_len t) (length-encode c ∙ len_utf8_ascii c h)

pub length-le-byte_len : (t : List ℕ) → length t ≤ byte_len t
length-le-byte_len t = length-le-encodes t

-- a text of ASCII characters alone
pub byte_len_all_ascii : (p : ℕ → Bool) → ((c : ℕ) → p c ≡ true → c < 128) → (t : List ℕ) → list_all p t ≡ true → byte_len t ≡ length t
byte_len_all_ascii p ascii t h = byte_len_ascii t (list_all-weaken p is_ascii_char (λ c e. lt-ltb c 128 (ascii c e)) t h)
