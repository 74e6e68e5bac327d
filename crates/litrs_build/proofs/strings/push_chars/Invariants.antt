use Rattle.std.proofs.Common.{◌≡◌, ◌++◌, true, length, encode_utf8_all, string_bytes}
use denote.Text.{Utf8}
use denote.Shadow.{shadow}
use Rattle.std.specs.Str.{chars}
use Rattle.litrs_grammar.specs.Quoted.{body_text}
use Rattle.litrs_build.specs.Written.{char_items}
use Rattle.litrs_build.proofs.strings.push_chars.Given as goal

abbrev pub invariant-loop-rest : goal.invariant-loop-rest
invariant-loop-rest l = shadow (Utf8 l.rest)
    × (string_bytes l.text
    ++ encode_utf8_all (body_text (char_items l.follows_mark (chars l.rest)))
    ≡ string_bytes l.fn.text ++ encode_utf8_all (body_text (char_items true (chars l.fn.value))))

abbrev pub decreases-loop-rest : goal.decreases-loop-rest
decreases-loop-rest l = length l.rest
