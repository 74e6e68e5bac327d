-- The bytes so far, and those that the rest adds, are all bytes.
use Rattle.std.proofs.Common.{◌≡◌, ◌++◌, length, encode_utf8_all, string_bytes}
use Rattle.litrs_grammar.specs.Quoted.{body_text}
use Rattle.litrs_build.specs.Written.{byte_items}
use Rattle.litrs_build.proofs.byte_strings.push_bytes.Given as goal

abbrev pub invariant-loop-rest : goal.invariant-loop-rest
invariant-loop-rest l = string_bytes l.text ++ encode_utf8_all (body_text (byte_items l.rest))
    ≡ string_bytes l.fn.text ++ encode_utf8_all (body_text (byte_items l.fn.value))

abbrev pub decreases-loop-rest : goal.decreases-loop-rest
decreases-loop-rest l = length l.rest
