-- `\u{`, the digits and `}`.
use Rattle.litrs_build.proofs.CasedSpellings.{unicode_pushed}
use Rattle.litrs_build.proofs.spelling.Spelling.push_to.Goals as goal

pub returns-in_ok-push-in-Unicode : goal.returns-in_ok-push-in-Unicode
returns-in_ok-push-in-Unicode c =
    unicode_pushed c.args.case c.args.self c.in-Unicode.c c.from.result _ _ _ _ c.in-Unicode.is
    c.from.ensures c.in_ok-push_str-in-Unicode.ensures.bytes
    c.in_ok-push_hex-in-Unicode.ensures c.in_ok-push-in-Unicode.ensures.bytes
