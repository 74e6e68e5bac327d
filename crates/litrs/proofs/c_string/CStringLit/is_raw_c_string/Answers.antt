-- The second byte is that of the front.
use Rattle.std.proofs.Common.{ap, ◌∙◌}
use Rattle.litrs.specs.StringLiteral.{StringLiteral}
use Rattle.litrs_grammar.specs.Strings.{is_raw}
use Rattle.litrs.proofs.ParsedCStrings.{has_second, raw_by_second}
use Rattle.litrs.proofs.c_string.CStringLit.is_raw_c_string.Goals as goal

pub bounds-as_bytes-1 : goal.bounds-as_bytes-1
bounds-as_bytes-1 g c =
    let utf8 = rw (c.as_bytes.ensures.value, c.as_str.ensures) at c.as_bytes.ensures.utf8 in
    rw (c.as_bytes.ensures.value, c.as_str.ensures) (has_second _ _ utf8 c.self.inside.derived.1)

pub returns : goal.returns
returns g c =
    let utf8 = rw (c.as_bytes.ensures.value, c.as_str.ensures) at c.as_bytes.ensures.utf8 in
    rw (c.as_bytes.ensures.value, c.as_str.ensures) (raw_by_second _ _ utf8 c.self.inside.derived.1
    ∙ ap (λ (lit : StringLiteral g.row.B.Denot). is_raw lit.parts) c.self.view_is)
