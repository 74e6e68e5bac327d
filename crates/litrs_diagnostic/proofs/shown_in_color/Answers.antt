-- The text is written as it is defined, and the definition has only codes besides.
use Rattle.std.proofs.lemmas.Result.{IfOk-weaker}
use Rattle.litrs_diagnostic.specs.Diagnostic.{colored_text}
use Rattle.litrs_diagnostic.specs.Rows.{message_of}
use Rattle.litrs_diagnostic.proofs.Clean.{codes_apart, diagnostic_clean}
use Rattle.litrs_diagnostic.proofs.Encodes.{written_characters}
use Rattle.litrs_diagnostic.proofs.shown_in_color.Goals as goal

pub returns-clause-text : goal.returns-clause-text
returns-clause-text c =
    let m = message_of c.args.diagnostic.now in
    IfOk-weaker c.format.result _ _
    (λ written is. written_characters written (colored_text m) is) c.format.ensures.ok

pub returns-clause-without_codes : goal.returns-clause-without_codes
returns-clause-without_codes c =
    let m = message_of c.args.diagnostic.now in
    IfOk-weaker c.format.result _ _
    (λ written is. rw (written_characters written (colored_text m) is) (codes_apart m))
    c.format.ensures.ok

pub returns-clause-printable : goal.returns-clause-printable
returns-clause-printable c =
    let m = message_of c.args.diagnostic.now in
    IfOk-weaker c.format.result _ _
    (λ written is. rw (written_characters written (colored_text m) is, codes_apart m) (diagnostic_clean m))
    c.format.ensures.ok
