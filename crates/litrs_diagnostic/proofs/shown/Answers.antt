-- The text is written as it is defined, and the definition is of printable characters.
use Rattle.std.proofs.lemmas.Result.{IfOk-weaker}
use Rattle.litrs_diagnostic.specs.Diagnostic.{diagnostic_text}
use Rattle.litrs_diagnostic.specs.Rows.{message_of}
use Rattle.litrs_diagnostic.proofs.Clean.{diagnostic_clean}
use Rattle.litrs_diagnostic.proofs.Encodes.{written_characters}
use Rattle.litrs_diagnostic.proofs.shown.Goals as goal

pub returns-clause-text : goal.returns-clause-text
returns-clause-text c =
    let m = message_of c.args.diagnostic.now in
    IfOk-weaker c.format.result _ _
    (λ written is. written_characters written (diagnostic_text m) is) c.format.ensures.ok

pub returns-clause-printable : goal.returns-clause-printable
returns-clause-printable c =
    let m = message_of c.args.diagnostic.now in
    IfOk-weaker c.format.result _ _
    (λ written is. rw (written_characters written (diagnostic_text m) is) (diagnostic_clean m))
    c.format.ensures.ok
