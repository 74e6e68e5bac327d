-- A refusal without a span has no character span.
use Rattle.litrs_base.proofs.CharEnds.{no_span}
use Rattle.litrs.proofs.cut.start_refusal.Goals as goal

pub returns-in-ByteString-clause-char_span : goal.returns-in-ByteString-clause-char_span
returns-in-ByteString-clause-char_span c = no_span _ _ _ c.new.ensures.refusal

pub returns-in-CString-clause-char_span : goal.returns-in-CString-clause-char_span
returns-in-CString-clause-char_span c = no_span _ _ _ c.new-in-CString.ensures.refusal
