-- The first byte that fails ends the run.
use Rattle.litrs_lexer.proofs.Runs.{first_byte, no_byte}
use Rattle.memchr.specs.Find.{is_byte}
use Rattle.litrs_lexer.proofs.comment.line_len.Goals as goal

pub returns-in-Some : goal.returns-in-Some
returns-in-Some c = first_byte (is_byte 10) c.args.bytes.now c.in-Some.len c.in-Some.ensures

pub returns-in-None : goal.returns-in-None
returns-in-None c = no_byte (is_byte 10) c.args.bytes.now c.in-None.ensures
