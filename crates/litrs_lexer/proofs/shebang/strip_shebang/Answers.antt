-- The text after the first line of an end of the text is an end of the text.
use Rattle.litrs_prefix.proofs.Ends.{end_of_end}
use Rattle.litrs_lexer.proofs.shebang.strip_shebang.Goals as goal

pub returns-else-opens_attribute-clause-end : goal.returns-else-opens_attribute-clause-end
returns-else-opens_attribute-clause-end c =
    end_of_end c.args.text.now c.without_byte_order_mark-text.result.now c.after_line.result.now c.without_byte_order_mark-text.ensures.end c.after_line.ensures.end
