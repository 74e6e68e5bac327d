-- A body begins at a character.
use Rattle.litrs_prefix.proofs.Words.{IsCharBoundary-start}
use Rattle.litrs_prefix.proofs.plain.items_len.Goals as goal

pub items_end-requires : goal.items_end-requires
items_end-requires c = IsCharBoundary-start c.args.body.now c.utf8.body

pub items_end-requires-in-ByteString : goal.items_end-requires-in-ByteString
items_end-requires-in-ByteString c = IsCharBoundary-start c.args.body.now c.utf8.body

pub items_end-requires-in-CString : goal.items_end-requires-in-CString
items_end-requires-in-CString c = IsCharBoundary-start c.args.body.now c.utf8.body
