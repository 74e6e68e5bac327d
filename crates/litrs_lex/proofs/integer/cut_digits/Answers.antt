-- The prefix and the digits are cut on character boundaries.
use Rattle.std.proofs.Common.{arith}
use Rattle.litrs_lex.proofs.IntegerBytes.{digits_cut_made}
use Rattle.litrs_lex.proofs.integer.cut_digits.Goals as goal

pub overflow_add-end_main : goal.overflow_add-end_main
overflow_add-end_main c =
    let cut = digits_cut_made c.args.input.now c.as_bytes-bytes.result.now c.prefix-start_main.result.now c.base_of-base.result c.run_end.result
    c.utf8.input c.as_bytes-bytes.ensures.value c.base_of-base.ensures c.prefix-start_main.ensures c.run_end.ensures.run in
    let within = cut.within in
    let len = c.as_bytes-bytes.ensures.len in
    let small = c.as_bytes-bytes.type_inv.0 in
    omega arith

pub returns : goal.returns
returns c = digits_cut_made c.args.input.now c.as_bytes-bytes.result.now c.prefix-start_main.result.now c.base_of-base.result c.run_end.result
    c.utf8.input c.as_bytes-bytes.ensures.value c.base_of-base.ensures c.prefix-start_main.ensures c.run_end.ensures.run
