-- The rest is tested from after its ASCII letters, digits and underscores on.
use Rattle.std.proofs.Common.{◌≡◌, ℕ, ◌<◌, ◌≤◌, not, get_or, length, drop, sym, ap, subst, ◌∙◌, arith}
use Rattle.std.specs.List.{list_all, prefix_len}
use Rattle.std.specs.Str.{chars, IsCharBoundary}
use Rattle.std.proofs.lemmas.Bool.{ltb-true}
use Rattle.std.proofs.lemmas.Str.{IsCharBoundary-from_drop}
use Rattle.unicode_ident.specs.Ident.{is_xid_continue}
use Rattle.litrs_base.proofs.Chars.{passing_front}
use Rattle.litrs_lex.proofs.SuffixBytes.{is_word, words_are_ascii, continues_after, nothing_continues, ascii_stops}
use Rattle.litrs_lex.proofs.parse.continues_identifier.Goals as goal

pub range_from-requires : goal.range_from-requires
range_from-requires c = λ _.
    let rest = c.args.rest.now in
    let front = passing_front is_word rest words_are_ascii c.utf8.rest in
    let end : c.run_end-end.result ≡ prefix_len is_word rest = c.run_end-end.ensures.run ∙ ap (prefix_len is_word) c.as_bytes-bytes.ensures.value in
    subst (λ (n : ℕ). IsCharBoundary rest n) (sym end) (IsCharBoundary-from_drop rest (prefix_len is_word rest) front.within front.utf8)

pub returns-in-None : goal.returns-in-None
returns-in-None c =
    let rest = c.args.rest.now in
    let end : c.run_end-end.result ≡ prefix_len is_word rest = c.run_end-end.ensures.run ∙ ap (prefix_len is_word) c.as_bytes-bytes.ensures.value in
    let past : length rest ≤ prefix_len is_word rest = omega (arith, end, ap length c.as_bytes-bytes.ensures.value, c.in-None.ensures.lookup.3) in
    sym (continues_after rest c.utf8.rest ∙ nothing_continues rest (prefix_len is_word rest) past)

pub returns-then-not-is_ascii : goal.returns-then-not-is_ascii
returns-then-not-is_ascii c =
    let rest = c.args.rest.now in
    let end : c.run_end-end.result ≡ prefix_len is_word rest = c.run_end-end.ensures.run ∙ ap (prefix_len is_word) c.as_bytes-bytes.ensures.value in
    c.continues_in_unicode.ensures ∙ (ap (λ t. list_all is_xid_continue (chars t)) c.range_from.ensures.value
    ∙ (ap (λ n. list_all is_xid_continue (chars (drop n rest))) end ∙ sym (continues_after rest c.utf8.rest)))

pub returns-else-not-is_ascii : goal.returns-else-not-is_ascii
returns-else-not-is_ascii c =
    let rest = c.args.rest.now in
    let next = c.in-Some.next.now in
    let end : c.run_end-end.result ≡ prefix_len is_word rest = c.run_end-end.ensures.run ∙ ap (prefix_len is_word) c.as_bytes-bytes.ensures.value in
    let within : prefix_len is_word rest < length rest = omega (arith, end, ap length c.as_bytes-bytes.ensures.value, c.in-Some.ensures.lookup.3.0) in
    let there : get_or rest (prefix_len is_word rest) next ≡ next =
    sym (c.in-Some.ensures.lookup.1 ∙ (λ i. get_or (c.as_bytes-bytes.ensures.value i) (end i) next)) in
    ap not (c.is_ascii.ensures ∙ sym c.if-not-is_ascii.ensures)
    ∙ sym (continues_after rest c.utf8.rest ∙ ascii_stops rest next there (ltb-true next 128 (sym c.if-not-is_ascii.ensures)) within)
