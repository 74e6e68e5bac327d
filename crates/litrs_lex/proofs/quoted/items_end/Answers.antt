-- At the first quote.
use Rattle.std.proofs.Common.{◌∙◌, inl}
use Rattle.std.specs.Prelude.{⊤}
use Rattle.litrs_lex.proofs.QuotedBytes.{quote_seen}
use Rattle.litrs_lex.proofs.Readings.{read_run}
use Rattle.litrs_lex.proofs.quoted.items_end.Goals as goal

pub returns-then-begins_with_byte : goal.returns-then-begins_with_byte
returns-then-begins_with_byte g c =
    let is = c.beginning-from.ensures in
    let quote = quote_seen _ _ _ (c.as_bytes.ensures.value ∙ c.range_from.ensures.value) c.begins_with_byte.ensures c.if-begins_with_byte.true in
    record {
      read = read_run _ c.args.input.now _ _ _ _ (λ _. ⊤) c.utf8.input is.read is.run (λ v _. tt);
      stops = is.run.stops;
      ends = inl quote;
    }
