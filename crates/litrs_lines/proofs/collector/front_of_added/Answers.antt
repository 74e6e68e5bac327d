-- The text is cut where the line was added.
use Rattle.std.proofs.Common.{◌∙◌, sym}
use Rattle.std.specs.Prelude.{string_bytes}
use Rattle.std.proofs.lemmas.Str.{IsUtf8-string_bytes}
use Rattle.litrs_lines.proofs.StepLemmas.{may_be_cut}
use Rattle.litrs_lines.proofs.collector.front_of_added.Goals as goal

pub front-requires : goal.front-requires
front-requires c =
    (string_bytes c.args.held.now, c.requires.held, IsUtf8-string_bytes c.args.held.now, sym (c.as_str.ensures.value ∙ c.in_ok-push_str.ensures.bytes))

pub truncate-requires : goal.truncate-requires
truncate-requires c =
    λ _. may_be_cut (string_bytes c.args.held.now) (string_bytes c.push_str.new.self) c.len-len.result (c.args.line.now, c.utf8.line, c.in_ok-push_str.ensures.bytes)
    (c.len-len.ensures ∙ c.args.held.now.bytes.ok.0)
