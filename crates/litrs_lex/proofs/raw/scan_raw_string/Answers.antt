-- The refusal by the table, with both its spans.
use Rattle.std.proofs.Common.{◌≡◌, ℕ, Bool, true, List, Option, Some, sym, ap, subst, ◌∙◌}
use Rattle.litrs_base.specs.Refusal.{Refusal}
use Rattle.litrs_base.specs.declared.quotes.Switches.{Switches}
use Rattle.litrs_grammar.specs.Raw.{raw_refusal}
use Rattle.litrs_lex.specs.RawCut.{IsRawCut}
use Rattle.litrs_lex.specs.Unescaped.{switches}
use Rattle.litrs_lex.proofs.RawBytes.{span_in_order, raw_refused}
use Rattle.litrs_lex.proofs.raw.scan_raw_string.Goals as goal

-- the refusal of the text, by the switches that were asked for
refused : (unicode allow_nul : Bool) (w : Switches) (offset : ℕ) (t : List ℕ) {r : Option Refusal} → w ≡ switches unicode true allow_nul →
    raw_refusal w.unicode w.allow_nul offset t ≡ r → raw_refusal unicode allow_nul offset t ≡ r
refused unicode allow_nul w offset t {r} same is = subst (λ (w : Switches). raw_refusal w.unicode w.allow_nul offset t ≡ r) same is

pub in_text-requires : goal.in_text-requires
in_text-requires c = span_in_order c.args.unicode c.args.allow_nul c.args.offset c.args.input.now c.in-Err.span c.in-Err.kind c.utf8.input c.requires
    (refused c.args.unicode c.args.allow_nul _ c.args.offset _ c.switches.ensures c.in-Err.ensures.refused)

pub returns-in-Err-clause-refused : goal.returns-in-Err-clause-refused
returns-in-Err-clause-refused c =
    raw_refused c.args.unicode c.args.allow_nul c.args.offset c.args.input.now c.in_text.result c.utf8.input c.requires
    (refused c.args.unicode c.args.allow_nul _ c.args.offset _ c.switches.ensures c.in-Err.ensures.refused ∙ ap Some (sym c.in_text.ensures.refusal)) c.in_text.ensures.char_span

pub returns-in-Ok-clause-ok : goal.returns-in-Ok-clause-ok
returns-in-Ok-clause-ok c =
    subst (λ (w : Switches). IsRawCut w.unicode w.allow_nul c.args.offset c.args.input.now c.in-Ok.cut) c.switches.ensures c.in-Ok.ensures.ok
