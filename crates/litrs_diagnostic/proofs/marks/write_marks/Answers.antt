-- One mark below what has no column, and else one below each column.
use Rattle.std.proofs.Common.{rules, tests, ◌≡◌, sym, ap, ◌∙◌}
use Rattle.std.specs.List.{list_all}
use Rattle.std.specs.Str.{chars, encode_utf8_all}
use Rattle.std.proofs.Output.{has_written_of_eq}
use Rattle.std.proofs.lemmas.Iterator.{YieldsList-from_chars}
use Rattle.std.proofs.lemmas.Iterator.Search.{all_from_yields_List}
use Rattle.litrs_diagnostic.specs.Shown.{glyph_char}
use Rattle.litrs_diagnostic.proofs.Written.{is_thin, one_mark, many_marks}
use Rattle.litrs_diagnostic.proofs.marks.write_marks.Goals as goal

pub returns-then-all : goal.returns-then-all
returns-then-all g c = λ plain ok.
    let thin : c.all.result ≡ list_all is_thin (chars c.args.text.now) =
    all_from_yields_List is_thin _ _ c.all.result c.all.ensures.ran
    (YieldsList-from_chars c.args.text.now c.utf8.text cc) (λ x b q k. search (rules, tests)) in
    has_written_of_eq _ _ _ _ _ (ap encode_utf8_all
    (one_mark (glyph_char c.args.glyph) (chars c.args.text.now) (sym thin ∙ c.if-all.true))) (c.write_times.ensures plain ok)

pub returns-else-all : goal.returns-else-all
returns-else-all g c = λ plain ok.
    let thin : c.all.result ≡ list_all is_thin (chars c.args.text.now) =
    all_from_yields_List is_thin _ _ c.all.result c.all.ensures.ran
    (YieldsList-from_chars c.args.text.now c.utf8.text cc) (λ x b q k. search (rules, tests)) in
    has_written_of_eq _ _ _ _ _ (ap encode_utf8_all
    (many_marks (glyph_char c.args.glyph) (chars c.args.text.now) (sym thin ∙ c.if-all.false)))
    (c.write_below.ensures plain ok)
