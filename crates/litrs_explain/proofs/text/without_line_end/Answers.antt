-- The result is the text before the LF at the end, without a CR.
use Rattle.std.proofs.Common.{◌≡◌, ◌++◌, [], ◌∷◌, Some, None, sym, lit<}
use Rattle.std.proofs.lemmas.Str.Pattern.{strip_suffix_char}
use Rattle.litrs_diagnostic.proofs.ByteLines.{line_end_stripped}
use Rattle.litrs_diagnostic.proofs.TextLines.{without_line_end-none}
use Rattle.litrs_explain.proofs.text.without_line_end.Goals as goal

pub returns-in-Some : goal.returns-in-Some
returns-in-Some c =
    let whole : c.args.line.now ≡ c.in-Some.line.now ++ 10 ∷ [] =
    strip_suffix_char 10 c.args.line.now (Some c.in-Some.line) c.in-Some.ensures.cases (lit< tt) in
    let is = line_end_stripped c.args.line.now c.in-Some.line c.strip_suffix-in-Some.result whole
    c.strip_suffix-in-Some.ensures.cases in
    rw c.unwrap_or.ensures is.value

pub returns-in-None : goal.returns-in-None
returns-in-None c =
    sym (without_line_end-none c.args.line.now
    (strip_suffix_char 10 c.args.line.now None c.in-None.ensures.cases (lit< tt)))
