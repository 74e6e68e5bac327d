-- The result is the text before the LF at the end, without a CR.
use Rattle.std.proofs.Common.{◌≡◌, ◌++◌, [], ◌∷◌, Some, None, sym, lit<}
use Rattle.std.proofs.lemmas.Str.Pattern.{strip_suffix_char}
use Rattle.litrs_diagnostic.proofs.ByteLines.{line_end_stripped}
use Rattle.litrs_diagnostic.proofs.TextLines.{without_line_end-none}
use Rattle.litrs_diagnostic.proofs.lines.without_line_end.Goals as goal

pub returns-in-Some-clause-value : goal.returns-in-Some-clause-value
returns-in-Some-clause-value c =
    let whole : c.args.text.now ≡ c.in-Some.line.now ++ 10 ∷ [] =
    strip_suffix_char 10 c.args.text.now (Some c.in-Some.line) c.in-Some.ensures.cases
    (lit< tt) in
    let is = line_end_stripped c.args.text.now c.in-Some.line c.strip_suffix-in-Some.result whole
    c.strip_suffix-in-Some.ensures.cases in
    rw c.unwrap_or.ensures is.value

pub returns-in-Some-clause-front : goal.returns-in-Some-clause-front
returns-in-Some-clause-front c =
    let whole : c.args.text.now ≡ c.in-Some.line.now ++ 10 ∷ [] =
    strip_suffix_char 10 c.args.text.now (Some c.in-Some.line) c.in-Some.ensures.cases
    (lit< tt) in
    let is = line_end_stripped c.args.text.now c.in-Some.line c.strip_suffix-in-Some.result whole
    c.strip_suffix-in-Some.ensures.cases in
    rw c.unwrap_or.ensures is.front

pub returns-in-None-clause-value : goal.returns-in-None-clause-value
returns-in-None-clause-value c =
    sym (without_line_end-none c.args.text.now
    (strip_suffix_char 10 c.args.text.now None c.in-None.ensures.cases (lit< tt)))
