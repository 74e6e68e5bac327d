-- A line that is answered, or is not UTF-8, does not end the prompt.
use Rattle.std.proofs.Common.{ℕ, List, sym, subst, lit<}
use Rattle.std.specs.Prelude.{codes}
use Rattle.std.proofs.lemmas.Bool.{false≢true}
use Rattle.std.proofs.lemmas.Str.Pattern.{strip_suffix_char}
use Rattle.uses_prompt.specs.Answered.{IsWithoutReturn}
use Rattle.uses_prompt.proofs.Said.{without_return, without_return_is_unique, quit_is_utf8}
use Rattle.uses_prompt.proofs.reply.Goals as goal

pub returns-in_ok-answer-in_default : goal.returns-in_ok-answer-in_default
returns-in_ok-answer-in_default c =
    let stripped = c.unwrap_or.result.now in
    let without = subst (λ (bytes : List ℕ). IsWithoutReturn bytes stripped) c.in-Ok.ensures.cases.0
    (without_return c.strip_suffix.result c.in-Ok.line c.unwrap_or.result (strip_suffix_char 13
    c.in-Ok.line.now c.strip_suffix.result c.strip_suffix.ensures.cases (lit< tt))
    c.unwrap_or.ensures) in
    record {
      quits = (
        λ e. absurd (false≢true (sym e)),
        λ quits. absurd (c.in_default.not-text
            (without_return_is_unique c.args.line.now stripped (codes ":quit") without quits)),
      );
      stays = tt;
      answered = record {
        text = λ _. (stripped, without, c.in_ok-answer-in_default.ensures);
        ignored = λ not. absurd (not c.in-Ok.ensures.cases.1);
      };
    }

pub returns-in_ok-format-in-Err-clause-quits : goal.returns-in_ok-format-in-Err-clause-quits
returns-in_ok-format-in-Err-clause-quits c = (λ e. absurd (false≢true (sym e)), λ quits. absurd (c.in-Err.ensures.cases.0 (quit_is_utf8 c.args.line.now quits)))
