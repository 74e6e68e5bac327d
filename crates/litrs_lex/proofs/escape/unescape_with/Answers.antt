-- Each exit by its row.
use Rattle.std.proofs.Common.{◌∷◌, drop, ap, ◌∙◌, sym, arith, Some}
use Rattle.litrs_lex.proofs.EscapeBytes.{escape_is_refused, err_refused, letter_bytes, letter_chars, begins_letter, end_row, few_bytes, unicode_off_row}
use Rattle.litrs_lex.specs.Unescaped.{switches}
use Rattle.litrs_grammar.specs.Escape.{escape_refusal}
use Rattle.std.specs.Str.{chars}
use Rattle.litrs_lex.proofs.escape.unescape_with.Goals as goal

pub returns-in_default-clause-refused : goal.returns-in_default-clause-refused
returns-in_default-clause-refused c =
    escape_is_refused _ _ c.in_text.result c.requires
    (end_row _ c.args.input.now c.utf8.input c.requires (few_bytes _ _ c.as_bytes.ensures.value c.in_default.ensures.lookup.3) ∙ ap Some (sym c.in_text.ensures.refusal))
    c.in_text.ensures.char_span

pub unescape_hex-requires : goal.unescape_hex-requires
unescape_hex-requires c =
    begins_letter c.args.input.now 120
    (letter_bytes c.args.input.now c.as_bytes.result.now 120 c.utf8.input c.requires c.as_bytes.ensures.value c.in-Some.ensures.lookup.3.0 (sym c.in-120.is ∙ c.in-Some.ensures.lookup.3.1 0))

pub unescape_unicode-requires : goal.unescape_unicode-requires
unescape_unicode-requires c = record {
  begins = begins_letter c.args.input.now 117
      (letter_bytes c.args.input.now c.as_bytes.result.now 117 c.utf8.input c.requires c.as_bytes.ensures.value c.in-Some.ensures.lookup.3.0 (sym c.in-117.is ∙ c.in-Some.ensures.lookup.3.1 0));
  unicode = c.if-allowed.true;
}

pub returns-else-allowed-clause-refused : goal.returns-else-allowed-clause-refused
returns-else-allowed-clause-refused c =
    let is = letter_bytes c.args.input.now c.as_bytes.result.now 117 c.utf8.input c.requires c.as_bytes.ensures.value c.in-Some.ensures.lookup.3.0 (sym c.in-117.is ∙ c.in-Some.ensures.lookup.3.1 0) in
    escape_is_refused _ _ c.in_text-else-allowed.result c.requires
    (ap (escape_refusal c.args.allowed) (letter_chars c.args.input.now 117 (omega arith) is)
    ∙ (ap (λ v. escape_refusal (switches v c.args.allowed.byte_escapes c.args.allowed.allow_nul) (92 ∷ 117 ∷ chars (drop 2 c.args.input.now))) c.if-allowed.false
    ∙ (unicode_off_row _ _ _ ∙ ap Some (sym c.in_text-else-allowed.ensures.refusal))))
    c.in_text-else-allowed.ensures.char_span

pub unescape_simple-requires : goal.unescape_simple-requires
unescape_simple-requires c = record {
  begins = begins_letter c.args.input.now c.in-Some.letter.now
      (letter_bytes c.args.input.now c.as_bytes.result.now c.in-Some.letter.now c.utf8.input c.requires c.as_bytes.ensures.value c.in-Some.ensures.lookup.3.0 (c.in-Some.ensures.lookup.3.1 0));
  no_hex = λ is. omega arith;
  no_unicode = λ is. omega arith;
}

pub returns-in-120-clause-refused : goal.returns-in-120-clause-refused
returns-in-120-clause-refused c = err_refused _ _ c.unescape_hex.result c.requires c.unescape_hex.ensures.refused

pub returns-then-allowed-clause-refused : goal.returns-then-allowed-clause-refused
returns-then-allowed-clause-refused c = err_refused _ _ c.unescape_unicode.result c.requires c.unescape_unicode.ensures.refused

pub returns-in_default-letter-clause-refused : goal.returns-in_default-letter-clause-refused
returns-in_default-letter-clause-refused c = err_refused _ _ c.unescape_simple.result c.requires c.unescape_simple.ensures.refused
