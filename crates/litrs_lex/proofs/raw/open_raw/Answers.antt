-- Each exit is a row of the refusals of a raw string.
use Rattle.std.proofs.Common.{◌≡◌, ◌+◌, List, [], ◌∷◌, ℕ, drop, get_or, Some, refl, sym, ap, ◌∙◌, arith}
use Rattle.std.proofs.lemmas.Bool.{ne_eqb}
use Rattle.std.proofs.lemmas.Str.{IsUtf8-drop, IsCharBoundary-after_ascii}
use Rattle.litrs_base.specs.declared.err.ParseErrorKind.TheVariants.{TooManyHashes}
use Rattle.litrs_base.specs.Refusal.{spanning}
use Rattle.litrs_grammar.specs.Raw.{hash_len}
use Rattle.litrs_lex.specs.RawCut.{IsRawOpening}
use Rattle.litrs_lex.proofs.RawBytes.{cons_at, none_at, after_hashes_is, hashes_at, opening_nothing, opening_many, opening_other, inside_text}
use Rattle.litrs_lex.proofs.raw.open_raw.Goals as goal

pub returns-then-opening-bytes-clause-refused : goal.returns-then-opening-bytes-clause-refused
returns-then-opening-bytes-clause-refused c = λ unicode allow_nul.
    let text = c.args.input.now in
    let bytes = c.as_bytes-bytes.result.now in
    let same = c.as_bytes-bytes.ensures.value in
    let offset = c.args.offset in
    let n = c.hash_len-hashes.result in
    let at = hashes_at bytes text offset n same c.requires.0 c.hash_len-hashes.ensures.len c.hash_len-hashes.ensures.within in
    opening_nothing unicode allow_nul offset (drop offset text) (IsUtf8-drop text offset c.utf8.input c.requires)
    (after_hashes_is text offset n at.0 ∙ none_at bytes text (offset + n) same c.if-opening-bytes.true)

pub returns-then-hashes-gt-MAX_HASHES-clause-refused : goal.returns-then-hashes-gt-MAX_HASHES-clause-refused
returns-then-hashes-gt-MAX_HASHES-clause-refused c = λ unicode allow_nul.
    let text = c.args.input.now in
    let bytes = c.as_bytes-bytes.result.now in
    let same = c.as_bytes-bytes.ensures.value in
    let offset = c.args.offset in
    let n = c.hash_len-hashes.result in
    let at = hashes_at bytes text offset n same c.requires.0 c.hash_len-hashes.ensures.len c.hash_len-hashes.ensures.within in
    let is = after_hashes_is text offset n at.0 ∙ cons_at bytes text (offset + n) (get_or bytes (offset + n) 0) same at.1 c.if-opening-bytes.false refl in
    opening_many unicode allow_nul offset (get_or bytes (offset + n) 0) (drop offset text) (drop (offset + n + 1) text) (IsUtf8-drop text offset c.utf8.input c.requires) is
    (omega (arith, at.0, c.if-hashes-gt-MAX_HASHES.true))
    ∙ ap (λ k. Some (spanning offset (offset + k) TooManyHashes)) (sym at.0)

pub returns-then-bytes-opening-ne34-clause-refused : goal.returns-then-bytes-opening-ne34-clause-refused
returns-then-bytes-opening-ne34-clause-refused c = λ unicode allow_nul.
    let text = c.args.input.now in
    let bytes = c.as_bytes-bytes.result.now in
    let same = c.as_bytes-bytes.ensures.value in
    let offset = c.args.offset in
    let n = c.hash_len-hashes.result in
    let at = hashes_at bytes text offset n same c.requires.0 c.hash_len-hashes.ensures.len c.hash_len-hashes.ensures.within in
    let is = after_hashes_is text offset n at.0 ∙ cons_at bytes text (offset + n) (get_or bytes (offset + n) 0) same at.1 c.if-opening-bytes.false refl in
    opening_other unicode allow_nul offset (get_or bytes (offset + n) 0) (drop offset text) (drop (offset + n + 1) text) (IsUtf8-drop text offset c.utf8.input c.requires) is
    (omega (arith, at.0, c.if-hashes-gt-MAX_HASHES.false)) (ne_eqb (get_or bytes (offset + n) 0) 34 c.if-bytes-opening-ne34.true)

-- the hashes that there are, and the quote after them
quote_after : (offset n : ℕ) (text : List ℕ) (opening : ℕ × ℕ) → n ≡ hash_len (drop offset text) → IsRawOpening offset text opening →
    drop (offset + n) text ≡ 34 ∷ drop opening.1 text
quote_after offset n text opening count is = ap (λ k. drop (offset + k) text) (count ∙ sym is.count) ∙ is.quote

pub returns-then-opening-bytes-clause-none : goal.returns-then-opening-bytes-clause-none
returns-then-opening-bytes-clause-none c = λ failed opening is.
    let text = c.args.input.now in
    let bytes = c.as_bytes-bytes.result.now in
    let same = c.as_bytes-bytes.ensures.value in
    let n = c.hash_len-hashes.result in
    let at = hashes_at bytes text c.args.offset n same c.requires.0 c.hash_len-hashes.ensures.len c.hash_len-hashes.ensures.within in
    let both : [] ≡ 34 ∷ drop opening.1 text = sym (none_at bytes text (c.args.offset + n) same c.if-opening-bytes.true) ∙ quote_after c.args.offset n text opening at.0 is in cc

pub returns-then-hashes-gt-MAX_HASHES-clause-none : goal.returns-then-hashes-gt-MAX_HASHES-clause-none
returns-then-hashes-gt-MAX_HASHES-clause-none c = λ failed opening is.
    let text = c.args.input.now in
    let bytes = c.as_bytes-bytes.result.now in
    let same = c.as_bytes-bytes.ensures.value in
    let at = hashes_at bytes text c.args.offset c.hash_len-hashes.result same c.requires.0 c.hash_len-hashes.ensures.len c.hash_len-hashes.ensures.within in
    let few = is.few in
    let count = is.count in
    omega (arith, at.0, count, few, c.if-hashes-gt-MAX_HASHES.true)

pub returns-then-bytes-opening-ne34-clause-none : goal.returns-then-bytes-opening-ne34-clause-none
returns-then-bytes-opening-ne34-clause-none c = λ failed opening is.
    let text = c.args.input.now in
    let bytes = c.as_bytes-bytes.result.now in
    let same = c.as_bytes-bytes.ensures.value in
    let n = c.hash_len-hashes.result in
    let byte = get_or bytes (c.args.offset + n) 0 in
    let at = hashes_at bytes text c.args.offset n same c.requires.0 c.hash_len-hashes.ensures.len c.hash_len-hashes.ensures.within in
    let other = cons_at bytes text (c.args.offset + n) byte same at.1 c.if-opening-bytes.false refl in
    c.if-bytes-opening-ne34.true (ap (λ (l : List ℕ). get_or l 0 0) (sym other ∙ quote_after c.args.offset n text opening at.0 is))

pub returns-clause-ok : goal.returns-clause-ok
returns-clause-ok c =
    let text = c.args.input.now in
    let bytes = c.as_bytes-bytes.result.now in
    let same = c.as_bytes-bytes.ensures.value in
    let offset = c.args.offset in
    let n = c.hash_len-hashes.result in
    let at = hashes_at bytes text offset n same c.requires.0 c.hash_len-hashes.ensures.len c.hash_len-hashes.ensures.within in
    let quote : get_or text (offset + n) 0 ≡ 34 = ap (λ (l : List ℕ). get_or l (offset + n) 0) (sym same) ∙ c.if-bytes-opening-ne34.false in record {
      count = at.0;
      few = omega (arith, c.if-hashes-gt-MAX_HASHES.false);
      quote = cons_at bytes text (offset + n) 34 same at.1 c.if-opening-bytes.false c.if-bytes-opening-ne34.false;
      start = refl;
      boundary = IsCharBoundary-after_ascii text (offset + n) c.utf8.input (inside_text bytes text (offset + n) same at.1 c.if-opening-bytes.false) (omega arith);
    }
