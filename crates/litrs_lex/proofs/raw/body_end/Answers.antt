-- Each turn goes past a quote that does not close the body, to the next byte that the search stops
-- at.
use Rattle.std.proofs.Common.{◌≡◌, ◌+◌, ◌-◌, ℕ, Bool, not, ◌&&◌, List, length, take, drop, refl, sym, ap, ◌∙◌, arith}
use Rattle.litrs_base.specs.Text.{first_passes, begins_with}
use Rattle.litrs_grammar.specs.Raw.{is_quote, raw_closing}
use Rattle.litrs_lex.proofs.FloatBytes.{rest_is}
use Rattle.litrs_lex.proofs.RawBytes.{passed_none, stop_made, after_quote, closes_there}
use Rattle.litrs_lex.proofs.raw.body_end.Goals as goal

abbrev is_inner : ℕ → List ℕ → Bool
is_inner n rest = first_passes is_quote rest && not (begins_with (raw_closing n) rest)

inner_there : (n place : ℕ) (bytes : List ℕ) (b : Bool) → b ≡ is_inner n (take (length bytes - place) (drop place bytes)) → is_inner n (drop place bytes) ≡ b
inner_there n place bytes b is = ap (is_inner n) (sym (rest_is bytes bytes place refl)) ∙ sym is

pub loop-what-init : goal.loop-what-init
loop-what-init c =
    let w = c.args.allowed in (
      stop_made w.unicode w.allow_nul c.args.hashes c.args.start c.args.start c.next_special-place.result c.args.bytes.now (omega arith) c.requires.0 c.requires.1
          (passed_none w.unicode w.allow_nul c.args.hashes _) c.next_special-place.ensures.place,
      omega arith,
      c.empty_at-mask.ensures.mask _ _ c.next_special-place.ensures.within,
    )

pub next_special_masked-requires-clause-from : goal.next_special_masked-requires-clause-from
next_special_masked-requires-clause-from c =
    let inner = inner_there c.args.hashes c.loop-what.place c.args.bytes.now c.is_inner_quote.result c.is_inner_quote.ensures ∙ c.loop-what-test.true in
    (after_quote c.args.allowed.unicode c.args.allowed.allow_nul c.args.hashes c.args.start c.loop-what.place c.args.bytes.now c.loop-what.invariant.0 inner).within

pub next_special_masked-requires-clause-after : goal.next_special_masked-requires-clause-after
next_special_masked-requires-clause-after c = omega (arith, c.loop-what.invariant.1)

pub loop-what-preserved : goal.loop-what-preserved
loop-what-preserved c =
    let w = c.args.allowed in
    let n = c.args.hashes in
    let place = c.loop-what.place in
    let bytes = c.args.bytes.now in
    let before = c.loop-what.invariant.0 in
    let low = before.from in
    let inner = inner_there n place bytes c.is_inner_quote.result c.is_inner_quote.ensures ∙ c.loop-what-test.true in
    let b = after_quote w.unicode w.allow_nul n c.args.start place bytes before inner in (
      stop_made w.unicode w.allow_nul n c.args.start (place + 1) c.next_special_masked.result.0 bytes (omega arith) b.within b.utf8 b.passed c.next_special_masked.ensures.place,
      c.next_special_masked.ensures.after,
      c.next_special_masked.ensures.mask,
    )

pub returns-clause-closing : goal.returns-clause-closing
returns-clause-closing c =
    let bytes = c.args.bytes.now in
    let outer = inner_there c.args.hashes c.loop-what.place bytes c.is_inner_quote.result c.is_inner_quote.ensures ∙ c.loop-what-test.false in
    λ quote. closes_there c.args.hashes (drop c.loop-what.place bytes) outer quote
