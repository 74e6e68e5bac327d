-- The main part is that of an integer, with or without groups.
use Rattle.std.proofs.Common.{◌≡◌, ℕ, List, [], ◌∷◌, ◌++◌, map, ap, sym, subst, ◌∙◌, string_bytes}
use Rattle.std.specs.Prelude.{filter, if◌then◌else◌}
use Rattle.std.specs.Char.{is_ascii_digit}
use Rattle.std.specs.Str.{chars, IsAscii}
use Rattle.std.proofs.lemmas.Result.{IfOk-weaker}
use Rattle.litrs_base.specs.Base.{prefix}
use Rattle.litrs_base.specs.Numeral.{is_no_underscore}
use Rattle.litrs_base.specs.Text.{first_passes}
use Rattle.litrs_grammar.specs.Integer.{integer_text}
use Rattle.litrs.specs.Digits.{digits_of}
use Rattle.litrs.specs.IntegerLiteral.{integer_parts}
use Rattle.litrs_build.specs.BuiltInteger.{needs_separator}
use Rattle.litrs_build.specs.RewrittenInteger.{cased, rewritten_integer}
use Rattle.litrs_build.specs.WrittenDigits.{grouped}
use Rattle.litrs_build.proofs.CasedIntegers.{kept_is, grouped_is}
use Rattle.litrs_build.proofs.IntegerLemmas.{main_bytes, main_is_ascii}
use Rattle.litrs_build.proofs.integer_style.rewritten_integer.Goals as goal

pub returns-in-None : goal.returns-in-None
returns-in-None g c =
    let d = integer_parts c.args.lit.now in
    let h = c.raw_input.ensures.literal.grammar in
    let main = c.as_bytes-main.result.now in
    let same = main_bytes d h c.raw_main_part.result.now main
    c.raw_main_part.utf8 c.raw_main_part.ensures c.as_bytes-main.ensures.value in
    IfOk-weaker c.kept_text.result
    (λ text. string_bytes text
    ≡ (prefix c.base-base.result ++ map (cased c.args.style.now.digits) main) ++ c.suffix.result.now)
    (λ text. chars (string_bytes text) ≡ integer_text (rewritten_integer c.args.style.now d))
    (λ text is. kept_is c.args.style.now d c.base-base.result main c.suffix.result.now
    (string_bytes text) c.group_of.result h c.base-base.ensures same c.suffix.ensures
    c.group_of.ensures c.in-None.is is)
    c.kept_text.ensures

pub returns-in-Some : goal.returns-in-Some
returns-in-Some g c =
    let d = integer_parts c.args.lit.now in
    let h = c.raw_input.ensures.literal.grammar in
    let main = c.as_bytes-main.result.now in
    let same = main_bytes d h c.raw_main_part.result.now main
    c.raw_main_part.utf8 c.raw_main_part.ensures c.as_bytes-main.ensures.value in
    let base = c.base-base.result in
    let suffix = c.suffix-in-Some.result.now in
    IfOk-weaker c.grouped_text.result
    (λ text. string_bytes text ≡ ((prefix base
    ++ grouped c.in-Some.group (map (cased c.args.style.now.digits) (filter is_no_underscore main)))
    ++ (if needs_separator base (digits_of main) (chars suffix) then 95 ∷ [] else [])) ++ suffix)
    (λ text. chars (string_bytes text) ≡ integer_text (rewritten_integer c.args.style.now d))
    (λ text is. grouped_is c.args.style.now d base main suffix
    (string_bytes text) c.group_of.result c.in-Some.group h c.base-base.ensures same
    c.suffix-in-Some.ensures c.group_of.ensures c.in-Some.is is)
    c.grouped_text.ensures

pub kept_text-requires : goal.kept_text-requires
kept_text-requires g c =
    let d = integer_parts c.args.lit.now in
    let h = c.raw_input.ensures.literal.grammar in
    let same = main_bytes d h c.raw_main_part.result.now c.as_bytes-main.result.now
    c.raw_main_part.utf8 c.raw_main_part.ensures c.as_bytes-main.ensures.value in
    record {
      ascii = subst (λ (t : List ℕ). IsAscii t) (sym same) (main_is_ascii d.base d.main h.digits);
    }

pub grouped_text-requires-clause-ascii : goal.grouped_text-requires-clause-ascii
grouped_text-requires-clause-ascii g c =
    let d = integer_parts c.args.lit.now in
    let h = c.raw_input.ensures.literal.grammar in
    let same = main_bytes d h c.raw_main_part.result.now c.as_bytes-main.result.now
    c.raw_main_part.utf8 c.raw_main_part.ensures c.as_bytes-main.ensures.value in
    subst (λ (t : List ℕ). IsAscii t) (sym same) (main_is_ascii d.base d.main h.digits)

pub grouped_text-requires-clause-decimal : goal.grouped_text-requires-clause-decimal
grouped_text-requires-clause-decimal g c = λ decimal.
    let d = integer_parts c.args.lit.now in
    let h = c.raw_input.ensures.literal.grammar in
    let same = main_bytes d h c.raw_main_part.result.now c.as_bytes-main.result.now
    c.raw_main_part.utf8 c.raw_main_part.ensures c.as_bytes-main.ensures.value in
    ap (first_passes is_ascii_digit) same ∙ h.decimal_digit (sym c.base-base.ensures ∙ decimal)
