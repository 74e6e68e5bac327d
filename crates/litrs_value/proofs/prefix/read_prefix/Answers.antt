-- The literal is found after the sign.
use Rattle.std.proofs.Common.{◌≡◌, ◌+◌, ◌≤◌, ◌++◌, ℕ, Bool, List, length, take, drop, sym, ap, subst, ◌∙◌, append_assoc, rules}
use Rattle.std.proofs.lemmas.List.{take-append-drop}
use Rattle.std.specs.Prelude.{if◌then◌else◌}
use Rattle.std.specs.Str.{chars, IsCharBoundary}
use Rattle.litrs.specs.LiteralDerivation.{literal_raw}
use Rattle.litrs_prefix.specs.Malformed.{IsMovedBy}
use Rattle.litrs_value.specs.Reads.{sign_len}
use Rattle.litrs_value.proofs.Fronts.{sign_cut, malformed_fits}
use Rattle.litrs_value.proofs.prefix.read_prefix.Goals as goal

pub parse_prefix_at-requires : goal.parse_prefix_at-requires
parse_prefix_at-requires g c =
    let text = c.args.text.now in
    let start : c.sign_len-start.result ≡ sign_len text = c.sign_len-start.ensures.len ∙ ap (λ (b : Bool). if b then 1 else 0) c.cut_sign-negative.ensures.negative in
    subst (λ (k : ℕ). IsCharBoundary text k) (sym start) (sign_cut text c.utf8.text)

pub malformed_value-requires-clause-start : goal.malformed_value-requires-clause-start
malformed_value-requires-clause-start g c =
    c.sign_len-start.ensures.len ∙ ap (λ (b : Bool). if b then 1 else 0) c.cut_sign-negative.ensures.negative

pub malformed_value-requires-clause-malformed : goal.malformed_value-requires-clause-malformed
malformed_value-requires-clause-malformed g c =
    let text = c.args.text.now in
    let start : c.sign_len-start.result ≡ sign_len text = c.sign_len-start.ensures.len ∙ ap (λ (b : Bool). if b then 1 else 0) c.cut_sign-negative.ensures.negative in
    subst (λ (k : ℕ). IsMovedBy c.sign_len-start.result (chars (drop k text)) c.in-Err.malformed) start c.in-Err.ensures.malformed

pub malformed_value-requires-clause-fits : goal.malformed_value-requires-clause-fits
malformed_value-requires-clause-fits g c =
    let text = c.args.text.now in
    let start : c.sign_len-start.result ≡ sign_len text = c.sign_len-start.ensures.len ∙ ap (λ (b : Bool). if b then 1 else 0) c.cut_sign-negative.ensures.negative in
    subst (λ (k : ℕ). k + c.in-Err.malformed.len ≤ length text) (sym start)
    (malformed_fits g.T.FromLiteral.value_type text c.in-Err.malformed c.utf8.text (subst (λ (k : ℕ). IsMovedBy k (chars (drop k text)) c.in-Err.malformed) start c.in-Err.ensures.malformed))

pub returns-in-Ok-clause-rest : goal.returns-in-Ok-clause-rest
returns-in-Ok-clause-rest g c =
    let text = c.args.text.now in
    let front = take c.sign_len-start.result text in
    let raw = literal_raw c.in-Ok-Some.prefix.literal in
    let spells : raw ++ c.in-Ok-Some.prefix.rest.now ≡ drop c.sign_len-start.result text = search rules in (
      front ++ raw,
      append_assoc front raw c.in-Ok.found.1.now
          ∙ (ap (λ (l : List ℕ). front ++ (raw ++ l)) c.in-Ok.ensures.rest ∙ (ap (λ (l : List ℕ). front ++ l) spells ∙ take-append-drop c.sign_len-start.result text)),
    )

pub returns-clause-refused : goal.returns-clause-refused
returns-clause-refused g c = (c.malformed_value.ensures g.T.FromLiteral.value_type).0

pub returns-clause-marks : goal.returns-clause-marks
returns-clause-marks g c = (c.malformed_value.ensures g.T.FromLiteral.value_type).1
