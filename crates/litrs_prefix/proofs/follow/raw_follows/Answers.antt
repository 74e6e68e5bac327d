-- The cut decides.
use Rattle.litrs_prefix.proofs.Words.{◌≡◌, List, ℕ, true, ◌++◌, drop, length, sym, ap, ◌∙◌, chars, IsUtf8, begins_with, begins_with-split, Switches, raw_front, IsRawLiteral, raw_parts_at, ends_suffix}
use Rattle.litrs_prefix.specs.Words.{StringKind}
use Rattle.litrs_grammar.proofs.RawKinds.{after_front}
use Rattle.litrs_lex.proofs.StringFronts.{raw_boundary, raw_begins, raw_after}
use Rattle.litrs_prefix.proofs.follow.raw_follows.Goals as goal

spelt : (kind : StringKind) (bs : List ℕ) → IsUtf8 bs → begins_with (raw_front kind) bs ≡ true → raw_front kind ++ chars (drop (length (raw_front kind)) bs) ≡ chars bs
spelt kind bs u begins =
    ap (λ (l : List ℕ). raw_front kind ++ l) (sym (raw_after kind bs u begins)) ∙ begins_with-split (raw_front kind) (chars bs) (raw_begins kind bs u ∙ begins)

pub scan_raw_string-requires : goal.scan_raw_string-requires
scan_raw_string-requires c =
    rw (c.front_len.ensures.raw)
    (raw_boundary c.args.kind c.args.front.now c.utf8.front c.requires)

pub returns-in-Ok : goal.returns-in-Ok
returns-in-Ok c =
    let kind = c.args.kind in
    let text = c.args.front.now in
    let rest = chars c.args.rest.now in
    let is = rw (c.front_len.ensures.raw, ap (λ (w : Switches). w.unicode) c.switches-allowed.ensures, ap (λ (w : Switches). w.allow_nul) c.switches-allowed.ensures) at c.in-Ok.ensures.ok in
    let parts = raw_parts_at (length (raw_front kind)) text (c.in-Ok.field-0-0, c.in-Ok.start) in
    let raw = is.only.0 in
    let whole : IsRawLiteral kind (chars text) parts =
    record { spells = ap (λ (l : List ℕ). raw_front kind ++ l) raw.spells ∙ spelt kind text c.utf8.front c.requires; grammar = raw.grammar } in
    (parts, whole, ap (λ (l : List ℕ). ends_suffix (chars l) rest) (sym c.range_from.ensures.value) ∙ sym c.ends_suffix.ensures)

pub returns-in-Err : goal.returns-in-Err
returns-in-Err c = λ d h.
    let kind = c.args.kind in
    let text = c.args.front.now in
    let is = rw (c.front_len.ensures.raw, ap (λ (w : Switches). w.unicode) c.switches-allowed.ensures, ap (λ (w : Switches). w.allow_nul) c.switches-allowed.ensures) at c.in-Err.ensures.refused in
    is.none d (after_front kind (chars (drop (length (raw_front kind)) text)) (chars text) d (spelt kind text c.utf8.front c.requires) h)
