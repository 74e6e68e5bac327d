-- The malformed part is the front of the text.
use Rattle.std.proofs.Common.{◌≡◌, ◌+◌, ℕ, inl, inr, sym, ap, subst}
use Rattle.std.specs.Str.{chars}
use Rattle.litrs_prefix.specs.Malformed.{IsMovedBy}
use Rattle.litrs_value.specs.Prefixes.{IsPrefixError, IsMarkedIn}
use Rattle.litrs_value.specs.Reads.{unsigned}
use Rattle.litrs_value.specs.declared.error.ValueError.{ValueError}
use Rattle.litrs_value.proofs.Fronts.{malformed_prefix, memory_prefix}
use Rattle.litrs_value.proofs.prefix.malformed_value.Goals as goal

pub returns : goal.returns
returns c = λ type.
    let text = c.args.text.now in
    let m = c.args.malformed in
    let place : c.args.start + m.len ≡ _ = ap (λ (k : ℕ). k + m.len) c.requires.start in
    let moved = subst (λ (k : ℕ). IsMovedBy k (chars (unsigned text)) m) c.requires.start c.requires.malformed in
    let go : (e : ValueError) → c.value_error.result ≡ e → IsPrefixError type text (record { error = e; len = c.args.start + m.len }) × IsMarkedIn text (record { error = e; len = c.args.start + m.len }) →
    IsPrefixError type text (record { error = c.value_error.result; len = c.args.start + m.len }) × IsMarkedIn text (record { error = c.value_error.result; len = c.args.start + m.len }) =
    λ e same h. subst (λ (x : ValueError). IsPrefixError type text (record { error = x; len = c.args.start + m.len }) × IsMarkedIn text (record { error = x; len = c.args.start + m.len })) (sym same) h in
    elim c.value_error.ensures [
      | inl is ↦ go _ is.1 (memory_prefix type text m c.utf8.text (c.args.start + m.len) place is.0 moved)
      | inr is ↦ go _ is.1 (malformed_prefix type text m c.utf8.text (c.args.start + m.len) place is.0 moved)
    ]
