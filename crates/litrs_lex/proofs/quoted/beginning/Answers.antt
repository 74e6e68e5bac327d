-- Nothing is read yet.
use Rattle.std.proofs.Common.{◌≡◌, [], refl, arith}
use Rattle.litrs_lex.proofs.Readings.{reading_none}
use Rattle.litrs_lex.proofs.quoted.beginning.Goals as goal

pub returns : goal.returns
returns g c =
    let run = c.first_plain_end-place.ensures in
    let start = c.empty_at-mask.ensures.start in
    reading_none _ c.args.input.now _ _ _ (λ v. v ≡ []) c.utf8.input c.requires refl run (omega arith) (c.empty_at-mask.ensures.mask _ _ run.boundary.0)
