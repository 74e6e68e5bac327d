-- An attribute begins at the text if one does at the rest.
use Rattle.std.proofs.Common.{length}
use Rattle.std.specs.Str.{chars}
use denote.Text.{Utf8}
use denote.Shadow.{shadow}
use Rattle.litrs_lexer.specs.Shebang.{OpensAttribute}
use Rattle.litrs_lexer.proofs.shebang.opens_attribute.Given as goal

abbrev pub invariant-loop-kind : goal.invariant-loop-kind
invariant-loop-kind l =
    shadow (Utf8 l.rest) × (OpensAttribute (chars l.rest) → OpensAttribute (chars l.text)) × (OpensAttribute (chars l.text) → OpensAttribute (chars l.rest))

abbrev pub decreases-loop-kind : goal.decreases-loop-kind
decreases-loop-kind l = length l.rest
