-- The text so far, and the items of the rest, rewritten, are the whole text.
use Rattle.std.proofs.Common.{◌++◌, ◌∷◌, List, ℕ, length, encode_utf8_all, string_bytes}
use denote.Text.{Utf8}
use denote.Shadow.{shadow}
use Rattle.litrs_grammar.specs.Quoted.{Item, body_text}
use Rattle.litrs_build.specs.BodyItem.{IsBody}
use Rattle.litrs_build.specs.Rewriting.{rewritten_items}
use Rattle.litrs_build.specs.declared.rewriting.Before.TheVariants.{Mark}
use Rattle.litrs_build.proofs.RewrittenLiterals.{IsLeft}
use Rattle.litrs_build.proofs.rewriting.push_body.Given as goal

abbrev pub invariant-loop-allowed : goal.invariant-loop-allowed
invariant-loop-allowed l = shadow (Utf8 l.rest)
    × ((items : List Item) (suffix : List ℕ) → IsBody l.allowed l.body items suffix →
    IsLeft l.allowed l.style l.before l.rest (string_bytes l.text) suffix (string_bytes l.fn.text
    ++ encode_utf8_all (body_text (rewritten_items l.style Mark items) ++ 34 ∷ suffix)))

abbrev pub decreases-loop-allowed : goal.decreases-loop-allowed
decreases-loop-allowed l = length l.rest
