-- The front of a text: the bytes that follow it, and the error of an allocation failure.
use Rattle.std.proofs.Common.{◌≡◌, ℕ, ◌+◌, ◌≤◌, List, ◌++◌, length, take, drop, refl, sym, ap, ◌∙◌, subst, length-append, arith}
use Rattle.std.proofs.Math.Seq.{drop-append_seam, take-append_seam}
use Rattle.std.proofs.lemmas.Str.{IsCharBoundary-from_take}
use Rattle.std.specs.Str.{chars, IsUtf8, IsCharBoundary}
use Rattle.litrs_base.specs.declared.err.ParseErrorKind.TheVariants.{OutOfMemory}
use Rattle.litrs_base.specs.Refusal.{kind_of}
use Rattle.litrs_grammar.specs.Literal.{Derivation}
use Rattle.litrs_prefix.specs.declared.MalformedPrefix.{MalformedPrefix}
use Rattle.litrs_prefix.specs.Malformed.{IsMalformedOrOutOfMemory}
use Rattle.litrs_prefix.specs.Prefix.{HasPrefix}
use Rattle.litrs_prefix.proofs.OutOfMemory.{of_memory}
use Rattle.litrs_c.specs.Prefixes.{LacksMemoryAt}

-- the rest is all but the first bytes
pub prefix_at : (raw rest text : List ℕ) (len : ℕ) (d : Derivation) → raw ++ rest ≡ text → len ≡ length raw →
    HasPrefix (chars text) d (chars rest) → HasPrefix (chars text) d (chars (drop len text))
prefix_at raw rest text len d spells is at =
    let left : drop len text ≡ rest =
    ap (λ (n : ℕ). drop n text) is ∙ ap (λ (l : List ℕ). drop (length raw) l) (sym spells) ∙ drop-append_seam raw rest in
    subst (λ (l : List ℕ). HasPrefix (chars text) d (chars l)) (sym left) at

pub ends_front : (raw rest text : List ℕ) (len : ℕ) → raw ++ rest ≡ text → len ≡ length raw → IsUtf8 text → IsUtf8 raw → IsCharBoundary text len
ends_front raw rest text len spells is utf8 front =
    let size : length text ≡ length raw + length rest = ap length (sym spells) ∙ length-append raw rest in
    let within : length raw ≤ length text = omega arith in
    let taken : take (length raw) text ≡ raw = ap (take (length raw)) (sym spells) ∙ take-append_seam raw rest in
    subst (IsCharBoundary text) (sym is) (IsCharBoundary-from_take text (length raw) utf8 within (subst IsUtf8 (sym taken) front))

pub lacks_memory_at : (t : List ℕ) (m : MalformedPrefix) → IsMalformedOrOutOfMemory t m → kind_of m.error ≡ OutOfMemory → LacksMemoryAt t m.len
lacks_memory_at t m error is = (m, of_memory t m is error, refl)
