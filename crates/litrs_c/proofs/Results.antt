-- Facts about the result of a call.
use Rattle.std.proofs.Common.{Bool, true, false, refl}
use Rattle.std.specs.Prelude.{IfErr, IfOk, IsOk, IsTrue, IsFalse}
use Rattle.std.specs.declared.result.Result.{Result}
use Rattle.std.specs.declared.result.Result.TheVariants.{Ok, Err}

-- if a fact about the value implies another, the value has the other too
pub map_ok : {X E : Type 0} (r : Result X E) (P Q : X → Type 0) → IfOk r P → ((x : X) → P x → Q x) → IfOk r Q
map_ok (Ok x) P Q all step = step x all
map_ok (Err e) P Q all step = tt

-- the call fails only if the test passes
pub fails_if : {X E : Type 0} (r : Result X E) (b : Bool) → (IsFalse b → IsOk r) → IfErr r (λ _. IsTrue b)
fails_if (Ok x) b fine = tt
fails_if (Err e) true fine = refl
fails_if (Err e) false fine = fine refl
