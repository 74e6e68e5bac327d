-- The effect of a step of a run: reports that are not yet written, and an output.
use Rattle.std.specs.Prelude.{◌≡◌, ℕ, Bool, true, List, ◌++◌, Option, Result, Ok, Err, string_bytes}
use Rattle.std.specs.Io.KnownBytes.{Appends}
use Rattle.litrs_lines.specs.declared.RunError.{RunError}
use Rattle.litrs_lines.specs.declared.group.Reporter.{Reporter}
use Rattle.litrs_lines.specs.declared.RunError.TheVariants.{Read, Write, Memory}
use Rattle.litrs_lines.specs.Stopped.{AppendsBeginning}

-- If the output had not failed before, a step returns `Write` if and only if a write of it fails in
-- the step. It never returns `Read`.
abbrev pub NamesFailure : (result : Result (Unit {0}) RunError)
    (failed_old failed_new write_failed : Bool) → Type 0
NamesFailure (Ok _) failed_old failed_new write_failed = failed_new ≡ failed_old
NamesFailure (Err Read) failed_old failed_new write_failed = ⊥
NamesFailure (Err Write) failed_old failed_new write_failed =
    (failed_new ≡ true) × (write_failed ≡ true)
NamesFailure (Err Memory) failed_old failed_new write_failed = failed_new ≡ failed_old

-- All of `bytes` were appended to known bytes, or a prefix of them after an error.
abbrev pub WritesBytes : (result : Result (Unit {0}) RunError) (bytes : List ℕ)
    (old new : Option (List ℕ)) → Type 0
WritesBytes (Ok _) bytes old new = Appends old new bytes
WritesBytes (Err _) bytes old new = AppendsBeginning old new bytes

-- These bytes were added to those that are not yet written, and a prefix of all of them was
-- written.
pub record Sends (old : Option (List ℕ)) (unwritten_old : List ℕ) (new : Option (List ℕ))
    (unwritten_new bytes : List ℕ) : Type 0 where
  pub written : List ℕ
  pub spells : written ++ unwritten_new ≡ unwritten_old ++ bytes
  pub appends : Appends old new written

-- The reporter has the same collector, the same reports and the same output.
pub record IsSameReporter {O : Type 0} (old new : Reporter O) : Type 0 where
  pub collector : new.collector.ghost_name ≡ old.collector.ghost_name
  pub unwritten : new.unwritten.ghost_name ≡ old.unwritten.ghost_name
  pub writer : new.writer.ghost_name ≡ old.writer.ghost_name

-- On `Ok` bytes were added. On an error, a prefix of the bytes that were not yet written and of
-- these was written. `Adds` relates these bytes to the lines that are then held.
abbrev pub SendsSome : (result : Result (Unit {0}) RunError) (old : Option (List ℕ))
    (unwritten_old : List ℕ) (new : Option (List ℕ)) (unwritten_new left_new : List ℕ)
    (Adds : (left out : List ℕ) → Type 0) → Type 0
SendsSome (Ok _) old unwritten_old new unwritten_new left_new Adds =
    (out : List ℕ) × Adds left_new out × Sends old unwritten_old new unwritten_new out
SendsSome (Err _) old unwritten_old new unwritten_new left_new Adds =
    (left : List ℕ) × (out : List ℕ) × Adds left out
    × AppendsBeginning old new (unwritten_old ++ out)

-- The effect of a step, in terms of the ghost members of the output. `Adds` holds for the lines
-- that are held after it and the bytes that it added or began to write. Its result names a failure.
pub record Leaves {O : Type 0} (contents : O → Option (List ℕ)) (has_failed write_failed : O → Bool)
    (result : Result (Unit {0}) RunError) (old new : Reporter O)
    (Adds : (left out : List ℕ) → Type 0) : Type 0 where
  pub same : IsSameReporter old new
  pub adds : SendsSome result (contents old.writer.now) (string_bytes old.unwritten.now)
      (contents new.writer.now) (string_bytes new.unwritten.now) new.collector.now Adds
  pub failure : NamesFailure result (has_failed old.writer.now) (has_failed new.writer.now)
      (write_failed new.writer.now)

-- These bytes are added, and the same lines are held.
abbrev pub AreBytes : (held bytes left out : List ℕ) → Type 0
AreBytes held bytes left out = (left ≡ held) × (out ≡ bytes)
