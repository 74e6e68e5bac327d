-- Errors of a literal, as errors of the text.
use Rattle.std.proofs.Common.{◌≡◌, ℕ, Bool, true, false, List, inl, inr, refl}
use Rattle.std.proofs.lemmas.Bool.{false≢true}
use Rattle.std.specs.Prelude.{IfErr, IfOk, IsOk}
use Rattle.std.specs.Str.{chars}
use Rattle.std.specs.declared.result.Result.{Result}
use Rattle.std.specs.declared.result.Result.TheVariants.{Ok, Err}
use Rattle.litrs.specs.Literal.{Derivation}
use Rattle.litrs.specs.Text.{byte_len}
use Rattle.litrs.specs.declared.ParseError.{ParseError}
use Rattle.litrs_value.specs.Reads.{is_negative, unsigned, IsReadAs, IsRefusedAfter, IsValueError, marked}
use Rattle.litrs_value.specs.Refuses.{Refuses}
use Rattle.litrs_value.specs.declared.value_type.ValueType.{ValueType}
use Rattle.litrs_value.specs.declared.error.ValueError.{ValueError}
use Rattle.litrs_value.specs.declared.error.ValueError.TheVariants.{Malformed, Kind, Sign, Suffix, OutOfRange, Memory}

-- all of the text is marked unless it is malformed or the error is in its suffix
pub other_marked : (t : List ℕ) (e : ValueError) → ((p : ParseError) → e ≡ Malformed p → ⊥) → ((type : ValueType) (len : ℕ) → e ≡ Suffix type len → ⊥)
    → marked t e ≡ record { start = 0; end = byte_len t }
other_marked t (Malformed p) none short = absurd (none p refl)
other_marked t (Kind a b) none short = refl
other_marked t (Sign a) none short = refl
other_marked t (Suffix a n) none short = absurd (short a n refl)
other_marked t (OutOfRange a) none short = refl
other_marked t Memory none short = refl

pub refuses_text : (type : ValueType) (text : List ℕ) (d : Derivation) (e : ValueError) → IsReadAs text d → Refuses type (is_negative text) d e → IsValueError type text e
refuses_text type text d (Malformed p) read r = absurd r
refuses_text type text d (Kind a b) read r = (d, read, r)
refuses_text type text d (Sign a) read r = (d, read, r)
refuses_text type text d (Suffix a n) read r = (d, read, r)
refuses_text type text d (OutOfRange a) read r = (d, read, r)
refuses_text type text d Memory read r = (d, read, inr r)

pub refused_text : (type : ValueType) (text : List ℕ) (e : ValueError) → IsRefusedAfter (is_negative text) (chars (unsigned text)) e → IsValueError type text e
refused_text type text (Malformed p) r = r
refused_text type text (Kind a b) r = absurd r
refused_text type text (Sign a) r = absurd r
refused_text type text (Suffix a n) r = absurd r
refused_text type text (OutOfRange a) r = absurd r
refused_text type text Memory (d, read, allocated, takes) = (d, read, inl (allocated, takes))

pub map_err : {X E : Type 0} (r : Result X E) (P Q : E → Type 0) → IfErr r P → ((e : E) → P e → Q e) → IfErr r Q
map_err (Ok x) P Q all step = tt
map_err (Err e) P Q all step = step e all

pub map_ok : {X E : Type 0} (r : Result X E) (P Q : X → Type 0) → IfOk r P → ((x : X) → P x → Q x) → IfOk r Q
map_ok (Ok x) P Q all step = step x all
map_ok (Err e) P Q all step = tt

-- it fails only if the test passes
pub fails_if : {X E : Type 0} (r : Result X E) (b : Bool) → (b ≡ false → IsOk r) → IfErr r (λ _. b ≡ true)
fails_if (Ok x) b fine = tt
fails_if (Err e) true fine = refl
fails_if (Err e) false fine = absurd (false≢true (fine refl))
