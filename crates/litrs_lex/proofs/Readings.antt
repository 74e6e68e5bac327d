-- The steps of the loop, over what is read so far.
use Rattle.std.proofs.Common.{◌≡◌, ℕ, ◌+◌, ◌-◌, ◌≤◌, ◌<◌, ◌^◌, ◌==◌, Bool, true, false, not, ◌||◌, List, [], ◌++◌, length, drop, take, refl, sym, ap, subst, ◌∙◌, arith, length-append, inl, Option, Some, None}
use Rattle.std.specs.Prelude.{encode_utf8_all, IfSome, IsTrue, ⊤}
use Rattle.std.specs.Str.{chars, IsUtf8, IsCharBoundary}
use Rattle.std.proofs.lemmas.List.{drop-drop, length-drop}
use Rattle.litrs_base.specs.declared.escape.Unescape.{Unescape}
use Rattle.litrs_base.specs.declared.escape.Unescape.TheVariants.{Byte, Unicode}
use Rattle.litrs_base.specs.Text.{byte_len, first_passes}
use Rattle.litrs_base.specs.declared.quotes.Switches.{Switches}
use Rattle.litrs_grammar.specs.Quoted.{body_value}
use Rattle.litrs_lex.specs.Container.{is_pushable}
use Rattle.litrs_lex.specs.Mask.{IsMaskOf}
use Rattle.litrs_lex.specs.QuotedItems.{IsPlainRun, IsItemAt, item_bytes, stops}
use Rattle.litrs_lex.specs.Reading.{IsReadTo, IsReading, IsReadBody, IsItemsEnd, IsLongerThan, StandsAt}
use Rattle.litrs_lex.specs.declared.search.Mask.{Mask}
use Rattle.litrs_lex.specs.declared.stop.Stop.{Stop}
use Rattle.litrs_lex.specs.declared.stop.Stop.TheVariants as stop
use Rattle.litrs_lex.proofs.QuotedCuts.{slice_of}
use Rattle.litrs_lex.proofs.QuotedScan.{ReadsSome, reads_run, reads_item, reads_start, boundary_later}

-- the items read so far, without their container
some : (w : Switches) (bytes : List ℕ) (offset at : ℕ) (h : List ℕ → Type 0) → (r : IsReadTo w bytes offset at h) →
    ReadsSome w (chars (take offset bytes)) (chars bytes) (chars (drop at bytes)) at (body_value r.items)
some w bytes offset at h r = record {
  items = r.items;
  spells = r.spells;
  taken = r.taken;
  place = r.size;
  is_value = refl;
}

-- and back, if the value is held
back : (w : Switches) (bytes value : List ℕ) (offset at : ℕ) (h : List ℕ → Type 0) → ReadsSome w (chars (take offset bytes)) (chars bytes) (chars (drop at bytes)) at value →
    IsCharBoundary bytes at → length value ≤ at → h value → IsReadTo w bytes offset at h
back w bytes value offset at h r b fit held = record {
  items = r.items;
  spells = r.spells;
  taken = r.taken;
  size = r.place;
  boundary = b;
  fits = subst (λ (l : List ℕ). length l ≤ at) r.is_value fit;
  held = subst h r.is_value held;
}

-- nothing is read yet
pub read_none : (w : Switches) (bytes : List ℕ) (offset : ℕ) (h : List ℕ → Type 0) → IsUtf8 bytes → IsCharBoundary bytes offset → h [] → IsReadTo w bytes offset offset h
read_none w bytes offset h u at none = back w bytes [] offset offset h (reads_start w bytes offset u at) at (omega arith) none

-- so is it in a state at the front
pub reading_none : (w : Switches) (bytes : List ℕ) (offset place : ℕ) (m : Mask) (h : List ℕ → Type 0) → IsUtf8 bytes → IsCharBoundary bytes offset → h [] →
    IsPlainRun w bytes offset place → m.start ≤ place → IsMaskOf (stops w.unicode w.allow_nul) bytes m → IsReading w bytes offset h (record { at = offset; place = place; mask = m })
reading_none w bytes offset place m h u at none run after mask = record {
  read = read_none w bytes offset h u at none;
  run = run;
  after = after;
  mask = mask;
}

-- another sink holds the same
pub read_held : (w : Switches) (bytes : List ℕ) (offset at : ℕ) (h k : List ℕ → Type 0) → IsReadTo w bytes offset at h → ((v : List ℕ) → h v → k v) → IsReadTo w bytes offset at k
read_held w bytes offset at h k r on = record {
  items = r.items;
  spells = r.spells;
  taken = r.taken;
  size = r.size;
  boundary = r.boundary;
  fits = r.fits;
  held = on (body_value r.items) r.held;
}

-- the bytes of a run of plain characters
run_bytes : (w : Switches) (bytes : List ℕ) (at end : ℕ) → IsUtf8 bytes → IsCharBoundary bytes at → (run : IsPlainRun w bytes at end) →
    encode_utf8_all run.run ≡ take (end - at) (drop at bytes)
run_bytes w bytes at end u start run =
    let slice = slice_of bytes run.run (chars (drop end bytes)) at u start run.split in
    let size = run.size in
    sym slice.is_bytes ∙ ap (λ n. take n (drop at bytes)) (let e : byte_len run.run ≡ end - at = omega arith in e)

-- a run is taken
pub read_run : (w : Switches) (bytes : List ℕ) (offset at place : ℕ) (h k : List ℕ → Type 0) → IsUtf8 bytes → IsReadTo w bytes offset at h → IsPlainRun w bytes at place →
    ((v : List ℕ) → h v → k (v ++ take (place - at) (drop at bytes))) → IsReadTo w bytes offset place k
read_run w bytes offset at place h k u r run on =
    back w bytes _ offset place k (reads_run w _ _ bytes (body_value r.items) at place run (some w bytes offset at h r)) run.boundary
    (let size = run.size in let fit = r.fits in omega (arith, length-append (body_value r.items) (encode_utf8_all run.run)))
    (subst (λ (l : List ℕ). k (body_value r.items ++ l)) (sym (run_bytes w bytes at place u r.boundary run)) (on (body_value r.items) r.held))

-- an item is taken
pub read_item : (w : Switches) (bytes rest : List ℕ) (offset place len : ℕ) (v : Option Unescape) (h k : List ℕ → Type 0) → IsUtf8 bytes → IsReadTo w bytes offset place h →
    rest ≡ drop place bytes → IsItemAt w rest len v → ((x : List ℕ) → h x → k (x ++ item_bytes v)) → IsReadTo w bytes offset (place + len) k
read_item w bytes rest offset place len v h k u r is item on =
    back w bytes _ offset (place + len) k
    (reads_item w _ _ bytes rest (drop (place + len) bytes) (body_value r.items) place len (place + len) v item is (ap (drop len) is ∙ drop-drop len place bytes) refl (some w bytes offset place h r))
    (boundary_later bytes rest place len u r.boundary is item.boundary)
    (let size = item.fits in let fit = r.fits in omega (arith, length-append (body_value r.items) (item_bytes v))) (on (body_value r.items) r.held)

-- no value has more bytes than a text may have
pub none_longer : (w : Switches) (bytes : List ℕ) (offset : ℕ) → length bytes < 2 ^ 64 → IsLongerThan w bytes offset (2 ^ 64) → ⊥
none_longer w bytes offset small (place, read) =
    let longer = read.held in let fit = read.fits in let within = read.boundary.0 in omega arith

-- no plain character follows the run: an empty run
pub no_run : (w : Switches) (bytes : List ℕ) (at place : ℕ) → IsPlainRun w bytes at place → IsPlainRun w bytes place place
no_run w bytes at place run = record {
  run = [];
  split = refl;
  plain = refl;
  size = omega arith;
  boundary = run.boundary;
  stops = run.stops;
}

-- a body is read, without what holds its value
pub body_held : (w : Switches) (bytes : List ℕ) (offset place : ℕ) (h : List ℕ → Type 0) → IsReadBody w bytes offset h place → IsReadBody w bytes offset (λ _. ⊤) place
body_held w bytes offset place h b = record {
  read = read_held w bytes offset place h (λ _. ⊤) b.read (λ v _. tt);
  quote = b.quote;
  stops = b.stops;
}

-- the items end at the closing quote
pub body_ends : (w : Switches) (bytes : List ℕ) (offset place : ℕ) (h : List ℕ → Type 0) → IsReadBody w bytes offset h place → IsItemsEnd w bytes offset (λ _. ⊤) place
body_ends w bytes offset place h b = record {
  read = read_held w bytes offset place h (λ _. ⊤) b.read (λ v _. tt);
  stops = b.stops;
  ends = inl b.quote;
}

pub end_held : (w : Switches) (bytes : List ℕ) (offset place : ℕ) (h : List ℕ → Type 0) → IsItemsEnd w bytes offset h place → IsItemsEnd w bytes offset (λ _. ⊤) place
end_held w bytes offset place h e = record {
  read = read_held w bytes offset place h (λ _. ⊤) e.read (λ v _. tt);
  stops = e.stops;
  ends = e.ends;
}

-- the value is at most as long as the text, with an item too
pub value_small : (w : Switches) (bytes rest : List ℕ) (offset place len : ℕ) (v : Option Unescape) (h : List ℕ → Type 0) → IsReadTo w bytes offset place h → rest ≡ drop place bytes →
    IsItemAt w rest len v → length bytes < 2 ^ 64 → (x : List ℕ) × (h x × (length x + length (item_bytes v) < 2 ^ 64))
value_small w bytes rest offset place len v h r is item small =
    let fit = r.fits in let size = item.fits in let within = item.within in let e = ap length is in let at = r.boundary.0 in
    (body_value r.items, (r.held, omega (arith, length-drop place bytes)))

-- text follows an item
pub item_inside : (w : Switches) (bytes rest : List ℕ) (place len : ℕ) (v : Option Unescape) → rest ≡ drop place bytes → IsItemAt w rest len v → place + len < length bytes
item_inside w bytes rest place len v is item = let within = item.within in let e = ap length is in omega (arith, length-drop place bytes)

-- the front of the rest

pub item_of : (w : Switches) (bytes : List ℕ) {s : Stop} {v : Option Unescape} {n : ℕ} → s ≡ stop.Item v n → StandsAt w bytes s → IsItemAt w bytes n v
item_of w bytes is h = subst (λ (x : Stop). StandsAt w bytes x) is h

pub quote_of : (w : Switches) (bytes rest : List ℕ) (place : ℕ) {s : Stop} → s ≡ stop.Quote → rest ≡ drop place bytes → StandsAt w rest s →
    first_passes (λ c. c == 34) (chars (drop place bytes)) ≡ true
quote_of w bytes rest place is at h = subst (λ (l : List ℕ). first_passes (λ c. c == 34) (chars l) ≡ true) at (subst (λ (x : Stop). StandsAt w rest x) is h)

-- an item that may be pushed if byte escapes are on may be pushed into a container that takes bytes
fits_container : (bytes takes : Bool) (v : Unescape) → (not bytes || takes) ≡ true → is_pushable bytes v ≡ true → is_pushable takes v ≡ true
fits_container false false v h g = g
fits_container false true (Byte b) h g = refl
fits_container false true (Unicode c) h g = refl
fits_container true true v h g = g
fits_container true false v h g = cc

pub fits : (bytes takes : Bool) (value : Option Unescape) → (not bytes || takes) ≡ true → IfSome value (λ v. IsTrue (is_pushable bytes v)) →
    IfSome value (λ v. IsTrue (is_pushable takes v))
fits bytes takes None h g = tt
fits bytes takes (Some v) h g = fits_container bytes takes v h g
