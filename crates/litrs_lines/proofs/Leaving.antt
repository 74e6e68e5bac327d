-- The state that steps leave, one after the other.
use Rattle.std.proofs.Common.{◌≡◌, ◌∙◌, ℕ, Bool, List, [], ◌++◌, Option, Result, Ok, Err, take, drop, refl, sym, ap, subst, append-nil}
use Rattle.std.specs.Prelude.{string_bytes}
use Rattle.litrs_lines.specs.declared.RunError.{RunError}
use Rattle.litrs_lines.specs.declared.RunError.TheVariants.{Read, Write, Memory}
use Rattle.litrs_lines.specs.declared.group.Reporter.{Reporter}
use Rattle.litrs_lines.specs.Sent.{NamesFailure, Sends, SendsSome, IsSameReporter, Leaves, AreBytes}
use Rattle.litrs_lines.specs.Report.{hex_bytes}
use Rattle.litrs_lines.specs.Stopped.{AppendsBeginning}
use Rattle.litrs_lines.proofs.Sending.{SendsHex, sends_piece, adds, sends_more, writes_nothing, stops_later, stops_longer}

-- the state that may be left, and the bytes
abbrev Adding : Type 1
Adding = List ℕ → List ℕ → Type 0

pub same_reporter : {O : Type 0} (r : Reporter O) → IsSameReporter r r
same_reporter r = record { collector = refl; unwritten = refl; writer = refl }

pub same_reporters : {O : Type 0} (a b c : Reporter O) → IsSameReporter a b → IsSameReporter b c → IsSameReporter a c
same_reporters a b c one two = record {
  collector = two.collector ∙ one.collector;
  unwritten = two.unwritten ∙ one.unwritten;
  writer = two.writer ∙ one.writer;
}

pub fails_later : (r : Result (Unit {0}) RunError) (first old new write_failed : Bool) → old ≡ first → NamesFailure r old new write_failed → NamesFailure r first new write_failed
fails_later (Ok _) first old new write_failed is names = names ∙ is
fails_later (Err Read) first old new write_failed is names = names
fails_later (Err Write) first old new write_failed is names = names
fails_later (Err Memory) first old new write_failed is names = names ∙ is

-- bytes of other kinds
sends_as : (r : Result (Unit {0}) RunError) (a b : Option (List ℕ)) (p q left : List ℕ) (P Q : Adding) → ((left out : List ℕ) → P left out → Q left out) →
    SendsSome r a p b q left P → SendsSome r a p b q left Q
sends_as (Ok _) a b p q left P Q are sends = (sends.0, are left sends.0 sends.1, sends.2)
sends_as (Err _) a b p q left P Q are sends = (sends.0, sends.1, are sends.0 sends.1 sends.2, sends.3)

sends_then : (r : Result (Unit {0}) RunError) (a b c : Option (List ℕ)) (p q s left left' : List ℕ) (P Q R : Adding) →
    ((out left more : List ℕ) → P left' out → Q left more → R left (out ++ more)) → (out : List ℕ) × P left' out × Sends a p b q out → SendsSome r b q c s left Q → SendsSome r a p c s left R
sends_then (Ok _) a b c p q s left left' P Q R are one two =
    (one.0 ++ two.0, are one.0 left two.0 one.1 two.1, sends_more a b c p q s one.0 two.0 one.2 two.2)
sends_then (Err _) a b c p q s left left' P Q R are one two =
    (two.0, one.0 ++ two.1, are one.0 two.0 two.1 one.1 two.2, stops_later a b c p q one.0 two.1 [] _ one.2 two.3 (ap (λ (l : List ℕ). p ++ (one.0 ++ l)) (sym (append-nil two.1))))

module _ {O : Type 0} (contents : O → Option (List ℕ)) (has_failed write_failed : O → Bool) where
  abbrev pub Left : Result (Unit {0}) RunError → Reporter O → Reporter O → Adding → Type 0
  Left r old new P = Leaves contents has_failed write_failed r old new P

  -- a step from a reporter with the same reports and output, of bytes that are others too
  pub leaves_from : (r : Result (Unit {0}) RunError) (old mid new : Reporter O) (P Q : Adding) → IsSameReporter old mid → mid.writer.now ≡ old.writer.now →
      string_bytes mid.unwritten.now ≡ string_bytes old.unwritten.now → ((left out : List ℕ) → P left out → Q left out) → Left r mid new P → Left r old new Q
  leaves_from r old mid new P Q same writer unwritten are left = record {
    same = same_reporters old mid new same left.same;
    adds = subst (λ (w : O). SendsSome r (contents w) (string_bytes old.unwritten.now) (contents new.writer.now) (string_bytes new.unwritten.now) new.collector.now Q) writer
        (subst (λ (u : List ℕ). SendsSome r (contents mid.writer.now) u (contents new.writer.now) (string_bytes new.unwritten.now) new.collector.now Q) unwritten
        (sends_as r (contents mid.writer.now) (contents new.writer.now) (string_bytes mid.unwritten.now) (string_bytes new.unwritten.now) new.collector.now P Q are left.adds));
    failure = fails_later r (has_failed old.writer.now) (has_failed mid.writer.now) (has_failed new.writer.now) (write_failed new.writer.now) (ap has_failed writer) left.failure;
  }

  -- the same step, also for other bytes
  pub leaves_as : (r : Result (Unit {0}) RunError) (old new : Reporter O) (P Q : Adding) → ((left out : List ℕ) → P left out → Q left out) → Left r old new P → Left r old new Q
  leaves_as r old new P Q are left = leaves_from r old old new P Q (same_reporter old) refl refl are left

  -- these bytes are added, but not written
  pub leaves_added : (old new : Reporter O) (P : Adding) (out : List ℕ) → IsSameReporter old new → new.writer.now ≡ old.writer.now → P new.collector.now out →
      string_bytes new.unwritten.now ≡ string_bytes old.unwritten.now ++ out → Left (Ok tt) old new P
  leaves_added old new P out same writer is added = record {
    same = same;
    adds = (
      out,
      is,
      subst (λ (w : O). Sends (contents old.writer.now) (string_bytes old.unwritten.now) (contents w) (string_bytes new.unwritten.now) out) (sym writer)
          (adds (contents old.writer.now) (string_bytes old.unwritten.now) (string_bytes new.unwritten.now) out added),
    );
    failure = ap has_failed writer;
  }

  -- an allocation fails
  pub leaves_memory : (old new : Reporter O) (P : Adding) (left out : List ℕ) → IsSameReporter old new → new.writer.now ≡ old.writer.now → P left out → Left (Err Memory) old new P
  leaves_memory old new P left out same writer is = record {
    same = same;
    adds = (left, out, is, subst (λ (w : O). AppendsBeginning (contents old.writer.now) (contents w) (string_bytes old.unwritten.now ++ out)) (sym writer) (writes_nothing (contents old.writer.now) (string_bytes old.unwritten.now ++ out)));
    failure = ap has_failed writer;
  }

  -- an error is answered again, over a longer whole
  pub leaves_stopped : (e : RunError) (old new : Reporter O) (P Q : Adding) → ((left out : List ℕ) → P left out → (left' : List ℕ) × (more : List ℕ) × Q left' (out ++ more)) →
      Left (Err e) old new P → Left (Err e) old new Q
  leaves_stopped e old new P Q longer left =
      let part = left.adds in
      let whole = longer part.0 part.1 part.2 in
      record {
        same = left.same;
        adds = (whole.0, part.1 ++ whole.1, whole.2, stops_longer (contents old.writer.now) (contents new.writer.now) (string_bytes old.unwritten.now) part.1 whole.1 part.3);
        failure = left.failure;
      }

  -- two steps
  pub leaves_then : (r : Result (Unit {0}) RunError) (old mid new : Reporter O) (P Q R : Adding) →
      ((out left more : List ℕ) → P mid.collector.now out → Q left more → R left (out ++ more)) → Left (Ok tt) old mid P → Left r mid new Q → Left r old new R
  leaves_then r old mid new P Q R are one two = record {
    same = same_reporters old mid new one.same two.same;
    adds = sends_then r (contents old.writer.now) (contents mid.writer.now) (contents new.writer.now) (string_bytes old.unwritten.now) (string_bytes mid.unwritten.now)
        (string_bytes new.unwritten.now) new.collector.now mid.collector.now P Q R are one.adds two.adds;
    failure = fails_later r (has_failed old.writer.now) (has_failed mid.writer.now) (has_failed new.writer.now) (write_failed new.writer.now) one.failure two.failure;
  }

  -- and then these bytes
  pub leaves_then_bytes : (r : Result (Unit {0}) RunError) (old mid new : Reporter O) (P R : Adding) (bytes : List ℕ) →
      ((out : List ℕ) → P mid.collector.now out → R mid.collector.now (out ++ bytes)) → Left (Ok tt) old mid P → Left r mid new (AreBytes mid.collector.now bytes) → Left r old new R
  leaves_then_bytes r old mid new P R bytes are one two = leaves_then r old mid new P (AreBytes mid.collector.now bytes) R
      (λ out left more first last. subst (λ (l : List ℕ). R l (out ++ more)) (sym last.0) (subst (λ (m : List ℕ). R mid.collector.now (out ++ m)) (sym last.1) (are out first))) one two

  -- the added bytes are written
  pub leaves_written : (r : Result (Unit {0}) RunError) (old mid new : Reporter O) (P : Adding) → Left (Ok tt) old mid P → Left r mid new (AreBytes mid.collector.now []) → Left r old new P
  leaves_written r old mid new P one two =
      leaves_then_bytes r old mid new P P [] (λ out is. subst (λ (o : List ℕ). P mid.collector.now o) (sym (append-nil out)) is) one two

  -- the first of some bytes, and the rest of them
  pub leaves_bytes : (r : Result (Unit {0}) RunError) (old mid new : Reporter O) (first rest : List ℕ) → Left (Ok tt) old mid (AreBytes old.collector.now first) → Left r mid new (AreBytes mid.collector.now rest) →
      Left r old new (AreBytes old.collector.now (first ++ rest))
  leaves_bytes r old mid new first rest one two =
      leaves_then_bytes r old mid new (AreBytes old.collector.now first) (AreBytes old.collector.now (first ++ rest)) rest
      (λ out is. (is.0, ap (λ (l : List ℕ). l ++ rest) is.1)) one two

  -- one piece of bytes in hex more is added, and all is written
  pub leaves_hex : (r : Result (Unit {0}) RunError) (old mid pushed new : Reporter O) (held bytes rest rest_new : List ℕ) (n : ℕ) → rest_new ≡ drop n rest → Left (Ok tt) old mid (SendsHex held bytes rest) →
      IsSameReporter mid pushed → pushed.writer.now ≡ mid.writer.now → pushed.collector.now ≡ mid.collector.now → string_bytes pushed.unwritten.now ≡ string_bytes mid.unwritten.now ++ hex_bytes (take n rest) →
      Left r pushed new (AreBytes pushed.collector.now []) → Left r old new (SendsHex held bytes rest_new)
  leaves_hex r old mid pushed new held bytes rest rest_new n is so_far same writer kept added two =
      leaves_written r old pushed new (SendsHex held bytes rest_new)
      (leaves_then (Ok tt) old mid pushed (SendsHex held bytes rest) (AreBytes mid.collector.now (hex_bytes (take n rest))) (SendsHex held bytes rest_new)
      (λ out left more first piece. sends_piece held bytes rest rest_new mid.collector.now left out more n is first piece) so_far
      (leaves_added mid pushed (AreBytes mid.collector.now (hex_bytes (take n rest))) (hex_bytes (take n rest)) same writer (kept, refl) added)) two
