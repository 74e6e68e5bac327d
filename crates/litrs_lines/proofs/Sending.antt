-- Reports of which a part is written: how what is added and what is written go together.
use Rattle.std.proofs.Common.{◌≡◌, ℕ, List, [], ◌++◌, length, take, drop, Option, refl, sym, ap, subst, ◌∙◌, take-append-drop}
use Rattle.std.proofs.lemmas.List.{append-nil, append_assoc}
use Rattle.std.proofs.lemmas.Grind.{flat_map-append}
use Rattle.std.proofs.KnownBytes.{Appends-nil, Appends-trans, starts_with_rest}
use Rattle.std.proofs.Math.Seq.{take-append_seam}
use Rattle.std.specs.Io.KnownBytes.{Appends}
use Rattle.litrs_lines.specs.Report.{hex_byte, hex_bytes}
use Rattle.litrs_lines.specs.Sent.{Sends, AreBytes}
use Rattle.litrs_lines.specs.Stopped.{AppendsBeginning}

-- bytes that are added, and not yet written
pub adds : (old : Option (List ℕ)) (unwritten more added : List ℕ) → more ≡ unwritten ++ added →
    Sends old unwritten old more added
adds old unwritten more added is =
    record { written = []; spells = is; appends = Appends-nil old }

pub sends_more : (a b c : Option (List ℕ)) (p q r x y : List ℕ) → Sends a p b q x →
    Sends b q c r y → Sends a p c r (x ++ y)
sends_more a b c p q r x y one two = record {
  written = one.written ++ two.written;
  spells = append_assoc one.written two.written r ∙ ap (λ l. one.written ++ l) two.spells
      ∙ sym (append_assoc one.written q y) ∙ ap (λ l. l ++ y) one.spells ∙ append_assoc p x y;
  appends = Appends-trans a b c _ _ one.appends two.appends;
}

-- nothing is written
pub writes_nothing : (old : Option (List ℕ)) (whole : List ℕ) → AppendsBeginning old old whole
writes_nothing old whole = record { written = []; appends = Appends-nil old; begins = refl }

-- The bytes written before a failure, and then a prefix of the rest, are a prefix of the whole.
pub stops_later : (a b c : Option (List ℕ)) (p q x y z whole : List ℕ) → Sends a p b q x →
    AppendsBeginning b c (q ++ y) → whole ≡ p ++ (x ++ (y ++ z)) → AppendsBeginning a c whole
stops_later a b c p q x y z whole one part is =
    let rest : List ℕ = drop (length part.written) (q ++ y) in
    let inner : q ++ y ≡ part.written ++ rest = starts_with_rest (q ++ y) part.written part.begins in
    let cut : whole ≡ (one.written ++ part.written) ++ (rest ++ z) =
    is ∙ sym (append_assoc p x (y ++ z)) ∙ ap (λ l. l ++ (y ++ z)) (sym one.spells)
    ∙ append_assoc one.written q (y ++ z) ∙ ap (λ l. one.written ++ l) (sym (append_assoc q y z)
    ∙ ap (λ l. l ++ z) inner ∙ append_assoc part.written rest z)
    ∙ sym (append_assoc one.written part.written (rest ++ z)) in
    record {
      written = one.written ++ part.written;
      appends = Appends-trans a b c _ _ one.appends part.appends;
      begins = ap (take (length (one.written ++ part.written))) cut
          ∙ take-append_seam (one.written ++ part.written) (rest ++ z);
    }

-- likewise for a longer whole
pub stops_longer : (a c : Option (List ℕ)) (old out more : List ℕ) → AppendsBeginning a c (old ++ out) →
    AppendsBeginning a c (old ++ (out ++ more))
stops_longer a c old out more part =
    stops_later a a c old old [] out more _ (adds a old old [] (sym (append-nil old))) part refl

-- if nothing was unwritten before, and nothing is then
pub writes_these : (a b : Option (List ℕ)) (p q x : List ℕ) → Sends a p b q x → p ≡ [] → q ≡ [] → Appends a b x
writes_these a b p q x one first last =
    subst (Appends a b) (sym (append-nil one.written) ∙ ap (λ l. one.written ++ l) (sym last) ∙ one.spells ∙ ap (λ l. l ++ x) first) one.appends

-- or a prefix of it
pub begins_rest : (a b : Option (List ℕ)) (p x : List ℕ) → p ≡ [] → AppendsBeginning a b (p ++ x) → AppendsBeginning a b x
begins_rest a b p x none part = subst (AppendsBeginning a b) (ap (λ l. l ++ x) none) part

-- or all of it
pub writes_whole : (a c : Option (List ℕ)) (x : List ℕ) → Appends a c x → AppendsBeginning a c x
writes_whole a c x writes =
    subst (AppendsBeginning a c) (append-nil x) (record { written = x; appends = writes; begins = take-append_seam x [] })

-- to contents that are the same
pub appends_same : (a b c : Option (List ℕ)) (x : List ℕ) → c ≡ b → Appends a b x → Appends a c x
appends_same a b c x same writes = subst (λ (s : Option (List ℕ)). Appends a s x) (sym same) writes

pub begins_same : (a b c : Option (List ℕ)) (x : List ℕ) → c ≡ b → AppendsBeginning a b x → AppendsBeginning a c x
begins_same a b c x same part = subst (λ (s : Option (List ℕ)). AppendsBeginning a s x) (sym same) part

-- ---- bytes in hex

-- those before the rest are added, and the same is held
pub record SendsHex (held bytes rest left out : List ℕ) : Type 0 where
  pub same : left ≡ held
  pub front : List ℕ
  pub is : bytes ≡ front ++ rest
  pub hex : out ≡ hex_bytes front

hex_bytes-append : (a b : List ℕ) → hex_bytes (a ++ b) ≡ hex_bytes a ++ hex_bytes b
hex_bytes-append a b = flat_map-append hex_byte a b

-- one piece more
pub sends_piece : (held bytes rest rest_new between left out more : List ℕ) (n : ℕ) → rest_new ≡ drop n rest → SendsHex held bytes rest between out → AreBytes between (hex_bytes (take n rest)) left more →
    SendsHex held bytes rest_new left (out ++ more)
sends_piece held bytes rest rest_new between left out more n is_new so_far piece = record {
  same = piece.0 ∙ so_far.same;
  front = so_far.front ++ take n rest;
  is = so_far.is ∙ ap (λ l. so_far.front ++ l) (sym (take-append-drop n rest)) ∙ sym (append_assoc so_far.front (take n rest) (drop n rest))
      ∙ ap (λ l. (so_far.front ++ take n rest) ++ l) (sym is_new);
  hex = ap (λ l. l ++ more) so_far.hex ∙ ap (λ l. hex_bytes so_far.front ++ l) piece.1 ∙ sym (hex_bytes-append so_far.front (take n rest));
}

-- the last piece
pub sends_last : (held bytes rest between left out more : List ℕ) → SendsHex held bytes rest between out → AreBytes between (hex_bytes rest) left more →
    AreBytes held (hex_bytes bytes) left (out ++ more)
sends_last held bytes rest between left out more so_far last =
    (last.0 ∙ so_far.same, ap (λ l. l ++ more) so_far.hex ∙ ap (λ l. hex_bytes so_far.front ++ l) last.1 ∙ sym (hex_bytes-append so_far.front rest) ∙ ap hex_bytes (sym so_far.is))

-- a piece, if a failure leaves the rest
pub hex_longer : (held bytes rest left out : List ℕ) → SendsHex held bytes rest left out → (left' : List ℕ) × (more : List ℕ) × AreBytes held (hex_bytes bytes) left' (out ++ more)
hex_longer held bytes rest left out so_far = (left, hex_bytes rest, sends_last held bytes rest left left out (hex_bytes rest) so_far (refl, refl))
