-- Parts that are written to a room one after the other, and the contents of the room afterwards.
use Rattle.std.proofs.Common.{◌≡◌, ℕ, zero, suc, ◌+◌, List, [], ◌∷◌, ◌++◌, length, ap, sym, ◌∙◌, zero-add, length-append, arith}
use Rattle.std.proofs.lemmas.List.{take_all, drop_all}
use Rattle.litrs_c.specs.Answers.{filled, filled_from, IsWritten, IsWrittenFrom}

-- an empty room stays empty
filled_nil : (bytes : List ℕ) → filled bytes [] ≡ []
filled_nil bytes = drop_all (length bytes) [] (omega arith)

-- writing no bytes leaves the room unchanged
nil_filled : (room : List ℕ) → filled [] room ≡ room
nil_filled room = ap (λ (l : List ℕ). l ++ room) (take_all (length room) [] (omega arith))

-- two parts one after the other, at the front of the room
filled_append : (a b room : List ℕ) → filled (a ++ b) room ≡ filled_from (length a) b (filled a room)
filled_append [] b room = ap (filled b) (sym (nil_filled room))
filled_append (x ∷ a) b [] = filled_nil (x ∷ (a ++ b)) ∙ sym (filled_nil b)
filled_append (x ∷ a) b (y ∷ room) = ap (λ (l : List ℕ). x ∷ l) (filled_append a b room)

-- and from a place on
filled_from_append : (place : ℕ) (a b room : List ℕ) (end : ℕ) → place + length a ≡ end → filled_from place (a ++ b) room ≡ filled_from end b (filled_from place a room)
filled_from_append zero a b room end is = filled_append a b room ∙ ap (λ n. filled_from n b (filled a room)) (sym (zero-add (length a)) ∙ is)
filled_from_append (suc place) a b [] zero is = absurd (omega arith)
filled_from_append (suc place) a b [] (suc end) is = filled_nil (a ++ b) ∙ sym (ap (λ (l : List ℕ). filled_from (suc end) b l) (filled_nil a) ∙ filled_nil b)
filled_from_append (suc place) a b (y ∷ room) zero is = absurd (omega arith)
filled_from_append (suc place) a b (y ∷ room) (suc end) is = ap (λ (l : List ℕ). y ∷ l) (filled_from_append place a b room end (omega arith))

-- two parts, one after the other, are one
pub written_on : (place : ℕ) (a b old new newer : List ℕ) (end last : ℕ) → IsWrittenFrom place a old new end → IsWrittenFrom end b new newer last → IsWrittenFrom place (a ++ b) old newer last
written_on place a b old new newer end last first second = record {
  ends = omega (arith, length-append a b, first.ends, second.ends);
  room = second.room ∙ (ap (λ (l : List ℕ). filled_from end b l) first.room ∙ sym (filled_from_append place a b old end (sym first.ends)));
}

-- from the front of the room on
pub written_all : (a old new : List ℕ) (end : ℕ) → IsWrittenFrom 0 a old new end → IsWritten a old new end
written_all a old new end is = record { len = omega (arith, is.ends); room = is.room }
