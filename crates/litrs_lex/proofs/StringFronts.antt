-- The fronts of strings are ASCII, so that a text may be cut after them.
use Rattle.std.proofs.Common.{◌≡◌, ℕ, Bool, true, List, length, take, drop, refl, sym, ap, ◌∙◌}
use Rattle.std.specs.List.{list_all}
use Rattle.std.specs.Prelude.{nat_lt}
use Rattle.std.specs.Str.{chars, IsUtf8, IsCharBoundary}
use Rattle.std.proofs.Math.Seq.{take-append_seam}
use Rattle.std.proofs.lemmas.Str.{chars-IsAscii, IsCharBoundary-from_drop}
use Rattle.litrs_base.specs.Text.{begins_with}
use Rattle.litrs_base.proofs.Begins.{begins_with-split}
use Rattle.litrs_base.proofs.Chars.{begins_front, begins_with-chars}
use Rattle.litrs_base.specs.declared.quotes.StringKind.{StringKind}
use Rattle.litrs_base.specs.declared.quotes.StringKind.TheVariants.{String as string_kind, ByteString as byte_string_kind, CString as c_string_kind}
use Rattle.litrs_base.specs.Quotes.{quoted_front, raw_front}

abbrev is_low : List ℕ → Bool
is_low t = list_all (λ c. nat_lt c 128) t

pub quoted_low : (kind : StringKind) → is_low (quoted_front kind) ≡ true
quoted_low string_kind = refl
quoted_low byte_string_kind = refl
quoted_low c_string_kind = refl

pub raw_low : (kind : StringKind) → is_low (raw_front kind) ≡ true
raw_low string_kind = refl
raw_low byte_string_kind = refl
raw_low c_string_kind = refl

pub quoted_begins : (kind : StringKind) (bs : List ℕ) → IsUtf8 bs →
    begins_with (quoted_front kind) (chars bs) ≡ begins_with (quoted_front kind) bs
quoted_begins kind bs u = begins_with-chars (quoted_front kind) bs (quoted_low kind) u

pub raw_begins : (kind : StringKind) (bs : List ℕ) → IsUtf8 bs →
    begins_with (raw_front kind) (chars bs) ≡ begins_with (raw_front kind) bs
raw_begins kind bs u = begins_with-chars (raw_front kind) bs (raw_low kind) u

front_boundary : (front bs : List ℕ) → is_low front ≡ true → IsUtf8 bs → begins_with front bs ≡ true → IsCharBoundary bs (length front)
front_boundary front bs low u begins =
    let f = begins_front front bs low begins u in IsCharBoundary-from_drop bs (length front) f.within f.utf8

pub quoted_boundary : (kind : StringKind) (bs : List ℕ) → IsUtf8 bs → begins_with (quoted_front kind) bs ≡ true →
    IsCharBoundary bs (length (quoted_front kind))
quoted_boundary kind bs u begins = front_boundary (quoted_front kind) bs (quoted_low kind) u begins

pub raw_boundary : (kind : StringKind) (bs : List ℕ) → IsUtf8 bs → begins_with (raw_front kind) bs ≡ true →
    IsCharBoundary bs (length (raw_front kind))
raw_boundary kind bs u begins = front_boundary (raw_front kind) bs (raw_low kind) u begins

-- the front of a quoted string, before its body
pub quoted_before : (kind : StringKind) (bs : List ℕ) → IsUtf8 bs → begins_with (quoted_front kind) bs ≡ true →
    chars (take (length (quoted_front kind)) bs) ≡ quoted_front kind
quoted_before kind bs u begins =
    let front = quoted_front kind in
    let f = begins_front front bs (quoted_low kind) begins u in
    chars-IsAscii (take (length front) bs) f.ascii
    ∙ (ap (take (length front)) (sym (begins_with-split front bs begins)) ∙ take-append_seam front (drop (length front) bs))

-- the text after the front of a raw one
pub raw_after : (kind : StringKind) (bs : List ℕ) → IsUtf8 bs → begins_with (raw_front kind) bs ≡ true →
    drop (length (raw_front kind)) (chars bs) ≡ chars (drop (length (raw_front kind)) bs)
raw_after kind bs u begins = (begins_front (raw_front kind) bs (raw_low kind) begins u).rest
