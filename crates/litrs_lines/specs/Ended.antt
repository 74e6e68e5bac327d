-- The groups that end with some lines, as they are found from line to line, and the reports on
-- them. The text that is held before the lines and after them is empty, or unfinished lines with an
-- LF after each, which are the start of a group.
use Rattle.std.specs.Prelude.{◌≡◌, ◌⊎◌, ℕ, List, [], ◌∷◌, ◌++◌}
use Rattle.std.specs.Str.{IsUtf8}
use Rattle.litrs_base.specs.Characters.{line_feed}
use Rattle.litrs_grammar.specs.Quoted.{without_last}
use Rattle.litrs_lines.specs.Steps.{IsUnfinished}
use Rattle.litrs_lines.specs.Groups.{IsNoText, IsFinished}
use Rattle.litrs_lines.specs.Reports.{AreReports}

-- The text of the group that is held, if there is one, without the LF after its last line.
abbrev pub unless_held : List ℕ → List (List ℕ)
unless_held [] = []
unless_held (b ∷ held) = without_last (b ∷ held) ∷ []

-- The line continues the group that is held, or begins one. No group ends, and the line is held.
abbrev pub AddsToGroup : (held line : List ℕ) (texts : List (List ℕ)) (left : List ℕ) → Type 0
AddsToGroup held line texts left =
    IsUtf8 line × IsUnfinished (held ++ line) × (texts ≡ [])
    × (left ≡ (held ++ line) ++ line_feed ∷ [])

-- The line completes the group that is held, or is a group by itself. That group ends.
abbrev pub FinishesGroup : (held line : List ℕ) (texts : List (List ℕ)) (left : List ℕ) → Type 0
FinishesGroup held line texts left =
    IsUtf8 line × IsFinished (held ++ line) × (texts ≡ (held ++ line) ∷ []) × (left ≡ [])

-- The line is not UTF-8. The group that is held ends, and the line is a group by itself.
abbrev pub StandsAlone : (held line : List ℕ) (texts : List (List ℕ)) (left : List ℕ) → Type 0
StandsAlone held line texts left =
    IsNoText line × (texts ≡ unless_held held ++ line ∷ []) × (left ≡ [])

-- The groups that end with this line have these texts, and `left` is held after it.
abbrev pub LineEnds : (held line : List ℕ) (texts : List (List ℕ)) (left : List ℕ) → Type 0
LineEnds held line texts left =
    AddsToGroup held line texts left
    ⊎ (FinishesGroup held line texts left ⊎ StandsAlone held line texts left)

-- Like `LineEnds`, for lines, one after the other.
abbrev pub LinesEnd :
    (held : List ℕ) (lines texts : List (List ℕ)) (left : List ℕ) → Type 0
LinesEnd held [] texts left = (texts ≡ []) × (left ≡ held)
LinesEnd held (line ∷ lines) texts left =
    (first : List (List ℕ)) × (between : List ℕ) × (rest : List (List ℕ))
    × LineEnds held line first between × LinesEnd between lines rest left
    × (texts ≡ first ++ rest)

-- `out` has a report on each group that ends with these lines, and `left` is held after them.
abbrev pub AreEndedReports : (held : List ℕ) (lines : List (List ℕ)) (left out : List ℕ) → Type 0
AreEndedReports held lines left out =
    (texts : List (List ℕ)) × LinesEnd held lines texts left × AreReports texts out

-- `out` is the report on the group that is held, if there is one. No group is then held.
abbrev pub IsHeldReport : (held left out : List ℕ) → Type 0
IsHeldReport held left out = AreReports (unless_held held) out × (left ≡ [])

-- `out` is these reports, and one on the group that is held after the lines. No line follows.
abbrev pub AreLastReports : (held : List ℕ) (lines : List (List ℕ)) (out : List ℕ) → Type 0
AreLastReports held lines out =
    (left : List ℕ) × (ended : List ℕ) × (last : List ℕ)
    × AreEndedReports held lines left ended × AreReports (unless_held left) last
    × (out ≡ ended ++ last)
