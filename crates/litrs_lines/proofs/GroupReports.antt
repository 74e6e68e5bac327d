-- The reports on the groups that end with lines: each list of lines has them, and each line
-- continues them.
use Rattle.std.proofs.Common.{◌≡◌, ◌∙◌, inl, inr, ℕ, List, [], ◌∷◌, ◌++◌, refl, sym, ap, subst, append_assoc}
use Rattle.std.specs.Prelude.{map, codes, Result, Ok, Err, OnOk, is_ok, if◌then◌else◌}
use Rattle.std.specs.Str.{chars, IsUtf8}
use Rattle.litrs_base.specs.declared.err.ParseError.{ParseError}
use Rattle.litrs_base.specs.Refusal.{refusal_of}
use Rattle.litrs_grammar.specs.Literal.{Derivation, IsLiteral, literal_parse}
use Rattle.litrs_grammar.specs.Refused.{IsRefused}
use Rattle.litrs_lines.specs.Held.{IsRefusalOfHeld}
use Rattle.litrs_lines.specs.Steps.{BeginsByLine, IsUnfinished}
use Rattle.litrs_lines.specs.Groups.{joined, IsNoText, IsFinished}
use Rattle.litrs_lines.specs.Report.{literal_report, refusal_report, IsTextReport}
use Rattle.litrs_lines.specs.Reports.{AreReports, AreGroupReports}
use Rattle.litrs_lines.specs.ReportLaws.{LinesHaveReports, ReportsAreUnique}
use Rattle.litrs_lines.specs.Ended.{unless_held, LineEnds, AreEndedReports, AreLastReports, IsHeldReport}
use Rattle.litrs_lines.specs.Sent.{AreBytes}
use Rattle.litrs_lines.proofs.ReportLemmas.{texts_have_reports, AreReports-one, AreReports-append, one_list_of_reports}
use Rattle.litrs_lines.proofs.StepLemmas.{first_is}
use Rattle.litrs_lines.proofs.GroupLemmas.{unless_held-some, lines_end, LinesEnd-one, LinesEnd-append, grouped, groups_are_unique}

-- ---- each list of lines has them

pub have_ended_reports : (held : List ℕ) (lines : List (List ℕ)) → (left : List ℕ) × (out : List ℕ) × AreEndedReports held lines left out
have_ended_reports held lines =
    let ends = lines_end held lines in
    let found = texts_have_reports ends.0 in
    (ends.1, found.0, (ends.0, ends.2, found.1))

-- with those on what is then held
pub last_reports : (held : List ℕ) (lines : List (List ℕ)) (left ended : List ℕ) → AreEndedReports held lines left ended → (last : List ℕ) × AreLastReports held lines (ended ++ last)
last_reports held lines left ended is =
    let found = texts_have_reports (unless_held left) in
    (found.0, (left, ended, found.0, is, found.1, refl))

pub have_last_reports : (held : List ℕ) (lines : List (List ℕ)) → (out : List ℕ) × AreLastReports held lines out
have_last_reports held lines =
    let found = have_ended_reports held lines in
    let all = last_reports held lines found.0 found.1 found.2 in
    (found.1 ++ all.0, all.1)

-- from the first line on they are the reports on the groups
pub group_reports : (lines : List (List ℕ)) (out : List ℕ) → AreLastReports [] lines out → AreGroupReports lines out
group_reports lines out all =
    let ended = all.3 in
    let found = grouped lines ended.0 all.0 ended.1 in (
      found.0,
      found.1,
      subst (λ (ts : List (List ℕ)). AreReports ts out) (sym found.2)
          (subst (AreReports (ended.0 ++ unless_held all.0)) (sym all.5) (AreReports-append ended.0 (unless_held all.0) all.1 all.2 ended.2 all.4)),
    )

pub lines_have_reports : LinesHaveReports
lines_have_reports lines = let all = have_last_reports [] lines in (all.0, group_reports lines all.0 all.1)

pub reports_are_unique : ReportsAreUnique
reports_are_unique lines out other a b =
    let same : a.0 ≡ b.0 = groups_are_unique lines a.0 b.0 a.1 b.1 in
    one_list_of_reports (map joined b.0) out other (subst (λ gs. AreReports (map joined gs) out) same a.2) b.2

-- ---- no lines, and more lines

pub ended-none : (held : List ℕ) → AreEndedReports held [] held []
ended-none held = ([], (refl, refl), refl)

pub ended-append : (held : List ℕ) (lines more : List (List ℕ)) (between left out next : List ℕ) →
    AreEndedReports held lines between out → AreEndedReports between more left next → AreEndedReports held (lines ++ more) left (out ++ next)
ended-append held lines more between left out next a b =
    (a.0 ++ b.0, LinesEnd-append held lines more between left a.0 b.0 a.1 b.1, AreReports-append a.0 b.0 out next a.2 b.2)

pub last-append : (held : List ℕ) (lines more : List (List ℕ)) (between out next : List ℕ) →
    AreEndedReports held lines between out → AreLastReports between more next → AreLastReports held (lines ++ more) (out ++ next)
last-append held lines more between out next a b = (
  b.0,
  out ++ b.1,
  b.2,
  ended-append held lines more between b.0 out b.1 a b.3,
  b.4,
  ap (λ (xs : List ℕ). out ++ xs) b.5 ∙ sym (append_assoc out b.1 b.2),
)

-- some lines of which reports are made, and more that are not
pub ended-longer : (held : List ℕ) (lines more : List (List ℕ)) (between out : List ℕ) → AreEndedReports held lines between out →
    (left : List ℕ) × (next : List ℕ) × AreEndedReports held (lines ++ more) left (out ++ next)
ended-longer held lines more between out is =
    let all = have_ended_reports between more in
    (all.0, all.1, ended-append held lines more between all.0 out all.1 is all.2)

-- ---- a line by itself, whose literal or refusal is known

-- it is a group, and r is the report on it
group_ends : (line r : List ℕ) → IsUtf8 line → IsFinished line → IsTextReport (chars line) r → AreEndedReports [] (line ∷ []) [] (r ++ 10 ∷ [])
group_ends line r text is report =
    (line ∷ [], LinesEnd-one [] line (line ∷ []) [] (inr (inl (text, is, refl, refl))), AreReports-one line r (inl (text, report)))

-- the line is finished, and this is the report on it
pub record Finishes (held line r : List ℕ) : Type 0 where
  pub nothing : held ≡ []
  pub text : IsUtf8 line
  pub finished : IsFinished line
  pub report : IsTextReport (chars line) r

pub first_reported : (held line left out r : List ℕ) → Finishes held line r → AreBytes held (r ++ 10 ∷ []) left out → AreEndedReports held (line ∷ []) left out
first_reported held line left out r is bytes =
    subst (λ (o : List ℕ). AreEndedReports held (line ∷ []) left o) (sym bytes.1)
    (subst (λ (l : List ℕ). AreEndedReports held (line ∷ []) l (r ++ 10 ∷ [])) (sym bytes.0)
    (subst (λ (h : List ℕ). AreEndedReports h (line ∷ []) h (r ++ 10 ∷ [])) (sym is.nothing) (group_ends line r is.text is.finished is.report)))

pub literal_finishes : (held line : List ℕ) (d : Derivation) → held ≡ [] → IsUtf8 line → IsLiteral (chars line) d → Finishes held line (literal_report d)
literal_finishes held line d none text is = record {
  nothing = none;
  text = text;
  finished = inl (d, is);
  report = inl (d, is, refl);
}

-- a line that is refused, and does not begin a literal with an LF after it
pub refusal_finishes : (held line : List ℕ) (e : ParseError) → held ≡ [] → IsUtf8 line → IsRefused literal_parse (chars line) e → (BeginsByLine (held ++ line) → ⊥) →
    Finishes held line (refusal_report (refusal_of e))
refusal_finishes held line e none text refused shut = record {
  nothing = none;
  text = text;
  finished = inr (subst (λ (t : List ℕ). BeginsByLine t → ⊥) (first_is held line none) shut);
  report = inr (refusal_of e, refused.table, refl);
}

-- ---- a line after lines that are held, and the text of all of them

-- the line is held too
pub goes_on_reported : (held line left : List ℕ) → IsUtf8 line → IsUnfinished (held ++ line) → left ≡ (held ++ line) ++ 10 ∷ [] → AreEndedReports held (line ∷ []) left []
goes_on_reported held line left text is after = ([], LinesEnd-one held line [] left (inl (text, is, refl, after)), refl)

-- the line ends what the text ends where nothing is held
same_ends : (held line : List ℕ) (texts : List (List ℕ)) (left : List ℕ) → IsUtf8 line → IsUtf8 (held ++ line) → LineEnds [] (held ++ line) texts left → LineEnds held line texts left
same_ends held line texts left one whole (inl more) = inl (one, more.1, more.2, more.3)
same_ends held line texts left one whole (inr (inl ends)) = inr (inl (one, ends.1, ends.2, ends.3))
same_ends held line texts left one whole (inr (inr other)) = absurd (other.0 whole)

-- so its reports are those on the text
pub joined_ends : (held line none text left out : List ℕ) → none ≡ [] → text ≡ held ++ line → IsUtf8 line → IsUtf8 text → AreEndedReports none (text ∷ []) left out →
    AreEndedReports held (line ∷ []) left out
joined_ends held line none text left out nothing is one whole ended =
    let same = subst (λ (t : List ℕ). AreEndedReports [] (t ∷ []) left out) is (subst (λ (h : List ℕ). AreEndedReports h (text ∷ []) left out) nothing ended) in
    let ends = same.1 in
    (same.0, (ends.0, ends.1, ends.2, same_ends held line ends.0 ends.1 one (subst IsUtf8 is whole) ends.3, ends.4, ends.5), same.2)

-- the report on lines that are held
pub held_adds : (held left : List ℕ) (e : ParseError) → left ≡ [] → IsRefusalOfHeld held e → IsHeldReport held left (refusal_report (refusal_of e) ++ 10 ∷ [])
held_adds held left e none is =
    let r : List ℕ = refusal_report (refusal_of e) in (
      subst (λ (ts : List (List ℕ)). AreReports ts (r ++ 10 ∷ [])) (sym (unless_held-some held is.0 (sym is.2)))
          (AreReports-one is.0 r (inl (is.1, inr (refusal_of e, is.3.table, refl)))),
      none,
    )

-- after it, the report on a line that is not UTF-8
pub other_reported : (held line left out : List ℕ) → IsNoText line → IsHeldReport held left out →
    AreEndedReports held (line ∷ []) left (out ++ codes "error input is not UTF-8\n")
other_reported held line left out other is = (
  unless_held held ++ line ∷ [],
  LinesEnd-one held line (unless_held held ++ line ∷ []) left (inr (inr (other, refl, is.1))),
  AreReports-append (unless_held held) (line ∷ []) out (codes "error input is not UTF-8\n") is.0
      (AreReports-one line (codes "error input is not UTF-8") (inr (other, refl))),
)

-- the report on what is held comes last
pub last_reported : (held : List ℕ) (lines : List (List ℕ)) (between left out more : List ℕ) → AreEndedReports held lines between out → IsHeldReport between left more →
    AreLastReports held lines (out ++ more)
last_reported held lines between left out more ended is = (between, out, more, ended, is.0, refl)

-- an LF after what was pushed
pub pushes_line_feed : {T E : Type 0} (result : Result T E) (old front new r end : List ℕ) → front ≡ old ++ r → end ≡ 10 ∷ [] → new ≡ (if is_ok result then front ++ end else front) →
    OnOk result (new ≡ old ++ (r ++ 10 ∷ []))
pushes_line_feed (Ok _) old front new r end pushed is made =
    made ∙ ap (λ (x : List ℕ). front ++ x) is ∙ ap (λ (x : List ℕ). x ++ 10 ∷ []) pushed ∙ append_assoc old r (10 ∷ [])
pushes_line_feed (Err _) old front new r end pushed is made = tt
