-- Only LFs and printable characters are written, and in color only the codes besides.
use Rattle.std.proofs.Common.{◌≡◌, ◌<◌, ◌+◌, ◌-◌, ◌/◌, ◌%◌, ℕ, zero, suc, Bool, true, false, ◌&&◌, ◌||◌, cond, eqb, ltb, leb, List, [], ◌∷◌, ◌++◌, Option, None, Some, length, get_or, replicate, max, refl, sym, ap, subst, ◌∙◌, arith, lit<, lit≤, ltb-true, leb-true, lt-ltb, append_assoc, append-nil}
use Rattle.std.specs.Fmt.{decimal, digits, digits_onto, digit_glyph}
use Rattle.std.specs.List.{list_all, flat_map, range_with_len}
use Rattle.std.specs.Str.{chars}
use Rattle.std.specs.Prelude.{codes}
use Rattle.std.specs.Char.Escape.{escape_unicode}
use Rattle.std.proofs.lemmas.Bool.{and_parts, and_from, eqb-true}
use Rattle.std.proofs.lemmas.List.FromFn.{get_or-range_with_len, length-range_with_len}
use Rattle.ucd_category.specs.GeneralCategory.{general_category}
use Rattle.ucd_category.specs.GeneralCategoryRows.{general_category_rows}
use Rattle.ucd_table.specs.Rows.{value_in}
use Rattle.litrs_base.proofs.Runs.{list_all-append, list_all-weaken}
use Rattle.litrs_diagnostic.specs.Colors.{color_code, level_color, outside_codes, painted, plain_code, without_codes}
use Rattle.litrs_diagnostic.specs.Printable.{is_printable}
use Rattle.litrs_diagnostic.specs.Position.{is_line_feed}
use Rattle.litrs_diagnostic.specs.Row.{Row, above_of, blanks, dots, gap_text, is_line_above, label_gap, line_below, line_text, margin_text, marks_below, marks_text, mark_color, mark_glyph, rows_text, skips_lines}
use Rattle.litrs_diagnostic.specs.Shown.{blank, shown, shown_char, columns}
use Rattle.litrs_diagnostic.specs.declared.colors.Color.{Color}
use Rattle.litrs_diagnostic.specs.declared.colors.Color.TheVariants.{BoldRed, BoldYellow, BoldGreen, BoldCyan, BoldBlue, Green}
use Rattle.litrs_diagnostic.specs.declared.levels.Level.{Level}
use Rattle.litrs_diagnostic.specs.declared.levels.Level.TheVariants.{Error, Warning, Note, Help}
use Rattle.litrs_diagnostic.specs.declared.marks.Mark.{Mark}
use Rattle.litrs_diagnostic.specs.declared.marks.Mark.TheVariants.{Primary, Secondary}
use Rattle.litrs_diagnostic.specs.declared.row.Above.{Above}
use Rattle.litrs_diagnostic.specs.Diagnostic.{Message, Remark, column_of, diagnostic_text, colored_text, first_number, heading_text, is_line_feed_or_printable, level_text, margin_of, message_text, remark_text, remarks_text, rows_of}
use Rattle.litrs_diagnostic.proofs.Widths.{IsPlain, ArePlain, plain_escape}

-- ---- printable ASCII

all_at : (p : ℕ → Bool) (xs : List ℕ) → list_all p xs ≡ true → (k d : ℕ) → k < length xs →
    p (get_or xs k d) ≡ true
all_at p [] h k d within = absurd (omega arith)
all_at p (x ∷ xs) h zero d within = (and_parts (p x) (list_all p xs) h).0
all_at p (x ∷ xs) h (suc k) d within = all_at p xs (and_parts (p x) (list_all p xs) h).1 k d
    (omega arith)

ascii_printable : list_all is_printable (range_with_len 32 95) ≡ true
unfolding is_printable general_category general_category_rows value_in
ascii_printable = refl

plain_printable : (c : ℕ) → IsPlain c → is_printable c ≡ true
plain_printable c h =
    let k = c - 32 in
    let near : k < 95 = omega (arith, h.0, h.1) in
    let within : k < length (range_with_len 32 95) =
    subst (λ (n : ℕ). k < n) (sym (length-range_with_len 32 95)) near in
    let same : 32 + k ≡ c = omega (arith, h.0) in
    subst (λ (n : ℕ). is_printable n ≡ true) (get_or-range_with_len 32 95 k 0 near ∙ same)
    (all_at is_printable (range_with_len 32 95) ascii_printable k 0 within)

plain_all : (cs : List ℕ) → ArePlain cs → list_all is_printable cs ≡ true
plain_all [] h = refl
plain_all (c ∷ cs) h = and_from (is_printable c) (list_all is_printable cs)
    (plain_printable c h.0) (plain_all cs h.1)

abbrev is_plain : ℕ → Bool
is_plain c = leb 32 c && ltb c 127

plain_by_test : (cs : List ℕ) → list_all is_plain cs ≡ true → list_all is_printable cs ≡ true
plain_by_test [] h = refl
plain_by_test (c ∷ cs) h =
    let parts = and_parts (is_plain c) (list_all is_plain cs) h in
    let bounds = and_parts (leb 32 c) (ltb c 127) parts.0 in
    and_from (is_printable c) (list_all is_printable cs)
    (plain_printable c (leb-true 32 c bounds.0, ltb-true c 127 bounds.1)) (plain_by_test cs parts.1)

-- ---- pieces

all_replicate : (p : ℕ → Bool) (n c : ℕ) → p c ≡ true → list_all p (replicate n c) ≡ true
all_replicate p zero c h = refl
all_replicate p (suc n) c h = and_from (p c) (list_all p (replicate n c)) h (all_replicate p n c h)

blanks_printable : (n : ℕ) → list_all is_printable (blanks n) ≡ true
blanks_printable n = all_replicate is_printable n blank (plain_printable 32 (lit≤ tt, lit< tt))

glyph_printable : (mark : Mark) → is_printable (mark_glyph mark) ≡ true
glyph_printable (Primary level) = plain_printable 94 (lit≤ tt, lit< tt)
glyph_printable Secondary = plain_printable 45 (lit≤ tt, lit< tt)

marks_printable : (mark : Mark) (cs : List ℕ) →
    list_all is_printable (marks_below (mark_glyph mark) cs) ≡ true
marks_printable mark cs = all_replicate is_printable (max 1 (columns (shown cs))) (mark_glyph mark)
    (glyph_printable mark)

gap_printable : (label : List ℕ) → list_all is_printable (label_gap label) ≡ true
gap_printable [] = refl
gap_printable (c ∷ t) = blanks_printable 1

shown_char_by : (c : ℕ) (a b : Bool) → eqb c 9 ≡ a → is_printable c ≡ b →
    list_all is_printable (shown_char c) ≡ true
unfolding shown_char
shown_char_by c true b e f = rw e (blanks_printable 4)
shown_char_by c false true e f = rw e (subst (λ (d : Bool). list_all is_printable
    (cond d (c ∷ []) (escape_unicode c)) ≡ true) (sym f) (and_from (is_printable c) true f refl))
shown_char_by c false false e f = rw e (subst (λ (d : Bool). list_all is_printable
    (cond d (c ∷ []) (escape_unicode c)) ≡ true) (sym f)
    (plain_all (escape_unicode c) (plain_escape c)))

shown_printable : (cs : List ℕ) → list_all is_printable (shown cs) ≡ true
shown_printable [] = refl
shown_printable (c ∷ cs) =
    list_all-append is_printable (shown_char c) (shown cs)
    (shown_char_by c (eqb c 9) (is_printable c) refl refl) (shown_printable cs)

glyph_plain : (n : ℕ) → IsPlain (digit_glyph false (n % 10))
glyph_plain n =
    let small : n % 10 < 10 = omega arith in
    rw (lt-ltb (n % 10) 10 small) (omega arith, omega arith)

digits_cond : (b : Bool) (xs ys : List ℕ) → ArePlain xs → ArePlain ys → ArePlain (cond b xs ys)
digits_cond true xs ys h k = h
digits_cond false xs ys h k = k

digits_plain : (k n : ℕ) (acc : List ℕ) → ArePlain acc → ArePlain (digits_onto k 10 false n acc)
digits_plain zero n acc h = h
digits_plain (suc k) n acc h =
    digits_cond (eqb (n / 10) 0) (digit_glyph false (n % 10) ∷ acc)
    (digits_onto k 10 false (n / 10) (digit_glyph false (n % 10) ∷ acc))
    (glyph_plain n, h) (digits_plain k (n / 10) (digit_glyph false (n % 10) ∷ acc) (
      glyph_plain n,
      h,
    ))

decimal_printable : (n : ℕ) → list_all is_printable (decimal n) ≡ true
unfolding digits
decimal_printable n = plain_all (digits_onto 64 10 false n []) (digits_plain 64 n [] tt)

-- ---- codes

or_true : (a b : Bool) → b ≡ true → (a || b) ≡ true
or_true true b h = refl
or_true false b h = h

printable_clean : (c : ℕ) → is_printable c ≡ true → is_line_feed_or_printable c ≡ true
printable_clean c h = or_true (is_line_feed c) (is_printable c) h

escape_hidden : is_line_feed_or_printable 27 ≡ false
unfolding is_printable general_category general_category_rows value_in
escape_hidden = refl

-- a character other than ESC is kept
kept_by : (c : ℕ) (t : List ℕ) (b : Bool) → eqb c 27 ≡ b → is_line_feed_or_printable c ≡ true →
    outside_codes false (c ∷ t) ≡ c ∷ outside_codes false t
unfolding outside_codes
kept_by c t false e h = rw e refl
kept_by c t true e h =
    let same : c ≡ 27 = eqb-true c 27 e in
    let other : is_line_feed_or_printable 27 ≡ true = subst
    (λ (n : ℕ). is_line_feed_or_printable n ≡ true) same h in
    let no : false ≡ true = sym escape_hidden ∙ other in cc

-- a clean text is kept before any other
kept_before : (xs ys : List ℕ) → list_all is_line_feed_or_printable xs ≡ true →
    outside_codes false (xs ++ ys) ≡ xs ++ outside_codes false ys
kept_before [] ys h = refl
kept_before (c ∷ t) ys h =
    let parts = and_parts (is_line_feed_or_printable c) (list_all is_line_feed_or_printable t) h in
    kept_by c (t ++ ys) (eqb c 27) refl parts.0
    ∙ ap (λ (l : List ℕ). c ∷ l) (kept_before t ys parts.1)

-- a code is left out
no_color_code : (color : Color) (ys : List ℕ) →
    outside_codes false (color_code color ++ ys) ≡ outside_codes false ys
unfolding outside_codes
no_color_code BoldRed ys = refl
no_color_code BoldYellow ys = refl
no_color_code BoldGreen ys = refl
no_color_code BoldCyan ys = refl
no_color_code BoldBlue ys = refl
no_color_code Green ys = refl

no_plain_code : (ys : List ℕ) → outside_codes false (plain_code ++ ys) ≡ outside_codes false ys
unfolding outside_codes
no_plain_code ys = refl

-- ---- all of it

-- `ys` is `xs` without the codes in it, whatever follows, and clean
record IsPlainOf (xs ys : List ℕ) : Type 0 where
  clean : list_all is_line_feed_or_printable ys ≡ true
  kept : (more : List ℕ) → outside_codes false (xs ++ more) ≡ ys ++ outside_codes false more

none_plain : IsPlainOf [] []
none_plain = record { clean = refl; kept = λ more. refl }

same_plain : (xs : List ℕ) → list_all is_line_feed_or_printable xs ≡ true → IsPlainOf xs xs
same_plain xs h = record { clean = h; kept = λ more. kept_before xs more h }

both_plain : (xs xs' ys ys' : List ℕ) → IsPlainOf xs xs' → IsPlainOf ys ys' →
    IsPlainOf (xs ++ ys) (xs' ++ ys')
both_plain xs xs' ys ys' h k = record {
  clean = list_all-append is_line_feed_or_printable xs' ys' h.clean k.clean;
  kept = λ more. ap (outside_codes false) (append_assoc xs ys more) ∙ (h.kept (ys ++ more)
      ∙ (ap (λ (l : List ℕ). xs' ++ l) (k.kept more)
      ∙ sym (append_assoc xs' ys' (outside_codes false more))));
}

printable_plain : (xs : List ℕ) → list_all is_printable xs ≡ true → IsPlainOf xs xs
printable_plain xs h = same_plain xs
    (list_all-weaken is_printable is_line_feed_or_printable printable_clean xs h)

piece : (xs ys ys' : List ℕ) → list_all is_printable xs ≡ true → IsPlainOf ys ys' →
    IsPlainOf (xs ++ ys) (xs ++ ys')
piece xs ys ys' h k = both_plain xs xs ys ys' (printable_plain xs h) k

line_end : IsPlainOf (10 ∷ []) (10 ∷ [])
line_end = same_plain (10 ∷ []) refl

-- a part between the codes of a color
part : (color : Color) (xs : List ℕ) → list_all is_printable xs ≡ true →
    IsPlainOf (painted true color xs) (painted false color xs)
part color xs h =
    let all = list_all-weaken is_printable is_line_feed_or_printable printable_clean xs h in
    record {
      clean = all;
      kept = λ more. ap (outside_codes false)
          (append_assoc (color_code color) (xs ++ plain_code) more)
          ∙ (no_color_code color ((xs ++ plain_code) ++ more)
          ∙ (ap (outside_codes false) (append_assoc xs plain_code more)
          ∙ (kept_before xs (plain_code ++ more) all
          ∙ ap (λ (l : List ℕ). xs ++ l) (no_plain_code more))));
    }

both_printable : (xs ys : List ℕ) → list_all is_printable xs ≡ true →
    list_all is_printable ys ≡ true → list_all is_printable (xs ++ ys) ≡ true
both_printable xs ys h k = list_all-append is_printable xs ys h k

bar_printable : list_all is_printable (codes " |") ≡ true
bar_printable = plain_by_test (codes " |") refl

margin_plain : (margin : ℕ) (sign : List ℕ) → list_all is_printable sign ≡ true →
    IsPlainOf (margin_text true margin sign) (margin_text false margin sign)
margin_plain margin sign h = part BoldBlue (blanks margin ++ sign)
    (both_printable (blanks margin) sign (blanks_printable margin) h)

dots_printable : (is_cut : Bool) → list_all is_printable (dots is_cut) ≡ true
dots_printable true = plain_by_test (codes "...") refl
dots_printable false = refl

line_plain : (margin : ℕ) (row : Row) →
    IsPlainOf (line_text true margin row) (line_text false margin row)
unfolding line_text
line_plain margin row =
    let l = row.line in
    both_plain _ _ _ _ (part BoldBlue (decimal row.number
    ++ (blanks (margin - length (decimal row.number)) ++ codes " |"))
    (both_printable (decimal row.number) _ (decimal_printable row.number)
    (both_printable (blanks (margin - length (decimal row.number))) (codes " |")
    (blanks_printable (margin - length (decimal row.number))) bar_printable)))
    (piece (codes " ") _ _ (blanks_printable 1)
    (piece (dots l.is_cut_before) _ _ (dots_printable l.is_cut_before)
    (piece (shown l.before) _ _ (shown_printable l.before)
    (piece (shown l.marked) _ _ (shown_printable l.marked)
    (piece (shown l.after) _ _ (shown_printable l.after)
    (piece (dots l.is_cut_after) _ _ (dots_printable l.is_cut_after) line_end))))))

marks_plain : (margin : ℕ) (row : Row) →
    IsPlainOf (marks_text true margin row) (marks_text false margin row)
unfolding marks_text
marks_plain margin row =
    let l = row.line in
    let indent = length (dots l.is_cut_before) in
    let below = columns (shown l.before) in
    let label = label_gap row.label ++ shown (chars row.label) in
    both_plain _ _ _ _ (margin_plain margin (codes " |") bar_printable)
    (both_plain _ _ _ _ (part (mark_color row.mark) (codes " " ++ (blanks indent ++ (blanks below
    ++ (marks_below (mark_glyph row.mark) l.marked ++ label))))
    (both_printable (codes " ") _ (blanks_printable 1)
    (both_printable (blanks indent) _ (blanks_printable indent)
    (both_printable (blanks below) _ (blanks_printable below)
    (both_printable (marks_below (mark_glyph row.mark) l.marked) label
    (marks_printable row.mark l.marked) (both_printable (label_gap row.label) _
    (gap_printable row.label) (shown_printable (chars row.label)))))))) line_end)

plain_cond : (b : Bool) (xs xs' ys ys' : List ℕ) → IsPlainOf xs xs' → IsPlainOf ys ys' →
    IsPlainOf (cond b xs ys) (cond b xs' ys')
plain_cond true xs xs' ys ys' h k = h
plain_cond false xs xs' ys ys' h k = k

gap_plain : (is_gap : Bool) → IsPlainOf (gap_text true is_gap) (gap_text false is_gap)
gap_plain true = both_plain _ _ _ _ (part BoldBlue (codes "...") (plain_by_test (codes "...") refl))
    line_end
gap_plain false = none_plain

below_plain : (margin : ℕ) (above : Option Above) (row : Row) →
    IsPlainOf (line_below true margin above row) (line_below false margin above row)
below_plain margin above row =
    plain_cond (is_line_above above row) [] [] _ _ none_plain
    (both_plain _ _ _ _ (gap_plain (skips_lines above row.number)) (line_plain margin row))

rows_plain : (margin : ℕ) (above : Option Above) (rows : List Row) →
    IsPlainOf (rows_text true margin above rows) (rows_text false margin above rows)
unfolding rows_text
rows_plain margin above [] = none_plain
rows_plain margin above (row ∷ rows) =
    both_plain _ _ _ _ (both_plain _ _ _ _ (below_plain margin above row) (marks_plain margin row))
    (rows_plain margin (Some (above_of row)) rows)

level_printable : (level : Level) → list_all is_printable (level_text level) ≡ true
level_printable Error = plain_by_test (codes "error") refl
level_printable Warning = plain_by_test (codes "warning") refl
level_printable Note = plain_by_test (codes "note") refl
level_printable Help = plain_by_test (codes "help") refl

heading_plain : (m : Message) → IsPlainOf (heading_text true m) (heading_text false m)
unfolding heading_text
heading_plain m =
    both_plain _ _ _ _ (part (level_color m.level) (level_text m.level) (level_printable m.level))
    (piece (codes ": ") _ _ (plain_by_test (codes ": ") refl)
    (piece (shown (chars m.message)) _ _ (shown_printable (chars m.message))
    (both_plain _ _ _ _ line_end
    (both_plain _ _ _ _ (margin_plain (margin_of m) (codes "-->") (plain_by_test (codes "-->") refl))
    (piece (codes " ") _ _ (blanks_printable 1)
    (piece (shown (chars m.name)) _ _ (shown_printable (chars m.name))
    (piece (codes ":") _ _ (plain_by_test (codes ":") refl)
    (piece (decimal (first_number m)) _ _ (decimal_printable (first_number m))
    (piece (codes ":") _ _ (plain_by_test (codes ":") refl)
    (piece (decimal (column_of m)) _ _ (decimal_printable (column_of m))
    (both_plain _ _ _ _ line_end
    (both_plain _ _ _ _ (margin_plain (margin_of m) (codes " |") bar_printable) line_end))))))))))))

remark_plain : (margin : ℕ) (r : Remark) →
    IsPlainOf (remark_text true margin r) (remark_text false margin r)
remark_plain margin r =
    both_plain _ _ _ _ (margin_plain margin (codes " =") (plain_by_test (codes " =") refl))
    (piece (codes " ") _ _ (blanks_printable 1)
    (piece (level_text r.level) _ _ (level_printable r.level)
    (piece (codes ": ") _ _ (plain_by_test (codes ": ") refl)
    (piece (shown (chars r.text)) _ _ (shown_printable (chars r.text)) line_end))))

remark_lines_plain : (margin : ℕ) (rs : List Remark) →
    IsPlainOf (flat_map (remark_text true margin) rs) (flat_map (remark_text false margin) rs)
remark_lines_plain margin [] = none_plain
remark_lines_plain margin (r ∷ rs) =
    both_plain (remark_text true margin r) (remark_text false margin r) _ _
    (remark_plain margin r) (remark_lines_plain margin rs)

remarks_plain : (margin : ℕ) (rs : List Remark) →
    IsPlainOf (remarks_text true margin rs) (remarks_text false margin rs)
remarks_plain margin [] = none_plain
remarks_plain margin (r ∷ rs) =
    both_plain _ _ _ _ (margin_plain margin (codes " |") bar_printable)
    (both_plain _ _ _ _ line_end (remark_lines_plain margin (r ∷ rs)))

message_plain : (m : Message) → IsPlainOf (colored_text m) (diagnostic_text m)
unfolding message_text
message_plain m =
    both_plain _ _ _ _ (heading_plain m)
    (both_plain _ _ _ _ (rows_plain (margin_of m) None (rows_of m))
    (remarks_plain (margin_of m) m.remarks))

pub diagnostic_clean : (m : Message) →
    list_all is_line_feed_or_printable (diagnostic_text m) ≡ true
diagnostic_clean m = (message_plain m).clean

none_kept : outside_codes false [] ≡ []
unfolding outside_codes
none_kept = refl

pub codes_apart : (m : Message) → without_codes (colored_text m) ≡ diagnostic_text m
codes_apart m =
    ap without_codes (sym (append-nil (colored_text m)))
    ∙ ((message_plain m).kept []
    ∙ (ap (λ (l : List ℕ). diagnostic_text m ++ l) none_kept ∙ append-nil (diagnostic_text m)))
