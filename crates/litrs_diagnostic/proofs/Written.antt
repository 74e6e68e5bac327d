-- The bytes of what is written, piece by piece.
use Rattle.std.proofs.Common.{◌≡◌, ◌<◌, ◌+◌, ◌-◌, ℕ, Bool, true, false, ◌&&◌, cond, eqb, List, [], ◌∷◌, ◌++◌, max, length, replicate, refl, sym, ap, ◌∙◌, arith, append_assoc, ltb, append-nil, zero, suc, ◌/◌, ◌%◌, lt-ltb}
use Rattle.std.specs.Fmt.{decimal, digits, digits_onto, digit_glyph}
use Rattle.std.specs.List.{list_all}
use Rattle.std.specs.Str.{chars, encode_utf8_all, IsAscii}
use Rattle.std.specs.Prelude.{codes}
use Rattle.std.proofs.lemmas.Bool.{and_parts, eqb-true}
use Rattle.std.proofs.lemmas.List.Sums.{sum_by-append}
use Rattle.std.proofs.lemmas.Str.{encodes-append, encodes-IsAscii}
use Rattle.std.proofs.lemmas.Str.Ascii.{IsAscii-cons, IsAscii-nil}
use Rattle.litrs_base.proofs.Chars.{ascii_by_test}
use Rattle.litrs_diagnostic.specs.Colors.{color_code, plain_code, opening, closing, painted, level_color}
use Rattle.litrs_diagnostic.specs.Shown.{char_columns, columns, shown, shown_char}
use Rattle.litrs_diagnostic.specs.Row.{Row, blanks, dots, gap_text, label_gap, line_text, margin_text, marks_below, marks_text, mark_color, mark_glyph}
use Rattle.litrs_diagnostic.specs.declared.colors.Color.{Color}
use Rattle.litrs_diagnostic.specs.declared.colors.Color.TheVariants.{BoldRed, BoldYellow, BoldGreen, BoldCyan, BoldBlue, Green}
use Rattle.litrs_diagnostic.specs.declared.levels.Level.{Level}
use Rattle.litrs_diagnostic.specs.declared.levels.Level.TheVariants.{Error, Warning, Note, Help}
use Rattle.litrs_diagnostic.specs.Diagnostic.{Message, Remark, column_of, first_number, heading_text, level_text, margin_of, remark_text}

-- ---- marks

abbrev pub is_thin : ℕ → Bool
is_thin c = eqb (columns (shown_char c)) 0

pub thin : (cs : List ℕ) → list_all is_thin cs ≡ true → columns (shown cs) ≡ 0
thin [] h = refl
thin (c ∷ cs) h =
    let parts = and_parts (is_thin c) (list_all is_thin cs) h in
    let one : columns (shown_char c) ≡ 0 = eqb-true (columns (shown_char c)) 0 parts.0 in
    let more = thin cs parts.1 in
    sum_by-append char_columns (shown_char c) (shown cs) ∙ (omega (arith, one, more))

no_zero : (a : ℕ) → a ≡ 0 → (eqb a 0 && true) ≡ false → ⊥
no_zero a e h = let zero : (eqb 0 0 && true) ≡ false = rw e at h in cc

wide_either : (a b : ℕ) (rest : Bool) (all : ℕ) → all ≡ a + b → (rest ≡ false → 0 < b) →
    (eqb a 0 && rest) ≡ false → 0 < all
wide_either a b false all sum more h = omega (arith, more refl)
wide_either a b true all sum more h = let some : a ≡ 0 → ⊥ = λ e. no_zero a e h in
    omega (arith, some)

pub wide : (cs : List ℕ) → list_all is_thin cs ≡ false → 0 < columns (shown cs)
wide [] h = cc
wide (c ∷ cs) h =
    let sum = sum_by-append char_columns (shown_char c) (shown cs) in
    wide_either (columns (shown_char c)) (columns (shown cs)) (list_all is_thin cs)
    (columns (shown (c ∷ cs))) sum (wide cs) h

pub one_mark : (glyph : ℕ) (cs : List ℕ) → list_all is_thin cs ≡ true →
    replicate 1 glyph ≡ marks_below glyph cs
one_mark glyph cs h = let none = thin cs h in ap (λ (n : ℕ). replicate n glyph)
    (let one : 1 ≡ max 1 (columns (shown cs)) = omega (arith, none) in one)

pub many_marks : (glyph : ℕ) (cs : List ℕ) → list_all is_thin cs ≡ false →
    replicate (columns (shown cs)) glyph ≡ marks_below glyph cs
many_marks glyph cs h =
    let some = wide cs h in
    ap (λ (n : ℕ). replicate n glyph) (let all : columns (shown cs) ≡ max 1 (columns (shown cs)) =
    omega (arith, some) in all)

-- ---- ASCII

ascii_cond : (b : Bool) (xs ys : List ℕ) → IsAscii xs → IsAscii ys → IsAscii (cond b xs ys)
ascii_cond true xs ys h k = h
ascii_cond false xs ys h k = k

glyph : (n : ℕ) → digit_glyph false (n % 10) < 128
glyph n =
    let small : n % 10 < 10 = omega arith in
    rw (lt-ltb (n % 10) 10 small) (omega arith)

ascii_digits : (k n : ℕ) (acc : List ℕ) → IsAscii acc → IsAscii (digits_onto k 10 false n acc)
ascii_digits zero n acc h = h
ascii_digits (suc k) n acc h =
    ascii_cond (eqb (n / 10) 0) (digit_glyph false (n % 10) ∷ acc)
    (digits_onto k 10 false (n / 10) (digit_glyph false (n % 10) ∷ acc))
    (IsAscii-cons (digit_glyph false (n % 10)) acc (glyph n) h)
    (ascii_digits k (n / 10) (digit_glyph false (n % 10) ∷ acc)
    (IsAscii-cons (digit_glyph false (n % 10)) acc (glyph n) h))

ascii_decimal : (n : ℕ) → IsAscii (decimal n)
unfolding digits
ascii_decimal n = ascii_digits 64 n [] IsAscii-nil

pub decimal_bytes : (n : ℕ) → encode_utf8_all (decimal n) ≡ decimal n
decimal_bytes n = encodes-IsAscii (decimal n) (ascii_decimal n)

-- ---- pieces in a row

-- the bytes of an ASCII piece, and of more
pub ascii_then : (xs ys bs : List ℕ) → list_all (λ c. ltb c 128) xs ≡ true → encode_utf8_all ys ≡ bs →
    encode_utf8_all (xs ++ ys) ≡ xs ++ bs
ascii_then xs ys bs h more =
    encodes-append xs ys ∙ (ap (λ (l : List ℕ). l ++ encode_utf8_all ys)
    (encodes-IsAscii xs (ascii_by_test xs h)) ∙ ap (λ (l : List ℕ). xs ++ l) more)

decimal_then : (n : ℕ) (ys bs : List ℕ) → encode_utf8_all ys ≡ bs →
    encode_utf8_all (decimal n ++ ys) ≡ decimal n ++ bs
decimal_then n ys bs more =
    encodes-append (decimal n) ys ∙ (ap (λ (l : List ℕ). l ++ encode_utf8_all ys)
    (decimal_bytes n) ∙ ap (λ (l : List ℕ). decimal n ++ l) more)

pub text_then : (xs ys bs : List ℕ) → encode_utf8_all ys ≡ bs →
    encode_utf8_all (xs ++ ys) ≡ encode_utf8_all xs ++ bs
text_then xs ys bs more = encodes-append xs ys ∙ ap (λ (l : List ℕ). encode_utf8_all xs ++ l) more

newline : encode_utf8_all (10 ∷ []) ≡ 10 ∷ []
newline = encodes-IsAscii (10 ∷ []) (ascii_by_test (10 ∷ []) refl)

dots_then : (is_cut : Bool) (ys bs : List ℕ) → encode_utf8_all ys ≡ bs →
    encode_utf8_all (dots is_cut ++ ys) ≡ dots is_cut ++ bs
dots_then true ys bs more = ascii_then (codes "...") ys bs refl more
dots_then false ys bs more = more

level_then : (level : Level) (ys bs : List ℕ) → encode_utf8_all ys ≡ bs →
    encode_utf8_all (level_text level ++ ys) ≡ level_text level ++ bs
level_then Error ys bs more = ascii_then (codes "error") ys bs refl more
level_then Warning ys bs more = ascii_then (codes "warning") ys bs refl more
level_then Note ys bs more = ascii_then (codes "note") ys bs refl more
level_then Help ys bs more = ascii_then (codes "help") ys bs refl more

level_bytes : (level : Level) → encode_utf8_all (level_text level) ≡ level_text level
level_bytes Error = encodes-IsAscii (codes "error") (ascii_by_test (codes "error") refl)
level_bytes Warning = encodes-IsAscii (codes "warning") (ascii_by_test (codes "warning") refl)
level_bytes Note = encodes-IsAscii (codes "note") (ascii_by_test (codes "note") refl)
level_bytes Help = encodes-IsAscii (codes "help") (ascii_by_test (codes "help") refl)

gap_then : (label ys bs : List ℕ) → encode_utf8_all ys ≡ bs →
    encode_utf8_all (label_gap label ++ ys) ≡ label_gap label ++ bs
gap_then [] ys bs more = more
gap_then (c ∷ t) ys bs more = ascii_then (codes " ") ys bs refl more

-- ---- colors

color_ascii : (color : Color) → list_all (λ c. ltb c 128) (color_code color) ≡ true
color_ascii BoldRed = refl
color_ascii BoldYellow = refl
color_ascii BoldGreen = refl
color_ascii BoldCyan = refl
color_ascii BoldBlue = refl
color_ascii Green = refl

-- a part between the codes of a color
painted_bytes : (is_colored : Bool) (color : Color) (text bs : List ℕ) →
    encode_utf8_all text ≡ bs → encode_utf8_all (painted is_colored color text)
    ≡ opening is_colored color ++ (bs ++ closing is_colored)
painted_bytes false color text bs is = is ∙ sym (append-nil bs)
painted_bytes true color text bs is =
    ascii_then (color_code color) (text ++ plain_code) _ (color_ascii color)
    (text_then text plain_code _ (encodes-IsAscii plain_code (ascii_by_test plain_code refl))
    ∙ ap (λ (l : List ℕ). l ++ plain_code) is)

painted_then : (is_colored : Bool) (color : Color) (text bs ys cs : List ℕ) →
    encode_utf8_all text ≡ bs → encode_utf8_all ys ≡ cs →
    encode_utf8_all (painted is_colored color text ++ ys)
    ≡ (opening is_colored color ++ (bs ++ closing is_colored)) ++ cs
painted_then is_colored color text bs ys cs is more =
    text_then (painted is_colored color text) ys cs more
    ∙ ap (λ (l : List ℕ). l ++ cs) (painted_bytes is_colored color text bs is)

-- a margin with a sign after it
margin_then : (is_colored : Bool) (margin : ℕ) (sign ys cs : List ℕ) →
    list_all (λ c. ltb c 128) sign ≡ true → encode_utf8_all ys ≡ cs →
    encode_utf8_all (margin_text is_colored margin sign ++ ys)
    ≡ (opening is_colored BoldBlue
    ++ ((encode_utf8_all (blanks margin) ++ sign) ++ closing is_colored)) ++ cs
margin_then is_colored margin sign ys cs ascii more =
    painted_then is_colored BoldBlue (blanks margin ++ sign) _ ys cs
    (text_then (blanks margin) sign _ (encodes-IsAscii sign (ascii_by_test sign ascii))) more

-- ---- rows

-- a line after its number, in two parts
pub line_bytes : (is_colored : Bool) (margin filling : ℕ) (blue plain start end : List ℕ)
    (row : Row) →
    filling ≡ margin - length (decimal row.number) → blue ≡ opening is_colored BoldBlue →
    plain ≡ closing is_colored →
    start ≡ dots row.line.is_cut_before → end ≡ dots row.line.is_cut_after →
    (blue ++ (decimal row.number ++ (encode_utf8_all (blanks filling) ++ (codes " |"
    ++ (plain ++ codes " ")))))
    ++ (start ++ (encode_utf8_all (shown row.line.before)
    ++ (encode_utf8_all (shown row.line.marked) ++ (encode_utf8_all (shown row.line.after)
    ++ (end ++ 10 ∷ [])))))
    ≡ encode_utf8_all (line_text is_colored margin row)
unfolding line_text
line_bytes is_colored margin filling blue plain start end row is_filling is_blue is_plain is_start
    is_end =
    rw (is_filling, is_blue, is_plain, is_start, is_end) (simp append_assoc refl
    ∙ sym (painted_then is_colored BoldBlue (decimal row.number
    ++ (blanks (margin - length (decimal row.number)) ++ codes " |")) _ _ _
    (decimal_then row.number _ _ (text_then (blanks (margin - length (decimal row.number))) _ _
    (encodes-IsAscii (codes " |") (ascii_by_test (codes " |") refl))))
    (ascii_then (codes " ") _ _ refl (dots_then row.line.is_cut_before _ _
    (text_then (shown row.line.before) _ _ (text_then (shown row.line.marked) _ _
    (text_then (shown row.line.after) _ _ (dots_then row.line.is_cut_after _ _ newline))))))))

-- the marks of a line, in two parts
pub marks_bytes : (is_colored : Bool) (margin : ℕ) (blue plain color start gap : List ℕ)
    (row : Row) → blue ≡ opening is_colored BoldBlue → plain ≡ closing is_colored →
    color ≡ opening is_colored (mark_color row.mark) → start ≡ dots row.line.is_cut_before →
    gap ≡ label_gap row.label →
    (blue ++ (encode_utf8_all (blanks margin) ++ (codes " |" ++ plain)))
    ++ (color ++ (codes " " ++ (encode_utf8_all (blanks (length start))
    ++ (encode_utf8_all (blanks (columns (shown row.line.before)))
    ++ (encode_utf8_all (marks_below (mark_glyph row.mark) row.line.marked)
    ++ (gap ++ (encode_utf8_all (shown (chars row.label)) ++ (plain ++ 10 ∷ []))))))))
    ≡ encode_utf8_all (marks_text is_colored margin row)
unfolding marks_text
marks_bytes is_colored margin blue plain color start gap row is_blue is_plain is_color is_start
    is_gap =
    rw (is_blue, is_plain, is_color, is_start, is_gap) (simp append_assoc refl
    ∙ sym (margin_then is_colored margin (codes " |") _ _ refl
    (painted_then is_colored (mark_color row.mark) (codes " "
    ++ (blanks (length (dots row.line.is_cut_before))
    ++ (blanks (columns (shown row.line.before))
    ++ (marks_below (mark_glyph row.mark) row.line.marked
    ++ (label_gap row.label ++ shown (chars row.label)))))) _ _ _
    (ascii_then (codes " ") _ _ refl (text_then (blanks (length (dots row.line.is_cut_before))) _ _
    (text_then (blanks (columns (shown row.line.before))) _ _
    (text_then (marks_below (mark_glyph row.mark) row.line.marked) _ _
    (gap_then row.label _ _ refl)))))
    newline)))

pub gap_bytes : (is_colored : Bool) (blue plain : List ℕ) → blue ≡ opening is_colored BoldBlue →
    plain ≡ closing is_colored → blue ++ (codes "..." ++ (plain ++ 10 ∷ []))
    ≡ encode_utf8_all (gap_text is_colored true)
gap_bytes is_colored blue plain is_blue is_plain =
    rw (is_blue, is_plain) (simp append_assoc refl
    ∙ sym (painted_then is_colored BoldBlue (codes "...") _ _ _
    (encodes-IsAscii (codes "...") (ascii_by_test (codes "...") refl)) newline))

-- ---- the heading and the remarks

-- the three lines before the rows
pub heading_bytes : (is_colored : Bool) (margin line column : ℕ) (color level plain blue : List ℕ)
    (m : Message) → margin ≡ margin_of m → line ≡ first_number m → column ≡ column_of m →
    color ≡ opening is_colored (level_color m.level) → level ≡ level_text m.level →
    plain ≡ closing is_colored → blue ≡ opening is_colored BoldBlue →
    ((color ++ (level ++ (plain ++ (codes ": " ++ (encode_utf8_all (shown (chars m.message))
    ++ 10 ∷ [])))))
    ++ (blue ++ (encode_utf8_all (blanks margin) ++ (codes "-->" ++ (plain ++ (codes " "
    ++ (encode_utf8_all (shown (chars m.name)) ++ (codes ":" ++ (decimal line ++ (codes ":"
    ++ (decimal column ++ 10 ∷ [])))))))))))
    ++ (blue ++ (encode_utf8_all (blanks margin) ++ (codes " |" ++ (plain ++ 10 ∷ []))))
    ≡ encode_utf8_all (heading_text is_colored m)
unfolding heading_text
heading_bytes is_colored margin line column color level plain blue m is_margin is_line is_column
    is_color is_level is_plain is_blue =
    rw (is_margin, is_line, is_column, is_color, is_level, is_plain, is_blue)
    (simp append_assoc refl
    ∙ sym (painted_then is_colored (level_color m.level) (level_text m.level) _ _ _
    (level_bytes m.level) (ascii_then (codes ": ") _ _ refl
    (text_then (shown (chars m.message)) _ _ (ascii_then (10 ∷ []) _ _ refl
    (margin_then is_colored (margin_of m) (codes "-->") _ _ refl (ascii_then (codes " ") _ _ refl
    (text_then (shown (chars m.name)) _ _ (ascii_then (codes ":") _ _ refl
    (decimal_then (first_number m) _ _ (ascii_then (codes ":") _ _ refl
    (decimal_then (column_of m) _ _ (ascii_then (10 ∷ []) _ _ refl
    (margin_then is_colored (margin_of m) (codes " |") _ _ refl newline))))))))))))))

-- the line before the remarks
pub bar_bytes : (is_colored : Bool) (margin : ℕ) (blue plain ys cs : List ℕ) →
    blue ≡ opening is_colored BoldBlue → plain ≡ closing is_colored → encode_utf8_all ys ≡ cs →
    (blue ++ (encode_utf8_all (blanks margin) ++ (codes " |" ++ (plain ++ 10 ∷ [])))) ++ cs
    ≡ encode_utf8_all (margin_text is_colored margin (codes " |") ++ (10 ∷ [] ++ ys))
bar_bytes is_colored margin blue plain ys cs is_blue is_plain is =
    rw (is_blue, is_plain) (simp append_assoc refl
    ∙ sym (margin_then is_colored margin (codes " |") _ _ refl
    (ascii_then (10 ∷ []) ys cs refl is)))

-- one remark
pub remark_bytes : (is_colored : Bool) (margin : ℕ) (blue plain word : List ℕ) (r : Remark) →
    blue ≡ opening is_colored BoldBlue → plain ≡ closing is_colored → word ≡ level_text r.level →
    blue ++ (encode_utf8_all (blanks margin) ++ (codes " =" ++ (plain ++ (codes " " ++ (word
    ++ (codes ": " ++ (encode_utf8_all (shown (chars r.text)) ++ 10 ∷ [])))))))
    ≡ encode_utf8_all (remark_text is_colored margin r)
remark_bytes is_colored margin blue plain word r is_blue is_plain is_word =
    rw (is_blue, is_plain, is_word) (simp append_assoc refl
    ∙ sym (margin_then is_colored margin (codes " =") _ _ refl
    (ascii_then (codes " ") _ _ refl (level_then r.level _ _ (ascii_then (codes ": ") _ _ refl
    (text_then (shown (chars r.text)) _ _ newline))))))
