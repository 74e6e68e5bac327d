-- The steps by which the body of a piece is passed over.
use Rattle.litrs_prefix.proofs.Words.{◌≡◌, ℕ, zero, suc, ◌+◌, Bool, true, false, not, ◌&&◌, ltb, List, [], ◌∷◌, ◌++◌, drop, length, Option, None, refl, sym, ap, ◌∙◌, inl, inr, arith, ◌==◌, if◌then◌else◌, cases_Bool, nat_tests, drop_at, OnlyAscii, prefix_len_front, take_while-append-rest}
use Rattle.litrs_prefix.specs.Words.{list_all, prefix_len, begins_with, first_passes, is_decimal_char, is_period, is_e, is_hash, hash_len, after_hashes, hashes, raw_closing, past_quote, past_single_quote, after_digits, after_fraction, after_exponent, after_sign, after_single_quote, after_number, after_closing, after_first, FloatParts, float_text, fraction_text, is_sign, sign_len}
use Rattle.litrs_grammar.proofs.FloatCuts.{IsCut, cut_of, cut_of_text, after_decimals, letter_period, is_exponent_front, fraction_passes, exponent_stops}
use Rattle.litrs_prefix.proofs.Runs.{drop_passed}
use Rattle.litrs_prefix.specs.Piece.{Symbol, lone, escaped, symbols, symbols_text, is_lone, after_quote, first_line}

-- closings

pub closing_here : (n : ℕ) (t : List ℕ) → begins_with (raw_closing n) t ≡ true → after_closing n t ≡ drop (1 + n) t
closing_here n t h = grind arith

pub closing_later : (n c : ℕ) (t : List ℕ) → begins_with (raw_closing n) (c ∷ t) ≡ false → after_closing n (c ∷ t) ≡ after_closing n t
closing_later n c t h = grind arith

pub hashes_low : (n : ℕ) → list_all (λ c. ltb c 128) (hashes n) ≡ true
hashes_low zero = refl
hashes_low (suc n) = hashes_low n

pub hash_is_ascii : OnlyAscii is_hash
hash_is_ascii c high = grind (arith, nat_tests)

pub hashes_dropped : (t : List ℕ) → after_hashes t ≡ drop (hash_len t) t
hashes_dropped [] = refl
hashes_dropped (c ∷ t) = ap (λ (l : List ℕ). if is_hash c then l else (c ∷ t)) (hashes_dropped t) ∙ sym (drop_passed is_hash c t)

-- quotes

-- the symbols of a text spell it
spelt : (t : List ℕ) → symbols_text (symbols t) ≡ t
spelt [] = refl
spelt (c ∷ []) = refl
spelt (c ∷ d ∷ t) = grind (arith, nat_tests, spelt t, spelt (d ∷ t))

-- the steps over a symbol
lone_step : (quote c : ℕ) (s : List Symbol) → symbols_text (after_first (is_lone quote) (lone c ∷ s)) ≡ (if c == quote then symbols_text s else symbols_text (after_first (is_lone quote) s))
lone_step quote c s = grind arith

escaped_step : (quote d : ℕ) (s : List Symbol) → symbols_text (after_first (is_lone quote) (escaped d ∷ s)) ≡ symbols_text (after_first (is_lone quote) s)
escaped_step quote d s = grind arith

escape_passed : (quote c d : ℕ) (t : List ℕ) → (quote == 92) ≡ false → (c == 92) ≡ true → past_quote quote false (c ∷ d ∷ t) ≡ past_quote quote false t
escape_passed quote c d t other slash = grind (arith, nat_tests)

plain_passed : (quote c d : ℕ) (t a b : List ℕ) → symbols_text (symbols (d ∷ t)) ≡ d ∷ t → past_quote quote false (d ∷ t) ≡ a → (if c == quote then symbols_text (symbols (d ∷ t)) else a) ≡ b →
    (c == 92) ≡ false → past_quote quote false (c ∷ d ∷ t) ≡ b
plain_passed quote c d t a b whole rest is plain = rw (plain, rest) (grind arith)

last_symbol : (quote c : ℕ) → past_quote quote false (c ∷ []) ≡ after_quote quote (c ∷ [])
last_symbol quote c = grind arith

pub past_quote_is : (quote : ℕ) → (quote == 92) ≡ false → (t : List ℕ) → past_quote quote false t ≡ after_quote quote t
past_quote_is quote other [] = refl
past_quote_is quote other (c ∷ []) = last_symbol quote c
past_quote_is quote other (c ∷ d ∷ t) = elim (cases_Bool (c == 92)) [
  | inl slash ↦ escape_passed quote c d t other slash ∙ (past_quote_is quote other t ∙ sym (rw slash (escaped_step quote d (symbols t))))
  | inr plain ↦ plain_passed quote c d t _ _ (spelt (d ∷ t)) (past_quote_is quote other (d ∷ t)) (sym (rw plain (lone_step quote c (symbols (d ∷ t))))) plain
]

-- lines

line_ends : (c : ℕ) (t : List ℕ) → (c == 10) ≡ true → first_line (c ∷ t) ≡ []
line_ends c t h = grind arith

line_goes_on : (c : ℕ) (t : List ℕ) → (c == 10) ≡ false → first_line (c ∷ t) ≡ c ∷ first_line t
line_goes_on c t h = grind arith

line_spelt : (t : List ℕ) → first_line t ++ drop (length (first_line t)) t ≡ t
line_spelt t = take_while-append-rest (λ y. not (y == 10)) t

-- within the line, and after it
abbrev in_line : Bool → List ℕ → List ℕ → List ℕ
in_line e line t = past_quote 39 e line ++ drop (length line) t

line_case : (e : Bool) (c : ℕ) (t : List ℕ) → first_line t ++ drop (length (first_line t)) t ≡ t → past_single_quote ((c == 92) && not e) t ≡ in_line ((c == 92) && not e) (first_line t) t →
    past_single_quote e (c ∷ t) ≡ in_line e (first_line (c ∷ t)) (c ∷ t)
line_case e c t whole rest = grind (arith, nat_tests, cases_Bool, line_ends, line_goes_on)

past_line_is : (e : Bool) (t : List ℕ) → past_single_quote e t ≡ in_line e (first_line t) t
past_line_is e [] = refl
past_line_is e (c ∷ t) = line_case e c t (line_spelt t) (past_line_is ((c == 92) && not e) t)

pub past_single_quote_is : (t : List ℕ) → past_single_quote false t ≡ after_single_quote t
past_single_quote_is t = past_line_is false t ∙ ap (λ (l : List ℕ). l ++ drop (length (first_line t)) t) (past_quote_is 39 refl (first_line t))

-- numbers

pub digits_passed : (f x : List ℕ) → list_all is_decimal_char f ≡ true → first_passes is_decimal_char x ≡ false → after_digits (f ++ x) ≡ x
digits_passed f x all stop = drop_at f x (prefix_len is_decimal_char (f ++ x)) (sym (prefix_len_front is_decimal_char f x all stop))

fraction_none : (p x : List ℕ) → is_exponent_front p ≡ true → (p ≡ [] → first_passes is_period x ≡ false) → after_fraction (p ++ x) ≡ p ++ x
fraction_none p x front none = grind (arith, letter_period)

fraction_passed : (f : Option (List ℕ)) (p x : List ℕ) → fraction_passes f ≡ true → is_exponent_front p ≡ true → first_passes is_decimal_char x ≡ false →
    (f ≡ None → p ≡ [] → first_passes is_period x ≡ false) → after_fraction (fraction_text f ++ (p ++ x)) ≡ p ++ x
fraction_passed f p x passes front stop none = grind (arith, fraction_none, digits_passed, exponent_stops)

number_passed : (cs x : List ℕ) → list_all is_decimal_char (drop (sign_len cs) cs) ≡ true → first_passes is_decimal_char x ≡ false → (cs ≡ [] → first_passes is_sign x ≡ false) →
    after_digits (after_sign (cs ++ x)) ≡ x
number_passed cs x all stop none = grind (arith, digits_passed)

exponent_passed : (p x : List ℕ) → is_exponent_front p ≡ true → first_passes is_decimal_char x ≡ false → (p ≡ [] → first_passes is_e x ≡ false) →
    ((c : ℕ) → p ≡ c ∷ [] → first_passes is_sign x ≡ false) → after_exponent (p ++ x) ≡ x
exponent_passed p x front stop none sign = grind (arith, number_passed)

parts_passed : (d : FloatParts) → IsCut d → after_exponent (after_fraction (after_digits (float_text d))) ≡ d.suffix
parts_passed d cut = grind (arith, after_decimals, fraction_passed, exponent_passed)

pub number_parts : (t : List ℕ) → after_number t ≡ after_exponent (after_fraction (after_digits t))
number_parts t =
    let cut = cut_of t in
    ap after_number (sym cut.spells)
    ∙ (ap (λ (d : FloatParts). d.suffix) (cut_of_text cut.parts cut.cut)
    ∙ (sym (parts_passed cut.parts cut.cut) ∙ ap (λ (l : List ℕ). after_exponent (after_fraction (after_digits l))) cut.spells))
