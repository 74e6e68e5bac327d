-- A run of plain characters in a body is written as it is.
use Rattle.std.proofs.Common.{◌≡◌, ℕ, ◌<◌, inl, inr, ◌⊎◌, Bool, true, false, List, [], ◌∷◌, ◌++◌, map, length, take, drop, refl, sym, ap, subst, ◌∙◌, arith}
use Rattle.std.specs.Prelude.{◌==◌, encode_utf8_all}
use Rattle.std.specs.List.{list_all, prefix_len}
use Rattle.std.specs.Str.{chars, IsUtf8, IsCharBoundary}
use Rattle.std.proofs.lemmas.Bool.{and_parts}
use Rattle.std.proofs.lemmas.Bool.Decides.{nat_tests}
use Rattle.std.proofs.lemmas.List.{append_assoc}
use Rattle.std.proofs.lemmas.Str.{IsCharBoundary-from_drop, encodes-append}
use Rattle.litrs_base.specs.Text.{byte_len}
use Rattle.litrs_base.proofs.ListTests.{if_false}
use Rattle.litrs_base.specs.declared.quotes.Switches.{Switches}
use Rattle.litrs_grammar.specs.Escape.{simple_escape, hex_escape, unicode_escape}
use Rattle.litrs_grammar.specs.Quoted.{Item, plain_item, escape_item, continuation, body_text, is_body}
use Rattle.litrs_lex.proofs.PlainRuns.{AlikeFrom128, char_run}
use Rattle.litrs_build.specs.Pieces.{is_in, is_plain}
use Rattle.litrs_build.specs.Rewriting.{before_after, item_rewriting, items_of, plain_charset, line_feed_rewriting, needed_char, plain_rewriting, rewritten_items, run_len}
use Rattle.litrs_build.specs.declared.pieces.Charset.{Charset}
use Rattle.litrs_build.specs.declared.pieces.Charset.TheVariants.{Ascii, Any}
use Rattle.litrs_build.specs.declared.rewriting.Before.{Before}
use Rattle.litrs_build.specs.declared.rewriting.Before.TheVariants.{Text, Mark, Continuation}
use Rattle.litrs_build.specs.declared.rewriting.Rewriting.TheVariants.{Spelled}
use Rattle.litrs_build.specs.declared.spelling.Spelling.{Spelling}
use Rattle.litrs_build.specs.declared.spelling.Spelling.TheVariants.{Plain}
use Rattle.litrs_build.specs.declared.style.Escapes.{Escapes}
use Rattle.litrs_build.specs.declared.style.Escapes.TheVariants.{Kept, Respelled, Needed}
use Rattle.litrs_build.specs.declared.style.Style.{Style}
use Rattle.litrs_build.proofs.Plain.{plain_spelling}
use Rattle.litrs_build.proofs.RewrittenLiterals.{IsLeft, front_of}

-- The items of a run

record IsSplit (w : Switches) (plain cs suffix : List ℕ) (items : List Item) : Type 0 where
  others : List Item
  items_are : items ≡ map plain_item plain ++ others
  rest : cs ≡ body_text others ++ 34 ∷ suffix
  body : is_body w others ≡ true

no_mark : (set : Charset) (c d : ℕ) → is_plain set c ≡ true → (d ≡ 34) ⊎ (d ≡ 92) → c ≡ d → ⊥
no_mark Any c d plain mark same = grind (arith, nat_tests)
no_mark Ascii c d plain mark same = grind (arith, nat_tests)

more : (w : Switches) (c : ℕ) (plain cs suffix : List ℕ) (items : List Item) →
    IsSplit w plain cs suffix items → IsSplit w (c ∷ plain) cs suffix (plain_item c ∷ items)
more w c plain cs suffix items split = record {
  others = split.others;
  items_are = ap (λ (l : List Item). plain_item c ∷ l) split.items_are;
  rest = split.rest;
  body = split.body;
}

split_plain : (set : Charset) (w : Switches) (plain cs suffix : List ℕ) (items : List Item) →
    list_all (is_plain set) plain ≡ true → plain ++ cs ≡ body_text items ++ 34 ∷ suffix →
    is_body w items ≡ true → IsSplit w plain cs suffix items
split_plain set w [] cs suffix items all same body = record {
  others = items;
  items_are = refl;
  rest = same;
  body = body;
}
split_plain set w (c ∷ plain) cs suffix [] all same body =
    let first : c ≡ 34 = cc in
    absurd (no_mark set c 34 (and_parts (is_plain set c) _ all).0 (inl refl) first)
split_plain set w (c ∷ plain) cs suffix (plain_item d ∷ items) all same body =
    let first : c ≡ d = cc in
    let rest : plain ++ cs ≡ body_text items ++ 34 ∷ suffix = cc in
    let both = and_parts _ (is_body w items) body in
    subst (λ (n : ℕ). IsSplit w (c ∷ plain) cs suffix (plain_item n ∷ items)) first
    (more w c plain cs suffix items
    (split_plain set w plain cs suffix items (and_parts (is_plain set c) _ all).1 rest both.1))
split_plain set w (c ∷ plain) cs suffix (escape_item (simple_escape d) ∷ items) all same body =
    let first : c ≡ 92 = cc in
    absurd (no_mark set c 92 (and_parts (is_plain set c) _ all).0 (inr refl) first)
split_plain set w (c ∷ plain) cs suffix (escape_item (hex_escape high low) ∷ items) all same body =
    let first : c ≡ 92 = cc in
    absurd (no_mark set c 92 (and_parts (is_plain set c) _ all).0 (inr refl) first)
split_plain set w (c ∷ plain) cs suffix (escape_item (unicode_escape inner) ∷ items) all same body =
    let first : c ≡ 92 = cc in
    absurd (no_mark set c 92 (and_parts (is_plain set c) _ all).0 (inr refl) first)
split_plain set w (c ∷ plain) cs suffix (continuation blanks ∷ items) all same body =
    let first : c ≡ 92 = cc in
    absurd (no_mark set c 92 (and_parts (is_plain set c) _ all).0 (inr refl) first)

-- Their rewriting

no_line_feed : (set : Charset) (c : ℕ) → is_plain set c ≡ true → (c == 10) ≡ false
no_line_feed Any c plain = grind (arith, nat_tests)
no_line_feed Ascii c plain = grind (arith, nat_tests)

-- the text before is not a continuation
abbrev IsApart : Before → Type 0
IsApart Continuation = ⊥
IsApart _ = Unit {0}

needed_plain : (before : Before) (c : ℕ) → IsApart before → is_plain Ascii c ≡ true →
    needed_char 34 before c ≡ Plain c
needed_plain Text c apart plain = plain_spelling false c plain
needed_plain Mark c apart plain = plain_spelling true c plain
needed_plain Continuation c apart plain = absurd apart

-- a character of a run
abbrev is_run_char : Style → ℕ → Bool
is_run_char style c = is_plain (plain_charset style.escapes) c

plain_items_of : (style : Style) (before : Before) (c : ℕ) → IsApart before →
    (escapes : Escapes) → is_plain (plain_charset escapes) c ≡ true →
    items_of style.escape_digits (plain_item c) (plain_rewriting escapes 34 before c)
    ≡ plain_item c ∷ []
plain_items_of style before c apart Kept plain = refl
plain_items_of style before c apart Respelled plain = refl
plain_items_of style before c apart Needed plain =
    ap (λ (s : Spelling). items_of style.escape_digits (plain_item c) (Spelled s))
    (needed_plain before c apart plain)

one_item : (style : Style) (before : Before) (c : ℕ) → IsApart before →
    is_run_char style c ≡ true →
    items_of style.escape_digits (plain_item c) (item_rewriting style 34 before (plain_item c))
    ≡ plain_item c ∷ []
one_item style before c apart plain =
    ap (items_of style.escape_digits (plain_item c))
    (if_false (c == 10) (line_feed_rewriting style.lines)
    (plain_rewriting style.escapes 34 before c)
    (no_line_feed (plain_charset style.escapes) c plain))
    ∙ plain_items_of style before c apart style.escapes plain

one_more : (style : Style) (before : Before) (c : ℕ) (items : List Item) → IsApart before →
    is_run_char style c ≡ true →
    rewritten_items style before (plain_item c ∷ items)
    ≡ plain_item c ∷ rewritten_items style Text items
one_more style before c items apart plain =
    ap (λ (l : List Item). l ++ rewritten_items style (before_after before l) items)
    (one_item style before c apart plain)
    ∙ ap (λ (b : Before). plain_item c ∷ rewritten_items style b items)
    (if_false (c == 10) Mark Text (no_line_feed (plain_charset style.escapes) c plain))

run_items : (style : Style) (before : Before) (plain : List ℕ) (items : List Item) →
    IsApart before → 0 < length plain → list_all (is_run_char style) plain ≡ true →
    rewritten_items style before (map plain_item plain ++ items)
    ≡ map plain_item plain ++ rewritten_items style Text items
run_items style before [] items apart some all = absurd (omega arith)
run_items style before (c ∷ []) items apart some all =
    one_more style before c items apart (and_parts (is_run_char style c) true all).0
run_items style before (c ∷ d ∷ plain) items apart some all =
    let both = and_parts (is_run_char style c) (list_all (is_run_char style) (d ∷ plain)) all in
    one_more style before c (map plain_item (d ∷ plain) ++ items) apart both.0
    ∙ ap (λ (l : List Item). plain_item c ∷ l)
    (run_items style Text (d ∷ plain) items tt (omega arith) both.1)

run_text : (plain : List ℕ) (items : List Item) →
    body_text (map plain_item plain ++ items) ≡ plain ++ body_text items
run_text [] items = refl
run_text (c ∷ plain) items = ap (λ (t : List ℕ). c ∷ t) (run_text plain items)

-- A turn of the loop

-- The run, and the text after it.
record IsRun (p : ℕ → Bool) (rest : List ℕ) (n : ℕ) : Type 0 where
  plain : List ℕ
  passes : list_all p plain ≡ true
  spells : plain ++ chars (drop n rest) ≡ chars rest
  bytes : take n rest ≡ encode_utf8_all plain
  boundary : IsCharBoundary rest n
  some : 0 < length plain

alike : (set : Charset) → AlikeFrom128 (is_plain set) (is_in set 128)
alike Any c high = grind (arith, nat_tests)
alike Ascii c high = grind (arith, nat_tests)

some_chars : (t : List ℕ) → 0 < byte_len t → 0 < length t
some_chars [] some = some
some_chars (c ∷ t) some = omega arith

is_run : (set : Charset) (rest : List ℕ) (n : ℕ) → IsUtf8 rest →
    n ≡ prefix_len (is_plain set) rest → 0 < n → IsRun (is_plain set) rest n
is_run set rest n u is some =
    let r = char_run (is_plain set) (is_in set 128) (alike set) rest u in
    let k = prefix_len (is_plain set) rest in
    subst (λ (m : ℕ). IsRun (is_plain set) rest m) (sym is) (record {
      plain = r.run;
      passes = r.passes;
      spells = r.split;
      bytes = ap (λ (m : ℕ). take m rest) (sym r.size)
          ∙ front_of rest r.run (chars (drop k rest)) u (sym r.split);
      boundary = IsCharBoundary-from_drop rest k r.within r.utf8;
      some = some_chars r.run (omega (arith, r.size, is, some));
    })

run_by : (w : Switches) (style : Style) (before : Before) (n : ℕ)
    (rest text new suffix total : List ℕ) → IsApart before → IsRun (is_run_char style) rest n →
    new ≡ text ++ take n rest → IsLeft w style before rest text suffix total →
    IsLeft w style Text (drop n rest) new suffix total
run_by w style before n rest text new suffix total apart run pushed (items, b, whole) =
    let plain = run.plain in
    let split = split_plain (plain_charset style.escapes) w plain (chars (drop n rest)) suffix items
    run.passes (run.spells ∙ b.spells) b.body in
    let after = rewritten_items style Text split.others in
    let later = body_text after ++ 34 ∷ suffix in
    let items_are : rewritten_items style before items ≡ map plain_item plain ++ after =
    ap (rewritten_items style before) split.items_are
    ∙ run_items style before plain split.others apart run.some run.passes in
    let all : body_text (rewritten_items style before items) ++ 34 ∷ suffix ≡ plain ++ later =
    ap (λ (l : List Item). body_text l ++ 34 ∷ suffix) items_are
    ∙ (ap (λ (t : List ℕ). t ++ 34 ∷ suffix) (run_text plain after)
    ∙ append_assoc plain (body_text after) (34 ∷ suffix)) in (
      split.others,
      record { spells = split.rest; body = split.body },
      ap (λ (t : List ℕ). t ++ encode_utf8_all later)
          (pushed ∙ ap (λ (t : List ℕ). text ++ t) run.bytes)
          ∙ (append_assoc text (encode_utf8_all plain) (encode_utf8_all later)
          ∙ (ap (λ (t : List ℕ). text ++ t) (sym (encodes-append plain later))
          ∙ (ap (λ (t : List ℕ). text ++ encode_utf8_all t) (sym all) ∙ whole))),
    )

run_at : (style : Style) (before : Before) (rest : List ℕ) (n : ℕ) → IsUtf8 rest →
    n ≡ run_len style.escapes before rest → 0 < n →
    IsApart before × IsRun (is_run_char style) rest n
run_at style Text rest n u is some = (tt, is_run (plain_charset style.escapes) rest n u is some)
run_at style Mark rest n u is some = (tt, is_run (plain_charset style.escapes) rest n u is some)
run_at style Continuation rest n u is some = absurd (omega arith)

pub take_run : (w : Switches) (style : Style) (before : Before) (n : ℕ)
    (rest text new suffix total : List ℕ) → IsUtf8 rest →
    n ≡ run_len style.escapes before rest → 0 < n → new ≡ text ++ take n rest →
    IsLeft w style before rest text suffix total →
    IsLeft w style Text (drop n rest) new suffix total
take_run w style before n rest text new suffix total u is some pushed left =
    let run = run_at style before rest n u is some in
    run_by w style before n rest text new suffix total run.0 run.1 pushed left

-- a text may be cut after a run
pub run_cut : (style : Style) (before : Before) (rest : List ℕ) (n : ℕ) → IsUtf8 rest →
    n ≡ run_len style.escapes before rest → 0 < n → IsCharBoundary rest n
run_cut style before rest n u is some = (run_at style before rest n u is some).1.boundary
