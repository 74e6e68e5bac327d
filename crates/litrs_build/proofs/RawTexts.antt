-- The text of a raw literal is one with these parts.
use Rattle.std.proofs.Common.{◌≡◌, ℕ, zero, suc, ◌+◌, ◌≤◌, Bool, true, false, ◌&&◌, not, cond, eqb, ltb, leb, List, [], ◌∷◌, ◌++◌, length, replicate, refl, sym, ap, ◌∙◌, arith, length-append}
use Rattle.std.specs.Prelude.{Some, None, if◌then◌else◌}
use Rattle.std.specs.Char.{encode_utf8}
use Rattle.std.specs.List.{list_all}
use Rattle.std.specs.Str.{chars, IsUtf8, encode_utf8_all}
use Rattle.std.proofs.lemmas.Bool.{and_from, and_parts, cond_both, leb-true, le-ltb}
use Rattle.std.proofs.lemmas.List.{append_assoc, nil_from_length}
use Rattle.std.proofs.lemmas.Str.{encodes-append, encodes-chars, chars-encodes, scalars-chars, chars-nil, chars_past_char, length-encode, len_utf8_bounds}
use lib.Utf8.{scalar, scalars}
use Rattle.litrs_base.specs.Characters.{is_ascii}
use Rattle.litrs_base.specs.declared.quotes.StringKind.{StringKind}
use Rattle.litrs_base.specs.declared.quotes.StringKind.TheVariants.{String as string_kind}
use Rattle.litrs_base.specs.Quotes.{raw_front}
use Rattle.litrs_grammar.specs.Suffix.{is_suffix}
use Rattle.litrs_grammar.specs.Raw.{is_raw_char, raw_text, has_unicode, allows_nul}
use Rattle.litrs_grammar.specs.Literal.{IsString, string_value}
use Rattle.litrs_build.specs.declared.error.BuildError.TheVariants.{NotASuffix, NotRaw}
use Rattle.litrs_build.specs.Raw.{greater, hashes_needed, is_raw_value, raw_error, run_after, written_raw}
use Rattle.litrs_build.proofs.Hashes.{pending, run_step, occurs_needed, greater_end}
use Rattle.litrs_build.proofs.Spellings.{scalars_append, scalars_all, encodes_ascii}

-- In the loop over a body

run_grows : (run c : ℕ) → run_after run c ≤ run + 1
run_grows run c =
    let P : ℕ → Type 0 = λ n. n ≤ run + 1 in
    cond_both (eqb c 34) 1 (cond (eqb c 35 && ltb 0 run) (run + 1) 0) P (λ e. omega arith)
    (λ e. cond_both (eqb c 35 && ltb 0 run) (run + 1) 0 P (λ f. omega arith) (λ f. omega arith))

pub room_left : (run len c : ℕ) (rest later : List ℕ) → rest ≡ encode_utf8 c ++ later →
    run + length rest ≤ len → (run + 1) + length later ≤ len
room_left run len c rest later step bound =
    let parts : length rest ≡ length (encode_utf8 c) + length later = ap length step
    ∙ length-append (encode_utf8 c) later in
    let size = length-encode c in
    let least = (len_utf8_bounds c).0 in
    omega (arith, parts, size, least)

pub run_bound : (run next len c : ℕ) (rest later : List ℕ) → rest ≡ encode_utf8 c ++ later →
    next ≡ run_after run c → run + length rest ≤ len → next + length later ≤ len
run_bound run next len c rest later step is bound =
    let room = room_left run len c rest later step bound in
    let most = run_grows run c in
    omega (arith, room, most, is)

pub raw_turn : (total run most next greatest c : ℕ) (rest later : List ℕ) → IsUtf8 rest →
    rest ≡ encode_utf8 c ++ later → run ≤ most →
    next ≡ run_after run c → greatest ≡ greater most next →
    greater (greater most (pending run (chars rest))) (hashes_needed (chars rest)) ≡ total →
    greater (greater greatest (pending next (chars later))) (hashes_needed (chars later)) ≡ total
raw_turn total run most next greatest c rest later u step within next_is greatest_is whole =
    ap (λ (g : ℕ). greater (greater g (pending next (chars later))) (hashes_needed (chars later)))
    (greatest_is ∙ ap (greater most) next_is)
    ∙ (ap (λ (r : ℕ). greater (greater (greater most (run_after run c)) (pending r (chars later)))
    (hashes_needed (chars later))) next_is
    ∙ (run_step run most c (chars later) within
    ∙ (ap (λ (t : List ℕ). greater (greater most (pending run t)) (hashes_needed t))
    (sym (chars_past_char rest later c u step)) ∙ whole)))

pub raw_end : (total run most : ℕ) (rest : List ℕ) → run ≤ most → length rest ≡ 0 →
    greater (greater most (pending run (chars rest))) (hashes_needed (chars rest)) ≡ total →
    most ≡ total
raw_end total run most rest within none whole =
    sym (greater_end run most within)
    ∙ (ap (λ (t : List ℕ). greater (greater most (pending run t)) (hashes_needed t))
    (sym (ap chars (nil_from_length rest none) ∙ chars-nil)) ∙ whole)

-- The bytes of a raw literal

replicate_all : (p : ℕ → Bool) (n c : ℕ) → p c ≡ true → list_all p (replicate n c) ≡ true
replicate_all p zero c e = refl
replicate_all p (suc n) c e = and_from _ _ e (replicate_all p n c e)

-- the text as its bytes are written
abbrev pub raw_bytes : List ℕ → ℕ → List ℕ → List ℕ → List ℕ
raw_bytes front n value suffix =
    (((((front ++ replicate n 35) ++ 34 ∷ []) ++ value) ++ 34 ∷ []) ++ replicate n 35) ++ suffix

raw_regrouped : (front h value suffix : List ℕ) →
    (((((front ++ h) ++ 34 ∷ []) ++ value) ++ 34 ∷ []) ++ h) ++ suffix ≡ front
    ++ (h ++ (34 ∷ (value ++ (34 ∷ (h ++ suffix)))))
raw_regrouped front h value suffix = simp append_assoc

joined : (s t x y : List ℕ) → encode_utf8_all s ≡ x → encode_utf8_all t ≡ y →
    encode_utf8_all (s ++ t) ≡ x ++ y
joined s t x y a b = encodes-append s t
    ∙ (ap (λ (l : List ℕ). l ++ encode_utf8_all t) a ∙ ap (λ (l : List ℕ). x ++ l) b)

quoted : (t x : List ℕ) → encode_utf8_all t ≡ x → encode_utf8_all (34 ∷ t) ≡ 34 ∷ x
unfolding encode_utf8
quoted t x e = ap (λ (l : List ℕ). 34 ∷ l) e

raw_chars : (front value suffix bytes : List ℕ) (n : ℕ) → encode_utf8_all front ≡ front →
    scalars front ≡ true → IsUtf8 value → IsUtf8 suffix →
    bytes ≡ raw_bytes front n value suffix →
    front ++ raw_text (record { hash_count = n; body = chars value; suffix = chars suffix })
    ≡ chars bytes
raw_chars front value suffix bytes n front_is front_scalars v u is =
    let h = replicate n 35 in
    let h_is : encode_utf8_all h ≡ h = encodes_ascii h (replicate_all is_ascii n 35 refl) in
    let h_scalars : scalars h ≡ true = scalars_all h (replicate_all scalar n 35 refl) in
    let end = h ++ chars suffix in
    let all = front ++ (h ++ (34 ∷ (chars value ++ (34 ∷ end)))) in
    let coded : encode_utf8_all all ≡ front ++ (h ++ (34 ∷ (value ++ (34 ∷ (h ++ suffix))))) =
    joined front (h ++ (34 ∷ (chars value ++ (34 ∷ end)))) front
    (h ++ (34 ∷ (value ++ (34 ∷ (h ++ suffix))))) front_is
    (joined h (34 ∷ (chars value ++ (34 ∷ end))) h (34 ∷ (value ++ (34 ∷ (h ++ suffix)))) h_is
    (quoted (chars value ++ (34 ∷ end)) (value ++ (34 ∷ (h ++ suffix)))
    (joined (chars value) (34 ∷ end) value (34 ∷ (h ++ suffix)) (encodes-chars value v)
    (quoted end (h ++ suffix) (joined h (chars suffix) h suffix h_is (encodes-chars suffix u))))))
    in
    let end_scalars : scalars (34 ∷ end)
    ≡ true = and_from _ _ refl
    (scalars_append h (chars suffix) h_scalars (scalars-chars suffix u)) in
    let body_scalars : scalars (34 ∷ (chars value ++ (34 ∷ end))) ≡ true =
    and_from _ _ refl (scalars_append (chars value) (34 ∷ end)
    (scalars-chars value v) end_scalars) in
    sym (ap chars (is ∙ (raw_regrouped front h value suffix ∙ sym coded))
    ∙ chars-encodes all (scalars_append front
    (h ++ (34 ∷ (chars value ++ (34 ∷ end)))) front_scalars
    (scalars_append h (34 ∷ (chars value ++ (34 ∷ end))) h_scalars body_scalars)))

-- If no error is expected

pub possible_by : (s r : Bool) →
    (if not s then Some NotASuffix else (if r then None else Some NotRaw)) ≡ None →
    (s ≡ true) × (r ≡ true)
possible_by true true e = (refl, refl)
possible_by true false e = absurd cc
possible_by false r e = absurd cc

pub raw_derives : (kind : StringKind) (value suffix bytes : List ℕ) →
    encode_utf8_all (raw_front kind) ≡ raw_front kind → scalars (raw_front kind) ≡ true →
    IsUtf8 value → IsUtf8 suffix →
    raw_error (has_unicode kind) (allows_nul kind) (chars value) (chars suffix) ≡ None →
    bytes ≡ raw_bytes (raw_front kind) (hashes_needed (chars value)) value suffix →
    IsString kind (chars bytes) (written_raw (chars value) (chars suffix))
raw_derives kind value suffix bytes front_is front_scalars v u possible is =
    let body = chars value in
    let n = hashes_needed body in
    let both = possible_by (is_suffix (chars suffix))
    (is_raw_value (has_unicode kind) (allows_nul kind) body) possible in
    let parts = and_parts (list_all (is_raw_char (has_unicode kind) (allows_nul kind)) body)
    (leb n 255) both.1 in record {
      spells = raw_chars (raw_front kind) value suffix bytes n front_is front_scalars v u is;
      grammar = record {
        hash_count = leb-true n 255 parts.1;
        body = record {
          allowed = parts.0;
          unclosed = occurs_needed n body
              ∙ le-ltb n n (omega arith);
        };
        suffix = both.0;
      };
    }

pub raw_string_derives : (value suffix bytes : List ℕ) → IsUtf8 value → IsUtf8 suffix →
    raw_error true true (chars value) (chars suffix) ≡ None →
    bytes ≡ raw_bytes (114 ∷ []) (hashes_needed (chars value)) value suffix →
    IsString string_kind (chars bytes) (written_raw (chars value) (chars suffix))
unfolding encode_utf8
raw_string_derives value suffix bytes v u possible is =
    raw_derives string_kind value suffix bytes refl refl v u possible is

pub written_raw-value : (value suffix : List ℕ) → IsUtf8 value →
    string_value (written_raw (chars value) (chars suffix)) ≡ value
written_raw-value value suffix v = encodes-chars value v
