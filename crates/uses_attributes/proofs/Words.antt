-- Ends of a line.
use Rattle.std.proofs.Common.{◌≡◌, ℕ, ◌+◌, ◌<◌, Bool, List, [], ◌∷◌, ◌++◌, length, sym, ap, subst, ◌∙◌, length-append, arith}
use Rattle.std.specs.Prelude.{Result, Ok, Err, IfErr}
use Rattle.std.specs.Result.{IsOkAnd, MatchResult}
use Rattle.litrs_prefix.specs.Ends.{IsEndOf}
use Rattle.litrs_prefix.proofs.Ends.{all, end_of_end, not_longer}
use Rattle.litrs.specs.Literal.{Derivation}
use Rattle.litrs_value.specs.declared.value_type.ValueType.{ValueType}
use Rattle.uses_attributes.specs.Settings.{IsWord, skipped, is_token, at_end, IsNamed, HasEquals, HasLiteral, IsTyped, BeginsWith, LeavesAfter, IsValueFault, no_equals, no_value, no_such_value, no_comma, IsFaultOf, not_named, of_value}
use Rattle.uses_attributes.specs.declared.setting.Setting.{Setting}
use Rattle.uses_attributes.specs.declared.setting.Setting.TheVariants.{Max, Offset, Ratio, Rename, Skip}
use Rattle.uses_attributes.specs.declared.word.Fault.{Fault}
use Rattle.uses_attributes.specs.declared.word.Word.{Word}

pub same : (text at : List ℕ) → at ≡ text → IsEndOf text at
same text at is = subst (λ (l : List ℕ). IsEndOf text l) (sym is) (all text)

pub at_place : (text place at : List ℕ) → IsEndOf text place → at ≡ place → IsEndOf text at
at_place text place at end is = subst (λ (l : List ℕ). IsEndOf text l) (sym is) end

-- a word of the text
pub word_end : (word : Word) (text : List ℕ) → IsWord word text → IsEndOf text word.at.now
word_end word text (skipped source _ rest first is trivia closed more) = end_of_end text rest word.at.now (first.text.now, is.spells) (word_end word rest more)
word_end word text (is_token source _ first is kind at spells) = same text word.at.now at
word_end word text (at_end _ none at spells) = same text word.at.now (at ∙ sym none)

after_word : (word : Word) (text : List ℕ) → IsWord word text → IsEndOf text word.rest.now
after_word word text is = end_of_end text word.at.now word.rest.now (word_end word text is) (word.text.now, word.spells)

value_end : (text : List ℕ) (first : Word) → HasEquals text first → IsEndOf text first.at.now
value_end text first has = end_of_end text has.0.rest.now first.at.now (after_word has.0 text has.1) (word_end first has.0.rest.now has.3)

literal_end : {type : ValueType} {negative : Bool} {d : Derivation} (text rest : List ℕ) → HasLiteral type text negative d rest → IsEndOf text rest
literal_end text rest has = end_of_end text has.first.at.now rest (value_end text has.first has.equals) has.end

typed_end : {X : Type 0} {type : ValueType} {IsValue : Bool → Derivation → X → Type 0} {x : X} (text rest : List ℕ) → IsTyped type IsValue text x rest → IsEndOf text rest
typed_end text rest is =
    let ends = end_of_end text is.after is.comma.rest.now (literal_end text is.after is.literal) (after_word is.comma is.after is.is_comma) in
    subst (λ (l : List ℕ). IsEndOf text l) is.left ends

-- the rest after a setting
pub begins_end : (name : Word) (setting : Setting) (rest : List ℕ) → BeginsWith name setting rest → IsEndOf name.rest.now rest
begins_end name (Max n) rest begins = typed_end name.rest.now rest begins.1
begins_end name (Offset n) rest begins = typed_end name.rest.now rest begins.1
begins_end name (Ratio x) rest begins = typed_end name.rest.now rest begins.1
begins_end name (Rename text) rest begins = typed_end name.rest.now rest begins.1
begins_end name (Skip b) rest begins = typed_end name.rest.now rest begins.1

value_fault_end : (type : ValueType) (text : List ℕ) (fault : Fault) → IsValueFault type text fault → IsEndOf text fault.at.now
value_fault_end type text fault (no_equals word is other unexpected) = at_place text word.at.now fault.at.now (word_end word text is) unexpected.1
value_fault_end type text fault (no_value first has none unexpected) = at_place text first.at.now fault.at.now (value_end text first has) unexpected.1
value_fault_end type text fault (no_such_value first e has refused problem at span) = at_place text first.at.now fault.at.now (value_end text first has) at
value_fault_end type text fault (no_comma negative d after word has is other some unexpected) =
    at_place text word.at.now fault.at.now (end_of_end text after word.at.now (literal_end text after has) (word_end word after is)) unexpected.1

fault_end : (name : Word) (fault : Fault) → IsFaultOf name fault → IsEndOf name.at.now fault.at.now
fault_end name fault (not_named other unexpected) = same name.at.now fault.at.now unexpected.1
fault_end name fault (of_value type is faulty) = end_of_end name.at.now name.rest.now fault.at.now (name.text.now, name.spells) (value_fault_end type name.rest.now fault faulty)

-- the first word after the settings
settings_end : (text : List ℕ) (settings : List Setting) (last : Word) → LeavesAfter text settings last → IsEndOf text last.at.now
settings_end text [] last is = word_end last text is
settings_end text (setting ∷ settings) last leaves =
    let front = end_of_end text leaves.0.rest.now leaves.1 (after_word leaves.0 text leaves.2) (begins_end leaves.0 setting leaves.1 leaves.3) in
    end_of_end text leaves.1 last.at.now front (settings_end leaves.1 settings last leaves.4)

-- the fault of a line is at an end of it
pub line_end : (line : List ℕ) (settings : List Setting) (name : Word) (fault : Fault) → LeavesAfter line settings name → IsFaultOf name fault → IsEndOf line fault.at.now
line_end line settings name fault leaves is = end_of_end line name.at.now fault.at.now (settings_end line settings name leaves) (fault_end name fault is)

-- the settings, and one more
pub settings_snoc : (text : List ℕ) (settings : List Setting) (name : Word) (setting : Setting) (rest : List ℕ) (next : Word) → LeavesAfter text settings name →
    BeginsWith name setting rest → IsWord next rest → LeavesAfter text (settings ++ setting ∷ []) next
settings_snoc text [] name setting rest next is begins more = (name, rest, is, begins, more)
settings_snoc text (first ∷ settings) name setting rest next leaves begins more =
    (leaves.0, leaves.1, leaves.2, leaves.3, settings_snoc leaves.1 settings name setting rest next leaves.4 begins more)

-- the rest becomes shorter
pub shorter : (name : Word) (setting : Setting) (rest : List ℕ) (next : Word) → 0 < length name.text.now → BeginsWith name setting rest → IsWord next rest → length next.at.now < length name.at.now
shorter name setting rest next some begins is =
    let size : length name.at.now ≡ length name.text.now + length name.rest.now = ap length (sym name.spells) ∙ length-append name.text.now name.rest.now in
    let first = not_longer name.rest.now rest (begins_end name setting rest begins) in
    let second = not_longer rest next.at.now (word_end next rest is) in
    omega arith

-- a fault of the value of a setting is one of its name
pub fault_of_value : {A B : Type 0} (Gives : A → B → Type 0) (name : Word) (type : ValueType) (value : Result A Fault) (setting : Result B Fault) → IsNamed name.text.now type →
    IfErr value (IsValueFault type name.rest.now) → MatchResult value (λ x. IsOkAnd setting (Gives x)) (λ fault. setting ≡ Err fault) → IfErr setting (IsFaultOf name)
fault_of_value Gives name type (Ok _) (Ok _) named faulty maps = tt
fault_of_value Gives name type (Ok _) (Err _) named faulty maps = absurd maps
fault_of_value Gives name type (Err fault) setting named faulty maps = subst (λ r. IfErr r (IsFaultOf name)) (sym maps) (of_value type named faulty)
