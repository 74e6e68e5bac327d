-- The settings of a line, and its first fault.
use Rattle.std.specs.Prelude.{◌≡◌, ◌≢◌, ◌⊎◌, ℕ, pos, Bool, List, [], ◌∷◌, ◌++◌, ◌+◌, ◌-◌, length, Option, Some, None, take, codes, string_bytes, IsTrue, IsFalse}
use Rattle.std.specs.Float.{binary64}
use Rattle.std.specs.Fmt.{decimal, signed_decimal}
use Rattle.std.specs.List.{list_all}
use Rattle.std.specs.Str.{chars}
use Rattle.litrs.specs.Bool.{bool_text}
use Rattle.litrs.specs.Literal.{Derivation}
use Rattle.litrs.specs.LiteralText.{string_text}
use Rattle.litrs.specs.StringKind.{string_kind}
use Rattle.litrs.specs.declared.FloatType.TheVariants.{F64}
use Rattle.litrs.specs.declared.IntegerType.TheVariants.{U16, I64}
use Rattle.litrs_build.specs.Written.{written_string}
use Rattle.litrs_diagnostic.specs.Diagnostic.{error_on, diagnostic_text, is_line_feed_or_printable}
use Rattle.litrs_lexer.specs.Token.{is_trivia}
use Rattle.litrs_lexer.specs.Tokens.{IsFirstToken}
use Rattle.litrs_lexer.specs.declared.kind.TokenKind.TheVariants.{UnterminatedBlockComment}
use Rattle.litrs_lexer.specs.declared.token.Token.{Token}
use Rattle.litrs_prefix.specs.Ends.{IsEndOf}
use Rattle.litrs_prefix.specs.Opens.{opens}
use Rattle.litrs_prefix.specs.Prefix.{HasPrefix}
use Rattle.litrs_value.specs.ErrorText.{value_error_text}
use Rattle.litrs_value.specs.Prefixes.{IsPrefixError}
use Rattle.litrs_value.specs.Reads.{is_negative, unsigned, marked}
use Rattle.litrs_value.specs.Refuses.{HasValueOf}
use Rattle.litrs_value.specs.Values.{number_of, float_of, flag_of, string_of}
use Rattle.litrs_value.specs.declared.error.ValueError.TheVariants.{Memory}
use Rattle.litrs_value.specs.declared.prefix.PrefixError.{PrefixError}
use Rattle.litrs_value.specs.declared.value_type.ValueType.{ValueType}
use Rattle.litrs_value.specs.declared.value_type.ValueType.TheVariants.{Bool as bool_type, Integer as integer_type, Float as float_type, String as string_type}
use Rattle.uses_attributes.specs.declared.setting.Setting.{Setting}
use Rattle.uses_attributes.specs.declared.setting.Setting.TheVariants.{Max, Offset, Ratio, Rename, Skip}
use Rattle.uses_attributes.specs.declared.word.Problem.{Problem}
use Rattle.uses_attributes.specs.declared.word.Problem.TheVariants.{Expected, OpenComment, Value}
use Rattle.uses_attributes.specs.declared.word.Fault.{Fault}
use Rattle.uses_attributes.specs.declared.word.Word.{Word}

-- The word is the first token of the text that is neither white space nor a closed comment, or `""`
-- at the end of the text.
pub data IsWord (word : Word) : (text : List ℕ) → Type 0 where
  skipped : (source text rest : List ℕ) (token : Token) → IsFirstToken source text token rest →
      IsTrue (is_trivia token.kind) → token.kind ≢ UnterminatedBlockComment →
      IsWord word rest → IsWord word text
  is_token : (source text : List ℕ) (token : Token) →
      IsFirstToken source text token word.rest.now →
      (IsTrue (is_trivia token.kind) → token.kind ≡ UnterminatedBlockComment) →
      word.at.now ≡ text → word.text.now ≡ token.text.now → IsWord word text
  at_end : (text : List ℕ) → text ≡ [] → word.at.now ≡ [] → word.text.now ≡ [] → IsWord word text

-- The problem with a word that is not what is expected.
abbrev pub IsProblem : Problem → (expected text : List ℕ) → Type 0
IsProblem OpenComment expected text = (body : List ℕ) × (text ≡ codes "/*" ++ body)
IsProblem (Expected what) expected text =
    (what.now ≡ expected) × ((body : List ℕ) → text ≢ codes "/*" ++ body)
IsProblem (Value e) expected text = ⊥

-- The word at this place is not what is expected: it is a comment that is not closed, or something
-- else. All of it is marked.
abbrev pub IsUnexpected : (expected at text : List ℕ) → Fault → Type 0
IsUnexpected expected at text fault = IsProblem fault.problem expected text × (fault.at.now ≡ at)
    × (fault.span ≡ record { start = 0; end = length text })

-- The settings of this name have values of this type.
pub data IsNamed (name : List ℕ) (type : ValueType) : Type 0 where
  is_max : name ≡ codes "max" → type ≡ integer_type U16 → IsNamed name type
  is_offset : name ≡ codes "offset" → type ≡ integer_type I64 → IsNamed name type
  is_ratio : name ≡ codes "ratio" → type ≡ float_type F64 → IsNamed name type
  is_rename : name ≡ codes "rename" → type ≡ string_type → IsNamed name type
  is_skip : name ≡ codes "skip" → type ≡ bool_type → IsNamed name type

-- The text starts with `=`, before this word.
abbrev pub HasEquals : (text : List ℕ) → (first : Word) → Type 0
HasEquals text first = (equals : Word) × IsWord equals text × (equals.text.now ≡ codes "=")
    × IsWord first equals.rest.now

-- After `=` the text has this literal, or a minus sign and this number, before the rest. The type
-- has a value for it.
pub record HasLiteral (type : ValueType) (text : List ℕ) (negative : Bool) (d : Derivation)
    (rest : List ℕ) : Type 0 where
  pub first : Word
  pub equals : HasEquals text first
  pub end : IsEndOf first.at.now rest
  pub sign : is_negative first.at.now ≡ negative
  pub literal : HasPrefix (chars (unsigned first.at.now)) d (chars rest)
  pub value : HasValueOf type negative d

-- The text starts with `=`, a literal that the type has a value for, and a comma, before this rest;
-- or it ends after the literal. `IsValue` relates the literal to the value.
pub record IsTyped {X : Type 0} (type : ValueType) (IsValue : Bool → Derivation → X → Type 0)
    (text : List ℕ) (x : X) (rest : List ℕ) : Type 0 where
  pub negative : Bool
  pub d : Derivation
  pub after : List ℕ
  pub comma : Word
  pub literal : HasLiteral type text negative d after
  pub value : IsValue negative d x
  pub is_comma : IsWord comma after
  pub ends : (comma.text.now ≡ codes ",") ⊎ (comma.text.now ≡ [])
  pub left : comma.rest.now ≡ rest

-- The word is the name of the setting, whose value follows, before this rest.
abbrev pub BeginsWith : (name : Word) → Setting → (rest : List ℕ) → Type 0
BeginsWith name (Max n) rest = (name.text.now ≡ codes "max")
    × IsTyped (integer_type U16) (λ negative d x. number_of negative d ≡ Some (pos x))
    name.rest.now n rest
BeginsWith name (Offset n) rest = (name.text.now ≡ codes "offset")
    × IsTyped (integer_type I64) (λ negative d x. number_of negative d ≡ Some x)
    name.rest.now n rest
BeginsWith name (Ratio x) rest = (name.text.now ≡ codes "ratio")
    × IsTyped (float_type F64) (λ negative d x. float_of binary64 negative d ≡ Some x)
    name.rest.now x rest
BeginsWith name (Rename text) rest = (name.text.now ≡ codes "rename")
    × IsTyped string_type (λ _ d x. string_of d ≡ Some (string_bytes x)) name.rest.now text rest
BeginsWith name (Skip b) rest = (name.text.now ≡ codes "skip")
    × IsTyped bool_type (λ _ d x. flag_of d ≡ Some x) name.rest.now b rest

-- The text is these settings, before this word.
abbrev pub LeavesAfter : (text : List ℕ) → List Setting → Word → Type 0
LeavesAfter text [] last = IsWord last text
LeavesAfter text (setting ∷ settings) last = (name : Word) × (rest : List ℕ)
    × IsWord name text × BeginsWith name setting rest × LeavesAfter rest settings last

-- The fault of a text that is not `=`, a value of the type and a comma: the first that applies.
pub data IsValueFault (type : ValueType) (text : List ℕ) (fault : Fault) : Type 0 where
  no_equals : (word : Word) → IsWord word text → word.text.now ≢ codes "=" →
      IsUnexpected (codes "`=`") word.at.now word.text.now fault → IsValueFault type text fault
  no_value : (first : Word) → HasEquals text first →
      IsFalse (opens (chars (unsigned first.at.now))) →
      IsUnexpected (codes "a value") first.at.now first.text.now fault →
      IsValueFault type text fault
  no_such_value : (first : Word) (e : PrefixError) → HasEquals text first →
      IsPrefixError type first.at.now e → fault.problem ≡ Value e.error →
      fault.at.now ≡ first.at.now →
      fault.span ≡ marked (chars (take e.len first.at.now)) e.error → IsValueFault type text fault
  no_comma : (negative : Bool) (d : Derivation) (after : List ℕ) (word : Word) →
      HasLiteral type text negative d after → IsWord word after →
      word.text.now ≢ codes "," → word.text.now ≢ [] →
      IsUnexpected (codes "a comma") word.at.now word.text.now fault → IsValueFault type text fault

-- The fault of a word that does not begin a setting: no setting has the name, or its value does
-- not follow.
pub data IsFaultOf (name : Word) (fault : Fault) : Type 0 where
  not_named : ((type : ValueType) → ¬ IsNamed name.text.now type) →
      IsUnexpected (codes "`max`, `offset`, `ratio`, `rename` or `skip`") name.at.now
      name.text.now fault →
      IsFaultOf name fault
  of_value : (type : ValueType) → IsNamed name.text.now type →
      IsValueFault type name.rest.now fault → IsFaultOf name fault

-- The settings end at this word: at the end of the line, or at a word with a fault.
abbrev pub EndsAt : Option Fault → Word → Type 0
EndsAt None word = word.text.now ≡ []
EndsAt (Some fault) word = (word.text.now ≢ []) × IsFaultOf word fault

-- The line is these settings, and then this fault or nothing.
abbrev pub HasSettings : (line : List ℕ) → List Setting → Option Fault → Type 0
HasSettings line settings fault = (end : Word) × LeavesAfter line settings end × EndsAt fault end

-- The fault is at an end of the line.
abbrev pub IsIn : (line : List ℕ) → Fault → Type 0
IsIn line fault = IsEndOf line fault.at.now

-- The fault is of the line: no allocation failed.
abbrev pub IsNoFailure : Fault → Type 0
IsNoFailure fault = fault.problem ≢ Value Memory

-- The text has the name and the value of the setting. A string is written as a literal in which
-- all is printable. The digits of a float are not stated.
abbrev pub Describes : Setting → (written : List ℕ) → Type 0
Describes (Max n) written = written ≡ codes "max is " ++ decimal n
Describes (Offset n) written = written ≡ codes "offset is " ++ signed_decimal n
Describes (Ratio x) written = (digits : List ℕ) × (written ≡ codes "ratio is " ++ digits)
Describes (Rename text) written = (literal : List ℕ) × (written ≡ codes "rename is " ++ literal)
    × (chars literal ≡ string_text string_kind (written_string (chars (string_bytes text)) []))
Describes (Skip b) written = written ≡ codes "skip is " ++ bool_text b

-- The message of a problem.
abbrev pub problem_text : Problem → List ℕ
problem_text (Expected expected) = codes "expected " ++ expected.now
problem_text OpenComment = codes "unterminated block comment"
problem_text (Value error) = value_error_text error

-- The text is an error with the message of the problem on the marked part of the line, which has
-- this number.
abbrev pub Shows : (line : List ℕ) (number : ℕ) → Fault → (written : List ℕ) → Type 0
Shows line number fault written = chars written
    ≡ diagnostic_text (record (error_on (codes "settings") line
    (length line - length fault.at.now + fault.span.start)
    (length line - length fault.at.now + fault.span.end) (problem_text fault.problem))
    { first_line = number; first_column = 1; width = 100 })

-- Each character is printable or a line feed.
abbrev pub IsPrintable : (written : List ℕ) → Type 0
IsPrintable written = IsTrue (list_all is_line_feed_or_printable (chars written))
