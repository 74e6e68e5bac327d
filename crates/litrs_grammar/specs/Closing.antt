-- The closing text of an open refusal. The Rust Reference does not define refusals.
use Rattle.std.specs.Prelude.{◌≡◌, ℕ, List, [], ◌∷◌, ◌++◌, drop, if◌then◌else◌}
use Rattle.litrs_base.specs.declared.err.ParseErrorKind.{ParseErrorKind}
use Rattle.litrs_base.specs.declared.err.ParseErrorKind.TheVariants.{UnterminatedString, UnterminatedRawString}
use Rattle.litrs_base.specs.Characters.{double_quote}
use Rattle.litrs_base.specs.Refusal.{Refusal}
use Rattle.litrs_base.specs.Text.{begins_with}
use Rattle.litrs_base.specs.declared.quotes.StringKind.{StringKind}
use Rattle.litrs_base.specs.declared.quotes.StringKind.TheVariants.{String as string_kind, ByteString as byte_string_kind, CString as c_string_kind}
use Rattle.litrs_base.specs.Quotes.{quoted_front, raw_front}
use Rattle.litrs_grammar.specs.Quoted.{body_text}
use Rattle.litrs_grammar.specs.Raw.{raw_closing, hashes, hash_len}
use Rattle.litrs_grammar.specs.Literal.{StringParts, quoted_parts, raw_parts, string_suffix, Derivation, a_string, a_byte_string, a_c_string}

-- The text after the front `r`, `br` or `cr`, for a text that starts with one of them.
abbrev pub after_raw_front : List ℕ → List ℕ
after_raw_front t = if begins_with (raw_front string_kind) t then drop 1 t else drop 2 t

-- The closing text of a refused text: `"`, and for a raw string as many hashes as follow its front.
-- It is empty if the refusal is not open.
abbrev pub closing_text : List ℕ → ParseErrorKind → List ℕ
closing_text t UnterminatedString = double_quote ∷ []
closing_text t UnterminatedRawString = raw_closing (hash_len (after_raw_front t))
closing_text t _ = []

-- The closing text for a refusal.
abbrev pub closing_of : List ℕ → Refusal → List ℕ
closing_of t r = closing_text t r.kind

-- The text before the body of a string literal: the front, and in a raw one the hashes and the
-- quote.
abbrev pub opening_text : StringKind → StringParts → List ℕ
opening_text kind (quoted_parts d) = quoted_front kind
opening_text kind (raw_parts d) = raw_front kind ++ (hashes d.hash_count ++ double_quote ∷ [])

-- The text of the body.
abbrev pub written_body : StringParts → List ℕ
written_body (quoted_parts d) = body_text d.items
written_body (raw_parts d) = d.body

-- The derivation of a string literal of the kind.
abbrev pub a_string_of : StringKind → StringParts → Derivation
a_string_of string_kind d = a_string d
a_string_of byte_string_kind d = a_byte_string d
a_string_of c_string_kind d = a_c_string d

-- With `closing` after it, `t` is a string literal without a suffix, whose body is all of `t` after
-- the opening.
pub record IsClosedBy (Derives : List ℕ → Derivation → Type 0) (t closing : List ℕ) : Type 0 where
  pub kind : StringKind
  pub parts : StringParts
  pub literal : Derives (t ++ closing) (a_string_of kind parts)
  pub no_suffix : string_suffix parts ≡ []
  pub body : opening_text kind parts ++ written_body parts ≡ t
