-- Comments, and the tokens between them.
use Rattle.std.specs.Prelude.{◌≡◌, ◌≢◌, ◌==◌, ℕ, List, codes, drop, Option, Some, None}
use Rattle.std.specs.List.{position_or_len}
use Rattle.std.specs.Str.Pattern.{FindsCharPrefix, IsTrimStartMatches}
use Rattle.litrs_base.specs.Characters.{line_feed}
use Rattle.litrs_lexer.specs.Comment.{slash}
use Rattle.litrs_lexer.specs.Tokens.{GivesToken}
use Rattle.litrs_lexer.specs.declared.token.Token.{Token}
use Rattle.litrs_explain.specs.declared.find.Comments.{Comments}
use Rattle.litrs_explain.specs.declared.find.Comments.TheVariants.{Hash, Rust}

-- The part of the text from its first line feed on.
abbrev pub from_line_feed : List ℕ → List ℕ
from_line_feed text = drop (position_or_len (λ c. c == line_feed) text) text

-- `front` is the text without the slashes at its front. For Rust it is the whole text, in which
-- `//` and `/*` begin comments, and those are tokens.
abbrev pub SkipsSlashes : Comments → (text front : List ℕ) → Type 0
SkipsSlashes Rust text front = front ≡ text
SkipsSlashes comments text front = IsTrimStartMatches (FindsCharPrefix slash) text front

-- `left` is the rest after a token. If `#` begins a comment, and the token is `#`, it is the part
-- of the rest from the end of the line on.
abbrev pub SkipsComment : Comments → (token rest left : List ℕ) → Type 0
SkipsComment Hash token rest left =
    (token ≡ codes "#" → left ≡ from_line_feed rest) × (token ≢ codes "#" → left ≡ rest)
SkipsComment comments token rest left = left ≡ rest

-- Like `SkipsComment`, for a token or the end of the text.
abbrev pub IsLeft : Comments → Option Token → (rest left : List ℕ) → Type 0
IsLeft comments None rest left = left ≡ rest
IsLeft comments (Some token) rest left = SkipsComment comments token.text.now rest left

-- A step from the text before a token to the text that is left after it. Slashes are skipped, then
-- the token is that of Rust, then a comment that it begins is skipped.
abbrev pub FindsToken :
    Comments → (source text : List ℕ) → Option Token → (left : List ℕ) → Type 0
FindsToken comments source text found left =
    (front : List ℕ) × (rest : List ℕ)
    × SkipsSlashes comments text front
    × GivesToken source front found rest
    × IsLeft comments found rest left
