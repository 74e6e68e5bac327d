-- the token at the front of a text
pub mod Token
-- the rule of each kind
pub mod Whitespace
pub mod Comment
pub mod Identifier
pub mod Lifetime
pub mod Literal
pub mod Punctuation
-- the tokens of a text, one after the other
pub mod Tokens
-- tokens that more text may change
pub mod MayChange
-- the text before the tokens of a file
pub mod Shebang
-- facts about all tokens
pub mod Laws
-- the cuts of the code
pub mod Cut
