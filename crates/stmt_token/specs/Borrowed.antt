-- What a borrowed token is.
use Rattle.std.specs.Prelude.{ℕ, Option, Some, None, List}
use Rattle.stmt_token.specs.declared.token.Token.{Token}
use Rattle.stmt_token.specs.declared.token.Token.TheVariants as token
use Rattle.stmt_token.specs.Bytes.{lowered, number_in}
use Rattle.stmt_token.specs.Tokens.{TokenValue, undoubled}
use Rattle.stmt_token.specs.Tokens as value

-- what a borrowed token says, or None at the end of the text
abbrev pub value_of : Token → Option TokenValue
value_of (token.Word bytes) = Some (value.Word (lowered bytes.now))
value_of (token.Quoted bytes) = Some (value.Quoted bytes.now)
value_of (token.Number number) = Some (value.Number number)
value_of (token.Text bytes) = Some (value.Text (undoubled bytes.now))
value_of (token.Sign sign) = Some (value.Sign sign)
value_of token.Bad = Some value.Bad
value_of token.End = None

-- the bytes of a word in lower case, or of a quoted name
abbrev pub name_of : TokenValue → Option (List ℕ)
name_of (value.Word bytes) = Some bytes
name_of (value.Quoted bytes) = Some bytes
name_of other = None

-- the bytes of a string
abbrev pub text_of : TokenValue → Option (List ℕ)
text_of (value.Text bytes) = Some bytes
text_of other = None

-- the number that a token is, or that a string spells
abbrev pub number_of : TokenValue → Option ℕ
number_of (value.Number number) = Some number
number_of (value.Text bytes) = number_in bytes
number_of other = None

-- the word in lower case that a token is, or that a string spells
abbrev pub setting_of : TokenValue → Option (List ℕ)
setting_of (value.Word bytes) = Some bytes
setting_of (value.Text bytes) = Some (lowered bytes)
setting_of other = None
