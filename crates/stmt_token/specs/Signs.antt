-- The signs (self, typecast, less_equals, greater_equals, less_greater and not_equals of scan.l).
use Rattle.std.specs.Prelude.{ℕ, ◌==◌, ◌&&◌, if◌then◌else◌, Option, Some, None, List, [], ◌∷◌}
use Rattle.stmt_token.specs.declared.sign.Sign.{Sign}
use Rattle.stmt_token.specs.declared.sign.Sign.TheVariants.{LeftParen, RightParen, Comma, Semicolon, Dot, Minus, LeftBracket, RightBracket, Equal, NotEqual, Less, LessEqual, Greater, GreaterEqual, TypeCast}

-- signs of two bytes: `<=`, `>=`, `<>`, `!=`, `::`
abbrev pub sign_of_pair : ℕ → ℕ → Option Sign
sign_of_pair first second =
    if first == 60 && second == 61 then Some LessEqual
    else (if first == 62 && second == 61 then Some GreaterEqual
    else (if first == 60 && second == 62 then Some NotEqual
    else (if first == 33 && second == 61 then Some NotEqual
    else (if first == 58 && second == 58 then Some TypeCast
    else None))))

-- signs of one byte: `(`, `)`, `,`, `;`, `.`, `-`, `[`, `]`, `=`, `<`, `>`
abbrev pub sign_of_byte : ℕ → Option Sign
sign_of_byte byte =
    if byte == 40 then Some LeftParen
    else (if byte == 41 then Some RightParen
    else (if byte == 44 then Some Comma
    else (if byte == 59 then Some Semicolon
    else (if byte == 46 then Some Dot
    else (if byte == 45 then Some Minus
    else (if byte == 91 then Some LeftBracket
    else (if byte == 93 then Some RightBracket
    else (if byte == 61 then Some Equal
    else (if byte == 60 then Some Less
    else (if byte == 62 then Some Greater
    else None))))))))))

-- the first spelling of a sign
abbrev pub sign_spelling : Sign → List ℕ
sign_spelling LeftParen = 40 ∷ []
sign_spelling RightParen = 41 ∷ []
sign_spelling Comma = 44 ∷ []
sign_spelling Semicolon = 59 ∷ []
sign_spelling Dot = 46 ∷ []
sign_spelling Minus = 45 ∷ []
sign_spelling LeftBracket = 91 ∷ []
sign_spelling RightBracket = 93 ∷ []
sign_spelling Equal = 61 ∷ []
sign_spelling NotEqual = 60 ∷ 62 ∷ []
sign_spelling Less = 60 ∷ []
sign_spelling LessEqual = 60 ∷ 61 ∷ []
sign_spelling Greater = 62 ∷ []
sign_spelling GreaterEqual = 62 ∷ 61 ∷ []
sign_spelling TypeCast = 58 ∷ 58 ∷ []
