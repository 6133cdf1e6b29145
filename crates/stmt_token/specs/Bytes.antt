-- The kinds of bytes that tokens are made of (space, ident_start, ident_cont, decdigit and xdinside of scan.l; ASCII
-- alone), and what is made of such bytes.
use Rattle.std.specs.Prelude.{ℕ, nat_lt, nat_le, Bool, ◌==◌, ◌||◌, ◌&&◌, not, Option, Some, None, List, length, map, if◌then◌else◌}
use Rattle.std.specs.List.{list_all}
use Rattle.std.specs.Char.{is_ascii_alphabetic, is_ascii_digit, to_ascii_lowercase}
use Rattle.std.specs.Str.Parse.{digits_value}
use Rattle.stmt_token.specs.declared.byte_class.ByteClass.{ByteClass}
use Rattle.stmt_token.specs.declared.byte_class.ByteClass.TheVariants.{Blank, WordStart, WordPart, Digit, NamePart}

-- the most bytes of a word and of a quoted name (NAMEDATALEN less one)
abbrev pub longest_name : ℕ
longest_name = 63

-- the most digits of a number
abbrev pub most_digits : ℕ
most_digits = 18

-- space, tab, line feed and carriage return
abbrev pub is_blank : ℕ → Bool
is_blank byte = ((byte == 32 || byte == 9) || byte == 10) || byte == 13

-- a letter or `_`
abbrev pub is_word_start : ℕ → Bool
is_word_start byte = is_ascii_alphabetic byte || byte == 95

-- a letter, a digit or `_`
abbrev pub is_word_part : ℕ → Bool
is_word_part byte = is_word_start byte || is_ascii_digit byte

-- what a quoted name may have: no `"`, and no zero byte
abbrev pub is_name_part : ℕ → Bool
is_name_part byte = not (byte == 34 || byte == 0)

-- a byte is of a class
abbrev pub is_of : ByteClass → ℕ → Bool
is_of Blank byte = is_blank byte
is_of WordStart byte = is_word_start byte
is_of WordPart byte = is_word_part byte
is_of Digit byte = is_ascii_digit byte
is_of NamePart byte = is_name_part byte

-- a word in lower case (downcase_identifier of scansup.c)
abbrev pub lowered : List ℕ → List ℕ
lowered bytes = map to_ascii_lowercase bytes

-- the number that digits spell, of which there may be most_digits
abbrev pub number_in : List ℕ → Option ℕ
number_in bytes =
    if (nat_lt 0 (length bytes) && nat_le (length bytes) most_digits) && list_all is_ascii_digit bytes
    then Some (digits_value 10 bytes) else None
