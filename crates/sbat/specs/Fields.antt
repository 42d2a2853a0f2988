-- The fields of a line (shim's SBAT.md), and their values.
use Rattle.std.specs.Prelude.{ℕ, ◌+◌, ◌-◌, ◌*◌, ◌==◌, ◌&&◌, nat_lt, nat_le, not, length, fold, List, codes, Bool, Option, Some, None, if◌then◌else◌}
use Rattle.std.specs.Char.{is_ascii_digit, is_ascii_graphic}
use Rattle.std.specs.List.{list_all, slice_split}

-- own: whether a byte is a comma (44), which separates fields; none is quoted
abbrev pub is_comma : ℕ → Bool
is_comma b = b == 44

-- the fields of a line, separated by commas
abbrev pub fields_of : List ℕ → List (List ℕ)
fields_of line = slice_split is_comma line

-- own: a byte of a name: 0x21 to 0x7E except the comma
abbrev pub is_name_byte : ℕ → Bool
is_name_byte b = is_ascii_graphic b && not (is_comma b)

-- own: a component's name has 1 to 128 such bytes
abbrev pub is_name : List ℕ → Bool
is_name text = nat_le 1 (length text) && nat_le (length text) 128 && list_all is_name_byte text

-- the number that decimal digits spell
abbrev pub decimal_of : List ℕ → ℕ
decimal_of digits = fold (λ n b. 10 * n + (b - 48)) 0 digits

-- own: a generation is 1 to 4,294,967,295
abbrev pub is_generation : ℕ → Bool
is_generation n = nat_le 1 n && nat_lt n 4294967296

-- own: the generation that 1 to 10 digits spell
abbrev pub generation_of : List ℕ → Option ℕ
generation_of text =
    if nat_le 1 (length text) && nat_le (length text) 10 && list_all is_ascii_digit text
    && is_generation (decimal_of text)
    then Some (decimal_of text)
    else None

-- own: a stamp has ten digits, the first of them not 0
abbrev pub is_stamp : ℕ → Bool
is_stamp n = nat_le 1000000000 n && nat_lt n 10000000000

-- the stamp that ten digits spell
abbrev pub stamp_of : List ℕ → Option ℕ
stamp_of text =
    if length text == 10 && list_all is_ascii_digit text && is_stamp (decimal_of text)
    then Some (decimal_of text)
    else None

-- the name of SBAT itself, `sbat`
abbrev pub sbat : List ℕ
sbat = codes "sbat"
