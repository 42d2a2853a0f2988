-- The forms of the desk's texts: own: names, keys, titles, notes and reasons; and of the numbers of
-- requests and proposals.
use Rattle.std.specs.Prelude.{ℕ, Bool, ◌&&◌, ◌||◌, ◌==◌, ◌-◌, nat_le, length, slice_index, not, List}
use Rattle.std.specs.Char.{is_ascii_digit, is_ascii_lowercase}
use Rattle.std.specs.List.{list_all}

-- whether the byte is between low and high, inclusive
abbrev pub is_between : ℕ → ℕ → ℕ → Bool
is_between low high byte = nat_le low byte && nat_le byte high

-- a to z, 0 to 9 or a hyphen
abbrev pub is_name_byte : ℕ → Bool
is_name_byte byte = is_ascii_lowercase byte || is_ascii_digit byte || (byte == 45)

-- a space
abbrev pub is_space : ℕ → Bool
is_space byte = byte == 32

-- own: the most bytes of a person's name
abbrev pub longest_name : ℕ
longest_name = 32

-- own: the most bytes of a key
abbrev pub longest_key : ℕ
longest_key = 64

-- own: the most bytes of a title
abbrev pub longest_title : ℕ
longest_title = 120

-- own: the most bytes of a note
abbrev pub longest_note : ℕ
longest_note = 200

-- own: the most bytes of a reason
abbrev pub longest_reason : ℕ
longest_reason = 200

-- own: the greatest number of a request or a proposal
abbrev pub greatest_number : ℕ
greatest_number = 999999

-- own: the most digits of such a number
abbrev pub most_digits : ℕ
most_digits = 6

-- own: a person's name is 1 to 32 letters in lower case, digits and hyphens, the first a letter
abbrev pub is_person_name : List ℕ → Bool
is_person_name text =
    nat_le 1 (length text) && nat_le (length text) longest_name && is_ascii_lowercase (slice_index text 0) && list_all is_name_byte text

-- own: a key is 1 to 64 visible characters of ASCII
abbrev pub is_key : List ℕ → Bool
is_key text = nat_le 1 (length text) && nat_le (length text) longest_key && list_all (is_between 33 126) text

-- own: a title is 1 to 120 characters of ASCII, visible or spaces
abbrev pub is_title : List ℕ → Bool
is_title text = nat_le 1 (length text) && nat_le (length text) longest_title && list_all (is_between 32 126) text

-- own: a note is at most 200 characters of ASCII, visible or spaces
abbrev pub is_note : List ℕ → Bool
is_note text = nat_le (length text) longest_note && list_all (is_between 32 126) text

-- own: a reason is 1 to 200 characters of ASCII, visible or spaces, neither the first nor the last a
-- space
abbrev pub is_reason : List ℕ → Bool
is_reason text =
    nat_le 1 (length text) && nat_le (length text) longest_reason && not (is_space (slice_index text 0))
    && not (is_space (slice_index text (length text - 1))) && list_all (is_between 32 126) text

-- own: requests and proposals are numbered from 1 to 999,999
abbrev pub is_ordinal : ℕ → Bool
is_ordinal number = is_between 1 greatest_number number

-- a request's number
abbrev pub is_request_number : ℕ → Bool
is_request_number number = is_ordinal number

-- a proposal's number
abbrev pub is_proposal_number : ℕ → Bool
is_proposal_number number = is_ordinal number

-- the decimal text of a number of 1 to 6 digits, without leading zeros
abbrev pub is_decimal : List ℕ → Bool
is_decimal text =
    nat_le 1 (length text) && nat_le (length text) most_digits && not (slice_index text 0 == 48) && list_all is_ascii_digit text

-- the decimal text of a number, without leading zeros
abbrev pub is_numeral : List ℕ → Bool
is_numeral text =
    nat_le 1 (length text) && (nat_le (length text) 1 || not (slice_index text 0 == 48)) && list_all is_ascii_digit text

-- own: one import has at most 10,000 entries
abbrev pub most_imported : ℕ
most_imported = 10000
