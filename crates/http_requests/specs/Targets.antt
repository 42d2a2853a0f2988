-- own: the parts of a target.
use Rattle.std.specs.Prelude.{ℕ, List, Bool, Option, Some, None, length, nat_le, not, slice_index, ◌==◌, ◌&&◌, if◌then◌else◌}
use Rattle.std.specs.Char.{is_ascii_digit}
use Rattle.std.specs.List.{before_first, after_first, list_all}
use Rattle.sbat.specs.Fields.{decimal_of}

-- whether a byte is a slash (47)
abbrev pub is_slash : ℕ → Bool
is_slash b = b == 47

-- the part of a target between its second slash and the third, or the end
abbrev pub second_part : List ℕ → List ℕ
second_part target = before_first is_slash (after_first is_slash (after_first is_slash target))

-- the part of a target between its third slash and the fourth, or the end
abbrev pub third_part : List ℕ → List ℕ
third_part target = second_part (after_first is_slash target)

-- the number of a minute, or of the first entry of a part of a list, that a text spells: 1 to 7
-- digits, of which the first isn't 0 (48)
abbrev pub minute_number : List ℕ → Option ℕ
minute_number text =
    if nat_le 1 (length text) && nat_le (length text) 7 && not (slice_index text 0 == 48) && list_all is_ascii_digit text
    then Some (decimal_of text)
    else None
