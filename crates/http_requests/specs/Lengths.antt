-- Content-Length (RFC 9110, section 8.6).
use Rattle.std.specs.Prelude.{ℕ, List, Option, Some, None, option_map, nat_le, length, ◌&&◌, if◌then◌else◌}
use Rattle.std.specs.Char.{is_ascii_digit}
use Rattle.std.specs.List.{list_all}
use Rattle.sbat.specs.Fields.{decimal_of}
use Rattle.http_requests.specs.heads.Fields.{Occurrence, missing, once, repeated}

-- own: the length that a text spells, of 1 to 10 digits
abbrev pub length_of : List ℕ → Option ℕ
length_of text =
    if nat_le 1 (length text) && nat_le (length text) 10 && list_all is_ascii_digit text
    then Some (decimal_of text)
    else None

-- the length that the field gives, which may be missing; none if the field is wrong
abbrev pub length_in : Occurrence → Option (Option ℕ)
length_in missing = Some None
length_in (once text) = option_map (λ n. Some n) (length_of text)
length_in repeated = None
