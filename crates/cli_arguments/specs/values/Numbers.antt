-- Numbers among the words of a command line.
use Rattle.std.specs.Prelude.{ℕ, List, Option, None, Some, Result, Ok, Err, nat_le, length, ◌&&◌, if◌then◌else◌}
use Rattle.std.specs.Char.{is_ascii_digit}
use Rattle.std.specs.List.{list_all}
use Rattle.sbat.specs.Fields.{decimal_of}
use Rattle.cli_arguments.specs.declared.values.place.Place.{Place}
use Rattle.cli_arguments.specs.declared.values.stop.Stop.{Stop}
use Rattle.cli_arguments.specs.declared.values.stop.Stop.TheVariants as stops
use Rattle.cli_arguments.specs.declared.values.stop.Word.TheVariants as word

-- own: the number that one or more decimal digits spell, with leading zeros allowed, if it is at
-- least the first and at most the second
abbrev pub number_between : ℕ → ℕ → List ℕ → Option ℕ
number_between low high text =
    if nat_le 1 (length text) && list_all is_ascii_digit text
    && nat_le low (decimal_of text) && nat_le (decimal_of text) high
    then Some (decimal_of text)
    else None

-- own: a port is 1 to 65,535
abbrev pub port_of : List ℕ → Option ℕ
port_of text = number_between 1 65535 text

-- own: a count of connections is 1 to 1,000,000
abbrev pub count_of : List ℕ → Option ℕ
count_of text = number_between 1 1000000 text

-- the place of a port, if the count is right too
abbrev pub place_with : ℕ → Option ℕ → Result Place Stop
place_with port None = Err (stops.Word word.Count)
place_with port (Some count) = Ok (record { port = port; count = count })

-- the place of the port and the count, if both are right
abbrev pub place_at : Option ℕ → Option ℕ → Result Place Stop
place_at None count = Err (stops.Word word.Port)
place_at (Some port) count = place_with port count

-- own: the port is checked before the count
abbrev pub place_of : List ℕ → List ℕ → Result Place Stop
place_of port_word count_word = place_at (port_of port_word) (count_of count_word)
