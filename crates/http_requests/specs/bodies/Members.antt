-- Objects with exactly these keys. serde_json keeps an object's members in ascending order of their
-- keys, each key once, so one pattern fixes the keys.
use Rattle.std.specs.Prelude.{ℕ, List, bytes_eq, ◌&&◌, if◌then◌else◌, Option, Some, None}
use Rattle.serde_json.specs.Data.{Data, object, no_members, member}

-- the value of an object with this one key
abbrev pub one_of : List ℕ → Data → Option Data
one_of key (object (member k d no_members)) = if bytes_eq k key then Some d else None
one_of key _ = None

-- the values of an object with these two keys, in ascending order
abbrev pub two_of : (first second : List ℕ) → Data → Option (Data × Data)
two_of first second (object (member k d (member l e no_members))) =
    if bytes_eq k first && bytes_eq l second then Some (d, e) else None
two_of first second _ = None

-- the values of an object with these three keys, in ascending order
abbrev pub three_of : (first second third : List ℕ) → Data → Option (Data × Data × Data)
three_of first second third (object (member k d (member l e (member m f no_members)))) =
    if bytes_eq k first && bytes_eq l second && bytes_eq m third then Some (d, e, f) else None
three_of first second third _ = None
