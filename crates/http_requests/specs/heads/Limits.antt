-- own: the limits of a head.
use Rattle.std.specs.Prelude.{ℕ, ◌≤◌, length}
use Rattle.httparse.specs.Grammar.{RequestHead}

-- own: the most bytes of a head, with the empty lines before it
abbrev pub most_bytes : ℕ
most_bytes = 16384

-- own: the most fields of a head
abbrev pub most_fields : ℕ
most_fields = 64

-- the head has no more fields than that
abbrev pub HasFewFields : RequestHead → Type 0
HasFewFields h = length h.fields ≤ most_fields
