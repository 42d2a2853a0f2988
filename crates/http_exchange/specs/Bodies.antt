-- The body of a request, which follows its head (RFC 9112, section 6).
use Rattle.std.specs.Prelude.{ℕ, List, length, take, nat_le, if◌then◌else◌, Option, Some, None, option_map, Vec}
use Rattle.std.specs.declared.alloc.Global.{Global}

-- the body of this length at the front of the bytes after the head; none if these are fewer
abbrev pub body_in : ℕ → List ℕ → Option (List ℕ)
body_in size rest = if nat_le size (length rest) then Some (take size rest) else None

-- the bytes of the code's body
abbrev pub items_of : Option (Vec ℕ Global) → Option (List ℕ)
items_of body = option_map (λ v. v.items) body
