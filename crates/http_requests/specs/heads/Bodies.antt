-- A body of a known length (RFC 9112, section 6.2).
use Rattle.std.specs.Prelude.{◌≡◌, ◌<◌, ◌≤◌, ℕ, List, length, take, drop, Option, Some, None, ⊤, Vec}
use Rattle.std.specs.declared.alloc.Global.{Global}

-- the first n bytes were taken, or there are fewer
abbrev pub TakesBody : ℕ → Option (List ℕ) → Option (List ℕ) → Option (Vec ℕ Global) → Type 0
TakesBody n None new body = ⊤
TakesBody n (Some b) new None = length b < n
TakesBody n (Some b) new (Some body) =
    (n ≤ length b) × (body.items ≡ take n b) × (new ≡ Some (drop n b))
