-- The bytes of a file, as its reader has them. No clause can say which file is at a path.
use Rattle.std.specs.Prelude.{◌≡◌, ◌<◌, ℕ, List, Option, IfSome, length, take}

-- these are all bytes of a file
abbrev pub IsWhole : {F : Type 0} → (F → Option (List ℕ)) → List ℕ → Type 0
IsWhole {F} remaining bytes = (file : F) × IfSome (remaining file) (λ given. bytes ≡ given)

-- these are the first `most` bytes of a file, or all if it has no more
abbrev pub IsStartOf : {F : Type 0} → (F → Option (List ℕ)) → ℕ → List ℕ → Type 0
IsStartOf {F} remaining most bytes = (file : F) × IfSome (remaining file) (λ given. bytes ≡ take most given)

-- a file has more bytes than this
abbrev pub IsLonger : {F : Type 0} → (F → Option (List ℕ)) → ℕ → Type 0
IsLonger {F} remaining most = (file : F) × IfSome (remaining file) (λ given. most < length given)
