-- The SBAT level (shim's SBAT.md, "Generation-Based Revocation Overview"): the least generation
-- that each component may have.
use Rattle.std.specs.Prelude.{ℕ, Bool, true, nat_lt, if◌then◌else◌, max, List, [], ◌∷◌, ◌++◌, map, Option, Some, None, unwrap_or, bytes_eq}
use Rattle.std.specs.List.{list_any}
use Rattle.sbat.specs.declared.component.Component.{Component}
use Rattle.sbat.specs.Fields.{sbat}
use Rattle.desk_history.specs.Calls.{History, distinct}
use Rattle.desk_history.specs.Forces.{InForce, into_force}

-- the components whose generation some call names, with repeats
abbrev pub generations : History → List Component
generations [] = []
generations (i ∷ cs) = (into_force cs i).components ++ generations cs

-- the greater of a number and one that may be missing
abbrev pub greater_of : ℕ → Option ℕ → ℕ
greater_of n None = n
greater_of n (Some m) = max n m

-- the greatest generation that the components have under this name
abbrev pub greatest : List Component → List ℕ → Option ℕ
greatest [] name = None
greatest (x ∷ xs) name =
    if bytes_eq name x.name then Some (greater_of x.generation (greatest xs name)) else greatest xs name

-- the component of the revocation data itself (SBAT.md, "Version Check"): its generation is always
-- 1
abbrev pub is_sbat : List ℕ → Bool
is_sbat name = bytes_eq name sbat

-- the generation that the level requires of a component, if it names it
abbrev pub level : History → List ℕ → Option ℕ
level cs name = if is_sbat name then Some 1 else greatest (generations cs) name

-- the names of components, each once; in a desk's history `sbat` isn't one (`level_has_no_sbat`)
abbrev pub names : List Component → List (List ℕ)
names xs = distinct (map (λ x. x.name) xs)

-- the new generation exceeds the current one, or there is no current one
abbrev pub is_above : ℕ → Option ℕ → Bool
is_above n None = true
is_above n (Some m) = nat_lt m n

-- the component raises the generation of its name: it is above the level's, or the level has none
abbrev pub raises : History → Component → Bool
raises cs x = is_above x.generation (level cs x.name)

-- the entries put into force raise some generation
abbrev pub raises_some : History → InForce → Bool
raises_some cs f = list_any (raises cs) f.components

-- the level's stamp: that of the last call that raised a generation. own: before any, that of
-- shim's first level
abbrev pub stamp : History → ℕ
stamp [] = 2021030218
stamp (i ∷ cs) =
    if raises_some cs (into_force cs i) then unwrap_or (into_force cs i).stamp (stamp cs) else stamp cs
