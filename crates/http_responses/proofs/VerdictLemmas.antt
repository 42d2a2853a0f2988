-- The component of a verdict, which exists.
use Rattle.std.proofs.Common.{◌≡◌, ℕ, suc, ◌+◌, List, [], ◌∷◌, Bool, true, false, Option, None, Some, nat_lt, refl, ◌∙◌, ap, arith}
use Rattle.std.specs.Prelude.{⊤, is_some, option_map, slice_get, if◌then◌else◌}
use Rattle.std.specs.Option.{option_or}
use Rattle.serde_json.specs.Data.{Data}
use Rattle.sbat.specs.declared.component.Component.{Component}
use Rattle.desk_history.specs.Verdicts.{Standing, first_below, has_revoked_certificate, has_revoked_digest, lack_at, lists_image, verdict_by}
use Rattle.desk_history.specs.declared.finding.Below.{Below}
use Rattle.http_responses.specs.json.Verdicts.{EachVerdictIsSaid, below_data, verdict_data}

-- if a component is named, it is one of these
abbrev IsOneOf : List Component → Option Below → Type 0
IsOneOf all None = ⊤
IsOneOf all (Some below) = is_some (slice_get all below.place) ≡ true

-- the one at this place, or one after it
one_of_all : (all : List Component) (x : Component) (place : ℕ) (lack : Bool) (needed : ℕ) (later : Option Below)
    → slice_get all place ≡ Some x → IsOneOf all later
    → IsOneOf all (option_or (if lack then Some (record { place = place; needs = needed }) else None) later)
one_of_all all x place true needed later at rest = ap is_some at
one_of_all all x place false needed later at rest = rest

-- the same by the generation that is required of the component
one_of_lacking : (all : List Component) (x : Component) (place : ℕ) (asked : Option ℕ) (later : Option Below)
    → slice_get all place ≡ Some x → IsOneOf all later → IsOneOf all (option_or (lack_at place x.generation asked) later)
one_of_lacking all x place None later at rest = rest
one_of_lacking all x place (Some needed) later at rest =
    one_of_all all x place (nat_lt x.generation needed) needed later at rest

-- the place after the next
moved : (place k : ℕ) → place + 1 + k ≡ place + suc k
moved place k = omega arith

-- the place itself
unmoved : (place : ℕ) → place ≡ place + 0
unmoved place = omega arith

-- the components from a place on are those of the whole list
below_is_one_of : (s : Standing) (all xs : List Component) (place : ℕ)
    → ((k : ℕ) → slice_get all (place + k) ≡ slice_get xs k) → IsOneOf all (first_below s place xs)
below_is_one_of s all [] place same = tt
below_is_one_of s all (x ∷ xs) place same =
    one_of_lacking all x place (s.required x.name) (first_below s (place + 1) xs) (ap (slice_get all) (unmoved place) ∙ same 0)
    (below_is_one_of s all xs (place + 1) (λ k. ap (slice_get all) (moved place k) ∙ same (suc k)))

-- a component that is there is said
kept : (say : Component → Data) (found : Option Component) → is_some found ≡ true → is_some (option_map say found) ≡ true
kept say None one = one
kept say (Some c) one = refl

-- each case of a verdict
said_by : (all : List Component) (digest certificate listed : Bool) (below : Option Below) → IsOneOf all below
    → is_some (verdict_data all (verdict_by digest certificate listed below)) ≡ true
said_by all true certificate listed below one = refl
said_by all false true listed below one = refl
said_by all false false false below one = refl
said_by all false false true None one = refl
said_by all false false true (Some below) one = kept (below_data below.needs) (slice_get all below.place) one

pub each_verdict : EachVerdictIsSaid
each_verdict s x =
    said_by x.components (has_revoked_digest s x) (has_revoked_certificate s x) (lists_image s x)
    (first_below s 0 x.components) (below_is_one_of s x.components x.components 0 (λ k. ap (slice_get x.components) (omega arith)))
