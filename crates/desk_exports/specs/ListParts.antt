-- Requests and proposals in parts, as people see them.
use Rattle.std.specs.Prelude.{◌≡◌, ℕ, ◌+◌, nat_le, not, List, [], ◌∷◌, ◌++◌, filter, take, Result, Ok}
use Rattle.std.specs.Result.{result_map_both}
use Rattle.base.specs.declared.refusal.Refusal.{Refusal}
use Rattle.desk_types.specs.declared.caller.Caller.{Caller}
use Rattle.desk_history.specs.Calls.{History}
use Rattle.desk_history.specs.Proposals.{Proposal}
use Rattle.desk_history.specs.Shown.{Whole, proposals_for, requests_for}

-- own: the most requests or proposals of a part
abbrev pub most_of_part : ℕ
most_of_part = 1000

-- those with the number n or a later one
abbrev pub numbered_from : {X : Type 0} → (X → ℕ) → ℕ → List X → List X
numbered_from number n xs = filter (λ x. nat_le n (number x)) xs

-- the first of them, as many as a part has at most
abbrev pub part_from : {X : Type 0} → (X → ℕ) → ℕ → List X → List X
part_from number n xs = take most_of_part (numbered_from number n xs)

-- the number of a request
abbrev pub request_number : Whole → ℕ
request_number w = w.request.number

-- the number of a proposal
abbrev pub proposal_number : Proposal → ℕ
proposal_number p = p.number

-- the answer to a caller about the requests from number n on, ascending by number
abbrev pub requests_from : History → Caller → ℕ → Result (List Whole) Refusal
requests_from cs c n = result_map_both (part_from request_number n) (λ refusal. refusal) (requests_for cs c)

-- the answer to a caller about the proposals from number n on, ascending by number
abbrev pub proposals_from : History → Caller → ℕ → Result (List Proposal) Refusal
proposals_from cs c n = result_map_both (part_from proposal_number n) (λ refusal. refusal) (proposals_for cs c)

-- ---- laws

-- those with a number below n
abbrev pub numbered_below : {X : Type 0} → (X → ℕ) → ℕ → List X → List X
numbered_below number n xs = filter (λ x. not (nat_le n (number x))) xs

-- the number after the last of a part from number n on, where the next part begins; n, if the part is
-- empty
abbrev pub number_after : {X : Type 0} → (X → ℕ) → ℕ → List X → ℕ
number_after number n [] = n
number_after number n (x ∷ xs) = number_after number (number x + 1) xs

-- A list is its parts, one after another. None of it is before the part from number 1 on; what is
-- before a part and the part are what is before the next part; and where a part is empty, the whole
-- list is before it.
pub record ComesInParts {X : Type 0} (number : X → ℕ) (xs : List X) : Type 0 where
  pub begins : numbered_below number 1 xs ≡ []
  pub joined : (n : ℕ) → numbered_below number n xs ++ part_from number n xs ≡ numbered_below number (number_after number n (part_from number n xs)) xs
  pub ends : (n : ℕ) → part_from number n xs ≡ [] → numbered_below number n xs ≡ xs

-- the requests that a caller is shown come in parts
abbrev pub RequestsComeInParts : Type 0
RequestsComeInParts = (cs : History) (c : Caller) (ws : List Whole) → requests_for cs c ≡ Ok ws → ComesInParts request_number ws

-- and so do the proposals
abbrev pub ProposalsComeInParts : Type 0
ProposalsComeInParts = (cs : History) (c : Caller) (ps : List Proposal) → proposals_for cs c ≡ Ok ps → ComesInParts proposal_number ps
