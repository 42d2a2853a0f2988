-- A number that changes whenever what a person may see of requests or proposals changed.
use Rattle.std.specs.Prelude.{◌≡◌, ℕ, ◌+◌, true, false, List, [], ◌∷◌, ◌++◌, length, Some, Result}
use Rattle.std.specs.Result.{result_map_both}
use Rattle.base.specs.declared.refusal.Refusal.{Refusal}
use Rattle.desk_types.specs.declared.caller.Caller.{Caller}
use Rattle.desk_types.specs.declared.caller.Caller.TheVariants as callers
use Rattle.desk_types.specs.declared.command.Person.{Person}
use Rattle.desk_types.specs.declared.role.Role.{Role}
use Rattle.desk_types.specs.declared.role.Role.TheVariants as roles
use Rattle.desk_types.specs.declared.state.State.{State}
use Rattle.desk_types.specs.declared.state.State.TheVariants as states
use Rattle.desk_history.specs.Calls.{History}
use Rattle.desk_history.specs.Runs.{is_legal}
use Rattle.desk_history.specs.Shown.{TellAlike, Whole, reader, requests_for, role_of, sees}
use Rattle.desk_exports.specs.Waiting.{or_nothing}

-- own: what a request's state adds: 1 for a withdrawal, 2 for a returned file
abbrev pub end_of : State → ℕ
end_of states.Open = 0
end_of states.Approved = 0
end_of states.Rejected = 0
end_of states.Withdrawn = 1
end_of states.Signed = 2

-- what happened to a request: it was submitted, each vote came, and it ended
abbrev pub events_of : Whole → ℕ
events_of w = 1 + length w.votes + end_of w.state

-- what happened to all of these requests
abbrev pub events : List Whole → ℕ
events [] = 0
events (w ∷ ws) = events_of w + events ws

-- own: the number for a person who is shown these requests. A submitter's is a function of the
-- requests that are shown to the submitter, as everything is that a submitter is shown; for all others
-- it is the number of accepted calls
abbrev pub changes : History → Result (List Whole) Refusal → Person → ℕ
changes cs ws p = elim p.role [
  | roles.Submitter ↦ events (or_nothing ws)
  | roles.Reviewer ↦ length cs
  | roles.Officer ↦ length cs
  | roles.Signer ↦ length cs
]

-- the answer to a caller about the number
abbrev pub changes_for : History → Caller → Result ℕ Refusal
changes_for cs c = result_map_both (changes cs (requests_for cs c)) (λ refusal. refusal) (reader cs c)

-- ---- laws

-- While a submitter's number stays, a later history shows the submitter the same requests: whatever
-- changes one of them, or adds one, makes the number greater.
abbrev pub SubmittersNumbersTell : Type 0
SubmittersNumbersTell =
    (new cs : History) (name : List ℕ) → is_legal (new ++ cs) ≡ true → role_of cs name ≡ Some roles.Submitter → role_of (new ++ cs) name ≡ Some roles.Submitter
    → changes_for (new ++ cs) (callers.Person name) ≡ changes_for cs (callers.Person name) → TellAlike (new ++ cs) cs (callers.Person name)

-- While the number of anybody else stays, no call was accepted.
abbrev pub OthersNumbersTell : Type 0
OthersNumbersTell =
    (new cs : History) (name : List ℕ) (role : Role) → sees role false ≡ true → role_of cs name ≡ Some role → role_of (new ++ cs) name ≡ Some role
    → changes_for (new ++ cs) (callers.Person name) ≡ changes_for cs (callers.Person name) → new ≡ []
