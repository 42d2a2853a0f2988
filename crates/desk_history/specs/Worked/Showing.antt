-- Answers to people about two requests: ann's, which was signed, and rita's, which was rejected.
use Rattle.std.specs.Prelude.{◌≡◌, ℕ, List, [], ◌∷◌, codes, Some, None, Ok, Err}
use Rattle.base.specs.declared.refusal.Refusal.TheVariants as refusals
use Rattle.desk_types.specs.declared.caller.Caller.{Caller}
use Rattle.desk_types.specs.declared.caller.Caller.TheVariants as callers
use Rattle.desk_types.specs.declared.state.State.TheVariants as states
use Rattle.desk_types.specs.declared.vote.Vote.TheVariants.{No, Yes}
use Rattle.desk_history.specs.Shown.{Whole, request_for, requests_for}
use Rattle.desk_history.specs.Worked.Returns.{after_return, signed}
use Rattle.desk_history.specs.Worked.Reviews.{a}

-- ann's request, its newest vote first
abbrev pub first : Whole
first = record {
  request = record { number = 1; submitter = codes "ann"; title = codes "shim 15.8"; facts = a };
  state = states.Signed;
  votes =
      record { request = 1; reviewer = codes "raul"; vote = Yes; note = codes "looked" }
      ∷ record { request = 1; reviewer = codes "rita"; vote = Yes; note = codes "looked" }
      ∷ [];
  returned = Some (record { request = 1; signer = codes "sid"; facts = signed });
}

-- rita's
abbrev pub second : Whole
second = record {
  request = record { number = 2; submitter = codes "rita"; title = codes "shim 15.8"; facts = a };
  state = states.Rejected;
  votes = record { request = 2; reviewer = codes "rosa"; vote = No; note = codes "looked" } ∷ [];
  returned = None;
}

-- a person as the reader
abbrev asks : List ℕ → Caller
asks name = callers.Person name

-- ann reads another's request and one that doesn't exist: she gets the same answer
abbrev pub TellsRequests : Type 0
TellsRequests =
    (request_for after_return (asks (codes "ann")) 1 ≡ Ok first)
    × (request_for after_return (asks (codes "ann")) 2 ≡ Err refusals.NoSuchRequest)
    × (request_for after_return (asks (codes "ann")) 3 ≡ Err refusals.NoSuchRequest)
    × (request_for after_return (asks (codes "rita")) 1 ≡ Ok first)
    × (request_for after_return (asks (codes "sid")) 2 ≡ Ok second)
    × (request_for after_return (asks (codes "olga")) 3 ≡ Err refusals.NoSuchRequest)
    × (request_for after_return (asks (codes "eve")) 1 ≡ Err refusals.UnknownCaller)
    × (request_for after_return callers.Console 1 ≡ Err refusals.NotYourRole)

-- and all of them
abbrev pub TellsAll : Type 0
TellsAll =
    (requests_for after_return (asks (codes "ann")) ≡ Ok (first ∷ []))
    × (requests_for after_return (asks (codes "rita")) ≡ Ok (first ∷ second ∷ []))
    × (requests_for after_return (asks (codes "olga")) ≡ Ok (first ∷ second ∷ []))
    × (requests_for after_return (asks (codes "eve")) ≡ Err refusals.UnknownCaller)
    × (requests_for after_return callers.Console ≡ Err refusals.NotYourRole)
