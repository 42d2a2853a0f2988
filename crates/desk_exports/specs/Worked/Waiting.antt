-- What waits for people, lists in parts, and the number that tells of changes. Of ann's requests one
-- is open, with raul's yes, and one is withdrawn; rita's is approved; and each officer proposed
-- something.
use Rattle.std.specs.Prelude.{◌≡◌, ℕ, List, [], ◌∷◌, codes, map, Result, Ok, Err}
use Rattle.std.specs.Result.{result_map_both}
use Rattle.base.specs.declared.refusal.Refusal.{Refusal}
use Rattle.base.specs.declared.refusal.Refusal.TheVariants as refusals
use Rattle.desk_types.specs.declared.caller.Caller.{Caller}
use Rattle.desk_types.specs.declared.caller.Caller.TheVariants as callers
use Rattle.desk_types.specs.declared.command.Command.TheVariants as command
use Rattle.desk_types.specs.declared.vote.Vote.TheVariants.{Yes}
use Rattle.desk_history.specs.Calls.{History, item}
use Rattle.desk_exports.specs.Changes.{changes_for}
use Rattle.desk_exports.specs.ListParts.{proposal_number, proposals_from, request_number, requests_from}
use Rattle.desk_history.specs.Proposals.{Proposal}
use Rattle.desk_history.specs.Shown.{Whole}
use Rattle.desk_exports.specs.Waiting.{waiting_for}
use Rattle.desk_history.specs.Worked.{by, digest, officers_added, submit, vote}
use Rattle.desk_history.specs.Worked.Reviews.{a}

-- before the officers' proposals
abbrev before : History
before =
    item (by (codes "ann") (codes "ann-3") (command.Withdraw 3))
    ∷ item (by (codes "rosa") (codes "rosa-1") (vote 2 Yes))
    ∷ item (by (codes "raul") (codes "raul-2") (vote 2 Yes))
    ∷ item (by (codes "raul") (codes "raul-1") (vote 1 Yes))
    ∷ item (by (codes "ann") (codes "ann-2") (submit a))
    ∷ item (by (codes "rita") (codes "rita-1") (submit a))
    ∷ item (by (codes "ann") (codes "ann-1") (submit a))
    ∷ officers_added

-- and after them
abbrev history : History
history =
    item (by (codes "otto") (codes "otto-1") (command.RevokeDigest (digest 187)))
    ∷ item (by (codes "olga") (codes "olga-1") (command.RevokeDigest (digest 170)))
    ∷ before

-- a person as the reader
abbrev asks : List ℕ → Caller
asks name = callers.Person name

-- the numbers of requests, and of proposals
abbrev requests_of : List Whole → List ℕ
requests_of ws = map request_number ws

abbrev proposals_of : List Proposal → List ℕ
proposals_of ps = map proposal_number ps

-- the numbers of what waits
abbrev waits : Caller → Result (List ℕ × List ℕ) Refusal
waits c = result_map_both (λ w. (requests_of w.requests, proposals_of w.proposals)) (λ refusal. refusal) (waiting_for history c)

-- ann follows her open request, and rita her approved one; rita and rosa have ann's to vote on, and
-- raul did; sid has rita's to sign; and each officer has the other's proposal to confirm
abbrev pub TellsWaiting : Type 0
TellsWaiting =
    (waits (asks (codes "ann")) ≡ Ok (1 ∷ [], []))
    × (waits (asks (codes "rita")) ≡ Ok (1 ∷ 2 ∷ [], []))
    × (waits (asks (codes "raul")) ≡ Ok ([], []))
    × (waits (asks (codes "rosa")) ≡ Ok (1 ∷ [], []))
    × (waits (asks (codes "sid")) ≡ Ok (2 ∷ [], []))
    × (waits (asks (codes "olga")) ≡ Ok ([], 2 ∷ []))
    × (waits (asks (codes "otto")) ≡ Ok ([], 1 ∷ []))
    × (waits (asks (codes "eve")) ≡ Err refusals.UnknownCaller)
    × (waits callers.Console ≡ Err refusals.NotYourRole)

-- the numbers of the requests from this one on
abbrev requests_after : List ℕ → ℕ → Result (List ℕ) Refusal
requests_after name n = result_map_both requests_of (λ refusal. refusal) (requests_from history (asks name) n)

-- and of the proposals
abbrev proposals_after : List ℕ → ℕ → Result (List ℕ) Refusal
proposals_after name n = result_map_both proposals_of (λ refusal. refusal) (proposals_from history (asks name) n)

-- parts from 0, from a number within, and past the end
abbrev pub TellsParts : Type 0
TellsParts =
    (requests_after (codes "rita") 0 ≡ Ok (1 ∷ 2 ∷ 3 ∷ []))
    × (requests_after (codes "rita") 2 ≡ Ok (2 ∷ 3 ∷ []))
    × (requests_after (codes "rita") 4 ≡ Ok [])
    × (requests_after (codes "ann") 2 ≡ Ok (3 ∷ []))
    × (requests_after (codes "eve") 1 ≡ Err refusals.UnknownCaller)
    × (proposals_after (codes "olga") 2 ≡ Ok (2 ∷ []))
    × (proposals_after (codes "rita") 1 ≡ Err refusals.NotYourRole)

-- ann's number counts two submissions, one vote and one withdrawal, and proposals don't change it;
-- everybody else's counts the calls
abbrev pub TellsChanges : Type 0
TellsChanges =
    (changes_for before (asks (codes "ann")) ≡ Ok 4)
    × (changes_for history (asks (codes "ann")) ≡ Ok 4)
    × (changes_for before (asks (codes "rita")) ≡ Ok 14)
    × (changes_for history (asks (codes "rita")) ≡ Ok 16)
    × (changes_for history (asks (codes "sid")) ≡ Ok 16)
    × (changes_for history (asks (codes "olga")) ≡ Ok 16)
    × (changes_for history (asks (codes "eve")) ≡ Err refusals.UnknownCaller)
    × (changes_for history callers.Console ≡ Err refusals.NotYourRole)
