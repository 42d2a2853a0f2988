-- The refusal of a call: the first condition that holds.
use Rattle.std.specs.Prelude.{ℕ, Bool, true, false, not, ◌&&◌, ◌||◌, nat_lt, if◌then◌else◌, List, ◌∷◌, find, Option, Some, None, is_some, bytes_eq, codes}
use Rattle.std.specs.List.{list_any}
use Rattle.std.specs.Option.{option_map_or, option_or}
use Rattle.base.specs.declared.refusal.Refusal.{Refusal}
use Rattle.base.specs.declared.refusal.Refusal.TheVariants as refusals
use Rattle.desk_types.specs.declared.command.Call.{Call}
use Rattle.desk_types.specs.declared.caller.Caller.{Caller}
use Rattle.desk_types.specs.declared.caller.Caller.TheVariants as caller
use Rattle.desk_types.specs.declared.command.Command.{Command}
use Rattle.desk_types.specs.declared.command.Command.TheVariants as command
use Rattle.desk_types.specs.declared.facts.Facts.{Facts}
use Rattle.desk_types.specs.declared.kind.ListedKind.TheVariants as kinds
use Rattle.desk_types.specs.declared.command.Person.{Person}
use Rattle.desk_types.specs.declared.command.Raise.{Raise}
use Rattle.desk_types.specs.declared.proposal.ProposalState.{ProposalState}
use Rattle.desk_types.specs.declared.proposal.ProposalState.TheVariants as proposal_states
use Rattle.desk_types.specs.declared.state.State.{State}
use Rattle.desk_types.specs.declared.state.State.TheVariants as states
use Rattle.desk_types.specs.Callers.{caller_name}
use Rattle.desk_history.specs.Calls.{History, Item, item}
use Rattle.desk_history.specs.Forces.{forced}
use Rattle.desk_history.specs.Level.{is_above, is_sbat, level, raises_some, stamp}
use Rattle.desk_history.specs.Listing.{is_listed}
use Rattle.desk_history.specs.People.{has_name, has_token, people}
use Rattle.desk_history.specs.Proposals.{Proposal, proposal, proposal_state}
use Rattle.desk_history.specs.declared.rows.VoteRow.{VoteRow}
use Rattle.desk_history.specs.Requests.{Request, is_vote_of, request, state, votes, votes_on}
use Rattle.desk_history.specs.Revocations.{is_revoked}
use Rattle.desk_history.specs.Roles.{is_for, is_for_console}
use Rattle.desk_history.specs.Limits.{is_within}
use Rattle.desk_history.specs.Verdicts.{is_barred, stands_in_db}

-- the refusal, if the condition holds
abbrev pub refuse_if : Bool → Refusal → Option Refusal
refuse_if condition refusal = if condition then Some refusal else None

-- the caller is the console, or one of these people
abbrev pub is_one_of : List Person → Caller → Bool
is_one_of ps caller.Console = true
is_one_of ps (caller.Person name) = is_some (find (has_name name) ps)

-- the caller is the console, or a person who was added
abbrev pub is_known : History → Caller → Bool
is_known cs c = is_one_of (people cs) c

-- the caller may give the command, if these are the people
abbrev pub is_theirs : List Person → Caller → Command → Bool
is_theirs ps caller.Console command = is_for_console command
is_theirs ps (caller.Person name) command = option_map_or (λ p. is_for p.role command) (find (has_name name) ps) false

-- the caller may give the command
abbrev pub may_give : History → Caller → Command → Bool
may_give cs c command = is_theirs (people cs) c command

-- AddPerson. own: a name or a token belongs to one person, and nobody is named `console`
abbrev pub add_refusal : List Person → Person → Option Refusal
add_refusal ps p =
    refuse_if (bytes_eq p.name (codes "console") || list_any (has_name p.name) ps || list_any (has_token p.token) ps)
    refusals.NameTaken

-- Review, of a request in this state. `own`: it is the reviewer's own; `voted`: the reviewer has
-- voted on it. own: nobody votes twice or on an own request
abbrev pub review_by : State → Bool → Bool → Option Refusal
review_by state own voted =
    if not (elim state [ states.Open ↦ true | _ ↦ false ]) then Some refusals.WrongState
    else (if own then Some refusals.OwnRequest else refuse_if voted refusals.AlreadyReviewed)

-- Review, of the request with its state and the votes on it
abbrev pub review_refusal : Option Request → State → List VoteRow → List ℕ → Option Refusal
review_refusal None state vs reviewer = Some refusals.NoSuchRequest
review_refusal (Some r) state vs reviewer =
    review_by state (bytes_eq r.submitter reviewer) (list_any (is_vote_of reviewer) vs)

-- Withdraw, of a request in this state. `own`: it is the caller's own. own: to anybody else there
-- is no such request
abbrev pub withdraw_by : State → Bool → Option Refusal
withdraw_by state own =
    if not own then Some refusals.NoSuchRequest
    else refuse_if (elim state [ states.Open ↦ false | states.Approved ↦ false | _ ↦ true ]) refusals.WrongState

-- Withdraw, of the request with its state
abbrev pub withdraw_refusal : Option Request → State → List ℕ → Option Refusal
withdraw_refusal None state caller = Some refusals.NoSuchRequest
withdraw_refusal (Some r) state caller = withdraw_by state (bytes_eq r.submitter caller)

-- an image, returned as the signed one of the image with this digest and this digest to be signed.
-- `barred`: it is barred; `listed`: it is in db
abbrev pub image_refusal : List ℕ → List ℕ → Facts → Bool → Bool → Option Refusal
image_refusal digest signing x barred listed =
    if not (bytes_eq x.digest signing || bytes_eq x.digest digest) then Some refusals.DigestDiffers
    else (if barred then Some refusals.Revoked else refuse_if (not listed) refusals.NotListed)

-- Return, for a request in this state. `image` is the refusal of the returned image, if there is
-- one
abbrev pub return_by : State → Option Refusal → Option Refusal
return_by state image = if not (elim state [ states.Approved ↦ true | _ ↦ false ]) then Some refusals.WrongState else image

-- Return of an image for the request with its state. `barred`: it is barred; `listed`: it is in db
abbrev pub return_refusal : Option Request → State → Facts → Bool → Bool → Option Refusal
return_refusal None state x barred listed = Some refusals.NoSuchRequest
return_refusal (Some r) state x barred listed =
    return_by state (image_refusal r.facts.digest r.facts.signing x barred listed)

-- RaiseLevel, over the current generation of the component and the current stamp
abbrev pub raise_refusal : Option ℕ → ℕ → Raise → Option Refusal
raise_refusal present now r =
    if is_sbat r.component.name || not (is_above r.component.generation present) then Some refusals.NotHigher
    else refuse_if (not (nat_lt now r.stamp)) refusals.StampNotLater

-- there is a stamp, and it is above the current one
abbrev pub is_later : ℕ → Option ℕ → Bool
is_later now stamp = option_map_or (λ s. nat_lt now s) stamp false

-- ImportRevocations, over the current stamp. `raises`: it raises some generation
abbrev pub import_refusal : Bool → ℕ → Option ℕ → Option Refusal
import_refusal raises now stamp = refuse_if (raises && not (is_later now stamp)) refusals.StampNotLater

-- why a command's entries can't be put into force now; only four commands name entries
abbrev pub force_refusal : History → Command → Option Refusal
force_refusal cs (command.RevokeDigest d) = refuse_if (is_revoked kinds.Digest cs d) refusals.AlreadyRevoked
force_refusal cs (command.RevokeCertificate d) = refuse_if (is_revoked kinds.Certificate cs d) refusals.AlreadyRevoked
force_refusal cs (command.RaiseLevel r) = raise_refusal (level cs r.component.name) (stamp cs) r
force_refusal cs (command.ImportRevocations i) = import_refusal (raises_some cs (forced i)) (stamp cs) i.stamp
force_refusal cs (command.AddPerson _) = None
force_refusal cs (command.Submit _) = None
force_refusal cs (command.Review _) = None
force_refusal cs (command.Withdraw _) = None
force_refusal cs (command.Return _) = None
force_refusal cs (command.ListCertificate _) = None
force_refusal cs (command.ListDigest _) = None
force_refusal cs (command.Unlist _) = None
force_refusal cs (command.Confirm _) = None
force_refusal cs (command.Drop _) = None
force_refusal cs (command.Explain _) = None

-- a proposal in this state is closed
abbrev pub is_closed : ProposalState → Bool
is_closed state = elim state [ proposal_states.Open ↦ false | _ ↦ true ]

-- Confirm, of a proposal in this state. `own`: it is the caller's own; `refused` is the refusal
-- that its command would meet now, if there is one. own: an officer confirms only another's
-- proposal
abbrev pub confirm_by : ProposalState → Bool → Option Refusal → Option Refusal
confirm_by state own refused =
    if is_closed state then Some refusals.ProposalClosed else (if own then Some refusals.OwnProposal else refused)

-- Confirm, of the proposal with its state
abbrev pub confirm_refusal : History → Option Proposal → ProposalState → List ℕ → Option Refusal
confirm_refusal cs None state caller = Some refusals.NoSuchProposal
confirm_refusal cs (Some p) state caller = confirm_by state (bytes_eq p.officer caller) (force_refusal cs p.command)

-- Drop, of a proposal in this state. own: any officer may drop it, its proposer included
abbrev pub drop_by : ProposalState → Option Refusal
drop_by state = refuse_if (is_closed state) refusals.ProposalClosed

-- Drop, of the proposal with its state
abbrev pub drop_refusal : Option Proposal → ProposalState → Option Refusal
drop_refusal None state = Some refusals.NoSuchProposal
drop_refusal (Some p) state = drop_by state

-- Explain, of the proposal. own: any officer explains any proposal, in whatever state it is, as often
-- as that officer likes
abbrev pub explain_refusal : Option Proposal → Option Refusal
explain_refusal None = Some refusals.NoSuchProposal
explain_refusal (Some p) = None

-- own: each command's own conditions, for the caller of this name
abbrev pub own_refusal : History → List ℕ → Command → Option Refusal
own_refusal cs name (command.AddPerson p) = add_refusal (people cs) p
own_refusal cs name (command.Submit s) = refuse_if (is_barred cs s.facts) refusals.Revoked
own_refusal cs name (command.Review b) =
    review_refusal (request cs b.request) (state cs b.request) (votes_on (votes cs) b.request) name
own_refusal cs name (command.Withdraw k) = withdraw_refusal (request cs k) (state cs k) name
own_refusal cs name (command.Return h) =
    return_refusal (request cs h.request) (state cs h.request) h.facts (is_barred cs h.facts) (stands_in_db cs h.facts)
own_refusal cs name (command.ListCertificate c) =
    refuse_if (is_listed kinds.Certificate cs c.tbs) refusals.AlreadyListed
own_refusal cs name (command.ListDigest d) = refuse_if (is_listed kinds.Digest cs d) refusals.AlreadyListed
own_refusal cs name (command.Unlist l) = refuse_if (not (is_listed l.kind cs l.digest)) refusals.NotThere
own_refusal cs name (command.RevokeDigest d) = force_refusal cs (command.RevokeDigest d)
own_refusal cs name (command.RevokeCertificate d) = force_refusal cs (command.RevokeCertificate d)
own_refusal cs name (command.RaiseLevel r) = force_refusal cs (command.RaiseLevel r)
own_refusal cs name (command.ImportRevocations i) = force_refusal cs (command.ImportRevocations i)
own_refusal cs name (command.Confirm k) = confirm_refusal cs (proposal cs k) (proposal_state cs k) name
own_refusal cs name (command.Drop k) = drop_refusal (proposal cs k) (proposal_state cs k)
own_refusal cs name (command.Explain e) = explain_refusal (proposal cs e.proposal)

-- own: the caller's role comes first, then the command's own conditions, and last the limits of a
-- desk
abbrev pub refusal_of : History → Item → Option Refusal
refusal_of cs i =
    if not (may_give cs i.call.caller i.call.command) then Some refusals.NotYourRole
    else option_or (own_refusal cs (caller_name i.call.caller) i.call.command)
    (refuse_if (not (is_within (i ∷ cs))) refusals.Full)

-- why a call is refused now
abbrev pub refusal : History → Call → Option Refusal
refusal cs c = refusal_of cs (item c)
