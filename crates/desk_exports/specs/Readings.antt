-- own: what a person is shown of a desk, by what the person asks to read, and the refusals that there
-- are.
use Rattle.std.specs.Prelude.{◌≡◌, ℕ, Bool, true, false, List, map, if◌then◌else◌, Result, Ok, Err}
use Rattle.base.specs.declared.refusal.Refusal.{Refusal}
use Rattle.base.specs.declared.refusal.Refusal.TheVariants as refusals
use Rattle.desk_types.specs.declared.caller.Caller.TheVariants as callers
use Rattle.desk_types.specs.declared.command.Person.{Person}
use Rattle.desk_types.specs.declared.role.Role.{Role}
use Rattle.desk_types.specs.declared.shown.ShownRequest.{ShownRequest}
use Rattle.desk_history.specs.Calls.{History}
use Rattle.desk_exports.specs.Changes.{changes_for}
use Rattle.desk_history.specs.Impact.{Impact}
use Rattle.desk_history.specs.ImpactShown.{ShowsImpact, impact_for}
use Rattle.desk_exports.specs.DigestSearch.{requests_with}
use Rattle.desk_exports.specs.ListParts.{proposals_from, requests_from}
use Rattle.desk_history.specs.PeopleShown.{ShowsPeople, people_for, shown_person}
use Rattle.desk_history.specs.ProposalShown.{proposal_for}
use Rattle.desk_history.specs.Proposals.{Proposal}
use Rattle.desk_history.specs.Roles.{is_officer}
use Rattle.desk_history.specs.Shown.{AreShown, IsGiven, IsShown, Whole, proposals_for, request_for, requests_for, shown_proposal}
use Rattle.desk_exports.specs.Waiting.{Waiting, waiting_for}
use Rattle.desk_history.specs.declared.impact.ShownImpact.{ShownImpact}
use Rattle.desk_history.specs.declared.rows.ProposalRow.{ProposalRow}
use Rattle.desk_history.specs.declared.shown_person.ShownPerson.{ShownPerson}
use Rattle.desk_exports.specs.Exports.{exported}
use Rattle.desk_exports.specs.MinutesShown.{minutes_for}
use Rattle.desk_exports.specs.Published.{export_of}
use Rattle.desk_exports.specs.Reports.{report}
use Rattle.desk_exports.specs.declared.reading.Reading.{Reading}
use Rattle.desk_exports.specs.declared.reading.Reading.TheVariants as read
use Rattle.desk_exports.specs.declared.shown.Shown.{Shown}
use Rattle.desk_exports.specs.declared.shown.Shown.TheVariants as shown

-- the list holds these requests as they are shown, in their order
pub record HoldsShown {L : Type 0} (holds : L → List ShownRequest → Type 0) (ws : List Whole) (list : L) : Type 0 where
  pub shown : List ShownRequest
  pub are : AreShown ws shown
  pub held : holds list shown

module _ {L : Type 0} (holds : L → List ShownRequest → Type 0) where
  -- requests are shown
  abbrev pub GivesRequests : List Whole → Shown L → Type 0
  GivesRequests ws s = (list : L) × HoldsShown holds ws list × (s ≡ shown.Requests list)

  -- a request is shown
  abbrev pub GivesRequest : Whole → Shown L → Type 0
  GivesRequest w s = (request : ShownRequest) × IsShown w request × (s ≡ shown.Request request)

  -- proposals are shown
  abbrev pub GivesProposals : History → List Proposal → Shown L → Type 0
  GivesProposals cs ps s = s ≡ shown.Proposals (map (shown_proposal cs) ps)

  -- a proposal is shown with all that it names
  abbrev pub GivesProposal : ProposalRow → Shown L → Type 0
  GivesProposal row s = s ≡ shown.Proposal row

  -- the impact of the proposal k is shown
  abbrev pub GivesImpact : ℕ → Impact → Shown L → Type 0
  GivesImpact k w s = (impact : ShownImpact) × ShowsImpact w impact × (s ≡ shown.Impact k impact)

  -- what waits is shown
  abbrev pub GivesWaiting : History → Waiting → Shown L → Type 0
  GivesWaiting cs w s = (list : L) × HoldsShown holds w.requests list × (s ≡ shown.Waiting list (map (shown_proposal cs) w.proposals))

  -- the number that tells of changes is shown
  abbrev pub GivesChanges : ℕ → Shown L → Type 0
  GivesChanges number s = s ≡ shown.Changes number

  -- own: only officers are given the report
  abbrev pub report_to : Role → History → Result (Shown L) Refusal
  report_to role cs = if is_officer role then Ok (shown.Report (report cs)) else Err refusals.NotYourRole

  -- lines of the minutes are shown
  abbrev pub GivesMinutes : List ℕ → Shown L → Type 0
  GivesMinutes lines s = s ≡ shown.Minutes lines

  -- these people are shown
  abbrev pub GivesPeople : List Person → Shown L → Type 0
  GivesPeople ps s = (people : List ShownPerson) × ShowsPeople ps people × (s ≡ shown.People people)

  -- what the person is shown of a desk with this owner and history, or why nothing is shown
  abbrev pub IsShownTo : List ℕ → History → Person → Reading → Result (Shown L) Refusal → Type 0
  IsShownTo owner cs p read.Requests given = IsGiven (requests_for cs (callers.Person p.name)) given GivesRequests
  IsShownTo owner cs p (read.RequestsFrom n) given = IsGiven (requests_from cs (callers.Person p.name) n) given GivesRequests
  IsShownTo owner cs p (read.RequestsWith digest) given = IsGiven (requests_with cs (callers.Person p.name) digest) given GivesRequests
  IsShownTo owner cs p (read.Request k) given = IsGiven (request_for cs (callers.Person p.name) k) given GivesRequest
  IsShownTo owner cs p read.Proposals given = IsGiven (proposals_for cs (callers.Person p.name)) given (GivesProposals cs)
  IsShownTo owner cs p (read.ProposalsFrom n) given = IsGiven (proposals_from cs (callers.Person p.name) n) given (GivesProposals cs)
  IsShownTo owner cs p (read.Proposal k) given = IsGiven (proposal_for cs (callers.Person p.name) k) given GivesProposal
  IsShownTo owner cs p (read.Impact k) given = IsGiven (impact_for cs (callers.Person p.name) k) given (GivesImpact k)
  IsShownTo owner cs p read.Waiting given = IsGiven (waiting_for cs (callers.Person p.name)) given (GivesWaiting cs)
  IsShownTo owner cs p read.Changes given = IsGiven (changes_for cs (callers.Person p.name)) given GivesChanges
  IsShownTo owner cs p (read.Export what) given = given ≡ Ok (shown.Export what (exported (export_of what) owner cs))
  IsShownTo owner cs p read.Report given = given ≡ report_to p.role cs
  IsShownTo owner cs p (read.Minutes n) given = IsGiven (minutes_for cs (callers.Person p.name) n) given GivesMinutes
  IsShownTo owner cs p read.People given = IsGiven (people_for cs (callers.Person p.name)) given GivesPeople
  IsShownTo owner cs p read.Me given = given ≡ Ok (shown.Me (shown_person p))

-- ---- refusals

-- own: the caller's role isn't shown it
abbrev pub lacks_role : Refusal → Bool
lacks_role refusals.NotYourRole = true
lacks_role _ = false

-- own: the same, or nobody has the caller's name
abbrev pub turns_away : Refusal → Bool
turns_away refusals.UnknownCaller = true
turns_away refusal = lacks_role refusal

-- own: the same, or the caller isn't shown such a request
abbrev pub hides_request : Refusal → Bool
hides_request refusals.NoSuchRequest = true
hides_request refusal = turns_away refusal

-- own: the caller is turned away, or there is no such proposal
abbrev pub hides_proposal : Refusal → Bool
hides_proposal refusals.NoSuchProposal = true
hides_proposal refusal = turns_away refusal

-- own: the same, or another officer's Confirm would be refused
abbrev pub hides_impact : Refusal → Bool
hides_impact refusals.ProposalClosed = true
hides_impact refusals.AlreadyRevoked = true
hides_impact refusals.NotHigher = true
hides_impact refusals.StampNotLater = true
hides_impact refusals.Full = true
hides_impact refusal = hides_proposal refusal

-- whether a caller who asks to read this may be refused so. A device's failure is none of these
abbrev pub may_refuse : Reading → Refusal → Bool
may_refuse read.Requests refusal = turns_away refusal
may_refuse (read.RequestsFrom n) refusal = turns_away refusal
may_refuse (read.RequestsWith digest) refusal = turns_away refusal
may_refuse (read.Request k) refusal = hides_request refusal
may_refuse read.Proposals refusal = turns_away refusal
may_refuse (read.ProposalsFrom n) refusal = turns_away refusal
may_refuse (read.Proposal k) refusal = hides_proposal refusal
may_refuse (read.Impact k) refusal = hides_impact refusal
may_refuse read.Waiting refusal = turns_away refusal
may_refuse read.Changes refusal = turns_away refusal
may_refuse (read.Export what) refusal = false
may_refuse read.Report refusal = lacks_role refusal
may_refuse (read.Minutes n) refusal = turns_away refusal
may_refuse read.People refusal = turns_away refusal
may_refuse read.Me refusal = false
