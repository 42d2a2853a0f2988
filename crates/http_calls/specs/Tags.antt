-- own: what a command is about, and its entity tag. A caller may name the tag that this must have
-- (If-Match; RFC 9110, section 13.1.1).
use Rattle.std.specs.Prelude.{◌≡◌, ◌≢◌, ◌⊎◌, ℕ, List, Bool, false, not, Option, Some, None, option_map, Result, Ok, Err, bytes_eq}
use Rattle.base.specs.declared.refusal.Refusal.{Refusal}
use Rattle.desk_types.specs.Naming.{subject_named}
use Rattle.desk_types.specs.declared.caller.Caller.TheVariants as callers
use Rattle.desk_types.specs.declared.naming.Subject.{Subject}
use Rattle.desk_types.specs.declared.naming.Subject.TheVariants as subject
use Rattle.desk_types.specs.declared.shown.ShownRequest.{ShownRequest}
use Rattle.desk_history.specs.Calls.{History}
use Rattle.desk_history.specs.Proposals.{proposal}
use Rattle.desk_history.specs.ProposalShown.{proposal_for}
use Rattle.desk_history.specs.Requests.{request}
use Rattle.desk_history.specs.Shown.{Whole, request_for}
use Rattle.desk_history.specs.declared.rows.ProposalRow.{ProposalRow}
use Rattle.desk_exports.specs.Tags.{tag_of}
use Rattle.desk_exports.specs.declared.reading.Reading.{Reading}
use Rattle.desk_exports.specs.declared.reading.Reading.TheVariants as read
use Rattle.desk_exports.specs.declared.shown.Shown.{Shown}
use Rattle.desk_exports.specs.declared.shown.Shown.TheVariants as shown
use Rattle.http_requests.specs.declared.ask.ImageAsked.{ImageAsked}
use Rattle.http_requests.specs.declared.ask.ImageAsked.TheVariants as asked
use Rattle.http_responses.specs.Refusals.{outage_refusal, refused_of}
use Rattle.http_responses.specs.declared.outage.Outage.{Outage}
use Rattle.http_responses.specs.declared.outage.Outage.TheVariants as outage
use Rattle.http_calls.specs.declared.call.TaskAsked.{TaskAsked}
use Rattle.http_calls.specs.declared.call.Task.{Task}
use Rattle.http_calls.specs.declared.call.Task.TheVariants as task

-- the request for which an image is returned
abbrev pub returned_for : ImageAsked → Option Subject
returned_for (asked.Submit _ _) = None
returned_for (asked.Return _ k) = Some (subject.Request k)
returned_for asked.Verdict = None
returned_for asked.Facts = None

-- what the command of a task is about
abbrev pub subject_of : Task → Option Subject
subject_of (task.Read _) = None
subject_of (task.Image with _) = returned_for with
subject_of (task.Command _ given) = subject_named given
subject_of (task.Bytes _ _ _) = None

-- ---- tags

-- own: the tag of a request is the SHA-256 of its submitted file, that of a proposal the one of the
-- entries that it names
abbrev pub tag_at : History → Subject → Option (List ℕ)
tag_at cs (subject.Request k) = option_map (λ r. r.facts.file) (request cs k)
tag_at cs (subject.Proposal k) = option_map (λ p. tag_of p.named.entries) (proposal cs k)

-- the tag of a request that is shown
abbrev pub request_tag : Result Whole Refusal → Option (List ℕ)
request_tag (Ok w) = Some w.request.facts.file
request_tag (Err _) = None

-- the tag of a proposal that is shown
abbrev pub proposal_tag : Result ProposalRow Refusal → Option (List ℕ)
proposal_tag (Ok row) = Some (tag_of row.named)
proposal_tag (Err _) = None

-- the tag of what the person of this name is shown under that number, if anything is shown
abbrev pub tag_shown : History → List ℕ → Subject → Option (List ℕ)
tag_shown cs name (subject.Request k) = request_tag (request_for cs (callers.Person name) k)
tag_shown cs name (subject.Proposal k) = proposal_tag (proposal_for cs (callers.Person name) k)

-- ---- comparing

-- another tag is shown than the one that is wanted
abbrev pub is_other : Option (List ℕ) → Option (List ℕ) → Bool
is_other None given = false
is_other (Some _) None = false
is_other (Some wanted) (Some given) = not (bytes_eq given wanted)

-- the same of what a command is about, if it is about something
abbrev pub is_about_other : History → List ℕ → Option (List ℕ) → Option Subject → Bool
is_about_other cs name wanted None = false
is_about_other cs name wanted (Some s) = is_other wanted (tag_shown cs name s)

-- own: the caller sent a tag, and is shown what the command is about, with another tag
abbrev pub is_mismatch : History → TaskAsked → Bool
is_mismatch cs call = is_about_other cs call.person.name call.tag (subject_of call.task)

-- ---- readings

-- the reading that shows it
abbrev pub reading_of : Subject → Reading
reading_of (subject.Request k) = read.Request k
reading_of (subject.Proposal k) = read.Proposal k

-- the tag of the request or of the proposal that is shown
abbrev pub tag_in : Shown (List ShownRequest) → Option (List ℕ)
tag_in (shown.Request r) = Some r.facts.file
tag_in (shown.Proposal row) = Some (tag_of row.named)
tag_in _ = None

-- the result for a reading: the tag that it shows, or none where the reading is refused; or that
-- memory was refused, or the outage that the reading met
abbrev pub TellsTag : Result (Shown (List ShownRequest)) Refusal → Result (Option (List ℕ)) Outage → Type 0
TellsTag (Ok given) (Ok tag) = tag ≡ tag_in given
TellsTag (Ok given) (Err o) = o ≡ outage.NoMemory
TellsTag (Err r) (Ok tag) = (tag ≡ None) × (refused_of r ≢ None)
TellsTag (Err r) (Err o) = (outage_refusal o ≡ r) × (refused_of r ≡ None)

-- another tag is shown than this one; or the outage
abbrev pub differs_from : List ℕ → Result (Option (List ℕ)) Outage → Result Bool Outage
differs_from tag (Ok given) = Ok (is_other (Some tag) given)
differs_from tag (Err o) = Err o

-- own: what a desk that has failed tells: what is so at any history, or that memory was refused, or
-- that it must be opened again
abbrev pub IsShutTo : {X : Type 0} → Result X Outage → (X → Type 0) → Type 0
IsShutTo (Ok x) holds = holds x
IsShutTo (Err o) holds = (o ≡ outage.NoMemory) ⊎ (o ≡ outage.Reopen)
