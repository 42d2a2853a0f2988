-- Laws of answers.
use Rattle.std.specs.Prelude.{◌≡◌, ◌≢◌, ℕ, false, IsTrue, List, Some}
use Rattle.desk_types.specs.declared.command.Person.{Person}
use Rattle.desk_types.specs.declared.role.Role.TheVariants as roles
use Rattle.desk_history.specs.Calls.{GoesOnFrom, History}
use Rattle.desk_history.specs.Runs.{is_legal}
use Rattle.desk_history.specs.Shown.{own, role_of}
use Rattle.desk_exports.specs.declared.reading.Reading.TheVariants as read
use Rattle.http_calls.specs.Answers.{AnswersCall, AnswersTask, GivesNothing}
use Rattle.http_calls.specs.Tags.{is_mismatch, subject_of, tag_at, tag_shown}
use Rattle.http_calls.specs.declared.answers.TaskAnswer.{TaskAnswer}
use Rattle.http_calls.specs.declared.call.TaskAsked.{TaskAsked}
use Rattle.http_calls.specs.declared.call.Task.TheVariants as task
use Rattle.desk_types.specs.declared.naming.Subject.{Subject}

-- a refused call changes nothing, whether the body, the desk's rules or the person's role is the
-- reason
abbrev pub RefusalsChangeNothing : Type 0
RefusalsChangeNothing =
    (owner : List ℕ) (cs : History) (call : TaskAsked) (a : TaskAnswer) (later : History)
    → GivesNothing a → AnswersCall owner cs call a later → later ≡ cs

-- desks of these two histories answer alike when the person reads requests, what waits or the number
-- of changes, and say of the same calls of that person that they are about something else, whatever
-- else the histories hold
pub record AnswersAlike (one other : History) (p : Person) : Type 0 where
  pub each : (first second : List ℕ) (k : ℕ) (a : TaskAnswer) (later : History)
      → AnswersTask first one p (task.Read (read.Request k)) a later → AnswersTask second other p (task.Read (read.Request k)) a other
  pub all : (first second : List ℕ) (a : TaskAnswer) (later : History)
      → AnswersTask first one p (task.Read read.Requests) a later → AnswersTask second other p (task.Read read.Requests) a other
  pub parts : (first second : List ℕ) (n : ℕ) (a : TaskAnswer) (later : History)
      → AnswersTask first one p (task.Read (read.RequestsFrom n)) a later → AnswersTask second other p (task.Read (read.RequestsFrom n)) a other
  pub found : (first second digest : List ℕ) (a : TaskAnswer) (later : History)
      → AnswersTask first one p (task.Read (read.RequestsWith digest)) a later → AnswersTask second other p (task.Read (read.RequestsWith digest)) a other
  pub waiting : (first second : List ℕ) (a : TaskAnswer) (later : History)
      → AnswersTask first one p (task.Read read.Waiting) a later → AnswersTask second other p (task.Read read.Waiting) a other
  pub changes : (first second : List ℕ) (a : TaskAnswer) (later : History)
      → AnswersTask first one p (task.Read read.Changes) a later → AnswersTask second other p (task.Read read.Changes) a other
  pub tags : (call : TaskAsked) → call.person ≡ p → is_mismatch one call ≡ is_mismatch other call

-- A submitter's answers depend only on the submitter's own requests: they are the same for all
-- histories that have the same ones.
abbrev pub SubmittersAreAnsweredByOwn : Type 0
SubmittersAreAnsweredByOwn =
    (one other : History) (p : Person) → role_of one p.name ≡ Some roles.Submitter → role_of other p.name ≡ Some roles.Submitter
    → own one p.name ≡ own other p.name → AnswersAlike one other p

-- ---- tags

-- no later call changes the tag of a request or of a proposal
abbrev pub TagsStay : Type 0
TagsStay =
    (earlier later : History) (s : Subject) (t : List ℕ) → GoesOnFrom earlier later → tag_at earlier s ≡ Some t
    → tag_at later s ≡ Some t

-- the tag that somebody is shown is the tag, and that person is shown it ever after
abbrev pub ShownTagsStay : Type 0
ShownTagsStay =
    (earlier later : History) (name : List ℕ) (s : Subject) (t : List ℕ) → IsTrue (is_legal later) → GoesOnFrom earlier later
    → tag_shown earlier name s ≡ Some t → (tag_at earlier s ≡ Some t) × (tag_shown later name s ≡ Some t)

-- A command with a tag that changes the history is about what has that tag: the request whose file
-- it is of, or the proposal whose entries it is of.
abbrev pub MatchedAreAboutTheirTag : Type 0
MatchedAreAboutTheirTag =
    (owner : List ℕ) (cs : History) (call : TaskAsked) (t : List ℕ) (s : Subject) (a : TaskAnswer) (later : History)
    → call.tag ≡ Some t → subject_of call.task ≡ Some s → AnswersCall owner cs call a later → later ≢ cs
    → tag_at cs s ≡ Some t

-- A call that changed the history is never refused for its tag later: so a repeat with the same tag
-- gets the reply that its key has.
abbrev pub RepeatsMatch : Type 0
RepeatsMatch =
    (owner : List ℕ) (cs more : History) (call : TaskAsked) (a : TaskAnswer) (later : History)
    → AnswersCall owner cs call a later → later ≢ cs → IsTrue (is_legal more) → GoesOnFrom cs more
    → is_mismatch more call ≡ false
