-- The reading of what a command is about, and the tag that it shows.
use Rattle.std.proofs.Common.{◌≡◌, ◌≢◌, ◌⊎◌, ◌∙◌, inl, inr, ℕ, Bool, true, false, IfOk, List, [], Option, Some, None, Result, Ok, Err, refl, sym, ap, subst}
use Rattle.std.specs.Prelude.{IfErr}
use Rattle.base.specs.declared.refusal.Refusal.{Refusal}
use Rattle.base.specs.declared.refusal.Refusal.TheVariants as refusals
use Rattle.desk_types.specs.declared.caller.Caller.TheVariants as callers
use Rattle.desk_types.specs.declared.command.Person.{Person}
use Rattle.desk_types.specs.declared.shown.ShownRequest.{ShownRequest}
use Rattle.desk_history.specs.Calls.{History}
use Rattle.desk_history.specs.ProposalShown.{proposal_for}
use Rattle.desk_history.specs.Shown.{IsGiven, Whole, request_for}
use Rattle.desk_history.specs.declared.rows.ProposalRow.{ProposalRow}
use Rattle.desk_exports.specs.Readings.{GivesProposal, GivesRequest, IsShownTo}
use Rattle.desk_exports.specs.declared.reading.Reading.{Reading}
use Rattle.desk_exports.specs.declared.shown.Shown.{Shown}
use Rattle.http_responses.specs.Refusals.{outage_refusal, refused_of}
use Rattle.http_responses.specs.declared.outage.Outage.{Outage}
use Rattle.http_responses.specs.declared.outage.Outage.TheVariants as outage
use Rattle.http_responses.specs.declared.refused.Refused.{Refused}
use Rattle.http_responses.specs.declared.refused.Refused.TheVariants as refused
use Rattle.http_calls.specs.Answers.{AnswersTask, AnswersUnless, IsClosed, Serves}
use Rattle.desk_exports.specs.Desks.{ForEachShown, IsShut}
use Rattle.http_calls.specs.Desks.{is_text_of}
use Rattle.http_calls.specs.Tags.{IsShutTo, TellsTag, differs_from, is_about_other, is_mismatch, is_other, proposal_tag, reading_of, request_tag, subject_of, tag_in, tag_shown}
use Rattle.http_calls.specs.declared.answers.TaskAnswer.{TaskAnswer}
use Rattle.http_calls.specs.declared.answers.TaskAnswer.TheVariants as answer
use Rattle.http_calls.specs.declared.call.TaskAsked.{TaskAsked}
use Rattle.http_calls.specs.declared.call.Task.{Task}
use Rattle.desk_types.specs.declared.naming.Subject.{Subject}
use Rattle.desk_types.specs.declared.naming.Subject.TheVariants as subject

-- ---- what is shown

-- what is shown has the tag that is shown
given_tag : (owner : List ℕ) (cs : History) (p : Person) (s : Subject) (given : Shown (List ShownRequest))
    → IsShownTo is_text_of owner cs p (reading_of s) (Ok given) → tag_in given ≡ tag_shown cs p.name s
given_tag owner cs p (subject.Request k) given h = by (request_for cs (callers.Person p.name) k) h
  where
    by : (due : Result Whole Refusal) → IsGiven due (Ok given) (GivesRequest is_text_of) → tag_in given ≡ request_tag due
    by (Ok w) f = ap tag_in f.2 ∙ ap (λ x. Some x.file) f.1.facts
    by (Err r) f = absurd f
given_tag owner cs p (subject.Proposal k) given h = by (proposal_for cs (callers.Person p.name) k) h
  where
    by : (due : Result ProposalRow Refusal) → IsGiven due (Ok given) (GivesProposal is_text_of) → tag_in given ≡ proposal_tag due
    by (Ok row) f = ap tag_in f
    by (Err r) f = absurd f

-- where nothing is shown there is no tag
none_given : (owner : List ℕ) (cs : History) (p : Person) (s : Subject) (r : Refusal)
    → IsShownTo is_text_of owner cs p (reading_of s) (Err r) → tag_shown cs p.name s ≡ None
none_given owner cs p (subject.Request k) r h = by (request_for cs (callers.Person p.name) k) h
  where
    by : (due : Result Whole Refusal) → IsGiven due (Err r) (GivesRequest is_text_of) → request_tag due ≡ None
    by (Ok w) f = absurd f
    by (Err x) f = refl
none_given owner cs p (subject.Proposal k) r h = by (proposal_for cs (callers.Person p.name) k) h
  where
    by : (due : Result ProposalRow Refusal) → IsGiven due (Err r) (GivesProposal is_text_of) → proposal_tag due ≡ None
    by (Ok row) f = absurd f
    by (Err x) f = refl

-- a desk without people knows nobody
unknown : (p : Person) (s : Subject) (r : Refusal) → IsShownTo is_text_of [] [] p (reading_of s) (Err r) → r ≡ refusals.UnknownCaller
unknown p (subject.Request k) r h = h
unknown p (subject.Proposal k) r h = h

-- the reader is a copy of the person, and the reading that of the subject
module _ (person reader : Person) (s : Subject) (reading : Reading) (copied : reader ≡ person) (asks : reading ≡ reading_of s) where
  as_read : (owner : List ℕ) (cs : History) (given : Result (Shown (List ShownRequest)) Refusal)
      → IsShownTo is_text_of owner cs reader reading given → IsShownTo is_text_of owner cs person (reading_of s) given
  as_read owner cs given h =
      subst (λ q. IsShownTo is_text_of owner cs q (reading_of s) given) copied (subst (λ x. IsShownTo is_text_of owner cs reader x given) asks h)

  pub shows_tag : (owner : List ℕ) (cs : History) (given : Shown (List ShownRequest)) → IsShownTo is_text_of owner cs reader reading (Ok given)
      → tag_in given ≡ tag_shown cs person.name s
  shows_tag owner cs given h = given_tag owner cs person s given (as_read owner cs (Ok given) h)

  pub shows_none : (owner : List ℕ) (cs : History) (r : Refusal) → IsShownTo is_text_of owner cs reader reading (Err r)
      → tag_shown cs person.name s ≡ None
  shows_none owner cs r h = none_given owner cs person s r (as_read owner cs (Err r) h)

  -- ---- a desk that has failed

  pub shut_tag : (given : Shown (List ShownRequest)) → IsShut is_text_of reader reading (Ok given) → (cs : History) → tag_in given ≡ tag_shown cs person.name s
  shut_tag given (inl reopen) cs = absurd (let no : ⊥ = cc in no)
  shut_tag given (inr each) cs = shows_tag [] cs given (each [] cs)

  -- a refusal that isn't an outage is due at each history
  pub shut_none : (r : Refusal) (x : Refused) → refused_of r ≡ Some x → IsShut is_text_of reader reading (Err r) → (cs : History) → tag_shown cs person.name s ≡ None
  shut_none r x told (inl reopen) cs =
      let same : r ≡ refusals.Reopen = cc in
      let bad : None ≡ Some x = ap refused_of (sym same) ∙ told in absurd (let no : ⊥ = cc in no)
  shut_none r x told (inr each) cs = shows_none [] cs r (each [] cs)

  -- and an outage is that it must be opened again
  pub shut_outage : (r : Refusal) → refused_of r ≡ None → IsShut is_text_of reader reading (Err r) → r ≡ refusals.Reopen
  shut_outage r untold (inl reopen) = let same : r ≡ refusals.Reopen = cc in same
  shut_outage r untold (inr each) =
      let stranger = unknown person s r (as_read [] [] (Err r) (each [] [])) in
      let bad : refused_of refusals.UnknownCaller ≡ None = ap refused_of (sym stranger) ∙ untold in absurd (let no : ⊥ = cc in no)

some_refused : (r : Refusal) → refused_of r ≢ None → (x : Refused) × (refused_of r ≡ Some x)
some_refused r some = by (refused_of r) refl
  where
    by : (o : Option Refused) → refused_of r ≡ o → (x : Refused) × (refused_of r ≡ Some x)
    by None e = absurd (some e)
    by (Some x) e = (x, e)

-- a refusal of a request isn't an outage
no_outage : (r : Refusal) (o : Outage) → refused_of r ≢ None → r ≢ outage_refusal o
no_outage r outage.NoMemory some e = some (ap refused_of e)
no_outage r outage.Store some e = some (ap refused_of e)
no_outage r outage.Reopen some e = some (ap refused_of e)
no_outage r outage.NotADesk some e = some (ap refused_of e)

-- the outage of a row
store_of : (o : Outage) → outage_refusal o ≡ refusals.Store → o ≡ outage.Store
store_of outage.NoMemory e = absurd (let no : ⊥ = cc in no)
store_of outage.Store e = refl
store_of outage.Reopen e = absurd (let no : ⊥ = cc in no)
store_of outage.NotADesk e = absurd (let no : ⊥ = cc in no)

reopen_of : (o : Outage) → outage_refusal o ≡ refusals.Reopen → o ≡ outage.Reopen
reopen_of outage.NoMemory e = absurd (let no : ⊥ = cc in no)
reopen_of outage.Store e = absurd (let no : ⊥ = cc in no)
reopen_of outage.Reopen e = refl
reopen_of outage.NotADesk e = absurd (let no : ⊥ = cc in no)

-- ---- the result for a reading

abbrev Reads : Type 0
Reads = Result (Shown (List ShownRequest)) Refusal

abbrev Tag : Type 0
Tag = Result (Option (List ℕ)) Outage

-- the store failed, if that is the result
pub told_store : (read : Reads) (tag : Tag) → TellsTag read tag → tag ≡ Err outage.Store → read ≡ Err refusals.Store
told_store (Ok given) (Ok t) told e = absurd (let no : ⊥ = cc in no)
told_store (Ok given) (Err o) told e = absurd (let store : o ≡ outage.Store = cc in let bad : outage.NoMemory ≡ outage.Store = sym told ∙ store in let no : ⊥ = cc in no)
told_store (Err r) (Ok t) told e = absurd (let no : ⊥ = cc in no)
told_store (Err r) (Err o) told e = let store : o ≡ outage.Store = cc in ap Err (sym told.0 ∙ ap outage_refusal store)

-- and the desk has to be opened again, if that is
pub told_reopen : (read : Reads) (tag : Tag) → TellsTag read tag → tag ≡ Err outage.Reopen → read ≡ Err refusals.Reopen
told_reopen (Ok given) (Ok t) told e = absurd (let no : ⊥ = cc in no)
told_reopen (Ok given) (Err o) told e = absurd (let reopen : o ≡ outage.Reopen = cc in let bad : outage.NoMemory ≡ outage.Reopen = sym told ∙ reopen in let no : ⊥ = cc in no)
told_reopen (Err r) (Ok t) told e = absurd (let no : ⊥ = cc in no)
told_reopen (Err r) (Err o) told e = let reopen : o ≡ outage.Reopen = cc in ap Err (sym told.0 ∙ ap outage_refusal reopen)

-- a reading of a store that failed has this result
pub store_told : (read : Reads) (tag : Tag) → TellsTag read tag → read ≡ Err refusals.Store → tag ≡ Err outage.Store
store_told (Ok given) tag told e = absurd (let no : ⊥ = cc in no)
store_told (Err r) (Ok t) told e =
    let store : r ≡ refusals.Store = cc in absurd (told.1 (ap refused_of store))
store_told (Err r) (Err o) told e =
    let store : r ≡ refusals.Store = cc in ap Err (store_of o (told.0 ∙ store))

module _ (person reader : Person) (s : Subject) (reading : Reading) (copied : reader ≡ person) (asks : reading ≡ reading_of s) (read : Reads) (tag : Tag) (told : TellsTag read tag) where
  -- the tag is that of what the person is shown
  pub tells_given : (shows : List ℕ → History → Type 0)
      → IfOk read (λ given. ForEachShown shows (λ owner cs. IsShownTo is_text_of owner cs reader reading (Ok given)))
      → IfErr read (λ r. r ≢ refusals.NoMemory → r ≢ refusals.Store → ForEachShown shows (λ owner cs. IsShownTo is_text_of owner cs reader reading (Err r)))
      → IfOk tag (λ t. ForEachShown shows (λ _ cs. t ≡ tag_shown cs person.name s))
  tells_given shows = by read tag told
    where
      by : (read : Reads) (tag : Tag) → TellsTag read tag
          → IfOk read (λ given. ForEachShown shows (λ owner cs. IsShownTo is_text_of owner cs reader reading (Ok given)))
          → IfErr read (λ r. r ≢ refusals.NoMemory → r ≢ refusals.Store → ForEachShown shows (λ owner cs. IsShownTo is_text_of owner cs reader reading (Err r)))
          → IfOk tag (λ t. ForEachShown shows (λ _ cs. t ≡ tag_shown cs person.name s))
      by read (Err o) told given refused = tt
      by (Ok x) (Ok t) told given refused = λ owner cs was. told ∙ shows_tag person reader s reading copied asks owner cs x (given owner cs was)
      by (Err r) (Ok t) told given refused = λ owner cs was.
          told.0 ∙ sym (shows_none person reader s reading copied asks owner cs r
          (refused (no_outage r outage.NoMemory told.1) (no_outage r outage.Store told.1) owner cs was))

  -- a desk that has failed tells it at most where it is so at any history
  pub tells_shut : IsShut is_text_of reader reading read → IsShutTo tag (λ t. (cs : History) → t ≡ tag_shown cs person.name s)
  tells_shut = by read tag told
    where
      by : (read : Reads) (tag : Tag) → TellsTag read tag → IsShut is_text_of reader reading read → IsShutTo tag (λ t. (cs : History) → t ≡ tag_shown cs person.name s)
      by (Ok x) (Ok t) told shut = λ cs. told ∙ shut_tag person reader s reading copied asks x shut cs
      by (Ok x) (Err o) told shut = inl told
      by (Err r) (Ok t) told shut = λ cs.
          (let refused = some_refused r told.1 in told.0 ∙ sym (shut_none person reader s reading copied asks r refused.0 refused.1 shut cs))
      by (Err r) (Err o) told shut = inr (reopen_of o (told.0 ∙ shut_outage person reader s reading copied asks r told.1 shut))

-- ---- comparing

-- without a tag no command is about something else
pub unsent : (cs : History) (name : List ℕ) (wanted : Option (List ℕ)) (s : Option Subject) → wanted ≡ None → false ≡ is_about_other cs name wanted s
unsent cs name wanted None e = refl
unsent cs name wanted (Some s) e = rw e refl

-- nor is one that is about nothing
pub about_nothing : (cs : History) (name : List ℕ) (wanted : Option (List ℕ)) (s : Option Subject) → s ≡ None → false ≡ is_about_other cs name wanted s
about_nothing cs name wanted s e = rw e refl

-- the result for the tag that is shown
module _ (call : TaskAsked) (tag : List ℕ) (s : Subject) (sent : call.tag ≡ Some tag) (about : subject_of call.task ≡ Some s) where
  -- what is shown has another tag, or not
  compared : (cs : History) (given : Option (List ℕ)) → given ≡ tag_shown cs call.person.name s → is_other (Some tag) given ≡ is_mismatch cs call
  compared cs given e =
      ap (is_other (Some tag)) e
      ∙ sym (ap (λ o. is_about_other cs call.person.name o (subject_of call.task)) sent ∙ ap (is_about_other cs call.person.name (Some tag)) about)

  pub differs_given : (shows : List ℕ → History → Type 0) (shown : Tag) (result : Result Bool Outage) → result ≡ differs_from tag shown
      → IfOk shown (λ t. ForEachShown shows (λ _ cs. t ≡ tag_shown cs call.person.name s))
      → IfOk result (λ b. ForEachShown shows (λ _ cs. b ≡ is_mismatch cs call))
  differs_given shows shown result e given = subst (λ r. IfOk r (λ b. ForEachShown shows (λ _ cs. b ≡ is_mismatch cs call))) (sym e) (by shown given)
    where
      by : (shown : Tag) → IfOk shown (λ t. ForEachShown shows (λ _ cs. t ≡ tag_shown cs call.person.name s))
          → IfOk (differs_from tag shown) (λ b. ForEachShown shows (λ _ cs. b ≡ is_mismatch cs call))
      by (Ok t) f = λ owner cs was. compared cs t (f owner cs was)
      by (Err o) f = tt

  pub differs_shut : (shown : Tag) (result : Result Bool Outage) → result ≡ differs_from tag shown
      → IsShutTo shown (λ t. (cs : History) → t ≡ tag_shown cs call.person.name s) → IsShutTo result (λ b. (cs : History) → b ≡ is_mismatch cs call)
  differs_shut shown result e shut = subst (λ r. IsShutTo r (λ b. (cs : History) → b ≡ is_mismatch cs call)) (sym e) (by shown shut)
    where
      by : (shown : Tag) → IsShutTo shown (λ t. (cs : History) → t ≡ tag_shown cs call.person.name s)
          → IsShutTo (differs_from tag shown) (λ b. (cs : History) → b ≡ is_mismatch cs call)
      by (Ok t) f = λ cs. compared cs t (f cs)
      by (Err o) f = f

-- both results say the same outage
pub differs_outage : (tag : List ℕ) (shown : Tag) (result : Result Bool Outage) (o : Outage) → result ≡ differs_from tag shown → result ≡ Err o → shown ≡ Err o
differs_outage tag shown result o e is = by shown (sym e ∙ is)
  where
    by : (shown : Tag) → differs_from tag shown ≡ Err o → shown ≡ Err o
    by (Ok t) f = absurd (let no : ⊥ = cc in no)
    by (Err x) f = let same : x ≡ o = cc in ap Err same

pub outage_differs : (tag : List ℕ) (shown : Tag) (result : Result Bool Outage) (o : Outage) → result ≡ differs_from tag shown → shown ≡ Err o → result ≡ Err o
outage_differs tag shown result o e is = e ∙ ap (differs_from tag) is

-- ---- answers

-- a task whose subject hasn't another tag gets its own answer
pub serves_task : (after : History → Type 0) (failed : Type 0) (owner : List ℕ) (cs : History) (p : Person) (t : Task) (other : Bool) (a : TaskAnswer)
    → false ≡ other → Serves after failed cs (AnswersTask owner cs p t) a → Serves after failed cs (AnswersUnless other owner cs p t) a
serves_task after failed owner cs p t other a e h =
    subst (λ b. Serves after failed cs (AnswersUnless b owner cs p t) a) e h

-- the one of a task whose subject has another tag is its refusal
pub serves_mismatch : (after : History → Type 0) (failed : Type 0) (owner : List ℕ) (cs : History) (p : Person) (t : Task) (other : Bool)
    → true ≡ other → after cs → Serves after failed cs (AnswersUnless other owner cs p t) (answer.Refused refused.Mismatch)
serves_mismatch after failed owner cs p t other e still =
    subst (λ b. Serves after failed cs (AnswersUnless b owner cs p t) (answer.Refused refused.Mismatch)) e (inl (cs, (refl, refl), still))

-- an outage of a desk that was usable
pub serves_outage : (after : History → Type 0) (failed : Type 0) (cs : History) (due : TaskAnswer → History → Type 0) (o : Outage)
    → o ≢ outage.Reopen → o ≢ outage.NotADesk → (o ≢ outage.Store → after cs) → (o ≡ outage.Store → failed)
    → Serves after failed cs due (answer.Unavailable o)
serves_outage after failed cs due outage.NoMemory reopen no_desk same fails = inr (inl (refl, same (λ e. let no : ⊥ = cc in no)))
serves_outage after failed cs due outage.Store reopen no_desk same fails = inr (inr (refl, fails refl))
serves_outage after failed cs due outage.Reopen reopen no_desk same fails = absurd (reopen refl)
serves_outage after failed cs due outage.NotADesk reopen no_desk same fails = absurd (no_desk refl)

-- ---- answers of a desk that has failed

pub shut_task : (p : Person) (t : Task) (other : History → Bool) (a : TaskAnswer) → ((cs : History) → false ≡ other cs)
    → IsClosed (λ owner cs. AnswersTask owner cs p t) a → IsClosed (λ owner cs. AnswersUnless (other cs) owner cs p t) a
shut_task p t other a e (inl reopen) = inl reopen
shut_task p t other a e (inr (inl memory)) = inr (inl memory)
shut_task p t other a e (inr (inr each)) = inr (inr (λ owner cs. subst (λ b. AnswersUnless b owner cs p t a cs) (e cs) (each owner cs)))

pub shut_mismatch : (p : Person) (t : Task) (other : History → Bool) → ((cs : History) → true ≡ other cs)
    → IsClosed (λ owner cs. AnswersUnless (other cs) owner cs p t) (answer.Refused refused.Mismatch)
shut_mismatch p t other e =
    inr (inr (λ owner cs. subst (λ b. AnswersUnless b owner cs p t (answer.Refused refused.Mismatch) cs) (e cs) (refl, refl)))

pub shut_outage_told : (due : List ℕ → History → TaskAnswer → History → Type 0) (o : Outage) → (o ≡ outage.NoMemory) ⊎ (o ≡ outage.Reopen)
    → IsClosed due (answer.Unavailable o)
shut_outage_told due o (inl memory) = inr (inl (ap answer.Unavailable memory))
shut_outage_told due o (inr reopen) = inl (ap answer.Unavailable reopen)
