-- Laws of answers.
use Rattle.std.proofs.Common.{◌≡◌, ◌≢◌, ◌∙◌, ℕ, Bool, List, Option, Some, None, Result, Ok, Err, true, false, refl, sym, ap, subst}
use Rattle.std.specs.Prelude.{if◌then◌else◌, is_some, ok_or, option_map}
use Rattle.std.specs.Result.{result_map_both}
use Rattle.base.specs.declared.refusal.Refusal.{Refusal}
use Rattle.base.specs.declared.refusal.Refusal.TheVariants as refusals
use Rattle.desk_types.specs.Naming.{subject_named}
use Rattle.desk_types.specs.declared.caller.Caller.TheVariants as callers
use Rattle.desk_types.specs.declared.command.Call.{Call as Ruled}
use Rattle.desk_types.specs.declared.command.Command.{Command}
use Rattle.desk_types.specs.declared.command.Command.TheVariants as command
use Rattle.desk_types.specs.declared.command.Person.{Person}
use Rattle.desk_types.specs.declared.role.Role.TheVariants as roles
use Rattle.desk_history.specs.Calls.{History, item}
use Rattle.desk_exports.specs.DigestSearch.{first_with}
use Rattle.desk_exports.specs.ListParts.{part_from, request_number}
use Rattle.desk_history.specs.People.{person}
use Rattle.desk_history.specs.ProposalShown.{proposal_shown, shown_to_officer}
use Rattle.desk_history.specs.Roles.{is_officer}
use Rattle.desk_history.specs.Runs.{answer, is_accepted, next}
use Rattle.desk_history.specs.Shown.{IsGiven, TellAlike, officer, role_of}
use Rattle.desk_history.specs.declared.answer.Answer as ruling
use Rattle.desk_history.specs.declared.answer.Answer.TheVariants as ruled
use Rattle.desk_history.proofs.ClosingLemmas.{no_some, some_same}
use Rattle.desk_history.proofs.RunLemmas.{accepted_parts}
use Rattle.desk_history.proofs.ShownLemmas.{submitters_see_own}
use Rattle.desk_exports.specs.Readings.{GivesChanges, GivesRequest, GivesRequests}
use Rattle.http_requests.specs.declared.ask.ImageAsked.{ImageAsked}
use Rattle.http_requests.specs.declared.ask.ImageAsked.TheVariants as asked
use Rattle.http_responses.specs.declared.refused.Refused.{Refused}
use Rattle.http_calls.specs.Answers.{AnswersCall, AnswersImage, AnswersTask, AnswersUnless, GivesNothing, IsRuled, IsTaken, call_of}
use Rattle.http_calls.specs.Bodies.{ReadsImage}
use Rattle.http_calls.specs.Desks.{is_text_of}
use Rattle.http_calls.specs.Laws.{MatchedAreAboutTheirTag, RefusalsChangeNothing, RepeatsMatch, ShownTagsStay, SubmittersAreAnsweredByOwn, TagsStay}
use Rattle.http_calls.specs.Tags.{is_about_other, is_mismatch, is_other, proposal_tag, request_tag, subject_of, tag_shown}
use Rattle.http_calls.specs.declared.answers.TaskAnswer.{TaskAnswer}
use Rattle.http_calls.specs.declared.call.TaskAsked.{TaskAsked}
use Rattle.http_calls.specs.declared.call.Task.{Task}
use Rattle.http_calls.specs.declared.call.Task.TheVariants as task
use Rattle.desk_types.specs.declared.naming.Subject.{Subject}
use Rattle.desk_types.specs.declared.naming.Subject.TheVariants as subject
use Rattle.http_calls.proofs.OwnLemmas.{changes_alike, waiting_alike}
use Rattle.http_calls.proofs.TagLemmas as tags

refused_by_rules : (said : ruling.Answer) (a : TaskAnswer) → GivesNothing a → IsRuled said a → is_accepted said ≡ false
refused_by_rules (ruled.Accepted reply) a nothing h = absurd (subst GivesNothing h nothing)
refused_by_rules (ruled.Repeated reply) a nothing h = refl
refused_by_rules (ruled.Refused refusal) a nothing h = refl

taken_same : (cs : History) (name key : List ℕ) (read : Result Command Refused) (a : TaskAnswer) (later : History)
    → GivesNothing a → IsTaken cs name key read a later → later ≡ cs
taken_same cs name key (Err refused) a later nothing h = h.1
taken_same cs name key (Ok command) a later nothing h = h.1 ∙ rw (refused_by_rules _ a nothing h.0) refl

image_same : (cs : History) (name : List ℕ) (with : ImageAsked) (image : List ℕ) (a : TaskAnswer) (later : History)
    → GivesNothing a → AnswersImage cs name with image a later → later ≡ cs
image_same cs name (asked.Submit key title) image a later nothing h = taken_same cs name key h.0 a later nothing h.2
image_same cs name (asked.Return key number) image a later nothing h = taken_same cs name key h.0 a later nothing h.2
image_same cs name asked.Verdict image a later nothing h = h.1
image_same cs name asked.Facts image a later nothing h = h.1

same : (owner : List ℕ) (cs : History) (p : Person) (t : Task) (a : TaskAnswer) (later : History)
    → GivesNothing a → AnswersTask owner cs p t a later → later ≡ cs
same owner cs p (task.Read reading) a later nothing h = h.1
same owner cs p (task.Image with image) a later nothing h = image_same cs p.name with image a later nothing h
same owner cs p (task.Command key command) a later nothing h = taken_same cs p.name key (Ok command) a later nothing h
same owner cs p (task.Bytes key format bytes) a later nothing h = taken_same cs p.name key h.0 a later nothing h.2

unless : (b : Bool) (owner : List ℕ) (cs : History) (p : Person) (t : Task) (a : TaskAnswer) (later : History)
    → GivesNothing a → AnswersUnless b owner cs p t a later → later ≡ cs
unless true owner cs p t a later nothing h = h.1
unless false owner cs p t a later nothing h = same owner cs p t a later nothing h

pub refusals_change_nothing : RefusalsChangeNothing
refusals_change_nothing owner cs call a later nothing h = unless (is_mismatch cs call) owner cs call.person call.task a later nothing h

-- a submitter is shown no proposal
none_proposed : (cs : History) (name : List ℕ) (k : ℕ) → role_of cs name ≡ Some roles.Submitter → tag_shown cs name (subject.Proposal k) ≡ None
none_proposed cs name k is = by (person cs name) is
  where
    by : (o : Option Person) → option_map (λ (p : Person). p.role) o ≡ Some roles.Submitter
        → proposal_tag (shown_to_officer (proposal_shown cs k) (officer (ok_or o refusals.UnknownCaller))) ≡ None
    by None e = no_some roles.Submitter e
    by (Some p) e =
        let role : p.role ≡ roles.Submitter = some_same p.role roles.Submitter e in
        ap (λ r. proposal_tag (shown_to_officer (proposal_shown cs k) (if is_officer r then Ok p else Err refusals.NotYourRole))) role

module _ (one other : History) (name : List ℕ) (first : role_of one name ≡ Some roles.Submitter) (second : role_of other name ≡ Some roles.Submitter) (told : TellAlike one other (callers.Person name)) where
  tags_alike : (s : Subject) → tag_shown one name s ≡ tag_shown other name s
  tags_alike (subject.Request k) = ap request_tag (told.each k)
  tags_alike (subject.Proposal k) = none_proposed one name k first ∙ sym (none_proposed other name k second)

  mismatches_alike : (wanted : Option (List ℕ)) (s : Option Subject) → is_about_other one name wanted s ≡ is_about_other other name wanted s
  mismatches_alike wanted None = refl
  mismatches_alike wanted (Some s) = ap (is_other wanted) (tags_alike s)

pub submitters_are_answered_by_own : SubmittersAreAnsweredByOwn
submitters_are_answered_by_own one other p first second alike =
    let told = submitters_see_own one other p.name first second alike in
    record {
      tags = λ call is.
          subst (λ (n : List ℕ). is_about_other one n call.tag (subject_of call.task) ≡ is_about_other other n call.tag (subject_of call.task))
          (ap (λ (q : Person). q.name) (sym is)) (mismatches_alike one other p.name first second told call.tag (subject_of call.task));
      each = λ here there k a later h. ((h.0.0, subst (λ r. IsGiven r h.0.0 (GivesRequest is_text_of)) (told.each k) h.0.1, h.0.2), refl);
      all = λ here there a later h. ((h.0.0, subst (λ r. IsGiven r h.0.0 (GivesRequests is_text_of)) told.all h.0.1, h.0.2), refl);
      parts = λ here there n a later h.
          ((h.0.0, subst (λ r. IsGiven (result_map_both (part_from request_number n) (λ (refusal : Refusal). refusal) r) h.0.0 (GivesRequests is_text_of)) told.all h.0.1, h.0.2), refl);
      found = λ here there digest a later h.
          ((h.0.0, subst (λ r. IsGiven (result_map_both (first_with digest) (λ (refusal : Refusal). refusal) r) h.0.0 (GivesRequests is_text_of)) told.all h.0.1, h.0.2), refl);
      waiting = λ here there a later h. ((h.0.0, waiting_alike one other p.name first second told.all h.0.0 h.0.1, h.0.2), refl);
      changes = λ here there a later h.
          ((h.0.0, subst (λ r. IsGiven r h.0.0 (GivesChanges is_text_of)) (changes_alike one other p.name first second told.all) h.0.1, h.0.2), refl);
    }

-- ---- tags

pub tags_stay : TagsStay
tags_stay = tags.tags_stay

pub shown_tags_stay : ShownTagsStay
shown_tags_stay earlier later name s t legal more e =
    (tags.shown_tag_is earlier name s t e, tags.shown_tags_stay earlier later name s t legal more e)

-- a call after which the history is another one was accepted
accepted : (cs : History) (c : Ruled) → next cs c ≢ cs → is_accepted (answer cs c) ≡ true
accepted cs c changed =
    elim (is_accepted (answer cs c)) as (λ b. is_accepted (answer cs c) ≡ b → b ≡ true) [
      | true ↦ λ e. refl
      | false ↦ λ e. absurd (changed (rw e refl))
    ] refl

-- what a command that was accepted is about is shown to its caller
module _ (cs : History) (name key : List ℕ) (later : History) (changed : later ≢ cs) where
  taken_shown : (read : Result Command Refused) (a : TaskAnswer) (s : Subject) → ((given : Command) → read ≡ Ok given → subject_named given ≡ Some s)
      → IsTaken cs name key read a later → is_some (tag_shown cs name s) ≡ true
  taken_shown (Err refused) a s names h = absurd (changed h.1)
  taken_shown (Ok given) a s names h =
      let new = accepted_parts cs (item (call_of name key given)) (accepted cs (call_of name key given) (λ e. changed (h.1 ∙ e))) in
      tags.given_is_shown cs name given s (names given refl) new.allowed new.own

  returned_shown : (k : ℕ) (image : List ℕ) (read : Result Command Refused) (a : TaskAnswer) → ReadsImage (λ x. command.Return (record { request = k; facts = x })) image read
      → IsTaken cs name key read a later → is_some (tag_shown cs name (subject.Request k)) ≡ true
  returned_shown k image read a reads h = taken_shown read a (subject.Request k) (λ given is. by read given reads is) h
    where
      by : (read : Result Command Refused) (given : Command) → ReadsImage (λ x. command.Return (record { request = k; facts = x })) image read → read ≡ Ok given
          → subject_named given ≡ Some (subject.Request k)
      by (Err refused) given reads is = absurd (let no : ⊥ = cc in no)
      by (Ok found) given reads is = ap subject_named (sym (let same : found ≡ given = cc in same)) ∙ ap subject_named reads.2

task_shown : (owner : List ℕ) (cs : History) (p : Person) (t : Task) (a : TaskAnswer) (later : History) (s : Subject) → later ≢ cs → subject_of t ≡ Some s
    → AnswersTask owner cs p t a later → is_some (tag_shown cs p.name s) ≡ true
task_shown owner cs p (task.Read reading) a later s changed is h = no_some s is
task_shown owner cs p (task.Image (asked.Submit key title) image) a later s changed is h = no_some s is
task_shown owner cs p (task.Image (asked.Return key k) image) a later s changed is h =
    subst (λ x. is_some (tag_shown cs p.name x) ≡ true) (some_same (subject.Request k) s is) (returned_shown cs p.name key later changed k image h.0 a h.1 h.2)
task_shown owner cs p (task.Image asked.Verdict image) a later s changed is h = no_some s is
task_shown owner cs p (task.Image asked.Facts image) a later s changed is h = no_some s is
task_shown owner cs p (task.Command key given) a later s changed is h =
    taken_shown cs p.name key later changed (Ok given) a s (λ other e. ap subject_named (sym (let same : given ≡ other = cc in same)) ∙ is) h
task_shown owner cs p (task.Bytes key format bytes) a later s changed is h = no_some s is

-- the tag that its caller sent is shown
matched : (owner : List ℕ) (cs : History) (p : Person) (wanted : List ℕ) (t : Task) (s : Subject) (a : TaskAnswer) (later : History) (b : Bool)
    → is_about_other cs p.name (Some wanted) (subject_of t) ≡ b → subject_of t ≡ Some s → AnswersUnless b owner cs p t a later → later ≢ cs
    → tag_shown cs p.name s ≡ Some wanted
matched owner cs p wanted t s a later true other is h changed = absurd (changed h.1)
matched owner cs p wanted t s a later false other is h changed =
    tags.wanted_is_shown wanted (tag_shown cs p.name s) (ap (is_about_other cs p.name (Some wanted)) (sym is) ∙ other)
    (task_shown owner cs p t a later s changed is h)

-- the same of a call
shown_matched : (owner : List ℕ) (cs : History) (call : TaskAsked) (t : List ℕ) (s : Subject) (a : TaskAnswer) (later : History)
    → call.tag ≡ Some t → subject_of call.task ≡ Some s → AnswersCall owner cs call a later → later ≢ cs → tag_shown cs call.person.name s ≡ Some t
shown_matched owner cs call t s a later sent is h changed =
    matched owner cs call.person t call.task s a later (is_mismatch cs call) (ap (λ o. is_about_other cs call.person.name o (subject_of call.task)) (sym sent)) is h changed

pub matched_commands_are_about_their_tag : MatchedAreAboutTheirTag
matched_commands_are_about_their_tag owner cs call t s a later sent is h changed =
    tags.shown_tag_is cs call.person.name s t (shown_matched owner cs call t s a later sent is h changed)

pub repeats_match : RepeatsMatch
repeats_match owner cs more call a later h changed legal goes = by call.tag (subject_of call.task) refl refl
  where
    by : (o : Option (List ℕ)) (s : Option Subject) → call.tag ≡ o → subject_of call.task ≡ s → is_about_other more call.person.name o s ≡ false
    by o None sent is = refl
    by None (Some s) sent is = refl
    by (Some t) (Some s) sent is =
        tags.itself t (tag_shown more call.person.name s)
        (tags.shown_tags_stay cs more call.person.name s t legal goes (shown_matched owner cs call t s a later sent is h changed))
