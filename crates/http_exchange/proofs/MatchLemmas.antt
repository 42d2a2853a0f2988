-- Inputs with a tag: what their calls are about.
use Rattle.std.proofs.Common.{◌≡◌, ◌≢◌, ◌∙◌, ℕ, List, Option, Some, None, Result, Ok, Err, refl, sym, ap, subst, inl, inr}
use Rattle.std.specs.Prelude.{codes, option_and_then, option_map}
use Rattle.serde_json.specs.Data.{Data}
use Rattle.desk_history.specs.Calls.{History}
use Rattle.desk_types.specs.Naming.{subject_named}
use Rattle.desk_types.specs.declared.command.Ballot.{Ballot}
use Rattle.desk_types.specs.declared.command.Command as texts
use Rattle.desk_types.specs.declared.command.Command.TheVariants as given
use Rattle.desk_types.specs.declared.command.Explanation.{Explanation}
use Rattle.desk_types.specs.declared.command.Person.{Person}
use Rattle.desk_types.specs.declared.vote.Vote.{Vote}
use Rattle.http_requests.specs.Asked.{image_at, key_in, keyed, keyed_at, number_in, numbered, of_proposal, with_image as keyed_image}
use Rattle.http_requests.specs.Tags.{tag_at}
use Rattle.http_requests.specs.CheckedHead.{Want}
use Rattle.http_requests.specs.bodies.Bodies.{data_of, explanation_by, explanation_in, explanation_of, review_by, review_from, review_in, review_of}
use Rattle.http_requests.specs.bodies.Forms.{note_in, reason_in, vote_in}
use Rattle.http_requests.specs.bodies.Members.{one_of, two_of}
use Rattle.http_requests.specs.declared.ask.CommandAsked.TheVariants.{Whole, Json}
use Rattle.http_requests.specs.declared.ask.ImageAsked.{ImageAsked}
use Rattle.http_requests.specs.declared.ask.ImageAsked.TheVariants as asked
use Rattle.http_requests.specs.declared.ask.JsonAsked.{JsonAsked}
use Rattle.http_requests.specs.declared.ask.JsonAsked.TheVariants as json
use Rattle.http_requests.specs.declared.ask.KeyedCommand.{KeyedCommand}
use Rattle.http_requests.specs.declared.fault.AskedFault.{AskedFault}
use Rattle.http_requests.specs.declared.fault.AskedFault.TheVariants.{NoSuchProposal, NoSuchRequest}
use Rattle.http_requests.specs.declared.route.CommandRoute.TheVariants as command
use Rattle.http_requests.specs.declared.route.ImageRoute.TheVariants as image
use Rattle.http_requests.specs.declared.route.PostRoute.{PostRoute}
use Rattle.http_requests.specs.declared.route.PostRoute.TheVariants.{Image, Command}
use Rattle.http_requests.specs.declared.route.Route.TheVariants.{Post}
use Rattle.http_responses.specs.declared.refused.Refused.{Refused}
use Rattle.http_calls.specs.Tags.{returned_for, subject_of}
use Rattle.http_calls.specs.declared.answers.TaskAnswer.{TaskAnswer}
use Rattle.http_calls.specs.declared.call.TaskAsked.{TaskAsked}
use Rattle.http_calls.specs.declared.call.Task.{Task}
use Rattle.http_calls.specs.declared.call.Task.TheVariants as task
use Rattle.desk_types.specs.declared.naming.Subject.{Subject}
use Rattle.desk_types.specs.declared.naming.Subject.TheVariants as subject
use Rattle.http_calls.proofs.LawLemmas.{matched_commands_are_about_their_tag}
use Rattle.http_exchange.specs.Asked.{Asks, CallOrRefusal, caller_of, called_by, of_caller, of_head, of_route, tagged, tagged_body, with_body, with_image}
use Rattle.http_exchange.specs.Bodies.{body_in}
use Rattle.http_exchange.specs.Matching.{HasTag, IsAboutTag, MatchedInputsAreAboutTheirTag, numbered_by, subject_at}
use Rattle.http_exchange.specs.Serving.{AnswersDue}
use Rattle.http_exchange.specs.Tasks.{command_in, task_of}
use Rattle.http_exchange.proofs.InputLemmas.{heads_ask_alike}

no_ok : {A : Type 0} (r : Refused) (call : TaskAsked) → Err r ≡ Ok call → A
no_ok r call e = absurd (let no : ⊥ = cc in no)

no_fault : {X A : Type 0} (f : AskedFault) (x : X) → Err f ≡ Ok x → A
no_fault f x e = absurd (let no : ⊥ = cc in no)

-- what is asked for, without a fault
abbrev asks : {X : Type 0} → X → Result X AskedFault
asks x = Ok x

no_tag : {A : Type 0} (t : List ℕ) → asks {X = Option (List ℕ)} None ≡ Ok (Some t) → A
no_tag t e = absurd (let no : ⊥ = cc in no)

same_some : {X : Type 0} (x y : X) → Some x ≡ Some y → x ≡ y
same_some x y e = cc

none_some : {X A : Type 0} (x : X) → None ≡ Some x → A
none_some x e = absurd (let no : ⊥ = cc in no)

same_ok : {X : Type 0} (x y : X) → asks x ≡ Ok y → x ≡ y
same_ok x y e = cc

-- the call that is due
abbrev due_as : TaskAsked → CallOrRefusal
due_as call = Ok call

same_call : (x y : TaskAsked) → due_as x ≡ Ok y → x ≡ y
same_call x y e = cc

-- ---- the tasks of commands

-- a task is about the request or the proposal of this number
abbrev IsOf : (ℕ → Subject) → Option ℕ → Task → Type 0
IsOf makes number t = (k : ℕ) × (number ≡ Some k) × (subject_of t ≡ Some (makes k))

-- an image that is returned
returned : (key : Option (List ℕ)) (number : Option ℕ) (x : ImageAsked) (bytes : List ℕ)
    → keyed_image key (λ key. numbered number (λ n. asked.Return key n)) ≡ Ok x → IsOf subject.Request number (task.Image x bytes)
returned None number x bytes e = no_fault _ x e
returned (Some key) None x bytes e = no_fault NoSuchRequest x e
returned (Some key) (Some k) x bytes e = (k, refl, ap returned_for (sym (same_ok (asked.Return key k) x e)))

-- a review is of its request
reviewed : (k : ℕ) (body : List ℕ) (b : Ballot) → review_of k body ≡ Some b → b.request ≡ k
reviewed k body b e = by (data_of body) e
  where
    parts : (note : Option (List ℕ)) (vote : Option Vote) → review_by k note vote ≡ Some b → b.request ≡ k
    parts (Some note) (Some vote) f = ap (λ (x : Ballot). x.request) (sym (same_some (record { request = k; vote = vote; note = note }) b f))
    parts (Some note) None f = none_some b f
    parts None (Some vote) f = none_some b f
    parts None None f = none_some b f

    values : (o : Option (Data × Data)) → review_from k o ≡ Some b → b.request ≡ k
    values None f = none_some b f
    values (Some v) f = parts (note_in v.0) (vote_in v.1) f

    by : (d : Option Data) → option_and_then (review_in k) d ≡ Some b → b.request ≡ k
    by None f = none_some b f
    by (Some d) f = values (two_of (codes "note") (codes "vote") d) f

-- an explanation is of its proposal
explained : (k : ℕ) (body : List ℕ) (x : Explanation) → explanation_of k body ≡ Some x → x.proposal ≡ k
explained k body x e = by (data_of body) e
  where
    parts : (reason : Option (List ℕ)) → explanation_by k reason ≡ Some x → x.proposal ≡ k
    parts (Some reason) f = ap (λ (y : Explanation). y.proposal) (sym (same_some (record { proposal = k; reason = reason }) x f))
    parts None f = none_some x f

    by : (d : Option Data) → option_and_then (explanation_in k) d ≡ Some x → x.proposal ≡ k
    by None f = none_some x f
    by (Some d) f = parts (option_and_then reason_in (one_of (codes "text") d)) f

-- a command with a JSON body, which says the rest of it
module _ {X : Type 0} (ask : ℕ → JsonAsked) (said : ℕ → List ℕ → Option X) (makes : X → texts.Command) (about : ℕ → Subject)
    (says : (k : ℕ) (body : List ℕ) → command_in (ask k) body ≡ option_map makes (said k body))
    (names : (k : ℕ) (body : List ℕ) (x : X) → said k body ≡ Some x → subject_named (makes x) ≡ Some (about k)) where
  json_task : (key : List ℕ) (k : ℕ) (body : List ℕ) (t : Task) → task_of key (Json (ask k)) body ≡ Some t → subject_of t ≡ Some (about k)
  json_task key k body t e = by (said k body) refl (sym (ap (option_map (λ given. task.Command key given)) (says k body)) ∙ e)
    where
      by : (o : Option X) → said k body ≡ o → option_map (λ given. task.Command key given) (option_map makes o) ≡ Some t → subject_of t ≡ Some (about k)
      by None is f = none_some t f
      by (Some x) is f = ap subject_of (sym (same_some (task.Command key (makes x)) t f)) ∙ names k body x is

  keyed_task : (key : List ℕ) (k : ℕ) (x : KeyedCommand) (body : List ℕ) (t : Task)
      → asks (record { key = key; asked = Json (ask k) }) ≡ Ok x → task_of x.key x.asked body ≡ Some t → subject_of t ≡ Some (about k)
  keyed_task key k x body t e f =
      json_task key k body t (subst (λ (y : KeyedCommand). task_of y.key y.asked body ≡ Some t) (sym (same_ok (record { key = key; asked = Json (ask k) }) x e)) f)

  says_of_a_request : (key : Option (List ℕ)) (number : Option ℕ) (x : KeyedCommand) (body : List ℕ) (t : Task)
      → keyed key (numbered number (λ n. Json (ask n))) ≡ Ok x → task_of x.key x.asked body ≡ Some t → IsOf about number t
  says_of_a_request None number x body t e f = no_fault _ x e
  says_of_a_request (Some key) None x body t e f = no_fault NoSuchRequest x e
  says_of_a_request (Some key) (Some k) x body t e f = (k, refl, keyed_task key k x body t e f)

  says_of_a_proposal : (key : Option (List ℕ)) (number : Option ℕ) (x : KeyedCommand) (body : List ℕ) (t : Task)
      → keyed key (of_proposal number (λ n. Json (ask n))) ≡ Ok x → task_of x.key x.asked body ≡ Some t → IsOf about number t
  says_of_a_proposal None number x body t e f = no_fault _ x e
  says_of_a_proposal (Some key) None x body t e f = no_fault NoSuchProposal x e
  says_of_a_proposal (Some key) (Some k) x body t e f = (k, refl, keyed_task key k x body t e f)

reviews : (key : Option (List ℕ)) (number : Option ℕ) (x : KeyedCommand) (body : List ℕ) (t : Task)
    → keyed key (numbered number (λ n. Json (json.Review n))) ≡ Ok x → task_of x.key x.asked body ≡ Some t → IsOf subject.Request number t
reviews = says_of_a_request json.Review review_of given.Review subject.Request (λ k body. refl) (λ k body b is. ap (λ n. Some (subject.Request n)) (reviewed k body b is))

explains : (key : Option (List ℕ)) (number : Option ℕ) (x : KeyedCommand) (body : List ℕ) (t : Task)
    → keyed key (of_proposal number (λ n. Json (json.Explain n))) ≡ Ok x → task_of x.key x.asked body ≡ Some t → IsOf subject.Proposal number t
explains = says_of_a_proposal json.Explain explanation_of given.Explain subject.Proposal (λ k body. refl) (λ k body x is. ap (λ n. Some (subject.Proposal n)) (explained k body x is))

-- a command without a body
module _ (makes : ℕ → texts.Command) (about : ℕ → Subject) (names : (k : ℕ) → subject_named (makes k) ≡ Some (about k)) where
  whole_task : (key : List ℕ) (k : ℕ) (x : KeyedCommand) (body : List ℕ) (t : Task)
      → asks (record { key = key; asked = Whole (makes k) }) ≡ Ok x → task_of x.key x.asked body ≡ Some t → subject_of t ≡ Some (about k)
  whole_task key k x body t e f =
      let same : Some (task.Command key (makes k)) ≡ Some t =
      subst (λ (y : KeyedCommand). task_of y.key y.asked body ≡ Some t) (sym (same_ok (record { key = key; asked = Whole (makes k) }) x e)) f in
      ap subject_of (sym (same_some (task.Command key (makes k)) t same)) ∙ names k

  of_a_request : (key : Option (List ℕ)) (number : Option ℕ) (x : KeyedCommand) (body : List ℕ) (t : Task)
      → keyed key (numbered number (λ n. Whole (makes n))) ≡ Ok x → task_of x.key x.asked body ≡ Some t → IsOf about number t
  of_a_request None number x body t e f = no_fault _ x e
  of_a_request (Some key) None x body t e f = no_fault NoSuchRequest x e
  of_a_request (Some key) (Some k) x body t e f = (k, refl, whole_task key k x body t e f)

  of_a_proposal : (key : Option (List ℕ)) (number : Option ℕ) (x : KeyedCommand) (body : List ℕ) (t : Task)
      → keyed key (of_proposal number (λ n. Whole (makes n))) ≡ Ok x → task_of x.key x.asked body ≡ Some t → IsOf about number t
  of_a_proposal None number x body t e f = no_fault _ x e
  of_a_proposal (Some key) None x body t e f = no_fault NoSuchProposal x e
  of_a_proposal (Some key) (Some k) x body t e f = (k, refl, whole_task key k x body t e f)

-- ---- calls

-- a call with this tag, and what it is about
record IsFor (w : Want) (route : PostRoute) (t : List ℕ) (call : TaskAsked) : Type 0 where
  sent : call.tag ≡ Some t
  about : Subject
  by_target : subject_at route w ≡ Some about
  by_task : subject_of call.task ≡ Some about

module _ (p : Person) (t : List ℕ) (call : TaskAsked) where
  abbrev calls : Task → TaskAsked
  calls x = record { person = p; tag = Some t; task = x }

  image_call : (given : Result ImageAsked AskedFault) (tag : Result (Option (List ℕ)) AskedFault) (bytes : Option (List ℕ)) → tag ≡ Ok (Some t)
      → with_image p given tag bytes ≡ Ok call → (x : ImageAsked) × (b : List ℕ) × (given ≡ Ok x) × (calls (task.Image x b) ≡ call)
  image_call given tag None is e = no_ok _ call e
  image_call (Err f) tag (Some b) is e = no_ok _ call e
  image_call (Ok x) tag (Some b) is e =
      (x, b, refl, same_call (calls (task.Image x b)) call (ap (λ o. tagged p o (task.Image x b)) (sym is) ∙ e))

  command_call : (given : Result KeyedCommand AskedFault) (tag : Result (Option (List ℕ)) AskedFault) (bytes : Option (List ℕ)) → tag ≡ Ok (Some t)
      → with_body p given tag bytes ≡ Ok call
      → (x : KeyedCommand) × (b : List ℕ) × (y : Task) × (given ≡ Ok x) × (task_of x.key x.asked b ≡ Some y) × (calls y ≡ call)
  command_call given tag None is e = no_ok _ call e
  command_call (Err f) tag (Some b) is e = no_ok _ call e
  command_call (Ok x) tag (Some b) is e = by (task_of x.key x.asked b) refl (ap (λ o. tagged_body p o (task_of x.key x.asked b)) (sym is) ∙ e)
    where
      by : (o : Option Task) → task_of x.key x.asked b ≡ o → called_by p (Some t) o ≡ Ok call
          → (z : KeyedCommand) × (b : List ℕ) × (y : Task) × (asks x ≡ Ok z) × (task_of z.key z.asked b ≡ Some y) × (calls y ≡ call)
      by None same f = no_ok _ call f
      by (Some y) same f = (x, b, y, refl, same, same_call (calls y) call f)

-- the subject that the number in the target gives
module _ (w : Want) (route : PostRoute) (t : List ℕ) (p : Person) (makes : ℕ → Subject) (by_number : (k : ℕ) → numbered_by route k ≡ Some (makes k)) where
  is_for : (y : Task) (call : TaskAsked) → calls p t call y ≡ call → IsOf makes (number_in w) y → IsFor w route t call
  is_for y call same is = subst (IsFor w route t) same (record {
    sent = refl;
    about = makes is.0;
    by_target = ap (option_and_then (numbered_by route)) is.1 ∙ by_number is.0;
    by_task = is.2;
  })

module _ (p : Person) (w : Want) (rest : List ℕ) (t : List ℕ) (call : TaskAsked) where
  from_command : (r : PostRoute) (makes : ℕ → Subject) (given : Result KeyedCommand AskedFault)
      → ((k : ℕ) → numbered_by r k ≡ Some (makes k))
      → ((x : KeyedCommand) (body : List ℕ) (y : Task) → given ≡ Ok x → task_of x.key x.asked body ≡ Some y → IsOf makes (number_in w) y)
      → tag_at r w ≡ Ok (Some t) → with_body p given (tag_at r w) (body_in w.size rest) ≡ Ok call → IsFor w r t call
  from_command r makes given by_number is_of tag e =
      let found = command_call p t call given (tag_at r w) (body_in w.size rest) tag e in
      is_for w r t p makes by_number found.2 call found.5 (is_of found.0 found.1 found.2 found.3 found.4)

  posted : (r : PostRoute) → tag_at r w ≡ Ok (Some t) → of_route p w rest (Post r) ≡ Ok call → IsFor w r t call
  posted (Image image.Submit) tag e = no_tag t tag
  posted (Image image.Return) tag e =
      let found = image_call p t call (image_at image.Return w) (tag_at (Image image.Return) w) (body_in w.size rest) tag e in
      is_for w (Image image.Return) t p subject.Request (λ k. refl) (task.Image found.0 found.1) call found.3 (returned (key_in w) (number_in w) found.0 found.1 found.2)
  posted (Image image.Verdict) tag e = no_tag t tag
  posted (Image image.Facts) tag e = no_tag t tag
  posted (Command command.Review) tag e =
      from_command (Command command.Review) subject.Request (keyed_at command.Review w) (λ k. refl) (reviews (key_in w) (number_in w)) tag e
  posted (Command command.Withdraw) tag e =
      from_command (Command command.Withdraw) subject.Request (keyed_at command.Withdraw w) (λ k. refl)
      (of_a_request given.Withdraw subject.Request (λ k. refl) (key_in w) (number_in w)) tag e
  posted (Command command.ListCertificate) tag e = no_tag t tag
  posted (Command command.ListDigest) tag e = no_tag t tag
  posted (Command command.Unlist) tag e = no_tag t tag
  posted (Command command.RevokeDigest) tag e = no_tag t tag
  posted (Command command.RevokeCertificate) tag e = no_tag t tag
  posted (Command command.RaiseLevel) tag e = no_tag t tag
  posted (Command command.ImportDbx) tag e = no_tag t tag
  posted (Command command.ImportCsv) tag e = no_tag t tag
  posted (Command command.ImportLevel) tag e = no_tag t tag
  posted (Command command.Confirm) tag e =
      from_command (Command command.Confirm) subject.Proposal (keyed_at command.Confirm w) (λ k. refl)
      (of_a_proposal given.Confirm subject.Proposal (λ k. refl) (key_in w) (number_in w)) tag e
  posted (Command command.Drop) tag e =
      from_command (Command command.Drop) subject.Proposal (keyed_at command.Drop w) (λ k. refl)
      (of_a_proposal given.Drop subject.Proposal (λ k. refl) (key_in w) (number_in w)) tag e
  posted (Command command.Explain) tag e =
      from_command (Command command.Explain) subject.Proposal (keyed_at command.Explain w) (λ k. refl) (explains (key_in w) (number_in w)) tag e

-- ---- inputs

-- the caller of a request that is a call is known
known_posted : (o : Option Person) (w : Want) (rest : List ℕ) (r : PostRoute) (t : List ℕ) (call : TaskAsked) → w.route ≡ Post r → tag_at r w ≡ Ok (Some t)
    → of_caller w rest o ≡ Ok call → IsFor w r t call
known_posted None w rest r t call post tag e = no_ok _ call e
known_posted (Some p) w rest r t call post tag e = posted p w rest t call r tag (ap (of_route p w rest) (sym post) ∙ e)

module _ (owner : List ℕ) (cs : History) (b : List ℕ) (route : PostRoute) (w : Want) (t : List ℕ) (a : TaskAnswer) (later : History) (has : HasTag b route w t) (changed : later ≢ cs) where
  asked_so : (due : CallOrRefusal) → Asks cs b due → due ≡ of_caller w has.rest (caller_of cs w.token)
  asked_so due (inl x) = x.3 ∙ heads_ask_alike cs b x.0 has.head x.1 has.rest x.2 has.begins ∙ ap (of_head cs has.rest) has.wants
  asked_so due (inr x) = absurd (x.1 has.head has.rest has.begins)

  about_tag : (due : CallOrRefusal) → due ≡ of_caller w has.rest (caller_of cs w.token) → AnswersDue owner cs due a later → IsAboutTag cs route w t
  about_tag (Err refused) is h = absurd (changed h.1)
  about_tag (Ok call) is h =
      let found = known_posted (caller_of cs w.token) w has.rest route t call has.posted has.tag (sym is) in
      record {
        subject = found.about;
        named = found.by_target;
        tagged = matched_commands_are_about_their_tag owner cs call t found.about a later found.sent found.by_task h changed;
      }

pub matched_inputs_are_about_their_tag : MatchedInputsAreAboutTheirTag
matched_inputs_are_about_their_tag owner cs b route w t a later has answers changed =
    about_tag owner cs b route w t a later has changed answers.due (asked_so owner cs b route w t a later has changed answers.due answers.asked) answers.answered
