-- The images of a history: all of them, each with its request.
use Rattle.std.proofs.Common.{◌≡◌, ◌+◌, Bool, true, false, All, List, [], ◌∷◌, length, map, filter, Option, Some, None, refl, ◌∙◌, ap}
use Rattle.std.specs.Prelude.{◌==◌, if◌then◌else◌, is_some}
use Rattle.std.specs.List.{cons_option}
use Rattle.std.proofs.lemmas.List.Elements.{All-cons, All-contains, All-nil, All-weaker}
use Rattle.desk_types.specs.Callers.{caller_name}
use Rattle.desk_types.specs.declared.command.Command.{Command}
use Rattle.desk_types.specs.declared.command.Command.TheVariants as command
use Rattle.desk_types.specs.declared.facts.Facts.{Facts}
use Rattle.desk_types.specs.declared.state.State.{State}
use Rattle.desk_history.specs.Calls.{History, Item}
use Rattle.desk_history.specs.Images.{Image, image_of, images}
use Rattle.desk_history.specs.ImpactLaws.{ImagesAreAll, ImagesHaveRequests, is_file, returned_image, submitted_image}
use Rattle.desk_history.specs.Refusals.{own_refusal, return_refusal}
use Rattle.desk_history.specs.Requests.{Request, request, request_of, requests, returns, state, submitted}
use Rattle.desk_history.specs.Runs.{is_legal}
use Rattle.desk_history.specs.Verdicts.{is_barred, stands_in_db}
use Rattle.desk_history.proofs.ListLemmas.{number_itself}
use Rattle.desk_history.proofs.RefusalLemmas.{no_refusal}
use Rattle.desk_history.proofs.RequestLemmas.{length_numbered}
use Rattle.desk_history.proofs.RunLemmas.{giving, newest}
use Rattle.desk_history.specs.declared.impact.WhichFile.TheVariants as files

abbrev AreAll : History → Type 0
AreAll cs =
    (filter (is_file files.Submitted) (images cs) ≡ map submitted_image (requests cs))
    × (filter (is_file files.Returned) (images cs) ≡ map returned_image (returns cs))

one_image : (cs : History) (old : Item) (given : Command) → AreAll cs → AreAll (giving old given ∷ cs)
one_image cs old (command.Submit s) h = (
  ap (λ n. submitted_image (request_of (n + 1) old.call.caller s) ∷ filter (is_file files.Submitted) (images cs)) (length_numbered (submitted cs))
      ∙ ap (λ l. submitted_image (request_of (length (submitted cs) + 1) old.call.caller s) ∷ l) h.0,
  h.1,
)
one_image cs old (command.Return r) h = (h.0, ap (λ l. returned_image (record { request = r.request; signer = caller_name old.call.caller; facts = r.facts }) ∷ l) h.1)
one_image cs old _ h = h

pub images_are_all : ImagesAreAll
images_are_all [] = (refl, refl)
images_are_all (i ∷ cs) = one_image cs i i.call.command (images_are_all cs)

-- ---- each has its request

abbrev HasRequest : History → Image → Type 0
HasRequest cs m = is_some (request cs m.request) ≡ true

still_some : (b : Bool) (r : Request) (o : Option Request) → is_some o ≡ true → is_some (if b then Some r else o) ≡ true
still_some true r o h = refl
still_some false r o h = h

one_request : (cs : History) (old : Item) (given : Command) (m : Image) → HasRequest cs m → HasRequest (giving old given ∷ cs) m
one_request cs old (command.Submit s) m h =
    still_some (m.request == length (submitted cs) + 1) (request_of (length (submitted cs) + 1) old.call.caller s) (request cs m.request) h
one_request cs old _ m h = h

returned_some : (r : Option Request) (at : State) (x : Facts) (barred listed : Bool) → return_refusal r at x barred listed ≡ None → is_some r ≡ true
returned_some None at x barred listed h = no_refusal h
returned_some (Some r) at x barred listed h = refl

new_request : (cs : History) (old : Item) (given : Command) → own_refusal cs (caller_name old.call.caller) given ≡ None → (ms : List Image) → All (HasRequest (giving old given ∷ cs)) ms
    → All (HasRequest (giving old given ∷ cs)) (cons_option (image_of cs given) ms)
new_request cs old (command.Submit s) own ms h =
    All-cons (HasRequest (giving old (command.Submit s) ∷ cs)) (record { request = length (requests cs) + 1; file = files.Submitted; facts = s.facts }) ms
    (ap (λ b. is_some (if b then Some (request_of (length (submitted cs) + 1) old.call.caller s) else request cs (length (requests cs) + 1)))
    (ap (λ n. (n + 1) == (length (submitted cs) + 1)) (length_numbered (submitted cs)) ∙ number_itself (length (submitted cs) + 1)))
    h
new_request cs old (command.Return r) own ms h =
    All-cons (HasRequest (giving old (command.Return r) ∷ cs)) (record { request = r.request; file = files.Returned; facts = r.facts }) ms
    (returned_some (request cs r.request) (state cs r.request) r.facts (is_barred cs r.facts) (stands_in_db cs r.facts) own) h
new_request cs old _ own ms h = h

all_have : (cs : History) → is_legal cs ≡ true → All (HasRequest cs) (images cs)
all_have [] h = All-nil (HasRequest [])
all_have (i ∷ cs) h =
    let here = newest cs i h in
    new_request cs i i.call.command here.new.own (images cs)
    (All-weaker (HasRequest cs) (HasRequest (i ∷ cs)) (λ m. one_request cs i i.call.command m) (images cs) (all_have cs here.before))

pub images_have_requests : ImagesHaveRequests
images_have_requests cs m legal among = All-contains (HasRequest cs) (images cs) m (all_have cs legal) among
