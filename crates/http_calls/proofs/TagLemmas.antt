-- The tags of requests and proposals, and those that their readers are shown.
use Rattle.std.proofs.Common.{◌≡◌, ℕ, Bool, true, false, not, IsTrue, List, [], ◌∷◌, ◌++◌, filter, Option, Some, None, Ok, Err, refl, sym, ◌∙◌, ap, subst}
use Rattle.std.specs.Prelude.{if◌then◌else◌, ◌||◌, bytes_eq, codes, find, is_some, ok_or, option_map}
use Rattle.std.specs.List.{cons_option, list_any}
use Rattle.std.specs.Option.{option_map_or}
use Rattle.std.specs.Result.{result_map_both}
use Rattle.base.specs.declared.refusal.Refusal.TheVariants as refusals
use Rattle.desk_types.specs.Callers.{caller_name}
use Rattle.desk_types.specs.Naming.{person_added, subject_named}
use Rattle.desk_types.specs.declared.caller.Caller.TheVariants as callers
use Rattle.desk_types.specs.declared.command.Command.{Command}
use Rattle.desk_types.specs.declared.command.Command.TheVariants as command
use Rattle.desk_types.specs.declared.command.Person.{Person}
use Rattle.desk_types.specs.declared.facts.Facts.{Facts}
use Rattle.desk_types.specs.declared.proposal.ProposalState.{ProposalState}
use Rattle.desk_types.specs.declared.role.Role.{Role}
use Rattle.desk_types.specs.declared.role.Role.TheVariants as roles
use Rattle.desk_types.specs.declared.state.State.{State}
use Rattle.desk_history.specs.Calls.{GoesOnFrom, History}
use Rattle.desk_history.specs.People.{has_name, has_token, people, person}
use Rattle.desk_history.specs.Proposals.{Proposal as Proposed, proposal, proposal_state}
use Rattle.desk_history.specs.ProposalShown.{shown_to_officer}
use Rattle.desk_history.specs.Refusals.{confirm_refusal, drop_refusal, explain_refusal, may_give, own_refusal, return_refusal, review_refusal, withdraw_by, withdraw_refusal}
use Rattle.desk_history.specs.Requests.{Request as Requested, request, state, votes, votes_on}
use Rattle.desk_history.specs.Roles.{asks, is_officer, is_reviewer, is_signer}
use Rattle.desk_history.specs.Runs.{is_legal}
use Rattle.desk_history.specs.Verdicts.{is_barred, stands_in_db}
use Rattle.desk_history.specs.Shown.{found_among, is_shown_to, officer, sees, whole, wholes}
use Rattle.desk_history.specs.Tables.{proposal_row}
use Rattle.desk_history.specs.declared.rows.VoteRow.{VoteRow}
use Rattle.desk_history.proofs.ClosingLemmas.{no_some, some_same}
use Rattle.desk_history.proofs.ListLemmas.{bytes_eq-refl, none_left, none_right, same_text}
use Rattle.desk_history.proofs.ProposalShownLemmas.{proposals_stay}
use Rattle.desk_history.proofs.RefusalLemmas.{no_refusal, unrefused}
use Rattle.desk_history.proofs.RunLemmas.{newest}
use Rattle.desk_history.proofs.ShownLemmas.{found_passes}
use Rattle.desk_exports.specs.Tags.{tag_of}
use Rattle.http_calls.specs.Tags.{is_other, proposal_tag, request_tag, tag_at, tag_shown}
use Rattle.desk_types.specs.declared.naming.Subject.{Subject}
use Rattle.desk_types.specs.declared.naming.Subject.TheVariants.{Proposal, Request}
use Rattle.http_calls.proofs.NumberLemmas.{found_passing, passing, request_stays}

-- ---- what a person is shown, by the person and by what there is

-- the tag of a request, for a person who may be shown it
abbrev request_by : Option Person → Option Requested → Option (List ℕ)
request_by None o = None
request_by (Some p) None = None
request_by (Some p) (Some r) = if sees p.role (bytes_eq p.name r.submitter) then Some r.facts.file else None

-- the tag of a proposal, for a person who may be shown it
abbrev proposal_by : Option Person → Option Proposed → Option (List ℕ)
proposal_by None o = None
proposal_by (Some p) o = if is_officer p.role then option_map (λ q. tag_of q.named.entries) o else None

module _ (cs : History) where
  one_request : (p : Person) (o : Option Requested)
      → request_tag (ok_or (passing (λ w. is_shown_to p w) (option_map (whole cs) o)) refusals.NoSuchRequest) ≡ request_by (Some p) o
  one_request p None = refl
  one_request p (Some r) =
      elim (sees p.role (bytes_eq p.name r.submitter)) as (λ b. request_tag (ok_or (if b then Some (whole cs r) else None) refusals.NoSuchRequest) ≡ (if b then Some r.facts.file else None)) [ true ↦ refl | false ↦ refl ]

  request_to : (k : ℕ) (o : Option Person)
      → request_tag (found_among k (result_map_both (λ p. filter (λ w. is_shown_to p w) (wholes cs)) (λ refusal. refusal) (ok_or o refusals.UnknownCaller))) ≡ request_by o (request cs k)
  request_to k None = refl
  request_to k (Some p) =
      ap (λ o. request_tag (ok_or o refusals.NoSuchRequest)) (found_passing cs (λ w. is_shown_to p w) k) ∙ one_request p (request cs k)

  one_proposal : (state : ProposalState) (o : Option Proposed)
      → proposal_tag (ok_or (option_map (proposal_row state) o) refusals.NoSuchProposal) ≡ option_map (λ (q : Proposed). tag_of q.named.entries) o
  one_proposal state None = refl
  one_proposal state (Some q) = refl

  proposal_to : (k : ℕ) (o : Option Person)
      → proposal_tag (shown_to_officer (option_map (proposal_row (proposal_state cs k)) (proposal cs k)) (officer (ok_or o refusals.UnknownCaller))) ≡ proposal_by o (proposal cs k)
  proposal_to k None = refl
  proposal_to k (Some p) =
      elim (is_officer p.role) as (λ b.
      proposal_tag (shown_to_officer (option_map (proposal_row (proposal_state cs k)) (proposal cs k)) (if b then Ok p else Err refusals.NotYourRole))
      ≡ (if b then option_map (λ (q : Proposed). tag_of q.named.entries) (proposal cs k) else None)) [
        | true ↦ one_proposal (proposal_state cs k) (proposal cs k)
        | false ↦ refl
      ]

-- the same for both
abbrev shown_by : History → Option Person → Subject → Option (List ℕ)
shown_by cs o (Request k) = request_by o (request cs k)
shown_by cs o (Proposal k) = proposal_by o (proposal cs k)

tag_shown_by : (cs : History) (name : List ℕ) (s : Subject) → tag_shown cs name s ≡ shown_by cs (person cs name) s
tag_shown_by cs name (Request k) = request_to cs k (person cs name)
tag_shown_by cs name (Proposal k) = proposal_to cs k (person cs name)

-- ---- a tag that is shown is the tag

if_some : (b : Bool) (o : Option (List ℕ)) (t : List ℕ) → (if b then o else None) ≡ Some t → o ≡ Some t
if_some true o t e = e
if_some false o t e = no_some t e

shown_at : (cs : History) (o : Option Person) (s : Subject) (t : List ℕ) → shown_by cs o s ≡ Some t → tag_at cs s ≡ Some t
shown_at cs None (Request k) t e = no_some t e
shown_at cs None (Proposal k) t e = no_some t e
shown_at cs (Some p) (Request k) t e = by (request cs k) e
  where
    by : (q : Option Requested) → request_by (Some p) q ≡ Some t → option_map (λ (r : Requested). r.facts.file) q ≡ Some t
    by None f = no_some t f
    by (Some r) f = if_some (sees p.role (bytes_eq p.name r.submitter)) (Some r.facts.file) t f
shown_at cs (Some p) (Proposal k) t e =
    if_some (is_officer p.role) (option_map (λ (q : Proposed). tag_of q.named.entries) (proposal cs k)) t e

pub shown_tag_is : (cs : History) (name : List ℕ) (s : Subject) (t : List ℕ) → tag_shown cs name s ≡ Some t → tag_at cs s ≡ Some t
shown_tag_is cs name s t e = shown_at cs (person cs name) s t (sym (tag_shown_by cs name s) ∙ e)

-- ---- tags stay

is_there : {X Y : Type 0} (f : X → Y) (o : Option X) (t : Y) → option_map f o ≡ Some t → is_some o ≡ true
is_there f None t e = no_some t e
is_there f (Some x) t e = refl

pub tags_stay : (earlier later : History) (s : Subject) (t : List ℕ) → GoesOnFrom earlier later → tag_at earlier s ≡ Some t → tag_at later s ≡ Some t
tags_stay earlier later (Request k) t more e =
    let file : Requested → List ℕ = λ r. r.facts.file in
    let some : is_some (request earlier k) ≡ true = is_there file (request earlier k) t e in
    let same : request later k ≡ request earlier k = ap (λ (l : History). request l k) more.1 ∙ request_stays more.0 earlier k some in
    ap (option_map file) same ∙ e
tags_stay earlier later (Proposal k) t more e =
    let named : Proposed → List ℕ = λ q. tag_of q.named.entries in
    let some : is_some (proposal earlier k) ≡ true = is_there named (proposal earlier k) t e in
    ap (option_map named) (proposals_stay earlier later k more some) ∙ e

-- ---- people stay

none_found : {X : Type 0} (p : X → Bool) (xs : List X) → list_any p xs ≡ false → find p xs ≡ None
none_found p [] h = refl
none_found p (x ∷ xs) h = rw (none_left (p x) (list_any p xs) h) (none_found p xs (none_right (p x) (list_any p xs) h))

-- a person who is added has a new name
new_name : (cs : History) (name : List ℕ) (p : Person) → own_refusal cs name (command.AddPerson p) ≡ None → person cs p.name ≡ None
new_name cs name p own =
    let taken : (bytes_eq p.name (codes "console") || list_any (has_name p.name) (people cs) || list_any (has_token p.token) (people cs)) ≡ false =
    unrefused (bytes_eq p.name (codes "console") || list_any (has_name p.name) (people cs) || list_any (has_token p.token) (people cs)) refusals.NameTaken own in
    let named = none_left (bytes_eq p.name (codes "console") || list_any (has_name p.name) (people cs)) (list_any (has_token p.token) (people cs)) taken in
    none_found (has_name p.name) (people cs) (none_right (bytes_eq p.name (codes "console")) (list_any (has_name p.name) (people cs)) named)

still_known : (cs : History) (who name : List ℕ) (given : Command) (q : Person) → own_refusal cs who given ≡ None → person cs name ≡ Some q
    → find (has_name name) (cons_option (person_added given) (people cs)) ≡ Some q
still_known cs who name (command.AddPerson p) q own is =
    elim (bytes_eq name p.name) as (λ b. bytes_eq name p.name ≡ b → (if b then Some p else person cs name) ≡ Some q) [
      | true ↦ λ e. no_some q (sym (new_name cs who p own) ∙ (ap (λ n. person cs n) (sym (same_text name p.name e)) ∙ is))
      | false ↦ λ e. is
    ] refl
still_known cs who name _ q own is = is

person_stays : (new cs : History) (name : List ℕ) (q : Person) → is_legal (new ++ cs) ≡ true → person cs name ≡ Some q → person (new ++ cs) name ≡ Some q
person_stays [] cs name q legal is = is
person_stays (i ∷ new) cs name q legal is =
    let here = newest (new ++ cs) i legal in
    still_known (new ++ cs) (caller_name i.call.caller) name i.call.command q here.new.own (person_stays new cs name q here.before is)

-- ---- a tag that is shown is shown ever after

shown_later : (earlier later : History) (o : Option Person) (s : Subject) (t : List ℕ) → GoesOnFrom earlier later → shown_by earlier o s ≡ Some t → shown_by later o s ≡ Some t
shown_later earlier later None (Request k) t more e = no_some t e
shown_later earlier later None (Proposal k) t more e = no_some t e
shown_later earlier later (Some p) (Request k) t more e = by (request earlier k) refl e
  where
    by : (q : Option Requested) → request earlier k ≡ q → request_by (Some p) q ≡ Some t → request_by (Some p) (request later k) ≡ Some t
    by None is f = no_some t f
    by (Some r) is f =
        ap (request_by (Some p)) (ap (λ (l : History). request l k) more.1 ∙ request_stays more.0 earlier k (ap is_some is) ∙ is) ∙ f
shown_later earlier later (Some p) (Proposal k) t more e = by (proposal earlier k) refl e
  where
    none_shown : (b : Bool) → (if b then None else None) ≡ Some t → {A : Type 0} → A
    none_shown true f = no_some t f
    none_shown false f = no_some t f

    by : (q : Option Proposed) → proposal earlier k ≡ q → proposal_by (Some p) q ≡ Some t → proposal_by (Some p) (proposal later k) ≡ Some t
    by None is f = none_shown (is_officer p.role) f
    by (Some r) is f = ap (proposal_by (Some p)) (proposals_stay earlier later k more (ap is_some is) ∙ is) ∙ f

-- nobody who isn't known is shown anything
none_to_nobody : (cs : History) (s : Subject) (t : List ℕ) → shown_by cs None s ≡ Some t → {A : Type 0} → A
none_to_nobody cs (Request k) t e = no_some t e
none_to_nobody cs (Proposal k) t e = no_some t e

pub shown_tags_stay : (earlier later : History) (name : List ℕ) (s : Subject) (t : List ℕ) → IsTrue (is_legal later) → GoesOnFrom earlier later
    → tag_shown earlier name s ≡ Some t → tag_shown later name s ≡ Some t
shown_tags_stay earlier later name s t legal more e =
    by (person earlier name) refl (sym (tag_shown_by earlier name s) ∙ e)
  where
    by : (o : Option Person) → person earlier name ≡ o → shown_by earlier o s ≡ Some t → tag_shown later name s ≡ Some t
    by None is f = none_to_nobody earlier s t f
    by (Some p) is f =
        let known : person later name ≡ Some p =
        ap (λ (l : History). person l name) more.1 ∙ person_stays more.0 earlier name p (subst (λ l. is_legal l ≡ true) more.1 legal) is in
        tag_shown_by later name s ∙ (ap (λ o. shown_by later o s) known ∙ shown_later earlier later (Some p) s t more f)

-- ---- the subject of an accepted command is shown to its caller

no_parts : {A : Type 0} → false ≡ true → A
no_parts e = cc

reviewer_sees : (r : Role) (b : Bool) → is_reviewer r ≡ true → sees r b ≡ true
reviewer_sees roles.Submitter b h = no_parts h
reviewer_sees roles.Reviewer b h = refl
reviewer_sees roles.Officer b h = refl
reviewer_sees roles.Signer b h = refl

signer_sees : (r : Role) (b : Bool) → is_signer r ≡ true → sees r b ≡ true
signer_sees roles.Submitter b h = no_parts h
signer_sees roles.Reviewer b h = refl
signer_sees roles.Officer b h = refl
signer_sees roles.Signer b h = refl

owner_sees : (r : Role) (b : Bool) → b ≡ true → sees r b ≡ true
owner_sees roles.Submitter b h = h
owner_sees roles.Reviewer b h = refl
owner_sees roles.Officer b h = refl
owner_sees roles.Signer b h = refl

-- a request that the person sees
seen : (p : Person) (r : Requested) → sees p.role (bytes_eq p.name r.submitter) ≡ true → is_some (request_by (Some p) (Some r)) ≡ true
seen p r h = rw h refl

own_request : (state : State) (mine : Bool) → withdraw_by state mine ≡ None → mine ≡ true
own_request state true h = refl
own_request state false h = no_refusal h

module _ (o : Option Person) (q : Option Requested) (state : State) where
  reviews : (vs : List VoteRow) (name : List ℕ) → option_map_or (λ (p : Person). is_reviewer p.role) o false ≡ true → review_refusal q state vs name ≡ None
      → is_some (request_by o q) ≡ true
  reviews vs name = by o q
    where
      by : (o : Option Person) (q : Option Requested) → option_map_or (λ (p : Person). is_reviewer p.role) o false ≡ true → review_refusal q state vs name ≡ None
          → is_some (request_by o q) ≡ true
      by None q h own = no_parts h
      by (Some p) None h own = no_refusal own
      by (Some p) (Some r) h own = seen p r (reviewer_sees p.role (bytes_eq p.name r.submitter) h)

  returns : (x : Facts) (barred listed : Bool) → option_map_or (λ (p : Person). is_signer p.role) o false ≡ true → return_refusal q state x barred listed ≡ None
      → is_some (request_by o q) ≡ true
  returns x barred listed = by o q
    where
      by : (o : Option Person) (q : Option Requested) → option_map_or (λ (p : Person). is_signer p.role) o false ≡ true → return_refusal q state x barred listed ≡ None
          → is_some (request_by o q) ≡ true
      by None q h own = no_parts h
      by (Some p) None h own = no_refusal own
      by (Some p) (Some r) h own = seen p r (signer_sees p.role (bytes_eq p.name r.submitter) h)

  withdraws : (name : List ℕ) → ((p : Person) → o ≡ Some p → name ≡ p.name) → is_some o ≡ true → withdraw_refusal q state name ≡ None
      → is_some (request_by o q) ≡ true
  withdraws name = by o q
    where
      by : (o : Option Person) (q : Option Requested) → ((p : Person) → o ≡ Some p → name ≡ p.name) → is_some o ≡ true → withdraw_refusal q state name ≡ None
          → is_some (request_by o q) ≡ true
      by None q named h own = no_parts h
      by (Some p) None named h own = no_refusal own
      by (Some p) (Some r) named h own =
          let mine : r.submitter ≡ name = same_text r.submitter name (own_request state (bytes_eq r.submitter name) own) in
          let same : bytes_eq p.name r.submitter ≡ true = ap (bytes_eq p.name) (mine ∙ named p refl) ∙ bytes_eq-refl p.name in
          seen p r (owner_sees p.role (bytes_eq p.name r.submitter) same)

known : (f : Person → Bool) (o : Option Person) → option_map_or f o false ≡ true → is_some o ≡ true
known f None h = h
known f (Some p) h = refl

officer_sees : (o : Option Person) (q : Option Proposed) → option_map_or (λ (p : Person). is_officer p.role) o false ≡ true → is_some q ≡ true → is_some (proposal_by o q) ≡ true
officer_sees None q h there = no_parts h
officer_sees (Some p) None h there = no_parts there
officer_sees (Some p) (Some q) h there = rw h refl

confirms : (cs : History) (q : Option Proposed) (state : ProposalState) (name : List ℕ) → confirm_refusal cs q state name ≡ None → is_some q ≡ true
confirms cs None state name h = no_refusal h
confirms cs (Some q) state name h = refl

drops : (q : Option Proposed) (state : ProposalState) → drop_refusal q state ≡ None → is_some q ≡ true
drops None state h = no_refusal h
drops (Some q) state h = refl

explains : (q : Option Proposed) → explain_refusal q ≡ None → is_some q ≡ true
explains None h = no_refusal h
explains (Some q) h = refl

module _ (cs : History) (name : List ℕ) where
  named : (p : Person) → person cs name ≡ Some p → name ≡ p.name
  named p is = same_text name p.name (found_passes (has_name name) (people cs) p is)

  shown_as : (s x : Subject) → Some x ≡ Some s → is_some (shown_by cs (person cs name) x) ≡ true → is_some (shown_by cs (person cs name) s) ≡ true
  shown_as s x e h = subst (λ y. is_some (shown_by cs (person cs name) y) ≡ true) (some_same x s e) h

  shown_to_giver : (given : Command) (s : Subject) → subject_named given ≡ Some s → may_give cs (callers.Person name) given ≡ true → own_refusal cs name given ≡ None
      → is_some (shown_by cs (person cs name) s) ≡ true
  shown_to_giver (command.Review b) s e may own =
      shown_as s (Request b.request) e (reviews (person cs name) (request cs b.request) (state cs b.request) (votes_on (votes cs) b.request) name may own)
  shown_to_giver (command.Withdraw k) s e may own =
      shown_as s (Request k) e (withdraws (person cs name) (request cs k) (state cs k) name named (known (λ p. asks p.role) (person cs name) may) own)
  shown_to_giver (command.Return x) s e may own =
      shown_as s (Request x.request) e (returns (person cs name) (request cs x.request) (state cs x.request) x.facts (is_barred cs x.facts) (stands_in_db cs x.facts) may own)
  shown_to_giver (command.Confirm k) s e may own =
      shown_as s (Proposal k) e (officer_sees (person cs name) (proposal cs k) may (confirms cs (proposal cs k) (proposal_state cs k) name own))
  shown_to_giver (command.Drop k) s e may own =
      shown_as s (Proposal k) e (officer_sees (person cs name) (proposal cs k) may (drops (proposal cs k) (proposal_state cs k) own))
  shown_to_giver (command.Explain x) s e may own =
      shown_as s (Proposal x.proposal) e (officer_sees (person cs name) (proposal cs x.proposal) may (explains (proposal cs x.proposal) own))
  shown_to_giver _ s e may own = no_some s e

  -- the caller of a command that isn't refused is shown what it is about
  pub given_is_shown : (given : Command) (s : Subject) → subject_named given ≡ Some s → may_give cs (callers.Person name) given ≡ true → own_refusal cs name given ≡ None
      → is_some (tag_shown cs name s) ≡ true
  given_is_shown given s e may own = ap is_some (tag_shown_by cs name s) ∙ shown_to_giver given s e may own

-- ---- comparing

not_false : (b : Bool) → not b ≡ false → b ≡ true
not_false true h = refl
not_false false h = no_parts (sym h)

-- a tag that is shown and isn't another one is the one that is wanted
pub wanted_is_shown : (wanted : List ℕ) (given : Option (List ℕ)) → is_other (Some wanted) given ≡ false → is_some given ≡ true → given ≡ Some wanted
wanted_is_shown wanted None same there = no_parts there
wanted_is_shown wanted (Some x) same there = ap Some (same_text x wanted (not_false (bytes_eq x wanted) same))

pub itself : (wanted : List ℕ) (given : Option (List ℕ)) → given ≡ Some wanted → is_other (Some wanted) given ≡ false
itself wanted given e = ap (is_other (Some wanted)) e ∙ ap not (bytes_eq-refl wanted)
