-- The number that tells of changes.
use Rattle.std.proofs.Common.{◌≡◌, ℕ, suc, ◌+◌, ◌≤◌, Bool, true, false, ◌||◌, cond, List, [], ◌∷◌, ◌++◌, map, filter, length, length-append, Option, Some, None, option_map, Result, Ok, refl, sym, ap, ◌∙◌, arith}
use Rattle.std.specs.Prelude.{◌==◌, bytes_eq, if◌then◌else◌, count_by, nat_le, not, ok_or, reverse}
use Rattle.std.specs.List.{cons_option, list_any}
use Rattle.std.specs.Result.{result_map_both}
use Rattle.std.proofs.lemmas.List.{reverse-append}
use Rattle.base.specs.declared.refusal.Refusal.{Refusal}
use Rattle.base.specs.declared.refusal.Refusal.TheVariants as refusals
use Rattle.desk_types.specs.Callers.{caller_name}
use Rattle.desk_types.specs.declared.caller.Caller.TheVariants as callers
use Rattle.desk_types.specs.declared.command.Command.{Command}
use Rattle.desk_types.specs.declared.command.Command.TheVariants as command
use Rattle.desk_types.specs.declared.command.Person.{Person}
use Rattle.desk_types.specs.declared.command.Submission.{Submission}
use Rattle.desk_types.specs.declared.facts.Facts.{Facts}
use Rattle.desk_types.specs.declared.role.Role.{Role}
use Rattle.desk_types.specs.declared.role.Role.TheVariants as roles
use Rattle.desk_types.specs.declared.state.State.{State}
use Rattle.desk_types.specs.declared.state.State.TheVariants as states
use Rattle.desk_history.specs.Calls.{History, Item}
use Rattle.desk_history.specs.People.{person}
use Rattle.desk_history.specs.Refusals.{own_refusal, return_refusal}
use Rattle.desk_history.specs.Requests.{Request, Returned, is_returned, is_withdrawn, is_yes, numbered, request, requests, state_by, submission_of, submitted, votes, votes_on}
use Rattle.desk_history.specs.Runs.{is_legal}
use Rattle.desk_history.specs.Shown.{Whole, own, returned, role_of, sees, shown_to, whole}
use Rattle.desk_history.specs.Verdicts.{is_barred, stands_in_db}
use Rattle.desk_history.specs.declared.rows.VoteRow.{VoteRow}
use Rattle.desk_history.proofs.ListLemmas.{number_is}
use Rattle.desk_history.proofs.RefusalLemmas.{no_refusal}
use Rattle.desk_history.proofs.RunLemmas.{giving, newest}
use Rattle.desk_history.proofs.ShownLemmas.{shown_own, submitters_see_own}
use Rattle.desk_exports.specs.Changes.{OthersNumbersTell, SubmittersNumbersTell, changes, changes_for, end_of, events, events_of}

clash : {A : Type 0} → true ≡ false → A
clash e = cc

-- ---- one request

abbrev whole_of : Request → State → List VoteRow → Option Returned → Whole
whole_of r s vs back = record { request = r; state = s; votes = vs; returned = back }

-- a request after a later call: more happened to it, or it is the same
record Grows (old new : Whole) : Type 0 where
  more : events_of old ≤ events_of new
  still : events_of new ≡ events_of old → new ≡ old

same : (w : Whole) → Grows w w
same w = record { more = omega arith; still = λ e. refl }

-- what more happened to it
grows : (old new : Whole) → suc (events_of old) ≤ events_of new → Grows old new
grows old new h = record { more = omega (arith, h); still = λ e. absurd (omega (arith, h, e)) }

abbrev end_by : Bool → Bool → ℕ
end_by true taken = 2
end_by false true = 1
end_by false false = 0

no_end : (a b : Bool) → end_of (if a then states.Rejected else (if b then states.Approved else states.Open)) ≡ 0
no_end true b = refl
no_end false true = refl
no_end false false = refl

-- votes end no request
end_is : (signed taken : Bool) (vs : List VoteRow) → end_of (state_by signed taken vs) ≡ end_by signed taken
end_is true taken vs = refl
end_is false true vs = refl
end_is false false vs = no_end (list_any (λ v. not (is_yes v)) vs) (nat_le 2 (count_by is_yes vs))

module _ (r : Request) where
  voted : (signed taken : Bool) (v : VoteRow) (vs : List VoteRow) (back : Option Returned) (b : Bool)
      → Grows (whole_of r (state_by signed taken vs) vs back) (whole_of r (state_by signed taken (cond b (v ∷ vs) vs)) (cond b (v ∷ vs) vs) back)
  voted signed taken v vs back false = same _
  voted signed taken v vs back true =
      let before = end_is signed taken vs in
      let after = end_is signed taken (v ∷ vs) in
      grows _ _ (omega (arith, before, after))

  taken_back : (signed taken : Bool) (vs : List VoteRow) (back : Option Returned) (b : Bool)
      → Grows (whole_of r (state_by signed taken vs) vs back) (whole_of r (state_by signed (b || taken) vs) vs back)
  taken_back signed taken vs back false = same _
  taken_back true taken vs back true = same _
  taken_back false true vs back true = same _
  taken_back false false vs back true = (let before = end_is false false vs in grows _ _ (omega (arith, before)))

  handed : (signed taken : Bool) (vs : List VoteRow) (back file : Option Returned) (b : Bool) → (b ≡ true → signed ≡ false)
      → Grows (whole_of r (state_by signed taken vs) vs back) (whole_of r (state_by (b || signed) taken vs) vs (cond b file back))
  handed signed taken vs back file false unsigned = same _
  handed true taken vs back file true unsigned = clash (unsigned refl)
  handed false true vs back file true unsigned = grows _ _ (omega arith)
  handed false false vs back file true unsigned = (let before = end_is false false vs in grows _ _ (omega (arith, before)))

-- only an approved request's file is returned
unsigned_by : (signed taken : Bool) (vs : List VoteRow) (o : Option Request) (x : Facts) (barred listed : Bool)
    → return_refusal o (state_by signed taken vs) x barred listed ≡ None → signed ≡ false
unsigned_by signed taken vs None x barred listed h = no_refusal h
unsigned_by true taken vs (Some r) x barred listed h = no_refusal h
unsigned_by false taken vs (Some r) x barred listed h = refl

one_request : (cs : History) (old : Item) (given : Command) → own_refusal cs (caller_name old.call.caller) given ≡ None → (r : Request)
    → Grows (whole cs r) (whole (giving old given ∷ cs) r)
one_request cs old (command.Review b) h r =
    let v : VoteRow = record { request = b.request; reviewer = caller_name old.call.caller; vote = b.vote; note = b.note } in
    voted r (is_returned cs r.number) (is_withdrawn cs r.number) v (votes_on (votes cs) r.number) (returned cs r.number) (r.number == b.request)
one_request cs old (command.Withdraw k) h r =
    taken_back r (is_returned cs r.number) (is_withdrawn cs r.number) (votes_on (votes cs) r.number) (returned cs r.number) (r.number == k)
one_request cs old (command.Return f) h r =
    let file : Option Returned = Some (record { request = f.request; signer = caller_name old.call.caller; facts = f.facts }) in
    let unsigned : is_returned cs f.request ≡ false =
    unsigned_by (is_returned cs f.request) (is_withdrawn cs f.request) (votes_on (votes cs) f.request) (request cs f.request) f.facts (is_barred cs f.facts) (stands_in_db cs f.facts) h in
    handed r (is_returned cs r.number) (is_withdrawn cs r.number) (votes_on (votes cs) r.number) (returned cs r.number) file (r.number == f.request)
    (λ e. ap (λ n. is_returned cs n) (number_is r.number f.request e) ∙ unsigned)
one_request cs old (command.AddPerson _) h r = same _
one_request cs old (command.Submit _) h r = same _
one_request cs old (command.ListCertificate _) h r = same _
one_request cs old (command.ListDigest _) h r = same _
one_request cs old (command.Unlist _) h r = same _
one_request cs old (command.RevokeDigest _) h r = same _
one_request cs old (command.RevokeCertificate _) h r = same _
one_request cs old (command.RaiseLevel _) h r = same _
one_request cs old (command.ImportRevocations _) h r = same _
one_request cs old (command.Confirm _) h r = same _
one_request cs old (command.Drop _) h r = same _
one_request cs old (command.Explain _) h r = same _

-- ---- the requests of one person

record AllGrow (old new : List Whole) : Type 0 where
  more : events old ≤ events new
  still : events new ≡ events old → new ≡ old

all_same : (ws : List Whole) → AllGrow ws ws
all_same ws = record { more = omega arith; still = λ e. refl }

then_grow : (first second third : List Whole) → AllGrow first second → AllGrow second third → AllGrow first third
then_grow first second third a b = record {
  more = omega (arith, a.more, b.more);
  still = λ e. b.still (omega (arith, a.more, b.more, e)) ∙ a.still (omega (arith, a.more, b.more, e));
}

one_grows : (b : Bool) (old new : Whole) (olds news : List Whole) → Grows old new → AllGrow olds news → AllGrow (cond b (old ∷ olds) olds) (cond b (new ∷ news) news)
one_grows false old new olds news one all = all
one_grows true old new olds news one all = record {
  more = omega (arith, one.more, all.more);
  still = λ e.
      ap (λ w. w ∷ news) (one.still (omega (arith, one.more, all.more, e)))
      ∙ ap (λ ws. old ∷ ws) (all.still (omega (arith, one.more, all.more, e)));
}

one_more : (b : Bool) (w : Whole) (olds news : List Whole) → AllGrow olds news → AllGrow olds (cond b (w ∷ news) news)
one_more false w olds news all = all
one_more true w olds news all = record {
  more = omega (arith, all.more);
  still = λ e. absurd (omega (arith, all.more, e));
}

abbrev owns : List ℕ → Whole → Bool
owns name w = bytes_eq name w.request.submitter

all_grow : (name : List ℕ) (cs next : History) → ((r : Request) → Grows (whole cs r) (whole next r)) → (rs : List Request)
    → AllGrow (filter (owns name) (map (whole cs) rs)) (filter (owns name) (map (whole next) rs))
all_grow name cs next each [] = all_same []
all_grow name cs next each (r ∷ rs) =
    one_grows (bytes_eq name r.submitter) (whole cs r) (whole next r) (filter (owns name) (map (whole cs) rs)) (filter (owns name) (map (whole next) rs))
    (each r) (all_grow name cs next each rs)

one_call : (name : List ℕ) (cs : History) (i : Item) → own_refusal cs (caller_name i.call.caller) i.call.command ≡ None → AllGrow (own cs name) (own (i ∷ cs) name)
one_call name cs i h =
    let next = i ∷ cs in
    let all = all_grow name cs next (one_request cs i i.call.command h) (requests cs) in
    elim (submission_of i.call.command) as (λ o. AllGrow (own cs name)
    (filter (owns name) (map (whole next) (numbered (cons_option (option_map (λ (s : Submission). record { submitter = caller_name i.call.caller; submission = s }) o) (submitted cs)))))) [
      | Some s ↦ (
          let r : Request = record { number = length (submitted cs) + 1; submitter = caller_name i.call.caller; title = s.title; facts = s.facts } in
          one_more (owns name (whole next r)) (whole next r) (own cs name) (filter (owns name) (map (whole next) (requests cs))) all)
      | None ↦ all
    ]

later : (name : List ℕ) (new cs : History) → is_legal (new ++ cs) ≡ true → AllGrow (own cs name) (own (new ++ cs) name)
later name [] cs legal = all_same (own cs name)
later name (i ∷ new) cs legal =
    let here = newest (new ++ cs) i legal in
    then_grow (own cs name) (own (new ++ cs) name) (own (i ∷ new ++ cs) name) (later name new cs here.before) (one_call name (new ++ cs) i here.new.own)

-- ---- numbers

events-append : (xs ys : List Whole) → events (xs ++ ys) ≡ events xs + events ys
events-append [] ys = omega arith
events-append (x ∷ xs) ys = (let rest = events-append xs ys in omega (arith, rest))

events-reverse : (ws : List Whole) → events (reverse ws) ≡ events ws
events-reverse [] = refl
events-reverse (w ∷ ws) =
    let rest = events-reverse ws in
    let last = events-append (reverse ws) (w ∷ []) in
    ap events (reverse-append (w ∷ []) ws) ∙ omega (arith, rest, last)

ok_same : {X : Type 0} (x y : X) → ◌≡◌ {A = Result X Refusal} (Ok x) (Ok y) → x ≡ y
ok_same x y e = cc

-- the number for this person
the_number : (cs : History) (name : List ℕ) (role : Role) → role_of cs name ≡ Some role
    → (n : ℕ) → ((p : Person) → p.role ≡ role → changes cs (result_map_both reverse (λ (refusal : Refusal). refusal) (shown_to cs (callers.Person name))) p ≡ n)
    → changes_for cs (callers.Person name) ≡ Ok n
the_number cs name role is n each =
    elim (person cs name) as (λ o. option_map (λ (p : Person). p.role) o ≡ Some role
    → result_map_both (changes cs (result_map_both reverse (λ (refusal : Refusal). refusal) (shown_to cs (callers.Person name)))) (λ (refusal : Refusal). refusal) (ok_or o refusals.UnknownCaller) ≡ Ok n) [
      | Some p ↦ λ h. (let its : p.role ≡ role = cc in ap Ok (each p its))
      | None ↦ λ h. absurd cc
    ] is

submitters_number : (cs : History) (name : List ℕ) → role_of cs name ≡ Some roles.Submitter → changes_for cs (callers.Person name) ≡ Ok (events (own cs name))
submitters_number cs name is =
    the_number cs name roles.Submitter is (events (own cs name)) (λ p its. rw its (rw (shown_own cs name is) (events-reverse (own cs name))))

pub submitters_numbers_tell : SubmittersNumbersTell
submitters_numbers_tell new cs name legal before after e =
    let numbers = ok_same (events (own (new ++ cs) name)) (events (own cs name)) (sym (submitters_number (new ++ cs) name after) ∙ e ∙ submitters_number cs name before) in
    submitters_see_own (new ++ cs) cs name after before ((later name new cs legal).still numbers)

none_new : (new cs : History) → length (new ++ cs) ≡ length cs → new ≡ []
none_new [] cs e = refl
none_new (i ∷ new) cs e = (let more = length-append new cs in absurd (omega (arith, e, more)))

others_number : (cs : History) (name : List ℕ) (role : Role) → sees role false ≡ true → role_of cs name ≡ Some role → changes_for cs (callers.Person name) ≡ Ok (length cs)
others_number cs name roles.Submitter h is = clash (sym h)
others_number cs name roles.Reviewer h is = the_number cs name roles.Reviewer is (length cs) (λ p its. rw its refl)
others_number cs name roles.Officer h is = the_number cs name roles.Officer is (length cs) (λ p its. rw its refl)
others_number cs name roles.Signer h is = the_number cs name roles.Signer is (length cs) (λ p its. rw its refl)

pub others_numbers_tell : OthersNumbersTell
others_numbers_tell new cs name role h before after e =
    none_new new cs (ok_same (length (new ++ cs)) (length cs) (sym (others_number (new ++ cs) name role h after) ∙ e ∙ others_number cs name role h before))
