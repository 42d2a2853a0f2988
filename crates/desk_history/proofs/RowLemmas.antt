-- The rows of a legal history's tables.
use Rattle.std.proofs.Common.{◌≡◌, ℕ, ◌+◌, ◌<◌, Bool, true, false, not, ◌&&◌, ◌||◌, cond, List, [], ◌∷◌, length, map, Option, Some, None, refl, sym, ◌∙◌, ap, arith}
use Rattle.std.specs.Prelude.{◌==◌, if◌then◌else◌, bytes_eq, codes}
use Rattle.std.specs.List.{list_any}
use Rattle.std.proofs.lemmas.Bool.{and_parts}
use Rattle.sbat.specs.declared.component.Component.{Component}
use Rattle.base.specs.declared.refusal.Refusal.TheVariants as refusals
use Rattle.desk_types.specs.declared.command.Command.{Command}
use Rattle.desk_types.specs.declared.command.Command.TheVariants as command
use Rattle.desk_types.specs.declared.command.Person.{Person}
use Rattle.desk_types.specs.declared.facts.Facts.{Facts}
use Rattle.desk_types.specs.declared.kind.ListedKind.TheVariants as kinds
use Rattle.desk_types.specs.declared.state.State.{State}
use Rattle.desk_types.specs.declared.state.State.TheVariants as states
use Rattle.desk_types.specs.Callers.{caller_name}
use Rattle.desk_history.specs.Calls.{History, Item, are_apart}
use Rattle.desk_history.specs.Level.{generations, names}
use Rattle.desk_history.specs.People.{has_name, has_token, people}
use Rattle.desk_history.specs.Proposals.{proposal_state}
use Rattle.desk_history.specs.Replies.{minute_of, minutes}
use Rattle.desk_history.specs.declared.rows.VoteRow.{VoteRow}
use Rattle.desk_history.specs.Requests.{Request, Returned, Submitted, is_returned, is_vote_of, is_withdrawn, numbered, request, returns, state, state_by, submitted, votes, votes_on}
use Rattle.desk_history.specs.Revocations.{revocations}
use Rattle.desk_history.specs.declared.rows.Minute.{Minute}
use Rattle.desk_history.specs.declared.rows.RequestRow.{RequestRow}
use Rattle.desk_history.specs.declared.rows.ReturnRow.{ReturnRow}
use Rattle.desk_history.specs.Tables.{level_row, request_row, return_row}
use Rattle.desk_history.specs.Laws.{RowsStandOnce, is_vote_key}
use Rattle.desk_history.specs.Refusals.{own_refusal, refuse_if, return_refusal, review_refusal}
use Rattle.desk_history.specs.Runs.{is_legal}
use Rattle.desk_history.specs.Verdicts.{is_barred, stands_in_db}
use Rattle.desk_history.proofs.KeyLemmas.{key_rows, keys_stand_once}
use Rattle.desk_history.proofs.ListLemmas.{apart-more, none_left, none_right, number_above, once_apart, or_none}
use Rattle.desk_history.proofs.ListingLemmas.{listed_apart}
use Rattle.desk_history.proofs.ProposalLemmas.{proposals_apart}
use Rattle.desk_history.proofs.RefusalLemmas.{no_refusal, unrefused}
use Rattle.desk_history.proofs.RunLemmas.{giving, newest}

-- numbers of calls: those of the calls before are lower

any_number : (n : ℕ) (cs : History) → length cs < n → list_any (λ (b : Minute). n == b.number) (minutes cs) ≡ false
any_number n [] h = refl
any_number n (i ∷ cs) h =
    or_none (n == length cs + 1) (list_any (λ (b : Minute). n == b.number) (minutes cs)) (number_above n (length cs + 1) (omega arith)) (any_number n cs (omega arith))

numbers_apart : (cs : History) → are_apart (λ (a b : Minute). a.number == b.number) (minutes cs) ≡ true
numbers_apart [] = refl
numbers_apart (i ∷ cs) =
    apart-more (λ (a b : Minute). a.number == b.number) (minute_of cs i) (minutes cs) (any_number (length cs + 1) cs (omega arith)) (numbers_apart cs)

-- numbers of requests, as those of calls

any_request : (n : ℕ) (at : Request → State) (ss : List Submitted) → length ss < n → list_any (λ (b : RequestRow). n == b.number) (map (λ r. request_row (at r) r) (numbered ss)) ≡ false
any_request n at [] h = refl
any_request n at (s ∷ ss) h =
    or_none (n == length ss + 1) (list_any (λ (b : RequestRow). n == b.number) (map (λ r. request_row (at r) r) (numbered ss))) (number_above n (length ss + 1) (omega arith)) (any_request n at ss (omega arith))

requests_apart : (at : Request → State) (ss : List Submitted) → are_apart (λ (a b : RequestRow). a.number == b.number) (map (λ r. request_row (at r) r) (numbered ss)) ≡ true
requests_apart at [] = refl
requests_apart at (s ∷ ss) =
    let r : Request = record { number = length ss + 1; submitter = s.submitter; title = s.submission.title; facts = s.submission.facts } in
    apart-more (λ (a b : RequestRow). a.number == b.number) (request_row (at r) r) (map (λ r. request_row (at r) r) (numbered ss)) (any_request (length ss + 1) at ss (omega arith)) (requests_apart at ss)

-- the conditions on which a call is accepted, command by command

-- people

one_name : (cs : History) (old : Item) (name : List ℕ) (given : Command) → own_refusal cs name given ≡ None → are_apart (λ (a b : Person). bytes_eq a.name b.name) (people cs) ≡ true →
    are_apart (λ (a b : Person). bytes_eq a.name b.name) (people (giving old given ∷ cs)) ≡ true
one_name cs old name (command.AddPerson p) own h =
    let taken : (bytes_eq p.name (codes "console") || list_any (has_name p.name) (people cs) || list_any (has_token p.token) (people cs)) ≡ false =
    unrefused (bytes_eq p.name (codes "console") || list_any (has_name p.name) (people cs) || list_any (has_token p.token) (people cs)) refusals.NameTaken own in
    let named : (bytes_eq p.name (codes "console") || list_any (has_name p.name) (people cs)) ≡ false =
    none_left (bytes_eq p.name (codes "console") || list_any (has_name p.name) (people cs)) (list_any (has_token p.token) (people cs)) taken in
    apart-more (λ (a b : Person). bytes_eq a.name b.name) p (people cs) (none_right (bytes_eq p.name (codes "console")) (list_any (has_name p.name) (people cs)) named) h
one_name cs old name _ own h = h

one_token : (cs : History) (old : Item) (name : List ℕ) (given : Command) → own_refusal cs name given ≡ None → are_apart (λ (a b : Person). bytes_eq a.token b.token) (people cs) ≡ true →
    are_apart (λ (a b : Person). bytes_eq a.token b.token) (people (giving old given ∷ cs)) ≡ true
one_token cs old name (command.AddPerson p) own h =
    let taken : (bytes_eq p.name (codes "console") || list_any (has_name p.name) (people cs) || list_any (has_token p.token) (people cs)) ≡ false =
    unrefused (bytes_eq p.name (codes "console") || list_any (has_name p.name) (people cs) || list_any (has_token p.token) (people cs)) refusals.NameTaken own in
    apart-more (λ (a b : Person). bytes_eq a.token b.token) p (people cs) (none_right (bytes_eq p.name (codes "console") || list_any (has_name p.name) (people cs)) (list_any (has_token p.token) (people cs)) taken) h
one_token cs old name _ own h = h

-- votes

any_vote : (v : VoteRow) (vs : List VoteRow) → list_any (is_vote_of v.reviewer) (votes_on vs v.request) ≡ list_any (is_vote_key v) vs
any_vote v [] = refl
any_vote v (w ∷ vs) =
    elim (v.request == w.request) as (λ b. list_any (is_vote_of v.reviewer) (cond b (w ∷ votes_on vs v.request) (votes_on vs v.request)) ≡ ((b && bytes_eq v.reviewer w.reviewer) || list_any (is_vote_key v) vs)) [
      | true ↦ ap (λ b. bytes_eq v.reviewer w.reviewer || b) (any_vote v vs)
      | false ↦ any_vote v vs
    ]

votes_first : (r : Option Request) (s : State) (vs : List VoteRow) (name : List ℕ) → review_refusal r s vs name ≡ None → list_any (is_vote_of name) vs ≡ false
votes_first None s vs name h = no_refusal h
votes_first (Some r) states.Open vs name h =
    elim (bytes_eq r.submitter name) as (λ b. (if b then Some refusals.OwnRequest else refuse_if (list_any (is_vote_of name) vs) refusals.AlreadyReviewed) ≡ None → list_any (is_vote_of name) vs ≡ false) [
      | true ↦ λ e. no_refusal e
      | false ↦ λ e. unrefused (list_any (is_vote_of name) vs) refusals.AlreadyReviewed e
    ] h
votes_first (Some r) _ vs name h = no_refusal h

one_vote : (cs : History) (old : Item) (given : Command) → own_refusal cs (caller_name old.call.caller) given ≡ None → are_apart is_vote_key (votes cs) ≡ true →
    are_apart is_vote_key (votes (giving old given ∷ cs)) ≡ true
one_vote cs old (command.Review b) own h =
    let v : VoteRow = record { request = b.request; reviewer = caller_name old.call.caller; vote = b.vote; note = b.note } in
    apart-more is_vote_key v (votes cs) (sym (any_vote v (votes cs)) ∙ votes_first (request cs b.request) (state cs b.request) (votes_on (votes cs) b.request) (caller_name old.call.caller) own) h
one_vote cs old _ own h = h

-- returns

any_return : (k : ℕ) (rs : List Returned) → list_any (λ (b : ReturnRow). k == b.request) (map return_row rs) ≡ list_any (λ (r : Returned). k == r.request) rs
any_return k [] = refl
any_return k (r ∷ rs) = ap (λ b. (k == r.request) || b) (any_return k rs)

unsigned : (r : Option Request) (is_signed is_taken : Bool) (vs : List VoteRow) (x : Facts) (barred listed : Bool) → return_refusal r (state_by is_signed is_taken vs) x barred listed ≡ None → is_signed ≡ false
unsigned r false is_taken vs x barred listed h = refl
unsigned None true is_taken vs x barred listed h = no_refusal h
unsigned (Some r) true is_taken vs x barred listed h = no_refusal h

one_return : (cs : History) (old : Item) (given : Command) → own_refusal cs (caller_name old.call.caller) given ≡ None → are_apart (λ (a b : ReturnRow). a.request == b.request) (map return_row (returns cs)) ≡ true →
    are_apart (λ (a b : ReturnRow). a.request == b.request) (map return_row (returns (giving old given ∷ cs))) ≡ true
one_return cs old (command.Return g) own h =
    let r : Returned = record { request = g.request; signer = caller_name old.call.caller; facts = g.facts } in
    let first : is_returned cs g.request ≡ false = unsigned (request cs g.request) (is_returned cs g.request) (is_withdrawn cs g.request) (votes_on (votes cs) g.request) g.facts (is_barred cs g.facts) (stands_in_db cs g.facts) own in
    apart-more (λ (a b : ReturnRow). a.request == b.request) (return_row r) (map return_row (returns cs)) (any_return g.request (returns cs) ∙ first) h
one_return cs old _ own h = h

-- the four over a legal history

record Rows (cs : History) : Type 0 where
  by_name : are_apart (λ (a b : Person). bytes_eq a.name b.name) (people cs) ≡ true
  by_token : are_apart (λ (a b : Person). bytes_eq a.token b.token) (people cs) ≡ true
  by_vote : are_apart is_vote_key (votes cs) ≡ true
  by_return : are_apart (λ (a b : ReturnRow). a.request == b.request) (map return_row (returns cs)) ≡ true

rows : (cs : History) → is_legal cs ≡ true → Rows cs
rows [] h = record { by_name = refl; by_token = refl; by_vote = refl; by_return = refl }
rows (i ∷ cs) h =
    let here = newest cs i h in
    let before : Rows cs = rows cs here.before in
    record {
      by_name = one_name cs i (caller_name i.call.caller) i.call.command here.new.own before.by_name;
      by_token = one_token cs i (caller_name i.call.caller) i.call.command here.new.own before.by_token;
      by_vote = one_vote cs i i.call.command here.new.own before.by_vote;
      by_return = one_return cs i i.call.command here.new.own before.by_return;
    }

-- components

any_level : (named : List Component) (t : List ℕ) (ts : List (List ℕ)) → list_any (λ (b : Component). bytes_eq t b.name) (map (level_row named) ts) ≡ list_any (bytes_eq t) ts
any_level named t [] = refl
any_level named t (u ∷ ts) = ap (λ b. bytes_eq t u || b) (any_level named t ts)

pub level_apart : (named : List Component) (ts : List (List ℕ)) → are_apart bytes_eq ts ≡ true → are_apart (λ (a b : Component). bytes_eq a.name b.name) (map (level_row named) ts) ≡ true
level_apart named [] h = refl
level_apart named (t ∷ ts) h =
    let both : (not (list_any (bytes_eq t) ts) ≡ true) × (are_apart bytes_eq ts ≡ true) = and_parts (not (list_any (bytes_eq t) ts)) (are_apart bytes_eq ts) h in
    rw (any_level named t ts, both.0) (level_apart named ts both.1)

pub rows_stand_once : RowsStandOnce
rows_stand_once owner cs h =
    let kept : Rows cs = rows cs h in
    record {
      numbers = numbers_apart cs;
      keys = key_rows cs (keys_stand_once cs h);
      names = kept.by_name;
      tokens = kept.by_token;
      requests = requests_apart (λ r. state cs r.number) (submitted cs);
      votes = kept.by_vote;
      returns = kept.by_return;
      listed = listed_apart cs;
      revoked_digests = once_apart (revocations kinds.Digest cs);
      revoked_certificates = once_apart (revocations kinds.Certificate cs);
      components = level_apart (generations cs) (names (generations cs)) (once_apart (map (λ x. x.name) (generations cs)));
      proposals = proposals_apart (λ p. proposal_state cs p.number) cs;
    }
