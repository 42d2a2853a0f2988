-- No person of a desk has the empty name, and no call the empty key: so a view without people and
-- calls shows the tables for a Confirm by nobody.
use Rattle.std.proofs.Common.{◌≡◌, ℕ, Bool, true, false, ◌&&◌, List, [], ◌∷◌, Option, Some, None, length, refl, sym, ap, subst, ◌∙◌, All, IsTrue}
use Rattle.std.specs.Prelude.{bytes_eq, find, filter_map, if◌then◌else◌}
use Rattle.std.specs.List.{cons_option}
use Rattle.std.proofs.lemmas.List.Elements.{All-cons, All-head, All-nil, All-tail}
use Rattle.desk_types.specs.Callers.{caller_name}
use Rattle.desk_types.specs.Commands.{IsCommand}
use Rattle.desk_types.specs.Forms.{is_key, is_person_name}
use Rattle.desk_types.specs.Naming.{person_added, proposal_named, request_named}
use Rattle.desk_types.specs.declared.command.Command.{Command}
use Rattle.desk_types.specs.declared.command.Command.TheVariants as command
use Rattle.desk_types.specs.declared.command.Person.{Person}
use Rattle.desk_history.specs.Calls.{History}
use Rattle.desk_history.specs.Formed.{IsHistory, IsItem, IsReadable}
use Rattle.desk_history.specs.People.{has_name, people}
use Rattle.desk_history.specs.Replies.{minutes}
use Rattle.desk_history.specs.Runs.{has_key}
use Rattle.desk_history.specs.Tables.{Tables, tables}
use Rattle.desk_history.specs.declared.rows.Minute.{Minute}
use Rattle.desk_history.specs.declared.rows.ProposalRow.{ProposalRow}
use Rattle.desk_history.specs.declared.rows.RequestRow.{RequestRow}
use Rattle.desk_history.specs.declared.rows.VoteRow.{VoteRow}
use Rattle.desk_rules.specs.Keys.{keys_with}
use Rattle.desk_rules.specs.Shown.{Shows, is_proposal_row, keys_asked, may_put, rows_in, size_in}
use Rattle.desk_rules.specs.Views.{ShowsLists}
use Rattle.desk_rules.specs.declared.view.LimitedTable.{LimitedTable}
use Rattle.desk_rules.specs.declared.view.View.{View}
use Rattle.store_proposals.specs.Reading.{IsStamped}
use Rattle.store_decision_rows.specs.Confirming.{to_confirm}
use Rattle.store_decision_rows.specs.Named.{HoldsNoRowBeyond, is_named_person}
use Rattle.store_decision_rows.specs.Steps.{NamesAll, ShowsProposal}
use Rattle.store_decision_rows.specs.lists.Lists.{HoldsNoOther}

-- what none of them passes isn't found
none_passes : {X : Type 0} (p : X → Bool) (P : X → Type 0) → ((x : X) → P x → p x ≡ false) → (xs : List X) → All P xs → find p xs ≡ None
none_passes p P fails [] all = refl
none_passes p P fails (x ∷ xs) all =
    ap (λ b. if b then Some x else find p xs) (fails x (All-head P x xs all)) ∙ none_passes p P fails xs (All-tail P x xs all)

-- ---- names

abbrev IsNamed : Person → Type 0
IsNamed p = is_person_name p.name ≡ true

with_added : (c : Command) → IsCommand c → (ps : List Person) → All IsNamed ps → All IsNamed (cons_option (person_added c) ps)
with_added (command.AddPerson p) f ps all = All-cons IsNamed p ps f.0 all
with_added _ f ps all = all

people_named : (cs : History) → All IsItem cs → All IsNamed (people cs)
people_named [] all = All-nil IsNamed
people_named (i ∷ cs) all = with_added i.call.command (All-head IsItem i cs all).forms (people cs) (people_named cs (All-tail IsItem i cs all))

no_name : (name : List ℕ) → is_person_name name ≡ true → bytes_eq [] name ≡ false
no_name [] h = absurd (let clash = h in cc)
no_name (b ∷ bs) h = refl

-- ---- keys

no_key : (key : List ℕ) → is_key key ≡ true → bytes_eq [] key ≡ false
no_key [] h = absurd (let clash = h in cc)
no_key (b ∷ bs) h = refl

and_false : (a : Bool) → (a && false) ≡ false
and_false true = refl
and_false false = refl

not_keyed : (m : Minute) → IsReadable m → has_key [] [] m ≡ false
not_keyed m h = ap (λ b. bytes_eq [] (caller_name m.caller) && b) (no_key m.key h.key) ∙ and_false (bytes_eq [] (caller_name m.caller))

-- ---- the tables of a desk's history

pub names_all : (owner : List ℕ) (cs : History) → IsHistory cs → All IsReadable (minutes cs) → All IsStamped (tables owner cs).proposals → NamesAll (tables owner cs)
names_all owner cs h readable stamped = record {
  people = none_passes (has_name []) IsNamed (λ p is. no_name p.name is) (people cs) (people_named cs h.formed);
  calls = none_passes (has_key [] []) IsReadable not_keyed (minutes cs) readable;
  proposals = stamped;
}

-- ---- a view for a Confirm, without people and calls

shows_confirm : (v : View) (t : Tables) (k : ℕ) → NamesAll t → v.stamp ≡ t.desk.stamp → v.sizes.calls ≡ length t.calls
    → ((table : LimitedTable) → IsTrue (may_put (command.Confirm k) table) → size_in v.sizes table ≡ rows_in t table) → v.people.items ≡ [] → v.calls.items ≡ []
    → ShowsProposal v.proposals.items t (Some k) → ShowsLists v.lists t (keys_asked t (to_confirm k)) → Shows v t (to_confirm k)
shows_confirm v t k all stamp count sizes nobody no_call proposal lists = record {
  stamp = stamp;
  count = count;
  sizes = sizes;
  caller = subst (λ l. find (has_name []) l ≡ find (has_name []) t.people) (sym nobody) (sym all.people);
  names = λ name asked. absurd (let clash = asked in cc);
  tokens = λ token asked. absurd (let clash = asked in cc);
  call = subst (λ l. find (has_key [] []) l ≡ find (has_key [] []) t.calls) (sym no_call) (sym all.calls);
  request = λ n none. absurd cc;
  votes = λ n none. absurd cc;
  proposal = proposal;
  lists = lists;
}

holds_confirm : (v : View) (k : ℕ) → v.people.items ≡ [] → v.calls.items ≡ [] → v.requests.items ≡ [] → v.votes.items ≡ []
    → All (λ (r : ProposalRow). proposal_named (command.Confirm k) ≡ Some r.number) v.proposals.items → HoldsNoOther v.lists (keys_with (command.Confirm k) (λ n. find (is_proposal_row n) v.proposals.items))
    → HoldsNoRowBeyond v (to_confirm k)
holds_confirm v k people calls requests votes proposals lists = record {
  people = subst (All (λ p. IsTrue (is_named_person [] (command.Confirm k) p))) (sym people) (All-nil (λ p. IsTrue (is_named_person [] (command.Confirm k) p)));
  calls = subst (All (λ m. IsTrue (has_key [] [] m))) (sym calls) (All-nil (λ m. IsTrue (has_key [] [] m)));
  requests = subst (All (λ (r : RequestRow). request_named (command.Confirm k) ≡ Some r.number)) (sym requests) (All-nil (λ (r : RequestRow). request_named (command.Confirm k) ≡ Some r.number));
  votes = subst (All (λ (r : VoteRow). request_named (command.Confirm k) ≡ Some r.request)) (sym votes) (All-nil (λ (r : VoteRow). request_named (command.Confirm k) ≡ Some r.request));
  proposals = proposals;
  lists = lists;
}

-- the same of a command that is this Confirm
module _ (v : View) (k : ℕ) (c : Command) (is : c ≡ command.Confirm k) where
  pub shows_as : (t : Tables) → NamesAll t → v.stamp ≡ t.desk.stamp → v.sizes.calls ≡ length t.calls
      → ((table : LimitedTable) → IsTrue (may_put c table) → size_in v.sizes table ≡ rows_in t table) → v.people.items ≡ [] → v.calls.items ≡ []
      → ShowsProposal v.proposals.items t (proposal_named c) → ShowsLists v.lists t (keys_with c (λ n. find (is_proposal_row n) t.proposals)) → Shows v t (to_confirm k)
  shows_as t all stamp count sizes nobody no_call proposal lists =
      shows_confirm v t k all stamp count (subst (λ (x : Command). (table : LimitedTable) → IsTrue (may_put x table) → size_in v.sizes table ≡ rows_in t table) is sizes) nobody no_call
      (subst (λ x. ShowsProposal v.proposals.items t (proposal_named x)) is proposal) (subst (λ x. ShowsLists v.lists t (keys_with x (λ n. find (is_proposal_row n) t.proposals))) is lists)

  pub holds_as : v.people.items ≡ [] → v.calls.items ≡ [] → v.requests.items ≡ [] → v.votes.items ≡ [] → All (λ r. proposal_named c ≡ Some r.number) v.proposals.items
      → HoldsNoOther v.lists (keys_with c (λ n. find (is_proposal_row n) v.proposals.items)) → HoldsNoRowBeyond v (to_confirm k)
  holds_as people calls requests votes proposals lists =
      holds_confirm v k people calls requests votes (subst (λ x. All (λ (r : ProposalRow). proposal_named x ≡ Some r.number) v.proposals.items) is proposals)
      (subst (λ x. HoldsNoOther v.lists (keys_with x (λ n. find (is_proposal_row n) v.proposals.items))) is lists)
