-- A view of whole tables, which shows them for every call.
use Rattle.std.proofs.Common.{◌≡◌, ℕ, true, ◌&&◌, ◌||◌, List, [], ◌∷◌, map, refl, sym, ◌∙◌, ap}
use Rattle.std.specs.Prelude.{◌==◌, bytes_eq, find}
use Rattle.std.specs.List.{list_any}
use Rattle.std.proofs.lemmas.Bool.{and_parts}
use Rattle.std.proofs.lemmas.List.Sorted.{list_any-IsPermutation}
use Rattle.sqlite_trees.proofs.ListLemmas.{IsPermutation-filter}
use Rattle.sbat.specs.declared.component.Component.{Component}
use Rattle.desk_types.specs.declared.command.Call.{Call}
use Rattle.desk_types.specs.declared.command.Person.{Person}
use Rattle.desk_types.specs.declared.kind.ListedKind.{ListedKind}
use Rattle.desk_types.specs.declared.kind.ListedKind.TheVariants as kinds
use Rattle.desk_types.specs.Callers.{caller_name}
use Rattle.desk_history.specs.declared.rows.Entry.{Entry}
use Rattle.desk_history.specs.declared.rows.Minute.{Minute}
use Rattle.desk_history.specs.declared.rows.ProposalRow.{ProposalRow}
use Rattle.desk_history.specs.declared.rows.RequestRow.{RequestRow}
use Rattle.desk_history.specs.declared.rows.VoteRow.{VoteRow}
use Rattle.desk_history.specs.Calls.{is_among}
use Rattle.desk_history.specs.Laws.{StandOnce, is_call_key}
use Rattle.desk_history.specs.Listing.{has_entry, is_entry}
use Rattle.desk_history.specs.People.{has_name, has_token}
use Rattle.desk_history.specs.Runs.{has_key}
use Rattle.desk_history.specs.Tables.{Tables, tables}
use Rattle.desk_history.specs.Writes.{is_named}
use Rattle.desk_history.proofs.RowLemmas.{rows_stand_once}
use Rattle.desk_rules.specs.declared.view.View.{View}
use Rattle.desk_rules.specs.Shown.{HoldsWhole, WholeTablesShow, is_proposal_row, is_request_row, key_of, keys_asked}
use Rattle.desk_rules.specs.Views.{ShowsLists, is_listing, revoked_rows, seen_revoked}
use Rattle.desk_rules.proofs.OrderLemmas.{find_in_any_order, one_number, one_text}

-- the keys of rows have a listing exactly where the rows have the entry
keys_have : (kind : ListedKind) (digest : List ℕ) (rows : List Entry) → list_any (is_listing kind digest) (map key_of rows) ≡ has_entry kind digest rows
keys_have kind digest [] = refl
keys_have kind digest (e ∷ rows) = ap (λ b. is_entry kind digest e || b) (keys_have kind digest rows)

one_call : (caller key : List ℕ) (a b : Minute) → has_key caller key a ≡ true → has_key caller key b ≡ true → is_call_key a b ≡ true
one_call caller key a b h k =
    let ha : (bytes_eq caller (caller_name a.caller) ≡ true) × (bytes_eq key a.key ≡ true) = and_parts (bytes_eq caller (caller_name a.caller)) (bytes_eq key a.key) h in
    let hb : (bytes_eq caller (caller_name b.caller) ≡ true) × (bytes_eq key b.key ≡ true) = and_parts (bytes_eq caller (caller_name b.caller)) (bytes_eq key b.key) k in
    ap (λ t. t && bytes_eq a.key b.key) (one_text caller (caller_name a.caller) (caller_name b.caller) ha.0 hb.0) ∙ one_text key a.key b.key ha.1 hb.1

module _ (v : View) (t : Tables) (stand : StandOnce t) (h : HoldsWhole v t) where
  named : (name : List ℕ) → find (has_name name) v.people.items ≡ find (has_name name) t.people
  named name = find_in_any_order (has_name name) (λ (a b : Person). bytes_eq a.name b.name) (λ a b. one_text name a.name b.name) t.people v.people.items stand.names h.people

  lists_whole : (c : Call) → ShowsLists v.lists t (keys_asked t c)
  lists_whole c = record {
    revoked = λ kind digest _. seen kind digest;
    listed = λ kind digest _. sym (list_any-IsPermutation (is_listing kind digest) (map key_of t.listed) v.lists.listed.items h.listed) ∙ keys_have kind digest t.listed;
    components = λ name _. find_in_any_order (is_named name) (λ (a b : Component). bytes_eq a.name b.name) (λ a b. one_text name a.name b.name) t.components v.lists.components.items stand.components h.components;
  }
    where
      seen : (kind : ListedKind) (digest : List ℕ) → is_among (seen_revoked v.lists kind) digest ≡ is_among (revoked_rows t kind) digest
      seen kinds.Digest digest = sym (list_any-IsPermutation (bytes_eq digest) t.revoked_digests v.lists.revoked_digests.items h.revoked_digests)
      seen kinds.Certificate digest = sym (list_any-IsPermutation (bytes_eq digest) t.revoked_certificates v.lists.revoked_certificates.items h.revoked_certificates)

pub whole_shows : WholeTablesShow
whole_shows v owner cs c legal h =
    let t : Tables = tables owner cs in
    let stand : StandOnce t = rows_stand_once owner cs legal in
    record {
      stamp = h.stamp;
      count = h.count;
      sizes = λ table _. h.sizes table;
      caller = named v t stand h (caller_name c.caller);
      names = λ name _. named v t stand h name;
      tokens = λ token _. find_in_any_order (has_token token) (λ (a b : Person). bytes_eq a.token b.token) (λ a b. one_text token a.token b.token) t.people v.people.items stand.tokens h.people;
      call = find_in_any_order (has_key (caller_name c.caller) c.key) is_call_key (one_call (caller_name c.caller) c.key) t.calls v.calls.items stand.keys h.calls;
      request = λ k _. find_in_any_order (is_request_row k) (λ (a b : RequestRow). a.number == b.number) (λ a b. one_number k a.number b.number) t.requests v.requests.items stand.requests h.requests;
      votes = λ k _. IsPermutation-filter (λ (w : VoteRow). k == w.request) t.votes v.votes.items h.votes;
      proposal = λ k _. find_in_any_order (is_proposal_row k) (λ (a b : ProposalRow). a.number == b.number) (λ a b. one_number k a.number b.number) t.proposals v.proposals.items stand.proposals h.proposals;
      lists = lists_whole v t stand h c;
    }
