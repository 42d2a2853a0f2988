use Rattle.std.proofs.Common.{◌≡◌, ◌∙◌, Bool, suc, List, [], ◌∷◌, count_by, map, length, filter, refl, sym, ap}
use Rattle.std.proofs.lemmas.List.{length-map}
use Rattle.std.proofs.lemmas.List.Sums.{length-filter}
use Rattle.sqlite_trees.proofs.ListLemmas.{filter-map}
use Rattle.desk_types.specs.declared.state.State.{State}
use Rattle.desk_types.specs.declared.state.State.TheVariants as states
use Rattle.desk_history.specs.Calls.{History}
use Rattle.desk_history.specs.Level.{generations, names}
use Rattle.desk_history.specs.Replies.{minutes}
use Rattle.desk_history.specs.Requests.{Request, is_state, requests, state}
use Rattle.desk_history.specs.Tables.{level_row, request_row}
use Rattle.desk_history.specs.declared.rows.RequestRow.{RequestRow}
use Rattle.desk_exports.specs.Reports.{count_in}
use Rattle.store_counts.proofs.laws.tables_count_their_history.Goals as goal

count_by-map : {X Y : Type 0} (f : X → Y) (p : Y → Bool) (xs : List X) → count_by p (map f xs) ≡ count_by (λ x. p (f x)) xs
count_by-map f p xs =
    sym (length-filter p (map f xs)) ∙ ap length (filter-map p f xs) ∙ length-map (filter (λ x. p (f x)) xs) f ∙ length-filter (λ x. p (f x)) xs

in_state : (s : State) (cs : History) → count_by (λ (r : RequestRow). is_state s r.state) (map (λ r. request_row (state cs r.number) r) (requests cs)) ≡ count_in s cs
in_state s cs = count_by-map (λ (r : Request). request_row (state cs r.number) r) (λ (r : RequestRow). is_state s r.state) (requests cs)

minutes-length : (cs : History) → length (minutes cs) ≡ length cs
minutes-length [] = refl
minutes-length (i ∷ cs) = ap suc (minutes-length cs)

pub returns : goal.returns
returns c owner cs n t = record {
  people = t.people;
  requests = t.requests.all ∙ length-map (requests cs) (λ r. request_row (state cs r.number) r);
  still_open = t.requests.still_open ∙ in_state states.Open cs;
  approved = t.requests.approved ∙ in_state states.Approved cs;
  rejected = t.requests.rejected ∙ in_state states.Rejected cs;
  withdrawn = t.requests.withdrawn ∙ in_state states.Withdrawn cs;
  signed = t.requests.signed ∙ in_state states.Signed cs;
  listed_digests = t.lists.listed.digests;
  listed_certificates = t.lists.listed.certificates;
  revoked_digests = t.lists.revoked.digests;
  revoked_certificates = t.lists.revoked.certificates;
  components = t.lists.components ∙ length-map (names (generations cs)) (level_row (generations cs));
  calls = t.calls ∙ minutes-length cs;
  stamp = t.lists.stamp;
}
