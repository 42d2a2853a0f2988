-- A request shown by its rows, as the history has it.
use Rattle.std.proofs.Common.{◌≡◌, ℕ, ◌==◌, List, [], ◌∷◌, map, filter, Option, Some, None, option_map, refl, sym, ap, subst, ◌∙◌}
use Rattle.std.specs.List.Sorted.{IsPermutation}
use Rattle.std.proofs.lemmas.List.Sorted.{IsPermutation-map, IsPermutation-trans}
use Rattle.sqlite_trees.proofs.ListLemmas.{filter-map}
use Rattle.desk_types.specs.declared.facts.Facts.{Facts}
use Rattle.desk_types.specs.declared.shown.ShownRequest.{ShownRequest}
use Rattle.desk_history.specs.Calls.{History}
use Rattle.desk_history.specs.Formed.{IsHistory}
use Rattle.desk_history.specs.Requests.{Request, Returned, has_number, requests, returns, state, votes, votes_on}
use Rattle.desk_history.specs.Shown.{IsShown, returned, shown_return, shown_vote, whole}
use Rattle.desk_history.specs.Tables.{placed_from, request_row, return_row, tables}
use Rattle.desk_history.specs.declared.rows.RequestRow.{RequestRow}
use Rattle.desk_history.specs.declared.rows.ReturnRow.{ReturnRow}
use Rattle.desk_history.proofs.RowLemmas.{rows_stand_once}
use Rattle.store_reads.specs.Reads.{listed}
use Rattle.store_shown.specs.Steps.{IsShownIn, shown_row}
use Rattle.store_shown.proofs.ItemLemmas.{found_listed, unmapped}
use Rattle.store_shown.proofs.PartLemmas.{carried_are, certificates_of_one, components_are, components_of_one, one_within, requests_within}
use Rattle.store_shown.proofs.VoteLemmas.{in_order}

-- the row of a request of the history
abbrev pub row_of : History → Request → RequestRow
row_of cs r = request_row (state cs r.number) r

facts_same : (a b : Facts) → a.extent ≡ b.extent → a.file ≡ b.file → a.digest ≡ b.digest → a.signing ≡ b.signing → a.carried ≡ b.carried → a.components ≡ b.components → a ≡ b
facts_same a b e f d s c m =
    ap (λ x. record a { extent = x }) e ∙ ap (λ x. record a { extent = b.extent; file = x }) f ∙ ap (λ x. record a { extent = b.extent; file = b.file; digest = x }) d
    ∙ ap (λ x. record a { extent = b.extent; file = b.file; digest = b.digest; signing = x }) s ∙ ap (λ x. record b { carried = x; components = a.components }) c ∙ ap (λ x. record b { components = x }) m

same_return : (o : Option Returned) → option_map shown_row (option_map return_row o) ≡ option_map shown_return o
same_return None = refl
same_return (Some r) = refl

-- the returned file, by the rows of its table
return_is : (cs : History) (k : ℕ) (row : Option ReturnRow) → filter (λ (x : ReturnRow). k == x.request) (map return_row (returns cs)) ≡ listed row
    → option_map shown_row row ≡ option_map shown_return (returned cs k)
return_is cs k row e =
    let it = unmapped return_row (filter (λ (x : Returned). k == x.request) (returns cs)) row (sym (filter-map (λ (x : ReturnRow). k == x.request) return_row (returns cs)) ∙ e) in
    let found : returned cs k ≡ it.0 = found_listed (λ (x : Returned). k == x.request) (returns cs) it.0 it.1 in
    ap (option_map shown_row) it.2 ∙ same_return it.0 ∙ ap (option_map shown_return) (sym found)

pub is_shown : (owner : List ℕ) (cs : History) → IsHistory cs → (r : Request) → filter (has_number r.number) (requests cs) ≡ r ∷ []
    → (s : ShownRequest) → IsShownIn (tables owner cs) (row_of cs r) s → IsShown (whole cs r) s
is_shown owner cs h r one s shown =
    let k = r.number in
    let are = shown.are in
    let made = shown.made in
    let within = one_within (requests cs) k r one (requests_within cs h.formed) in
    let carried : s.facts.carried ≡ r.facts.carried =
    carried_are r shown.parts.certificates.items s.facts.carried within.ascending
    (subst (λ l. IsPermutation l shown.parts.certificates.items) (certificates_of_one k (requests cs) r one) are.certificates) made.carried in
    let components : s.facts.components ≡ r.facts.components =
    components_are k r.facts.components s.facts.components
    (subst (IsPermutation (placed_from k 0 r.facts.components)) made.components
    (subst (λ l. IsPermutation l shown.parts.components.items) (components_of_one k (requests cs) r one) are.components)) in
    let all : IsPermutation (map shown_vote (votes_on (votes cs) k)) s.votes =
    IsPermutation-trans (map shown_vote (votes_on (votes cs) k)) (map shown_vote shown.parts.votes.items) s.votes
    (IsPermutation-map shown_vote (votes_on (votes cs) k) shown.parts.votes.items are.votes) made.votes in
    record {
      number = made.number;
      submitter = made.submitter;
      title = made.title;
      facts = facts_same s.facts r.facts made.extent made.file made.digest made.signing carried components;
      state = made.state;
      votes = all;
      order = in_order k (votes cs) (rows_stand_once owner cs h.legal).votes s.votes all made.order;
      returned = made.returned ∙ return_is cs k shown.parts.returned are.returned;
    }
