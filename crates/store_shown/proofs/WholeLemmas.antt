-- One proposal with all that it names, as an officer is shown it.
use Rattle.std.proofs.Common.{◌≡◌, ◌==◌, ℕ, true, List, filter, Option, Some, None, option_map, Result, Ok, Err, refl, sym, ap, subst, ◌∙◌}
use Rattle.std.specs.Prelude.{ok_or}
use Rattle.sqlite_trees.proofs.ListLemmas.{filter-map}
use Rattle.base.specs.declared.refusal.Refusal.{Refusal}
use Rattle.base.specs.declared.refusal.Refusal.TheVariants as refusals
use Rattle.desk_types.specs.declared.caller.Caller.TheVariants as callers
use Rattle.desk_types.specs.declared.shown.ShownRequest.{ShownRequest}
use Rattle.desk_exports.specs.Readings.{GivesProposal}
use Rattle.desk_exports.specs.declared.shown.Shown.{Shown}
use Rattle.desk_exports.specs.declared.shown.Shown.TheVariants as answers
use Rattle.desk_history.specs.Calls.{History}
use Rattle.desk_history.specs.ProposalShown.{proposal_for, proposal_shown, shown_to_officer}
use Rattle.desk_history.specs.Proposals.{Proposal, is_proposal, proposal_state, proposals}
use Rattle.desk_history.specs.Shown.{IsGiven}
use Rattle.desk_history.specs.Tables.{proposal_row, tables}
use Rattle.desk_history.specs.declared.rows.ProposalRow.{ProposalRow}
use Rattle.desk_history.proofs.ListLemmas.{number_is}
use Rattle.desk_history.proofs.ShownLemmas.{found_passes}
use Rattle.store_reads.specs.Reads.{listed}
use Rattle.store_shown.specs.Telling.{IsOfficer}
use Rattle.store_shown.proofs.ItemLemmas.{found_listed, unmapped}
use Rattle.store_shown.proofs.OfficerLemmas.{allowed, refused}

module _ (owner : List ℕ) (cs : History) (k : ℕ) where
  abbrev row : Proposal → ProposalRow
  row p = proposal_row (proposal_state cs p.number) p

  -- the result of the read of the proposal
  abbrev pub IsFound : Option ProposalRow → Type 0
  IsFound found = filter (λ (r : ProposalRow). k == r.number) (tables owner cs).proposals ≡ listed found

  same_number : (found : Option Proposal) → filter (is_proposal k) (proposals cs) ≡ listed found → option_map (proposal_row (proposal_state cs k)) found ≡ option_map row found
  same_number None e = refl
  same_number (Some p) e =
      let passes : (k == p.number) ≡ true = found_passes (is_proposal k) (proposals cs) p (found_listed (is_proposal k) (proposals cs) (Some p) e) in
      ap (λ n. Some (proposal_row (proposal_state cs n) p)) (number_is k p.number passes)

  shown_is : (found : Option ProposalRow) → IsFound found → proposal_shown cs k ≡ found
  shown_is found e =
      let it = unmapped row (filter (is_proposal k) (proposals cs)) found (sym (filter-map (λ (r : ProposalRow). k == r.number) row (proposals cs)) ∙ e) in
      ap (option_map (proposal_row (proposal_state cs k))) (found_listed (is_proposal k) (proposals cs) it.0 it.1) ∙ same_number it.0 it.1 ∙ sym it.2

  module _ (name : List ℕ) {L : Type 0} (holds : L → List ShownRequest → Type 0) where
    -- the answer that is given is due
    abbrev Gives : Result (Shown L) Refusal → Type 0
    Gives given = IsGiven (proposal_for cs (callers.Person name) k) given (GivesProposal holds)

    pub gives_refusal : (r : Refusal) → IsOfficer cs name (Err r) → Gives (Err r)
    gives_refusal r h = subst (λ d. IsGiven d (Err r) (GivesProposal holds)) (sym (ap (shown_to_officer (proposal_shown cs k)) (refused cs name r h))) refl

    due : IsOfficer cs name (Ok tt) → (found : Option ProposalRow) → IsFound found → proposal_for cs (callers.Person name) k ≡ ok_or found refusals.NoSuchProposal
    due h found e = ap (shown_to_officer (proposal_shown cs k)) (allowed cs name h).1 ∙ ap (λ o. ok_or o refusals.NoSuchProposal) (shown_is found e)

    pub gives_none : IsOfficer cs name (Ok tt) → IsFound None → Gives (Err refusals.NoSuchProposal)
    gives_none h e = subst (λ d. IsGiven d (Err refusals.NoSuchProposal) (GivesProposal holds)) (sym (due h None e)) refl

    pub gives_row : IsOfficer cs name (Ok tt) → (row : ProposalRow) → IsFound (Some row) → Gives (Ok (answers.Proposal row))
    gives_row h row e = subst (λ d. IsGiven d (Ok (answers.Proposal row)) (GivesProposal holds)) (sym (due h (Some row) e)) refl
