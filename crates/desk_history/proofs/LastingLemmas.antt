-- Impacts at the look and at the Confirm.
use Rattle.std.proofs.Common.{◌≡◌, ◌⊎◌, ◌↔◌, ℕ, true, not, List, ◌∷◌, map, Option, Some, None, refl, sym, ◌∙◌, ap, subst, inl, inr}
use Rattle.std.specs.Prelude.{IsTrue, is_some, option_map, reverse, Ok, Err}
use Rattle.std.specs.List.{Contains}
use Rattle.std.specs.Option.{option_map_or, option_or}
use Rattle.std.proofs.lemmas.Bool.{or_cases, or_left, or_right}
use Rattle.base.specs.declared.refusal.Refusal.{Refusal}
use Rattle.base.specs.declared.refusal.Refusal.TheVariants as refusals
use Rattle.desk_types.specs.declared.command.Call.{Call}
use Rattle.desk_types.specs.declared.command.Command.{Command}
use Rattle.desk_types.specs.declared.command.Command.TheVariants as command
use Rattle.desk_types.specs.declared.facts.Facts.{Facts}
use Rattle.desk_types.specs.declared.proposal.ProposalState.{ProposalState}
use Rattle.desk_history.specs.Calls.{GoesOnFrom, History, item}
use Rattle.desk_history.specs.Forces.{forced, nothing}
use Rattle.desk_history.specs.Images.{Image, images}
use Rattle.desk_history.specs.Impact.{Impact, after, another_refusal, impact_of, standing_of, would_force}
use Rattle.desk_history.specs.ImpactLaws.{ImpactsLast}
use Rattle.desk_history.specs.Limits.{is_within}
use Rattle.desk_history.specs.Proposals.{Proposal, proposal, proposal_state}
use Rattle.desk_history.specs.Refusals.{refuse_if}
use Rattle.desk_history.specs.Runs.{answer, is_accepted, next}
use Rattle.desk_history.specs.Verdicts.{bars, is_barred}
use Rattle.desk_history.proofs.EntriesAloneLemmas.{entries_bar}
use Rattle.desk_history.proofs.ImpactLemmas.{barred_exactly, kept, shown_impact}
use Rattle.desk_history.proofs.ProposalShownLemmas.{proposals_stay}
use Rattle.desk_history.proofs.VerdictLemmas.{what_is_barred_stays_barred}

-- a proposal names the same entries later
same_entries : (cs later : History) (k : ℕ) → proposal later k ≡ proposal cs k → would_force later k ≡ would_force cs k
same_entries cs later k e = ap (λ o. option_map_or forced (option_map (λ (p : Proposal). p.named.entries) o) nothing) e

abbrev listed_in : History → ℕ → List Image
listed_in cs k = map (λ b. b.image) (impact_of cs k).bars

-- the impact of a proposal that is there lasts
lasts : (cs later : History) (k : ℕ) → GoesOnFrom cs later → IsTrue (is_some (proposal cs k)) → (m : Image) → Contains (images cs) m
    → IsTrue (is_barred (after later k) m.facts) ↔ (IsTrue (is_barred later m.facts) ⊎ Contains (listed_in cs k) m)
lasts cs later k more some m among = (forth, back)
  where
    same : would_force later k ≡ would_force cs k
    same = same_entries cs later k (proposals_stay cs later k more some)

    at_look : IsTrue (is_barred (after cs k) m.facts) ↔ (IsTrue (is_barred cs m.facts) ⊎ Contains (listed_in cs k) m)
    at_look = barred_exactly cs k (images cs) (listed_in cs k) (kept cs k (reverse (images cs))) m among

    stays : IsTrue (is_barred cs m.facts) → IsTrue (is_barred later m.facts)
    stays h = what_is_barred_stays_barred cs later m.facts more h

    forth : IsTrue (is_barred (after later k) m.facts) → IsTrue (is_barred later m.facts) ⊎ Contains (listed_in cs k) m
    forth h =
        elim (or_cases (is_barred later m.facts) (bars (standing_of (would_force later k)) m.facts) (sym (entries_bar later k m.facts) ∙ h)) [
          | inl before ↦ inl before
          | inr by ↦ (let entries : bars (standing_of (would_force cs k)) m.facts ≡ true = ap (λ f. bars (standing_of f) m.facts) (sym same) ∙ by in
              elim (at_look.0 (entries_bar cs k m.facts ∙ or_right (is_barred cs m.facts) (bars (standing_of (would_force cs k)) m.facts) entries)) [
                | inl was ↦ inl (stays was)
                | inr listed ↦ inr listed
              ])
        ]

    still : IsTrue (is_barred later m.facts) → IsTrue (is_barred (after later k) m.facts)
    still h = entries_bar later k m.facts ∙ or_left (is_barred later m.facts) (bars (standing_of (would_force later k)) m.facts) h

    back : IsTrue (is_barred later m.facts) ⊎ Contains (listed_in cs k) m → IsTrue (is_barred (after later k) m.facts)
    back (inl h) = still h
    back (inr listed) =
        elim (or_cases (is_barred cs m.facts) (bars (standing_of (would_force cs k)) m.facts) (sym (entries_bar cs k m.facts) ∙ at_look.1 (inr listed))) [
          | inl was ↦ still (stays was)
          | inr by ↦ entries_bar later k m.facts
              ∙ or_right (is_barred later m.facts) (bars (standing_of (would_force later k)) m.facts) (ap (λ f. bars (standing_of f) m.facts) same ∙ by)
        ]

-- ---- an impact that is shown

-- has its proposal
its_proposal : (cs : History) (o : Option Proposal) (at : ProposalState) (full : Option Refusal) (w shown : Impact)
    → option_map_or Err (option_or (another_refusal cs o at) full) (Ok w) ≡ Ok shown → is_some o ≡ true
its_proposal cs None at full w shown h = cc
its_proposal cs (Some p) at full w shown h = refl

-- a Confirm bars what one by nobody would
barred_then : (later : History) (c : Call) (k : ℕ) (x : Facts) → c.command ≡ command.Confirm k → is_accepted (answer later c) ≡ true → is_barred (next later c) x ≡ is_barred (after later k) x
barred_then later c k x is accepted =
    ap (λ (l : History). is_barred l x) joined ∙ ap (λ (g : Command). is_barred (item (record c { command = g }) ∷ later) x) is
  where
    joined : next later c ≡ item c ∷ later
    joined = rw accepted refl

pub impacts_last : ImpactsLast
impacts_last cs later c k foretold shown more is accepted m among =
    let some : is_some (proposal cs k) ≡ true =
    its_proposal cs (proposal cs k) (proposal_state cs k) (refuse_if (not (is_within (after cs k))) refusals.Full) (impact_of cs k) foretold shown in
    let same : foretold ≡ impact_of cs k = shown_impact cs k foretold shown in
    subst (λ b. (b ≡ true) ↔ (IsTrue (is_barred later m.facts) ⊎ Contains (map (λ b. b.image) foretold.bars) m)) (sym (barred_then later c k m.facts is accepted))
    (subst (λ (w : Impact). IsTrue (is_barred (after later k) m.facts) ↔ (IsTrue (is_barred later m.facts) ⊎ Contains (map (λ b. b.image) w.bars) m)) (sym same) (lasts cs later k more some m among))
