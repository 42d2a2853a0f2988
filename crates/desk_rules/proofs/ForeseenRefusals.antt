-- The refusals that another officer's Confirm may meet.
use Rattle.std.proofs.Common.{◌≡◌, ℕ, Bool, true, false, not, ◌&&◌, Some, None, Err, Result, refl, sym, subst}
use Rattle.std.specs.Prelude.{IfErr, IsTrue, if◌then◌else◌, nat_lt}
use Rattle.std.specs.List.{list_any}
use Rattle.base.specs.declared.refusal.Refusal.{Refusal}
use Rattle.base.specs.declared.refusal.Refusal.TheVariants as refusals
use Rattle.desk_types.specs.Imports.{Imported}
use Rattle.desk_types.specs.declared.kind.ListedKind.TheVariants as kinds
use Rattle.desk_types.specs.declared.proposal.ProposalKind.{ProposalKind}
use Rattle.desk_types.specs.declared.proposal.ProposalKind.TheVariants as proposed
use Rattle.desk_types.specs.declared.proposal.ProposalState.{ProposalState}
use Rattle.desk_history.specs.DecisionRefusals.{may_answer}
use Rattle.desk_history.specs.Refusals.{confirm_by, is_closed, is_later, refuse_if}
use Rattle.desk_rules.specs.declared.view.Changes.{Changes}
use Rattle.desk_rules.specs.declared.view.View.{View}
use Rattle.desk_rules.specs.DecisionSteps.{force_refusal_in, is_lower_in}
use Rattle.desk_rules.specs.Foreseen.{may_foresee}
use Rattle.desk_rules.specs.Views.{seen_standing}

no_such : {A : Type 0} → false ≡ true → A
no_such h = cc

-- each is one that a decision may give
pub may_be_answered : (r : Refusal) → may_foresee r ≡ true → may_answer r ≡ true
may_be_answered refusals.NoSuchProposal h = refl
may_be_answered refusals.ProposalClosed h = refl
may_be_answered refusals.AlreadyRevoked h = refl
may_be_answered refusals.NotHigher h = refl
may_be_answered refusals.StampNotLater h = refl
may_be_answered refusals.Full h = refl
may_be_answered refusals.NoMemory h = refl
may_be_answered _ h = no_such h

pub answered_only : (r : Refusal) → may_foresee r ≡ true → (result : Result Changes Refusal) → result ≡ Err r → IfErr result (λ q. IsTrue (may_answer q))
answered_only r fine result is = subst (λ (out : Result Changes Refusal). IfErr out (λ q. IsTrue (may_answer q))) (sym is) (may_be_answered r fine)

given : (q r : Refusal) → may_foresee q ≡ true → Some q ≡ Some r → may_foresee r ≡ true
given q r fine h = let e : q ≡ r = cc in subst (λ x. may_foresee x ≡ true) e fine

none_given : {A : Type 0} {r : Refusal} → None ≡ Some r → A
none_given h = cc

refused : (b : Bool) (q r : Refusal) → may_foresee q ≡ true → refuse_if b q ≡ Some r → may_foresee r ≡ true
refused true q r fine h = given q r fine h
refused false q r fine h = none_given h

raise_refused : (low : Bool) (early : Bool) (r : Refusal) → (if low then Some refusals.NotHigher else refuse_if early refusals.StampNotLater) ≡ Some r → may_foresee r ≡ true
raise_refused true early r h = given refusals.NotHigher r refl h
raise_refused false early r h = refused early refusals.StampNotLater r refl h

-- those of the entries
pub force_foreseen : (v : View) (kind : ProposalKind) (n : Imported) (names : ℕ) (r : Refusal) → force_refusal_in v kind n names ≡ Some r → may_foresee r ≡ true
force_foreseen v proposed.Digest n names r h = refused (list_any ((seen_standing v.lists).revoked kinds.Digest) n.digests) refusals.AlreadyRevoked r refl h
force_foreseen v proposed.Certificate n names r h = refused (list_any ((seen_standing v.lists).revoked kinds.Certificate) n.certificates) refusals.AlreadyRevoked r refl h
force_foreseen v proposed.Level n names r h = raise_refused (list_any (is_lower_in v.lists.components.items) n.components) (not (is_later v.stamp n.stamp)) r h
force_foreseen v proposed.Import n names r h = refused (nat_lt 0 names && not (is_later v.stamp n.stamp)) refusals.StampNotLater r refl h

-- that of a closed proposal
pub closed_foreseen : (state : ProposalState) (r : Refusal) → confirm_by state false None ≡ Some r → may_foresee r ≡ true
closed_foreseen state r h = refused (is_closed state) refusals.ProposalClosed r refl h
