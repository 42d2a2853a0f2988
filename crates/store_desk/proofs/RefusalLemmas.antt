-- Refusals of readings.
use Rattle.std.proofs.Common.{◌⊎◌, inl, inr, IsTrue, false, refl, sym, subst, Result, Ok, Err}
use Rattle.std.specs.Prelude.{◌≡◌, IfErr, IsErrOf}
use Rattle.base.specs.declared.refusal.Refusal.{Refusal}
use Rattle.base.specs.declared.refusal.Refusal.TheVariants as refusals
use Rattle.desk_exports.specs.Readings.{hides_impact, may_refuse}
use Rattle.desk_exports.specs.declared.reading.Reading.{Reading}
use Rattle.desk_exports.specs.declared.reading.Reading.TheVariants as read
use Rattle.desk_rules.specs.Foreseen.{may_foresee}
use Rattle.store_reads.specs.Failures.{IsFailure}
use Rattle.store_desk.specs.Impacts.{IsImpactRefusal}

-- ---- impacts

not_true : IsTrue false → ⊥
not_true h = cc

foreseen : (r : Refusal) → IsTrue (may_foresee r) → IsTrue (hides_impact r) ⊎ IsFailure r
foreseen refusals.NoSuchProposal h = inl refl
foreseen refusals.ProposalClosed h = inl refl
foreseen refusals.AlreadyRevoked h = inl refl
foreseen refusals.NotHigher h = inl refl
foreseen refusals.StampNotLater h = inl refl
foreseen refusals.Full h = inl refl
foreseen refusals.NoMemory h = inr (inl refl)
foreseen _ h = absurd (not_true h)

-- a refusal of an impact is one of its reading
pub impact_refused : (r : Refusal) → IsImpactRefusal r → IsTrue (hides_impact r) ⊎ IsFailure r
impact_refused r (inl (inl is)) = inl (subst (λ x. IsTrue (hides_impact x)) (sym is) refl)
impact_refused r (inl (inr is)) = inl (subst (λ x. IsTrue (hides_impact x)) (sym is) refl)
impact_refused r (inr (inl met)) = foreseen r met
impact_refused r (inr (inr failed)) = inr failed

-- ---- the store's failure

-- no reading is refused with the store's failure by the rules
no_store : (reading : Reading) → IsTrue (may_refuse reading refusals.Store) → ⊥
no_store read.Requests h = not_true h
no_store (read.RequestsFrom n) h = not_true h
no_store (read.RequestsWith digest) h = not_true h
no_store (read.Request k) h = not_true h
no_store read.Proposals h = not_true h
no_store (read.ProposalsFrom n) h = not_true h
no_store (read.Proposal k) h = not_true h
no_store (read.Impact k) h = not_true h
no_store read.Waiting h = not_true h
no_store read.Changes h = not_true h
no_store (read.Export what) h = not_true h
no_store read.Report h = not_true h
no_store (read.Minutes n) h = not_true h
no_store read.People h = not_true h
no_store read.Me h = not_true h

pub never_store : {A : Type 0} (reading : Reading) (given : Result A Refusal) → IfErr given (λ r. IsTrue (may_refuse reading r)) → IsErrOf given refusals.Store → ⊥
never_store reading (Ok x) may is = absurd cc
never_store reading (Err refusal) may is = let same : refusal ≡ refusals.Store = cc in no_store reading (subst (λ r. IsTrue (may_refuse reading r)) same may)
