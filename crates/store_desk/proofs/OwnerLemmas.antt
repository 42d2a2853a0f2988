-- Another owner than the one that is expected.
use Rattle.std.proofs.Common.{◌≡◌, ◌∙◌, inl, inr, refl, sym, ℕ, List, Option, None, Some}
use Rattle.base.specs.declared.refusal.Refusal.{Refusal}
use Rattle.base.specs.declared.refusal.Refusal.TheVariants as refusals
use Rattle.store_desk.specs.Owners.{IsAnother, IsAsked}
use Rattle.store_desk.specs.Steps.{IsReadRefusal}

-- another owner is found only where one is expected
pub asked_of : (expected : Option (List ℕ)) (owner : List ℕ) → IsAnother expected owner → IsAsked expected refusals.Owner
asked_of None owner another = another
asked_of (Some one) owner another = refl

-- a device, or that there is no desk, isn't another owner
pub never_owner : (refusal : Refusal) → refusal ≡ refusals.Owner → IsReadRefusal refusal → ⊥
never_owner refusal is (inl none) = let e = sym none ∙ is in cc
never_owner refusal is (inr (inl memory)) = let e = sym memory ∙ is in cc
never_owner refusal is (inr (inr store)) = let e = sym store ∙ is in cc
