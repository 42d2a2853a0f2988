-- Refusals that there aren't.
use Rattle.std.proofs.Common.{◌≡◌, Bool, true, false, Some, None, refl}
use Rattle.base.specs.declared.refusal.Refusal.{Refusal}
use Rattle.desk_history.specs.Refusals.{refuse_if}

-- a condition that doesn't refuse doesn't hold
pub unrefused : (b : Bool) (r : Refusal) → refuse_if b r ≡ None → b ≡ false
unrefused false r h = refl
unrefused true r h = cc

pub no_refusal : {r : Refusal} {A : Type 0} → Some r ≡ None → A
no_refusal h = cc
