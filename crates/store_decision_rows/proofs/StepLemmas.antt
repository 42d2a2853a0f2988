-- Reads one after another.
use Rattle.sqlite.specs.State.{State, Survives}
use Rattle.sqlite.proofs.StateLemmas.{survives_then}

pub spares_then : (first mid new : State) → Survives first mid (λ _. ⊥) → Survives mid new (λ _. ⊥) → Survives first new (λ _. ⊥)
spares_then first mid new a b = survives_then first mid new (λ _. ⊥) (λ _. ⊥) (λ _. ⊥) (λ _ _ none. none) (λ _ _ none. none) a b
