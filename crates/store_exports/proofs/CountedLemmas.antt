-- A list whose head counts its entries.
use Rattle.std.proofs.Common.{◌≡◌, ◌≤◌, ℕ, List, [], ◌++◌, flat_map, length, Option, Result, Ok, Err, sym, subst, ◌∙◌}
use Rattle.std.specs.Io.KnownBytes.{Appends}
use Rattle.sqlite.specs.Held.{Held, state}
use Rattle.sqlite.specs.State.{HasCleanDisk, Survives}
use Rattle.sqlite.specs.Store as store
use Rattle.base.specs.Output.{AppendsBeginning}
use Rattle.base.proofs.OutputLemmas.{AppendsBeginning-before}
use Rattle.desk_history.specs.Calls.{History}
use Rattle.desk_history.specs.Tables.{tables}
use Rattle.store_exports.specs.Exporting.{Exports, IsSizeOf, StaysOf}
use Rattle.store_reads.specs.Counting.{counted}
use Rattle.store_reads.specs.declared.counts.Counted.{Counted}
use Rattle.store_exports.proofs.StepLemmas.{after_read, after_write, nothing, stopped_read}

module _ {S X E : Type 0} (g : store.Ghosts S) (head : ℕ → List ℕ) (entry : List ℕ → List ℕ) (parts : List (List ℕ) → List ℕ)
    (none : (ds : List (List ℕ)) → 0 ≡ length ds → parts ds ≡ [])
    (some : (ds : List (List ℕ)) (n : ℕ) → 1 ≤ n → n ≡ length ds → head n ++ flat_map entry ds ≡ parts ds)
    (what : Counted) (ds : History → List (List ℕ)) (sized : (owner : List ℕ) (cs : History) → counted what (tables owner cs) ≡ length (ds cs))
    (a b : Held S) (stays : StaysOf (state g a) (state g b)) (spared : Survives (state g a) (state g b) (λ _. ⊥)) (n : ℕ) (size : HasCleanDisk (state g b) → IsSizeOf (state g a) what n) where
  pub empty : (x : Option (List ℕ)) (v : X) → n ≡ 0 → Exports {E = E} g a b x x (Ok v) (λ cs. parts (ds cs))
  empty x v zero = nothing g a b x v (λ cs. parts (ds cs)) stays spared (λ clean owner cs was. none (ds cs) (sym zero ∙ size clean owner cs was ∙ sized owner cs))

  pub head_stopped : (x y : Option (List ℕ)) (e : E) → 1 ≤ n → AppendsBeginning x y (head n) → Exports {X = X} g a b x y (Err e) (λ cs. parts (ds cs))
  head_stopped x y e more begun = stopped_read g a b x y e (λ cs. parts (ds cs)) stays spared
      (λ clean owner cs was. subst (AppendsBeginning x y) (some (ds cs) n more (size clean owner cs was ∙ sized owner cs)) (AppendsBeginning-before x y (head n) (flat_map entry (ds cs)) begun))

  pub whole : (c : Held S) (x y z : Option (List ℕ)) (r : Result X E) → 1 ≤ n → Appends x y (head n) → Exports g b c y z r (λ cs. flat_map entry (ds cs)) → Exports g a c x z r (λ cs. parts (ds cs))
  whole c x y z r more put it = after_read g a b c x z r (λ cs. head n ++ flat_map entry (ds cs)) (λ cs. parts (ds cs)) stays spared
      (λ clean owner cs was. some (ds cs) n more (size clean owner cs was ∙ sized owner cs)) (after_write g b c x y z r (head n) (λ cs. flat_map entry (ds cs)) put it)
