-- Steps of an export whose bytes are told of some histories alone.
use Rattle.std.proofs.Common.{◌≡◌, ℕ, List, ◌++◌, Option, Result, Ok, Err, subst}
use Rattle.std.specs.Prelude.{MatchResult, OnErr, OnOk}
use Rattle.std.specs.Io.KnownBytes.{Appends}
use Rattle.std.proofs.KnownBytes.{Appends-nil, Appends-trans}
use Rattle.sqlite.specs.Held.{Held, state}
use Rattle.sqlite.specs.State.{State, HasCleanDisk}
use Rattle.sqlite.specs.Store as store
use Rattle.base.specs.Output.{AppendsBeginning}
use Rattle.base.proofs.OutputLemmas.{AppendsBeginning-after, AppendsBeginning-before, AppendsBeginning-none}
use Rattle.desk_history.specs.Calls.{History}
use Rattle.store_schema.specs.rows.Histories.{ShowsHistory}
use Rattle.store_exports.specs.Exporting.{BeginsOf, BeginsWhere, Exports, ExportsWhere, SparesOf, StaysOf, WritesOf, WritesWhere}
use Rattle.store_exports.proofs.StepLemmas.{spares_then}

module _ {S X E : Type 0} (holds : History → Type 0) (g : store.Ghosts S) where
  -- what is told of all histories is told of these
  pub anyway : (a c : Held S) (x y : Option (List ℕ)) (r : Result X E) (f : History → List ℕ) → Exports g a c x y r f → ExportsWhere holds g a c x y r f
  anyway a c x y r f it = record { wrote = λ clean. go r (it.wrote clean); same = it.same; spares = it.spares; clean = it.clean }
    where
      go : (r : Result X E) → MatchResult r (λ _. WritesOf (state g a) x y f) (λ _. BeginsOf (state g a) x y f)
          → MatchResult r (λ _. WritesWhere holds (state g a) x y f) (λ _. BeginsWhere holds (state g a) x y f)
      go (Ok v) w = λ owner cs _ was. w owner cs was
      go (Err e) w = λ owner cs _ was. w owner cs was

  -- another step came before, which wrote all
  pub after_all : {Y F : Type 0} (a b c : Held S) (x y z : Option (List ℕ)) (v : Y) (r : Result X E) (f h k : History → List ℕ) → ((cs : History) → f cs ++ h cs ≡ k cs)
      → Exports {E = F} g a b x y (Ok v) f → ExportsWhere holds g b c y z r h → ExportsWhere holds g a c x z r k
  after_all a b c x y z v r f h k is one two = record {
    wrote = λ clean. go r clean (two.wrote clean);
    same = λ owner cs was. two.same owner cs (one.same owner cs was);
    spares = λ owner cs was. spares_then (state g a) (state g b) (state g c) (one.spares owner cs was) (two.spares owner cs (one.same owner cs was));
    clean = λ end. one.clean (two.clean end);
  }
    where
      go : (r : Result X E) → HasCleanDisk (state g c) → MatchResult r (λ _. WritesWhere holds (state g b) y z h) (λ _. BeginsWhere holds (state g b) y z h)
          → MatchResult r (λ _. WritesWhere holds (state g a) x z k) (λ _. BeginsWhere holds (state g a) x z k)
      go (Ok w) clean did = λ owner cs fits was.
          subst (Appends x z) (is cs) (Appends-trans x y z (f cs) (h cs) (one.wrote (two.clean clean) owner cs was) (did owner cs fits (one.same owner cs was)))
      go (Err e) clean did = λ owner cs fits was.
          subst (AppendsBeginning x z) (is cs) (AppendsBeginning-after x y z (f cs) (h cs) (one.wrote (two.clean clean) owner cs was) (did owner cs fits (one.same owner cs was)))

  -- it stopped, and no other came
  pub before_all : {Y F : Type 0} (a c : Held S) (x y : Option (List ℕ)) (d : F) (e : E) (f h k : History → List ℕ) → ((cs : History) → f cs ++ h cs ≡ k cs)
      → Exports {X = Y} g a c x y (Err d) f → ExportsWhere {X = X} holds g a c x y (Err e) k
  before_all a c x y d e f h k is it = record {
    wrote = λ clean owner cs _ was. subst (AppendsBeginning x y) (is cs) (AppendsBeginning-before x y (f cs) (h cs) (it.wrote clean owner cs was));
    same = it.same;
    spares = it.spares;
    clean = it.clean;
  }

-- a text that was written, or a beginning of it, is what these histories want
pub wanted_where : {X E : Type 0} (holds : History → Type 0) (s : State) (x y : Option (List ℕ)) (r : Result X E) (text : List ℕ) (f : History → List ℕ)
    → ((owner : List ℕ) (cs : History) → holds cs → ShowsHistory s owner cs → text ≡ f cs) → OnOk r (Appends x y text) → OnErr r (AppendsBeginning x y text)
    → MatchResult r (λ _. WritesWhere holds s x y f) (λ _. BeginsWhere holds s x y f)
wanted_where holds s x y (Ok v) text f is ok err = λ owner cs fits was. subst (Appends x y) (is owner cs fits was) ok
wanted_where holds s x y (Err e) text f is ok err = λ owner cs fits was. subst (AppendsBeginning x y) (is owner cs fits was) err

-- nothing was written
pub begins_none : (holds : History → Type 0) (s : State) (x : Option (List ℕ)) (f : History → List ℕ) → BeginsWhere holds s x x f
begins_none holds s x f owner cs fits was = AppendsBeginning-none x x (f cs) (Appends-nil x)
