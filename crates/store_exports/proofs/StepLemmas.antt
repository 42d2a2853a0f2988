-- Steps of an export one after another.
use Rattle.std.proofs.Common.{◌≡◌, ℕ, List, [], ◌++◌, flat_map, Option, Result, Ok, Err, refl, sym, subst, arith, false}
use Rattle.std.specs.Prelude.{IfOk, IsTrue, MatchResult, OnOk}
use Rattle.std.specs.Io.KnownBytes.{Appends}
use Rattle.std.proofs.KnownBytes.{Appends-nil, Appends-trans}
use Rattle.sqlite.proofs.StateLemmas.{survives_then}
use Rattle.sqlite.specs.Held.{Held, state}
use Rattle.sqlite.specs.Order.{Row}
use Rattle.sqlite.specs.State.{State, HasCleanDisk, IsRolledBack, KeepsCommit, Survives}
use Rattle.sqlite.specs.Store as store
use Rattle.base.specs.Output.{AppendsBeginning}
use Rattle.base.proofs.OutputLemmas.{AppendsBeginning-after, AppendsBeginning-before}
use Rattle.desk_history.specs.Calls.{History}
use Rattle.desk_history.specs.Tables.{Tables, tables}
use Rattle.store_reads.specs.Reads.{ReadsTables}
use Rattle.store_schema.specs.rows.Histories.{ShowsHistory, rows_of}
use Rattle.store_sql.proofs.CommitLemmas.{begun, undone_shows}
use Rattle.store_sql.specs.Meanings.{IsPlainIn}
use Rattle.store_schema.specs.Tables.{desk_layout}
use Rattle.store_exports.specs.Exporting.{BeginsOf, Exports, StaysOf, WritesOf}
use Rattle.store_exports.specs.Rows.{IsPart, PutsRows, WritesAnswer, WritesFirst}
use Rattle.store_exports.proofs.ExportLemmas.{Told}

pub spares_then : (a b c : State) → Survives a b (λ _. ⊥) → Survives b c (λ _. ⊥) → Survives a c (λ _. ⊥)
spares_then a b c one two = survives_then a b c (λ _. ⊥) (λ _. ⊥) (λ _. ⊥) (λ _ _ none. none) (λ _ _ none. none) one two

module _ {S X E : Type 0} (g : store.Ghosts S) where
  -- a read came before, which may determine the bytes
  pub after_read : (a b c : Held S) (x y : Option (List ℕ)) (r : Result X E) (f h : History → List ℕ) → StaysOf (state g a) (state g b) → Survives (state g a) (state g b) (λ _. ⊥)
      → (HasCleanDisk (state g b) → (owner : List ℕ) (cs : History) → ShowsHistory (state g a) owner cs → f cs ≡ h cs) → Exports g b c x y r f → Exports g a c x y r h
  after_read a b c x y r f h stays spared same it = record {
    wrote = λ clean. go r clean (it.wrote clean);
    same = λ owner cs was. it.same owner cs (stays owner cs was);
    spares = λ owner cs was. spares_then (state g a) (state g b) (state g c) spared (it.spares owner cs (stays owner cs was));
    clean = λ end. omega (arith, spared.clean, it.clean end);
  }
    where
      late : HasCleanDisk (state g c) → (owner : List ℕ) (cs : History) → ShowsHistory (state g a) owner cs → HasCleanDisk (state g b)
      late clean owner cs was = it.clean clean

      go : (r : Result X E) → HasCleanDisk (state g c) → MatchResult r (λ _. WritesOf (state g b) x y f) (λ _. BeginsOf (state g b) x y f)
          → MatchResult r (λ _. WritesOf (state g a) x y h) (λ _. BeginsOf (state g a) x y h)
      go (Ok v) clean w = λ owner cs was. subst (Appends x y) (same (late clean owner cs was) owner cs was) (w owner cs (stays owner cs was))
      go (Err e) clean w = λ owner cs was. subst (AppendsBeginning x y) (same (late clean owner cs was) owner cs was) (w owner cs (stays owner cs was))

  -- bytes were written before
  pub after_write : (a c : Held S) (x y z : Option (List ℕ)) (r : Result X E) (bs : List ℕ) (f : History → List ℕ) → Appends x y bs → Exports g a c y z r f
      → Exports g a c x z r (λ cs. bs ++ f cs)
  after_write a c x y z r bs f put it = record { wrote = λ clean. go r (it.wrote clean); same = it.same; spares = it.spares; clean = it.clean }
    where
      go : (r : Result X E) → MatchResult r (λ _. WritesOf (state g a) y z f) (λ _. BeginsOf (state g a) y z f)
          → MatchResult r (λ _. WritesOf (state g a) x z (λ cs. bs ++ f cs)) (λ _. BeginsOf (state g a) x z (λ cs. bs ++ f cs))
      go (Ok v) w = λ owner cs was. Appends-trans x y z bs (f cs) put (w owner cs was)
      go (Err e) w = λ owner cs was. AppendsBeginning-after x y z bs (f cs) put (w owner cs was)

  -- the same bytes in other words
  pub same_bytes : (a c : Held S) (x y : Option (List ℕ)) (r : Result X E) (f h : History → List ℕ) → ((cs : History) → f cs ≡ h cs) → Exports g a c x y r f
      → Exports g a c x y r h
  same_bytes a c x y r f h same it = record { wrote = λ clean. go r (it.wrote clean); same = it.same; spares = it.spares; clean = it.clean }
    where
      go : (r : Result X E) → MatchResult r (λ _. WritesOf (state g a) x y f) (λ _. BeginsOf (state g a) x y f) → MatchResult r (λ _. WritesOf (state g a) x y h) (λ _. BeginsOf (state g a) x y h)
      go (Ok v) w = λ owner cs was. subst (Appends x y) (same cs) (w owner cs was)
      go (Err e) w = λ owner cs was. subst (AppendsBeginning x y) (same cs) (w owner cs was)

  -- another step came before, which wrote all
  pub after_step : {Y F : Type 0} (a b c : Held S) (x y z : Option (List ℕ)) (v : Y) (r : Result X E) (f h : History → List ℕ) → Exports {E = F} g a b x y (Ok v) f → Exports g b c y z r h
      → Exports g a c x z r (λ cs. f cs ++ h cs)
  after_step a b c x y z v r f h one two = record {
    wrote = λ clean. go r clean (two.wrote clean);
    same = λ owner cs was. two.same owner cs (one.same owner cs was);
    spares = λ owner cs was. spares_then (state g a) (state g b) (state g c) (one.spares owner cs was) (two.spares owner cs (one.same owner cs was));
    clean = λ end. one.clean (two.clean end);
  }
    where
      late : HasCleanDisk (state g c) → (owner : List ℕ) (cs : History) → ShowsHistory (state g a) owner cs → HasCleanDisk (state g b)
      late clean owner cs was = two.clean clean

      go : (r : Result X E) → HasCleanDisk (state g c) → MatchResult r (λ _. WritesOf (state g b) y z h) (λ _. BeginsOf (state g b) y z h)
          → MatchResult r (λ _. WritesOf (state g a) x z (λ cs. f cs ++ h cs)) (λ _. BeginsOf (state g a) x z (λ cs. f cs ++ h cs))
      go (Ok w) clean did = λ owner cs was.
          Appends-trans x y z (f cs) (h cs) (one.wrote (late clean owner cs was) owner cs was) (did owner cs (one.same owner cs was))
      go (Err e) clean did = λ owner cs was.
          AppendsBeginning-after x y z (f cs) (h cs) (one.wrote (late clean owner cs was) owner cs was) (did owner cs (one.same owner cs was))

  -- a step stopped, and no other came
  pub stopped : {Y F : Type 0} (a c : Held S) (x y : Option (List ℕ)) (d : F) (e : E) (f h : History → List ℕ) → Exports {X = Y} g a c x y (Err d) f
      → Exports {X = X} g a c x y (Err e) (λ cs. f cs ++ h cs)
  stopped a c x y d e f h it = record {
    wrote = λ clean owner cs was. AppendsBeginning-before x y (f cs) (h cs) (it.wrote clean owner cs was);
    same = it.same;
    spares = it.spares;
    clean = it.clean;
  }

  -- a read stopped, or a write after it
  pub stopped_read : (a b : Held S) (x y : Option (List ℕ)) (e : E) (f : History → List ℕ) → StaysOf (state g a) (state g b) → Survives (state g a) (state g b) (λ _. ⊥)
      → (HasCleanDisk (state g b) → BeginsOf (state g a) x y f) → Exports {X = X} g a b x y (Err e) f
  stopped_read a b x y e f stays spared begins = record { wrote = begins; same = stays; spares = λ _ _ _. spared; clean = λ end. omega (arith, spared.clean, end) }

  -- a read found that nothing is to be written
  pub nothing : (a b : Held S) (x : Option (List ℕ)) (v : X) (f : History → List ℕ) → StaysOf (state g a) (state g b) → Survives (state g a) (state g b) (λ _. ⊥)
      → (HasCleanDisk (state g b) → (owner : List ℕ) (cs : History) → ShowsHistory (state g a) owner cs → f cs ≡ []) → Exports {E = E} g a b x x (Ok v) f
  nothing a b x v f stays spared none = record {
    wrote = λ clean owner cs was. subst (Appends x x) (sym (none clean owner cs was)) (Appends-nil x);
    same = stays;
    spares = λ _ _ _. spared;
    clean = λ end. omega (arith, spared.clean, end);
  }

  -- a query of the desk's tables
  pub of_rows : {Y : Type 0} (shown : Y → Row) (bytes : Y → List ℕ) (text : List ℕ) (params : Row) (wanted : History → List Y) (a b : Held S) (x y : Option (List ℕ)) (r : Result X E)
      → IsPlainIn desk_layout text
      → (((owner : List ℕ) (cs : History) → ShowsHistory (state g a) owner cs → HasCleanDisk (state g a)) → Told shown bytes text params (state g a) wanted)
      → PutsRows g (IsPart shown bytes) text params a b x y r → Exports g a b x y r (λ cs. flat_map bytes (wanted cs))
  of_rows shown bytes text params wanted a b x y r plain told it = record {
    wrote = λ clean. go r clean (it.wrote clean);
    same = λ owner cs was. it.same desk_layout (rows_of owner cs) plain was;
    spares = λ owner cs was. it.spares desk_layout (rows_of owner cs) plain was;
    clean = it.clean;
  }
    where
      early : HasCleanDisk (state g b) → (owner : List ℕ) (cs : History) → ShowsHistory (state g a) owner cs → HasCleanDisk (state g a)
      early clean owner cs was = it.clean clean

      go : (r : Result X E) → HasCleanDisk (state g b)
          → MatchResult r (λ _. WritesAnswer (IsPart shown bytes) text params (state g a) (state g b) x y) (λ _. WritesFirst (IsPart shown bytes) text params (state g a) x y)
          → MatchResult r (λ _. WritesOf (state g a) x y (λ cs. flat_map bytes (wanted cs))) (λ _. BeginsOf (state g a) x y (λ cs. flat_map bytes (wanted cs)))
      go (Ok v) clean did = (told (early clean)).0 (state g b) x y did
      go (Err e) clean did = (told (early clean)).1 x y did

-- a read in a transaction that is rolled back
module _ {S : Type 0} (g : store.Ghosts S) (old last end : Held S) where
  pub undone : end.in_transaction ≡ false → Survives (begun g old) (state g last) (λ _. ⊥) → Survives (state g last) (state g end) (λ _. ⊥)
      → (HasCleanDisk (state g last) → KeepsCommit (begun g old) (state g last)) → (HasCleanDisk (state g end) → IsRolledBack (state g last) (state g end)) → StaysOf (state g old) (state g end)
  undone outside spared ended kept rolled owner cs was = record {
    outside = outside;
    holds = λ clean live. (let late : HasCleanDisk (state g last) = omega (arith, ended.clean, clean) in
        (undone_shows g old last end desk_layout (rows_of owner cs) (omega (arith, spared.clean, late)) (kept late) (rolled clean) was).holds clean live);
  }

  -- its result is right for each history that the connection showed before
  pub read_told : {X E : Type 0} (tells : X → Tables → Type 0) (r : Result X E) → Survives (begun g old) (state g last) (λ _. ⊥) → HasCleanDisk (state g last)
      → IfOk r (λ x. ReadsTables (tells x) (begun g old) (state g last)) → OnOk r (IsTrue (state g last).is_open × IsTrue (state g last).in_transaction)
      → IfOk r (λ x. (owner : List ℕ) (cs : History) → ShowsHistory (state g old) owner cs → tells x (tables owner cs))
  read_told tells (Ok x) spared late it inside = λ owner cs was.
      it.tells (tables owner cs) (record { inside = refl; holds = (was.holds (omega (arith, spared.clean, late)) (it.kept.kept.was_open inside.0)).0 })
  read_told tells (Err e) spared late it inside = tt
