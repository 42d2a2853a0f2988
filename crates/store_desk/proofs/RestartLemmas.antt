-- What a stop leaves of a desk's files.
use Rattle.std.proofs.Common.{pos, ◌≡◌, inl, inr, ℕ, not, true, List, [], ◌∷◌, refl, subst, ◌∙◌, arith, IsTrue}
use Rattle.std.proofs.Math.Logic.{∥∥₁_map, ∥∥₁_map₂}
use Rattle.sqlite.specs.Files.{file_state}
use Rattle.sqlite.specs.Held.{AreDatabases, Held}
use Rattle.sqlite.specs.State.{State, HasCleanDisk, Survives}
use Rattle.sqlite.proofs.Theorems.{opens_again}
use Rattle.sqlite_disk.specs.declared.Disk.{Ghosts}
use Rattle.sqlite_disk.specs.declared.Files.{Files}
use Rattle.sqlite_pool.proofs.StateLemmas.{clean_is, may_leave_is}
use Rattle.sqlite_store.specs.FileStore.{faults, files, is_shielded, recovers, view}
use Rattle.sqlite_store.specs.declared.store.FileStore.{FileStore}
use Rattle.sqlite_trees.proofs.Doubt.{no_doubt}
use Rattle.sqlite_trees.specs.View.{IsClean, IsQuiet}
use Rattle.sqlite_wal.specs.Files.{outcomes}
use Rattle.sqlite_wal.specs.Reads.{AreClean}
use Rattle.sqlite_wal.specs.Recovery.{Image}
use Rattle.std.proofs.lemmas.List.Folds.{list_all-append}
use Rattle.desk_history.specs.Calls.{History, Second}
use Rattle.desk_history.specs.Lives.{Life, NotOpened, is_opened_by_second}
use Rattle.store_sql.specs.Contents.{AreTablesOf, Contents}
use Rattle.store_sql.specs.Layouts.{Layout}
use Rattle.store_sql.specs.States.{Leaves, Shows}
use Rattle.store_schema.specs.Tables.{desk_layout, first_layout}
use Rattle.store_schema.specs.rows.Histories.{HoldsFirst, HoldsHistory, ShowsFirst, ShowsHistory, first_rows_of, rows_of}
use Rattle.store_desk.specs.Living.{and_refused}
use Rattle.store_desk.specs.Headline.{HoldsEither, Seen, none_by_second}
use Rattle.store_desk.specs.Reopening.{FoundAgain, ImageHolds, IsAfterStop}
use Rattle.store_desk.specs.Steps.{Brings}
use Rattle.store_desk.proofs.FilesLemmas.{outlasts}
use Rattle.store_desk.proofs.LivingLemmas.{ends_refused}
use Rattle.store_desk.proofs.VersionLemmas.{second_version}

module _ {D : Type 0} (g : Ghosts D) (old : Held (FileStore D g)) (it : FileStore D g) where
  -- the files of the store after a stop hold what a stop left of the connection before
  pub found_again : IsQuiet view faults recovers is_shielded old.store it → (IsClean (view it) → IsTrue (view it).is_numbered) → (IsClean (view it) → AreDatabases (recovers it))
      → (given new : Files D) → (given.log, given.db) ≡ files it → IsAfterStop g given new → FoundAgain g old new
  found_again quiet numbered sound given new same stop owner lives seen leaves = outlasts g owner lives seen given new stop (λ clean image may.
      let sure = subst (λ p. AreClean g p.0 p.1) same clean in
      let now : IsClean (view it) = no_doubt _ (clean_is it.pool ∙ sure) in
      let left = may_leave_is it.pool image sure (subst (λ p. outcomes g p.0 p.1 image) same may) in
      let before : HasCleanDisk (file_state old) = omega (arith, quiet.clean, now) in
      ∥∥₁_map₂ (opens_again it (numbered now) (sound now) image left) (leaves before) (λ found each. (found.0, found.2, each before found.0 (quiet.outcomes found.0 found.1))))

-- ---- the files after a stop, where the opening before it failed or was refused

still_none : (lives : List Life) → none_by_second lives ≡ true → none_by_second (and_refused lives) ≡ true
still_none lives none = list_all-append (λ (life : Life). not (is_opened_by_second life)) lives (record { rules = Second; opening = NotOpened; events = [] } ∷ []) ∙ (rw none refl)

-- the same contents, after one more life, which wasn't opened
pub one_more_life : (image : Image) (owner : List ℕ) (lives : List Life) (seen : Seen) → ImageHolds image owner lives seen → ImageHolds image owner (and_refused lives) seen
one_more_life image owner lives seen held = ∥∥₁_map held (λ it.
    let tables = it.2 in
    (it.0, it.1, (tables.0, ends_refused lives tables.0 tables.1, tables.2, elim tables.3 [ inl now ↦ inl now | inr early ↦ inr (still_none lives early.0, early.1) ])))

-- the tables of the history that was found, of the same version, or of version 2 where it was
-- version 1
pub refused_leaves : (s new : State) (owner : List ℕ) (lives : List Life) (cs : History) → Survives s new (Brings s) → HoldsEither s.committed.trees owner lives cs
    → (HoldsHistory s.committed.trees owner cs → ShowsHistory s owner cs) → (HoldsFirst s.committed.trees owner cs → ShowsFirst s owner cs)
    → ((layout : Layout) (c : Contents) → Shows layout s c → Leaves s (λ db. AreTablesOf layout db c))
    → Leaves new (λ db. HoldsEither db owner (and_refused lives) cs)
refused_leaves s new owner lives cs stops (inl holds) second first left clean db may = elim (stops.crash clean db may) [
  | inl was ↦ inl (left desk_layout (rows_of owner cs) (second holds) (omega (arith, stops.clean, clean)) db was)
  | inr brings ↦ absurd (let one = second_version s owner cs (pos 1) brings.0 (second holds) in cc)
]
refused_leaves s new owner lives cs stops (inr early) second first left clean db may = elim (stops.crash clean db may) [
  | inl was ↦ inr (still_none lives early.0, (early.1.0, left first_layout (first_rows_of owner cs) (first early.1).1 (omega (arith, stops.clean, clean)) db was))
  | inr brings ↦ inl (brings.1 owner cs (first early.1))
]
