-- Files after a stop, and after an opening that failed.
use Rattle.std.proofs.Common.{◌≡◌, ◌≤◌, inl, inr, ℕ, false, true, refl, List, sym, subst, ◌∙◌, arith, IsTrue}
use Rattle.std.proofs.Math.Logic.{∥∥₁_map}
use Rattle.std.proofs.lemmas.Bool.{cases_Bool, cases_eq}
use Rattle.sqlite.specs.Closing.{files_left}
use Rattle.sqlite.specs.Files.{HoldsDatabase, IsCleanLeft, LeavesFiles, NamesSize, SaysSums, image_of}
use Rattle.sqlite.specs.Tree.{Trees}
use Rattle.sqlite.specs.declared.file.Leftover.{Leftover}
use Rattle.sqlite.specs.declared.file.Leftover.TheVariants as leftover
use Rattle.sqlite.proofs.FileLemmas.{is_something}
use Rattle.sqlite_disk.specs.declared.Disk.{Ghosts}
use Rattle.sqlite_disk.specs.declared.Files.{Files}
use Rattle.sqlite_pool.specs.Stored.{Adopts, is_summed, reserved, stored_size}
use Rattle.sqlite_pool.proofs.ProbeLemmas.{reserved_word, size_by_file, size_by_log}
use Rattle.sqlite_pool.proofs.StateLemmas.{clean_is, may_leave_is}
use Rattle.sqlite_store.specs.Unopened.{state_of}
use Rattle.sqlite_wal.proofs.LogLemmas.{SeenMayStay}
use Rattle.sqlite_wal.specs.Files.{outcomes}
use Rattle.sqlite_wal.specs.Reads.{AreClean}
use Rattle.sqlite_wal.specs.Recovery as raw
use Rattle.sqlite_wal.specs.Recovery.{Image, IsIgnored, Pages}
use Rattle.desk_history.specs.Lives.{Life}
use Rattle.store_desk.specs.Headline.{HoldsLives, Seen}
use Rattle.store_desk.specs.Remains.{HadStore, IfRefused, IfUnchecked, IfUnopened, has_store}
use Rattle.store_desk.specs.Reopening.{FilesHold, FilesOutlast, HasNoSums, ImageHolds, IsAfterStop}
use Rattle.store_desk.specs.declared.remains.Remains.{Remains}
use Rattle.store_desk.specs.declared.remains.Remains.TheVariants.{Refused, Unchecked, Unopened}

pub IfRefused-weaker : {D : Type 0} (left : Remains D) (P Q : Files D → Type 0) → ((files : Files D) → P files → Q files) → IfRefused left P → IfRefused left Q
IfRefused-weaker (Refused files) P Q so h = so files h
IfRefused-weaker (Unopened files) P Q so h = tt
IfRefused-weaker (Unchecked files) P Q so h = tt

pub IfUnopened-weaker : {D : Type 0} (left : Remains D) (P Q : Files D → Type 0) → ((files : Files D) → P files → Q files) → IfUnopened left P → IfUnopened left Q
IfUnopened-weaker (Refused files) P Q so h = tt
IfUnopened-weaker (Unopened files) P Q so h = so files h
IfUnopened-weaker (Unchecked files) P Q so h = tt

pub IfUnchecked-weaker : {D : Type 0} (left : Remains D) (P Q : Files D → Type 0) → ((files : Files D) → P files → Q files) → IfUnchecked left P → IfUnchecked left Q
IfUnchecked-weaker (Refused files) P Q so h = tt
IfUnchecked-weaker (Unopened files) P Q so h = tt
IfUnchecked-weaker (Unchecked files) P Q so h = so files h

-- the files of a store, after a stop
pub had_store : {D : Type 0} (g : Ghosts D) (left : Leftover D g) → has_store left ≡ true → (given : Files D) → (given.log, given.db) ≡ files_left left
    → (now : Files D) → IsAfterStop g given now → HadStore g left now
had_store g (leftover.Files it) stored given same now stop = absurd (cc)
had_store g (leftover.Unopened it) stored given same now stop = absurd (cc)
had_store g (leftover.Store it) stored given same now stop = record { store = it; is = refl; given = given; same = same; stopped = stop }

module _ {D : Type 0} (g : Ghosts D) (owner : List ℕ) (lives : List Life) (seen : Seen) where
  -- a connection over files that are such a database finds its tables
  found_in : (files : Files D) → (AreClean g files.log files.db → ImageHolds (image_of g files) owner lives seen) → FilesHold g files owner lives seen
  found_in files held conn opened clean _ =
      let finds = opened clean in
      ∥∥₁_map (held finds.honest) (λ it. subst (λ trees. HoldsLives trees owner lives seen) (sym (finds.holds it.0 it.1)) it.2)

  -- what a stop may have left of files is in those after it
  pub outlasts : (old new : Files D) → IsAfterStop g old new → (AreClean g old.log old.db → (image : Image) → outcomes g old.log old.db image → ImageHolds image owner lives seen)
      → FilesOutlast g new owner lives seen
  outlasts old new stop all = record {
    found = found_in new (λ clean. all (stop.clean clean) (image_of g new) stop.seen);
    left = λ clean image may. all (stop.clean clean) image (stop.left image may);
  }

-- A database without sums on its pages is still there, whatever an opening that failed wrote: it
-- took the page size that the files name, and no sums.
module _ (size : ℕ) (old new : Image) (named : NamesSize old (stored_size size)) (says : IsTrue (is_summed size) → SaysSums (stored_size size) old)
    (adopts : (pages : Pages) → Adopts size old pages → Adopts size new pages) (none : HasNoSums old) (db : Trees) (held : HoldsDatabase old db) where
  large : 504 ≤ held.0
  large = let few : reserved held.0 ≤ 8 = grind arith in omega (arith, held.1.0)

  -- whether the log names the size, or the database file, isn't decided, and needn't be
  same_stored : stored_size held.0 ≡ stored_size size
  same_stored = elim (cases_eq (stored_size held.0) (stored_size size)) [
    | inl same ↦ same
    | inr other ↦ absurd (
        let by_log = λ (taken : ¬ IsIgnored old.log). other (sym (size_by_log held.0 old held.2.pages held.2.found taken) ∙ sym (named.0 taken)) in
        by_log (λ ignored. other (sym (size_by_file held.0 old held.2.pages held.2.found large held.2.ours.file.sound ignored) ∙ sym (named.1 ignored)))
        )
  ]

  -- the header says that there are none
  took_none : is_summed size ≡ false
  took_none = elim (cases_Bool (is_summed size)) [
    | inr without ↦ without
    | inl sums ↦ absurd (
        let first = reserved_word held.0 old held.2.pages held.2.found large held.2.ours.file.sound in
        let no_sum = none db held in
        let reserves : reserved held.0 ≡ 0 = grind (arith, no_sum) in
        let found = subst (λ n. raw.Recovers n old held.2.found.stored) same_stored held.2.found.found in
        omega (arith, first.3, says sums held.2.found.stored first.0 found first.1 (first.2 ∙ same_stored), reserves)
        )
  ]

  same_size : held.0 ≡ size
  same_size =
      let no_sum = none db held in
      let one : reserved held.0 ≡ 0 = grind (arith, no_sum) in
      let two : reserved size ≡ 0 = grind (arith, took_none) in
      omega (arith, same_stored, one, two)

  pub still_database : HoldsDatabase new db
  still_database =
      let it = held.2 in (
        held.0,
        held.1,
        record {
          pages = it.pages;
          wanted = it.wanted;
          schema = it.schema;
          found = subst (λ n. Adopts n new it.pages) (sym same_size) (adopts it.pages (subst (λ n. Adopts n old it.pages) same_size it.found));
          ours = it.ours;
          reads = it.reads;
          sound = it.sound;
        },
      )

module _ {D : Type 0} (g : Ghosts D) (stays : SeenMayStay g) (files : Files D) (clean : AreClean g files.log files.db) (none : HasNoSums (image_of g files))
    (owner : List ℕ) (lives : List Life) (seen : Seen) (hold : FilesOutlast g files owner lives seen) where
  as_seen : ImageHolds (image_of g files) owner lives seen
  as_seen = hold.left clean (image_of g files) (stays files.log, stays files.db)

  -- whatever a stop may leave of files after an opening that failed holds what they held before
  pub left_holds : (left : Leftover D g) → has_store left ≡ false → (IsCleanLeft left → LeavesFiles files left) → (now : Files D) → (now.log, now.db) ≡ files_left left
      → AreClean g now.log now.db → (image : Image) → outcomes g now.log now.db image → ImageHolds image owner lives seen
  left_holds (leftover.Files it) unstored unharmed now same sure image may =
      hold.left clean image (unharmed (subst (λ p. AreClean g p.0 p.1) same sure) image (subst (λ p. outcomes g p.0 p.1 image) same may))
  left_holds (leftover.Unopened it) unstored unharmed now same sure image may =
      let still = subst (λ p. AreClean g p.0 p.1) same sure in
      let left = may_leave_is it.pool image still (subst (λ p. outcomes g p.0 p.1 image) same may) in
      elim (unharmed (clean_is it.pool ∙ still)) [
        | inl nothing ↦ ∥∥₁_map as_seen (λ it. absurd (is_something (image_of g files) it.0 it.1 nothing.0))
        | inr kept ↦ elim (kept.4 image left).same [
          | inl was ↦ hold.left clean image was
          | inr stands ↦
              let size = (state_of it).page_size in
              ∥∥₁_map as_seen (λ it. (it.0, still_database size (image_of g files) image kept.1 kept.3 stands.1 none it.0 it.1, it.2))
        ]
      ]
  left_holds (leftover.Store it) unstored unharmed now same sure image may = absurd (cc)
