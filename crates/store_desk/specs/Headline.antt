-- The headline. While nobody else writes the file and the disk keeps its promise (sqlite's
-- `HasCleanDisk`), a desk that is opened after any number of lives, each stopped before or within
-- any write, has the history of a prefix of the accepted calls that holds every acknowledged one.
-- Its answers, verdicts and exports are those of that history, and it refuses each image that an
-- acknowledged revocation barred. This is the clause `lives` of `Desk::open` (src/desk.rt), by
-- `Recovers` below.
--
-- To read it from the ground up, in this order, each file of specs/:
--   desk_types    Commands, Forms                   the commands, and the forms of their values
--   desk_history  Calls, Refusals, Runs             histories, and the answers to calls after them
--   desk_history  Forces, Level, Verdicts           the entries in force, the SBAT level, verdicts
--   desk_history  Lives, FormLaws                   lives, and the histories that stops may leave
--   desk_history  Tables                            the rows of a history
--   store_schema  rows/Values, Contents, Histories  these rows in SQL
--   store_sql     States                            what a connection shows, and a stop leaves
--   store_desk    Desks                             the history that a desk shows
--   desk_exports  all                               its exports
--   store_desk    Headline                          this file
use Rattle.std.specs.Prelude.{◌≢◌, ◌⊎◌, ℕ, Bool, not, All, List, [], IsTrue}
use Rattle.std.specs.List.{list_all}
use Rattle.sqlite.specs.Store.{Ghosts}
use Rattle.sqlite.specs.Held.{Held, state}
use Rattle.sqlite.specs.State.{State, HasCleanDisk}
use Rattle.sqlite.specs.Tree.{Trees}
use Rattle.desk_types.specs.declared.facts.Facts.{Facts}
use Rattle.desk_history.specs.Calls.{GoesOnFrom, History, are_apart, is_same_item}
use Rattle.desk_history.specs.FormLaws.{KeepsAnswered}
use Rattle.desk_history.specs.Formed.{IsItem}
use Rattle.desk_history.specs.Lives.{Ends, Event, Life, MayLeave, events_of, is_opened_by_second}
use Rattle.desk_history.specs.Verdicts.{is_barred, verdict}
use Rattle.desk_history.specs.declared.finding.Verdict.TheVariants.{Allowed}
use Rattle.store_sql.specs.States.{Leaves}
use Rattle.store_schema.specs.rows.Histories.{HoldsFirst, HoldsHistory}
use Rattle.store_desk.specs.Desks.{ShowsDesk}
use Rattle.store_desk.specs.declared.desk.Desk.{Desk}

-- A history that the desk showed, and the events since, in any number of lives.
pub record Seen : Type 0 where
  pub at : History
  pub since : List Event

-- the history that the desk shows now
abbrev pub now : History → Seen
now cs = record { at = cs; since = [] }

-- the history is one that the calls since then may leave
abbrev pub IsSince : Seen → History → Type 0
IsSince seen cs = MayLeave seen.at seen.since cs

-- no desk was opened by the second rules
abbrev pub none_by_second : List Life → Bool
none_by_second lives = list_all (λ life. not (is_opened_by_second life)) lives

-- the trees hold the tables of this history, those of version 2, or, while no desk was opened by
-- the second rules, those of version 1
abbrev pub HoldsEither : Trees → List ℕ → List Life → History → Type 0
HoldsEither db owner lives cs = HoldsHistory db owner cs ⊎ (IsTrue (none_by_second lives) × HoldsFirst db owner cs)

-- the trees hold the tables of a history that these lives may leave, and that follows the seen one
abbrev pub HoldsLives : Trees → List ℕ → List Life → Seen → Type 0
HoldsLives db owner lives seen = (cs : History) × Ends lives cs × IsSince seen cs × HoldsEither db owner lives cs

-- Whatever a stop leaves of the store holds such tables. `∥ .. ∥₁` says that there is one history,
-- but not which.
abbrev pub LeavesLives : State → List ℕ → List Life → Seen → Type 0
LeavesLives s owner lives seen = ∥ Leaves s (λ db. HoldsLives db owner lives seen) ∥₁

-- the connection has such tables as its last commit
abbrev pub FindsLives : State → List ℕ → List Life → Seen → Type 0
FindsLives s owner lives seen = HasCleanDisk s → IsTrue s.is_open → ∥ HoldsLives s.committed.trees owner lives seen ∥₁

-- a desk that was opened after these lives, with this history
pub record IsRecovered {S : Type 0} (g : Ghosts S) (desk : Desk S) (owner : List ℕ) (lives : List Life) (seen : Seen) (cs : History) : Type 0 where
  -- the lives' calls leave this history one after another; of each life at most the call that was
  -- stopped may be missing
  pub ends : Ends lives cs
  -- the calls since the seen history leave it too
  pub since : IsSince seen cs
  -- so it extends that very history
  pub goes_on : GoesOnFrom seen.at cs
  -- each image that was barred then is barred now
  pub bars : (x : Facts) → IsTrue (is_barred seen.at x) → IsTrue (is_barred cs x)
  -- an image that is barred isn't allowed
  pub refuses : (x : Facts) → IsTrue (is_barred cs x) → verdict cs x ≢ Allowed
  -- the desk's answers, verdicts and exports are those of this history
  pub shows : ShowsDesk g desk owner cs
  -- no key of a caller occurs in it twice
  pub once : IsTrue (are_apart is_same_item cs)
  -- Each acknowledged call is in it with its reply. It extends the history at which the call was
  -- answered, and each image that was barred then is barred and not allowed.
  pub answered : KeepsAnswered (events_of lives) cs

-- Whatever any number of lives left, with all the stops that they met, the opened desk has such a
-- history. `∥ .. ∥₁` says that there is one, but not which.
abbrev pub Recovers : {S : Type 0} → Ghosts S → Held S → Desk S → Type 0
Recovers g conn desk =
    (owner : List ℕ) (lives : List Life) (seen : Seen) → All (λ e. IsItem e.item) (events_of lives)
    → FindsLives (state g conn) owner lives seen
    → ∥ ((cs : History) × IsRecovered g desk owner lives seen cs) ∥₁
