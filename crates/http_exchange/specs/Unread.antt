-- Reasons why a request isn't known.
use Rattle.std.specs.Prelude.{◌≡◌, ◌≢◌, ⊤, ℕ, List, Option, Some, None, Result, Ok, Err, IfErr, IfSome, IsErr}
use Rattle.desk_history.specs.Calls.{History}
use Rattle.http_responses.specs.declared.outage.Outage.TheVariants as outage
use Rattle.desk_exports.specs.Desks.{ForEachShown, LeavesShown, StillShows}
use Rattle.http_exchange.specs.Asked.{Asks, CallOrRefusal}
use Rattle.http_exchange.specs.declared.served.Unread.{Unread}
use Rattle.http_exchange.specs.declared.served.Unread.TheVariants as unread

-- a desk that shows a history can give it: such a desk is open, and is a desk
abbrev pub CanCome : Unread → Type 0
CanCome unread.Read = ⊤
CanCome unread.NoMemory = ⊤
CanCome (unread.Outage outage.NoMemory) = ⊤
CanCome (unread.Outage outage.Store) = ⊤
CanCome (unread.Outage outage.Reopen) = ⊥
CanCome (unread.Outage outage.NotADesk) = ⊥

-- the desk, in which the caller may be looked up while a request is read
pub record AsksSafely {D X : Type 0} (shows : D → List ℕ → History → Type 0) (clean failed : D → Type 0) (leaves : D → List ℕ → History → History → Type 0) (old new : D) (result : Result X Unread) : Type 0 where
  -- except for Store it shows the same
  pub same : clean new → result ≢ Err (unread.Outage outage.Store) → StillShows (shows old) (shows new)
  -- whatever the result, a stop leaves what was shown
  pub stopped : clean new → LeavesShown (shows old) (leaves new)
  -- a disk that is clean afterwards was clean before
  pub before : clean new → clean old
  pub named : ForEachShown (shows old) (λ _ _. IfErr result CanCome)
  pub poisons : result ≡ Err (unread.Outage outage.Store) → failed new

-- it comes from no desk
abbrev pub IsOwn : Unread → Type 0
IsOwn unread.Read = ⊤
IsOwn unread.NoMemory = ⊤
IsOwn (unread.Outage outage.NoMemory) = ⊤
IsOwn (unread.Outage outage.Store) = ⊥
IsOwn (unread.Outage outage.Reopen) = ⊥
IsOwn (unread.Outage outage.NotADesk) = ⊥

-- the reader failed, or memory for its bytes was refused
abbrev pub IsOfInput : Unread → Type 0
IsOfInput unread.Read = ⊤
IsOfInput unread.NoMemory = ⊤
IsOfInput (unread.Outage _) = ⊥

-- a desk that has failed can give it: no call of it fails again
abbrev pub IsOfClosed : Unread → Type 0
IsOfClosed unread.Read = ⊤
IsOfClosed unread.NoMemory = ⊤
IsOfClosed (unread.Outage outage.NoMemory) = ⊤
IsOfClosed (unread.Outage outage.Store) = ⊥
IsOfClosed (unread.Outage outage.Reopen) = ⊤
IsOfClosed (unread.Outage outage.NotADesk) = ⊥

-- the request of an input, at a desk that has failed: at most a refusal that is due at any history
abbrev pub IsKnownOfClosed : Option (List ℕ) → Result (Option CallOrRefusal) Unread → Type 0
IsKnownOfClosed input (Ok None) = ⊤
IsKnownOfClosed input (Ok (Some due)) = IsErr due × IfSome input (λ b. (cs : History) → Asks cs b due)
IsKnownOfClosed input (Err unread) = IsOfClosed unread

-- if the request of the input was found, or the desk couldn't answer
abbrev pub WhenAsked : Result (Option CallOrRefusal) Unread → Type 0 → Type 0
WhenAsked (Ok None) holds = ⊤
WhenAsked (Ok (Some due)) holds = holds
WhenAsked (Err unread.Read) holds = ⊤
WhenAsked (Err unread.NoMemory) holds = ⊤
WhenAsked (Err (unread.Outage outage)) holds = holds
