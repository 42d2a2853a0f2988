-- Requests to a desk in a store, in the words of any desk that answers calls.
use Rattle.std.specs.Prelude.{◌≡◌, ℕ, List, Option, Result, true}
use Rattle.sqlite.specs.Held.{state}
use Rattle.sqlite.specs.State.{HasCleanDisk}
use Rattle.sqlite.specs.Store as store
use Rattle.desk_history.specs.Calls.{History}
use Rattle.http_exchange.specs.Serving.{AnswersOne}
use Rattle.http_exchange.specs.declared.served.HttpFault.{HttpFault}
use Rattle.http_exchange.specs.declared.served.Served.{Served}
use Rattle.http_net.specs.Wire.{IsOneRequest}
use Rattle.store_desk.specs.Answering.{LeavesOne}
use Rattle.store_desk.specs.Desks.{ShowsDesk}
use Rattle.store_desk.specs.declared.desk.Desk.{Desk}

module _ {S : Type 0} (g : store.Ghosts S) where
  -- the desk's disk has returned what was written
  abbrev pub is_clean : Desk S → Type 0
  is_clean desk = HasCleanDisk (state g desk.conn)

  -- the desk has to be opened again
  abbrev pub has_failed : Desk S → Type 0
  has_failed desk = desk.needs_reopening ≡ true

  -- a stop leaves one of these two histories
  abbrev pub leaves : Desk S → List ℕ → History → History → Type 0
  leaves desk owner before after = LeavesOne (state g desk.conn) owner before after

  -- a desk serves one request
  abbrev pub ServesRequest : Desk S → Desk S → Result Served HttpFault → Type 0
  ServesRequest = IsOneRequest (ShowsDesk g) is_clean has_failed leaves

  -- a desk answers one request of an input
  abbrev pub AnswersRequest : (input before after : Option (List ℕ)) → Desk S → Desk S → Result Served HttpFault → Type 0
  AnswersRequest = AnswersOne (ShowsDesk g) is_clean has_failed leaves
