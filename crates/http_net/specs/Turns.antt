-- Connections served one after another, whatever serves each.
use Rattle.std.specs.Prelude.{◌≡◌, ◌⊎◌, ◌<◌, ℕ, List, [], ◌∷◌, All, length, None, Some, Result, Ok, Err}
use Rattle.base.specs.declared.refusal.Refusal.{Refusal}
use Rattle.base.specs.declared.refusal.Refusal.TheVariants as refusals
use Rattle.http_exchange.specs.declared.served.HttpFault.{HttpFault}
use Rattle.http_exchange.specs.declared.served.Served.{Served}
use Rattle.http_net.specs.Served.{ending_of}

-- the program goes on after this
abbrev pub GoesOn : Result Served HttpFault → Type 0
GoesOn served = ending_of served ≡ None

-- In the following, `serves old new served` says that a desk served one connection with the outcome
-- `served`, and that it was `old` before and `new` after.
module _ {D : Type 0} (serves : D → D → Result Served HttpFault → Type 0) where
  -- connections with these outcomes were served one after another
  abbrev pub AreServed : List (Result Served HttpFault) → D → D → Type 0
  AreServed [] old new = new ≡ old
  AreServed (served ∷ more) old new = (mid : D) × serves old mid served × AreServed more mid new

  -- the last connection ended the program with this refusal, or none could be had
  abbrev pub EndsTurns : D → D → Refusal → Type 0
  EndsTurns old new refusal =
      ((last : Result Served HttpFault) × serves old new last × (ending_of last ≡ Some refusal))
      ⊎ ((refusal ≡ refusals.Read) × (new ≡ old))

  -- this many connections were served, each by the desk as the one before left it; or fewer, and
  -- then one that ended the program, or none could be accepted
  abbrev pub ServesInTurn : ℕ → D → D → Result Unit Refusal → Type 0
  ServesInTurn count old new (Ok done) =
      (all : List (Result Served HttpFault)) × (length all ≡ count) × All GoesOn all × AreServed all old new
  ServesInTurn count old new (Err refusal) =
      (all : List (Result Served HttpFault)) × (length all < count) × All GoesOn all
      × (mid : D) × AreServed all old mid × EndsTurns mid new refusal
