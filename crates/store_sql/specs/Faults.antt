-- The fault of each error of the store, and the refusal of each fault.
use Rattle.base.specs.declared.refusal.Refusal.{Refusal}
use Rattle.base.specs.declared.refusal.Refusal.TheVariants as refusals
use Rattle.sqlite.specs.declared.error.Error.{Error}
use Rattle.sqlite.specs.declared.error.Error.TheVariants.{SqliteFailure}
use Rattle.sqlite.specs.declared.error.ErrorCode.TheVariants.{OutOfMemory}
use Rattle.store_sql.specs.declared.fault.StoreFault.{StoreFault}
use Rattle.store_sql.specs.declared.fault.StoreFault.TheVariants.{NoMemory, Store}

-- own: an OutOfMemory error is NoMemory, any other error Store
abbrev pub fault_of : Error → StoreFault
fault_of (SqliteFailure OutOfMemory) = NoMemory
fault_of error = Store

-- its row in the table of refusals
abbrev pub refusal_of : StoreFault → Refusal
refusal_of NoMemory = refusals.NoMemory
refusal_of Store = refusals.Store
