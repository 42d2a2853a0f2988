-- Reasons why a read fails.
use Rattle.base.specs.declared.refusal.Refusal.{Refusal}
use Rattle.base.specs.declared.refusal.Refusal.TheVariants as refusals
use Rattle.store_reads.specs.declared.fault.ReadFault.{ReadFault}
use Rattle.store_reads.specs.declared.fault.ReadFault.TheVariants as faults
use Rattle.store_sql.specs.declared.fault.StoreFault.{StoreFault}
use Rattle.store_sql.specs.declared.fault.StoreFault.TheVariants as store_faults

-- a failure of the store, as a read's
abbrev pub of_store : StoreFault → ReadFault
of_store store_faults.NoMemory = faults.NoMemory
of_store store_faults.Store = faults.Store

-- its row in the table of refusals: a wrong row counts as a failure of the store
abbrev pub refusal_of : ReadFault → Refusal
refusal_of faults.Row = refusals.Store
refusal_of faults.NoMemory = refusals.NoMemory
refusal_of faults.Store = refusals.Store
