-- The refusals that an export may give.
use Rattle.std.specs.Prelude.{◌≡◌, ◌⊎◌}
use Rattle.base.specs.declared.refusal.Refusal.{Refusal}
use Rattle.base.specs.declared.refusal.Refusal.TheVariants as refusals
use Rattle.store_reads.specs.Failures.{IsFailure}
use Rattle.store_reads.specs.Faults.{refusal_of}
use Rattle.store_exports.specs.declared.fault.ExportFault.{ExportFault}
use Rattle.store_exports.specs.declared.fault.ExportFault.TheVariants.{Read, Write}

-- a device failed: memory, the store, or the writer
abbrev pub IsExportFailure : Refusal → Type 0
IsExportFailure refusal = IsFailure refusal ⊎ (refusal ≡ refusals.Write)

-- the row of the table of refusals for a fault of an export: Write for the writer's alone
abbrev pub row_of : ExportFault → Refusal
row_of (Read fault) = refusal_of fault
row_of Write = refusals.Write
