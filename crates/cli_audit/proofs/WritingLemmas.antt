-- What was written of a desk of so many calls.
use Rattle.std.proofs.Common.{◌≡◌, ℕ, List, length, Option, Result, Ok, Err, OnErr, OnOk, ap}
use Rattle.std.specs.Io.KnownBytes.{Appends, Keeps}
use Rattle.sqlite.specs.Store.{Ghosts}
use Rattle.std.proofs.KnownBytes.{Appends-kept, Appends-nil}
use Rattle.base.proofs.OutputLemmas.{AppendsBeginning-none}
use Rattle.base.specs.Output.{AppendsBeginning}
use Rattle.desk_history.specs.Calls.{History}
use Rattle.store_desk.specs.Desks.{ForEachShown}
use Rattle.store_desk.specs.Exports.{Writes, WritesBeginning}
use Rattle.store_desk.specs.declared.desk.Desk.{Desk}
use Rattle.cli_output.proofs.LineLemmas.{Appends-same, AppendsBeginning-either, AppendsBeginning-same}
use Rattle.cli_output.specs.declared.fault.Fault.{Fault}
use Rattle.cli_audit.specs.Audits.{WritesCounted}
use Rattle.cli_audit.specs.Lines.{audit_lines, told_lines, told_of}
use Rattle.cli_audit.specs.declared.summary.Summary.{Summary}

-- all that was written whole, and then flushed, is a beginning
pub flushed_begins : (a b c : Option (List ℕ)) (xs : List ℕ) → Appends a b xs → Keeps b c → AppendsBeginning a c xs
flushed_begins a b c xs written kept =
    let done : Result Unit Unit = Ok tt in
    AppendsBeginning-either done a c xs (Appends-kept a b c xs written kept) tt

module _ {S : Type 0} (g : Ghosts S) (desk : Desk S) (calls : ℕ) where
  -- the lines of what an audit tells are those of each history
  pub lines_written : (told : Summary) (before after : Option (List ℕ)) (r : Result Unit Fault)
      → ForEachShown g desk (λ owner cs. length cs ≡ calls → told ≡ told_of owner cs)
      → OnOk r (Appends before after (told_lines told)) → OnErr r (AppendsBeginning before after (told_lines told))
      → WritesCounted g desk calls audit_lines before after r
  lines_written told before after (Ok u) is ok err =
      (λ owner cs was count. Appends-same before after _ _ (ap told_lines (is owner cs was count)) ok, tt)
  lines_written told before after (Err fault) is ok err =
      (tt, λ owner cs was count. AppendsBeginning-same before after _ _ (ap told_lines (is owner cs was count)) err)

  -- nothing is a prefix
  pub nothing_written : (bytes : List ℕ → History → List ℕ) (before : Option (List ℕ)) (fault : Fault) → WritesCounted g desk calls bytes before before (Err fault)
  nothing_written bytes before fault = (tt, λ owner cs was count. AppendsBeginning-none before before (bytes owner cs) (Appends-nil before))

  -- an export, whatever the count
  pub export_written : (bytes : List ℕ → History → List ℕ) (before after : Option (List ℕ)) → ForEachShown g desk (Writes before after bytes)
      → WritesCounted g desk calls bytes before after (Ok tt)
  export_written bytes before after w = (λ owner cs was count. w owner cs was, tt)

  pub export_begun : (bytes : List ℕ → History → List ℕ) (before after : Option (List ℕ)) (fault : Fault) → ForEachShown g desk (WritesBeginning before after bytes)
      → WritesCounted g desk calls bytes before after (Err fault)
  export_begun bytes before after fault w = (tt, λ owner cs was count. w owner cs was)
