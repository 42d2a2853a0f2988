-- What an audit writes, by the history whose minutes it followed.
use Rattle.std.specs.Prelude.{◌≡◌, ◌≢◌, ◌⊎◌, ℕ, List, [], length, Option, None, Some, Result}
use Rattle.std.specs.Prelude.{IfErr, IfSome, OnErr, OnOk}
use Rattle.std.specs.Io.KnownBytes.{Appends, Keeps}
use Rattle.sqlite.specs.Held.{state}
use Rattle.sqlite.specs.State.{HasCleanDisk}
use Rattle.store_memory.specs.Disks.{MemoryStore, over_memory}
use Rattle.sqlite.specs.Store.{Ghosts}
use Rattle.base.specs.Output.{AppendsBeginning}
use Rattle.desk_history.specs.Calls.{History}
use Rattle.desk_history.specs.Formed.{IsHistory}
use Rattle.desk_exports.specs.Exports.{exported, minutes_text}
use Rattle.desk_exports.specs.declared.export.Export.{Export}
use Rattle.store_desk.specs.Desks.{ForEachShown}
use Rattle.store_desk.specs.Exports.{Writes, WritesBeginning}
use Rattle.store_desk.specs.declared.desk.Desk.{Desk}
use Rattle.store_audit.specs.Audits.{HasFollowed, IsWrongAt}
use Rattle.base.specs.declared.refusal.Refusal.TheVariants as refusals
use Rattle.cli_output.specs.Faults.{row_of}
use Rattle.cli_output.specs.declared.fault.Fault.{Fault}
use Rattle.store_minutes.specs.declared.lines.LineWatch.{LineWatch}
use Rattle.cli_audit.specs.Faults.{IsAuditRow, wrong_line}
use Rattle.cli_audit.specs.Lines.{audit_lines}

-- own: what an audit writes: the bytes of the export that is named, or else the lines
abbrev pub audited : Option Export → List ℕ → History → List ℕ
audited None owner cs = audit_lines owner cs
audited (Some what) owner cs = exported what owner cs

-- this holds of each history of so many calls that the desk shows
abbrev pub ForEachCounted : {S : Type 0} → Ghosts S → Desk S → ℕ → (List ℕ → History → Type 0) → Type 0
ForEachCounted g desk calls told = ForEachShown g desk (λ owner cs. length cs ≡ calls → told owner cs)

-- of a desk of so many calls these bytes were written, or after a fault a prefix of them
abbrev pub WritesCounted : {S : Type 0} → Ghosts S → Desk S → ℕ → (List ℕ → History → List ℕ) → Option (List ℕ) → Option (List ℕ) → Result Unit Fault → Type 0
WritesCounted g desk calls bytes before after result =
    OnOk result (ForEachCounted g desk calls (Writes before after bytes))
    × OnErr result (ForEachCounted g desk calls (WritesBeginning before after bytes))

-- the same, if the disk of a desk kept its promise until the end
abbrev pub WritesLast : {S : Type 0} → Ghosts S → Desk S → ℕ → (List ℕ → History → List ℕ) → Option (List ℕ) → Option (List ℕ) → Result Unit Fault → Type 0
WritesLast {S} g desk calls bytes before after result =
    (left : Desk S) × (HasCleanDisk (state g left.conn) → WritesCounted g desk calls bytes before after result)

-- These bytes are the minutes of the history that a desk with this owner shows after following them,
-- and what an audit writes of that history was written so.
pub record HasWritten (what : Option Export) (owner given : List ℕ) (wrote : List ℕ → Type 0) : Type 0 where
  pub desk : Desk MemoryStore
  pub calls : ℕ
  pub followed : HasFollowed over_memory desk owner calls (Some given) (Some [])
  pub written : wrote (audited what owner followed.history)

-- the bytes are the minutes of no history
abbrev pub AreNoMinutes : Option (List ℕ) → Type 0
AreNoMinutes known = (cs : History) → IsHistory cs → known ≢ Some (minutes_text cs)

-- The end of an audit of these bytes, where they are known, under a watch. Ok: all was followed and
-- written. A fault is the first wrong line, and nothing was written; or memory was refused, a read
-- failed or a write did, and nothing was written, or of minutes that were followed a prefix: of the
-- lines only if the write failed.
pub record Audits (what : Option Export) (owner : List ℕ) (known before after : Option (List ℕ)) (watch : LineWatch) (result : Result Unit Fault) : Type 0 where
  pub ok : OnOk result (IfSome known (λ given. HasWritten what owner given (Appends before after)))
  pub stopped : OnErr result (Keeps before after ⊎ IfSome known (λ given. HasWritten what owner given (AppendsBeginning before after)))
  pub unwritten : what ≡ None → IfErr result (λ fault. fault ≢ row_of refusals.Write → Keeps before after)
  pub named : IfErr result (IsAuditRow watch)
  pub wrong : IfErr result (λ fault. (n : ℕ) → fault ≡ wrong_line n → IfSome known (λ given. IsWrongAt given n))
  pub silent : IfErr result (λ fault. (n : ℕ) → fault ≡ wrong_line n → Keeps before after)
  pub passes : IfErr result (λ fault. (n : ℕ) → fault ≡ wrong_line n → AreNoMinutes known)
