-- The end of an audit, from that of its parts.
use Rattle.std.proofs.Common.{◌≡◌, ◌≢◌, ◌∙◌, ℕ, List, [], Option, None, Some, Result, Ok, Err, IfErr, IfSome, OnErr, OnOk, inl, inr, refl, sym, ap, subst}
use Rattle.std.specs.Prelude.{◌⊎◌, ◌==◌, if◌then◌else◌}
use Rattle.std.specs.Io.Buffered.{reader_buffer, reader_capacity, reader_inner, reader_remaining}
use Rattle.std.specs.Io.KnownBytes.{Appends, Keeps, prepend_known}
use Rattle.std.specs.declared.io.buffered.BufReader.{BufReader}
use Rattle.std.proofs.KnownBytes.{Keeps-refl, prepend_known-nil}
use Rattle.std.proofs.lemmas.Option.{same_Some}
use Rattle.store_memory.proofs.CleanLemmas.{memory_is_clean}
use Rattle.store_memory.specs.Disks.{MemoryStore, over_memory}
use Rattle.store_audit.specs.Audits.{HasFollowed, IsWrongAt}
use Rattle.store_audit.specs.Faults.{IsCausedInMemory}
use Rattle.store_minutes.specs.declared.lines.LineWatch.{LineWatch}
use Rattle.store_minutes.specs.declared.auditing.AuditFault.{AuditFault}
use Rattle.store_minutes.specs.declared.auditing.AuditFault.TheVariants.{Device, Line}
use Rattle.base.specs.Output.{AppendsBeginning}
use Rattle.base.specs.declared.refusal.Refusal.{Refusal}
use Rattle.base.specs.declared.refusal.Refusal.TheVariants as refusals
use Rattle.desk_exports.specs.declared.export.Export.{Export}
use Rattle.store_desk.specs.declared.desk.Desk.{Desk}
use Rattle.cli_output.specs.Faults.{IsRow, row_of}
use Rattle.cli_output.specs.declared.fault.Fault.{Fault}
use Rattle.cli_audit.specs.Audits.{AreNoMinutes, Audits, HasWritten, WritesCounted, WritesLast, audited}
use Rattle.cli_audit.specs.Faults.{IsAuditRefusal, IsAuditRow, of_audit, wrong_line}

-- ---- minutes that were followed

module _ (what : Option Export) (owner : List ℕ) (desk : Desk MemoryStore) (calls : ℕ) (before after : Option (List ℕ)) where
  -- all was written
  whole : (known : Option (List ℕ)) (r : Result Unit Fault) → IfSome known (λ given. HasFollowed over_memory desk owner calls (Some given) (Some []))
      → WritesCounted over_memory desk calls (audited what) before after r
      → OnOk r (IfSome known (λ given. HasWritten what owner given (Appends before after)))
  whole None (Ok u) f w = tt
  whole (Some given) (Ok u) f w =
      record { desk = desk; calls = calls; followed = f; written = w.0 owner f.history f.shows f.count }
  whole known (Err fault) f w = tt

  -- a prefix was written
  part : (known : Option (List ℕ)) (r : Result Unit Fault) → IfSome known (λ given. HasFollowed over_memory desk owner calls (Some given) (Some []))
      → WritesCounted over_memory desk calls (audited what) before after r
      → OnErr r (Keeps before after ⊎ IfSome known (λ given. HasWritten what owner given (AppendsBeginning before after)))
  part known (Ok u) f w = tt
  part None (Err fault) f w = inr tt
  part (Some given) (Err fault) f w =
      inr (record { desk = desk; calls = calls; followed = f; written = w.1 owner f.history f.shows f.count })

-- a row without a place is no line's
no_line : (r : Result Unit Fault) (P : ℕ → Type 0) (Q : Refusal → Type 0) → IfErr r (IsRow Q) → IfErr r (λ fault. (n : ℕ) → fault ≡ wrong_line n → P n)
no_line (Ok u) P Q h = tt
no_line (Err fault) P Q h = λ n is. let bad : None ≡ Some n = sym h.0 ∙ ap (λ (f : Fault). f.place) is in absurd (cc)

no_place : (r : Result Unit Fault) (watch : LineWatch) → IfErr r (IsRow (IsAuditRefusal watch)) → IfErr r (IsAuditRow watch)
no_place (Ok u) watch h = tt
no_place (Err fault) watch h = inr h

-- what wasn't written before the row of memory took the fault's place isn't written
pub kept_in_memory : {W : Type 0} (contents : W → Option (List ℕ)) (old new : W) (fault row : Fault)
    → (fault ≡ row_of refusals.Write → row ≡ row_of refusals.Write) → (fault ≢ row_of refusals.Write → new ≡ old)
    → row ≢ row_of refusals.Write → Keeps (contents old) (contents new)
kept_in_memory contents old new fault row same unwritten other =
    let is = unwritten (λ write. other (same write)) in
    let P : _ → Type 0 = λ w. Keeps (contents old) (contents w) in
    subst P (sym is) (Keeps-refl (contents old))

-- the end of an audit whose minutes were followed
pub followed : (what : Option Export) (owner : List ℕ) (desk : Desk MemoryStore) (calls : ℕ) (known before after : Option (List ℕ)) (watch : LineWatch) (r : Result Unit Fault)
    → IfSome known (λ given. HasFollowed over_memory desk owner calls (Some given) (Some []))
    → WritesLast over_memory desk calls (audited what) before after r → IfErr r (IsRow (IsAuditRefusal watch))
    → (what ≡ None → IfErr r (λ fault. fault ≢ row_of refusals.Write → Keeps before after))
    → Audits what owner known before after watch r
followed what owner desk calls known before after watch r f (left, w) h unwritten =
    let wrote = w (memory_is_clean left.conn) in
    record {
      ok = whole what owner desk calls before after known r f wrote;
      stopped = part what owner desk calls before after known r f wrote;
      unwritten = unwritten;
      named = no_place r watch h;
      wrong = no_line r (λ n. IfSome known (λ given. IsWrongAt given n)) (IsAuditRefusal watch) h;
      silent = no_line r (λ n. Keeps before after) (IsAuditRefusal watch) h;
      passes = no_line r (λ n. AreNoMinutes known) (IsAuditRefusal watch) h;
    }

-- ---- minutes that weren't followed

-- only a wrong line has the row of one
pub line_of : (fault : AuditFault) (n : ℕ) → of_audit fault ≡ wrong_line n → fault ≡ Line n
line_of (Line m) n e = ap Line (same_Some m n (ap (λ (f : Fault). f.place) e))
line_of (Device refusal) n e = let bad : None ≡ Some n = ap (λ (f : Fault). f.place) e in absurd (cc)

row_of_cause : (watch : LineWatch) (fault : AuditFault) → IsCausedInMemory watch fault → IsAuditRow watch (of_audit fault)
row_of_cause watch (Line n) caused = inl (n, refl)
row_of_cause watch (Device refusal) caused = inr (refl, inl caused)

pub stopped_by : (what : Option Export) (owner : List ℕ) (known before : Option (List ℕ)) (watch : LineWatch) (fault : AuditFault) (row : Fault) → row ≡ of_audit fault
    → ((n : ℕ) → fault ≡ Line n → IfSome known (λ given. IsWrongAt given n)) → ((n : ℕ) → fault ≡ Line n → AreNoMinutes known) → IsCausedInMemory watch fault
    → Audits what owner known before before watch (Err row)
stopped_by what owner known before watch fault row is wrong passes caused = record {
  ok = tt;
  stopped = inl (Keeps-refl before);
  unwritten = λ lines other. Keeps-refl before;
  named = rw is (row_of_cause watch fault caused);
  wrong = λ n same. wrong n (line_of fault n (sym is ∙ same));
  silent = λ n same. Keeps-refl before;
  passes = λ n same. passes n (line_of fault n (sym is ∙ same));
}

-- memory was refused, before anything was followed
pub unread : (what : Option Export) (owner : List ℕ) (known before : Option (List ℕ)) (watch : LineWatch) (fault : Fault) → fault ≡ row_of refusals.NoMemory
    → Audits what owner known before before watch (Err fault)
unread what owner known before watch fault is =
    let h : IsRow (IsAuditRefusal watch) fault = (ap (λ (f : Fault). f.place) is, inl (inl (ap (λ (f : Fault). f.refusal) is))) in
    record {
      ok = tt;
      stopped = inl (Keeps-refl before);
      unwritten = λ lines other. Keeps-refl before;
      named = inr h;
      wrong = no_line (Err fault) (λ n. IfSome known (λ given. IsWrongAt given n)) (IsAuditRefusal watch) h;
      silent = no_line (Err fault) (λ n. Keeps before before) (IsAuditRefusal watch) h;
      passes = no_line (Err fault) (λ n. AreNoMinutes known) (IsAuditRefusal watch) h;
    }

-- ---- a reader with a buffer

-- a new one has the bytes of the reader within
pub buffered : {T A : Type 0} (remaining : T → Option (List ℕ)) (r : BufReader T A) (inner : T) → reader_inner r ≡ inner → reader_buffer r ≡ [] → reader_capacity r ≡ 8192
    → reader_remaining remaining r ≡ remaining inner
buffered remaining r inner is empty room =
    ap (λ (n : ℕ). if n == 0 then None else prepend_known (reader_buffer r) (remaining (reader_inner r))) room
    ∙ ap (λ (bs : List ℕ). prepend_known bs (remaining (reader_inner r))) empty
    ∙ prepend_known-nil (remaining (reader_inner r))
    ∙ ap remaining is
