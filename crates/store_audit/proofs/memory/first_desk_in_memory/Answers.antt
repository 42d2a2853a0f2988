use Rattle.std.proofs.Common.{inl, inr}
use Rattle.store_memory.proofs.CleanLemmas.{memory_is_clean}
use Rattle.store_audit.proofs.AuditLemmas.{none_taken}
use Rattle.store_audit.proofs.memory.first_desk_in_memory.Goals as goal

pub returns-clause-shown : goal.returns-clause-shown
returns-clause-shown c =
    c.of.ensures.shown c.args.owner.now (c.in-Ok-create.ensures.ok (memory_is_clean c.in-Ok-create.desk.conn) c.in-Ok.ensures.empty.2)

-- no name is taken in an empty store
pub returns-in-Err-clause-named : goal.returns-in-Err-clause-named
returns-in-Err-clause-named c =
    elim c.in-Err.ensures.named [
      | inl exists ↦ absurd (none_taken _ c.in-Ok.ensures.empty.2 (c.in-Err.ensures.taken exists).0)
      | inr failed ↦ failed
    ]
