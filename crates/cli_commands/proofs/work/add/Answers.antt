use Rattle.std.proofs.Common.{inl, inr, refl}
use Rattle.cli_commands.proofs.FaultLemmas.{neither, other_given, other_refusal, reopen_told, store_given}
use Rattle.cli_commands.proofs.LineLemmas.{none_written}
use Rattle.cli_commands.proofs.work.add.Goals as goal

-- the call was refused, or the desk failed

pub returns-in-Err-clause-beginning : goal.returns-in-Err-clause-beginning
returns-in-Err-clause-beginning g c = λ clean owner cs was. none_written _ _

pub returns-in-Err-clause-poisons : goal.returns-in-Err-clause-poisons
returns-in-Err-clause-poisons g c = λ told. c.in-Err.ensures.poisons (store_given c.from.result c.in-Err.refused c.from.ensures told)

pub returns-in-Err-clause-closed : goal.returns-in-Err-clause-closed
returns-in-Err-clause-closed g c = λ failed.
    let it = c.in-Err.ensures.closed failed in
    (reopen_told c.from.result c.in-Err.refused c.from.ensures it.0, it.1, refl)

pub returns-in-Err-clause-refused : goal.returns-in-Err-clause-refused
returns-in-Err-clause-refused g c = λ clean memory write. rw c.from.ensures (c.in-Err.ensures.refused clean)

pub returns-in-Err-clause-same : goal.returns-in-Err-clause-same
returns-in-Err-clause-same g c = λ clean other owner cs was.
    inl (c.in-Err.ensures.refused clean (other_given c.from.result c.in-Err.refused c.from.ensures other) owner cs was).1

pub returns-in-Err-clause-uncommitted : goal.returns-in-Err-clause-uncommitted
returns-in-Err-clause-uncommitted g c = λ memory store write.
    c.in-Err.ensures.unwritten (other_refusal c.from.result c.in-Err.refused c.from.ensures store)

-- it was answered

pub returns-in-Ok-say_reply-clause-same : goal.returns-in-Ok-say_reply-clause-same
returns-in-Ok-say_reply-clause-same g c = λ clean other owner cs was. inr (c.in-Ok.ensures.ok clean owner cs was).1

-- and its line wasn't written whole

pub returns-clause-refused : goal.returns-clause-refused
returns-clause-refused g c = λ clean. neither c.in-Err-say_reply.fault c.in-Err-say_reply.ensures.named

pub returns-clause-same : goal.returns-clause-same
returns-clause-same g c = λ clean other owner cs was. inr (c.in-Ok.ensures.ok clean owner cs was).1

pub returns-clause-uncommitted : goal.returns-clause-uncommitted
returns-clause-uncommitted g c = λ memory store write. neither c.in-Err-say_reply.fault c.in-Err-say_reply.ensures.named memory write
