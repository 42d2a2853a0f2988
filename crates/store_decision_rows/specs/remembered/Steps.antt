-- The stamp after writes, one after another. Auditors needn't believe these words.
use Rattle.std.specs.Prelude.{ℕ, List, fold}
use Rattle.desk_history.specs.declared.write.Write.{Write}
use Rattle.desk_history.specs.declared.write.Write.TheVariants as writes

-- after one
abbrev pub stamp_after : ℕ → Write → ℕ
stamp_after now (writes.Stamp s) = s
stamp_after now (writes.Person _) = now
stamp_after now (writes.Call _) = now
stamp_after now (writes.Request _) = now
stamp_after now (writes.RequestCertificate _) = now
stamp_after now (writes.RequestComponent _) = now
stamp_after now (writes.Vote _) = now
stamp_after now (writes.State _) = now
stamp_after now (writes.Return _) = now
stamp_after now (writes.List _) = now
stamp_after now (writes.Unlist _) = now
stamp_after now (writes.Revoke _) = now
stamp_after now (writes.Component _) = now
stamp_after now (writes.Generation _) = now
stamp_after now (writes.Propose _) = now
stamp_after now (writes.ProposalState _) = now

-- after these
abbrev pub last_stamp : ℕ → List Write → ℕ
last_stamp now ws = fold stamp_after now ws
