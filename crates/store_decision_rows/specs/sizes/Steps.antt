-- The sizes after a command, step by step. Auditors needn't believe these words.
use Rattle.std.specs.Prelude.{ℕ, ◌+◌, ◌-◌, nat_lt, if◌then◌else◌, List, Option, Some, None, count_by}
use Rattle.desk_types.specs.declared.command.Command.{Command}
use Rattle.desk_types.specs.declared.command.Command.TheVariants as command
use Rattle.desk_history.specs.declared.write.Write.{Write}
use Rattle.desk_rules.specs.declared.view.LimitedTable.TheVariants as counted
use Rattle.desk_rules.specs.Room.{puts}
use Rattle.store_decision_rows.specs.declared.sizes.known.KnownSizes.{KnownSizes}

-- `count` more rows, if the sum is a u64
abbrev pub more : Option ℕ → ℕ → Option ℕ
more None count = None
more (Some n) count = if nat_lt (n + count) 18446744073709551616 then Some (n + count) else None

-- one row less, if there is one
abbrev pub one_less : Option ℕ → Option ℕ
one_less None = None
one_less (Some n) = if nat_lt 0 n then Some (n - 1) else None

-- the number of listed entries after a command
abbrev pub listed_after : Option ℕ → Command → Option ℕ
listed_after size (command.ListCertificate _) = more size 1
listed_after size (command.ListDigest _) = more size 1
listed_after size (command.Unlist _) = one_less size
listed_after size (command.AddPerson _) = size
listed_after size (command.Submit _) = size
listed_after size (command.Review _) = size
listed_after size (command.Withdraw _) = size
listed_after size (command.Return _) = size
listed_after size (command.RevokeDigest _) = size
listed_after size (command.RevokeCertificate _) = size
listed_after size (command.RaiseLevel _) = size
listed_after size (command.ImportRevocations _) = size
listed_after size (command.Confirm _) = size
listed_after size (command.Drop _) = size
listed_after size (command.Explain _) = size

-- the sizes after a command and its writes
abbrev pub sizes_after : KnownSizes → Command → List Write → KnownSizes
sizes_after k given ws = record {
  people = more k.people (count_by (puts counted.People) ws);
  calls = more k.calls 1;
  requests = more k.requests (count_by (puts counted.Requests) ws);
  listed = listed_after k.listed given;
  revoked_digests = more k.revoked_digests (count_by (puts counted.RevokedDigests) ws);
  revoked_certificates = more k.revoked_certificates (count_by (puts counted.RevokedCertificates) ws);
  components = more k.components (count_by (puts counted.Components) ws);
  proposals = more k.proposals (count_by (puts counted.Proposals) ws);
}
