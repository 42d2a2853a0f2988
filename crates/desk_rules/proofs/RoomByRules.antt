-- Room in the tables after a call by the second rules, and after one by the first that names entries.
use Rattle.std.proofs.Common.{◌≡◌, ℕ, ◌≤◌, true, false, List, ◌∷◌, length, inl, arith}
use Rattle.std.specs.Prelude.{IsTrue, is_some}
use Rattle.std.specs.List.{list_any}
use Rattle.desk_types.specs.declared.command.Call.{Call}
use Rattle.desk_types.specs.declared.command.Command.{Command}
use Rattle.desk_types.specs.declared.command.Command.TheVariants as command
use Rattle.desk_types.specs.declared.kind.ListedKind.TheVariants as kinds
use Rattle.desk_history.specs.declared.write.Write.{Write}
use Rattle.desk_history.specs.Calls.{First, History, distinct, item, under}
use Rattle.desk_history.specs.Level.{generations, names}
use Rattle.desk_history.specs.Limits.{is_within}
use Rattle.desk_history.specs.Listing.{listed}
use Rattle.desk_history.specs.People.{people}
use Rattle.desk_history.specs.Proposals.{named_by, proposals}
use Rattle.desk_history.specs.Replies.{minutes}
use Rattle.desk_history.specs.Requests.{requests}
use Rattle.desk_history.specs.Revocations.{revocations}
use Rattle.desk_history.specs.Runs.{is_legal}
use Rattle.desk_history.specs.Tables.{tables}
use Rattle.desk_history.specs.Writes.{all_written}
use Rattle.desk_history.proofs.EntryLemmas.{without_fewer}
use Rattle.desk_rules.specs.declared.view.LimitedTable.{LimitedTable}
use Rattle.desk_rules.specs.declared.view.LimitedTable.TheVariants as kept
use Rattle.desk_rules.specs.declared.view.Sizes.{Sizes}
use Rattle.desk_rules.specs.First.{is_forced}
use Rattle.desk_rules.specs.FirstSteps.{next_tables}
use Rattle.desk_rules.specs.Room.{IsRoomed, has_room, takes_off}
use Rattle.desk_rules.specs.Shown.{may_put, rows_in, size_in}
use Rattle.desk_rules.proofs.RoomAfterLemmas.{LeavesRows, room_after}

no_more : {A : Type 0} → true ≡ false → A
no_more e = cc

-- commands that may put no rows into a table leave it no more of them

people_same : (cs : History) (old : Call) (given : Command) → may_put given kept.People ≡ false → length (people (item (record old { command = given }) ∷ cs)) ≤ length (people cs)
people_same cs old (command.AddPerson _) h = no_more h
people_same cs old _ h = omega arith

requests_same : (cs : History) (old : Call) (given : Command) → may_put given kept.Requests ≡ false → length (requests (item (record old { command = given }) ∷ cs)) ≤ length (requests cs)
requests_same cs old (command.Submit _) h = no_more h
requests_same cs old _ h = omega arith

proposals_same : (cs : History) (old : Call) (given : Command) → may_put given kept.Proposals ≡ false → length (proposals (item (record old { command = given }) ∷ cs)) ≤ length (proposals cs)
proposals_same cs old (command.RevokeDigest _) h = no_more h
proposals_same cs old (command.RevokeCertificate _) h = no_more h
proposals_same cs old (command.RaiseLevel _) h = no_more h
proposals_same cs old (command.ImportRevocations _) h = no_more h
proposals_same cs old _ h = omega arith

listed_same : (cs : History) (old : Call) (given : Command) → may_put given kept.Listed ≡ false → length (listed (item (record old { command = given }) ∷ cs)) ≤ length (listed cs)
listed_same cs old (command.ListCertificate _) h = no_more h
listed_same cs old (command.ListDigest _) h = no_more h
listed_same cs old (command.Unlist l) h = without_fewer l.kind l.digest (listed cs)
listed_same cs old _ h = omega arith

digests_same : (cs : History) (old : Call) (given : Command) → may_put given kept.RevokedDigests ≡ false → length (distinct (revocations kinds.Digest (item (record old { command = given }) ∷ cs))) ≤ length (distinct (revocations kinds.Digest cs))
digests_same cs old (command.Confirm _) h = no_more h
digests_same cs old _ h = omega arith

certificates_same : (cs : History) (old : Call) (given : Command) → may_put given kept.RevokedCertificates ≡ false → length (distinct (revocations kinds.Certificate (item (record old { command = given }) ∷ cs))) ≤ length (distinct (revocations kinds.Certificate cs))
certificates_same cs old (command.Confirm _) h = no_more h
certificates_same cs old _ h = omega arith

components_same : (cs : History) (old : Call) (given : Command) → may_put given kept.Components ≡ false → length (names (generations (item (record old { command = given }) ∷ cs))) ≤ length (names (generations cs))
components_same cs old (command.Confirm _) h = no_more h
components_same cs old _ h = omega arith

leaves_rows : (cs : History) (c : Call) → LeavesRows (may_put c.command) cs (item c)
leaves_rows cs c = record {
  people = people_same cs c c.command;
  requests = requests_same cs c c.command;
  proposals = proposals_same cs c c.command;
  listed = listed_same cs c c.command;
  digests = digests_same cs c c.command;
  certificates = certificates_same cs c c.command;
  components = components_same cs c c.command;
}

pub room_is : (s : Sizes) (owner : List ℕ) (cs : History) (c : Call) (ws : List Write) → s.calls ≡ length (minutes cs)
    → ((table : LimitedTable) → IsTrue (may_put c.command table) → size_in s table ≡ rows_in (tables owner cs) table) → is_legal cs ≡ true
    → all_written ws (tables owner cs) ≡ record (tables owner (item c ∷ cs)) { calls = minutes cs } → IsRoomed ws cs c → has_room s ws ≡ is_within (item c ∷ cs)
room_is s owner cs c ws calls sizes legal made roomed = room_after s owner cs (item c) ws (may_put c.command) calls sizes legal (leaves_rows cs c) made roomed

-- ---- a command that names entries, by the first rules

none_named : {A : Type 0} → false ≡ true → A
none_named e = cc

forces_only : (cs : History) (old : Call) (given : Command) → is_some (named_by given) ≡ true → LeavesRows is_forced cs (under First (record old { command = given }))
forces_only cs old (command.RevokeDigest _) h = record { people = λ e. omega arith; requests = λ e. omega arith; proposals = λ e. omega arith; listed = λ e. omega arith; digests = no_more; certificates = no_more; components = no_more }
forces_only cs old (command.RevokeCertificate _) h = record { people = λ e. omega arith; requests = λ e. omega arith; proposals = λ e. omega arith; listed = λ e. omega arith; digests = no_more; certificates = no_more; components = no_more }
forces_only cs old (command.RaiseLevel _) h = record { people = λ e. omega arith; requests = λ e. omega arith; proposals = λ e. omega arith; listed = λ e. omega arith; digests = no_more; certificates = no_more; components = no_more }
forces_only cs old (command.ImportRevocations _) h = record { people = λ e. omega arith; requests = λ e. omega arith; proposals = λ e. omega arith; listed = λ e. omega arith; digests = no_more; certificates = no_more; components = no_more }
forces_only cs old _ h = none_named h

pub room_first : (s : Sizes) (owner : List ℕ) (cs : History) (c : Call) (ws : List Write) → s.calls ≡ length (minutes cs) → is_some (named_by c.command) ≡ true
    → ((table : LimitedTable) → IsTrue (is_forced table) → size_in s table ≡ rows_in (tables owner cs) table) → is_legal cs ≡ true
    → all_written ws (tables owner cs) ≡ next_tables owner cs c → list_any takes_off ws ≡ false → has_room s ws ≡ is_within (under First c ∷ cs)
room_first s owner cs c ws calls names sizes legal made kept = room_after s owner cs (under First c) ws is_forced calls sizes legal (forces_only cs c c.command names) made (inl kept)
