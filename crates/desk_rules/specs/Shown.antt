-- Rows of the tables that a view must show for a decision.
use Rattle.std.specs.Prelude.{◌≡◌, ℕ, ◌==◌, ◌||◌, Bool, true, false, List, length, map, find, bytes_eq, Some, IsPermutation, IsTrue}
use Rattle.std.specs.List.{list_any}
use Rattle.desk_types.specs.declared.command.Call.{Call}
use Rattle.desk_types.specs.declared.command.Command.{Command}
use Rattle.desk_types.specs.declared.command.Command.TheVariants as command
use Rattle.desk_types.specs.declared.command.Listing.{Listing}
use Rattle.desk_history.specs.declared.rows.Entry.{Entry}
use Rattle.desk_history.specs.declared.rows.ProposalRow.{ProposalRow}
use Rattle.desk_history.specs.declared.rows.RequestRow.{RequestRow}
use Rattle.desk_types.specs.Callers.{caller_name}
use Rattle.desk_types.specs.Naming.{proposal_named, request_named}
use Rattle.desk_history.specs.People.{has_name, has_token}
use Rattle.desk_history.specs.Requests.{votes_on}
use Rattle.desk_history.specs.Calls.{History}
use Rattle.desk_history.specs.Tables.{Tables, tables}
use Rattle.desk_rules.specs.declared.view.Sizes.{Sizes}
use Rattle.desk_rules.specs.declared.view.View.{View}
use Rattle.desk_history.specs.Runs.{has_key, is_legal}
use Rattle.desk_rules.specs.declared.view.LimitedTable.{LimitedTable}
use Rattle.desk_rules.specs.declared.view.LimitedTable.TheVariants as counted
use Rattle.desk_rules.specs.Keys.{keys_with, people_named, tokens_named}
use Rattle.desk_rules.specs.Views.{Keys, ShowsLists}

-- the row of the request of this number
abbrev pub is_request_row : ℕ → RequestRow → Bool
is_request_row k row = k == row.number

-- the row of the proposal of this number
abbrev pub is_proposal_row : ℕ → ProposalRow → Bool
is_proposal_row k row = k == row.number

-- the keys of the lists that a call reads, if these are the tables
abbrev pub keys_asked : Tables → Call → Keys
keys_asked t c = keys_with c.command (λ k. find (is_proposal_row k) t.proposals)

-- the tables are the same
abbrev pub is_table : LimitedTable → LimitedTable → Bool
is_table counted.People counted.People = true
is_table counted.Requests counted.Requests = true
is_table counted.Listed counted.Listed = true
is_table counted.RevokedDigests counted.RevokedDigests = true
is_table counted.RevokedCertificates counted.RevokedCertificates = true
is_table counted.Components counted.Components = true
is_table counted.Proposals counted.Proposals = true
is_table _ _ = false

-- the command may insert rows into the table
abbrev pub may_put : Command → LimitedTable → Bool
may_put (command.AddPerson _) table = is_table counted.People table
may_put (command.Submit _) table = is_table counted.Requests table
may_put (command.Review _) table = false
may_put (command.Withdraw _) table = false
may_put (command.Return _) table = false
may_put (command.ListCertificate _) table = is_table counted.Listed table
may_put (command.ListDigest _) table = is_table counted.Listed table
may_put (command.Unlist _) table = false
may_put (command.RevokeDigest _) table = is_table counted.Proposals table
may_put (command.RevokeCertificate _) table = is_table counted.Proposals table
may_put (command.RaiseLevel _) table = is_table counted.Proposals table
may_put (command.ImportRevocations _) table = is_table counted.Proposals table
may_put (command.Confirm _) table =
    is_table counted.RevokedDigests table || is_table counted.RevokedCertificates table || is_table counted.Components table
may_put (command.Drop _) table = false
may_put (command.Explain _) table = false

-- the table's size among the sizes
abbrev pub size_in : Sizes → LimitedTable → ℕ
size_in s counted.People = s.people
size_in s counted.Requests = s.requests
size_in s counted.Listed = s.listed
size_in s counted.RevokedDigests = s.revoked_digests
size_in s counted.RevokedCertificates = s.revoked_certificates
size_in s counted.Components = s.components
size_in s counted.Proposals = s.proposals

-- the number of rows of the table
abbrev pub rows_in : Tables → LimitedTable → ℕ
rows_in t counted.People = length t.people
rows_in t counted.Requests = length t.requests
rows_in t counted.Listed = length t.listed
rows_in t counted.RevokedDigests = length t.revoked_digests
rows_in t counted.RevokedCertificates = length t.revoked_certificates
rows_in t counted.Components = length t.components
rows_in t counted.Proposals = length t.proposals

-- The view shows these of the tables for a call: the level's stamp; how many calls there are, and
-- how many rows each table has into which the command may insert rows; for the caller, the caller's
-- key and all that the command names, the tables' row, or none if they have none; the votes on the
-- request that it names; and for a Confirm, the rows of the lists for its proposal's entries. It
-- may have other rows.
pub record Shows (v : View) (t : Tables) (c : Call) : Type 0 where
  pub stamp : v.stamp ≡ t.desk.stamp
  pub count : v.sizes.calls ≡ length t.calls
  pub sizes : (table : LimitedTable) → IsTrue (may_put c.command table) → size_in v.sizes table ≡ rows_in t table
  pub caller : find (has_name (caller_name c.caller)) v.people.items ≡ find (has_name (caller_name c.caller)) t.people
  pub names : (name : List ℕ) → IsTrue (list_any (λ n. bytes_eq name n) (people_named c.command))
      → find (has_name name) v.people.items ≡ find (has_name name) t.people
  pub tokens : (token : List ℕ) → IsTrue (list_any (λ n. bytes_eq token n) (tokens_named c.command))
      → find (has_token token) v.people.items ≡ find (has_token token) t.people
  pub call : find (has_key (caller_name c.caller) c.key) v.calls.items ≡ find (has_key (caller_name c.caller) c.key) t.calls
  pub request : (k : ℕ) → request_named c.command ≡ Some k → find (is_request_row k) v.requests.items ≡ find (is_request_row k) t.requests
  pub votes : (k : ℕ) → request_named c.command ≡ Some k → IsPermutation (votes_on t.votes k) (votes_on v.votes.items k)
  pub proposal : (k : ℕ) → proposal_named c.command ≡ Some k → find (is_proposal_row k) v.proposals.items ≡ find (is_proposal_row k) t.proposals
  pub lists : ShowsLists v.lists t (keys_asked t c)

-- the key of a listed entry
abbrev pub key_of : Entry → Listing
key_of e = record { kind = e.kind; digest = e.digest }

-- The view has all rows of the tables that a decision may need, in any order.
pub record HoldsWhole (v : View) (t : Tables) : Type 0 where
  pub stamp : v.stamp ≡ t.desk.stamp
  pub count : v.sizes.calls ≡ length t.calls
  pub sizes : (table : LimitedTable) → size_in v.sizes table ≡ rows_in t table
  pub people : IsPermutation t.people v.people.items
  pub calls : IsPermutation t.calls v.calls.items
  pub requests : IsPermutation t.requests v.requests.items
  pub votes : IsPermutation t.votes v.votes.items
  pub proposals : IsPermutation t.proposals v.proposals.items
  pub listed : IsPermutation (map key_of t.listed) v.lists.listed.items
  pub revoked_digests : IsPermutation t.revoked_digests v.lists.revoked_digests.items
  pub revoked_certificates : IsPermutation t.revoked_certificates v.lists.revoked_certificates.items
  pub components : IsPermutation t.components v.lists.components.items

-- a view of whole tables of a legal history shows them for every call
abbrev pub WholeTablesShow : Type 0
WholeTablesShow =
    (v : View) (owner : List ℕ) (cs : History) (c : Call) → IsTrue (is_legal cs) → HoldsWhole v (tables owner cs)
    → Shows v (tables owner cs) c
