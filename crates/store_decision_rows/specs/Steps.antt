-- The reads of a view, part by part. Auditors needn't believe these words.
use Rattle.std.specs.Prelude.{◌≡◌, ℕ, List, [], Option, Some, None, find, not, bytes_eq, All, IsPermutation, IsTrue, is_some}
use Rattle.std.specs.List.{list_any}
use Rattle.desk_types.specs.Callers.{caller_name}
use Rattle.desk_types.specs.Naming.{proposal_named, request_named}
use Rattle.desk_types.specs.declared.command.Call.{Call}
use Rattle.desk_types.specs.declared.command.Command.{Command}
use Rattle.desk_types.specs.declared.command.Person.{Person}
use Rattle.desk_history.specs.declared.rows.ProposalRow.{ProposalRow}
use Rattle.desk_history.specs.declared.rows.RequestRow.{RequestRow}
use Rattle.desk_history.specs.declared.rows.VoteRow.{VoteRow}
use Rattle.desk_history.specs.Formed.{IsReadable}
use Rattle.desk_history.specs.People.{has_name, has_token}
use Rattle.desk_history.specs.Requests.{votes_on}
use Rattle.desk_history.specs.Runs.{has_key}
use Rattle.desk_history.specs.Tables.{Tables}
use Rattle.desk_rules.specs.declared.view.LimitedTable.{LimitedTable}
use Rattle.desk_rules.specs.Keys.{people_named, tokens_named}
use Rattle.desk_rules.specs.Shown.{is_proposal_row, is_request_row, may_put}
use Rattle.store_proposals.specs.Reading.{IsStamped}
use Rattle.store_decision_rows.specs.sizes.Sizes.{known}
use Rattle.store_decision_rows.specs.declared.sizes.known.KnownSizes.{KnownSizes}
use Rattle.store_decision_rows.specs.declared.loading.CallRows.{CallRows}
use Rattle.store_decision_rows.specs.Named.{is_named_person}

-- minutes and proposals of these tables are read back as they were written
pub record ReadsBack (t : Tables) : Type 0 where
  pub calls : All IsReadable t.calls
  pub proposals : All IsStamped t.proposals

-- no person of these tables has the empty name, no call the empty key, and proposals are read back
-- as they were written
pub record NamesAll (t : Tables) : Type 0 where
  pub people : find (has_name []) t.people ≡ None
  pub calls : find (has_key [] []) t.calls ≡ None
  pub proposals : All IsStamped t.proposals

-- people, those that a call names
pub record ShowsPeople (rows : List Person) (t : Tables) (own : List ℕ) (command : Command) : Type 0 where
  pub caller : find (has_name own) rows ≡ find (has_name own) t.people
  pub names : (name : List ℕ) → IsTrue (list_any (λ n. bytes_eq name n) (people_named command))
      → find (has_name name) rows ≡ find (has_name name) t.people
  pub tokens : (token : List ℕ) → IsTrue (list_any (λ n. bytes_eq token n) (tokens_named command))
      → find (has_token token) rows ≡ find (has_token token) t.people

-- the request, if there is a number
abbrev pub ShowsRequest : List RequestRow → Tables → Option ℕ → Type 0
ShowsRequest rows t number = (k : ℕ) → number ≡ Some k → find (is_request_row k) rows ≡ find (is_request_row k) t.requests

-- the votes on it
abbrev pub ShowsVotes : List VoteRow → Tables → Option ℕ → Type 0
ShowsVotes rows t number = (k : ℕ) → number ≡ Some k → IsPermutation (votes_on t.votes k) (votes_on rows k)

-- the proposal, if there is a number
abbrev pub ShowsProposal : List ProposalRow → Tables → Option ℕ → Type 0
ShowsProposal rows t number = (k : ℕ) → number ≡ Some k → find (is_proposal_row k) rows ≡ find (is_proposal_row k) t.proposals

-- all rows that a call names, except those of the lists
pub record ShowsNamed (n : CallRows) (t : Tables) (c : Call) : Type 0 where
  pub people : ShowsPeople n.people.items t (caller_name c.caller) c.command
  pub call : find (has_key (caller_name c.caller) c.key) n.calls.items ≡ find (has_key (caller_name c.caller) c.key) t.calls
  pub request : ShowsRequest n.requests.items t (request_named c.command)
  pub votes : ShowsVotes n.votes.items t (request_named c.command)
  pub proposal : ShowsProposal n.proposals.items t (proposal_named c.command)

-- and no others
pub record HoldsNamed (n : CallRows) (c : Call) : Type 0 where
  pub people : All (λ p. IsTrue (is_named_person (caller_name c.caller) c.command p)) n.people.items
  pub calls : All (λ m. IsTrue (has_key (caller_name c.caller) c.key m)) n.calls.items
  pub requests : All (λ r. request_named c.command ≡ Some r.number) n.requests.items
  pub votes : All (λ r. request_named c.command ≡ Some r.request) n.votes.items
  pub proposals : All (λ r. proposal_named c.command ≡ Some r.number) n.proposals.items

-- the sizes of these tables that the command needs are known; those that were known, and those that
-- it doesn't need, don't change
pub record LearnsOf (tables : List LimitedTable) (command : Command) (before after : KnownSizes) : Type 0 where
  pub calls : before.calls ≡ after.calls
  pub enough : All (λ table. IsTrue (may_put command table) → IsTrue (is_some (known after table))) tables
  pub sizes : (table : LimitedTable) (n : ℕ) → known before table ≡ Some n → known after table ≡ Some n
  pub others : (table : LimitedTable) → IsTrue (not (may_put command table)) → known after table ≡ known before table

-- the number of calls is known; all else stays
pub record LearnsCalls (before after : KnownSizes) : Type 0 where
  pub enough : IsTrue (is_some after.calls)
  pub kept : (n : ℕ) → before.calls ≡ Some n → after.calls ≡ Some n
  pub sizes : (table : LimitedTable) → known before table ≡ known after table
