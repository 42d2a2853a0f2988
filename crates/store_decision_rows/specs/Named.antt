-- The rows that a call names.
use Rattle.std.specs.Prelude.{◌≡◌, ℕ, Bool, ◌||◌, List, Some, All, IsTrue, find}
use Rattle.std.specs.List.{list_any}
use Rattle.desk_types.specs.Callers.{caller_name}
use Rattle.desk_types.specs.Naming.{proposal_named, request_named}
use Rattle.desk_types.specs.declared.command.Call.{Call}
use Rattle.desk_types.specs.declared.command.Command.{Command}
use Rattle.desk_types.specs.declared.command.Person.{Person}
use Rattle.desk_history.specs.People.{has_name, has_token}
use Rattle.desk_history.specs.Runs.{has_key}
use Rattle.desk_rules.specs.Keys.{keys_with, people_named, tokens_named}
use Rattle.desk_rules.specs.Shown.{is_proposal_row}
use Rattle.desk_rules.specs.declared.view.View.{View}
use Rattle.store_decision_rows.specs.lists.Lists.{HoldsNoOther}

-- the person has this name, or a name or a token that the command has
abbrev pub is_named_person : List ℕ → Command → Person → Bool
is_named_person caller command p =
    has_name caller p || list_any (λ name. has_name name p) (people_named command)
    || list_any (λ token. has_token token p) (tokens_named command)

-- The view has no row beyond those that the call names: each person is the caller or has a name or
-- a token that the command has, each call has the caller and the key, each request is the one that
-- the command names, each vote is on it, each proposal is the one that the command names, and each
-- row of the lists has a key that the command names, or for a Confirm one that its proposal in the
-- view names.
pub record HoldsNoRowBeyond (v : View) (c : Call) : Type 0 where
  pub people : All (λ p. IsTrue (is_named_person (caller_name c.caller) c.command p)) v.people.items
  pub calls : All (λ m. IsTrue (has_key (caller_name c.caller) c.key m)) v.calls.items
  pub requests : All (λ r. request_named c.command ≡ Some r.number) v.requests.items
  pub votes : All (λ r. request_named c.command ≡ Some r.request) v.votes.items
  pub proposals : All (λ r. proposal_named c.command ≡ Some r.number) v.proposals.items
  pub lists : HoldsNoOther v.lists (keys_with c.command (λ k. find (is_proposal_row k) v.proposals.items))
