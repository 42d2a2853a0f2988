-- Words of the steps of a decision by the first rules, which private functions cite.
use Rattle.std.specs.Prelude.{ℕ, List, ◌∷◌, Result, MatchResult, IsTrue}
use Rattle.std.specs.List.{list_all}
use Rattle.base.specs.declared.refusal.Refusal.{Refusal}
use Rattle.desk_types.specs.declared.caller.Caller.{Caller}
use Rattle.desk_types.specs.declared.command.Call.{Call}
use Rattle.desk_types.specs.declared.command.Command.{Command}
use Rattle.desk_types.specs.declared.proposal.ProposalKind.{ProposalKind}
use Rattle.desk_types.specs.declared.proposal.ProposalKind.TheVariants as kinds
use Rattle.desk_types.specs.declared.reply.Counts.{Counts}
use Rattle.desk_types.specs.declared.reply.Reply.{Reply}
use Rattle.desk_types.specs.declared.reply.Reply.TheVariants as replies
use Rattle.desk_history.specs.Called.{called}
use Rattle.desk_history.specs.Calls.{First, History, is_first, under}
use Rattle.desk_history.specs.Replies.{minutes}
use Rattle.desk_history.specs.Runs.{is_legal}
use Rattle.desk_history.specs.Tables.{Tables, tables}
use Rattle.desk_rules.specs.declared.view.Changes.{Changes}
use Rattle.desk_rules.specs.declared.view.View.{View}
use Rattle.desk_rules.specs.DecisionSteps.{RefusesOwn}
use Rattle.desk_rules.specs.First.{ShowsToFirst}
use Rattle.desk_rules.specs.Ruled.{IsStep}

-- the reply to a command of this kind by the first rules, of which these are the counts
abbrev pub forced_reply : ProposalKind → Counts → Reply
forced_reply kinds.Digest counts = replies.Revoked
forced_reply kinds.Certificate counts = replies.Revoked
forced_reply kinds.Level counts = replies.Raised
forced_reply kinds.Import counts = replies.Imported counts

-- the tables of the history with the call by the first rules, except for the call's own row and for
-- the row that says how many calls were accepted by the first rules
abbrev pub next_tables : List ℕ → History → Call → Tables
next_tables owner cs c = record (tables owner (under First c ∷ cs)) { calls = minutes cs; migrated = (tables owner cs).migrated }

-- on each legal history of the first rules alone that the view shows, the result agrees with the
-- command's own conditions and with what it writes by the first rules
abbrev pub DecidesOwnFirst : View → Caller → Command → Result Changes Refusal → Type 0
DecidesOwnFirst v caller command result =
    (owner : List ℕ) (cs : History) (key : List ℕ) → IsTrue (is_legal cs) → IsTrue (list_all is_first cs) → ShowsToFirst v (tables owner cs) (called caller key command)
    → MatchResult result (λ changes. IsStep First v changes owner cs (called caller key command)) (λ refusal. RefusesOwn refusal cs (called caller key command))
