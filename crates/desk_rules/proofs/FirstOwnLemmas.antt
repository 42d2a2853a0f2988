-- Commands that name no entries: by both rules they are decided alike.
use Rattle.std.proofs.Common.{◌≡◌, ℕ, true, List, [], ◌∷◌, Some, None, Ok, Err, Result, refl, sym, ◌∙◌, ap}
use Rattle.std.specs.Prelude.{MatchResult, find}
use Rattle.std.specs.List.{list_all}
use Rattle.base.specs.declared.refusal.Refusal.{Refusal}
use Rattle.desk_types.specs.Callers.{caller_name}
use Rattle.desk_types.specs.declared.caller.Caller.{Caller}
use Rattle.desk_types.specs.declared.command.Call.{Call}
use Rattle.desk_types.specs.declared.command.Command.{Command}
use Rattle.desk_types.specs.declared.command.Command.TheVariants as command
use Rattle.desk_history.specs.Called.{called}
use Rattle.desk_history.specs.Calls.{First, History, is_first, item, under}
use Rattle.desk_history.specs.Limits.{is_within}
use Rattle.desk_history.specs.Proposals.{Named, is_proposal, named_by, proposal_state, proposals}
use Rattle.desk_history.specs.Refusals.{confirm_refusal, own_refusal}
use Rattle.desk_history.specs.Replies.{minutes, reply, reply_to}
use Rattle.desk_history.specs.Runs.{is_legal}
use Rattle.desk_history.specs.Tables.{tables}
use Rattle.desk_history.proofs.ClosingLemmas.{none_proposed}
use Rattle.desk_rules.specs.declared.view.Changes.{Changes}
use Rattle.desk_rules.specs.declared.view.View.{View}
use Rattle.desk_rules.specs.DecisionSteps.{MatchesOwn, RefusesOwn}
use Rattle.desk_rules.specs.First.{ShowsToFirst}
use Rattle.desk_rules.specs.FirstSteps.{next_tables}
use Rattle.desk_rules.specs.Ruled.{IsStep}
use Rattle.desk_rules.proofs.RoomByRules.{room_is}

-- the command does by the first rules what it does by the second
record IsAlike (owner : List ℕ) (cs : History) (c : Call) : Type 0 where
  replied : reply cs c ≡ reply_to cs (under First c)
  made : record (tables owner (item c ∷ cs)) { calls = minutes cs } ≡ next_tables owner cs c
  within : is_within (item c ∷ cs) ≡ is_within (under First c ∷ cs)

some_named : {A : Type 0} (n : Named) → Some n ≡ None → A
some_named n h = cc

refused_none : {A : Type 0} (r : Refusal) → Some r ≡ None → A
refused_none r h = cc

alike : (owner : List ℕ) (cs : History) (caller : Caller) (key : List ℕ) (c : Command) → named_by c ≡ None → own_refusal cs (caller_name caller) c ≡ None → proposals cs ≡ []
    → IsAlike owner cs (called caller key c)
alike owner cs caller key (command.RevokeDigest d) h accepted none = cc
alike owner cs caller key (command.RevokeCertificate d) h accepted none = cc
alike owner cs caller key (command.RaiseLevel r) h accepted none = cc
alike owner cs caller key (command.ImportRevocations i) h accepted none = cc
alike owner cs caller key (command.Confirm k) h accepted none =
    let refused : confirm_refusal cs (find (is_proposal k) []) (proposal_state cs k) (caller_name caller) ≡ None = ap (λ ps. confirm_refusal cs (find (is_proposal k) ps) (proposal_state cs k) (caller_name caller)) (sym none) ∙ accepted in
    cc
alike owner cs caller key _ h accepted none = record { replied = refl; made = refl; within = refl }

pub decides_alike : (v : View) (caller : Caller) (c : Command) (owner : List ℕ) (cs : History) (key : List ℕ) → named_by c ≡ None → is_legal cs ≡ true → list_all is_first cs ≡ true
    → ShowsToFirst v (tables owner cs) (called caller key c) → (result : Result Changes Refusal) → MatchesOwn owner cs (called caller key c) result
    → MatchResult result (λ changes. IsStep First v changes owner cs (called caller key c)) (λ refusal. RefusesOwn refusal cs (called caller key c))
decides_alike v caller c owner cs key none legal first shown (Ok changes) step =
    let same = alike owner cs caller key c none step.accepted (none_proposed cs first) in
    record {
      accepted = step.accepted;
      replied = step.replied ∙ same.replied;
      made = step.made ∙ same.made;
      room = room_is v.sizes owner cs (called caller key c) changes.writes.items shown.call.count shown.call.sizes legal step.made step.listed ∙ same.within;
    }
decides_alike v caller c owner cs key none legal first shown (Err r) why = why
