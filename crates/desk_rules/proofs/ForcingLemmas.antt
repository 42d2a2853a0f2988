-- Entries that a command by the first rules puts into force at once.
use Rattle.std.proofs.Common.{◌≡◌, ℕ, true, IfSome, List, Some, None, Err, Result, refl, sym, ◌∙◌, ap, subst, inl, inr}
use Rattle.std.specs.Prelude.{MatchResult, is_some}
use Rattle.base.specs.declared.refusal.Refusal.{Refusal}
use Rattle.desk_types.specs.Callers.{caller_name}
use Rattle.desk_types.specs.declared.caller.Caller.{Caller}
use Rattle.desk_types.specs.declared.command.Command.{Command}
use Rattle.desk_types.specs.declared.command.Command.TheVariants as command
use Rattle.desk_types.specs.declared.reply.Counts.{Counts}
use Rattle.desk_types.specs.declared.reply.Reply.TheVariants as replies
use Rattle.desk_history.specs.Called.{called}
use Rattle.desk_history.specs.Calls.{First, History, under}
use Rattle.desk_history.specs.Forces.{enforced_by, forced}
use Rattle.desk_history.specs.Proposals.{Named, named_by}
use Rattle.desk_history.specs.Refusals.{force_refusal, own_refusal}
use Rattle.desk_history.specs.Replies.{counted, reply_to}
use Rattle.desk_history.specs.Runs.{is_legal}
use Rattle.desk_history.specs.Tables.{tables}
use Rattle.desk_history.specs.Writes.{all_written}
use Rattle.desk_history.proofs.ProposalRowLemmas.{refused_by-is}
use Rattle.desk_rules.specs.declared.decisions.imports.Enforced.{Enforced}
use Rattle.desk_rules.specs.declared.decisions.imports.SoFar.{SoFar}
use Rattle.desk_rules.specs.declared.view.Changes.{Changes}
use Rattle.desk_rules.specs.declared.view.View.{View}
use Rattle.desk_rules.specs.DecisionSteps.{RefusesOwn, force_refusal_in}
use Rattle.desk_rules.specs.First.{ShowsToFirst}
use Rattle.desk_rules.specs.FirstSteps.{forced_reply, next_tables}
use Rattle.desk_rules.specs.Ruled.{IsStep}
use Rattle.desk_rules.specs.ImportSteps.{FailsNamed, HasTakenAll, PutsEntries, PutsNamed}
use Rattle.desk_rules.specs.Keys.{import_keys}
use Rattle.desk_rules.specs.Shown.{keys_asked}
use Rattle.desk_rules.specs.Views.{ShowsLists}
use Rattle.desk_rules.proofs.EnforcingLemmas.{enters, enters_as, force_seen, keeps, with_force}
use Rattle.desk_rules.proofs.RoomByRules.{room_first}

-- a command that names these entries puts them into force by the first rules
record IsForcing (owner : List ℕ) (cs : History) (caller : Caller) (key : List ℕ) (c : Command) (n : Named) : Type 0 where
  keys : keys_asked (tables owner cs) (called caller key c) ≡ import_keys n.entries
  own : own_refusal cs (caller_name caller) c ≡ force_refusal cs c
  enforced : enforced_by cs (under First (called caller key c)) ≡ Some n.entries
  says : (counts : Counts) → counts ≡ counted cs (under First (called caller key c)) → forced_reply n.kind counts ≡ reply_to cs (under First (called caller key c))
  rows : with_force owner cs (forced n.entries) (tables owner cs).proposals ≡ next_tables owner cs (called caller key c)
  names : is_some (named_by c) ≡ true

is_forcing : (owner : List ℕ) (cs : History) (caller : Caller) (key : List ℕ) (c : Command) → IfSome (named_by c) (IsForcing owner cs caller key c)
is_forcing owner cs caller key (command.RevokeDigest d) = record { keys = refl; own = refl; enforced = refl; says = λ counts is. refl; rows = refl; names = refl }
is_forcing owner cs caller key (command.RevokeCertificate d) = record { keys = refl; own = refl; enforced = refl; says = λ counts is. refl; rows = refl; names = refl }
is_forcing owner cs caller key (command.RaiseLevel r) = record { keys = refl; own = refl; enforced = refl; says = λ counts is. refl; rows = refl; names = refl }
is_forcing owner cs caller key (command.ImportRevocations i) = record { keys = refl; own = refl; enforced = refl; says = λ counts is. ap (λ n. replies.Imported n) is; rows = refl; names = refl }
is_forcing owner cs caller key _ = tt

-- of a command that names these entries, whose components make this
module _ (v : View) (caller : Caller) (c : Command) (n : Named) (names : named_by c ≡ Some n) (owner : List ℕ) (cs : History) (key : List ℕ) (legal : is_legal cs ≡ true)
    (shown : ShowsToFirst v (tables owner cs) (called caller key c)) (s : SoFar) (taken : HasTakenAll v n.entries s) where
  of : IsForcing owner cs caller key c n
  of = subst (λ o. IfSome o (IsForcing owner cs caller key c)) names (is_forcing owner cs caller key c)

  lists : ShowsLists v.lists (tables owner cs) (import_keys n.entries)
  lists = subst (λ k. ShowsLists v.lists (tables owner cs) k) of.keys shown.call.lists

  refusal_is : force_refusal_in v n.kind n.entries s.names ≡ own_refusal cs (caller_name caller) c
  refusal_is = force_seen v n.entries owner cs lists shown.call.stamp s taken n.kind ∙ (sym (refused_by-is cs c n names) ∙ sym of.own)

  refuses_now : (r : Refusal) → force_refusal_in v n.kind n.entries s.names ≡ Some r → RefusesOwn r cs (called caller key c)
  refuses_now r h = inl (sym refusal_is ∙ h)

  forces_now : force_refusal_in v n.kind n.entries s.names ≡ None → (e : Enforced) → PutsEntries v n.entries s e → (changes : Changes)
      → changes ≡ record { reply = forced_reply n.kind e.counts; writes = e.writes } → IsStep First v changes owner cs (called caller key c)
  forces_now fine e entered changes is =
      let made : all_written e.writes.items (tables owner cs) ≡ next_tables owner cs (called caller key c) = enters v n.entries owner cs lists shown.call.stamp s taken e entered ∙ of.rows in
      subst (λ (done : Changes). IsStep First v done owner cs (called caller key c)) (sym is) (record {
        accepted = sym refusal_is ∙ fine;
        replied = of.says e.counts (enters_as v n.entries owner cs lists shown.call.stamp s taken e entered (under First (called caller key c)) of.enforced);
        made = made;
        room =
            room_first v.sizes owner cs (called caller key c) e.writes.items shown.call.count of.names (λ table into. shown.sizes table of.names into) legal made
            (keeps v n.entries owner cs lists shown.call.stamp s taken e entered);
      })

-- of a command that names these entries
module _ (v : View) (caller : Caller) (c : Command) (n : Named) (names : named_by c ≡ Some n) (owner : List ℕ) (cs : History) (key : List ℕ) (legal : is_legal cs ≡ true)
    (shown : ShowsToFirst v (tables owner cs) (called caller key c)) where
  fails_now : (r : Refusal) → FailsNamed v n.kind n.entries r → RefusesOwn r cs (called caller key c)
  fails_now r (inl h) = refuses_now v caller c n names owner cs key legal shown h.so_far h.taken r h.refused
  fails_now r (inr e) = inr e

  pub not_now : (r : Refusal) → FailsNamed v n.kind n.entries r → (result : Result Changes Refusal) → result ≡ Err r
      → MatchResult result (λ changes. IsStep First v changes owner cs (called caller key c)) (λ refusal. RefusesOwn refusal cs (called caller key c))
  not_now r why result is =
      subst (λ (out : Result Changes Refusal). MatchResult out (λ changes. IsStep First v changes owner cs (called caller key c)) (λ refusal. RefusesOwn refusal cs (called caller key c))) (sym is) (fails_now r why)

  pub puts_now : (e : Enforced) → PutsNamed v n.kind n.entries e → (changes : Changes)
      → changes ≡ record { reply = forced_reply n.kind e.counts; writes = e.writes } → IsStep First v changes owner cs (called caller key c)
  puts_now e h changes is = forces_now v caller c n names owner cs key legal shown h.so_far h.taken h.free e h.enters changes is
