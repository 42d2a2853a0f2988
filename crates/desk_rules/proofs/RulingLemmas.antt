-- The answer to a call by either rules, by a view that shows a history for it.
use Rattle.std.proofs.Common.{◌≡◌, ℕ, ◌+◌, Bool, true, false, not, List, [], ◌∷◌, length, Option, Some, None, Ok, Err, Result, refl, sym, ◌∙◌, ap, subst, inl, inr}
use Rattle.std.specs.Prelude.{if◌then◌else◌, find, is_some}
use Rattle.std.specs.Option.{option_map_or, option_or}
use Rattle.base.specs.declared.refusal.Refusal.{Refusal}
use Rattle.base.specs.declared.refusal.Refusal.TheVariants as refusals
use Rattle.desk_types.specs.declared.caller.Caller.{Caller}
use Rattle.desk_types.specs.declared.caller.Caller.TheVariants as callers
use Rattle.desk_types.specs.declared.command.Call.{Call}
use Rattle.desk_types.specs.declared.command.Command.{Command}
use Rattle.desk_types.specs.declared.command.Person.{Person}
use Rattle.desk_history.specs.declared.rows.Minute.{Minute}
use Rattle.desk_history.specs.declared.write.Write.TheVariants as writes
use Rattle.desk_types.specs.Callers.{caller_name}
use Rattle.desk_history.specs.Calls.{First, History, Item, Rules, Second, under}
use Rattle.desk_types.specs.CommandTexts.{text_of}
use Rattle.desk_history.specs.People.{has_name, people}
use Rattle.desk_history.specs.Replies.{minute_of, minutes, reply_to}
use Rattle.desk_history.specs.Tables.{tables}
use Rattle.desk_history.specs.Writes.{all_written, written}
use Rattle.desk_history.specs.declared.answer.Answer.{Answer}
use Rattle.desk_history.specs.declared.answer.Answer.TheVariants.{Accepted, Refused, Repeated}
use Rattle.desk_rules.specs.declared.view.Changes.{Changes}
use Rattle.desk_rules.specs.declared.view.View.{View}
use Rattle.desk_rules.specs.DecisionSteps.{AppendsCallRow, RefusesOwn, Repeats}
use Rattle.desk_rules.specs.Ruled.{IsStep, MatchesRuling, RefusedBy, ShowsBy, migrated_by, tables_by}
use Rattle.desk_history.specs.Limits.{is_within}
use Rattle.desk_history.specs.Refusals.{is_known, is_one_of, is_theirs, may_give, own_refusal, refusal_of, refuse_if}
use Rattle.desk_history.specs.Roles.{is_for}
use Rattle.desk_rules.specs.Room.{has_room}
use Rattle.desk_history.specs.Runs.{answer_known, answer_new_key, earlier, has_key, is_accepted, next_item, ruling}
use Rattle.desk_rules.proofs.RoomLemmas.{minutes_length}
use Rattle.desk_history.proofs.WriteLemmas.{written-append}

-- the row of the caller says whether the caller is known
known_by : (who : Caller) (a b : List Person) → find (has_name (caller_name who)) a ≡ find (has_name (caller_name who)) b → is_one_of a who ≡ is_one_of b who
known_by callers.Console a b same = refl
known_by (callers.Person name) a b same = ap is_some same

-- and which commands the caller gives
theirs_by : (who : Caller) (command : Command) (a b : List Person) → find (has_name (caller_name who)) a ≡ find (has_name (caller_name who)) b → is_theirs a who command ≡ is_theirs b who command
theirs_by callers.Console command a b same = refl
theirs_by (callers.Person name) command a b same = ap (λ o. option_map_or (λ p. is_for p.role command) o false) same

-- the first rules leave the rows of `migrated`, and so do the second where no call is accepted
kept : (rules : Rules) (owner : List ℕ) (cs : History) → migrated_by rules owner cs cs ≡ (tables owner cs).migrated
kept First owner cs = refl
kept Second owner cs = refl

module _ (rules : Rules) (v : View) (owner : List ℕ) (cs : History) (c : Call) (shown : ShowsBy rules v owner cs c) where
  -- the call with its rules
  abbrev ruled : Item
  ruled = under rules c

  known : is_one_of v.people.items c.caller ≡ is_known cs c.caller
  known = known_by c.caller v.people.items (people cs) shown.call.caller

  theirs : is_theirs v.people.items c.caller c.command ≡ may_give cs c.caller c.command
  theirs = theirs_by c.caller c.command v.people.items (people cs) shown.call.caller

  by_known : (b : Bool) → is_one_of v.people.items c.caller ≡ b →
      ruling cs ruled ≡ (if not b then Refused refusals.UnknownCaller
      else answer_known (earlier cs c) (text_of c.command) (refusal_of cs ruled) (reply_to cs ruled))
  by_known b h =
      ap (λ t. if not t then Refused refusals.UnknownCaller
      else answer_known (earlier cs c) (text_of c.command) (refusal_of cs ruled) (reply_to cs ruled)) (sym known ∙ h)

  -- a caller who isn't known
  pub unknown : is_one_of v.people.items c.caller ≡ false → RefusedBy rules refusals.UnknownCaller cs c
  unknown h = inl (by_known false h)

  -- the history after the call, by the answer
  next_by : (a : Answer) → ruling cs ruled ≡ a → tables_by rules owner cs (next_item cs ruled) ≡ tables_by rules owner cs (if is_accepted a then ruled ∷ cs else cs)
  next_by a is = ap (λ b. tables_by rules owner cs (if is_accepted b then ruled ∷ cs else cs)) is

  module _ (is_one : is_one_of v.people.items c.caller ≡ true) where
    by_key : (o : Option Minute) → find (has_key (caller_name c.caller) c.key) v.calls.items ≡ o →
        ruling cs ruled ≡ answer_known o (text_of c.command) (refusal_of cs ruled) (reply_to cs ruled)
    by_key o found =
        by_known true is_one
        ∙ ap (λ m. answer_known m (text_of c.command) (refusal_of cs ruled) (reply_to cs ruled)) (sym shown.call.call ∙ found)

    -- a key that was given before
    pub repeats : (m : Minute) → find (has_key (caller_name c.caller) c.key) v.calls.items ≡ Some m → (result : Result Changes Refusal) → Repeats result m (text_of c.command) →
        MatchesRuling rules owner cs c result
    repeats m found (Ok changes) told = record {
      told = inr (by_key (Some m) found ∙ told.0, told.1);
      made =
          ap (λ ws. all_written ws (tables owner cs)) told.1
          ∙ (ap (λ m. record (tables owner cs) { migrated = m }) (sym (kept rules owner cs))
          ∙ sym (next_by (Repeated changes.reply) (by_key (Some m) found ∙ told.0)));
    }
    repeats m found (Err r) (inl refused) = inl (by_key (Some m) found ∙ refused)
    repeats m found (Err r) (inr e) = inr e

    module _ (fresh : find (has_key (caller_name c.caller) c.key) v.calls.items ≡ None) where
      by_role : (b : Bool) → is_theirs v.people.items c.caller c.command ≡ b →
          ruling cs ruled ≡ answer_new_key (if not b then Some refusals.NotYourRole
          else option_or (own_refusal cs (caller_name c.caller) c.command) (refuse_if (not (is_within (ruled ∷ cs))) refusals.Full)) (reply_to cs ruled)
      by_role b h =
          by_key None fresh
          ∙ ap (λ t. answer_new_key (if not t then Some refusals.NotYourRole
          else option_or (own_refusal cs (caller_name c.caller) c.command) (refuse_if (not (is_within (ruled ∷ cs))) refusals.Full)) (reply_to cs ruled)) (sym theirs ∙ h)

      -- a command that isn't the caller's
      pub not_theirs : is_theirs v.people.items c.caller c.command ≡ false → RefusedBy rules refusals.NotYourRole cs c
      not_theirs h = inl (by_role false h)

      module _ (is_theirs : is_theirs v.people.items c.caller c.command ≡ true) where
        by_own : (o : Option Refusal) → own_refusal cs (caller_name c.caller) c.command ≡ o →
            ruling cs ruled ≡ answer_new_key (option_or o (refuse_if (not (is_within (ruled ∷ cs))) refusals.Full)) (reply_to cs ruled)
        by_own o own =
            by_role true is_theirs
            ∙ ap (λ p. answer_new_key (option_or p (refuse_if (not (is_within (ruled ∷ cs))) refusals.Full)) (reply_to cs ruled)) own

        -- a command that its own conditions refuse
        refused : (r : Refusal) → RefusesOwn r cs c → RefusedBy rules r cs c
        refused r (inl own) = inl (by_own (Some r) own)
        refused r (inr e) = inr e

        pub refuses_own : (r : Refusal) → RefusesOwn r cs c → (result : Result Changes Refusal) → result ≡ Err r →
            MatchesRuling rules owner cs c result
        refuses_own r own result is =
            subst (λ out. MatchesRuling rules owner cs c out) (sym is) (refused r own)

        -- a command that they accept
        module _ (own : Changes) (step : IsStep rules v own owner cs c) where
          by_room : (b : Bool) → has_room v.sizes own.writes.items ≡ b →
              ruling cs ruled ≡ answer_new_key (refuse_if (not b) refusals.Full) (reply_to cs ruled)
          by_room b h =
              by_own None step.accepted
              ∙ ap (λ t. answer_new_key (refuse_if (not t) refusals.Full) (reply_to cs ruled)) (sym step.room ∙ h)

          -- the call's row
          abbrev row : List ℕ → Minute
          row text = record { number = v.sizes.calls + 1; caller = c.caller; key = c.key; text = text; reply = own.reply }

          -- it is the call's minute
          row_is : (text : List ℕ) → text ≡ text_of c.command → row text ≡ minute_of cs ruled
          row_is text is =
              ap row is
              ∙ (ap (λ n. record { number = n + 1; caller = c.caller; key = c.key; text = text_of c.command; reply = own.reply }) (shown.call.count ∙ minutes_length cs)
              ∙ ap (λ said. record { number = length cs + 1; caller = c.caller; key = c.key; text = text_of c.command; reply = said }) step.replied)

          -- a command with room for what it writes
          pub joins : (text : List ℕ) → text ≡ text_of c.command → (result : Result Changes Refusal) →
              AppendsCallRow result v own (record { number = v.sizes.calls + 1; caller = c.caller; key = c.key; text = text; reply = own.reply }) →
              MatchesRuling rules owner cs c result
          joins text is (Ok changes) told =
              let said : ruling cs ruled ≡ Accepted (reply_to cs ruled) = by_room true told.0 in
              record {
                told = inl (said ∙ ap Accepted (sym (told.1 ∙ step.replied)));
                made =
                    ap (λ ws. all_written ws (tables owner cs)) told.2
                    ∙ (written-append own.writes.items (writes.Call (row text) ∷ []) (tables owner cs)
                    ∙ (ap (λ t. written (writes.Call (row text)) t) step.made
                    ∙ (ap (λ m. record (tables_by rules owner cs (ruled ∷ cs)) { calls = m ∷ minutes cs }) (row_is text is)
                    ∙ sym (next_by (Accepted (reply_to cs ruled)) said))));
              }
          joins text is (Err r) (inl full) = inl (by_room false full.0 ∙ ap Refused (sym full.1))
          joins text is (Err r) (inr e) = inr e
