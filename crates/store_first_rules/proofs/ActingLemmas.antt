-- From a call that the first rules accept to the history that the store shows after it.
use Rattle.std.proofs.Common.{◌≡◌, ◌≢◌, ℕ, List, [], ◌∷◌, length, true, false, None, Some, refl, sym, ap, subst, ◌∙◌, arith}
use Rattle.std.proofs.lemmas.List.Elements.{All-cons}
use Rattle.sqlite.specs.Store as store
use Rattle.sqlite.specs.Held.{Held, state}
use Rattle.sqlite.specs.State as states
use Rattle.sqlite.specs.State.{HasCleanDisk, State}
use Rattle.desk_types.specs.Formed.{IsCall}
use Rattle.desk_types.specs.declared.command.Call.{Call}
use Rattle.desk_types.specs.declared.reply.Reply.{Reply}
use Rattle.desk_history.specs.Calls.{First, History, under}
use Rattle.desk_history.specs.Formed.{IsHistory, IsItem}
use Rattle.desk_history.specs.Replies.{minutes}
use Rattle.desk_history.specs.Runs.{is_accepted, is_legal, ruling}
use Rattle.desk_history.specs.Tables.{MigratedRow, Tables, tables}
use Rattle.desk_history.specs.Writes.{all_written}
use Rattle.desk_history.specs.declared.answer.Answer.{Answer}
use Rattle.desk_history.specs.declared.answer.Answer.TheVariants.{Accepted}
use Rattle.desk_history.proofs.RunLemmas.{next_legal}
use Rattle.desk_rules.specs.First.{ShowsToFirst}
use Rattle.desk_rules.specs.declared.view.Changes.{Changes as Decided}
use Rattle.desk_rules.specs.declared.view.View.{View}
use Rattle.store_migration.proofs.HistoryLemmas.{migrated_tables}
use Rattle.store_schema.specs.Tables.{desk_layout}
use Rattle.store_schema.specs.rows.Contents.{contents}
use Rattle.store_schema.specs.rows.Histories.{AreFirst, ShowsHistory}
use Rattle.store_sql.specs.States.{Changes, Sees}
use Rattle.store_sql.proofs.CommitLemmas.{Worked}
use Rattle.store_sql.proofs.StopLemmas.{holds_all, shows_all, tables_of}
use Rattle.store_first_rules.specs.Acts.{Accepts, AcceptsWith, ActsFirst, FirstPast, FollowsInside, FollowsOutside, IsOther, LeavesFollowed, after, before}
use Rattle.store_decision_rows.specs.declared.remembered.Remembered.{Remembered}
use Rattle.store_decision_rows.specs.remembered.Current.{IsCurrent, StaysCurrent}
use Rattle.store_decision_rows.specs.sizes.Sizes.{AreAllKnown, AreRight, KnowsNoLess}
use Rattle.store_decision_rows.proofs.SizeLemmas.{all_known}
use Rattle.store_first_rules.specs.Steps.{with_first_calls}
use Rattle.store_first_rules.proofs.DecidingLemmas.{joined}

-- a history with an accepted call is a desk's
pub joined_history : (cs : History) (c : Call) (reply : Reply) → IsHistory cs → AreFirst cs → IsCall c → ruling cs (under First c) ≡ Accepted reply → IsHistory (under First c ∷ cs)
joined_history cs c reply history first formed accepted = record {
  legal = subst (λ h. is_legal h ≡ true) (joined cs (under First c) reply accepted) (next_legal cs (under First c) first history.legal);
  formed = All-cons IsItem (under First c) cs formed history.formed;
}

-- the tables of a history of the first rules, by the number of its calls
counted_tables : (owner : List ℕ) (cs : History) (n : ℕ) → AreFirst cs → n ≡ length (minutes cs) → record (tables owner cs) { migrated = record { id = 1; calls = n } ∷ [] } ≡ tables owner cs
counted_tables owner cs n first is =
    ap (λ (rows : List MigratedRow). record (tables owner cs) { migrated = rows }) (ap (λ (t : Tables). t.migrated) (migrated_tables owner cs n first is))

-- ---- inside the transaction

module _ (r : Remembered) (c : Call) (v : View) (first read last : State) (decided : Decided) (later : Remembered) (calls : ℕ) (seen : Changes desk_layout contents first read (λ t. t))
    (shown : (p : FirstPast r) → Sees desk_layout first (before r p) → ShowsToFirst v (tables p.owner p.calls) c) (accepts : Accepts v c decided)
    (stays : StaysCurrent r c.command decided.writes.items later) (tells : (t : Tables) → AreRight later.sizes t → AreAllKnown later.sizes → calls ≡ length t.calls)
    (wrote : Changes desk_layout contents read last (λ t. with_first_calls calls (all_written decided.writes.items t))) where
  told : (p : FirstPast r) → Sees desk_layout first (before r p) → AcceptsWith decided p.owner p.calls c
  told p sees = accepts p.owner p.calls p.history.legal p.first (shown p sees)

  right : (p : FirstPast r) → Sees desk_layout first (before r p) → IsCurrent later (tables p.owner (under First c ∷ p.calls)) × KnowsNoLess r.sizes later.sizes
  right p sees =
      let it = told p sees in
      let legal : is_legal (under First c ∷ p.calls) ≡ true = subst (λ h. is_legal h ≡ true) (joined p.calls (under First c) decided.reply it.accepted) (next_legal p.calls (under First c) p.first p.history.legal) in
      stays p.owner p.calls (under First c) legal refl it.made p.right

  known : (p : FirstPast r) → Sees desk_layout first (before r p) → AreAllKnown later.sizes
  known p sees = all_known r.sizes later.sizes p.known (right p sees).1

  made : (p : FirstPast r) → Sees desk_layout first (before r p) → with_first_calls calls (all_written decided.writes.items (tables p.owner p.calls)) ≡ tables p.owner (under First c ∷ p.calls)
  made p sees =
      let later_tables = tables p.owner (under First c ∷ p.calls) in
      ap (with_first_calls calls) (told p sees).made
      ∙ counted_tables p.owner (under First c ∷ p.calls) calls p.first (tells later_tables (right p sees).0.sizes (known p sees))

  pub follows_inside : FollowsInside r c decided.reply later first last
  follows_inside = record {
    turned = record {
      is_open = λ o. wrote.is_open (seen.is_open o);
      inside = wrote.inside;
      kept = record {
        was_open = λ o. seen.kept.was_open (wrote.kept.was_open o);
        committed = λ o. wrote.kept.committed o ∙ seen.kept.committed (wrote.kept.was_open o);
      };
      value = λ p sees. subst (λ (t : Tables). Sees desk_layout last (contents t)) (made p sees) (wrote.value (tables p.owner p.calls) (seen.value (tables p.owner p.calls) sees));
    };
    answered = λ p sees. record { accepted = (told p sees).accepted; right = (right p sees).0; known = known p sees };
  }

-- the call is accepted with another reply than the one that is told, or isn't
pub other_reply : (a : Answer) (given reply : Reply) → a ≡ Accepted given → given ≢ reply → a ≢ Accepted reply
other_reply a given reply accepted differs is = differs (let same : ◌≡◌ {A = Answer} (Accepted given) (Accepted reply) = sym accepted ∙ is in cc)

pub no_reply : (a : Answer) (reply : Reply) → is_accepted a ≡ false → a ≢ Accepted reply
no_reply a reply out is = absurd (let accepted : is_accepted a ≡ true = ap is_accepted is in cc)

-- ---- the whole transaction

module _ {S : Type 0} (g : store.Ghosts S) (old last end : Held S) (r : Remembered) (c : Call) (reply : Reply) where
  -- the transaction that began shows what the connection shows
  sees_begun : (does : State → State → Type 0) → Worked g old last does → HasCleanDisk (state g last) → (p : FirstPast r) → ShowsHistory (state g old) p.owner p.calls
      → Sees desk_layout (state g (record old { in_transaction = true })) (before r p)
  sees_begun does did late p shows = record {
    inside = refl;
    holds = (shows.holds (omega (arith, did.spares.clean, late)) ((did.kept late).was_open (did.inside late).0)).0;
  }

  -- the call was followed, and its rows are committed
  pub committed : (later : Remembered) → Worked g old last (ActsFirst r c reply (Some later)) → HasCleanDisk (state g last)
      → states.Shows (state g last) (state g end) (state g last).now (state g last).now false → FollowsOutside r c reply later (state g old) (state g end)
  committed later did late done = record {
    is_open = done.is_open;
    answered = λ p shows. (did.value late).answered p (sees_begun (ActsFirst r c reply (Some later)) did late p shows);
    shown = shows_all desk_layout (before r) (after r c) g old last end did.spares (λ clean. ((did.inside clean).0, (did.value clean).turned)) late done;
  }

  -- its trees are those of the next history
  pub followed_trees : (later : Remembered) → Worked g old last (ActsFirst r c reply (Some later)) → HasCleanDisk (state g last)
      → LeavesFollowed (state g old) r c reply (state g last).now.trees
  followed_trees later did late p shows =
      let acts = did.value late in
      let sees = holds_all desk_layout (before r) (after r c) g old last last p shows (omega (arith, did.spares.clean, late)) (did.inside late).0 acts.turned in (
        (acts.answered p (sees_begun (ActsFirst r c reply (Some later)) did late p shows)).accepted,
        tables_of desk_layout (state g last).now (after r c p) sees.holds,
      )

  -- it wasn't
  pub passed : Worked g old last (ActsFirst r c reply None) → HasCleanDisk (state g last) → (p : FirstPast r) → ShowsHistory (state g old) p.owner p.calls → IsOther c reply p
  passed did late p shows = did.value late p (sees_begun (ActsFirst r c reply None) did late p shows)
