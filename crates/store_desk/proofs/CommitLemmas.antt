-- The step from the effect of a call inside its transaction to the contents of the connection after
-- it, and after a stop.
use Rattle.std.proofs.Common.{◌≡◌, true, false, refl, sym, ap, subst, ◌∙◌, arith}
use Rattle.sqlite.specs.Store as store
use Rattle.sqlite.specs.Held.{Held, state}
use Rattle.sqlite.specs.State as states
use Rattle.sqlite.specs.State.{HasCleanDisk, IsRolledBack, Survives}
use Rattle.desk_types.specs.declared.command.Call.{Call}
use Rattle.desk_history.specs.Calls.{History}
use Rattle.desk_history.specs.Runs.{is_accepted}
use Rattle.store_sql.proofs.CommitLemmas.{Worked, undone_shows}
use Rattle.store_sql.proofs.StopLemmas.{holds_all, shows_all, tables_of}
use Rattle.store_schema.specs.Tables.{desk_layout}
use Rattle.store_desk.specs.Acts.{Acts, AnswersCurrently, LeavesNext, Runs}
use Rattle.store_schema.specs.rows.Histories.{ShowsHistory, rows_of}
use Rattle.store_decision_rows.specs.declared.remembered.Remembered.{Remembered}
use Rattle.store_desk.specs.Pasts.{Past, after, before}
use Rattle.store_desk.specs.declared.acting.Acted.{Acted}
use Rattle.store_desk.proofs.ActingLemmas.{next_same}

module _ {S : Type 0} (g : store.Ghosts S) (old last : Held S) (r : Remembered) (c : Call) (acted : Acted) (did : Worked g old last (Acts r c acted)) where
  -- the answer inside the transaction, for the history that the connection shows before it
  told : HasCleanDisk (state g last) → (p : Past r) → ShowsHistory (state g old) p.owner p.calls → AnswersCurrently c acted p
  told late p shows =
      let acts = did.value late in
      acts.answered p (record { inside = refl; holds = (shows.holds (omega (arith, did.spares.clean, late)) (acts.turned.kept.was_open (did.inside late).0)).0 })

  -- the call was accepted, and its rows are committed
  pub committed : (end : Held S) → HasCleanDisk (state g last) → states.Shows (state g last) (state g end) (state g last).now (state g last).now false → Runs r c acted (state g old) (state g end)
  committed end late done = record {
    is_open = λ _. done.is_open;
    answered = told late;
    shown = shows_all desk_layout (before r) (after r c) g old last end did.spares (λ clean. ((did.inside clean).0, (did.value clean).turned)) late done;
  }

  -- the call wasn't accepted, and nothing is committed
  pub answered : (end : Held S) → Survives (state g last) (state g end) (λ _. ⊥) → is_accepted acted.answer ≡ false → IsRolledBack (state g last) (state g end) → HasCleanDisk (state g end)
      → Runs r c acted (state g old) (state g end)
  answered end ended out rolled clean =
      let late : HasCleanDisk (state g last) = omega (arith, ended.clean, clean) in
      record {
        is_open = λ accepted. absurd (let a = sym accepted ∙ out in cc);
        answered = told late;
        shown = λ p shows. subst (λ (cs : History). ShowsHistory (state g end) p.owner cs)
            (sym (next_same p.calls c (ap is_accepted (told late p shows).exact ∙ out)))
            (undone_shows g old last end desk_layout (rows_of p.owner p.calls) (omega (arith, did.spares.clean, late)) (did.kept late) rolled shows);
      }

  -- the trees of an accepted call are those of the next history
  pub next_trees : is_accepted acted.answer ≡ true → HasCleanDisk (state g last) → LeavesNext (state g old) r c (state g last).now.trees
  next_trees accepted late p shows =
      let sees = holds_all desk_layout (before r) (after r c) g old last last p shows (omega (arith, did.spares.clean, late)) (did.inside late).0 (did.value late).turned in
      (ap is_accepted (told late p shows).exact ∙ accepted, tables_of desk_layout (state g last).now (after r c p) sees.holds)
