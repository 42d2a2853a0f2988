-- What a run leaves, as the end of a series of lives.
use Rattle.std.proofs.Common.{◌≡◌, inl, inr, All, List, [], ◌++◌, refl, subst, ◌∙◌, append_assoc, true}
use Rattle.std.proofs.Math.Logic.{∥∥₁_elim, ∥∥₁_map}
use Rattle.sqlite.specs.Held.{Held, state}
use Rattle.sqlite.specs.Store.{Ghosts}
use Rattle.sqlite.specs.Tree.{Trees}
use Rattle.desk_history.specs.Calls.{GoesOnFrom, History, Item}
use Rattle.desk_history.specs.Formed.{IsItem}
use Rattle.desk_history.specs.Lives.{Ends, Life}
use Rattle.desk_history.specs.Runs.{is_legal}
use Rattle.desk_history.proofs.LifeLemmas.{left_goes_on, series_are_legal}
use Rattle.desk_history.proofs.SeriesLemmas.{ends_are_histories}
use Rattle.desk_history.proofs.VerdictLemmas.{what_is_barred_stays_barred}
use Rattle.desk_exports.specs.Exports.{minutes_text}
use Rattle.store_schema.specs.rows.Histories.{HoldsHistory}
use Rattle.store_desk.specs.Desks.{ShowsDesk}
use Rattle.store_desk.specs.Headline.{IsRecovered, IsSince, Seen}
use Rattle.store_desk.specs.declared.desk.Desk.{Desk}
use Rattle.store_minutes.specs.Starts.{BeginsWith, Start}
use Rattle.store_follow.specs.Living.{HoldsRunLives, IsFollowed, IsRecoveredAfterRun, LeadsTo, LivesOnAfterRun, RecoversRuns, RunsBegin, RunsLiveOn, RunsMayStop, WrongRunsLiveOn, lives_with, seen_with}
use Rattle.store_follow.specs.Runs.{HoldsRun}
use Rattle.store_follow.specs.Series.{events_after}
use Rattle.store_follow.proofs.EventLemmas.{leave_on, reaches, reaches_only}
use Rattle.store_follow.proofs.SeriesLemmas.{ends_now, ends_with_run, formed_with_run}

module _ (s : Start) (before : List Life) (seen : Seen) (leads : LeadsTo before seen s) (new : List Item) (legal : is_legal (new ++ s.earlier) ≡ true) where
  -- the lives with the run may leave the history with these calls
  ends_so : Ends (lives_with s before seen new) (new ++ s.earlier)
  ends_so = ends_with_run before s.earlier new leads.ends legal

  -- which follows the seen one
  since_so : IsSince (seen_with s before seen new) (new ++ s.earlier)
  since_so = leave_on seen.at seen.since (events_after s.earlier new) s.earlier (new ++ s.earlier) leads.since (reaches s.earlier new legal)

-- ---- the tables that a run leaves

-- a history that the run made of the earlier one
record Made (db : Trees) (s : Start) : Type 0 where
  new : List Item
  legal : is_legal (new ++ s.earlier) ≡ true
  formed : All IsItem s.earlier → All IsItem (new ++ s.earlier)
  followed : IsFollowed s new
  holds : HoldsHistory db s.owner (new ++ s.earlier)

made : (db : Trees) (s : Start) → is_legal s.earlier ≡ true → HoldsRun db s → Made db s
made db s legal (inl holds) = record { new = []; legal = legal; formed = λ h. h; followed = inl refl; holds = holds }
made db s legal (inr f) = record {
  new = f.goes_on.0;
  legal = subst (λ h. is_legal h ≡ true) f.goes_on.1 f.legal.legal;
  formed = λ _. subst (All IsItem) f.goes_on.1 f.legal.formed;
  followed = inr (subst (BeginsWith s.bytes) f.goes_on.1 f.begins);
  holds = subst (HoldsHistory db s.owner) f.goes_on.1 f.holds;
}

holds_lives : (db : Trees) (s : Start) (before : List Life) (seen : Seen) → LeadsTo before seen s → HoldsRun db s → HoldsRunLives s before seen db
holds_lives db s before seen leads run =
    let it = made db s (series_are_legal before s.earlier leads.ends) run in
    record { new = it.new; followed = it.followed; ends = ends_so s before seen leads it.new it.legal; since = since_so s before seen leads it.new it.legal; holds = it.holds }

pub runs_may_stop : {S : Type 0} (g : Ghosts S) (conn : Held S) → RunsMayStop g conn
runs_may_stop g conn s before seen leads leaves clean db may = holds_lives db s before seen leads (leaves clean db may)

-- ---- the desk before a run, and after it

pub runs_begin : {S : Type 0} (g : Ghosts S) (desk : Desk S) → RunsBegin g desk
runs_begin g desk s before events seen lives since = record { ends = lives.ends; since = since }

module _ {S : Type 0} (g : Ghosts S) (desk : Desk S) (s : Start) (before : List Life) (seen : Seen) (leads : LeadsTo before seen s) where
  lives_on : (new : List Item) → ShowsDesk g desk s.owner (new ++ s.earlier) → IsFollowed s new → LivesOnAfterRun s before seen g desk
  lives_on new shows followed = record {
    new = new;
    followed = followed;
    lives = record {
      told = refl;
      ends = ends_now (lives_with s before seen new) (new ++ s.earlier) (ends_so s before seen leads new shows.history.legal);
      shows = shows;
    };
    since = since_so s before seen leads new shows.history.legal;
  }

  lives_on_from : (cs : History) → GoesOnFrom s.earlier cs → ShowsDesk g desk s.owner cs → BeginsWith s.bytes cs → LivesOnAfterRun s before seen g desk
  lives_on_from cs on shows begins = lives_on on.0 (subst (ShowsDesk g desk s.owner) on.1 shows) (inr (subst (BeginsWith s.bytes) on.1 begins))

pub runs_live_on : {S : Type 0} (g : Ghosts S) (desk : Desk S) → RunsLiveOn g desk
runs_live_on g desk s before seen leads calls (inl f) = lives_on_from g desk s before seen leads f.history f.goes_on f.shows ([], f.given)
runs_live_on g desk s before seen leads calls (inr ahead) = lives_on g desk s before seen leads [] ahead.shows (inl refl)

pub wrong_runs_live_on : {S : Type 0} (g : Ghosts S) (old desk : Desk S) → WrongRunsLiveOn g old desk
wrong_runs_live_on g old desk s before seen leads number (inl other) = lives_on g desk s before seen leads [] other.shows (inl refl)
wrong_runs_live_on g old desk s before seen leads number (inr wrong) =
    lives_on_from g desk s before seen leads wrong.history wrong.goes_on wrong.shows (wrong.line ++ wrong.after, wrong.parts ∙ append_assoc (minutes_text wrong.history) wrong.line wrong.after)

-- ---- the desk that is opened after a run

-- the earlier history, and the calls of the run since then
abbrev earlier_with : Start → List Item → Seen
earlier_with s new = record { at = s.earlier; since = events_after s.earlier new }

module _ {S : Type 0} (g : Ghosts S) (desk : Desk S) (s : Start) (before : List Life) (seen : Seen) (leads : LeadsTo before seen s) where
  -- a desk that was opened with some history after these lives
  recovered : (db : Trees) (it : Made db s) (cs : History) → IsRecovered g desk s.owner (lives_with s before seen it.new) (earlier_with s it.new) cs → IsRecoveredAfterRun s before seen g desk
  recovered db it cs r =
      let later = it.new ++ s.earlier in
      let same : cs ≡ later = reaches_only s.earlier it.new cs it.legal r.since in
      let keeps : IsRecovered g desk s.owner (lives_with s before seen it.new) (earlier_with s it.new) later = subst (λ h. IsRecovered g desk s.owner (lives_with s before seen it.new) (earlier_with s it.new) h) same r in
      let since = since_so s before seen leads it.new it.legal in
      let on = left_goes_on seen.at (seen_with s before seen it.new).since later since in
      record {
        new = it.new;
        followed = it.followed;
        recovered = record {
          ends = keeps.ends;
          since = since;
          goes_on = on;
          bars = λ x is. what_is_barred_stays_barred seen.at later x on is;
          refuses = keeps.refuses;
          shows = keeps.shows;
          once = keeps.once;
          answered = keeps.answered;
        };
      }

pub recovers_runs : {S : Type 0} (g : Ghosts S) (conn : Held S) (desk : Desk S) → RecoversRuns g conn desk
recovers_runs g conn desk clean live recovers s before seen formed leads finds =
    let history = ends_are_histories before s.earlier leads.ends formed in
    ∥∥₁_elim (finds clean live) squash₁ (λ run.
    let it = made (state g conn).committed.trees s history.legal run in
    ∥∥₁_map (recovers s.owner (lives_with s before seen it.new) (earlier_with s it.new) (formed_with_run before s.earlier it.new formed (it.formed history.formed))
    (λ _ _. ∣ (it.new ++ s.earlier, ends_so s before seen leads it.new it.legal, reaches s.earlier it.new it.legal, inl it.holds) ∣₁))
    (λ r. recovered g desk s before seen leads (state g conn).committed.trees it r.0 r.1))
