-- The opening of a desk, from what was found in its store.
use Rattle.std.proofs.Common.{◌≡◌, ◌≢◌, ◌⊎◌, inl, inr, ℕ, List, Option, None, Some, sym, ◌∙◌, arith, IsTrue, false}
use Rattle.std.proofs.Math.Logic.{∥∥₁_map}
use Rattle.sqlite.specs.Held.{Held, state}
use Rattle.sqlite.specs.State.{HasCleanDisk, Survives}
use Rattle.sqlite.specs.Store.{Ghosts}
use Rattle.base.specs.declared.refusal.Refusal.{Refusal}
use Rattle.base.specs.declared.refusal.Refusal.TheVariants as refusals
use Rattle.desk_history.specs.Calls.{History}
use Rattle.desk_history.specs.FormLaws.{LivesKeepAnswered}
use Rattle.desk_history.specs.Formed.{IsHistory}
use Rattle.desk_history.specs.Laws.{KeysStandOnce}
use Rattle.desk_history.proofs.LifeLemmas.{left_goes_on}
use Rattle.desk_history.proofs.VerdictLemmas.{barred_not_allowed, what_is_barred_stays_barred}
use Rattle.store_migration.specs.Migrations.{KeepsShown}
use Rattle.store_reads.specs.Failures.{IsFailure}
use Rattle.store_schema.specs.Tables.{desk_layout, first_layout}
use Rattle.store_schema.specs.rows.Histories.{HoldsFirst, HoldsHistory, LeavesHistory, ShowsFirst, ShowsHistory, first_rows_of, rows_of}
use Rattle.store_sql.specs.Contents.{AreTablesOf, Contents}
use Rattle.store_sql.specs.Layouts.{Layout}
use Rattle.store_sql.specs.States.{Leaves, Shows, Spares}
use Rattle.store_desk.specs.Desks.{ShowsDesk}
use Rattle.store_desk.specs.Headline.{HoldsLives}
use Rattle.store_desk.specs.Owners.{FindsAnother, IsAsked, OpensDesk, RefusesOwner, RefusesToOpen}
use Rattle.store_desk.specs.Steps.{Brings, FindsKnown, FindsNone, FindsOther, IsReadRefusal}
use Rattle.store_desk.specs.declared.desk.Desk.{Desk}
use Rattle.store_desk.proofs.OpeningLemmas.{none_shown, other_shown, own_of}
use Rattle.store_desk.proofs.ReopeningLemmas.{no_failure, no_version, not_missing}
use Rattle.store_desk.proofs.VersionLemmas.{ShowsNone, ShowsOther, first_fails, second_fails, second_spared}

module _ {S : Type 0} (g : Ghosts S) (conn : Held S) (second : (owner : List ℕ) (cs : History) → HoldsHistory (state g conn).committed.trees owner cs → ShowsHistory (state g conn) owner cs)
    (first : (owner : List ℕ) (cs : History) → HoldsFirst (state g conn).committed.trees owner cs → ShowsFirst (state g conn) owner cs) (law : LivesKeepAnswered) where
  -- ---- a desk was opened

  pub opens_desk : (desk : Desk S)
      → ((layout : Layout) (c : Contents) → Shows layout (state g conn) c → IsTrue (state g conn).is_open → Leaves (state g conn) (λ db. AreTablesOf layout db c))
      → KeysStandOnce → desk.needs_reopening ≡ false → Survives (state g conn) (state g desk.conn) (Brings (state g conn))
      → (HasCleanDisk (state g desk.conn) → FindsKnown g conn)
      → (HasCleanDisk (state g desk.conn) → (owner : List ℕ) (cs : History) → IsHistory cs → ShowsHistory (state g conn) owner cs → LeavesHistory (state g conn) owner cs → ShowsDesk g desk owner cs)
      → (HasCleanDisk (state g desk.conn) → (owner : List ℕ) (cs : History) → IsHistory cs → ShowsFirst (state g conn) owner cs → ShowsDesk g desk owner cs)
      → OpensDesk g conn desk
  opens_desk desk stop once usable survives read ok migrated = record {
    ok = ok;
    migrated = migrated;
    lives = λ clean owner lives seen formed finds.
        let before : HasCleanDisk (state g conn) = omega (arith, survives.clean, clean) in
        let live = (read clean).0 in
        ∥∥₁_map (finds before live) (λ it. let cs = it.0 in
        let kept = law lives cs it.1 formed in
        let on = left_goes_on seen.at seen.since cs it.2 in (
          cs,
          record {
            ends = it.1;
            since = it.2;
            goes_on = on;
            refuses = barred_not_allowed cs;
            bars = λ x is. what_is_barred_stays_barred seen.at cs x on is;
            shows = elim it.3 [
              | inl holds ↦ (let there = second owner cs holds in ok clean owner cs kept.0 there (stop desk_layout (rows_of owner cs) there live))
              | inr early ↦ migrated clean owner cs kept.0 (first owner cs early.1)
            ];
            once = once cs kept.0.legal;
            answered = kept.1;
          },
        ));
    read = read;
    usable = usable;
    stopped = survives;
    spares = λ owner cs shows. second_spared (state g conn) owner cs (state g desk.conn) survives shows;
  }

  -- ---- none was, whoever owns it

  module _ (last : Held S) (refusal : Refusal) (named : (refusal ≡ refusals.Version) ⊎ IsReadRefusal refusal) (survives : Survives (state g conn) (state g last) (Brings (state g conn)))
      (other : HasCleanDisk (state g last) → refusal ≡ refusals.Version → FindsOther g conn) (unread : HasCleanDisk (state g last) → refusal ≡ refusals.NotADesk → FindsNone g conn)
      (looked : HasCleanDisk (state g last) → (refusal ≡ refusals.NotADesk) ⊎ (refusal ≡ refusals.Version) → IsTrue (state g conn).is_open) where
    was_clean : HasCleanDisk (state g last) → HasCleanDisk (state g conn)
    was_clean clean = omega (arith, survives.clean, clean)

    shows_other : HasCleanDisk (state g last) → refusal ≡ refusals.Version → ShowsOther (state g conn)
    shows_other clean is = other_shown g conn (was_clean clean) (other clean is)

    shows_none : HasCleanDisk (state g last) → refusal ≡ refusals.NotADesk → ShowsNone (state g conn)
    shows_none clean is = none_shown g conn (was_clean clean) (unread clean is)

    pub refuses : (HasCleanDisk (state g last) → (owner : List ℕ) (cs : History) → ShowsHistory (state g conn) owner cs → ShowsHistory (state g last) owner cs)
        → (HasCleanDisk (state g last) → refusal ≢ refusals.Store → KeepsShown (state g conn) (state g last)) → (refusal ≢ refusals.Store → Spares g conn last) → RefusesToOpen g conn refusal last
    refuses shown kept spares = record {
      other = other;
      unread = unread;
      known = λ clean owner cs long history shows. (
        second_fails (state g conn) owner cs refusal named (shows_other clean) (shows_none clean) long history shows,
        shown clean owner cs shows,
      );
      known_first = λ clean owner cs long history early. (
        first_fails (state g conn) owner cs refusal named (shows_other clean) (shows_none clean) long history early,
        λ not_store. (early.0, kept clean not_store first_layout (first_rows_of owner cs) early.1),
      );
      found = λ clean owner lives seen long formed finds.
          let fails : HoldsLives (state g conn).committed.trees owner lives seen → IsFailure refusal = λ it.
          let history = (law lives it.0 it.1 formed).0 in
          elim it.3 [
            | inl holds ↦ second_fails (state g conn) owner it.0 refusal named (shows_other clean) (shows_none clean) long history (second owner it.0 holds)
            | inr early ↦ first_fails (state g conn) owner it.0 refusal named (shows_other clean) (shows_none clean) long history (first owner it.0 early.1)
          ] in (
            λ is. not_missing (finds (was_clean clean) (looked clean (inl is))) (λ it. no_failure refusal is (fails it)),
            λ is. not_missing (finds (was_clean clean) (looked clean (inr is))) (λ it. no_version refusal is (fails it)),
          );
      failed = survives;
      refused = spares;
      spared = λ owner cs shows. second_spared (state g conn) owner cs (state g last) survives shows;
      named = named;
    }

-- ---- the desk has another owner

not_store : (refusal : Refusal) → refusal ≡ refusals.Owner → refusal ≢ refusals.Store
not_store refusal is = λ store. let e = sym is ∙ store in cc

-- what was read is of another than is expected, and so is each history that is shown
other_owner : {S : Type 0} (g : Ghosts S) (conn : Held S) (expected : List ℕ) → HasCleanDisk (state g conn) → FindsAnother g conn (Some expected)
    → (earlier : List ℕ) (cs : History) → ShowsFirst (state g conn) earlier cs ⊎ ShowsHistory (state g conn) earlier cs → earlier ≢ expected
other_owner g conn expected clean (live, there, (own, answers, another)) earlier cs shows =
    λ same. another ((own_of g conn clean live own answers earlier cs shows).0 ∙ same)

pub refuses_owner : {S : Type 0} (g : Ghosts S) (conn last : Held S) (expected : Option (List ℕ)) (refusal : Refusal) → IsAsked expected refusal
    → (HasCleanDisk (state g last) → refusal ≡ refusals.Owner → FindsAnother g conn expected)
    → (HasCleanDisk (state g last) → refusal ≢ refusals.Store → KeepsShown (state g conn) (state g last)) → (refusal ≢ refusals.Store → Spares g conn last)
    → RefusesOwner g conn expected refusal last
refuses_owner g conn last None refusal asked another kept spares = absurd asked
refuses_owner g conn last (Some owner) refusal asked another kept spares =
    let spared = spares (not_store refusal asked) in (
      asked,
      record {
        read = λ clean. another clean asked;
        other = λ clean. other_owner g conn owner (omega (arith, spared.clean, clean)) (another clean asked);
        kept = λ clean. kept clean (not_store refusal asked);
        spares = spared;
      },
    )

-- where none is expected, no owner is refused
pub plainly_refused : {S : Type 0} (g : Ghosts S) (conn last : Held S) (refusal : Refusal) → RefusesOwner g conn None refusal last ⊎ RefusesToOpen g conn refusal last
    → RefusesToOpen g conn refusal last
plainly_refused g conn last refusal (inl never) = absurd never
plainly_refused g conn last refusal (inr refuses) = refuses
