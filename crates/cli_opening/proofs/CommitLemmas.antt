-- The step from the last commit of a connection to a desk that is opened over it.
use Rattle.std.proofs.Common.{◌≡◌, ◌∙◌, ◌⊎◌, inl, inr, refl, ℕ, List, length, sym, subst, IsTrue, true, false, arith}
use Rattle.sqlite.specs.Held.{Held, state}
use Rattle.sqlite.specs.Schema.{Schema}
use Rattle.sqlite.specs.State.{HasCleanDisk, Survives}
use Rattle.sqlite.specs.Store.{Ghosts}
use Rattle.base.specs.declared.refusal.Refusal.{Refusal}
use Rattle.base.specs.declared.refusal.Refusal.TheVariants as refusals
use Rattle.desk_history.specs.Calls.{History}
use Rattle.desk_history.specs.Formed.{IsHistory}
use Rattle.store_reads.specs.Failures.{IsFailure}
use Rattle.store_schema.specs.Names.{takes_a_desk_name}
use Rattle.store_schema.specs.Tables.{desk_layout, first_layout, no_schema}
use Rattle.store_schema.specs.rows.Histories.{HoldsFirst, HoldsHistory, LeavesHistory, ShowsFirst, ShowsHistory, first_rows_of, rows_of}
use Rattle.store_sql.proofs.CommitLemmas.{leaves_more}
use Rattle.store_sql.specs.Contents.{AreTablesOf, Contents}
use Rattle.store_sql.specs.Layouts.{Layout}
use Rattle.store_sql.specs.States.{Leaves, Shows, Spares}
use Rattle.store_desk.proofs.ReopeningLemmas.{no_failure}
use Rattle.store_desk.specs.Desks.{ShowsDesk}
use Rattle.store_desk.specs.Owners.{IsOfAnother, RefusesToOpen}
use Rattle.store_desk.specs.Steps.{Brings}
use Rattle.store_desk.specs.declared.desk.Desk.{Desk}
use Rattle.cli_opening.specs.Faults.{IsFindingRefusal, IsMakingRefusal}
use Rattle.cli_opening.specs.Opening.{FindsOrMakes, HoldsTables, Makes, Opens}
use Rattle.cli_opening.specs.Refusing.{IsAnothers, RefusesDesk, RefusesFinding, RefusesMaking, RefusesOwned}

module _ {S : Type 0} (g : Ghosts S) (conn : Held S) where
  -- so a desk that is opened over it shows the history of these tables
  pub found_of_commit : (desk : Desk S)
      → ((owner : List ℕ) (cs : History) → HoldsHistory (state g conn).committed.trees owner cs → ShowsHistory (state g conn) owner cs)
      → ((owner : List ℕ) (cs : History) → HoldsFirst (state g conn).committed.trees owner cs → ShowsFirst (state g conn) owner cs)
      → ((layout : Layout) (c : Contents) → Shows layout (state g conn) c → IsTrue (state g conn).is_open → Leaves (state g conn) (λ db. AreTablesOf layout db c))
      → ((owner : List ℕ) (cs : History) → IsHistory cs → ShowsHistory (state g conn) owner cs → LeavesHistory (state g conn) owner cs → ShowsDesk g desk owner cs)
      → ((owner : List ℕ) (cs : History) → IsHistory cs → ShowsFirst (state g conn) owner cs → ShowsDesk g desk owner cs)
      → IsTrue (state g conn).is_open → (owner : List ℕ) (cs : History) → IsHistory cs
      → HoldsTables (state g conn).committed.trees owner cs → ShowsDesk g desk owner cs
  found_of_commit desk second first stop shows migrated live owner cs history (inl holds) =
      let shown = second owner cs holds in shows owner cs history shown (stop desk_layout (rows_of owner cs) shown live)
  found_of_commit desk second first stop shows migrated live owner cs history (inr holds) = migrated owner cs history (first owner cs holds)

  -- a desk that was opened is found
  pub found_opened : (owner : List ℕ) (desk : Desk S) → desk.owner ≡ owner → Opens g conn desk → FindsOrMakes g conn owner desk
  found_opened owner desk own opens = record {
    own = own;
    either = inl opens;
    found = λ clean live earlier cs long. opens.found clean live earlier cs;
    lives = λ clean earlier lives seen long. opens.lives clean earlier lives seen;
    clean = opens.clean;
  }

  -- ---- an opening that is refused

  -- what a stop leaves of the tables of version 2, and of version 1
  second_left : (last : Held S) (owner : List ℕ) (cs : History) → ShowsHistory (state g conn) owner cs → IsTrue (state g conn).is_open
      → ((layout : Layout) (c : Contents) → Shows layout (state g conn) c → IsTrue (state g conn).is_open → Leaves (state g conn) (λ db. AreTablesOf layout db c))
      → Spares g conn last → Leaves (state g last) (λ db. HoldsTables db owner cs)
  second_left last owner cs shown live stop spares clean db may = left (spares.crash clean db may)
    where
      left : ((state g conn).may_leave db ⊎ ⊥) → HoldsTables db owner cs
      left (inl was) = inl (stop desk_layout (rows_of owner cs) shown live (omega (arith, spares.clean, clean)) db was)
      left (inr never) = absurd never

  first_left : (last : Held S) (owner : List ℕ) (cs : History) → ShowsFirst (state g conn) owner cs → IsTrue (state g conn).is_open
      → ((layout : Layout) (c : Contents) → Shows layout (state g conn) c → IsTrue (state g conn).is_open → Leaves (state g conn) (λ db. AreTablesOf layout db c))
      → Survives (state g conn) (state g last) (Brings (state g conn)) → Leaves (state g last) (λ db. HoldsTables db owner cs)
  first_left last owner cs shown live stop survives clean db may = left (survives.crash clean db may)
    where
      left : ((state g conn).may_leave db ⊎ Brings (state g conn) db) → HoldsTables db owner cs
      left (inl was) = inr (shown.0, stop first_layout (first_rows_of owner cs) shown.1 live (omega (arith, survives.clean, clean)) db was)
      left (inr brought) = inl (brought.1 owner cs shown)

  -- so it leaves the history whose tables were the last commit
  pub refused_left : (last : Held S)
      → ((owner : List ℕ) (cs : History) → HoldsHistory (state g conn).committed.trees owner cs → ShowsHistory (state g conn) owner cs)
      → ((owner : List ℕ) (cs : History) → HoldsFirst (state g conn).committed.trees owner cs → ShowsFirst (state g conn) owner cs)
      → ((layout : Layout) (c : Contents) → Shows layout (state g conn) c → IsTrue (state g conn).is_open → Leaves (state g conn) (λ db. AreTablesOf layout db c))
      → ((owner : List ℕ) (cs : History) → ShowsHistory (state g conn) owner cs → Spares g conn last)
      → Survives (state g conn) (state g last) (Brings (state g conn))
      → IsTrue (state g conn).is_open → (owner : List ℕ) (cs : History) → HoldsTables (state g conn).committed.trees owner cs
      → Leaves (state g last) (λ db. HoldsTables db owner cs)
  refused_left last second first stop spared survives live owner cs (inl holds) =
      let shown = second owner cs holds in second_left last owner cs shown live stop (spared owner cs shown)
  refused_left last second first stop spared survives live owner cs (inr holds) =
      first_left last owner cs (first owner cs holds) live stop survives

  -- and it is refused only by a device
  pub known_of_commit : (refusal : Refusal)
      → ((owner : List ℕ) (cs : History) → HoldsHistory (state g conn).committed.trees owner cs → ShowsHistory (state g conn) owner cs)
      → ((owner : List ℕ) (cs : History) → HoldsFirst (state g conn).committed.trees owner cs → ShowsFirst (state g conn) owner cs)
      → ((owner : List ℕ) (cs : History) → length owner ≡ 16 → IsHistory cs → ShowsHistory (state g conn) owner cs → IsFailure refusal)
      → ((owner : List ℕ) (cs : History) → length owner ≡ 16 → IsHistory cs → ShowsFirst (state g conn) owner cs → IsFailure refusal)
      → (owner : List ℕ) (cs : History) → length owner ≡ 16 → IsHistory cs → HoldsTables (state g conn).committed.trees owner cs → IsFailure refusal
  known_of_commit refusal second first fails fails_first owner cs long history (inl holds) = fails owner cs long history (second owner cs holds)
  known_of_commit refusal second first fails fails_first owner cs long history (inr holds) = fails_first owner cs long history (first owner cs holds)

  -- ---- an opening that is refused because the desk has another owner

  of_anothers : (last : Held S) (owner : List ℕ) (refusal : Refusal)
      → ((earlier : List ℕ) (cs : History) → HoldsHistory (state g conn).committed.trees earlier cs → ShowsHistory (state g conn) earlier cs)
      → ((earlier : List ℕ) (cs : History) → HoldsFirst (state g conn).committed.trees earlier cs → ShowsFirst (state g conn) earlier cs)
      → ((layout : Layout) (c : Contents) → Shows layout (state g conn) c → IsTrue (state g conn).is_open → Leaves (state g conn) (λ db. AreTablesOf layout db c))
      → refusal ≡ refusals.Owner → IsOfAnother g conn owner last → IsAnothers g conn owner refusal last
  of_anothers last owner refusal second first stop is of = record {
    is = is;
    of = of;
    other = λ clean earlier cs held. elim held [
      | inl holds ↦ of.other clean earlier cs (inr (second earlier cs holds))
      | inr holds ↦ of.other clean earlier cs (inl (first earlier cs holds))
    ];
    left = refused_left last second first stop (λ earlier cs shows. of.spares) (leaves_more (Brings (state g conn)) (state g conn) (state g last) of.spares);
  }

  pub owned_refused : (last : Held S) (owner : List ℕ) (refusal : Refusal)
      → ((earlier : List ℕ) (cs : History) → HoldsHistory (state g conn).committed.trees earlier cs → ShowsHistory (state g conn) earlier cs)
      → ((earlier : List ℕ) (cs : History) → HoldsFirst (state g conn).committed.trees earlier cs → ShowsFirst (state g conn) earlier cs)
      → ((layout : Layout) (c : Contents) → Shows layout (state g conn) c → IsTrue (state g conn).is_open → Leaves (state g conn) (λ db. AreTablesOf layout db c))
      → ((refusal ≡ refusals.Owner) × IsOfAnother g conn owner last) ⊎ RefusesToOpen g conn refusal last → RefusesOwned g conn owner refusal last
  owned_refused last owner refusal second first stop (inl (is, of)) = inl (of_anothers last owner refusal second first stop is of)
  owned_refused last owner refusal second first stop (inr refuses) = inr (record {
    other = refuses.other;
    none = refuses.unread;
    finds = refuses.found;
    known = λ clean. known_of_commit refusal second first
        (λ owner cs long history shows. (refuses.known clean owner cs long history shows).0)
        (λ owner cs long history shows. (refuses.known_first clean owner cs long history shows).0);
    spares = refuses.refused;
    second = refuses.spared;
    stopped = refuses.failed;
    left = refused_left last second first stop refuses.spared refuses.failed;
  })

  -- that there is no desk isn't that it has another owner
  pub none_refused : (last : Held S) (owner : List ℕ) (refusal : Refusal) → refusal ≡ refusals.NotADesk → RefusesOwned g conn owner refusal last → RefusesDesk g conn refusal last
  none_refused last owner refusal is (inl another) = absurd (let e = sym is ∙ another.is in cc)
  none_refused last owner refusal is (inr refused) = refused

  -- ---- a desk that is made where there was none

  clean_before : (last : Held S) (refusal : Refusal) → RefusesDesk g conn refusal last → HasCleanDisk (state g last) → HasCleanDisk (state g conn)
  clean_before last refusal refused clean = omega (arith, refused.stopped.clean, clean)

  pub found_made : (last : Held S) (refusal : Refusal) (owner : List ℕ) (desk : Desk S) → refusal ≡ refusals.NotADesk → RefusesDesk g conn refusal last
      → (state g conn).now.schema ≡ no_schema → (state g last).now.schema ≡ no_schema → Makes g last owner desk → FindsOrMakes g conn owner desk
  found_made last refusal owner desk is refused was_bare bare makes = record {
    own = makes.own;
    either = inr (was_bare, λ clean. makes.shows clean bare);
    found = λ clean live earlier cs long history holds. absurd (no_failure refusal is (refused.known (makes.clean clean) earlier cs long history holds));
    lives = λ clean earlier lives seen long formed holds. absurd ((refused.finds (makes.clean clean) earlier lives seen long formed holds).0 is);
    clean = λ clean. clean_before last refusal refused (makes.clean clean);
  }

  -- nor was one made
  pub unmade : (last final : Held S) (refusal again : Refusal) (owner : List ℕ) → refusal ≡ refusals.NotADesk → RefusesDesk g conn refusal last
      → (state g conn).now.schema ≡ no_schema → RefusesMaking g last owner again final → RefusesFinding g conn owner again final
  unmade last final refusal again owner is refused was_bare making =
      let before : HasCleanDisk (state g final) → HasCleanDisk (state g last) = λ clean. omega (arith, making.stopped.clean, clean) in
      record {
        either = inr (record { bare = was_bare; between = last; none = subst (λ (r : Refusal). RefusesDesk g conn r last) is refused; making = making });
        known = λ clean earlier cs long history holds. absurd (no_failure refusal is (refused.known (before clean) earlier cs long history holds));
        left = λ live earlier cs long history holds clean db may. absurd (no_failure refusal is (refused.known (before clean) earlier cs long history holds));
        clean = λ clean. clean_before last refusal refused (before clean);
      }

  -- no desk was opened, and there is no room for one
  pub unfound : (last : Held S) (refusal : Refusal) (owner : List ℕ) → RefusesOwned g conn owner refusal last → RefusesFinding g conn owner refusal last
  unfound last refusal owner (inl another) = record {
    either = inl (inl another);
    known = λ clean earlier cs long history holds. inr (another.is, another.other clean earlier cs holds);
    left = λ live earlier cs long history holds. another.left live earlier cs holds;
    clean = λ clean. omega (arith, another.of.spares.clean, clean);
  }
  unfound last refusal owner (inr refused) = record {
    either = inl (inr refused);
    known = λ clean earlier cs long history holds. inl (refused.known clean earlier cs long history holds);
    left = λ live earlier cs long history holds. refused.left live earlier cs holds;
    clean = clean_before last refusal refused;
  }

-- ---- why no desk is made in a store without tables

none_taken : (schema : Schema) → schema ≡ no_schema → IsTrue (takes_a_desk_name schema) → ⊥
none_taken schema bare taken =
    let none : takes_a_desk_name no_schema ≡ false = refl in
    let bad : false ≡ true = sym none ∙ subst (λ (s : Schema). IsTrue (takes_a_desk_name s)) bare taken in
    absurd (cc)

pub finding_refusal : (schema : Schema) (refusal : Refusal) → schema ≡ no_schema → (refusal ≡ refusals.Exists → IsTrue (takes_a_desk_name schema))
    → IsMakingRefusal refusal → IsFindingRefusal refusal
finding_refusal schema refusal bare taken (inl file) = inl (inl file)
finding_refusal schema refusal bare taken (inr (inl exists)) = absurd (none_taken schema bare (taken exists))
finding_refusal schema refusal bare taken (inr (inr failure)) = inl (inr (inr (inr failure)))

-- why a desk of an owner isn't opened
pub owned_refusal : {S : Type 0} (g : Ghosts S) (conn last : Held S) (owner : List ℕ) (refusal : Refusal)
    → ((refusal ≡ refusals.Owner) × IsOfAnother g conn owner last) ⊎ RefusesToOpen g conn refusal last → IsFindingRefusal refusal
owned_refusal g conn last owner refusal (inl (is, of)) = inr is
owned_refusal g conn last owner refusal (inr refuses) = inl (inr refuses.named)
