-- The past of a desk, told from its tables.
use Rattle.std.proofs.Common.{◌≡◌, ◌≢◌, ℕ, pos, List, [], ◌∷◌, length, map, Bool, true, false, cond, Option, Some, None, Result, Ok, Err, IsTrue, ap₂, ◌&&◌, refl, sym, ap, subst, ◌∙◌, codes, arith, ◌+◌, ◌<◌, ◌≤◌}
use Rattle.std.specs.Prelude.{count_by, IfOk, OnOk}
use Rattle.std.specs.List.{list_all}
use Rattle.std.proofs.lemmas.Bool.{and_parts}
use Rattle.std.proofs.lemmas.List.Sums.{sum_by-cons}
use Rattle.sqlite.proofs.Callers.{one_permutation}
use Rattle.sqlite.specs.Listing.{understood}
use Rattle.sqlite.specs.Order.{Row}
use Rattle.sqlite.specs.State.{State, Shown}
use Rattle.sqlite.specs.declared.types.Value.{Value}
use Rattle.sqlite.specs.declared.types.Value.TheVariants.{Int}
use Rattle.sqlite.specs.Held.{Held, state}
use Rattle.sqlite.specs.State.{HasCleanDisk, Survives}
use Rattle.sqlite.specs.Store as store
use Rattle.sqlite_tied.specs.Compute.{everything}
use Rattle.desk_history.specs.Calls.{First, History, Item, Second, is_first, under}
use Rattle.desk_history.specs.Replies.{minutes}
use Rattle.desk_history.specs.Tables.{MigratedRow, Tables, tables}
use Rattle.desk_rules.specs.Shown.{rows_in, size_in}
use Rattle.desk_rules.specs.declared.view.LimitedTable.{LimitedTable}
use Rattle.desk_rules.specs.declared.view.LimitedTable.TheVariants as limited
use Rattle.desk_rules.specs.declared.view.Sizes.{Sizes}
use Rattle.store_decision_rows.specs.sizes.Sizes.{AreSizesOf}
use Rattle.store_schema.specs.Columns.{by_first, columns_after, names_of}
use Rattle.store_schema.specs.Tables.{desk_layout, migrated}
use Rattle.store_schema.specs.rows.Contents.{contents}
use Rattle.store_schema.specs.rows.Histories.{AreFirst, ShowsHistory}
use Rattle.store_sql.proofs.CommitLemmas.{begun}
use Rattle.store_decision_rows.specs.declared.remembered.Remembered.{Remembered}
use Rattle.store_schema.specs.rows.Values.{migrated_values}
use Rattle.store_sql.specs.Meanings.{SelectsRows}
use Rattle.store_sql.proofs.BesideLemmas.{beside_any}
use Rattle.store_sql.proofs.ItemLemmas.{turns}
use Rattle.store_sql.proofs.ReadLemmas.{selects}
use Rattle.store_reads.specs.Reads.{ReadsTables}
use Rattle.store_first_rules.specs.Pasts.{HasFirstCalls, IsPastOf, TellsPast, second}
use Rattle.store_first_rules.specs.declared.past.TheConstants.{SELECT_MIGRATED}

-- what the text means, told by computing
pub select_migrated : SelectsRows desk_layout 14 migrated SELECT_MIGRATED.now [] (by_first 1 migrated) (columns_after 1 migrated) (names_of migrated)
unfolding understood everything
select_migrated = beside_any desk_layout _ (λ others refer. record { place = refl; means = refl; unlisted = refl; plain = (refl, refl); overlooks = λ _. tt; passes_over = λ _. tt })

abbrev shown_row : MigratedRow → Row
shown_row m = Int (pos m.id) ∷ Int (pos m.calls) ∷ []

same_calls : (m : MigratedRow) (n : ℕ) → ◌≡◌ {A = List Value} (Int (pos m.calls) ∷ []) (Int (pos n) ∷ []) → m.calls ≡ n
same_calls m n e = cc

-- its answer tells how many calls were accepted by the first rules
pub tells_first : (old new : State) (answer : List Row) (n : ℕ) → IsTrue old.in_transaction → Shown SELECT_MIGRATED.now [] old new answer → map second answer ≡ Int (pos n) ∷ []
    → ReadsTables (HasFirstCalls n) old new
tells_first old new answer n inside shown reads =
    let it = selects SELECT_MIGRATED.now [] old new answer inside shown desk_layout 14 migrated [] (by_first 1 migrated) (columns_after 1 migrated) (names_of migrated) select_migrated in
    record {
      kept = turns desk_layout contents contents (λ c. c) old new it.0 (λ t. refl);
      tells = λ t sees m is.
          let one = one_permutation (shown_row m) answer (it.1 (contents t) (migrated_values m ∷ []) sees (ap (λ l. Some (map migrated_values l)) is)).same in
          same_calls m n (sym (ap (map second) one) ∙ reads);
    }

-- ---- the calls that were accepted by the first rules

one_more : (i : Item) (cs : History) → count_by is_first (i ∷ cs) ≡ cond (is_first i) 1 0 + count_by is_first cs
one_more i cs = sum_by-cons (λ (y : Item). cond (is_first y) 1 0) i cs

-- are no more than all
few : (cs : History) → count_by is_first cs ≤ length (minutes cs)
few [] = omega arith
few (i ∷ cs) = by (is_first i) refl (few cs)
  where
    by : (b : Bool) → is_first i ≡ b → count_by is_first cs ≤ length (minutes cs) → count_by is_first (i ∷ cs) ≤ length (minutes (i ∷ cs))
    by true is rest =
        let sum : count_by is_first (i ∷ cs) ≡ 1 + count_by is_first cs = one_more i cs ∙ ap (λ b. cond b 1 0 + count_by is_first cs) is in
        omega (arith, rest, sum)
    by false is rest =
        let sum : count_by is_first (i ∷ cs) ≡ 0 + count_by is_first cs = one_more i cs ∙ ap (λ b. cond b 1 0 + count_by is_first cs) is in
        omega (arith, rest, sum)

-- if they are as many, they are all
pub all_first : (cs : History) → count_by is_first cs ≡ length (minutes cs) → list_all is_first cs ≡ true
all_first [] is = refl
all_first (i ∷ cs) is = by (is_first i) refl (λ e. all_first cs e)
  where
    by : (b : Bool) → is_first i ≡ b → (count_by is_first cs ≡ length (minutes cs) → list_all is_first cs ≡ true) → (is_first i && list_all is_first cs) ≡ true
    by true first others =
        let sum : count_by is_first (i ∷ cs) ≡ 1 + count_by is_first cs = one_more i cs ∙ ap (λ b. cond b 1 0 + count_by is_first cs) first in
        let rest : count_by is_first cs ≡ length (minutes cs) = omega (arith, is, sum) in
        ap₂ (λ a b. a && b) first (others rest)
    by false first others =
        let most = few cs in
        let sum : count_by is_first (i ∷ cs) ≡ 0 + count_by is_first cs = one_more i cs ∙ ap (λ b. cond b 1 0 + count_by is_first cs) first in
        absurd (omega (arith, most, is, sum))

counted : (cs : History) → list_all is_first cs ≡ true → count_by is_first cs ≡ length (minutes cs)
counted [] first = refl
counted (i ∷ cs) first =
    let parts = and_parts (is_first i) (list_all is_first cs) first in
    let rest = counted cs parts.1 in
    let sum : count_by is_first (i ∷ cs) ≡ 1 + count_by is_first cs = one_more i cs ∙ ap (λ b. cond b 1 0 + count_by is_first cs) parts.0 in
    omega (arith, rest, sum)

-- and if they aren't, one wasn't
pub not_all : (cs : History) → count_by is_first cs ≢ length (minutes cs) → list_all is_first cs ≡ false
not_all cs differs = by (list_all is_first cs) refl
  where
    by : (b : Bool) → list_all is_first cs ≡ b → list_all is_first cs ≡ false
    by true first = absurd (differs (counted cs first))
    by false other = other

-- ---- the sizes of the tables

pub are_sizes : (s : Sizes) (t : Tables) → s.calls ≡ length t.calls → s.people ≡ length t.people → s.requests ≡ length t.requests → s.listed ≡ length t.listed
    → s.revoked_digests ≡ length t.revoked_digests → s.revoked_certificates ≡ length t.revoked_certificates → s.components ≡ length t.components → s.proposals ≡ length t.proposals
    → AreSizesOf s t
are_sizes s t calls people requests listed digests certificates components proposals = record { calls = calls; sizes = by }
  where
    by : (table : LimitedTable) → size_in s table ≡ rows_in t table
    by limited.People = people
    by limited.Requests = requests
    by limited.Listed = listed
    by limited.RevokedDigests = digests
    by limited.RevokedCertificates = certificates
    by limited.Components = components
    by limited.Proposals = proposals

-- ---- what a transaction that was rolled back read

module _ {S : Type 0} (g : store.Ghosts S) (old last : Held S) (spared : Survives (begun g old) (state g last) (λ _. ⊥)) (late : HasCleanDisk (state g last)) where
  tells_past : (given : Option Remembered) → ReadsTables (IsPastOf given) (begun g old) (state g last) → IsTrue (state g last).is_open → TellsPast (state g old) given
  tells_past (Some r) it live = λ owner cs shows.
      let told = it.tells (tables owner cs) (record { inside = refl; holds = (shows.holds (omega (arith, spared.clean, late)) (it.kept.kept.was_open live)).0 }) in
      (all_first cs (told.0 (record { id = 1; calls = count_by is_first cs }) refl), told.1, told.2)
  tells_past None it live = λ owner cs shows.
      let told = it.tells (tables owner cs) (record { inside = refl; holds = (shows.holds (omega (arith, spared.clean, late)) (it.kept.kept.was_open live)).0 }) in
      not_all cs (told (record { id = 1; calls = count_by is_first cs }) refl)

  pub read_past : {E : Type 0} (given : Result (Option Remembered) E) → IfOk given (λ o. ReadsTables (IsPastOf o) (begun g old) (state g last))
      → OnOk given (IsTrue (state g last).is_open × IsTrue (state g last).in_transaction) → IfOk given (TellsPast (state g old))
  read_past (Ok o) it inside = tells_past o it inside.0
  read_past (Err e) it inside = tt
