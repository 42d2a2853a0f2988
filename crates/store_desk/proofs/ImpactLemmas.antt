-- The answer to the question of an impact, from what its steps read.
use Rattle.std.proofs.Common.{◌≡◌, ◌≢◌, ◌⊎◌, inl, inr, ℕ, ◌==◌, Bool, true, List, [], ◌∷◌, length, Option, Some, None, option_map, Result, Ok, Err, find, map, arith, refl, sym, ap, subst, ◌∙◌}
use Rattle.std.specs.Prelude.{MatchResult, not}
use Rattle.std.specs.Option.{option_map_or, option_or}
use Rattle.std.proofs.lemmas.Bool.Decides.{nat_tests}
use Rattle.sqlite.specs.Store as store
use Rattle.sqlite.specs.Held.{state}
use Rattle.sqlite.specs.State.{HasCleanDisk}
use Rattle.base.specs.declared.refusal.Refusal.{Refusal}
use Rattle.base.specs.declared.refusal.Refusal.TheVariants as refusals
use Rattle.desk_types.specs.declared.caller.Caller.{Caller}
use Rattle.desk_types.specs.declared.caller.Caller.TheVariants as callers
use Rattle.desk_types.specs.declared.command.Person.{Person}
use Rattle.desk_types.specs.declared.command.Command.TheVariants as command
use Rattle.desk_history.specs.Calls.{History}
use Rattle.desk_history.specs.Forces.{forced, nothing}
use Rattle.desk_history.specs.Impact.{Impact, after, another_refusal, impact, impact_of, impact_refusal, would_force}
use Rattle.desk_history.specs.ImpactShown.{ShowsImpact, impact_for, impact_to, shown_barred}
use Rattle.desk_history.specs.Limits.{is_within}
use Rattle.desk_history.specs.Refusals.{refuse_if}
use Rattle.desk_history.specs.Proposals.{Proposal, proposal, proposal_state}
use Rattle.desk_history.specs.Shown.{IsGiven, officer, reader}
use Rattle.desk_history.specs.Tables.{proposal_row, tables}
use Rattle.desk_history.specs.declared.impact.ShownImpact.{ShownImpact}
use Rattle.desk_history.specs.declared.rows.ProposalRow.{ProposalRow}
use Rattle.desk_history.proofs.ProposalRowLemmas.{table_found}
use Rattle.desk_history.specs.Called.{called}
use Rattle.desk_rules.specs.Shown.{Shows, is_proposal_row}
use Rattle.desk_rules.specs.declared.view.View.{View}
use Rattle.store_impacts.specs.Reading.{refusal_to, refused}
use Rattle.store_impacts.specs.Barring.{UntouchedBarsNone}
use Rattle.store_impacts.specs.Touching.{touched}
use Rattle.store_impacts.specs.declared.touched_image.TouchedImage.{TouchedImage}
use Rattle.store_reads.specs.Failures.{IsFailure}
use Rattle.store_desk.specs.Desks.{ForEachShown, ReadsDesk}
use Rattle.store_desk.specs.Impacts.{AreBarredBy, Foretells, GivesOutlook, IsImpactRefusal}
use Rattle.desk_rules.specs.Entries.{held_standing}
use Rattle.store_desk.specs.declared.desk.Desk.{Desk}
use Rattle.store_desk.specs.declared.impacts.Outlook.{Outlook}

-- ---- the caller

not_refused : (due : Result Impact Refusal) (r : Result Person Refusal) → refused r ≡ None → impact_to due r ≡ due
not_refused due (Ok p) h = refl
not_refused due (Err refusal) h = absurd cc

is_refused : (due : Result Impact Refusal) (r : Result Person Refusal) (refusal : Refusal) → refused r ≡ Some refusal → impact_to due r ≡ Err refusal
is_refused due (Ok p) refusal h = absurd cc
is_refused due (Err other) refusal h = let same : other ≡ refusal = cc in ap Err same

due_to_officer : (cs : History) (c : Caller) (k : ℕ) → refusal_to cs c ≡ None → impact_for cs c k ≡ impact cs k
due_to_officer cs callers.Console k h = refl
due_to_officer cs (callers.Person name) k h = not_refused (impact cs k) (officer (reader cs (callers.Person name))) h

due_to_other : (cs : History) (c : Caller) (k : ℕ) (refusal : Refusal) → refusal_to cs c ≡ Some refusal → impact_for cs c k ≡ Err refusal
due_to_other cs callers.Console k refusal h = absurd cc
due_to_other cs (callers.Person name) k refusal h = is_refused (impact cs k) (officer (reader cs (callers.Person name))) refusal h

-- the caller who isn't shown impacts is told so
pub gives_refusal : (cs : History) (c : Caller) (k : ℕ) (refusal : Refusal) → Some refusal ≡ refusal_to cs c → GivesOutlook cs c k (Err refusal)
gives_refusal cs c k refusal h = subst (λ d. IsGiven d (Err refusal) (Foretells cs k)) (sym (due_to_other cs c k refusal (sym h))) refl

-- ---- the look ahead

free_impact : (cs : History) (k : ℕ) → impact_refusal cs k ≡ None → impact cs k ≡ Ok (impact_of cs k)
free_impact cs k h = ap (λ o. option_map_or Err o (Ok (impact_of cs k))) h

refused_impact : (cs : History) (k : ℕ) (refusal : Refusal) → impact_refusal cs k ≡ Some refusal → impact cs k ≡ Err refusal
refused_impact cs k refusal h = ap (λ o. option_map_or Err o (Ok (impact_of cs k))) h

abbrev IsAhead : History → ℕ → Result Outlook Refusal → Type 0
IsAhead cs k given =
    MatchResult given (λ o. (impact_refusal cs k ≡ None) × Foretells cs k (impact_of cs k) o)
    (λ refusal. (impact_refusal cs k ≡ Some refusal) ⊎ (refusal ≡ refusals.NoMemory))

pub gives_ahead : (cs : History) (c : Caller) (k : ℕ) (given : Result Outlook Refusal) → refusal_to cs c ≡ None → IsAhead cs k given → given ≢ Err refusals.NoMemory → GivesOutlook cs c k given
gives_ahead cs c k (Ok o) shown it some = subst (λ d. IsGiven d (Ok o) (Foretells cs k)) (sym (due_to_officer cs c k shown ∙ free_impact cs k it.0)) it.1
gives_ahead cs c k (Err refusal) shown it some = elim it [
  | inl is ↦ subst (λ d. IsGiven d (Err refusal) (Foretells cs k)) (sym (due_to_officer cs c k shown ∙ refused_impact cs k refusal is)) refl
  | inr is ↦ absurd (some (ap Err is))
]

-- ---- the proposal's row

no_proposal : (f : Proposal → ProposalRow) (o : Option Proposal) → option_map f o ≡ None → o ≡ None
no_proposal f None h = refl
no_proposal f (Some p) h = absurd cc

its_entries : (cs : History) (k : ℕ) (row : ProposalRow) (o : Option Proposal) → option_map (proposal_row (proposal_state cs k)) o ≡ Some row
    → option_map_or forced (option_map (λ (p : Proposal). p.named.entries) o) nothing ≡ forced row.named
its_entries cs k row None h = absurd cc
its_entries cs k row (Some p) h = let same : proposal_row (proposal_state cs k) p ≡ row = cc in ap (λ (r : ProposalRow). forced r.named) same

module _ (v : View) (owner : List ℕ) (cs : History) (c : Caller) (key : List ℕ) (k : ℕ) (shown : Shows v (tables owner cs) (called c key (command.Confirm k))) where
  found_row : (o : Option ProposalRow) → o ≡ find (is_proposal_row k) v.proposals.items → option_map (proposal_row (proposal_state cs k)) (proposal cs k) ≡ o
  found_row o is = sym (table_found owner cs k) ∙ sym (shown.proposal k refl) ∙ sym is

  pub no_row : None ≡ find (is_proposal_row k) v.proposals.items → impact_refusal cs k ≡ Some refusals.NoSuchProposal
  no_row is =
      let none : proposal cs k ≡ None = no_proposal (proposal_row (proposal_state cs k)) (proposal cs k) (found_row None is) in
      ap (λ o. option_or (another_refusal cs o (proposal_state cs k)) (refuse_if (not (is_within (after cs k))) refusals.Full)) none

  pub its_force : (row : ProposalRow) → Some row ≡ find (is_proposal_row k) v.proposals.items → would_force cs k ≡ forced row.named
  its_force row is = its_entries cs k row (proposal cs k) (found_row (Some row) is)

-- ---- the impact as it is shown

pub shows_impact : (cs : History) (k : ℕ) (w : Impact) (outlook : Outlook) (images : List TouchedImage) (shown : ShownImpact) → Foretells cs k w outlook
    → images ≡ touched (held_standing outlook.entries) cs → AreBarredBy outlook.entries images shown.bars.items cs
    → shown.adds ≡ outlook.foreseen.adds → shown.dbx ≡ outlook.foreseen.dbx → ShowsImpact w shown
shows_impact cs k w outlook images shown it touched_are are adds dbx = record {
  bars = are k it.entries touched_are ∙ ap (λ (x : Impact). map shown_barred x.bars) (sym it.whole);
  adds = adds ∙ it.adds;
  dbx = dbx ∙ it.dbx;
}

-- ---- the answer

is_zero : (n : ℕ) (b : Bool) → b ≡ (n == 0) → b ≡ true → n ≡ 0
is_zero n b e h = grind (arith, nat_tests)

-- a list that is empty by its length
pub no_items : {X : Type 0} (xs : List X) (n : ℕ) (b : Bool) → b ≡ (n == 0) → b ≡ true → n ≡ length xs → xs ≡ []
no_items [] n b e h same = refl
no_items (x ∷ xs) n b e h same = let none : n ≡ 0 = is_zero n b e h in absurd (omega arith)

-- the due refusal is given
pub refused_so : {A B : Type 0} (due : Result A Refusal) (refusal : Refusal) (shows : A → B → Type 0) → IsGiven due (Err refusal) shows → due ≡ Err refusal
refused_so (Ok w) refusal shows h = absurd h
refused_so (Err other) refusal shows h = ap Err (sym h)

due_shows : (cs : History) (k : ℕ) (due : Result Impact Refusal) (outlook : Outlook) (shown : ShownImpact) → IsGiven due (Ok outlook) (Foretells cs k)
    → ((w : Impact) → Foretells cs k w outlook → ShowsImpact w shown) → MatchResult due (λ w. ShowsImpact w shown) (λ _. ⊥)
due_shows cs k (Ok w) outlook shown h f = f w h
due_shows cs k (Err refusal) outlook shown h f = absurd h

module _ {S : Type 0} (g : store.Ghosts S) where
  pub all_shown : {A B : Type 0} (old mid late new : Desk S) (c : Caller) (k : ℕ) (outlook : Outlook) (x : A) (y : B) (images : List TouchedImage) (shown : ShownImpact)
      → ReadsDesk g IsImpactRefusal old mid (Ok outlook) → ReadsDesk g IsFailure mid late (Ok x) → ReadsDesk g IsFailure late new (Ok y)
      → (HasCleanDisk (state g mid.conn) → ForEachShown g old (λ owner cs. GivesOutlook cs c k (Ok outlook)))
      → (HasCleanDisk (state g late.conn) → ForEachShown g mid (λ owner cs. images ≡ touched (held_standing outlook.entries) cs))
      → (HasCleanDisk (state g new.conn) → ForEachShown g late (λ owner cs. AreBarredBy outlook.entries images shown.bars.items cs))
      → shown.adds ≡ outlook.foreseen.adds → shown.dbx ≡ outlook.foreseen.dbx → HasCleanDisk (state g new.conn)
      → ForEachShown g old (λ owner cs. MatchResult (impact_for cs c k) (λ w. ShowsImpact w shown) (λ _. ⊥))
  all_shown old mid late new c k outlook x y images shown one two three due found are adds dbx clean owner cs was =
      let clean_late : HasCleanDisk (state g late.conn) = omega (arith, three.spares.clean, clean) in
      let clean_mid : HasCleanDisk (state g mid.conn) = omega (arith, two.spares.clean, clean_late) in
      let then_ = one.same clean_mid (λ is. absurd cc) owner cs was in
      let last = two.same clean_late (λ is. absurd cc) owner cs then_ in
      due_shows cs k (impact_for cs c k) outlook shown (due clean_mid owner cs was)
      (λ w it. shows_impact cs k w outlook images shown it (found clean_late owner cs then_) (are clean owner cs last) adds dbx)

  -- where no image is touched none is barred
  pub none_shown : {A : Type 0} (old mid late : Desk S) (c : Caller) (k : ℕ) (outlook : Outlook) (x : A) (images : List TouchedImage) (shown : ShownImpact)
      → ReadsDesk g IsImpactRefusal old mid (Ok outlook) → ReadsDesk g IsFailure mid late (Ok x)
      → (HasCleanDisk (state g mid.conn) → ForEachShown g old (λ owner cs. GivesOutlook cs c k (Ok outlook)))
      → (HasCleanDisk (state g late.conn) → ForEachShown g mid (λ owner cs. images ≡ touched (held_standing outlook.entries) cs))
      → UntouchedBarsNone → images ≡ [] → shown.bars.items ≡ []
      → shown.adds ≡ outlook.foreseen.adds → shown.dbx ≡ outlook.foreseen.dbx → HasCleanDisk (state g late.conn)
      → ForEachShown g old (λ owner cs. MatchResult (impact_for cs c k) (λ w. ShowsImpact w shown) (λ _. ⊥))
  none_shown old mid late c k outlook x images shown one two due found law empty none adds dbx clean owner cs was =
      let clean_mid : HasCleanDisk (state g mid.conn) = omega (arith, two.spares.clean, clean) in
      let then_ = one.same clean_mid (λ is. absurd cc) owner cs was in
      due_shows cs k (impact_for cs c k) outlook shown (due clean_mid owner cs was)
      (λ w it. shows_impact cs k w outlook images shown it (found clean owner cs then_)
      (λ n alike are. none ∙ law (held_standing outlook.entries) cs n alike (sym empty ∙ are)) adds dbx)
