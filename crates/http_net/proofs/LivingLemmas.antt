-- Connections that are served one after another, as events of the desk's life.
use Rattle.std.proofs.Common.{◌≡◌, ◌⊎◌, ◌∙◌, inl, inr, ℕ, Bool, true, false, List, [], ◌∷◌, ◌++◌, Option, Result, Ok, Err, IsTrue, refl, sym, ap, subst}
use Rattle.std.specs.List.{list_all}
use Rattle.std.proofs.lemmas.List.{append-nil}
use Rattle.std.proofs.lemmas.List.Folds.{list_all-append}
use Rattle.base.specs.declared.refusal.Refusal.{Refusal}
use Rattle.desk_history.specs.Calls.{History, Item}
use Rattle.desk_history.specs.Lives.{Answered, Event, Fate, MayLeave, Refused, Stopped, ends_at_a_stop}
use Rattle.http_exchange.specs.Living.{AddsEvents, StandsAfter, is_told}
use Rattle.http_exchange.specs.declared.served.HttpFault.{HttpFault}
use Rattle.http_exchange.specs.declared.served.Served.{Served}
use Rattle.http_exchange.proofs.LivingLemmas.{exchanges_add_events, failed_add_none, leave_both}
use Rattle.http_net.specs.Living.{AddEach, AddTo, RunsAddEvents, TurnsAddEvents}
use Rattle.http_net.specs.Turns.{AreServed, EndsTurns, ServesInTurn}
use Rattle.http_net.specs.Wire.{IsOneRequest}
use Rattle.http_net.proofs.TurnLemmas.{one_more}

-- ---- events one after another

both_told : (own rest : List Event) → list_all is_told own ≡ true → list_all is_told rest ≡ true → list_all is_told (own ++ rest) ≡ true
both_told own rest first second = list_all-append is_told own rest ∙ (rw (first, second) refl)

-- an event that wasn't stopped, before others
told_before : (i : Item) (fate : Fate) (own rest : List Event) → list_all is_told (record { item = i; fate = fate } ∷ own) ≡ true
    → (list_all is_told own ≡ true → ends_at_a_stop (own ++ rest) ≡ true) → ends_at_a_stop (record { item = i; fate = fate } ∷ (own ++ rest)) ≡ true
told_before i (Answered reply) own rest told more = more told
told_before i Refused own rest told more = more told
told_before i Stopped own rest told more = cc

-- events of which none was stopped, before others
ends_told : (own rest : List Event) → list_all is_told own ≡ true → ends_at_a_stop rest ≡ true → ends_at_a_stop (own ++ rest) ≡ true
ends_told [] rest told ends = ends
ends_told (e ∷ own) rest told ends = told_before e.item e.fate own rest told (λ h. ends_told own rest h ends)

module _ {D : Type 0} (shows : D → List ℕ → History → Type 0) (clean failed : D → Type 0) (leaves : D → List ℕ → History → History → Type 0) where
  -- the desk after events, and after more
  stands_both : (new : D) (owner : List ℕ) (cs later last : History) (own rest : List Event) → IsTrue (list_all is_told own)
      → MayLeave cs own later → StandsAfter shows failed leaves new owner later rest last
      → StandsAfter shows failed leaves new owner cs (own ++ rest) last
  stands_both new owner cs later last own rest told first second = record {
    left = leave_both cs own rest later last first second.left;
    stands = elim second.stands [
      | inl still ↦ inl (both_told own rest told still.0, still.1)
      | inr fails ↦ inr (fails.0, ends_told own rest told fails.1, fails.2, leave_both cs own rest later fails.2 first fails.3, fails.4)
    ];
  }

  -- a disk that is clean at the end was clean before
  was_clean : (all : List (Result Served HttpFault)) (old new : D) → AreServed (IsOneRequest shows clean failed leaves) all old new → clean new → clean old
  was_clean [] old new each is = subst clean each is
  was_clean (served ∷ all) old new each is = each.1.answers.before (was_clean all each.0 new each.2 is)

  -- a desk that has failed
  run_failed : (all : List (Result Served HttpFault)) (old new : D) (cs : History) → AreServed (IsOneRequest shows clean failed leaves) all old new → failed old
      → AddEach cs all [] cs × (new ≡ old)
  run_failed [] old new cs each was = ((refl, refl), each)
  run_failed (served ∷ all) old new cs each was =
      let one = failed_add_none shows clean failed leaves old each.0 cs each.1.input each.1.held each.1.holds served each.1.answers was in
      let more = run_failed all each.0 new cs each.2 (subst failed (sym one.1) was) in
      (([], [], cs, (each.1.input, each.1.held, each.1.holds, one.0), refl, refl, more.0), more.1 ∙ one.1)

  -- one connection, and those after it
  more_adds : (served : Result Served HttpFault) (all : List (Result Served HttpFault)) (old mid new : D) (owner : List ℕ) (cs : History) (own : List Event) (later : History)
      → (one : IsOneRequest shows clean failed leaves old mid served) → clean new → AreServed (IsOneRequest shows clean failed leaves) all mid new
      → AddsEvents cs one.input one.held one.holds served own → StandsAfter shows failed leaves mid owner cs own later
      → (IsTrue (list_all is_told own) × shows mid owner later)
      ⊎ (failed mid × IsTrue (ends_at_a_stop own) × (other : History) × MayLeave cs own other × leaves mid owner later other)
      → (shows mid owner later → AddTo shows clean failed leaves mid new owner later all)
      → AddTo shows clean failed leaves old new owner cs (served ∷ all)
  more_adds served all old mid new owner cs own later one is each adds stands (inl still) rest =
      let more = rest still.1 in (
        own ++ more.0,
        more.1,
        (own, more.0, later, (one.input, one.held, one.holds, adds), stands.left, refl, more.2),
        stands_both new owner cs later more.1 own more.0 still.0 stands.left more.3,
      )
  more_adds served all old mid new owner cs own later one is each adds stands (inr fails) rest =
      let more = run_failed all mid new later each fails.0 in (
        own,
        later,
        (own, [], later, (one.input, one.held, one.holds, adds), stands.left, sym (append-nil own), more.0),
        subst (λ d. StandsAfter shows failed leaves d owner cs own later) (sym more.1) stands,
      )

  run_adds : (all : List (Result Served HttpFault)) (old new : D) (owner : List ℕ) (cs : History) → AreServed (IsOneRequest shows clean failed leaves) all old new
      → clean new → shows old owner cs → AddTo shows clean failed leaves old new owner cs all
  run_adds [] old new owner cs each is shown =
      ([], cs, (refl, refl), record { left = refl; stands = inl (refl, subst (λ d. shows d owner cs) (sym each) shown) })
  run_adds (served ∷ all) old new owner cs each is shown =
      let one = exchanges_add_events shows clean failed leaves old each.0 owner cs each.1.input each.1.held each.1.holds served each.1.answers (was_clean all each.0 new each.2 is) shown in
      more_adds served all old each.0 new owner cs one.0 one.1 each.1 is each.2 one.2 one.3 one.3.stands
      (λ still. run_adds all each.0 new owner one.1 each.2 is still)

  pub runs_add_events : (old new : D) → RunsAddEvents shows clean failed leaves old new
  runs_add_events old new owner cs all each is shown = run_adds all old new owner cs each is shown

  -- ---- the result of serving

  pub in_turn : (count : ℕ) (told : Result Unit Refusal) (old new : D) → ServesInTurn (IsOneRequest shows clean failed leaves) count old new told
      → (all : List (Result Served HttpFault)) × AreServed (IsOneRequest shows clean failed leaves) all old new
  in_turn count (Ok done) old new turns = (turns.0, turns.3)
  in_turn count (Err refusal) old new turns = by turns.5
    where
      by : EndsTurns (IsOneRequest shows clean failed leaves) turns.3 new refusal
          → (all : List (Result Served HttpFault)) × AreServed (IsOneRequest shows clean failed leaves) all old new
      by (inl x) = (turns.0 ++ x.0 ∷ [], one_more (IsOneRequest shows clean failed leaves) turns.0 x.0 old turns.3 new turns.4 x.1)
      by (inr x) = (turns.0, subst (λ d. AreServed (IsOneRequest shows clean failed leaves) turns.0 old d) (sym x.1) turns.4)

  pub turns_add_events : (old new : D) → TurnsAddEvents shows clean failed leaves old new
  turns_add_events old new owner cs count told turns is shown =
      let all = in_turn count told old new turns in (all.0, all.1, run_adds all.0 old new owner cs all.1 is shown)
