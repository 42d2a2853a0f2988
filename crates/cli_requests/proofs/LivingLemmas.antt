-- Requests as events of the life of a desk in a store.
use Rattle.std.proofs.Common.{◌≡◌, ◌⊎◌, ◌∙◌, inl, inr, ℕ, Bool, true, false, All, List, [], ◌∷◌, ◌++◌, Option, Result, IsTrue, refl, sym, ap, subst}
use Rattle.std.specs.List.{list_all}
use Rattle.std.proofs.lemmas.List.Elements.{All-append, All-head, All-nil, All-tail, All-weaker}
use Rattle.std.proofs.lemmas.List.Folds.{list_all-append}
use Rattle.sqlite.specs.Held.{state}
use Rattle.sqlite.specs.Store as store
use Rattle.sqlite.specs.Tree.{Trees}
use Rattle.desk_types.specs.Formed.{IsCall}
use Rattle.desk_types.specs.declared.command.Call.{Call}
use Rattle.desk_history.specs.Calls.{History, Item, Second, item}
use Rattle.desk_history.specs.Formed.{IsItem}
use Rattle.desk_history.specs.Lives.{Answered, Ends, Event, Fate, Life, MayLeave, Refused, Stopped, are_by, are_rules, ends_at_a_stop}
use Rattle.http_exchange.specs.Living.{IsEventOf, StandsAfter}
use Rattle.http_exchange.specs.declared.served.HttpFault.{HttpFault}
use Rattle.http_exchange.specs.declared.served.Served.{Served}
use Rattle.http_exchange.proofs.LivingLemmas.{exchanges_add_events}
use Rattle.http_net.specs.Living.{AddEach}
use Rattle.http_net.proofs.LivingLemmas.{in_turn, runs_add_events}
use Rattle.store_schema.specs.rows.Histories.{HoldsHistory}
use Rattle.store_desk.specs.Desks.{ShowsDesk}
use Rattle.store_desk.specs.Headline.{HoldsLives, IsSince, Seen}
use Rattle.store_desk.specs.Living.{LivesOn, and_now, is_told}
use Rattle.store_desk.specs.declared.desk.Desk.{Desk}
use Rattle.store_desk.proofs.LivingLemmas.{ends_more, since_more}
use Rattle.cli_output.specs.declared.ending.WorkOutcome.{WorkOutcome}
use Rattle.cli_output.specs.declared.fault.Fault.{Fault}
use Rattle.cli_requests.specs.Desks.{AnswersRequest, ServesRequest, has_failed, is_clean, leaves}
use Rattle.cli_requests.specs.Living.{ConnectionsMakeLives, GoesOnWith, LivesThrough, LivesThroughOne, RequestsMakeLives, and_also}
use Rattle.cli_requests.specs.Works.{ServesPort, WorksInTurn, WorksOnce}

-- ---- the events

-- an event of a call in its forms, by the second rules
abbrev IsFormed : Event → Type 0
IsFormed e = IsItem e.item × (e.item.rules ≡ Second)

formed_event : (cs : History) (input : Option (List ℕ)) (e : Event) → IsEventOf cs input e → IsFormed e
formed_event cs input e x = (subst (λ (i : Item). IsItem i) (sym x.1) x.2, ap (λ (i : Item). i.rules) x.1)

formed_events : (cs : History) (input : Option (List ℕ)) (events : List Event) → All (IsEventOf cs input) events → All IsFormed events
formed_events cs input events each = All-weaker (IsEventOf cs input) IsFormed (formed_event cs input) events each

formed_each : (cs : History) (all : List (Result Served HttpFault)) (events : List Event) (last : History) → AddEach cs all events last → All IsFormed events
formed_each cs [] events last x = subst (All IsFormed) (sym x.0) (All-nil IsFormed)
formed_each cs (served ∷ more) events last x =
    subst (All IsFormed) (sym x.5)
    (All-append IsFormed x.0 x.1 (formed_events cs x.3.0 x.0 x.3.3.asked) (formed_each x.2 more x.1 last x.6))

all_second : (events : List Event) → All IsFormed events → are_by Second events ≡ true
all_second [] h = refl
all_second (e ∷ events) h =
    let own : are_rules Second e.item.rules ≡ true = ap (are_rules Second) (All-head IsFormed e events h).1 in
    let rest : are_by Second events ≡ true = all_second events (All-tail IsFormed e events h) in
    rw (own, rest) refl

-- an event that wasn't stopped, before others
told_before : (i : Item) (fate : Fate) (events : List Event) → list_all is_told (record { item = i; fate = fate } ∷ events) ≡ true
    → (list_all is_told events ≡ true → ends_at_a_stop events ≡ true) → ends_at_a_stop (record { item = i; fate = fate } ∷ events) ≡ true
told_before i (Answered reply) events told rest = rest told
told_before i Refused events told rest = rest told
told_before i Stopped events told rest = cc

told_ends : (events : List Event) → list_all is_told events ≡ true → ends_at_a_stop events ≡ true
told_ends [] told = refl
told_ends (e ∷ events) told = told_before e.item e.fate events told (λ h. told_ends events h)

both_told : (events more : List Event) → list_all is_told events ≡ true → list_all is_told more ≡ true → list_all is_told (events ++ more) ≡ true
both_told events more first second = list_all-append is_told events more ∙ (rw (first, second) refl)

-- ---- the desk

module _ {S : Type 0} (g : store.Ghosts S) (new : Desk S) (owner : List ℕ) (before : List Life) (events : List Event) (seen : Seen) (cs : History)
    (told : IsTrue (list_all is_told events)) (ends : Ends (and_now before events) cs) (since : IsSince seen cs) (more : List Event) (formed : All IsFormed more) where
  -- the trees hold a history that the lives may leave
  held_lives : (later : History) (db : Trees) → ends_at_a_stop more ≡ true → MayLeave cs more later → HoldsHistory db owner later
      → HoldsLives db owner (and_now before (events ++ more)) (and_also seen more)
  held_lives later db stops left holds = (
    later,
    ends_more before events more cs later told (all_second more formed) stops ends left,
    since_more seen.at seen.since more cs later since left,
    inl holds,
  )

  pub goes_on_with : (last : History) → StandsAfter (ShowsDesk g) (has_failed g) (leaves g) new owner cs more last → GoesOnWith g new owner before events seen more last
  goes_on_with last after = by after.stands
    where
      by : (IsTrue (list_all is_told more) × ShowsDesk g new owner last)
          ⊎ (has_failed g new × IsTrue (ends_at_a_stop more) × (other : History) × MayLeave cs more other × leaves g new owner last other)
          → GoesOnWith g new owner before events seen more last
      by (inl still) =
          let stops = told_ends more still.0 in
          record {
            formed = All-weaker IsFormed (λ e. IsItem e.item) (λ e x. x.0) more formed;
            on = inl (record {
              told = both_told events more told still.0;
              ends = ends_more before events more cs last told (all_second more formed) stops ends after.left;
              shows = still.1;
            });
            stopped = ∣ (λ clean db may. held_lives last db stops after.left (still.1.left clean db may)) ∣₁;
          }
      by (inr fails) = record {
        formed = All-weaker IsFormed (λ e. IsItem e.item) (λ e x. x.0) more formed;
        on = inr fails.0;
        stopped = ∣ (λ clean db may. elim (fails.4.left clean db may) [
          | inl one ↦ held_lives last db fails.1 after.left one
          | inr next ↦ held_lives fails.2 db fails.1 fails.3 next
        ]) ∣₁;
      }

module _ {S : Type 0} (g : store.Ghosts S) (old new : Desk S) where
  pub connections_make_lives : ConnectionsMakeLives g old new
  connections_make_lives all each owner before events seen cs was since clean =
      let added = runs_add_events (ShowsDesk g) (is_clean g) (has_failed g) (leaves g) old new owner cs all each clean was.shows in
      (all, each, added.0, added.1, added.2, goes_on_with g new owner before events seen cs was.told was.ends since added.0 (formed_each cs all added.0 added.1 added.2) added.1 added.3)

  pub requests_make_lives : RequestsMakeLives g old new
  requests_make_lives input held holds result one owner before events seen cs was since clean =
      let added = exchanges_add_events (ShowsDesk g) (is_clean g) (has_failed g) (leaves g) old new owner cs input held holds result one clean was.shows in
      (result, one, added.0, added.1, added.2, goes_on_with g new owner before events seen cs was.told was.ends since added.0 (formed_events cs input added.0 added.2.asked) added.1 added.3)

  -- by the work of a subcommand
  pub turns_make_lives : (count : ℕ) (work : Result WorkOutcome Fault) → WorksInTurn (ServesRequest g) count old new work → LivesThrough g old new
  turns_make_lives count work turns = by turns.2
    where
      by : ServesPort (ServesRequest g) count old new turns.0 → LivesThrough g old new
      by (inl same) = connections_make_lives [] same.1
      by (inr served) =
          let all = in_turn (ShowsDesk g) (is_clean g) (has_failed g) (leaves g) count turns.0 old new served in
          connections_make_lives all.0 all.1

  pub request_makes_lives : (input held holds : Option (List ℕ)) (work : Result WorkOutcome Fault) → WorksOnce (AnswersRequest g input held holds) old new work
      → LivesThroughOne g old new input held holds
  request_makes_lives input held holds work once = requests_make_lives input held holds once.0 once.2
