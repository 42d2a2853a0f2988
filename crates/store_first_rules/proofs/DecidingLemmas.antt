-- From a decision by the first rules to a call that they accept, or don't.
use Rattle.std.proofs.Common.{◌≡◌, ◌≢◌, inl, inr, ℕ, List, [], ◌∷◌, length, Ok, Err, IsTrue, refl, sym, ◌∙◌, ap, arith}
use Rattle.base.specs.declared.refusal.Refusal.{Refusal}
use Rattle.base.specs.declared.refusal.Refusal.TheVariants as refusals
use Rattle.desk_types.specs.declared.command.Call.{Call}
use Rattle.desk_types.specs.declared.command.Command.TheVariants as command
use Rattle.desk_types.specs.declared.reply.Reply.{Reply}
use Rattle.desk_history.specs.Calls.{First, History, Item, under}
use Rattle.desk_history.specs.Replies.{minutes}
use Rattle.desk_history.specs.Runs.{is_accepted, next_item, ruling}
use Rattle.desk_history.specs.Tables.{Tables, tables}
use Rattle.desk_history.specs.Writes.{all_written}
use Rattle.desk_history.specs.declared.answer.Answer.TheVariants.{Accepted}
use Rattle.desk_rules.specs.First.{DecidesFirstCall, ShowsToFirst, is_forced}
use Rattle.desk_rules.specs.Shown.{Shows, rows_in, size_in}
use Rattle.desk_rules.specs.declared.view.LimitedTable.{LimitedTable}
use Rattle.desk_rules.specs.declared.view.LimitedTable.TheVariants as counted
use Rattle.desk_rules.specs.declared.view.Sizes.{Sizes}
use Rattle.desk_rules.specs.declared.view.Changes.{Changes}
use Rattle.desk_rules.specs.declared.view.View.{View}
use Rattle.store_first_rules.specs.Acts.{Accepts, AcceptsNot}
use Rattle.store_decision_rows.specs.sizes.Sizes.{Tell}

no_items : {X : Type 0} (xs : List X) → length xs ≡ 0 → xs ≡ []
no_items [] h = refl
no_items (x ∷ xs) h = absurd (omega (arith, h))

-- an accepted call joins the history
pub joined : (cs : History) (i : Item) (reply : Reply) → ruling cs i ≡ Accepted reply → next_item cs i ≡ i ∷ cs
joined cs i reply accepted = rw accepted refl

-- the tables of a history, with the count of calls of another
abbrev counting : List ℕ → History → History → Tables
counting owner cs later = record (tables owner later) { migrated = (tables owner cs).migrated }

module _ (v : View) (c : Call) where
  -- a call with writes is accepted
  pub taken : (changes : Changes) → length changes.writes.items ≢ 0 → DecidesFirstCall v c (Ok changes) → Accepts v c changes
  taken changes some told owner cs legal first shows =
      let decides = told owner cs legal first shows in
      let accepted : ruling cs (under First c) ≡ Accepted changes.reply = elim decides.told [ inl is ↦ is | inr repeated ↦ absurd (some (ap length repeated.1)) ] in
      record { accepted = accepted; made = decides.made ∙ ap (counting owner cs) (joined cs (under First c) changes.reply accepted) }

  -- one without is a repeat: an accepted call writes its own row
  pub repeated : (changes : Changes) → length changes.writes.items ≡ 0 → DecidesFirstCall v c (Ok changes) → AcceptsNot v c
  repeated changes none told owner cs legal first shows =
      let decides = told owner cs legal first shows in
      elim decides.told [
        | inl accepted ↦ absurd (let same : tables owner cs ≡ counting owner cs (under First c ∷ cs) =
            sym (ap (λ ws. all_written ws (tables owner cs)) (no_items changes.writes.items none)) ∙ decides.made ∙ ap (counting owner cs) (joined cs (under First c) changes.reply accepted) in
            let long : length (minutes cs) ≡ length (minutes (under First c ∷ cs)) = ap (λ (t : Tables). length t.calls) same in
            omega (arith, long))
        | inr repeat ↦ ap is_accepted repeat.0
      ]

  -- a refused call isn't accepted
  pub refused : (refusal : Refusal) → refusal ≢ refusals.NoMemory → DecidesFirstCall v c (Err refusal) → AcceptsNot v c
  refused refusal other told owner cs legal first shows =
      elim (told owner cs legal first shows) [ inl is ↦ ap is_accepted is | inr memory ↦ absurd (other memory) ]

-- a view that shows the tables for the call, with the sizes of the tables for it and for any Confirm
pub shows_first : (v : View) (s : Sizes) (t : Tables) (c : Call) → Shows v t c → Tell s t c.command → Tell s t (command.Confirm 0) → ShowsToFirst (record v { sizes = s }) t c
shows_first v s t c was told forced = record {
  call = record {
    stamp = was.stamp;
    count = told.calls;
    sizes = told.sizes;
    caller = was.caller;
    names = was.names;
    tokens = was.tokens;
    call = was.call;
    request = was.request;
    votes = was.votes;
    proposal = was.proposal;
    lists = was.lists;
  };
  sizes = λ table _ puts. by table puts;
}
  where
    by : (table : LimitedTable) → IsTrue (is_forced table) → size_in s table ≡ rows_in t table
    by counted.RevokedDigests puts = forced.sizes counted.RevokedDigests refl
    by counted.RevokedCertificates puts = forced.sizes counted.RevokedCertificates refl
    by counted.Components puts = forced.sizes counted.Components refl
    by counted.People puts = absurd (cc)
    by counted.Requests puts = absurd (cc)
    by counted.Listed puts = absurd (cc)
    by counted.Proposals puts = absurd (cc)
