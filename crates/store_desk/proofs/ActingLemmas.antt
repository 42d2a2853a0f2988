-- The step from a view and a decision to the effect of a call inside its transaction.
use Rattle.std.proofs.Common.{◌≡◌, ◌≢◌, inl, inr, ℕ, List, [], None, ◌∷◌, length, All, refl, sym, ap, subst, ◌∙◌, arith, IsTrue, true, false}
use Rattle.std.proofs.lemmas.List.Elements.{All-cons}
use Rattle.sqlite.specs.State.{State}
use Rattle.desk_types.specs.Formed.{IsCall}
use Rattle.desk_types.specs.declared.command.Call.{Call}
use Rattle.store_schema.specs.rows.Contents.{contents}
use Rattle.desk_history.specs.Calls.{History, item}
use Rattle.desk_history.specs.Formed.{IsHistory, IsItem}
use Rattle.desk_history.specs.Replies.{minutes}
use Rattle.desk_history.specs.Runs.{answer, is_accepted, is_legal, next}
use Rattle.desk_history.specs.Tables.{Tables, tables}
use Rattle.desk_history.specs.Writes.{all_written}
use Rattle.desk_history.specs.declared.answer.Answer.{Answer}
use Rattle.desk_history.specs.declared.answer.Answer.TheVariants.{Accepted, Repeated}
use Rattle.desk_history.proofs.RunLemmas.{by_next, next_legal}
use Rattle.desk_rules.specs.Decisions as rules
use Rattle.desk_rules.specs.Shown.{Shows}
use Rattle.desk_rules.specs.declared.view.Changes.{Changes as Decided}
use Rattle.desk_rules.specs.declared.view.View.{View}
use Rattle.store_decision_rows.specs.remembered.Current.{IsCurrent, StaysCurrent}
use Rattle.store_decision_rows.proofs.SizeLemmas.{made_second}
use Rattle.store_decision_rows.specs.declared.remembered.Remembered.{Remembered}
use Rattle.store_sql.specs.States.{Changes, Sees}
use Rattle.store_schema.specs.Tables.{desk_layout}
use Rattle.store_desk.specs.Acts.{Acts}
use Rattle.store_schema.specs.rows.Histories.{rows_of}
use Rattle.store_desk.specs.Pasts.{Past, before}
use Rattle.store_desk.proofs.RememberedLemmas.{forgets}

no_items : {X : Type 0} (xs : List X) → length xs ≡ 0 → xs ≡ []
no_items [] h = refl
no_items (x ∷ xs) h = absurd (omega (arith, h))

-- a call that isn't accepted leaves no trace
pub next_same : (cs : History) (c : Call) → is_accepted (answer cs c) ≡ false → next cs c ≡ cs
next_same cs c out = rw out refl

-- an accepted one joins the history
pub next_joined : (cs : History) (c : Call) → is_accepted (answer cs c) ≡ true → next cs c ≡ item c ∷ cs
next_joined cs c in_ = rw in_ refl

-- the history after a call is a desk's
pub next_history : (cs : History) (c : Call) → IsHistory cs → IsCall c → IsHistory (next cs c)
next_history cs c history formed = record {
  legal = next_legal cs (item c) refl history.legal;
  formed = by_next (All IsItem) cs (item c) history.formed (λ _. All-cons IsItem (item c) cs formed history.formed);
}

-- the effect of a call, accepted or not, by a view that shows the tables
module _ (r : Remembered) (c : Call) where
  -- the reads that made a view: it shows the tables, and what is remembered is current
  pub record Viewed (v : View) (counted : Remembered) (first read : State) : Type 0 where
    pub is_open : IsTrue read.is_open
    pub changed : Changes desk_layout contents first read (λ t. t)
    pub shown : (owner : List ℕ) (cs : History) → IsHistory cs → Sees desk_layout first (contents (tables owner cs))
        → IsCurrent r (tables owner cs) → Shows v (tables owner cs) c × IsCurrent counted (tables owner cs)

  -- the same, with nobody remembered
  pub forgetting : (v : View) (counted : Remembered) (first read : State) → Viewed v counted first read → Viewed v (record counted { person = None }) first read
  forgetting v counted first read viewed = record {
    is_open = viewed.is_open;
    changed = viewed.changed;
    shown = λ owner cs history sees current. (let it = viewed.shown owner cs history sees current in (it.0, forgets counted (tables owner cs) it.1));
  }

  -- a call that isn't accepted
  pub acts_not : (v : View) (counted : Remembered) (first read : State) (given : Answer) → Viewed v counted first read → is_accepted given ≡ false
      → ((owner : List ℕ) (cs : History) → IsTrue (is_legal cs) → Shows v (tables owner cs) c → answer cs c ≡ given)
      → Acts r c (record { answer = given; remembered = counted }) first read
  acts_not v counted first read given viewed out told =
      let exact : (p : Past r) → Sees desk_layout first (before r p) → answer p.calls c ≡ given =
      λ p sees. told p.owner p.calls p.history.legal (viewed.shown p.owner p.calls p.history sees p.right).0 in
      let same : (p : Past r) → Sees desk_layout first (before r p) → next p.calls c ≡ p.calls =
      λ p sees. next_same p.calls c (ap is_accepted (exact p sees) ∙ out) in
      record {
        turned = record {
          is_open = viewed.changed.is_open;
          inside = viewed.changed.inside;
          kept = viewed.changed.kept;
          value = λ p sees. subst (λ (cs : History). Sees desk_layout read (rows_of p.owner cs)) (sym (same p sees)) (viewed.changed.value (tables p.owner p.calls) sees);
        };
        answered = λ p sees. record {
          exact = exact p sees;
          right = subst (λ (cs : History). IsCurrent counted (tables p.owner cs)) (sym (same p sees)) (viewed.shown p.owner p.calls p.history sees p.right).1;
        };
      }

  -- the answer by a decision that writes nothing
  pub repeats : (d : Decided) (owner : List ℕ) (cs : History) → length d.writes.items ≡ 0 → rules.Decides d owner cs c → answer cs c ≡ Repeated d.reply
  repeats d owner cs none told = elim told.told [
    | inl accepted ↦ absurd (let joined = next_joined cs c (ap is_accepted accepted) in
        let same : tables owner cs ≡ tables owner (item c ∷ cs) = sym (ap (λ ws. all_written ws (tables owner cs)) (no_items d.writes.items none)) ∙ told.made ∙ ap (tables owner) joined in
        let long : length (minutes cs) ≡ length (minutes (item c ∷ cs)) = ap (λ (t : Tables). length t.calls) same in
        omega (arith, long))
    | inr repeated ↦ repeated.0
  ]

  -- an accepted call, once its rows are written
  pub acts_accepted : (v : View) (counted later : Remembered) (first read last : State) (d : Decided) → Viewed v counted first read
      → length d.writes.items ≢ 0 → ((owner : List ℕ) (cs : History) → IsTrue (is_legal cs) → Shows v (tables owner cs) c → rules.Decides d owner cs c)
      → Changes desk_layout contents read last (all_written d.writes.items) → StaysCurrent counted c.command d.writes.items later
      → Acts r c (record { answer = Accepted d.reply; remembered = later }) first last
  acts_accepted v counted later first read last d viewed some told wrote follows =
      let said : (p : Past r) → Sees desk_layout first (before r p) → rules.Decides d p.owner p.calls c =
      λ p sees. told p.owner p.calls p.history.legal (viewed.shown p.owner p.calls p.history sees p.right).0 in
      let exact : (p : Past r) → Sees desk_layout first (before r p) → answer p.calls c ≡ Accepted d.reply =
      λ p sees. elim (said p sees).told [ inl accepted ↦ accepted | inr repeated ↦ absurd (some (ap length repeated.1)) ] in
      record {
        turned = record {
          is_open = λ o. wrote.is_open (viewed.changed.is_open o);
          inside = wrote.inside;
          kept = record {
            was_open = λ o. viewed.changed.kept.was_open (wrote.kept.was_open o);
            committed = λ o. wrote.kept.committed o ∙ viewed.changed.kept.committed (wrote.kept.was_open o);
          };
          value = λ p sees. subst (λ (t : Tables). Sees desk_layout last (contents t)) (said p sees).made (wrote.value (tables p.owner p.calls) (viewed.changed.value (tables p.owner p.calls) sees));
        };
        answered = λ p sees. (let yes_ : is_accepted (answer p.calls c) ≡ true = ap is_accepted (exact p sees) in
            let joined = next_joined p.calls c yes_ in
            let legal : IsTrue (is_legal (item c ∷ p.calls)) = rw yes_ p.history.legal in
            let made : all_written d.writes.items (tables p.owner p.calls) ≡ tables p.owner (item c ∷ p.calls) = (said p sees).made ∙ ap (tables p.owner) joined in
            record {
              exact = exact p sees;
              right = subst (λ (cs : History). IsCurrent later (tables p.owner cs)) (sym joined)
                  (follows p.owner p.calls (item c) legal refl (made_second p.owner p.calls c (all_written d.writes.items (tables p.owner p.calls)) made)
                  (viewed.shown p.owner p.calls p.history sees p.right).1).0;
            });
      }
