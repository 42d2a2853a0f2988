-- A query outside a transaction: what it leaves of the connection, and what its first rows begin.
use Rattle.std.proofs.Common.{◌≡◌, ◌⊎◌, inl, inr, ℕ, List, [], ◌∷◌, ◌++◌, refl, sym, ap, subst, subst₂, ◌∙◌, IsTrue, Result, Ok, Err, OnErr, OnOk, false}
use Rattle.sqlite.proofs.Callers.{EndsIn, begins_shown, command_of, given_begin, unchanged_then}
use Rattle.sqlite.specs.Clock.{timed}
use Rattle.sqlite_schema.specs.declared.command.Command.{Command}
use Rattle.sqlite.specs.declared.error.Error.{Error}
use Rattle.sqlite.specs.Does.{Does}
use Rattle.sqlite.specs.Effect.{Database, SparesFrozen}
use Rattle.sqlite.specs.Given.{HasGiven, IsPlain}
use Rattle.sqlite.specs.Held.{Held, state}
use Rattle.sqlite.specs.Listing.{understood}
use Rattle.sqlite.specs.Order.{Row}
use Rattle.sqlite.specs.State.{State, CommitsShowing, Fails, HasCleanDisk, IsNotRun, IsStatement, IsUnchanged, Shown, Survives, mode_of, text_of}
use Rattle.sqlite.specs.Store as store
use Rattle.sqlite.specs.Table.{Table}
use Rattle.sqlite.specs.Term.{Term}
use Rattle.sqlite.specs.Tree.{Trees}
use Rattle.sqlite_resolve.specs.declared.compiled.Compiled.{Compiled}
use Rattle.sqlite_value.specs.declared.keys.Key.{Key}
use Rattle.store_sql.specs.Contents.{Contents, Holds}
use Rattle.store_sql.specs.Effects.{HandsOver, Streams}
use Rattle.store_sql.specs.Layouts.{Fits, Layout}
use Rattle.store_sql.specs.Meanings.{IsPlainIn, SelectsRows}
use Rattle.store_sql.specs.States.{Shows}
use Rattle.store_sql.specs.Streaming.{BeginsAnswer, HandsFirst, StaysOrUndoes}
use Rattle.store_sql.proofs.ReadLemmas.{finds_rows, shown_after}

-- a fact of every error
pub OnErr-fact : {X E : Type 0} (r : Result X E) (P : Type 0) → P → OnErr r P
OnErr-fact (Ok x) P h = tt
OnErr-fact (Err e) P h = h

pub OnErr-so : {X E : Type 0} (r : Result X E) (P Q : Type 0) → (P → Q) → OnErr r P → OnErr r Q
OnErr-so (Ok x) P Q so h = tt
OnErr-so (Err e) P Q so h = so h

pub OnOk-so : {X E : Type 0} (r : Result X E) (P Q : Type 0) → (P → Q) → OnOk r P → OnOk r Q
OnOk-so (Ok x) P Q so h = so h
OnOk-so (Err e) P Q so h = tt

-- ---- the state after steps

pub unchanged_self : (s : State) → IsTrue s.is_open → IsUnchanged s s
unchanged_self s live =
    (record { was_open = live; is_open = live; now_is = refl; committed_is = refl; mode = refl }, record { changes = refl; last_rowid = refl }, refl)

pub not_run_leaves : (old new : State) (text : List ℕ) (params : Row) (e : Error) → IsNotRun old new text params e → StaysOrUndoes old new
unfolding IsNotRun
not_run_leaves old new text params e (inl h) = inl h.1
not_run_leaves old new text params e (inr h) = inr h.3

pub failed_leaves : (old new : State) (e : Error) → Fails old new ⊥ e ⊎ IsUnchanged old new → StaysOrUndoes old new
failed_leaves old new e (inl h) = inr h.3
failed_leaves old new e (inr h) = inl h

-- a step after one that changed nothing
pub undone_then : (a b c : State) → IsUnchanged a b → StaysOrUndoes b c → StaysOrUndoes a c
undone_then a b c same (inl h) = inl (unchanged_then a b c same h)
undone_then a b c same (inr h) = inr (record {
  was_open = λ _. same.0.was_open;
  undone = λ live. ((h.undone live).0 ∙ same.0.committed_is, (h.undone live).1 ∙ same.0.committed_is);
  autocommit = h.autocommit;
  unmarked = h.unmarked;
  counts = record { changes = h.counts.changes ∙ same.1.changes; last_rowid = h.counts.last_rowid ∙ same.1.last_rowid };
})

-- outside a transaction nothing is lost by either
pub still_shows : (layout : Layout) (c : Contents) (old new : State) → (HasCleanDisk new → HasCleanDisk old) → (HasCleanDisk new → StaysOrUndoes old new) → new.in_transaction ≡ false
    → Shows layout old c → Shows layout new c
still_shows layout c old new clean step outside shows = record { outside = outside; holds = λ late live. holds late live (step late) }
  where
    holds : HasCleanDisk new → IsTrue new.is_open → StaysOrUndoes old new → Holds layout new.now c × (new.now ≡ new.committed)
    holds late live (inl same) =
        let was = shows.holds (clean late) same.0.was_open in
        (subst (λ (d : Database). Holds layout d c) (sym same.0.now_is) was.0, same.0.now_is ∙ was.1 ∙ sym same.0.committed_is)
    holds late live (inr back) =
        let was = shows.holds (clean late) (back.was_open live) in
        let gone = back.undone live in
        (subst (λ (d : Database). Holds layout d c) (sym (gone.0 ∙ sym was.1)) was.0, gone.0 ∙ sym gone.1)

-- a text that is plain in the layout is so for the connection, once that was seen to be open
pub plain_after : (layout : Layout) (text : List ℕ) (c : Contents) (old mid : State) → HasCleanDisk old → IsUnchanged old mid → Shows layout old c → IsPlainIn layout text
    → IsPlain (understood mid.now.schema text)
plain_after layout text c old mid clean same shows plain =
    let was = shows.holds clean same.0.was_open in
    subst (λ (d : Database). IsPlain (understood d.schema text)) (sym same.0.now_is) (plain old.now.schema was.0.fits)

pub spares_any : (old new : State) (P : Trees → Type 0) → Survives old new (λ _. ⊥) → Survives old new P
spares_any old new P s = record {
  clean = s.clean;
  shield = s.shield;
  counts = s.counts;
  limit = s.limit;
  closes = s.closes;
  crash = λ clean db may. elim (s.crash clean db may) [
    | inl was ↦ inl was
    | inr none ↦ absurd none
  ];
}

-- the trees that a text commits after a step that changed nothing
pub showing_before : (text : List ℕ) (params : Row) (old mid : State) → IsUnchanged old mid → mid.step_limit ≡ old.step_limit → (db : Trees) → CommitsShowing text params mid db → CommitsShowing text params old db
unfolding CommitsShowing
showing_before text params old mid same limit db h =
    let now : mid.now ≡ old.now = same.0.now_is in
    let may = h.3 in
    let full = timed params h.0.formats h.1.now in (
      h.0,
      record { is = subst (λ (d : Database). understood d.schema text ≡ Ok h.0) now h.1.is; whole = h.1.whole; given = h.1.given; now = h.1.now },
      h.2,
      (
        sym same.0.mode ∙ may.0,
        may.1,
        may.2,
        subst₂ (λ l (d : Database). Does l (mode_of old) full d (text_of text h.0) h.0.returning h.0.command (Ok (may.1, may.2))) limit now may.3,
        may.4,
        may.5,
        subst (λ (d : Database). SparesFrozen d may.2) now may.6,
      ),
    )

-- ---- answers that rows begin

-- a query without WITH ends
ends_at_once : (text : List ℕ) (params : Row) (s : State) (layout : Layout) (at : ℕ) (table : Table) (terms : List Term) (order : List (Term × Key)) (rest : List Term) (names : List (List ℕ))
    → SelectsRows layout at table text terms order rest names → Fits layout s.now.schema → (c : Compiled) (db : Database) (it : IsStatement s text params c) → EndsIn c.command db (timed params c.formats it.now)
ends_at_once text params s layout at table terms order rest names means fits c db it =
    let known : Ok c ≡ understood s.now.schema text = sym it.is in
    subst (λ (k : Command). EndsIn k db (timed params c.formats it.now)) (sym (ap command_of known ∙ (means s.now.schema fits).means)) tt

-- the rows that were given up to now begin the answer in the old state
pub given_begins : {S : Type 0} (g : store.Ghosts S) (text : List ℕ) (params : Row) (old : State) (h : Held S) (given : List Row) → IsTrue old.is_open
    → (IsPlain (understood old.now.schema text) → HasGiven g text params h given × IsUnchanged old (state g h)) → BeginsAnswer text params old given
given_begins g text params old h given live was = (
  live,
  λ layout at table terms order rest names means fits.
      let now = state g h in
      let it = was (means old.now.schema fits).plain in
      let same : now.now ≡ old.now = it.1.0.now_is in
      let here : Fits layout now.now.schema = subst (λ (d : Database). Fits layout d.schema) (sym same) fits in
      let plain : IsPlain (understood now.now.schema text) = (means now.now.schema here).plain in
      let all = begins_shown text params now now given (given_begin g text params h given it.0) (unchanged_self now it.1.0.is_open)
      (λ c db stated source. ends_at_once text params now layout at table terms order rest names means here c db stated) in
      let shown : Shown text params old now (given ++ all.0) = shown_after text params old now now (given ++ all.0) plain it.1 all.1 in
      (all.0, λ c rows held found. finds_rows text params old now (given ++ all.0) layout at table terms order rest names means shown c rows held found),
)

-- ---- the same after a step that changed nothing

module _ (text : List ℕ) (params : Row) (old mid : State) (same : IsUnchanged old mid) where
  here_too : (layout : Layout) → Fits layout old.now.schema → Fits layout mid.now.schema
  here_too layout fits = subst (λ (d : Database). Fits layout d.schema) (sym same.0.now_is) fits

  held_too : (layout : Layout) (c : Contents) → Holds layout old.now c → Holds layout mid.now c
  held_too layout c held = subst (λ (d : Database). Holds layout d c) (sym same.0.now_is) held

  streams_after : (new : State) (answer : List Row) → Streams text params mid new answer → Streams text params old new answer
  streams_after new answer h layout at table terms order rest names means fits =
      let it = h layout at table terms order rest names means (here_too layout fits) in
      (unchanged_then old mid new same it.0, λ c rows held found. it.1 c rows (held_too layout c held) found)

  begins_after : (given : List Row) → BeginsAnswer text params mid given → BeginsAnswer text params old given
  begins_after given h = (
    same.0.was_open,
    λ layout at table terms order rest names means fits.
        let it = h.1 layout at table terms order rest names means (here_too layout fits) in
        (it.0, λ c rows held found. it.1 c rows (held_too layout c held) found),
  )

  pub hands_over_after : {T : Type 0} (takes : T → Row → T → Type 0) (new : State) (before after : T) → HandsOver takes text params mid new before after → HandsOver takes text params old new before after
  hands_over_after takes new before after h = record { answer = h.answer; handed = h.handed; exact = streams_after new h.answer h.exact }

  pub hands_first_after : {T : Type 0} (takes gives_up : T → Row → T → Type 0) (before after : T) → HandsFirst takes gives_up text params mid before after
      → HandsFirst takes gives_up text params old before after
  hands_first_after takes gives_up before after h = record {
    taken = h.taken;
    last = h.last;
    handed = h.handed;
    begins = elim h.begins [ inl none ↦ inl none | inr some ↦ inr (begins_after h.taken some) ];
    ends = elim h.ends [
      | inl none ↦ inl none
      | inr it ↦ inr (record { row = it.row; refused = it.refused; begins = begins_after (h.taken ++ it.row ∷ []) it.begins })
    ];
  }
