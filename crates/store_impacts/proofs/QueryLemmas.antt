-- A SELECT commits nothing, whatever tables the store has.
use Rattle.std.proofs.Common.{◌≡◌, inl, inr, ℕ, ◌+◌, List, Bool, true, false, Option, Some, None, Result, Ok, Err, refl, sym, ap, subst, ◌∙◌}
use Rattle.std.specs.Prelude.{IsSome, if◌then◌else◌}
use Rattle.sqlite.specs.Listing.{if_select, is_select, listing_schema, reads_listing, understood}
use Rattle.sqlite.specs.Order.{Row}
use Rattle.sqlite.specs.State.{State, CommitsShowing, Survives}
use Rattle.sqlite.specs.Tree.{Trees}
use Rattle.sqlite_ast.specs.declared.Statement.{Statement}
use Rattle.sqlite_ast.specs.declared.Statement.TheVariants as written
use Rattle.sqlite_resolve.specs.Compile.{command, compiled, first, meaning, planned, returning, small, timed, with_command}
use Rattle.sqlite_resolve.specs.Lowering.{Checked, and_then}
use Rattle.sqlite_resolve.specs.declared.compiled.Compiled.{Compiled}
use Rattle.sqlite_resolve.specs.declared.error.CompileError.TheVariants.{NoSuchTable}
use Rattle.sqlite_schema.specs.declared.command.Command.{Command}
use Rattle.sqlite_schema.specs.declared.command.Returning.{Returning}
use Rattle.sqlite_schema.specs.declared.schema.Schema.{Schema}
use Rattle.sqlite_syntax.specs.declared.statement.Parsed.{Parsed}
use Rattle.sqlite_tied.specs.Compute.{everything}
use Rattle.store_schema.specs.declared.selecting.TheConstants.{SELECT_CALLS}

-- the statement is a SELECT
abbrev pub is_query : Statement → Bool
is_query (written.Select s) = true
is_query _ = false

-- the text reads as one
abbrev pub reads : Checked Parsed → Bool
reads (Ok p) = is_query p.statement
reads (Err e) = false

-- the query for all calls is one
pub reads_calls : reads (first SELECT_CALLS.now) ≡ true
unfolding first everything
reads_calls = refl

then_ok : {A B : Type 0} (r : Checked A) (f : A → Checked B) (b : B) → and_then r f ≡ Ok b → (a : A) × (r ≡ Ok a) × (f a ≡ Ok b)
then_ok (Ok a) f b h = (a, refl, h)
then_ok (Err e) f b h = absurd cc

shows_none : (schema : Schema) (base : ℕ) (s : Statement) → is_query s ≡ true → returning schema base s ≡ Ok None
unfolding returning
shows_none schema base (written.Select s) is = refl
shows_none schema base _ is = absurd (let clash = is in cc)

-- ---- it returns no rows that it wrote

module _ (schema : Schema) where
  meant : (p : Parsed) (base : ℕ) → is_query p.statement ≡ true → (it : Command × Option Returning) → meaning schema p base ≡ Ok it → it.1 ≡ None
  unfolding meaning
  meant p base is it h =
      let shown = then_ok (returning schema base p.statement) (λ shown. and_then (command schema p.formats base p.statement) (λ c. Ok (c, shown))) it h in
      let none : shown.0 ≡ None = (let e : ◌≡◌ {A = Checked (Option Returning)} (Ok shown.0) (Ok None) = sym shown.1 ∙ shows_none schema base p.statement is in cc) in
      let made = then_ok (command schema p.formats base p.statement) (λ c. Ok (c, shown.0)) it shown.2 in
      same_shown made.0 shown.0 it made.2 ∙ none
    where
      same_shown : (c : Command) (r : Option Returning) (it : Command × Option Returning) → ◌≡◌ {A = Checked (Command × Option Returning)} (Ok (c, r)) (Ok it) → it.1 ≡ r
      same_shown c r it e = let same : ◌≡◌ {A = Command × Option Returning} (c, r) it = cc in sym (ap (λ (x : Command × Option Returning). x.1) same)

  shown_of : (formats : List (List ℕ)) (found : Command × Option Returning) (plan : List (List ℕ) × (Command × Option Returning))
      → ◌≡◌ {A = Checked (List (List ℕ) × (Command × Option Returning))} (Ok (formats, found)) (Ok plan) → found.1 ≡ None → plan.1.1 ≡ None
  shown_of formats found plan e none =
      let same : ◌≡◌ {A = List (List ℕ) × (Command × Option Returning)} (formats, found) plan = cc in
      sym (ap (λ (x : List (List ℕ) × (Command × Option Returning)). x.1.1) same) ∙ none

  plans_none : (p : Parsed) → is_query p.statement ≡ true → (plan : List (List ℕ) × (Command × Option Returning)) → planned schema p ≡ Ok plan → plan.1.1 ≡ None
  unfolding planned
  plans_none p is plan h =
      let formats = timed schema p.formats p.statement in
      let base : ℕ = small p.names + small formats in
      let found = then_ok (meaning schema p base) (λ found. Ok (formats, found)) plan h in
      shown_of formats found.0 plan found.2 (meant p base is found.0 found.1)

  command_of : (p : Parsed) (plan : List (List ℕ) × (Command × Option Returning)) (c : Compiled) → ◌≡◌ {A = Checked Compiled} (Ok (with_command p plan)) (Ok c) → plan.1.1 ≡ None → c.returning ≡ None
  command_of p plan c e none = let same : with_command p plan ≡ c = cc in sym (ap (λ (x : Compiled). x.returning) same) ∙ none

  plain : (text : List ℕ) → reads (first text) ≡ true → (c : Compiled) → compiled schema text ≡ Ok c → c.returning ≡ None
  unfolding compiled
  plain text is c h =
      let read = then_ok (first text) (λ p. and_then (planned schema p) (λ plan. Ok (with_command p plan))) c h in
      let plan = then_ok (planned schema read.0) (λ plan. Ok (with_command read.0 plan)) c read.2 in
      command_of read.0 plan.0 c plan.2 (plans_none read.0 (sym (ap reads read.1) ∙ is) plan.0 plan.1)

never_some : {X : Type 0} (o : Option X) → o ≡ None → IsSome o → ⊥
never_some o none some = absurd (let clash = subst IsSome none some in cc)

-- what is understood of a text is compiled over the store's tables or over the list of them
source : (schema : Schema) (text : List ℕ) (c : Compiled) (b : Bool) → (if b then if_select (compiled listing_schema text) else compiled schema text) ≡ Ok c
    → (s : Schema) × (compiled s text ≡ Ok c)
source schema text c true h = (listing_schema, chosen (compiled listing_schema text) h)
  where
    if_so : (b : Bool) (d : Compiled) → ◌≡◌ {A = Checked Compiled} (if b then Ok d else Err NoSuchTable) (Ok c) → ◌≡◌ {A = Checked Compiled} (Ok d) (Ok c)
    if_so true d h = h
    if_so false d h = absurd (let clash = h in cc)

    chosen : (r : Checked Compiled) → if_select r ≡ Ok c → r ≡ Ok c
    chosen (Ok d) h = if_so (is_select d.command) d h
    chosen (Err e) h = absurd cc
source schema text c false h = (schema, h)

-- the text commits nothing that it shows
pub never_shows : (text : List ℕ) → reads (first text) ≡ true → (s : State) (params : Row) (db : Trees) → CommitsShowing text params s db → ⊥
unfolding CommitsShowing understood
never_shows text is s params db may =
    let it = source s.now.schema text may.0 (reads_listing s.now.schema text) may.1.is in
    never_some may.0.returning (plain it.0 text is may.0 it.1) may.2

-- so after it a stop leaves only what it could have left before
pub never_spares : (old new : State) (text : List ℕ) (params : Row) → reads (first text) ≡ true → Survives old new (CommitsShowing text params old) → Survives old new (λ _. ⊥)
never_spares old new text params is it = record {
  clean = it.clean;
  shield = it.shield;
  counts = it.counts;
  limit = it.limit;
  closes = it.closes;
  crash = λ clean db may. elim (it.crash clean db may) [
    | inl was ↦ inl was
    | inr shown ↦ absurd (never_shows text is old params db shown)
  ];
}
