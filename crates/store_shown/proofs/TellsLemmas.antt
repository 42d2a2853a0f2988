-- The step from the facts that reads give of tables to those of a history.
use Rattle.std.proofs.Common.{◌≡◌, ℕ, List, Option, None, Some, filter, subst}
use Rattle.sqlite.specs.State.{State}
use Rattle.desk_types.specs.declared.command.Person.{Person}
use Rattle.desk_history.specs.Calls.{History}
use Rattle.desk_history.specs.Formed.{IsHistory}
use Rattle.desk_history.specs.People.{has_name, people}
use Rattle.desk_history.specs.Tables.{Tables, tables}
use Rattle.store_schema.specs.Tables.{desk_layout}
use Rattle.store_schema.specs.rows.Contents.{contents}
use Rattle.store_sql.proofs.StopLemmas.{changes_then}
use Rattle.store_reads.specs.People.{IsOneOf}
use Rattle.store_reads.specs.Reads.{ReadsTables, listed}
use Rattle.store_reads.proofs.TellsLemmas.{tells_then}
use Rattle.store_shown.specs.Telling.{TellsOf}

-- a fact of the tables, as one of the history whose tables they are
pub tells_of : (old new : State) (P : Tables → Type 0) (Q : History → Type 0) → ((owner : List ℕ) (cs : History) → IsHistory cs → P (tables owner cs) → Q cs) → ReadsTables P old new → TellsOf Q old new
tells_of old new P Q f a = record { kept = a.kept; tells = λ owner cs h sees. f owner cs h (a.tells (tables owner cs) sees) }

-- a fact of the history whose tables they are, as another of it
pub tells_on : (old new : State) (P Q : History → Type 0) → ((cs : History) → IsHistory cs → P cs → Q cs) → TellsOf P old new → TellsOf Q old new
tells_on old new P Q f a = record { kept = a.kept; tells = λ owner cs h sees. f cs h (a.tells owner cs h sees) }

-- a fact of the history, and then one of its tables
pub tells_after : (first mid new : State) (P : History → Type 0) (Q : Tables → Type 0) (R : History → Type 0)
    → ((owner : List ℕ) (cs : History) → IsHistory cs → P cs → Q (tables owner cs) → R cs) → TellsOf P first mid → ReadsTables Q mid new → TellsOf R first new
tells_after first mid new P Q R f a b = record {
  kept = changes_then desk_layout contents first mid new (λ t. t) (λ t. t) a.kept b.kept;
  tells = λ owner cs h sees. f owner cs h (a.tells owner cs h sees) (b.tells (tables owner cs) (a.kept.value (tables owner cs) sees));
}

-- ---- who has a name, and what is told then

-- who has the name in the history
abbrev pub IsOf : History → List ℕ → Option Person → Type 0
IsOf cs name = λ found. filter (has_name name) (people cs) ≡ listed found

-- who has it in the tables, if the person that is kept is one of them
abbrev pub Knows : Option Person → List ℕ → Option Person → Tables → Type 0
Knows kept name found = λ t. IsOneOf kept t.people → filter (has_name name) t.people ≡ listed found

module _ (kept : Option Person) (name : List ℕ) (found : Option Person) (Q : History → Type 0) where
  abbrev Told : History → Type 0
  Told = λ cs. IsOneOf kept (people cs) → Q cs

  -- nobody has it
  pub tells_nobody : (old new : State) → found ≡ None → ((owner : List ℕ) (cs : History) → IsOf cs name None → Q cs)
      → ReadsTables (Knows kept name found) old new → TellsOf Told old new
  tells_nobody old new none told =
      tells_of old new (Knows kept name found) Told (λ owner cs h e known. told owner cs (subst (IsOf cs name) none (e known)))

  -- somebody has it, and more is read then
  pub tells_person : (first mid new : State) (P : Tables → Type 0) (p : Person) → found ≡ Some p
      → ((owner : List ℕ) (cs : History) → IsHistory cs → IsOf cs name (Some p) → P (tables owner cs) → Q cs)
      → ReadsTables (Knows kept name found) first mid → ReadsTables P mid new → TellsOf Told first new
  tells_person first mid new P p some told a b =
      tells_of first new (λ t. Knows kept name found t × P t) Told
      (λ owner cs h both known. told owner cs h (subst (IsOf cs name) some (both.0 known)) both.1)
      (tells_then first mid new (Knows kept name found) P a b)
