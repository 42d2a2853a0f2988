-- The answers that only officers get.
use Rattle.std.proofs.Common.{◌≡◌, inl, inr, ℕ, Bool, true, false, List, [], ◌∷◌, filter, Option, Some, None, Result, Ok, Err, refl, sym, ap, subst, ◌∙◌, IsTrue}
use Rattle.std.specs.Prelude.{⊤, if◌then◌else◌, ok_or}
use Rattle.std.specs.Result.{result_map_both}
use Rattle.sqlite.specs.State.{State}
use Rattle.base.specs.declared.refusal.Refusal.{Refusal}
use Rattle.base.specs.declared.refusal.Refusal.TheVariants as refusals
use Rattle.desk_types.specs.declared.caller.Caller.TheVariants as callers
use Rattle.desk_types.specs.declared.command.Person.{Person}
use Rattle.desk_history.specs.Calls.{History}
use Rattle.desk_history.specs.Formed.{IsHistory}
use Rattle.desk_history.specs.People.{has_name, people}
use Rattle.desk_history.specs.Roles.{is_officer}
use Rattle.desk_history.specs.Shown.{IsGiven, officer, reader}
use Rattle.desk_history.specs.Tables.{Tables, tables}
use Rattle.store_reads.specs.People.{IsOneOf}
use Rattle.store_reads.specs.Reads.{ReadsTables, listed}
use Rattle.store_schema.specs.Tables.{desk_layout}
use Rattle.store_schema.specs.rows.Contents.{contents}
use Rattle.store_sql.proofs.StopLemmas.{turns_none}
use Rattle.store_shown.specs.Steps.{KeepsOfficer}
use Rattle.store_shown.specs.Telling.{IsOfficer, IsOfficerRefusal, TellsOf}
use Rattle.store_shown.proofs.ItemLemmas.{found_listed}
use Rattle.store_shown.proofs.TellsLemmas.{tells_after, tells_of, tells_on}

module _ {A : Type 0} where
  err_of : (due : Result A Refusal) (r : Refusal) → IsGiven {A = A} {B = Unit {0}} due (Err r) (λ _ _. ⊤) → due ≡ Err r
  err_of (Ok a) r h = absurd h
  err_of (Err e) r h = ap Err (sym h)

  ok_of : (due : Result A Refusal) → IsGiven {A = A} {B = Unit {0}} due (Ok tt) (λ _ _. ⊤) → (a : A) × (due ≡ Ok a)
  ok_of (Ok a) h = (a, refl)
  ok_of (Err e) h = absurd h

-- the answer to a person who is an officer, or isn't
abbrev pub by_role : Bool → Result (Unit {0}) Refusal
by_role b = if b then Ok tt else Err refusals.NotYourRole

module _ (cs : History) (name : List ℕ) where
  -- the result of the read of the person
  abbrev IsNamed : Option Person → Type 0
  IsNamed found = filter (has_name name) (people cs) ≡ listed found

  due : (found : Option Person) → IsNamed found → officer (reader cs (callers.Person name)) ≡ officer (ok_or found refusals.UnknownCaller)
  due found e = ap (λ o. officer (ok_or o refusals.UnknownCaller)) (found_listed (has_name name) (people cs) found e)

  due_if : (p : Person) → IsNamed (Some p) → (b : Bool) → is_officer p.role ≡ b → officer (reader cs (callers.Person name)) ≡ (if b then Ok p else Err refusals.NotYourRole)
  due_if p e b h = due (Some p) e ∙ ap (λ (c : Bool). if c then Ok p else Err refusals.NotYourRole) h

  is_nobody : IsNamed None → IsOfficer cs name (Err refusals.UnknownCaller)
  is_nobody e = subst (λ d. IsGiven {A = Person} {B = Unit {0}} d (Err refusals.UnknownCaller) (λ _ _. ⊤)) (sym (due None e)) refl

  is_by_role : (p : Person) → IsNamed (Some p) → (b : Bool) → is_officer p.role ≡ b → IsOfficer cs name (by_role b)
  is_by_role p e true h = subst (λ d. IsGiven {A = Person} {B = Unit {0}} d (Ok tt) (λ _ _. ⊤)) (sym (due_if p e true h)) tt
  is_by_role p e false h = subst (λ d. IsGiven {A = Person} {B = Unit {0}} d (Err refusals.NotYourRole) (λ _ _. ⊤)) (sym (due_if p e false h)) refl

  -- what the reads tell of the definition
  pub refused : (r : Refusal) → IsOfficer cs name (Err r) → officer (reader cs (callers.Person name)) ≡ Err r
  refused r h = err_of (officer (reader cs (callers.Person name))) r h

  pub allowed : IsOfficer cs name (Ok tt) → (p : Person) × (officer (reader cs (callers.Person name)) ≡ Ok p)
  allowed h = ok_of (officer (reader cs (callers.Person name))) h

  -- what every officer is shown alike: the answer to the person of the name
  module _ {A V : Type 0} (all : A) (shows : A → V → Type 0) where
    abbrev due_to_officer : Result Person Refusal → Result A Refusal
    due_to_officer = result_map_both (λ (p : Person). all) (λ (e : Refusal). e)

    pub gives_refusal : (r : Refusal) → IsOfficer cs name (Err r) → IsGiven (due_to_officer (officer (reader cs (callers.Person name)))) (Err r) shows
    gives_refusal r h = subst (λ d. IsGiven d (Err r) shows) (sym (ap due_to_officer (refused r h))) refl

    pub gives_all : IsOfficer cs name (Ok tt) → (v : V) → shows all v → IsGiven (due_to_officer (officer (reader cs (callers.Person name)))) (Ok v) shows
    gives_all h v it = subst (λ d. IsGiven d (Ok v) shows) (sym (ap due_to_officer (allowed h).1)) it

  -- the officer who is kept
  pub kept_officer : (kept : Option Person) → KeepsOfficer kept name → IsOneOf kept (people cs) → IsOfficer cs name (Ok tt)
  kept_officer None is known = absurd is
  kept_officer (Some p) is known = is_by_role p (subst (λ n. filter (has_name n) (people cs) ≡ p ∷ []) (sym is.0) known) true is.1

-- a reading that may be refused so may have each refusal of those who are no officers
pub turned_away : (may : Refusal → Bool) → IsTrue (may refusals.UnknownCaller) → IsTrue (may refusals.NotYourRole) → (r : Refusal) → IsOfficerRefusal r → IsTrue (may r)
turned_away may unknown role r (inl is) = subst (λ x. IsTrue (may x)) (sym is) unknown
turned_away may unknown role r (inr is) = subst (λ x. IsTrue (may x)) (sym is) role

-- ---- the steps from the read of a person to the answer, where the person who is kept is one of the
-- desk's

module _ (kept : Option Person) (name : List ℕ) where
  abbrev pub FindsPerson : Option Person → Tables → Type 0
  FindsPerson found t = filter (has_name name) t.people ≡ listed found

  abbrev pub TellsIf : (History → Type 0) → State → State → Type 0
  TellsIf told = TellsOf (λ cs. IsOneOf kept (people cs) → told cs)

  abbrev pub TellsOfficer : Result (Unit {0}) Refusal → State → State → Type 0
  TellsOfficer given = TellsIf (λ cs. IsOfficer cs name given)

  -- without a read
  pub tells_kept : (s : State) → KeepsOfficer kept name → IsTrue s.in_transaction → TellsOfficer (Ok tt) s s
  tells_kept s is inside = record {
    kept = turns_none desk_layout contents s inside;
    tells = λ owner cs h sees known. kept_officer cs name kept is known;
  }

  module _ (found : Option Person) (first new : State) where
    pub tells_nobody : found ≡ None → ReadsTables (FindsPerson found) first new → TellsOfficer (Err refusals.UnknownCaller) first new
    tells_nobody none read =
        tells_of first new (FindsPerson found) (λ cs. IsOneOf kept (people cs) → IsOfficer cs name (Err refusals.UnknownCaller))
        (λ owner cs h e known. is_nobody cs name (subst (IsNamed cs name) none e)) read

    pub tells_role : (p : Person) (b : Bool) → found ≡ Some p → is_officer p.role ≡ b → ReadsTables (FindsPerson found) first new → TellsOfficer (by_role b) first new
    tells_role p b some is read =
        tells_of first new (FindsPerson found) (λ cs. IsOneOf kept (people cs) → IsOfficer cs name (by_role b))
        (λ owner cs h e known. is_by_role cs name p (subst (IsNamed cs name) some e) b is) read

  module _ (given : Result (Unit {0}) Refusal) (first mid : State) (told : History → Type 0) where
    pub tells_refusal : (r : Refusal) → given ≡ Err r → ((cs : History) → IsOfficer cs name (Err r) → told cs) → TellsOfficer given first mid → TellsIf told first mid
    tells_refusal r err f read =
        tells_on first mid (λ cs. IsOneOf kept (people cs) → IsOfficer cs name given) (λ cs. IsOneOf kept (people cs) → told cs)
        (λ cs h is known. f cs (subst (IsOfficer cs name) err (is known))) read

    pub tells_officer : (new : State) (Q : Tables → Type 0) → given ≡ Ok tt → ((owner : List ℕ) (cs : History) → IsHistory cs → IsOfficer cs name (Ok tt) → Q (tables owner cs) → told cs)
        → TellsOfficer given first mid → (IsTrue mid.in_transaction → ReadsTables Q mid new) → TellsIf told first new
    tells_officer new Q ok f read next =
        tells_after first mid new (λ cs. IsOneOf kept (people cs) → IsOfficer cs name given) Q (λ cs. IsOneOf kept (people cs) → told cs)
        (λ owner cs h is it known. f owner cs h (subst (IsOfficer cs name) ok (is known)) it) read (next read.kept.inside)
