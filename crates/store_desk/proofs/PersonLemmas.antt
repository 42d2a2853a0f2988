-- The person whom a desk remembers between two calls.
use Rattle.std.proofs.Common.{◌≡◌, ℕ, Bool, true, false, not, List, [], ◌∷◌, Option, None, Some, Result, filter, refl, sym, ap, subst, ◌∙◌}
use Rattle.std.specs.Prelude.{IfSome, if◌then◌else◌, bytes_eq}
use Rattle.std.specs.List.{list_any}
use Rattle.std.proofs.lemmas.Bool.{and_parts, not-true, or_parts}
use Rattle.sqlite.specs.Store as store
use Rattle.base.specs.declared.refusal.Refusal.{Refusal}
use Rattle.desk_types.specs.declared.command.Person.{Person}
use Rattle.desk_history.specs.Calls.{History, are_apart}
use Rattle.desk_history.specs.Formed.{IsHistory}
use Rattle.desk_history.specs.People.{has_name, has_token, people}
use Rattle.desk_history.proofs.ListLemmas.{bytes_eq-refl, same_text}
use Rattle.desk_history.proofs.RowLemmas.{rows_stand_once}
use Rattle.store_reads.specs.People.{IsOneOf}
use Rattle.store_reads.specs.Reads.{listed}
use Rattle.store_desk.specs.Desks.{ForEachShown, ReadsDesk, ShowsDesk}
use Rattle.store_desk.specs.declared.desk.Desk.{Desk}

module _ {S : Type 0} (g : store.Ghosts S) (desk : Desk S) where
  -- a desk that remembers one of its people, or nobody
  pub with_person : (person : Option Person) (owner : List ℕ) (cs : History) → IsOneOf person (people cs) → ShowsDesk g desk owner cs
      → ShowsDesk g (record desk { remembered = record desk.remembered { person = person } }) owner cs
  with_person person owner cs one was = record {
    usable = was.usable;
    history = was.history;
    shows = was.shows;
    own = was.own;
    remembered = record { stamp = was.remembered.stamp; sizes = was.remembered.sizes; person = one };
    left = was.left;
  }

  -- a desk whose person was taken
  pub without_person : (left : Option Person) → left ≡ None → (owner : List ℕ) (cs : History) → ShowsDesk g desk owner cs → ShowsDesk g (record desk { remembered = record desk.remembered { person = left } }) owner cs
  without_person left none owner cs was = with_person left owner cs (rw none tt) was

module _ {S A : Type 0} (g : store.Ghosts S) (may : Refusal → Type 0) (old new : Desk S) (left : Option Person) (none : left ≡ None) (result : Result A Refusal) where
  -- a call that only reads, of a usable desk whose person was taken
  pub reads_taken : old.needs_reopening ≡ false → ReadsDesk g may (record old { remembered = record old.remembered { person = left } }) new result → ReadsDesk g may old new result
  reads_taken usable it = record {
    same = λ clean other owner cs was. it.same clean other owner cs (without_person g old left none owner cs was);
    spares = it.spares;
    poisons = it.poisons;
    steady = it.steady;
    closed = λ is. absurd (let h = sym is ∙ usable in cc);
    named = it.named;
  }

module _ {S : Type 0} (g : store.Ghosts S) (old : Desk S) {left person : Option Person} (none : left ≡ None) (taken : person ≡ old.remembered.person) where
  -- what was told of each history, with the person who was taken
  pub asked : (told : List ℕ → History → Type 0)
      → ForEachShown g (record old { remembered = record old.remembered { person = left } }) (λ owner cs. IsOneOf person (people cs) → told owner cs)
      → ForEachShown g old told
  asked told each = λ owner cs was.
      each owner cs (without_person g old left none owner cs was) (subst (λ (o : Option Person). IsOneOf o (people cs)) (sym taken) was.remembered.person)

-- ---- the only one who has a token is the only one of that name

-- nobody passes the test
none_found : {X : Type 0} (p : X → Bool) (xs : List X) → list_any p xs ≡ false → filter p xs ≡ []
none_found p [] h = refl
none_found p (x ∷ xs) h =
    let parts : (p x ≡ false) × (list_any p xs ≡ false) = or_parts (p x) (list_any p xs) h in
    rw parts.0 (none_found p xs parts.1)

only_named : (p : Person → Bool) (b : Person) (xs : List Person) → are_apart (λ (c d : Person). bytes_eq c.name d.name) xs ≡ true → filter p xs ≡ b ∷ [] → filter (has_name b.name) xs ≡ b ∷ []
only_named p b [] apart is = absurd (let h = is in cc)
only_named p b (x ∷ xs) apart is =
    let parts : (not (list_any (has_name x.name) xs) ≡ true) × (are_apart (λ (c d : Person). bytes_eq c.name d.name) xs ≡ true) =
    and_parts (not (list_any (has_name x.name) xs)) (are_apart (λ (c d : Person). bytes_eq c.name d.name) xs) apart in
    let none : filter (has_name x.name) xs ≡ [] = none_found (has_name x.name) xs (not-true (list_any (has_name x.name) xs) parts.0) in
    let own : filter (has_name x.name) (x ∷ xs) ≡ x ∷ [] = rw (bytes_eq-refl x.name) (ap (λ l. x ∷ l) none) in
    elim (p x) as (λ t. (if t then x ∷ filter p xs else filter p xs) ≡ b ∷ [] → filter (has_name b.name) (x ∷ xs) ≡ b ∷ []) [
      | true ↦ λ at. (let same : x ≡ b = (let h = at in cc) in subst (λ (c : Person). filter (has_name c.name) (x ∷ xs) ≡ c ∷ []) same own)
      | false ↦ λ at. (let rest : filter (has_name b.name) xs ≡ b ∷ [] = only_named p b xs parts.1 at in
          elim (bytes_eq b.name x.name) as (λ t. bytes_eq b.name x.name ≡ t → (if t then x ∷ filter (has_name b.name) xs else filter (has_name b.name) xs) ≡ b ∷ []) [
            | true ↦ λ named. absurd (let nobody : filter (has_name b.name) xs ≡ [] = subst (λ n. filter (has_name n) xs ≡ []) (sym (same_text b.name x.name named)) none in let h = sym nobody ∙ rest in cc)
            | false ↦ λ named. rest
          ] refl)
    ] is

-- the person whom a token finds, if one is remembered, is the only one of that name
pub found_is_one : (owner : List ℕ) (cs : History) (token : List ℕ) (found person : Option Person) → IsHistory cs → filter (has_token token) (people cs) ≡ listed found
    → IfSome person (λ p. found ≡ Some p) → IsOneOf person (people cs)
found_is_one owner cs token found None history read is = tt
found_is_one owner cs token found (Some p) history read is =
    only_named (has_token token) p (people cs) (rows_stand_once owner cs history.legal).names (read ∙ ap listed is)
