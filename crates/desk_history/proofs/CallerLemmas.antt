-- The name `console`, which is that of the console alone.
use Rattle.std.proofs.Common.{◌≡◌, ℕ, Bool, true, false, not, ◌||◌, List, [], ◌∷◌, None, refl, sym, ◌∙◌, ap}
use Rattle.std.specs.Prelude.{if◌then◌else◌, bytes_eq, codes, find, is_some}
use Rattle.std.specs.List.{list_any, list_all}
use Rattle.base.specs.declared.refusal.Refusal.TheVariants as refusals
use Rattle.desk_types.specs.declared.caller.Caller.{Caller}
use Rattle.desk_types.specs.declared.caller.Caller.TheVariants.{Console, Person as Named}
use Rattle.desk_types.specs.declared.command.Command.{Command}
use Rattle.desk_types.specs.declared.command.Command.TheVariants as command
use Rattle.desk_types.specs.declared.command.Person.{Person}
use Rattle.desk_types.specs.Callers.{caller_name, is_told_by_name}
use Rattle.desk_types.specs.CommandTexts.{text_of}
use Rattle.desk_types.proofs.FormLemmas.{joined}
use Rattle.desk_history.specs.Calls.{History, Item}
use Rattle.desk_history.specs.FormLaws.{CallersAreTold}
use Rattle.desk_history.specs.People.{has_name, has_token, people}
use Rattle.desk_history.specs.Refusals.{is_known, is_one_of, own_refusal, refusal_of}
use Rattle.desk_history.specs.Replies.{reply_to}
use Rattle.desk_history.specs.Runs.{answer_known, earlier, is_accepted, is_legal, ruling}
use Rattle.desk_history.specs.declared.answer.Answer.{Answer}
use Rattle.desk_history.specs.declared.answer.Answer.TheVariants.{Refused}
use Rattle.desk_history.proofs.ListLemmas.{bytes_eq-refl, none_left, none_right, or_none, same_text}
use Rattle.desk_history.proofs.RefusalLemmas.{unrefused}
use Rattle.desk_history.proofs.RunLemmas.{giving, newest}

abbrev console : List ℕ
console = codes "console"

flipped : (a b : List ℕ) → bytes_eq a b ≡ false → bytes_eq b a ≡ false
flipped a b h =
    elim (bytes_eq b a) as (λ t. bytes_eq b a ≡ t → t ≡ false) [
      | true ↦ λ e. sym (bytes_eq-refl a) ∙ sym (ap (bytes_eq a) (same_text b a e)) ∙ h
      | false ↦ λ e. refl
    ] refl

none_found : {X : Type 0} (p : X → Bool) (xs : List X) → list_any p xs ≡ false → find p xs ≡ None
none_found p [] h = refl
none_found p (x ∷ xs) h = rw (none_left (p x) (list_any p xs) h) (none_found p xs (none_right (p x) (list_any p xs) h))

-- nobody is added under the name
unnamed : (cs : History) (old : Item) (name : List ℕ) (given : Command) → own_refusal cs name given ≡ None → list_any (has_name console) (people cs) ≡ false
    → list_any (has_name console) (people (giving old given ∷ cs)) ≡ false
unnamed cs old name (command.AddPerson p) own h =
    let taken : (bytes_eq p.name console || list_any (has_name p.name) (people cs) || list_any (has_token p.token) (people cs)) ≡ false =
    unrefused (bytes_eq p.name console || list_any (has_name p.name) (people cs) || list_any (has_token p.token) (people cs)) refusals.NameTaken own in
    let named : (bytes_eq p.name console || list_any (has_name p.name) (people cs)) ≡ false =
    none_left (bytes_eq p.name console || list_any (has_name p.name) (people cs)) (list_any (has_token p.token) (people cs)) taken in
    let other : bytes_eq p.name console ≡ false = none_left (bytes_eq p.name console) (list_any (has_name p.name) (people cs)) named in
    or_none (has_name console p) (list_any (has_name console) (people cs)) (flipped p.name console other) h
unnamed cs old name _ own h = h

nobody : (cs : History) → is_legal cs ≡ true → list_any (has_name console) (people cs) ≡ false
nobody [] h = refl
nobody (i ∷ cs) h =
    let here = newest cs i h in
    unnamed cs i (caller_name i.call.caller) i.call.command here.new.own (nobody cs here.before)

no_parts : {A : Type 0} → false ≡ true → A
no_parts e = cc

known_by : (known : Bool) (told : Answer) → is_accepted (if not known then Refused refusals.UnknownCaller else told) ≡ true → known ≡ true
known_by true told h = refl
known_by false told h = no_parts h

accepted_known : (cs : History) (i : Item) → is_accepted (ruling cs i) ≡ true → is_known cs i.call.caller ≡ true
accepted_known cs i h = known_by (is_known cs i.call.caller) (answer_known (earlier cs i.call) (text_of i.call.command) (refusal_of cs i) (reply_to cs i)) h

told_known : (ps : List Person) (caller : Caller) → list_any (has_name console) ps ≡ false → is_one_of ps caller ≡ true → is_told_by_name caller ≡ true
told_known ps Console h k = refl
told_known ps (Named name) h k =
    elim (bytes_eq name console) as (λ b. bytes_eq name console ≡ b → not b ≡ true) [
      | true ↦ λ e. sym (ap is_some (ap (λ n. find (has_name n) ps) (same_text name console e) ∙ none_found (has_name console) ps h)) ∙ k
      | false ↦ λ e. refl
    ] refl

-- a caller who is known to a legal history is known from all others by the name
pub known_told : (cs : History) (caller : Caller) → is_legal cs ≡ true → is_known cs caller ≡ true → is_told_by_name caller ≡ true
known_told cs caller h k = told_known (people cs) caller (nobody cs h) k

-- and so is whoever gave a call of it
pub newest_told : (cs : History) (i : Item) → is_legal (i ∷ cs) ≡ true → is_told_by_name i.call.caller ≡ true
newest_told cs i h =
    let here = newest cs i h in
    known_told cs i.call.caller here.before (accepted_known cs i here.accepted)

pub callers_are_told : CallersAreTold
callers_are_told [] h = refl
callers_are_told (i ∷ cs) h =
    joined (is_told_by_name i.call.caller) (list_all (λ a. is_told_by_name a.call.caller) cs) (newest_told cs i h)
    (callers_are_told cs (newest cs i h).before)

unequal : (b : Bool) → not b ≡ true → b ≡ true → {A : Type 0} → A
unequal true h k = no_parts h
unequal false h k = no_parts k

-- callers with one name, each known from all others by the name, are one
pub same_caller : (a b : Caller) → is_told_by_name a ≡ true → is_told_by_name b ≡ true → caller_name a ≡ caller_name b → a ≡ b
same_caller Console Console h k e = refl
same_caller Console (Named n) h k e = unequal (bytes_eq n console) k (ap (bytes_eq n) e ∙ bytes_eq-refl n)
same_caller (Named n) Console h k e = unequal (bytes_eq n console) h (ap (bytes_eq n) (sym e) ∙ bytes_eq-refl n)
same_caller (Named n) (Named m) h k e = ap Named e
