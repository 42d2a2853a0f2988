-- Tables after the writes of commands: people, and the list of allowed images.
use Rattle.std.proofs.Common.{◌≡◌, ℕ, Bool, true, false, not, ◌||◌, cond, List, [], ◌∷◌, Option, Some, None, Ok, Err, Result, refl, sym, ◌∙◌, ap, subst, inl, inr}
use Rattle.std.specs.Prelude.{if◌then◌else◌, MatchResult, IsTrue, bytes_eq, codes, find, is_some}
use Rattle.std.specs.List.{list_any}
use Rattle.std.proofs.lemmas.Bool.{or_left}
use Rattle.base.specs.declared.refusal.Refusal.{Refusal}
use Rattle.base.specs.declared.refusal.Refusal.TheVariants as refusals
use Rattle.desk_types.specs.Certificates.{WholeCertificate}
use Rattle.desk_types.specs.declared.caller.Caller.{Caller}
use Rattle.desk_types.specs.declared.command.Call.{Call}
use Rattle.desk_types.specs.declared.command.Command.TheVariants as command
use Rattle.desk_types.specs.declared.command.Listing.{Listing}
use Rattle.desk_types.specs.declared.command.Person.{Person}
use Rattle.desk_types.specs.declared.kind.ListedKind.{ListedKind}
use Rattle.desk_types.specs.declared.kind.ListedKind.TheVariants as kinds
use Rattle.desk_types.specs.declared.reply.Reply.{Reply}
use Rattle.desk_types.specs.declared.reply.Reply.TheVariants as replies
use Rattle.desk_history.specs.declared.rows.Entry.{Entry}
use Rattle.desk_history.specs.declared.write.Write.{Write}
use Rattle.desk_history.specs.declared.write.Write.TheVariants as writes
use Rattle.desk_types.specs.Callers.{caller_name}
use Rattle.desk_history.specs.Calls.{History, is_among, item}
use Rattle.desk_history.specs.Listing.{has_entry, is_entry, is_listed, listed, without}
use Rattle.desk_history.specs.People.{has_name, has_token, people}
use Rattle.desk_history.specs.Replies.{minutes, reply}
use Rattle.desk_history.specs.Tables.{tables}
use Rattle.desk_history.specs.Writes.{all_written}
use Rattle.desk_rules.specs.declared.view.Changes.{Changes}
use Rattle.desk_rules.specs.declared.view.View.{View}
use Rattle.desk_rules.specs.DecisionSteps.{Decided, DecidesOwn, IsCommandStep, RefusesOwn}
use Rattle.desk_history.specs.Called.{called}
use Rattle.desk_rules.specs.Keys.{one_key}
use Rattle.desk_rules.specs.Shown.{Shows, keys_asked}
use Rattle.desk_rules.specs.Room.{IsRoomed}
use Rattle.desk_history.specs.Refusals.{add_refusal, own_refusal, refuse_if}
use Rattle.desk_rules.specs.Views.{keys_for, seen_standing}
use Rattle.desk_history.proofs.EntryLemmas.{without_fewer}
use Rattle.desk_history.proofs.ListLemmas.{bytes_eq-refl}
use Rattle.desk_history.proofs.ListingLemmas.{listed_rows_are_listed}
use Rattle.desk_history.proofs.RefusalLemmas.{unrefused}
use Rattle.desk_rules.proofs.StandingLemmas.{lists_so}

-- a decision by a refusal, a reply and writes
pub decided : (owner : List ℕ) (cs : History) (c : Call) (result : Result Changes Refusal) (refusal : Option Refusal) (given : Reply) (ws : List Write) → Decided result refusal given ws →
    refusal ≡ own_refusal cs (caller_name c.caller) c.command → (refusal ≡ None → given ≡ reply cs c) →
    (refusal ≡ None → all_written ws (tables owner cs) ≡ record (tables owner (item c ∷ cs)) { calls = minutes cs }) → IsRoomed ws cs c →
    MatchResult result (λ changes. IsCommandStep changes owner cs c) (λ r. RefusesOwn r cs c)
decided owner cs c (Ok changes) refusal given ws told own replied made roomed = record {
  accepted = sym own ∙ told.0;
  replied = told.1 ∙ replied told.0;
  made = ap (λ l. all_written l (tables owner cs)) told.2 ∙ made told.0;
  listed = subst (λ l. IsRoomed l cs c) (sym told.2) roomed;
}
decided owner cs c (Err r) refusal given ws (inl is) own replied made roomed = inl (sym own ∙ is)
decided owner cs c (Err r) refusal given ws (inr e) own replied made roomed = inr e

-- a test is passed by some item exactly where one is found
pub any_found : {X : Type 0} (p : X → Bool) (xs : List X) → list_any p xs ≡ is_some (find p xs)
any_found p [] = refl
any_found p (x ∷ xs) = elim (p x) as (λ b. (b || list_any p xs) ≡ is_some (if b then Some x else find p xs)) [ true ↦ refl | false ↦ any_found p xs ]

-- one text is among itself
pub among_one : (t : List ℕ) → is_among (t ∷ []) t ≡ true
among_one t = or_left (bytes_eq t t) false (bytes_eq-refl t)

-- AddPerson

pub adds : (v : View) (caller : Caller) (p : Person) (result : Result Changes Refusal) → Decided result (add_refusal v.people.items p) (replies.Added p.name) (writes.Person p ∷ []) → DecidesOwn v caller (command.AddPerson p) result
adds v caller p result told owner cs key legal shown =
    decided owner cs (called caller key (command.AddPerson p)) result (add_refusal v.people.items p) (replies.Added p.name) (writes.Person p ∷ []) told
    (ap (λ b. refuse_if (bytes_eq p.name (codes "console") || b || list_any (has_token p.token) v.people.items) refusals.NameTaken) name
    ∙ ap (λ b. refuse_if (bytes_eq p.name (codes "console") || list_any (has_name p.name) (people cs) || b) refusals.NameTaken) token)
    (λ none. refl) (λ none. refl) (inl refl)
  where
    name : list_any (has_name p.name) v.people.items ≡ list_any (has_name p.name) (people cs)
    name = any_found (has_name p.name) v.people.items ∙ (ap is_some (shown.names p.name (among_one p.name)) ∙ sym (any_found (has_name p.name) (people cs)))

    token : list_any (has_token p.token) v.people.items ≡ list_any (has_token p.token) (people cs)
    token = any_found (has_token p.token) v.people.items ∙ (ap is_some (shown.tokens p.token (among_one p.token)) ∙ sym (any_found (has_token p.token) (people cs)))

-- the list of allowed images

-- rows that lack the entry are those without it
pub without_missing : (kind : ListedKind) (digest : List ℕ) (rows : List Entry) → has_entry kind digest rows ≡ false → without kind digest rows ≡ rows
without_missing kind digest [] h = refl
without_missing kind digest (x ∷ rows) h =
    elim (is_entry kind digest x) as (λ b. (b || has_entry kind digest rows) ≡ false → cond (not b) (x ∷ without kind digest rows) (without kind digest rows) ≡ x ∷ rows) [
      | true ↦ λ e. cc
      | false ↦ λ e. ap (λ rs. x ∷ rs) (without_missing kind digest rows e)
    ] h

module _ (v : View) (owner : List ℕ) (cs : History) (c : Call) (shown : Shows v (tables owner cs) c) (kind : ListedKind) (digest : List ℕ) where
  module _ (asked : IsTrue (is_among (keys_for (keys_asked (tables owner cs) c).listed kind) digest)) where
    pub listed_seen : (seen_standing v.lists).listed kind digest ≡ is_listed kind cs digest
    listed_seen = (lists_so v.lists owner cs (keys_asked (tables owner cs) c) shown.lists).listed kind digest asked

    pub unlisted_same : (seen_standing v.lists).listed kind digest ≡ false → without kind digest (listed cs) ≡ listed cs
    unlisted_same h = without_missing kind digest (listed cs) (listed_rows_are_listed cs kind digest ∙ (sym listed_seen ∙ h))

pub lists_digest : (v : View) (caller : Caller) (d : List ℕ) (result : Result Changes Refusal) →
    Decided result (refuse_if ((seen_standing v.lists).listed kinds.Digest d) refusals.AlreadyListed) replies.Listed (writes.List (record { kind = kinds.Digest; digest = d; body = [] }) ∷ []) →
    DecidesOwn v caller (command.ListDigest d) result
lists_digest v caller d result told owner cs key legal shown =
    let e : Entry = record { kind = kinds.Digest; digest = d; body = [] } in
    decided owner cs (called caller key (command.ListDigest d)) result (refuse_if ((seen_standing v.lists).listed kinds.Digest d) refusals.AlreadyListed) replies.Listed (writes.List e ∷ []) told
    (ap (λ b. refuse_if b refusals.AlreadyListed) (listed_seen v owner cs (called caller key (command.ListDigest d)) shown kinds.Digest d (among_one d)))
    (λ none. refl)
    (λ none. ap (λ rows. record (tables owner cs) { listed = e ∷ rows })
    (sym (unlisted_same v owner cs (called caller key (command.ListDigest d)) shown kinds.Digest d (among_one d) (unrefused ((seen_standing v.lists).listed kinds.Digest d) refusals.AlreadyListed none)))) (inl refl)

pub lists_certificate : (v : View) (caller : Caller) (x : WholeCertificate) (result : Result Changes Refusal) →
    Decided result (refuse_if ((seen_standing v.lists).listed kinds.Certificate x.tbs) refusals.AlreadyListed) replies.Listed (writes.List (record { kind = kinds.Certificate; digest = x.tbs; body = x.body }) ∷ []) →
    DecidesOwn v caller (command.ListCertificate x) result
lists_certificate v caller x result told owner cs key legal shown =
    let e : Entry = record { kind = kinds.Certificate; digest = x.tbs; body = x.body } in
    decided owner cs (called caller key (command.ListCertificate x)) result (refuse_if ((seen_standing v.lists).listed kinds.Certificate x.tbs) refusals.AlreadyListed) replies.Listed (writes.List e ∷ []) told
    (ap (λ b. refuse_if b refusals.AlreadyListed) (listed_seen v owner cs (called caller key (command.ListCertificate x)) shown kinds.Certificate x.tbs (among_one x.tbs)))
    (λ none. refl)
    (λ none. ap (λ rows. record (tables owner cs) { listed = e ∷ rows })
    (sym (unlisted_same v owner cs (called caller key (command.ListCertificate x)) shown kinds.Certificate x.tbs (among_one x.tbs) (unrefused ((seen_standing v.lists).listed kinds.Certificate x.tbs) refusals.AlreadyListed none)))) (inl refl)

one_key_asked : (l : Listing) → is_among (keys_for (one_key l.kind l.digest) l.kind) l.digest ≡ true
one_key_asked l = asked l.kind
  where
    asked : (kind : ListedKind) → is_among (keys_for (one_key kind l.digest) kind) l.digest ≡ true
    asked kinds.Digest = among_one l.digest
    asked kinds.Certificate = among_one l.digest

pub unlists : (v : View) (caller : Caller) (l : Listing) (result : Result Changes Refusal) →
    Decided result (refuse_if (not ((seen_standing v.lists).listed l.kind l.digest)) refusals.NotThere) replies.Unlisted (writes.Unlist l ∷ []) → DecidesOwn v caller (command.Unlist l) result
unlists v caller l result told owner cs key legal shown =
    decided owner cs (called caller key (command.Unlist l)) result (refuse_if (not ((seen_standing v.lists).listed l.kind l.digest)) refusals.NotThere) replies.Unlisted (writes.Unlist l ∷ []) told
    (ap (λ b. refuse_if (not b) refusals.NotThere) (listed_seen v owner cs (called caller key (command.Unlist l)) shown l.kind l.digest (one_key_asked l)))
    (λ none. refl) (λ none. refl) (inr (refl, without_fewer l.kind l.digest (listed cs)))
