-- The level's table: no row of `sbat`, and for each other name the generation that the level
-- requires.
use Rattle.std.proofs.Common.{◌≡◌, ℕ, Bool, true, false, not, ◌&&◌, ◌||◌, cond, All, IfSome, List, [], ◌∷◌, map, Option, Some, None, refl, ◌∙◌, ap, subst}
use Rattle.std.specs.Prelude.{if◌then◌else◌, bytes_eq, filter, nat_lt, option_map, reverse}
use Rattle.std.specs.Option.{option_map_or}
use Rattle.std.specs.List.{list_all}
use Rattle.std.proofs.lemmas.List.{reverse-append}
use Rattle.std.proofs.lemmas.List.Elements.{All-head}
use Rattle.std.proofs.lemmas.List.Folds.{list_all-append}
use Rattle.sbat.specs.Fields.{sbat}
use Rattle.sbat.specs.declared.component.Component.{Component}
use Rattle.base.specs.declared.refusal.Refusal.{Refusal}
use Rattle.base.specs.declared.refusal.Refusal.TheVariants as refusals
use Rattle.desk_types.specs.declared.command.Call.{Call}
use Rattle.desk_types.specs.declared.command.Command.{Command}
use Rattle.desk_types.specs.declared.command.Command.TheVariants as command
use Rattle.desk_types.specs.Formed.{IsWithin}
use Rattle.desk_types.specs.Imports.{Imported}
use Rattle.desk_types.specs.declared.proposal.ProposalState.{ProposalState}
use Rattle.desk_types.specs.declared.proposal.ProposalState.TheVariants as states
use Rattle.desk_types.specs.Raising.{names_no_sbat}
use Rattle.desk_types.specs.Callers.{caller_name}
use Rattle.desk_types.proofs.FormLemmas.{both, joined}
use Rattle.desk_history.specs.Calls.{First, History, Rules, Second, distinct, is_among, under}
use Rattle.desk_history.specs.Formed.{IsHistory, IsItem}
use Rattle.desk_history.specs.FormLaws.{LevelHasNoSbat}
use Rattle.desk_history.specs.Forces.{confirmed_by, forced, into_force, nothing}
use Rattle.desk_history.specs.Level.{generations, greatest, is_above, is_sbat, level, names, raises, stamp}
use Rattle.desk_history.specs.Proposals.{Proposal, named_by, proposal, proposal_state}
use Rattle.desk_history.specs.Refusals.{confirm_by, confirm_refusal, force_refusal, own_refusal, refuse_if}
use Rattle.desk_history.specs.Tables.{level_row}
use Rattle.desk_history.proofs.FormedLemmas.{history_rest}
use Rattle.desk_history.proofs.ProposalLemmas.{IsProposed, entries_of, found_proposed}
use Rattle.desk_history.proofs.RefusalLemmas.{no_refusal}
use Rattle.desk_history.proofs.RunLemmas.{newest}

-- the name isn't `sbat`
abbrev is_other : List ℕ → Bool
is_other name = not (bytes_eq name sbat)

pub others_reversed : (xs : List Component) → names_no_sbat xs ≡ true → names_no_sbat (reverse xs) ≡ true
others_reversed [] h = refl
others_reversed (x ∷ xs) h =
    let parts = both (is_other x.name) (names_no_sbat xs) h in
    ap names_no_sbat (reverse-append (x ∷ []) xs) ∙ (list_all-append (λ (c : Component). is_other c.name) (reverse xs) (x ∷ [])
    ∙ joined (names_no_sbat (reverse xs)) (names_no_sbat (x ∷ [])) (others_reversed xs parts.1) (joined (is_other x.name) true parts.0 refl))

raised_other : (same lower : Bool) (rest : Option Refusal) → (if same || lower then Some refusals.NotHigher else rest) ≡ None → not same ≡ true
raised_other false lower rest h = refl
raised_other true lower rest h = no_refusal h

-- these entries put no component named `sbat` into force
abbrev AreOther : Option Imported → Type 0
AreOther o = names_no_sbat (option_map_or forced o nothing).components ≡ true

-- nor do those that a command names, if it isn't refused
named_other : (cs : History) (given : Command) → IsWithin given → force_refusal cs given ≡ None → AreOther (entries_of (named_by given))
named_other cs (command.RaiseLevel r) w h =
    joined (is_other r.component.name) true
    (raised_other (is_sbat r.component.name) (not (is_above r.component.generation (level cs r.component.name)))
    (refuse_if (not (nat_lt (stamp cs) r.stamp)) refusals.StampNotLater) h)
    refl
named_other cs (command.ImportRevocations i) w h = others_reversed i.components w.no_sbat
named_other cs (command.RevokeDigest _) w h = refl
named_other cs (command.RevokeCertificate _) w h = refl
named_other cs _ w h = refl

own_force : (cs : History) (name : List ℕ) (given : Command) → own_refusal cs name given ≡ None → force_refusal cs given ≡ None
own_force cs name (command.RevokeDigest _) own = own
own_force cs name (command.RevokeCertificate _) own = own
own_force cs name (command.RaiseLevel _) own = own
own_force cs name (command.ImportRevocations _) own = own
own_force cs name _ own = refl

-- the entries of a proposal that is confirmed aren't refused
confirmed_force : (state : ProposalState) (own : Bool) (refused : Option Refusal) → confirm_by state own refused ≡ None → refused ≡ None
confirmed_force states.Open false refused h = h
confirmed_force states.Open true refused h = no_refusal h
confirmed_force states.Confirmed own refused h = no_refusal h
confirmed_force states.Dropped own refused h = no_refusal h

proposed_other : (cs : History) (o : Option Proposal) (state : ProposalState) (name : List ℕ) → IfSome o IsProposed → confirm_refusal cs o state name ≡ None
    → AreOther (option_map (λ (p : Proposal). p.named.entries) o)
proposed_other cs None state name is h = no_refusal h
proposed_other cs (Some p) state name is h =
    subst (λ named. AreOther (entries_of named)) is.names
    (named_other cs p.command is.limits (confirmed_force state (bytes_eq p.officer name) (force_refusal cs p.command) h))

confirmed_other : (cs : History) (name : List ℕ) (given : Command) → All IsItem cs → own_refusal cs name given ≡ None → AreOther (confirmed_by cs given)
confirmed_other cs name (command.Confirm k) h own = proposed_other cs (proposal cs k) (proposal_state cs k) name (found_proposed cs k h) own
confirmed_other cs name _ h own = refl

-- nor does an accepted call
put_other : (cs : History) (c : Call) (rules : Rules) → All IsItem cs → IsWithin c.command → own_refusal cs (caller_name c.caller) c.command ≡ None
    → names_no_sbat (into_force cs (under rules c)).components ≡ true
put_other cs c First h w own = named_other cs c.command w (own_force cs (caller_name c.caller) c.command own)
put_other cs c Second h w own = confirmed_other cs (caller_name c.caller) c.command h own

others_named : (cs : History) → IsHistory cs → names_no_sbat (generations cs) ≡ true
others_named [] h = refl
others_named (i ∷ cs) h =
    let before = history_rest cs i h in
    let here = put_other cs i.call i.rules before.formed (All-head IsItem i cs h.formed).limits (newest cs i h.legal).new.own in
    list_all-append (λ (x : Component). is_other x.name) (into_force cs i).components (generations cs)
    ∙ joined (names_no_sbat (into_force cs i).components) (names_no_sbat (generations cs)) here (others_named cs before)

others_once : (ts : List (List ℕ)) → list_all is_other ts ≡ true → list_all is_other (distinct ts) ≡ true
others_once [] h = refl
others_once (t ∷ ts) h =
    let parts = both (is_other t) (list_all is_other ts) h in
    let rest = others_once ts parts.1 in
    elim (is_among ts t) as (λ b. list_all is_other (if b then distinct ts else t ∷ distinct ts) ≡ true) [
      | true ↦ rest
      | false ↦ joined (is_other t) (list_all is_other (distinct ts)) parts.0 rest
    ]

others_mapped : (xs : List Component) → list_all is_other (map (λ (x : Component). x.name) xs) ≡ names_no_sbat xs
others_mapped [] = refl
others_mapped (x ∷ xs) = ap (λ b. is_other x.name && b) (others_mapped xs)

others_rows : (named : List Component) (ts : List (List ℕ)) → names_no_sbat (map (level_row named) ts) ≡ list_all is_other ts
others_rows named [] = refl
others_rows named (t ∷ ts) = ap (λ b. is_other t && b) (others_rows named ts)

pub level_has_no_sbat : LevelHasNoSbat
level_has_no_sbat owner cs h =
    let named = generations cs in
    others_rows named (names named) ∙ others_once (map (λ (x : Component). x.name) named) (others_mapped named ∙ others_named cs h)

-- ---- the level by the generations that are named

other_asked : (same : Bool) (first : ℕ) (named : Option ℕ) → not same ≡ true → (if same then Some first else named) ≡ named
other_asked false first named h = refl
other_asked true first named h = cc

-- a component of another name raises where it is above all that name it
raises_so : (cs : History) (x : Component) → is_other x.name ≡ true → raises cs x ≡ is_above x.generation (greatest (generations cs) x.name)
raises_so cs x other = ap (λ asked. is_above x.generation asked) (other_asked (is_sbat x.name) 1 (greatest (generations cs) x.name) other)

-- and so does each of these
pub all_raise_so : (cs : History) (xs : List Component) → names_no_sbat xs ≡ true
    → filter (raises cs) xs ≡ filter (λ x. is_above x.generation (greatest (generations cs) x.name)) xs
all_raise_so cs [] h = refl
all_raise_so cs (x ∷ xs) h =
    let parts = both (is_other x.name) (names_no_sbat xs) h in
    ap (λ b. cond b (x ∷ filter (raises cs) xs) (filter (raises cs) xs)) (raises_so cs x parts.0)
    ∙ ap (λ ys. cond (is_above x.generation (greatest (generations cs) x.name)) (x ∷ ys) ys) (all_raise_so cs xs parts.1)
