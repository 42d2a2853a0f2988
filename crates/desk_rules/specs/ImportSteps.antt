-- Words of the steps that put named entries into force.
use Rattle.std.specs.Prelude.{◌≡◌, ◌⊎◌, ℕ, Bool, true, false, if◌then◌else◌, IsTrue, List, [], ◌∷◌, ◌++◌, Option, Some, None, Result, MatchResult, filter, length, map, nat_lt, reverse}
use Rattle.std.specs.FinMap.{get}
use Rattle.std.specs.List.{list_any}
use Rattle.sbat.specs.declared.component.Component.{Component}
use Rattle.sbat.specs.Levels.{Generations}
use Rattle.base.specs.declared.refusal.Refusal.{Refusal}
use Rattle.base.specs.declared.refusal.Refusal.TheVariants as refusals
use Rattle.desk_types.specs.Imports.{Imported}
use Rattle.desk_types.specs.Raising.{names_no_sbat}
use Rattle.desk_types.specs.declared.caller.Caller.{Caller}
use Rattle.desk_types.specs.declared.command.Command.TheVariants as command
use Rattle.desk_types.specs.declared.kind.ListedKind.TheVariants as kinds
use Rattle.desk_types.specs.declared.proposal.ProposalKind.{ProposalKind}
use Rattle.desk_types.specs.declared.proposal.ProposalState.TheVariants as states
use Rattle.desk_history.specs.declared.write.Write.{Write}
use Rattle.desk_history.specs.declared.write.Write.TheVariants as writes
use Rattle.desk_history.specs.Calls.{History, distinct, is_among, item}
use Rattle.desk_history.specs.Impact.{another_refusal}
use Rattle.desk_history.specs.Level.{greatest, is_above, is_sbat}
use Rattle.desk_history.specs.Proposals.{proposal, proposal_state}
use Rattle.desk_history.specs.Replies.{counted, minutes}
use Rattle.desk_history.specs.Tables.{Tables, level_rows, tables}
use Rattle.desk_history.specs.Writes.{all_written}
use Rattle.desk_rules.specs.declared.decisions.imports.Enforced.{Enforced}
use Rattle.desk_rules.specs.declared.decisions.imports.SoFar.{SoFar}
use Rattle.desk_rules.specs.declared.view.View.{View}
use Rattle.desk_rules.specs.DecisionSteps.{force_refusal_in, revocation_writes}
use Rattle.desk_history.specs.Called.{called}
use Rattle.desk_rules.specs.Room.{takes_off}
use Rattle.desk_rules.specs.Shown.{Shows}
use Rattle.desk_rules.specs.Views.{generation_in}

-- the rows with those of the named that they lack, the last first
abbrev pub put_new : List (List ℕ) → List (List ℕ) → List (List ℕ)
put_new [] rows = rows
put_new (d ∷ ds) rows = put_new ds (if is_among rows d then rows else d ∷ rows)

-- these are the named digests that the table lacks, each once and in order, if the rows show the
-- table for them
abbrev pub AreNew : List (List ℕ) → List (List ℕ) → List (List ℕ) → Type 0
AreNew rows named new =
    (table : List (List ℕ)) → ((d : List ℕ) → IsTrue (is_among named d) → is_among rows d ≡ is_among table d)
    → put_new named table ≡ reverse new ++ table

-- the first of two that is present
abbrev pub or_else : Option ℕ → Option ℕ → Option ℕ
or_else None o = o
or_else (Some n) o = Some n

-- the generation rose from the earlier one, if there was one
abbrev pub rose : Option ℕ → Option ℕ → Bool
rose None before = false
rose (Some now) before = is_above now before

-- a component's generation is above its name's before
abbrev pub is_raise : List Component → Component → Bool
is_raise old x = is_above x.generation (greatest old x.name)

-- the names of the components that are above their names' generations before
abbrev pub raised_names : List Component → List Component → List (List ℕ)
raised_names old seen = map (λ x. x.name) (filter (is_raise old) seen)

-- the generations are those of the rows
abbrev pub HasRows : Generations → List Component → Type 0
HasRows generations rows = (q : List ℕ) → is_sbat q ≡ false → get generations q ≡ generation_in rows q

-- The changes that the components seen so far, the last first, make to a level of the components
-- `old`: the generations of the names in `asked`, which never include `sbat`; how many names were
-- raised; and the writes, which take no entry off the list.
pub record HasTaken (asked old seen : List Component) (s : SoFar) : Type 0 where
  pub other : names_no_sbat asked ≡ true
  pub level : (q : List ℕ) → IsTrue (is_among (map (λ x. x.name) asked) q) → get s.level.generations q ≡ greatest (seen ++ old) q
  pub count : length (distinct (raised_names old seen)) ≡ s.names
  pub written : (t : Tables) → t.components ≡ level_rows old → all_written s.writes.items t ≡ record t { components = level_rows (seen ++ old) }
  pub kept : list_any takes_off s.writes.items ≡ false

-- the write of the stamp, if names were raised
abbrev pub stamp_writes : ℕ → Option ℕ → List Write
stamp_writes names None = []
stamp_writes names (Some s) = if nat_lt 0 names then writes.Stamp s ∷ [] else []

-- the changes that the named components make to a level that the view's rows show for their names
abbrev pub HasTakenAll : View → Imported → SoFar → Type 0
HasTakenAll v n s =
    (old : List Component) → ((q : List ℕ) → IsTrue (is_among (map (λ x. x.name) n.components) q) → generation_in v.lists.components.items q ≡ greatest old q)
    → HasTaken n.components old (reverse n.components) s

-- These counts and writes put the named entries into force; `s` is the changes that their components
-- make. In order: the generations, the new digests, the new certificates, and the stamp if some
-- rose.
pub record PutsEntries (v : View) (n : Imported) (s : SoFar) (e : Enforced) : Type 0 where
  pub digests : List (List ℕ)
  pub certificates : List (List ℕ)
  pub new_digests : AreNew v.lists.revoked_digests.items n.digests digests
  pub new_certificates : AreNew v.lists.revoked_certificates.items n.certificates certificates
  pub counts : e.counts ≡ record { digests = length digests; certificates = length certificates; components = s.names; passed = n.passed }
  pub wrote : e.writes.items ≡ ((s.writes.items ++ revocation_writes kinds.Digest digests) ++ revocation_writes kinds.Certificate certificates) ++ stamp_writes s.names n.stamp

-- nothing refuses to put the named entries of this kind into force, and these counts and writes do
pub record PutsNamed (v : View) (kind : ProposalKind) (n : Imported) (e : Enforced) : Type 0 where
  pub so_far : SoFar
  pub taken : HasTakenAll v n so_far
  pub free : force_refusal_in v kind n so_far.names ≡ None
  pub enters : PutsEntries v n so_far e

-- this refuses to put them into force
pub record RefusesNamed (v : View) (kind : ProposalKind) (n : Imported) (refusal : Refusal) : Type 0 where
  pub so_far : SoFar
  pub taken : HasTakenAll v n so_far
  pub refused : force_refusal_in v kind n so_far.names ≡ Some refusal

-- or memory ran out
abbrev pub FailsNamed : View → ProposalKind → Imported → Refusal → Type 0
FailsNamed v kind n refusal = RefusesNamed v kind n refusal ⊎ (refusal ≡ refusals.NoMemory)

-- these counts and writes put the entries of proposal k into force: those of its entries, and last
-- the write of its state
pub record PutsIntoForce (v : View) (n : Imported) (k : ℕ) (s : SoFar) (e : Enforced) : Type 0 where
  pub entries : Enforced
  pub enters : PutsEntries v n s entries
  pub counts : e.counts ≡ entries.counts
  pub wrote : e.writes.items ≡ entries.writes.items ++ writes.ProposalState (record { proposal = k; state = states.Confirmed }) ∷ []

-- Another officer can confirm the proposal k, but for the desk's limits. A Confirm of it has these
-- counts, and the writes make the tables of the history with it, except for the call's own row;
-- they take no entry off the list.
pub record IsConfirmed (e : Enforced) (owner : List ℕ) (cs : History) (caller : Caller) (key : List ℕ) (k : ℕ) : Type 0 where
  pub free : another_refusal cs (proposal cs k) (proposal_state cs k) ≡ None
  pub counts : e.counts ≡ counted cs (item (called caller key (command.Confirm k)))
  pub made : all_written e.writes.items (tables owner cs) ≡ record (tables owner (item (called caller key (command.Confirm k)) ∷ cs)) { calls = minutes cs }
  pub kept : list_any takes_off e.writes.items ≡ false

-- on each history that the view shows for a Confirm of the proposal k, the result is that of another
-- officer's Confirm, or its refusal; or memory ran out
abbrev pub ConfirmsAnother : View → ℕ → Result Enforced Refusal → Type 0
ConfirmsAnother v k result =
    (owner : List ℕ) (cs : History) (caller : Caller) (key : List ℕ) → Shows v (tables owner cs) (called caller key (command.Confirm k))
    → MatchResult result (λ e. IsConfirmed e owner cs caller key k)
    (λ refusal. (another_refusal cs (proposal cs k) (proposal_state cs k) ≡ Some refusal) ⊎ (refusal ≡ refusals.NoMemory))
