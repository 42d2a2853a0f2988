-- The rows of proposals: what a decision reads of them, and what it writes.
use Rattle.std.proofs.Common.{◌≡◌, ℕ, Bool, true, false, not, ◌||◌, IfSome, List, [], ◌∷◌, map, Option, Some, None, refl, sym, ◌∙◌, ap, subst, arith}
use Rattle.std.specs.Prelude.{◌==◌, if◌then◌else◌, bytes_eq, find, nat_lt, option_map}
use Rattle.std.specs.List.{list_any}
use Rattle.std.proofs.lemmas.Bool.Decides.{nat_tests}
use Rattle.sbat.specs.declared.component.Component.{Component}
use Rattle.base.specs.declared.refusal.Refusal.{Refusal}
use Rattle.base.specs.declared.refusal.Refusal.TheVariants as refusals
use Rattle.desk_types.specs.Imports.{Imported}
use Rattle.desk_types.specs.declared.caller.Caller.{Caller}
use Rattle.desk_types.specs.declared.command.Call.{Call}
use Rattle.desk_types.specs.declared.command.Command.{Command}
use Rattle.desk_types.specs.declared.command.Command.TheVariants as command
use Rattle.desk_types.specs.declared.kind.ListedKind.TheVariants as listed
use Rattle.desk_types.specs.declared.proposal.ProposalKind.{ProposalKind}
use Rattle.desk_types.specs.declared.proposal.ProposalKind.TheVariants as kinds
use Rattle.desk_types.specs.declared.proposal.ProposalState.{ProposalState}
use Rattle.desk_types.specs.declared.proposal.ProposalState.TheVariants as states
use Rattle.desk_history.specs.Calls.{History, item}
use Rattle.desk_history.specs.Forces.{forced}
use Rattle.desk_history.specs.Impact.{another_refusal}
use Rattle.desk_history.specs.Level.{is_sbat, is_above, level, raises_some, stamp}
use Rattle.desk_history.specs.Proposals.{Named, Proposal, is_proposal, named_by, proposal, proposal_state, proposals}
use Rattle.desk_history.specs.Refusals.{confirm_by, confirm_refusal, drop_by, drop_refusal, force_refusal, import_refusal, is_later, own_refusal, refuse_if}
use Rattle.desk_history.specs.Revocations.{is_revoked}
use Rattle.desk_history.specs.Tables.{proposal_row, tables}
use Rattle.desk_history.specs.Writes.{set_proposal_state}
use Rattle.desk_history.specs.declared.rows.ProposalRow.{ProposalRow}
use Rattle.desk_history.proofs.ListLemmas.{number_is}
use Rattle.desk_history.proofs.ProposalLemmas.{HasNames, found_named}

-- the row has this number
abbrev pub is_proposal_row : ℕ → ProposalRow → Bool
is_proposal_row k row = k == row.number

-- proposals as rows, by their states
abbrev rows_by : (ℕ → ProposalState) → List Proposal → List ProposalRow
rows_by at ps = map (λ p. proposal_row (at p.number) p) ps

-- the row of a proposal is the proposal with its state
pub row_found : (k : ℕ) (at : ℕ → ProposalState) (ps : List Proposal) → find (is_proposal_row k) (rows_by at ps) ≡ option_map (proposal_row (at k)) (find (is_proposal k) ps)
row_found k at [] = refl
row_found k at (p ∷ ps) =
    elim (k == p.number) as (λ b. (k == p.number) ≡ b → (if b then Some (proposal_row (at p.number) p) else find (is_proposal_row k) (rows_by at ps)) ≡ option_map (proposal_row (at k)) (if b then Some p else find (is_proposal k) ps)) [
      | true ↦ λ e. ap (λ n. Some (proposal_row (at n) p)) (sym (number_is k p.number e))
      | false ↦ λ e. row_found k at ps
    ] refl

pub table_found : (owner : List ℕ) (cs : History) (k : ℕ) → find (is_proposal_row k) (tables owner cs).proposals ≡ option_map (proposal_row (proposal_state cs k)) (proposal cs k)
table_found owner cs k = row_found k (proposal_state cs) (proposals cs)

-- a state is set in the row of its own proposal alone
set_states : (k : ℕ) (s : ProposalState) (f g : ℕ → ProposalState) → g k ≡ s → ((n : ℕ) → (k == n) ≡ false → g n ≡ f n) → (ps : List Proposal)
    → map (set_proposal_state k s) (rows_by f ps) ≡ rows_by g ps
set_states k s f g same other [] = refl
set_states k s f g same other (p ∷ ps) =
    ap (λ row. row ∷ map (set_proposal_state k s) (rows_by f ps)) one
    ∙ ap (λ rows. proposal_row (g p.number) p ∷ rows) (set_states k s f g same other ps)
  where
    one : set_proposal_state k s (proposal_row (f p.number) p) ≡ proposal_row (g p.number) p
    one =
        elim (k == p.number) as (λ b. (k == p.number) ≡ b → (if b then proposal_row s p else proposal_row (f p.number) p) ≡ proposal_row (g p.number) p) [
          | true ↦ λ e. ap (λ t. proposal_row t p) (sym same ∙ ap g (number_is k p.number e))
          | false ↦ λ e. ap (λ t. proposal_row t p) (sym (other p.number e))
        ] refl

abbrev called : Caller → List ℕ → Command → Call
called caller key given = record { caller = caller; key = key; command = given }

itself : (k : ℕ) → (k == k) ≡ true
itself k = grind (arith, nat_tests)

flipped : (k n : ℕ) → (k == n) ≡ false → (n == k) ≡ false
flipped k n h = grind (arith, nat_tests)

-- a Confirm sets the state of its proposal's row, and so does a Drop
pub confirm_rows : (owner : List ℕ) (cs : History) (caller : Caller) (key : List ℕ) (k : ℕ)
    → map (set_proposal_state k states.Confirmed) (tables owner cs).proposals ≡ (tables owner (item (called caller key (command.Confirm k)) ∷ cs)).proposals
confirm_rows owner cs caller key k =
    set_states k states.Confirmed (proposal_state cs) (proposal_state (item (called caller key (command.Confirm k)) ∷ cs)) (rw (itself k) refl) (λ n h. rw (flipped k n h) refl) (proposals cs)

pub drop_rows : (owner : List ℕ) (cs : History) (caller : Caller) (key : List ℕ) (k : ℕ)
    → map (set_proposal_state k states.Dropped) (tables owner cs).proposals ≡ (tables owner (item (called caller key (command.Drop k)) ∷ cs)).proposals
drop_rows owner cs caller key k =
    set_states k states.Dropped (proposal_state cs) (proposal_state (item (called caller key (command.Drop k)) ∷ cs)) (rw (itself k) refl) (λ n h. rw (flipped k n h) refl) (proposals cs)

-- ---- refusals by kinds

-- the component can't be raised to its generation
abbrev pub is_lower : History → Component → Bool
is_lower cs x = is_sbat x.name || not (is_above x.generation (level cs x.name))

-- why what a row names isn't put into force, by its kind
abbrev pub refused_by : History → ProposalKind → Imported → Option Refusal
refused_by cs kinds.Digest n = refuse_if (list_any (is_revoked listed.Digest cs) n.digests) refusals.AlreadyRevoked
refused_by cs kinds.Certificate n = refuse_if (list_any (is_revoked listed.Certificate cs) n.certificates) refusals.AlreadyRevoked
refused_by cs kinds.Level n =
    if list_any (is_lower cs) n.components then Some refusals.NotHigher else refuse_if (not (is_later (stamp cs) n.stamp)) refusals.StampNotLater
refused_by cs kinds.Import n = import_refusal (raises_some cs (forced n)) (stamp cs) n.stamp

abbrev RefusedSo : History → Command → Option Named → Type 0
RefusedSo cs c o = IfSome o (λ n. force_refusal cs c ≡ refused_by cs n.kind n.entries)

or_false : (b : Bool) → b ≡ (b || false)
or_false true = refl
or_false false = refl

refused_so : (cs : History) (c : Command) → RefusedSo cs c (named_by c)
refused_so cs (command.RevokeDigest d) = ap (λ b. refuse_if b refusals.AlreadyRevoked) (or_false (is_revoked listed.Digest cs d))
refused_so cs (command.RevokeCertificate d) = ap (λ b. refuse_if b refusals.AlreadyRevoked) (or_false (is_revoked listed.Certificate cs d))
refused_so cs (command.RaiseLevel r) =
    ap (λ b. if b then Some refusals.NotHigher else refuse_if (not (nat_lt (stamp cs) r.stamp)) refusals.StampNotLater) (or_false (is_lower cs r.component))
refused_so cs (command.ImportRevocations i) = refl
refused_so cs _ = tt

-- the refusal of a command that names something is that by its kind
pub refused_by-is : (cs : History) (c : Command) (n : Named) → named_by c ≡ Some n → force_refusal cs c ≡ refused_by cs n.kind n.entries
refused_by-is cs c n h = subst (RefusedSo cs c) h (refused_so cs c)

-- ---- a proposal by its row

record IsRowOf (cs : History) (k : ℕ) (row : ProposalRow) (o : Option Proposal) : Type 0 where
  of : Proposal
  there : o ≡ Some of
  is : row ≡ proposal_row (proposal_state cs k) of

row_of : (cs : History) (k : ℕ) (row : ProposalRow) (o : Option Proposal) → option_map (proposal_row (proposal_state cs k)) o ≡ Some row → IsRowOf cs k row o
row_of cs k row None e = absurd cc
row_of cs k row (Some p) e = record { of = p; there = refl; is = cc }

its_row : (owner : List ℕ) (cs : History) (k : ℕ) (row : ProposalRow) → find (is_proposal_row k) (tables owner cs).proposals ≡ Some row → IsRowOf cs k row (proposal cs k)
its_row owner cs k row h = row_of cs k row (proposal cs k) (sym (table_found owner cs k) ∙ h)

-- a Confirm is refused by its proposal's row
pub row_refused : (owner : List ℕ) (cs : History) (name : List ℕ) (k : ℕ) (row : ProposalRow) → find (is_proposal_row k) (tables owner cs).proposals ≡ Some row
    → own_refusal cs name (command.Confirm k) ≡ confirm_by row.state (bytes_eq row.officer name) (refused_by cs row.kind row.named)
row_refused owner cs name k row h =
    let r = its_row owner cs k row h in
    let names : named_by r.of.command ≡ Some r.of.named = subst (λ o. IfSome o HasNames) r.there (found_named cs k) in
    ap (λ o. confirm_refusal cs o (proposal_state cs k) name) r.there
    ∙ ap (confirm_by (proposal_state cs k) (bytes_eq r.of.officer name)) (refused_by-is cs r.of.command r.of.named names)
    ∙ ap (λ (q : ProposalRow). confirm_by q.state (bytes_eq q.officer name) (refused_by cs q.kind q.named)) (sym r.is)

-- and so is that of another officer
pub another_refused : (owner : List ℕ) (cs : History) (k : ℕ) (row : ProposalRow) → find (is_proposal_row k) (tables owner cs).proposals ≡ Some row
    → another_refusal cs (proposal cs k) (proposal_state cs k) ≡ confirm_by row.state false (refused_by cs row.kind row.named)
another_refused owner cs k row h =
    let r = its_row owner cs k row h in
    let names : named_by r.of.command ≡ Some r.of.named = subst (λ o. IfSome o HasNames) r.there (found_named cs k) in
    ap (λ o. another_refusal cs o (proposal_state cs k)) r.there
    ∙ ap (confirm_by (proposal_state cs k) false) (refused_by-is cs r.of.command r.of.named names)
    ∙ ap (λ (q : ProposalRow). confirm_by q.state false (refused_by cs q.kind q.named)) (sym r.is)

-- a Drop likewise
pub row_dropped : (owner : List ℕ) (cs : History) (name : List ℕ) (k : ℕ) (row : ProposalRow) → find (is_proposal_row k) (tables owner cs).proposals ≡ Some row
    → own_refusal cs name (command.Drop k) ≡ drop_by row.state
row_dropped owner cs name k row h =
    let r = its_row owner cs k row h in
    ap (λ o. drop_refusal o (proposal_state cs k)) r.there ∙ ap (λ (q : ProposalRow). drop_by q.state) (sym r.is)
