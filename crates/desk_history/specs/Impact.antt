-- The impact of a proposal: what a Confirm of it by another officer would do, and which images it
-- would bar.
use Rattle.std.specs.Prelude.{ℕ, ◌+◌, ◌*◌, ◌==◌, Bool, true, false, not, nat_lt, if◌then◌else◌, List, [], ◌∷◌, length, filter_map, reverse, Option, Some, None, option_map, Result, Ok, Err}
use Rattle.std.specs.Option.{option_map_or, option_or}
use Rattle.base.specs.declared.refusal.Refusal.{Refusal}
use Rattle.base.specs.declared.refusal.Refusal.TheVariants as refusals
use Rattle.sbat.specs.declared.component.Component.{Component}
use Rattle.desk_types.specs.declared.caller.Caller.TheVariants as callers
use Rattle.desk_types.specs.declared.command.Command.TheVariants as command
use Rattle.desk_types.specs.declared.facts.Facts.{Facts}
use Rattle.desk_types.specs.declared.kind.ListedKind.TheVariants as kinds
use Rattle.desk_types.specs.declared.proposal.ProposalState.{ProposalState}
use Rattle.desk_types.specs.declared.reply.Counts.{Counts}
use Rattle.desk_types.specs.declared.state.State.{State}
use Rattle.desk_history.specs.Calls.{History, Item, distinct, is_among, item}
use Rattle.desk_history.specs.Forces.{InForce, into_force, revoked_in}
use Rattle.desk_history.specs.Images.{Image, images}
use Rattle.desk_history.specs.Level.{greatest, is_sbat}
use Rattle.desk_history.specs.Limits.{is_within}
use Rattle.desk_history.specs.Proposals.{Proposal, proposal, proposal_state}
use Rattle.desk_history.specs.Refusals.{confirm_by, force_refusal, refuse_if}
use Rattle.desk_history.specs.Replies.{counted}
use Rattle.desk_history.specs.Requests.{request, state}
use Rattle.desk_history.specs.Revocations.{revocations}
use Rattle.desk_history.specs.Verdicts.{Standing, has_revoked_certificate, has_revoked_digest, is_barred, standing, verdict}
use Rattle.desk_history.specs.declared.finding.Verdict.{Verdict}
use Rattle.desk_history.specs.declared.finding.Verdict.TheVariants.{Allowed}
use Rattle.desk_history.specs.declared.impact.Rule.{Rule}
use Rattle.desk_history.specs.declared.impact.Rule.TheVariants as rules

-- ---- the rule that bars an image

-- the component, if its generation is below the required one
abbrev pub rule_at : Component → Option ℕ → Option Rule
rule_at x None = None
rule_at x (Some needed) = if nat_lt x.generation needed then Some (rules.Component x needed) else None

-- the first component below the level
abbrev pub component_rule : Standing → List Component → Option Rule
component_rule s [] = None
component_rule s (x ∷ xs) = option_or (rule_at x (s.required x.name)) (component_rule s xs)

-- the first rule that bars an image, in the order of the verdict
abbrev pub first_rule : Standing → Facts → Option Rule
first_rule s x =
    if has_revoked_digest s x then Some rules.Digest
    else (if has_revoked_certificate s x then Some rules.Certificate else component_rule s x.components)

-- ---- after the Confirm

-- a Confirm of the proposal k by nobody: what it does is the same, whoever gives it
abbrev pub confirm_of : ℕ → Item
confirm_of k = item (record { caller = callers.Person []; key = []; command = command.Confirm k })

-- the history if the proposal k were confirmed now
abbrev pub after : History → ℕ → History
after cs k = confirm_of k ∷ cs

-- the entries that the proposal k would put into force
abbrev pub would_force : History → ℕ → InForce
would_force cs k = into_force cs (confirm_of k)

-- the standing of these entries alone: what they revoke, and the generations that they require
abbrev pub standing_of : InForce → Standing
standing_of f = record {
  revoked = λ kind digest. is_among (revoked_in kind f) digest;
  listed = λ kind digest. false;
  required = λ name. if is_sbat name then None else greatest f.components name;
}

-- the length in bytes of a signature list with entries of this SignatureSize: a head of 28 bytes,
-- and the entries (UEFI 2.10, 32.4.1). own: there is no list without entries
abbrev pub list_length : ℕ → ℕ → ℕ
list_length size entries = if entries == 0 then 0 else 28 + size * entries

-- the length of dbx in bytes after these calls: a SHA256 entry has 48 bytes, an X509_SHA256 entry
-- 64 (UEFI 2.10, 32.4.1)
abbrev pub dbx_length : History → ℕ
dbx_length cs =
    list_length 48 (length (distinct (revocations kinds.Digest cs)))
    + list_length 64 (length (distinct (revocations kinds.Certificate cs)))

-- ---- the impact

-- the image is allowed by this verdict
abbrev pub allows : Verdict → Bool
allows Allowed = true
allows _ = false

-- an image that isn't barred and would be: its request's state, submitter and title, whether it is
-- allowed now, and the first rule that would bar it
pub record NewlyBarred : Type 0 where
  pub image : Image
  pub state : State
  pub submitter : List ℕ
  pub title : List ℕ
  pub allowed : Bool
  pub rule : Rule

-- the same of this image, barred by this rule; in a desk's history its request is there
abbrev pub newly_barred_by : History → Image → Rule → NewlyBarred
newly_barred_by cs m rule = record {
  image = m;
  state = state cs m.request;
  submitter = option_map_or (λ r. r.submitter) (request cs m.request) [];
  title = option_map_or (λ r. r.title) (request cs m.request) [];
  allowed = allows (verdict cs m.facts);
  rule = rule;
}

-- the image, if it isn't barred now and would be with the proposal k confirmed
abbrev pub newly_barred : History → ℕ → Image → Option NewlyBarred
newly_barred cs k m =
    if is_barred cs m.facts then None
    else option_map (newly_barred_by cs m) (first_rule (standing (after cs k)) m.facts)

-- What a Confirm would do: the images that it would bar, in the order of their calls; the new
-- digests, the new certificates and the raised names that it would add; the length of dbx then.
pub record Impact : Type 0 where
  pub bars : List NewlyBarred
  pub adds : Counts
  pub dbx : ℕ

-- what a Confirm of the proposal k would do
abbrev pub impact_of : History → ℕ → Impact
impact_of cs k = record {
  bars = filter_map (newly_barred cs k) (reverse (images cs));
  adds = counted cs (confirm_of k);
  dbx = dbx_length (after cs k);
}

-- Confirm, of a proposal in this state, by an officer who didn't propose it
abbrev pub another_refusal : History → Option Proposal → ProposalState → Option Refusal
another_refusal cs None state = Some refusals.NoSuchProposal
another_refusal cs (Some p) state = confirm_by state false (force_refusal cs p.command)

-- why another officer can't confirm the proposal k now
abbrev pub impact_refusal : History → ℕ → Option Refusal
impact_refusal cs k =
    option_or (another_refusal cs (proposal cs k) (proposal_state cs k))
    (refuse_if (not (is_within (after cs k))) refusals.Full)

-- the impact of the proposal k, or why another officer can't confirm it now
abbrev pub impact : History → ℕ → Result Impact Refusal
impact cs k = option_map_or Err (impact_refusal cs k) (Ok (impact_of cs k))
