-- Proposals by one officer, and Confirms by another.
use Rattle.std.specs.Prelude.{◌≡◌, ℕ, List, [], ◌∷◌, map, codes, Ok, Err, Result}
use Rattle.base.specs.declared.refusal.Refusal.{Refusal}
use Rattle.base.specs.declared.refusal.Refusal.TheVariants as refusals
use Rattle.std.specs.Result.{result_map_both}
use Rattle.desk_types.specs.declared.caller.Caller.TheVariants as callers
use Rattle.desk_types.specs.declared.command.Call.{Call}
use Rattle.desk_types.specs.declared.command.Command.{Command}
use Rattle.desk_types.specs.declared.command.Command.TheVariants as command
use Rattle.desk_types.specs.declared.proposal.Proposal.{Proposal as ShownProposal}
use Rattle.desk_types.specs.declared.proposal.ProposalState.TheVariants as states
use Rattle.desk_types.specs.declared.reply.Reply.TheVariants as replies
use Rattle.desk_history.specs.Calls.{History, item}
use Rattle.desk_history.specs.Level.{stamp}
use Rattle.desk_history.specs.Runs.{answers, run}
use Rattle.desk_history.specs.Shown.{proposals_for, shown_proposal}
use Rattle.desk_history.specs.Tables.{tables}
use Rattle.desk_history.specs.Worked.{Step, accepted, answers_of, by, calls_of, confirmed, digest, grub, officers_added, proposed, raise, refused, with_officers}
use Rattle.desk_history.specs.Worked.Imports.{lists}
use Rattle.desk_history.specs.declared.answer.Answer.TheVariants.{Repeated}

-- calls of olga, of otto and of ann, each under a key
abbrev pub olga : List ℕ → Command → Call
olga key given = by (codes "olga") key given

-- the second officer's
abbrev pub otto : List ℕ → Command → Call
otto key given = by (codes "otto") key given

-- a submitter's
abbrev pub ann : List ℕ → Command → Call
ann key given = by (codes "ann") key given

-- ---- a digest is proposed, and only the second officer confirms it

-- the image's digest aa
abbrev pub revoke_aa : Command
revoke_aa = command.RevokeDigest (digest 170)

-- olga revokes it
abbrev pub one_proposed : List Step
one_proposed = with_officers (accepted (olga (codes "olga-1") revoke_aa) (proposed 1) ∷ [])

-- she and ann can't confirm it; otto can, once
abbrev pub one_confirmed : List Step
one_confirmed =
    refused (olga (codes "olga-2") (command.Confirm 1)) refusals.OwnProposal
    ∷ refused (ann (codes "ann-1") (command.Confirm 1)) refusals.NotYourRole
    ∷ accepted (otto (codes "otto-1") (command.Confirm 1)) (confirmed 1 1 0 0 0)
    ∷ refused (otto (codes "otto-2") (command.Confirm 1)) refusals.ProposalClosed
    ∷ refused (otto (codes "otto-3") (command.Confirm 2)) refusals.NoSuchProposal
    ∷ refused (olga (codes "olga-3") revoke_aa) refusals.AlreadyRevoked
    ∷ []

-- the history after the proposal
abbrev pub after_proposal : History
after_proposal = item (olga (codes "olga-1") revoke_aa) ∷ officers_added

-- and after otto's call
abbrev pub after_confirmation : History
after_confirmation = item (otto (codes "otto-1") (command.Confirm 1)) ∷ after_proposal

-- each call has this answer
abbrev pub AnswersOne : Type 0
AnswersOne =
    (answers [] (calls_of one_proposed) ≡ answers_of one_proposed)
    × (run [] (calls_of one_proposed) ≡ after_proposal)
    × (answers after_proposal (calls_of one_confirmed) ≡ answers_of one_confirmed)
    × (run after_proposal (calls_of one_confirmed) ≡ after_confirmation)

-- the proposals that a person is shown
abbrev pub shown_to : History → List ℕ → Result (List ShownProposal) Refusal
shown_to cs name = result_map_both (map (shown_proposal cs)) (λ refusal. refusal) (proposals_for cs (callers.Person name))

-- the proposal, as otto is shown it
abbrev pub one_shown : ShownProposal
one_shown = record {
  number = 1;
  officer = codes "olga";
  state = states.Confirmed;
  digests = 1;
  certificates = 0;
  components = 0;
}

-- nothing is revoked by the proposal, and the digest by its confirmation; officers are shown the
-- proposal
abbrev pub ShowsOne : Type 0
ShowsOne =
    ((tables (codes "owner") after_proposal).revoked_digests ≡ [])
    × ((tables (codes "owner") after_confirmation).revoked_digests ≡ digest 170 ∷ [])
    × (shown_to after_confirmation (codes "otto") ≡ Ok (one_shown ∷ []))
    × (shown_to after_confirmation (codes "ann") ≡ Err refusals.NotYourRole)
    × (shown_to after_confirmation (codes "eve") ≡ Err refusals.UnknownCaller)

-- their keys, given again; for a closed proposal, that it is closed comes first
abbrev pub one_repeated : List Step
one_repeated =
    record { call = olga (codes "olga-1") revoke_aa; answer = Repeated (proposed 1) }
    ∷ record { call = otto (codes "otto-1") (command.Confirm 1); answer = Repeated (confirmed 1 1 0 0 0) }
    ∷ refused (otto (codes "otto-1") (command.Drop 1)) refusals.KeyReused
    ∷ refused (olga (codes "olga-4") (command.Confirm 1)) refusals.ProposalClosed
    ∷ refused (record { caller = callers.Console; key = codes "k"; command = command.Confirm 1 }) refusals.NotYourRole
    ∷ []

-- a repeated proposal makes no second one, and a repeated confirmation gets the first one's reply
abbrev pub RepeatsOne : Type 0
RepeatsOne =
    (answers after_confirmation (calls_of one_repeated) ≡ answers_of one_repeated)
    × (run after_confirmation (calls_of one_repeated) ≡ after_confirmation)

-- ---- two proposals of one digest

-- the image's digest bb
abbrev pub revoke_bb : Command
revoke_bb = command.RevokeDigest (digest 187)

-- the reason for this proposal
abbrev pub explain : ℕ → Command
explain k = command.Explain (record { proposal = k; reason = codes "CVE-2026-1234" })

-- one is confirmed, so the other can't be, and is dropped; officers explain both, also then
abbrev pub both_steps : List Step
both_steps = with_officers (
    accepted (olga (codes "olga-1") revoke_bb) (proposed 1)
    ∷ accepted (olga (codes "olga-2") revoke_bb) (proposed 2)
    ∷ accepted (otto (codes "otto-0") (explain 2)) (replies.Explained 2)
    ∷ accepted (otto (codes "otto-1") (command.Confirm 1)) (confirmed 1 1 0 0 0)
    ∷ refused (otto (codes "otto-2") (command.Confirm 2)) refusals.AlreadyRevoked
    ∷ accepted (olga (codes "olga-3") (command.Drop 2)) (replies.Dropped 2)
    ∷ refused (otto (codes "otto-3") (command.Drop 2)) refusals.ProposalClosed
    ∷ refused (otto (codes "otto-4") (command.Drop 3)) refusals.NoSuchProposal
    ∷ accepted (olga (codes "olga-4") (explain 1)) (replies.Explained 1)
    ∷ accepted (olga (codes "olga-5") (explain 2)) (replies.Explained 2)
    ∷ refused (ann (codes "ann-1") (explain 1)) refusals.NotYourRole
    ∷ refused (otto (codes "otto-5") (explain 3)) refusals.NoSuchProposal
    ∷ [])

-- each call has this answer
abbrev pub AnswersBoth : Type 0
AnswersBoth = answers [] (calls_of both_steps) ≡ answers_of both_steps

-- the states of the two, the newest first
abbrev pub ShowsBoth : Type 0
ShowsBoth =
    map (λ p. p.state) (tables (codes "owner") (run [] (calls_of both_steps))).proposals ≡ states.Dropped ∷ states.Confirmed ∷ []

-- ---- two generations of one component

-- the higher one is confirmed, so the lower one can't be
abbrev pub level_steps : List Step
level_steps = with_officers (
    accepted (olga (codes "olga-1") (raise (codes "grub") 3 2024010100)) (proposed 1)
    ∷ accepted (olga (codes "olga-2") (raise (codes "grub") 4 2024010101)) (proposed 2)
    ∷ accepted (otto (codes "otto-1") (command.Confirm 2)) (confirmed 2 0 0 1 0)
    ∷ refused (otto (codes "otto-2") (command.Confirm 1)) refusals.NotHigher
    ∷ [])

-- each call has this answer
abbrev pub AnswersLevel : Type 0
AnswersLevel = answers [] (calls_of level_steps) ≡ answers_of level_steps

-- the level, and the state of the proposal that can't be confirmed
abbrev pub ShowsLevel : Type 0
ShowsLevel =
    ((tables (codes "owner") (run [] (calls_of level_steps))).components ≡ grub 4 ∷ [])
    × (stamp (run [] (calls_of level_steps)) ≡ 2024010101)
    × (map (λ p. p.state) (tables (codes "owner") (run [] (calls_of level_steps))).proposals ≡ states.Confirmed ∷ states.Open ∷ [])

-- ---- an import

-- signature lists are proposed and confirmed
abbrev pub import_steps : List Step
import_steps = with_officers (
    accepted (olga (codes "olga-1") lists) (proposed 1)
    ∷ accepted (otto (codes "otto-1") (command.Confirm 1)) (confirmed 1 1 1 0 1)
    ∷ [])

-- the calls that were accepted
abbrev pub import_history : History
import_history =
    item (otto (codes "otto-1") (command.Confirm 1)) ∷ item (olga (codes "olga-1") lists) ∷ officers_added

-- each call has this answer
abbrev pub AnswersImport : Type 0
AnswersImport =
    (answers [] (calls_of import_steps) ≡ answers_of import_steps)
    × (run [] (calls_of import_steps) ≡ import_history)
