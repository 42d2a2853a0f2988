-- Proposals beside an import that is confirmed, and the import as officers are shown it.
use Rattle.std.specs.Prelude.{◌≡◌, List, [], ◌∷◌, codes, Some, Ok, Err}
use Rattle.base.specs.declared.refusal.Refusal.TheVariants as refusals
use Rattle.desk_types.specs.declared.caller.Caller.TheVariants as callers
use Rattle.desk_types.specs.declared.command.Command.TheVariants as command
use Rattle.desk_types.specs.declared.proposal.ProposalKind.TheVariants as kinds
use Rattle.desk_types.specs.declared.proposal.ProposalState.TheVariants as states
use Rattle.desk_history.specs.Calls.{History}
use Rattle.desk_history.specs.Impact.{impact}
use Rattle.desk_history.specs.ProposalShown.{proposal_for}
use Rattle.desk_history.specs.Runs.{answers, run}
use Rattle.desk_history.specs.declared.rows.ProposalRow.{ProposalRow}
use Rattle.desk_history.specs.Worked.{Step, accepted, answers_of, by, calls_of, digest, grub, proposed, raise}
use Rattle.desk_history.specs.Worked.Impact.{before, confirm_steps, confirmation}
use Rattle.desk_history.specs.Worked.Returns.{c}

-- olga proposes a digest and a certificate that the import names too, and two generations of its
-- component, the second without a later stamp; then otto confirms the import
abbrev pub rival_steps : List Step
rival_steps =
    accepted (by (codes "olga") (codes "olga-5") (command.RevokeDigest (digest 31))) (proposed 3)
    ∷ accepted (by (codes "olga") (codes "olga-6") (command.RevokeCertificate c)) (proposed 4)
    ∷ accepted (by (codes "olga") (codes "olga-7") (raise (codes "grub") 3 2024010101)) (proposed 5)
    ∷ accepted (by (codes "olga") (codes "olga-8") (raise (codes "grub") 4 2024010100)) (proposed 6)
    ∷ confirm_steps

-- the history after that
abbrev pub rivals : History
rivals = run before (calls_of rival_steps)

-- refused is the impact of a proposal that isn't there, of one that is closed, and of one whose
-- entries can't be put into force any more
abbrev pub RefusesImpact : Type 0
RefusesImpact =
    (answers before (calls_of rival_steps) ≡ answers_of rival_steps)
    × (impact before 3 ≡ Err refusals.NoSuchProposal)
    × (impact before 1 ≡ Err refusals.ProposalClosed)
    × (impact rivals 2 ≡ Err refusals.ProposalClosed)
    × (impact rivals 3 ≡ Err refusals.AlreadyRevoked)
    × (impact rivals 4 ≡ Err refusals.AlreadyRevoked)
    × (impact rivals 5 ≡ Err refusals.NotHigher)
    × (impact rivals 6 ≡ Err refusals.StampNotLater)

-- the import, as an officer is shown it: its items are in the command's order
abbrev pub import_shown : ProposalRow
import_shown = record {
  number = 2;
  officer = codes "olga";
  kind = kinds.Import;
  named = record {
    stamp = Some 2024010100;
    passed = 1;
    digests = digest 31 ∷ digest 61 ∷ [];
    certificates = c ∷ [];
    components = grub 3 ∷ [];
  };
  state = states.Open;
}

-- officers alone are shown it; once it is confirmed, its state is another, and nothing else
abbrev pub ShowsProposal : Type 0
ShowsProposal =
    (proposal_for before (callers.Person (codes "otto")) 2 ≡ Ok import_shown)
    × (proposal_for confirmation (callers.Person (codes "olga")) 2 ≡ Ok (record import_shown { state = states.Confirmed }))
    × (proposal_for before (callers.Person (codes "otto")) 3 ≡ Err refusals.NoSuchProposal)
    × (proposal_for before (callers.Person (codes "ann")) 2 ≡ Err refusals.NotYourRole)
    × (proposal_for before (callers.Person (codes "eve")) 2 ≡ Err refusals.UnknownCaller)
    × (proposal_for before callers.Console 2 ≡ Err refusals.NotYourRole)
