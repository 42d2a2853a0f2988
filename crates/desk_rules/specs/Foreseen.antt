-- What a Confirm of a proposal by another officer would add, as a view tells it.
use Rattle.std.specs.Prelude.{◌≡◌, ◌⊎◌, ℕ, ◌+◌, Bool, true, false, ◌&&◌, nat_le, if◌then◌else◌, IsTrue, List, Option, Some, None, Result, MatchResult}
use Rattle.base.specs.declared.refusal.Refusal.{Refusal}
use Rattle.base.specs.declared.refusal.Refusal.TheVariants as refusals
use Rattle.desk_types.specs.declared.caller.Caller.{Caller}
use Rattle.desk_types.specs.declared.command.Command.TheVariants as command
use Rattle.desk_types.specs.declared.reply.Counts.{Counts}
use Rattle.desk_history.specs.Calls.{History}
use Rattle.desk_history.specs.Impact.{impact_of, impact_refusal, list_length}
use Rattle.desk_history.specs.Limits.{most_revoked_certificates, most_revoked_digests}
use Rattle.desk_history.specs.Runs.{is_legal}
use Rattle.desk_history.specs.Tables.{tables}
use Rattle.desk_rules.specs.declared.foreseeing.Foreseen.{Foreseen}
use Rattle.desk_rules.specs.declared.view.Sizes.{Sizes}
use Rattle.desk_rules.specs.declared.view.View.{View}
use Rattle.desk_history.specs.Called.{called}
use Rattle.desk_rules.specs.Shown.{Shows}

-- whether a Confirm by another officer may meet this refusal, or it is NoMemory
abbrev pub may_foresee : Refusal → Bool
may_foresee refusals.NoSuchProposal = true
may_foresee refusals.ProposalClosed = true
may_foresee refusals.AlreadyRevoked = true
may_foresee refusals.NotHigher = true
may_foresee refusals.StampNotLater = true
may_foresee refusals.Full = true
may_foresee refusals.NoMemory = true
may_foresee _ = false

-- another officer can confirm the proposal k after this history; what the Confirm would add, and
-- the length of dbx then, are those of its impact
pub record IsForeseen (f : Foreseen) (cs : History) (k : ℕ) : Type 0 where
  pub free : impact_refusal cs k ≡ None
  pub adds : f.adds ≡ (impact_of cs k).adds
  pub dbx : f.dbx ≡ (impact_of cs k).dbx

-- on each legal history that the view shows for a Confirm of the proposal k, whoever gives it, the
-- result is what another officer's Confirm would add, or its refusal; or memory ran out
abbrev pub Foresees : View → ℕ → Result Foreseen Refusal → Type 0
Foresees v k result =
    (owner : List ℕ) (cs : History) (caller : Caller) (key : List ℕ) → IsTrue (is_legal cs)
    → Shows v (tables owner cs) (called caller key (command.Confirm k))
    → MatchResult result (λ f. IsForeseen f cs k)
    (λ refusal. (impact_refusal cs k ≡ Some refusal) ⊎ (refusal ≡ refusals.NoMemory))

-- the length of dbx where its tables, of these sizes, get as many more rows as these counts have;
-- none where they would be over their limits
abbrev pub dbx_with : Sizes → Counts → Option ℕ
dbx_with s more =
    if nat_le (s.revoked_digests + more.digests) most_revoked_digests
    && nat_le (s.revoked_certificates + more.certificates) most_revoked_certificates
    then Some (list_length 48 (s.revoked_digests + more.digests)
    + list_length 64 (s.revoked_certificates + more.certificates))
    else None
