-- Refusals of the desk that have an answer, none of which has a place.
use denote.Enum.Bare.{same_false, same_true, sameb}
use Rattle.std.proofs.Common.{◌≡◌, ◌≢◌, ◌⊎◌, ◌∙◌, inl, inr, Bool, Option, Some, None, IsTrue, true, false, refl, sym, ap}
use Rattle.base.specs.contracts.refusal.Refusal.{the_type}
use Rattle.base.specs.declared.refusal.Refusal.{Refusal}
use Rattle.base.specs.declared.refusal.Refusal.TheVariants as refusals
use Rattle.desk_history.specs.DecisionRefusals.{may_answer}
use Rattle.desk_exports.specs.Readings.{hides_impact, hides_proposal, hides_request, lacks_role, may_refuse, turns_away}
use Rattle.desk_exports.specs.declared.reading.Reading.{Reading}
use Rattle.desk_exports.specs.declared.reading.Reading.TheVariants as read
use Rattle.http_responses.specs.Refusals.{outage_refusal, place_of, refused_of, refusal_of}
use Rattle.http_responses.specs.declared.outage.Outage.{Outage}
use Rattle.http_responses.specs.declared.outage.Outage.TheVariants as outage
use Rattle.http_responses.specs.declared.refused.Refused.{Refused}
use Rattle.http_responses.specs.declared.refused.Refused.TheVariants as refused
use Rattle.http_calls.specs.Answers.{IsRefusal}
use Rattle.http_calls.specs.Bodies.{RefusesAs}
use Rattle.desk_exports.specs.Desks.{IsOutage, IsReadingRefusal}
use Rattle.http_calls.specs.Desks.{IsTold}
use Rattle.http_calls.specs.declared.answers.TaskAnswer.{TaskAnswer}
use Rattle.http_calls.specs.declared.answers.TaskAnswer.TheVariants as answer

-- two refusals are one or differ, by the tags of the enum
same_or_not : (x y : Refusal) (flag : Bool) → sameb the_type x y ≡ flag → (x ≡ y) ⊎ (x ≢ y)
same_or_not x y true e = inl (same_true the_type tt x y e)
same_or_not x y false e = inr (same_false the_type x y e)

-- refused memory, a failed store, or neither
pub apart : (r : Refusal) → (r ≡ refusals.NoMemory) ⊎ ((r ≡ refusals.Store) ⊎ ((r ≢ refusals.NoMemory) × (r ≢ refusals.Store)))
apart r = elim (same_or_not r refusals.NoMemory _ refl) [
  | inl memory ↦ inl memory
  | inr no_memory ↦ elim (same_or_not r refusals.Store _ refl) [
    | inl store ↦ inr (inl store)
    | inr no_store ↦ inr (inr (no_memory, no_store))
  ]
]

not_true : IsTrue false → ⊥
not_true h = cc

-- each refusal of the desk's rules has an answer
pub told_by_rules : (r : Refusal) → IsTrue (may_answer r) → IsTold r
told_by_rules refusals.UnknownCaller h = inl refl
told_by_rules refusals.NotYourRole h = inl refl
told_by_rules refusals.KeyReused h = inl refl
told_by_rules refusals.NoSuchRequest h = inl refl
told_by_rules refusals.WrongState h = inl refl
told_by_rules refusals.OwnRequest h = inl refl
told_by_rules refusals.AlreadyReviewed h = inl refl
told_by_rules refusals.DigestDiffers h = inl refl
told_by_rules refusals.Revoked h = inl refl
told_by_rules refusals.NotListed h = inl refl
told_by_rules refusals.AlreadyRevoked h = inl refl
told_by_rules refusals.NotHigher h = inl refl
told_by_rules refusals.StampNotLater h = inl refl
told_by_rules refusals.AlreadyListed h = inl refl
told_by_rules refusals.NotThere h = inl refl
told_by_rules refusals.NameTaken h = inl refl
told_by_rules refusals.Full h = inl refl
told_by_rules refusals.NoSuchProposal h = inl refl
told_by_rules refusals.OwnProposal h = inl refl
told_by_rules refusals.ProposalClosed h = inl refl
told_by_rules refusals.NoMemory h = inr (inl refl)
told_by_rules _ h = absurd (not_true h)

-- an outage has an answer
pub told_outage : (r : Refusal) → IsOutage r → IsTold r
told_outage r outage = inr outage

-- what a reading may be refused for is a refusal of the rules
role_by_rules : (r : Refusal) → IsTrue (lacks_role r) → IsTrue (may_answer r)
role_by_rules refusals.NotYourRole h = refl
role_by_rules _ h = absurd (not_true h)

turned_by_rules : (r : Refusal) → IsTrue (turns_away r) → IsTrue (may_answer r)
turned_by_rules refusals.UnknownCaller h = refl
turned_by_rules refusals.NotYourRole h = refl
turned_by_rules _ h = absurd (not_true h)

request_by_rules : (r : Refusal) → IsTrue (hides_request r) → IsTrue (may_answer r)
request_by_rules refusals.UnknownCaller h = refl
request_by_rules refusals.NotYourRole h = refl
request_by_rules refusals.NoSuchRequest h = refl
request_by_rules _ h = absurd (not_true h)

proposal_by_rules : (r : Refusal) → IsTrue (hides_proposal r) → IsTrue (may_answer r)
proposal_by_rules refusals.UnknownCaller h = refl
proposal_by_rules refusals.NotYourRole h = refl
proposal_by_rules refusals.NoSuchProposal h = refl
proposal_by_rules _ h = absurd (not_true h)

impact_by_rules : (r : Refusal) → IsTrue (hides_impact r) → IsTrue (may_answer r)
impact_by_rules refusals.UnknownCaller h = refl
impact_by_rules refusals.NotYourRole h = refl
impact_by_rules refusals.NoSuchProposal h = refl
impact_by_rules refusals.ProposalClosed h = refl
impact_by_rules refusals.AlreadyRevoked h = refl
impact_by_rules refusals.NotHigher h = refl
impact_by_rules refusals.StampNotLater h = refl
impact_by_rules refusals.Full h = refl
impact_by_rules _ h = absurd (not_true h)

due_by_rules : (reading : Reading) (r : Refusal) → IsTrue (may_refuse reading r) → IsTrue (may_answer r)
due_by_rules read.Requests r h = turned_by_rules r h
due_by_rules (read.RequestsFrom n) r h = turned_by_rules r h
due_by_rules (read.RequestsWith digest) r h = turned_by_rules r h
due_by_rules (read.Request k) r h = request_by_rules r h
due_by_rules read.Proposals r h = turned_by_rules r h
due_by_rules (read.ProposalsFrom n) r h = turned_by_rules r h
due_by_rules (read.Proposal k) r h = proposal_by_rules r h
due_by_rules (read.Impact k) r h = impact_by_rules r h
due_by_rules read.Waiting r h = turned_by_rules r h
due_by_rules read.Changes r h = turned_by_rules r h
due_by_rules (read.Export what) r h = absurd (not_true h)
due_by_rules read.Report r h = role_by_rules r h
due_by_rules (read.Minutes n) r h = turned_by_rules r h
due_by_rules read.People r h = turned_by_rules r h
due_by_rules read.Me r h = absurd (not_true h)

-- so each refusal of a reading has an answer
pub told_reading : (reading : Reading) (r : Refusal) → IsReadingRefusal reading r → IsTold r
told_reading reading r (inl due) = told_by_rules r (due_by_rules reading r due)
told_reading reading r (inr e) = told_outage r e

tells_same : (x y : Refused) → Some x ≡ Some y → RefusesAs (refusal_of x) (place_of x) y
tells_same x y e = let same : x ≡ y = cc in record { of = ap refusal_of (sym same); at = ap place_of (sym same) }

not_some : (y : Refused) → None ≡ Some y → ⊥
not_some y e = cc

-- a refusal that its row alone answers has no place
pub placeless : (r : Refusal) (x : Refused) → refused_of r ≡ Some x → RefusesAs r None x
placeless refusals.Short x e = tells_same refused.Short x e
placeless refusals.NoMz x e = tells_same refused.NoMz x e
placeless refusals.NoPe x e = tells_same refused.NoPe x e
placeless refusals.Magic x e = tells_same refused.Magic x e
placeless refusals.NotEfi x e = tells_same refused.NotEfi x e
placeless refusals.Headers x e = tells_same refused.Headers x e
placeless refusals.Sections x e = tells_same refused.Sections x e
placeless refusals.Overlap x e = tells_same refused.Overlap x e
placeless refusals.Table x e = tells_same refused.Table x e
placeless refusals.Der x e = tells_same refused.Der x e
placeless refusals.TwoSbat x e = tells_same refused.TwoSbat x e
placeless refusals.SbatRow x e = absurd (not_some x e)
placeless refusals.TooLong x e = tells_same refused.TooLong x e
placeless refusals.Read x e = absurd (not_some x e)
placeless refusals.List x e = absurd (not_some x e)
placeless refusals.EntrySize x e = absurd (not_some x e)
placeless refusals.Write x e = absurd (not_some x e)
placeless refusals.Line x e = absurd (not_some x e)
placeless refusals.CsvRow x e = absurd (not_some x e)
placeless refusals.UnknownCaller x e = tells_same refused.UnknownCaller x e
placeless refusals.NotYourRole x e = tells_same refused.NotYourRole x e
placeless refusals.KeyReused x e = tells_same refused.KeyReused x e
placeless refusals.NoSuchRequest x e = tells_same refused.NoSuchRequest x e
placeless refusals.WrongState x e = tells_same refused.WrongState x e
placeless refusals.OwnRequest x e = tells_same refused.OwnRequest x e
placeless refusals.AlreadyReviewed x e = tells_same refused.AlreadyReviewed x e
placeless refusals.DigestDiffers x e = tells_same refused.DigestDiffers x e
placeless refusals.Revoked x e = tells_same refused.Revoked x e
placeless refusals.NotListed x e = tells_same refused.NotListed x e
placeless refusals.AlreadyRevoked x e = tells_same refused.AlreadyRevoked x e
placeless refusals.NotHigher x e = tells_same refused.NotHigher x e
placeless refusals.StampNotLater x e = tells_same refused.StampNotLater x e
placeless refusals.AlreadyListed x e = tells_same refused.AlreadyListed x e
placeless refusals.NotThere x e = tells_same refused.NotThere x e
placeless refusals.NameTaken x e = tells_same refused.NameTaken x e
placeless refusals.Full x e = tells_same refused.Full x e
placeless refusals.NoSuchProposal x e = tells_same refused.NoSuchProposal x e
placeless refusals.OwnProposal x e = tells_same refused.OwnProposal x e
placeless refusals.ProposalClosed x e = tells_same refused.ProposalClosed x e
placeless refusals.NoMemory x e = absurd (not_some x e)
placeless refusals.Store x e = absurd (not_some x e)
placeless refusals.Reopen x e = absurd (not_some x e)
placeless refusals.NotADesk x e = absurd (not_some x e)
placeless refusals.Version x e = absurd (not_some x e)
placeless refusals.File x e = absurd (not_some x e)
placeless refusals.Exists x e = absurd (not_some x e)
placeless refusals.Minute x e = absurd (not_some x e)
placeless refusals.Owner x e = absurd (not_some x e)
placeless refusals.Mismatch x e = tells_same refused.Mismatch x e
placeless refusals.BadHead x e = tells_same refused.BadHead x e
placeless refusals.BadField x e = tells_same refused.BadField x e
placeless refusals.BadBody x e = tells_same refused.BadBody x e
placeless refusals.NoRoute x e = tells_same refused.NoRoute x e
placeless refusals.BadMethod x e = absurd (not_some x e)
placeless refusals.LengthNeeded x e = tells_same refused.LengthNeeded x e
placeless refusals.TooLarge x e = tells_same refused.TooLarge x e
placeless refusals.NotSupported x e = tells_same refused.NotSupported x e

-- ---- outages

-- the outage of a row, if it is one's
outage_at : Refusal → Option Outage
outage_at refusals.NoMemory = Some outage.NoMemory
outage_at refusals.Store = Some outage.Store
outage_at refusals.Reopen = Some outage.Reopen
outage_at refusals.NotADesk = Some outage.NotADesk
outage_at _ = None

some_at : (o : Outage) → outage_at (outage_refusal o) ≡ Some o
unfolding outage_at
some_at outage.NoMemory = refl
some_at outage.Store = refl
some_at outage.Reopen = refl
some_at outage.NotADesk = refl

none_at : (x : Refused) → outage_at (refusal_of x) ≡ None
unfolding outage_at
none_at refused.Short = refl
none_at _ = refl

-- the answer that an outage's row is says that outage
pub outage_told : (o : Outage) (a : TaskAnswer) → IsRefusal (outage_refusal o) a → a ≡ answer.Unavailable o
outage_told o (answer.Reply reply) told = absurd told
outage_told o (answer.Shown shown) told = absurd told
outage_told o (answer.Verdict verdict facts) told = absurd told
outage_told o (answer.Facts facts) told = absurd told
outage_told o (answer.Refused x) told =
    let bad : None ≡ Some o = sym (none_at x) ∙ (ap outage_at told.of ∙ some_at o) in absurd (let no : ⊥ = cc in no)
outage_told o (answer.Unavailable p) told =
    let both : Some p ≡ Some o = sym (some_at p) ∙ (ap outage_at told ∙ some_at o) in
    let same : p ≡ o = cc in ap answer.Unavailable same
