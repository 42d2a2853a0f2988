-- The signed file of a request, returned, and its certificate, listed, revoked and taken off the
-- list.
use Rattle.std.specs.Prelude.{◌≡◌, ℕ, List, [], ◌∷◌, ◌++◌, map, codes}
use Rattle.base.specs.declared.refusal.Refusal.TheVariants as refusals
use Rattle.desk_types.specs.declared.command.Command.{Command}
use Rattle.desk_types.specs.declared.command.Command.TheVariants as command
use Rattle.desk_types.specs.declared.facts.Facts.{Facts}
use Rattle.desk_types.specs.declared.kind.ListedKind.TheVariants as kinds
use Rattle.desk_types.specs.declared.reply.Reply.TheVariants as replies
use Rattle.desk_types.specs.declared.state.State.TheVariants as states
use Rattle.desk_types.specs.declared.vote.Vote.TheVariants.{Yes}
use Rattle.desk_history.specs.Calls.{History, item}
use Rattle.desk_history.specs.Requests.{state}
use Rattle.desk_history.specs.Runs.{answers, run}
use Rattle.desk_history.specs.Tables.{Tables, tables}
use Rattle.desk_history.specs.Verdicts.{verdict}
use Rattle.desk_history.specs.declared.finding.Verdict.TheVariants as says
use Rattle.desk_history.specs.Worked.{Step, accepted, answers_of, by, calls_of, confirmed, digest, give_back, image, otto, otto_added, proposed, refused, reviewed, submit, vote}
use Rattle.desk_history.specs.Worked.Reviews.{a}
use Rattle.desk_history.specs.Worked.Reviews as reviews

-- the certificate C, by the digest of its TBSCertificate
abbrev pub c : List ℕ
c = digest 12

-- A with a signature that carries C
abbrev pub signed : Facts
signed = image 13 11 11 (c ∷ []) []

-- the same with another byte in its hashed part
abbrev pub changed : Facts
changed = image 14 15 15 (c ∷ []) []

-- lists C
abbrev pub list_c : Command
list_c = command.ListCertificate (record { tbs = c; body = codes "30053003020101" })

-- takes C off the list
abbrev pub unlist_c : Command
unlist_c = command.Unlist (record { kind = kinds.Certificate; digest = c })

-- after the reviews the signed file is returned
abbrev pub returned : List Step
returned =
    refused (by (codes "sid") (codes "sid-1") (give_back 1 signed)) refusals.NotListed
    ∷ accepted (by (codes "olga") (codes "olga-1") list_c) replies.Listed
    ∷ refused (by (codes "olga") (codes "olga-2") list_c) refusals.AlreadyListed
    ∷ refused (by (codes "sid") (codes "sid-2") (give_back 1 changed)) refusals.DigestDiffers
    ∷ accepted (by (codes "sid") (codes "sid-3") (give_back 1 signed)) (replies.Returned 1)
    ∷ refused (by (codes "sid") (codes "sid-4") (give_back 1 signed)) refusals.WrongState
    ∷ refused (by (codes "ann") (codes "ann-3") (command.Withdraw 1)) refusals.WrongState
    ∷ refused (by (codes "ann") (codes "ann-4") (command.Withdraw 2)) refusals.NoSuchRequest
    ∷ []

-- then C is revoked, and taken off the list
abbrev pub revoked : List Step
revoked =
    otto_added
    ∷ accepted (by (codes "olga") (codes "olga-3") (command.RevokeCertificate c)) (proposed 1)
    ∷ accepted (by (codes "otto") (codes "otto-1") (command.Confirm 1)) (confirmed 1 0 1 0 0)
    ∷ refused (by (codes "olga") (codes "olga-4") (command.RevokeCertificate c)) refusals.AlreadyRevoked
    ∷ accepted (by (codes "olga") (codes "olga-5") unlist_c) replies.Unlisted
    ∷ refused (by (codes "olga") (codes "olga-6") unlist_c) refusals.NotThere
    ∷ refused (by (codes "ann") (codes "ann-5") (submit signed)) refusals.Revoked
    ∷ []

-- the history after the return
abbrev pub after_return : History
after_return =
    item (by (codes "sid") (codes "sid-3") (give_back 1 signed))
    ∷ item (by (codes "olga") (codes "olga-1") list_c)
    ∷ reviews.history

-- after the revocation
abbrev pub after_revocation : History
after_revocation =
    item (by (codes "otto") (codes "otto-1") (command.Confirm 1))
    ∷ item (by (codes "olga") (codes "olga-3") (command.RevokeCertificate c))
    ∷ item otto
    ∷ after_return

-- after C was taken off the list
abbrev pub after_unlisting : History
after_unlisting = item (by (codes "olga") (codes "olga-5") unlist_c) ∷ after_revocation

-- each call has this answer
abbrev pub AnswersReturns : Type 0
AnswersReturns = answers reviews.history (calls_of (returned ++ revoked)) ≡ answers_of (returned ++ revoked)

-- and these are the calls that were accepted
abbrev pub KeepsReturns : Type 0
KeepsReturns =
    (run reviews.history (calls_of returned) ≡ after_return)
    × (run after_return (calls_of revoked) ≡ after_unlisting)

-- the tables after the return
abbrev day : Tables
day = tables (codes "owner") after_return

-- the rows after the return, and after C was taken off the list
abbrev pub TablesReturns : Type 0
TablesReturns =
    (map (λ r. r.state) day.requests ≡ states.Rejected ∷ states.Signed ∷ [])
    × (map (λ r. r.file) day.returns ≡ digest 13 ∷ [])
    × (map (λ e. e.body) day.listed ≡ codes "30053003020101" ∷ [])
    × ((tables (codes "owner") after_unlisting).listed ≡ [])
    × ((tables (codes "owner") after_unlisting).revoked_certificates ≡ c ∷ [])

-- the verdicts on the images: before the revocation, after it, and after C was taken off the list
abbrev pub SaysReturns : Type 0
SaysReturns =
    (verdict after_return signed ≡ says.Allowed)
    × (verdict after_return a ≡ says.NotListed)
    × (verdict after_revocation signed ≡ says.DbxCertificate)
    × (verdict after_unlisting signed ≡ says.DbxCertificate)

-- the digest of A is revoked before the signed file is returned
abbrev pub barred : List Step
barred =
    otto_added
    ∷ accepted (by (codes "olga") (codes "olga-1") list_c) replies.Listed
    ∷ accepted (by (codes "olga") (codes "olga-2") (command.RevokeDigest (digest 11))) (proposed 1)
    ∷ accepted (by (codes "otto") (codes "otto-1") (command.Confirm 1)) (confirmed 1 1 0 0 0)
    ∷ refused (by (codes "sid") (codes "sid-1") (give_back 1 signed)) refusals.Revoked
    ∷ []

-- then the file is refused, and the request stays approved
abbrev pub BarsReturns : Type 0
BarsReturns =
    (answers reviews.history (calls_of barred) ≡ answers_of barred)
    × (state (run reviews.history (calls_of barred)) 1 ≡ states.Approved)

-- an image whose length needs padding, so that a signature of it holds another digest: 17, and
-- padded 18
abbrev pub unpadded : Facts
unpadded = image 16 17 18 [] []

-- a file signed without padding, and one signed with it
abbrev pub signed_unpadded : Facts
signed_unpadded = image 19 17 17 (c ∷ []) []

-- the same, padded
abbrev pub signed_padded : Facts
signed_padded = image 20 18 18 (c ∷ []) []

-- C is listed, and request 3 is approved
abbrev approved : List Step
approved =
    accepted (by (codes "olga") (codes "olga-1") list_c) replies.Listed
    ∷ accepted (by (codes "ann") (codes "ann-3") (submit unpadded)) (replies.Submitted 3)
    ∷ accepted (by (codes "rita") (codes "rita-5") (vote 3 Yes)) (reviewed 3 states.Open)
    ∷ accepted (by (codes "raul") (codes "raul-2") (vote 3 Yes)) (reviewed 3 states.Approved)
    ∷ []

-- the steps in which sid returns this file for request 3
abbrev taking : Facts → List Step
taking x = approved ++ accepted (by (codes "sid") (codes "sid-1") (give_back 3 x)) (replies.Returned 3) ∷ []

-- either signed file is accepted
abbrev pub TakesEither : Type 0
TakesEither =
    (answers reviews.history (calls_of (taking signed_unpadded)) ≡ answers_of (taking signed_unpadded))
    × (answers reviews.history (calls_of (taking signed_padded)) ≡ answers_of (taking signed_padded))
