-- The impact of an import that names a digest, a certificate and a component: four requests, of
-- which each is barred for another reason, one of them before.
use Rattle.std.specs.Prelude.{◌≡◌, true, false, List, [], ◌∷◌, ◌++◌, codes, Some, Ok}
use Rattle.desk_types.specs.declared.command.Command.{Command}
use Rattle.desk_types.specs.declared.command.Command.TheVariants as command
use Rattle.desk_types.specs.declared.facts.Facts.{Facts}
use Rattle.desk_types.specs.declared.reply.Reply.TheVariants as replies
use Rattle.desk_types.specs.declared.state.State.TheVariants as states
use Rattle.desk_types.specs.declared.vote.Vote.TheVariants.{Yes}
use Rattle.desk_history.specs.Calls.{History, item}
use Rattle.desk_history.specs.Images.{images}
use Rattle.desk_history.specs.declared.impact.WhichFile.TheVariants as files
use Rattle.desk_history.specs.declared.impact.Rule.TheVariants as rules
use Rattle.desk_history.specs.Impact.{NewlyBarred, impact}
use Rattle.desk_history.specs.Runs.{answers, run}
use Rattle.desk_history.specs.Verdicts.{verdict}
use Rattle.desk_history.specs.declared.finding.Verdict.TheVariants as says
use Rattle.desk_history.specs.Worked.{Step, accepted, answers_of, by, calls_of, confirmed, digest, give_back, grub, image, imported, numbers, officers_added, proposed, reviewed, submit, vote, with_officers}
use Rattle.desk_history.specs.Worked.Returns.{c, list_c}

-- an image that the import names by its digest
abbrev pub named : Facts
named = image 30 31 31 [] []

-- an image that it doesn't name, and its signed file, which carries the certificate C
abbrev pub unsigned : Facts
unsigned = image 40 41 41 [] []

-- the signed file
abbrev pub signed : Facts
signed = image 42 41 41 (c ∷ []) []

-- an image with an old component
abbrev pub old : Facts
old = image 50 51 51 [] (grub 2 ∷ [])

-- an image whose digest is revoked before
abbrev pub revoked : Facts
revoked = image 60 61 61 [] []

-- requests for the four; the second is signed, the third's image is listed by its digest, and the
-- fourth's digest is revoked
abbrev pub requested : List Step
requested =
    accepted (by (codes "ann") (codes "ann-1") (submit named)) (replies.Submitted 1)
    ∷ accepted (by (codes "ann") (codes "ann-2") (submit unsigned)) (replies.Submitted 2)
    ∷ accepted (by (codes "rita") (codes "rita-1") (vote 2 Yes)) (reviewed 2 states.Open)
    ∷ accepted (by (codes "raul") (codes "raul-1") (vote 2 Yes)) (reviewed 2 states.Approved)
    ∷ accepted (by (codes "olga") (codes "olga-1") list_c) replies.Listed
    ∷ accepted (by (codes "sid") (codes "sid-1") (give_back 2 signed)) (replies.Returned 2)
    ∷ accepted (by (codes "ann") (codes "ann-3") (submit old)) (replies.Submitted 3)
    ∷ accepted (by (codes "ann") (codes "ann-4") (submit revoked)) (replies.Submitted 4)
    ∷ accepted (by (codes "olga") (codes "olga-2") (command.ListDigest (digest 51))) replies.Listed
    ∷ accepted (by (codes "olga") (codes "olga-3") (command.RevokeDigest (digest 61))) (proposed 1)
    ∷ accepted (by (codes "otto") (codes "otto-1") (command.Confirm 1)) (confirmed 1 1 0 0 0)
    ∷ []

-- then olga imports both digests, the certificate C and the component grub 3
abbrev pub import : Command
import = imported (Some 2024010100) 1 (digest 31 ∷ digest 61 ∷ []) (c ∷ []) (grub 3 ∷ [])

-- the calls before the Confirm
abbrev pub before_steps : List Step
before_steps = with_officers (requested ++ accepted (by (codes "olga") (codes "olga-4") import) (proposed 2) ∷ [])

-- the history before the Confirm, the newest call first
abbrev pub before : History
before =
    item (by (codes "olga") (codes "olga-4") import)
    ∷ item (by (codes "otto") (codes "otto-1") (command.Confirm 1))
    ∷ item (by (codes "olga") (codes "olga-3") (command.RevokeDigest (digest 61)))
    ∷ item (by (codes "olga") (codes "olga-2") (command.ListDigest (digest 51)))
    ∷ item (by (codes "ann") (codes "ann-4") (submit revoked))
    ∷ item (by (codes "ann") (codes "ann-3") (submit old))
    ∷ item (by (codes "sid") (codes "sid-1") (give_back 2 signed))
    ∷ item (by (codes "olga") (codes "olga-1") list_c)
    ∷ item (by (codes "raul") (codes "raul-1") (vote 2 Yes))
    ∷ item (by (codes "rita") (codes "rita-1") (vote 2 Yes))
    ∷ item (by (codes "ann") (codes "ann-2") (submit unsigned))
    ∷ item (by (codes "ann") (codes "ann-1") (submit named))
    ∷ officers_added

-- each call has its answer, and the history keeps those that were accepted
abbrev pub AnswersBefore : Type 0
AnswersBefore = (answers [] (calls_of before_steps) ≡ answers_of before_steps) × (run [] (calls_of before_steps) ≡ before)

-- the images, the newest first
abbrev pub KeepsImages : Type 0
KeepsImages =
    images before
    ≡ record { request = 4; file = files.Submitted; facts = revoked }
    ∷ record { request = 3; file = files.Submitted; facts = old }
    ∷ record { request = 2; file = files.Returned; facts = signed }
    ∷ record { request = 2; file = files.Submitted; facts = unsigned }
    ∷ record { request = 1; file = files.Submitted; facts = named }
    ∷ []

-- by the digest that the import names
abbrev pub by_digest : NewlyBarred
by_digest = record {
  image = record { request = 1; file = files.Submitted; facts = named };
  state = states.Open;
  submitter = codes "ann";
  title = codes "shim 15.8";
  allowed = false;
  rule = rules.Digest;
}

-- only the returned file of request 2, by the certificate that it alone carries; it is allowed now
abbrev pub by_certificate : NewlyBarred
by_certificate = record {
  image = record { request = 2; file = files.Returned; facts = signed };
  state = states.Signed;
  submitter = codes "ann";
  title = codes "shim 15.8";
  allowed = true;
  rule = rules.Certificate;
}

-- by its component grub 2, where the level would require 3; it is allowed now
abbrev pub by_component : NewlyBarred
by_component = record {
  image = record { request = 3; file = files.Submitted; facts = old };
  state = states.Open;
  submitter = codes "ann";
  title = codes "shim 15.8";
  allowed = true;
  rule = rules.Component (grub 2) 3;
}

-- the impact of the import: three images, in the order of their calls, and not the one that is
-- barred already; one of its two digests is new; dbx would have 124 bytes for two digests and 92
-- for a certificate
abbrev pub ShowsImpact : Type 0
ShowsImpact =
    impact before 2
    ≡ Ok (record { bars = by_digest ∷ by_certificate ∷ by_component ∷ []; adds = numbers 1 1 1 1; dbx = 216 })

-- otto confirms it
abbrev pub confirm_steps : List Step
confirm_steps = accepted (by (codes "otto") (codes "otto-2") (command.Confirm 2)) (confirmed 2 1 1 1 1) ∷ []

-- the history after it
abbrev pub confirmation : History
confirmation = item (by (codes "otto") (codes "otto-2") (command.Confirm 2)) ∷ before

-- the impact comes true: the reply has its counts, and the verdicts on the five images are these,
-- before and after
abbrev pub ComesTrue : Type 0
ComesTrue =
    (answers before (calls_of confirm_steps) ≡ answers_of confirm_steps)
    × (run before (calls_of confirm_steps) ≡ confirmation)
    × (verdict before named ≡ says.NotListed)
    × (verdict before unsigned ≡ says.NotListed)
    × (verdict before signed ≡ says.Allowed)
    × (verdict before old ≡ says.Allowed)
    × (verdict before revoked ≡ says.DbxDigest)
    × (verdict confirmation named ≡ says.DbxDigest)
    × (verdict confirmation unsigned ≡ says.NotListed)
    × (verdict confirmation signed ≡ says.DbxCertificate)
    × (verdict confirmation old ≡ says.Sbat (record { place = 0; needs = 3 }))
    × (verdict confirmation revoked ≡ says.DbxDigest)
