-- Rises of the SBAT level.
use Rattle.std.specs.Prelude.{◌≡◌, ℕ, List, [], ◌∷◌, codes, Some, None}
use Rattle.base.specs.declared.refusal.Refusal.TheVariants as refusals
use Rattle.desk_types.specs.declared.command.Command.TheVariants as command
use Rattle.desk_types.specs.declared.facts.Facts.{Facts}
use Rattle.desk_types.specs.declared.reply.Reply.TheVariants as replies
use Rattle.desk_history.specs.Calls.{History, item}
use Rattle.desk_history.specs.Level.{level, stamp}
use Rattle.desk_history.specs.Runs.{answers, run}
use Rattle.desk_history.specs.Tables.{tables}
use Rattle.desk_history.specs.Verdicts.{verdict}
use Rattle.desk_history.specs.declared.finding.Verdict.TheVariants as says
use Rattle.desk_history.specs.Worked.{Step, accepted, answers_of, by, calls_of, confirmed, digest, grub, image, officers_added, people_added, proposed, raise, refused, submit, with_officers}

-- an image with this generation of grub
abbrev pub with_grub : ℕ → Facts
with_grub generation = image 21 22 22 [] (grub generation ∷ [])

-- calls that raise the level, and the images that it bars
abbrev pub steps : List Step
steps = with_officers (
    accepted (by (codes "olga") (codes "olga-1") (raise (codes "grub") 3 2024010100)) (proposed 1)
    ∷ accepted (by (codes "otto") (codes "otto-1") (command.Confirm 1)) (confirmed 1 0 0 1 0)
    ∷ refused (by (codes "olga") (codes "olga-2") (raise (codes "grub") 2 2024010101)) refusals.NotHigher
    ∷ refused (by (codes "olga") (codes "olga-3") (raise (codes "grub") 4 2024010100)) refusals.StampNotLater
    ∷ refused (by (codes "olga") (codes "olga-4") (raise (codes "sbat") 2 2024010101)) refusals.NotHigher
    ∷ refused (by (codes "ann") (codes "ann-1") (submit (with_grub 2))) refusals.Revoked
    ∷ accepted (by (codes "olga") (codes "olga-5") (command.ListDigest (digest 22))) replies.Listed
    ∷ [])

-- the calls that were accepted, the newest first
abbrev pub history : History
history =
    item (by (codes "olga") (codes "olga-5") (command.ListDigest (digest 22)))
    ∷ item (by (codes "otto") (codes "otto-1") (command.Confirm 1))
    ∷ item (by (codes "olga") (codes "olga-1") (raise (codes "grub") 3 2024010100))
    ∷ officers_added

-- each call has this answer
abbrev pub AnswersLevels : Type 0
AnswersLevels = answers [] (calls_of steps) ≡ answers_of steps

-- and these are the calls that were accepted
abbrev pub KeepsLevels : Type 0
KeepsLevels = run [] (calls_of steps) ≡ history

-- before any call the stamp is that of shim's first level; generations are compared as numbers, not
-- as texts
abbrev pub SaysLevels : Type 0
SaysLevels =
    (stamp people_added ≡ 2021030218)
    × (level people_added (codes "grub") ≡ None)
    × (level people_added (codes "sbat") ≡ Some 1)
    × (stamp history ≡ 2024010100)
    × (level history (codes "grub") ≡ Some 3)
    × (verdict history (with_grub 2) ≡ says.Sbat (record { place = 0; needs = 3 }))
    × (verdict history (with_grub 3) ≡ says.Allowed)
    × (verdict history (with_grub 10) ≡ says.Allowed)
    × (verdict history (with_grub 4294967295) ≡ says.Allowed)

-- the rows of the level and its stamp
abbrev pub TablesLevels : Type 0
TablesLevels =
    ((tables (codes "owner") history).components ≡ grub 3 ∷ [])
    × ((tables (codes "owner") history).desk.stamp ≡ 2024010100)
