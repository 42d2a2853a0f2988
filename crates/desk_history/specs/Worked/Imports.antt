-- Imports of revocations.
use Rattle.std.specs.Prelude.{◌≡◌, List, [], ◌∷◌, codes, Some, None}
use Rattle.base.specs.declared.refusal.Refusal.TheVariants as refusals
use Rattle.desk_history.specs.Calls.{History, item}
use Rattle.desk_history.specs.Level.{level, stamp}
use Rattle.desk_history.specs.Runs.{answers, run}
use Rattle.desk_history.specs.Tables.{tables}
use Rattle.desk_history.specs.Worked.{Step, accepted, answers_of, by, calls_of, confirmed, digest, grub, imported, officers_added, proposed, refused, with_officers}
use Rattle.desk_types.specs.declared.command.Command.TheVariants as command
use Rattle.desk_types.specs.declared.command.Command.{Command}

-- signature lists with an image's digest aa, a certificate's bb, and an entry of another kind
abbrev pub lists : Command
lists = imported None 1 (digest 170 ∷ []) (digest 187 ∷ []) []

-- a table with the image's digest aa, and grub of generation 2 and then 3
abbrev pub table : Command
table = imported (Some 2024010100) 0 (digest 170 ∷ []) [] (grub 2 ∷ grub 3 ∷ [])

-- the same without a stamp
abbrev pub unstamped : Command
unstamped = imported None 0 (digest 170 ∷ []) [] (grub 2 ∷ grub 3 ∷ [])

-- signature lists are imported, twice
abbrev pub listed_steps : List Step
listed_steps = with_officers (
    accepted (by (codes "olga") (codes "olga-1") lists) (proposed 1)
    ∷ accepted (by (codes "otto") (codes "otto-1") (command.Confirm 1)) (confirmed 1 1 1 0 1)
    ∷ accepted (by (codes "olga") (codes "olga-2") lists) (proposed 2)
    ∷ accepted (by (codes "otto") (codes "otto-2") (command.Confirm 2)) (confirmed 2 0 0 0 1)
    ∷ [])

-- the table is imported, first without a stamp
abbrev pub tabled_steps : List Step
tabled_steps = with_officers (
    refused (by (codes "olga") (codes "olga-1") unstamped) refusals.StampNotLater
    ∷ accepted (by (codes "olga") (codes "olga-2") table) (proposed 1)
    ∷ accepted (by (codes "otto") (codes "otto-1") (command.Confirm 1)) (confirmed 1 1 0 1 0)
    ∷ accepted (by (codes "olga") (codes "olga-3") unstamped) (proposed 2)
    ∷ accepted (by (codes "otto") (codes "otto-2") (command.Confirm 2)) (confirmed 2 0 0 0 0)
    ∷ [])

-- the accepted calls of the first steps
abbrev pub listed_history : History
listed_history =
    item (by (codes "otto") (codes "otto-2") (command.Confirm 2))
    ∷ item (by (codes "olga") (codes "olga-2") lists)
    ∷ item (by (codes "otto") (codes "otto-1") (command.Confirm 1))
    ∷ item (by (codes "olga") (codes "olga-1") lists)
    ∷ officers_added

-- and of the second
abbrev pub tabled_history : History
tabled_history =
    item (by (codes "otto") (codes "otto-2") (command.Confirm 2))
    ∷ item (by (codes "olga") (codes "olga-3") unstamped)
    ∷ item (by (codes "otto") (codes "otto-1") (command.Confirm 1))
    ∷ item (by (codes "olga") (codes "olga-2") table)
    ∷ officers_added

-- each call has this answer
abbrev pub AnswersImports : Type 0
AnswersImports =
    (answers [] (calls_of listed_steps) ≡ answers_of listed_steps)
    × (answers [] (calls_of tabled_steps) ≡ answers_of tabled_steps)

-- and these are the calls that were accepted
abbrev pub KeepsImports : Type 0
KeepsImports =
    (run [] (calls_of listed_steps) ≡ listed_history) × (run [] (calls_of tabled_steps) ≡ tabled_history)

-- the rows, the level and its stamp after them
abbrev pub TablesImports : Type 0
TablesImports =
    ((tables (codes "owner") listed_history).revoked_digests ≡ digest 170 ∷ [])
    × ((tables (codes "owner") listed_history).revoked_certificates ≡ digest 187 ∷ [])
    × ((tables (codes "owner") tabled_history).components ≡ grub 3 ∷ [])
    × (level tabled_history (codes "grub") ≡ Some 3)
    × (stamp tabled_history ≡ 2024010100)
