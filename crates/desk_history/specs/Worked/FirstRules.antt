-- A desk with one officer, which gets a second.
use Rattle.std.specs.Prelude.{◌≡◌, true, false, List, [], ◌∷◌, map, codes}
use Rattle.base.specs.declared.refusal.Refusal.TheVariants as refusals
use Rattle.desk_types.specs.declared.command.Call.{Call}
use Rattle.desk_types.specs.declared.command.Command.TheVariants as command
use Rattle.desk_types.specs.declared.reply.Reply.TheVariants as replies
use Rattle.desk_history.specs.Calls.{First, History, item, under}
use Rattle.desk_history.specs.Runs.{answers, answers_by, is_legal, run, run_by}
use Rattle.desk_history.specs.Tables.{MigratedRow, tables}
use Rattle.desk_history.specs.Worked.{Step, accepted, answers_of, by, calls_of, confirmed, counts, digest, grub, otto, otto_added, people_added, proposed, raise, refused, with_people}
use Rattle.desk_history.specs.Worked.Imports.{lists}
use Rattle.desk_history.specs.declared.answer.Answer.TheVariants.{Repeated}

-- revokes a certificate
abbrev revoke_c : Call
revoke_c = by (codes "olga") (codes "olga-6") (command.RevokeCertificate (digest 12))

-- by the first rules the entries that olga names are in force at once
abbrev pub first_steps : List Step
first_steps = with_people (
    accepted (by (codes "olga") (codes "olga-1") lists) (counts 1 1 0 1)
    ∷ accepted (by (codes "olga") (codes "olga-2") lists) (counts 0 0 0 1)
    ∷ accepted (by (codes "olga") (codes "olga-3") (raise (codes "grub") 3 2024010100)) replies.Raised
    ∷ refused (by (codes "olga") (codes "olga-4") (raise (codes "grub") 2 2024010101)) refusals.NotHigher
    ∷ refused (by (codes "olga") (codes "olga-5") (raise (codes "grub") 4 2024010100)) refusals.StampNotLater
    ∷ accepted revoke_c replies.Revoked
    ∷ refused (by (codes "olga") (codes "olga-7") (command.RevokeCertificate (digest 12))) refusals.AlreadyRevoked
    ∷ refused (by (codes "olga") (codes "olga-8") (command.Confirm 1)) refusals.NoSuchProposal
    ∷ [])

-- the history that they leave
abbrev pub first_history : History
first_history = run_by First [] (calls_of first_steps)

-- by the second rules olga's old key gives its old reply, and her new entries are only proposed
abbrev pub second_steps : List Step
second_steps =
    otto_added
    ∷ record { call = by (codes "olga") (codes "olga-1") lists; answer = Repeated (counts 1 1 0 1) }
    ∷ refused (by (codes "olga") (codes "olga-9") (command.RevokeDigest (digest 170))) refusals.AlreadyRevoked
    ∷ accepted (by (codes "olga") (codes "olga-10") (command.RevokeDigest (digest 187))) (proposed 1)
    ∷ accepted (by (codes "otto") (codes "otto-1") (command.Confirm 1)) (confirmed 1 1 0 0 0)
    ∷ []

-- the history after both
abbrev pub second_history : History
second_history = run first_history (calls_of second_steps)

-- each call has this answer
abbrev pub AnswersFirst : Type 0
AnswersFirst =
    (answers_by First [] (calls_of first_steps) ≡ answers_of first_steps)
    × (answers first_history (calls_of second_steps) ≡ answers_of second_steps)

-- the row of the ten calls by the first rules
abbrev ten : MigratedRow
ten = record { id = 1; calls = 10 }

-- the entries in force, and the count of calls that were accepted by the first rules
abbrev pub TablesFirst : Type 0
TablesFirst =
    ((tables (codes "owner") first_history).revoked_digests ≡ digest 170 ∷ [])
    × ((tables (codes "owner") first_history).revoked_certificates ≡ digest 12 ∷ digest 187 ∷ [])
    × ((tables (codes "owner") first_history).components ≡ grub 3 ∷ [])
    × ((tables (codes "owner") first_history).proposals ≡ [])
    × ((tables (codes "owner") first_history).migrated ≡ ten ∷ [])
    × ((tables (codes "owner") second_history).revoked_digests ≡ digest 187 ∷ digest 170 ∷ [])
    × ((tables (codes "owner") second_history).migrated ≡ ten ∷ [])

-- the people, added by the first rules
abbrev people_first : History
people_first = map (λ i. under First i.call) people_added

-- a call by the first rules is legal at the beginning, and not after one by the second
abbrev pub OrdersFirst : Type 0
OrdersFirst =
    (is_legal first_history ≡ true)
    × (is_legal second_history ≡ true)
    × (is_legal (under First revoke_c ∷ people_first) ≡ true)
    × (is_legal (under First revoke_c ∷ item otto ∷ people_first) ≡ false)
