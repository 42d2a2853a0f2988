-- A key that is given again.
use Rattle.std.specs.Prelude.{◌≡◌, List, [], ◌∷◌, length, codes}
use Rattle.base.specs.declared.refusal.Refusal.TheVariants as refusals
use Rattle.desk_types.specs.declared.command.Command.TheVariants as command
use Rattle.desk_types.specs.declared.caller.Caller.TheVariants as callers
use Rattle.desk_types.specs.declared.reply.Reply.TheVariants as replies
use Rattle.desk_types.specs.declared.role.Role.TheVariants as roles
use Rattle.desk_history.specs.Calls.{History, item}
use Rattle.desk_history.specs.Requests.{requests}
use Rattle.desk_history.specs.Runs.{answers, run}
use Rattle.desk_history.specs.declared.answer.Answer.TheVariants.{Repeated}
use Rattle.desk_history.specs.Worked.{Step, accepted, answers_of, by, calls_of, digest, people_added, person, refused, submit, with_people}
use Rattle.desk_history.specs.Worked.Reviews.{a}

-- keys given again, and a name that is taken
abbrev pub steps : List Step
steps = with_people (
    accepted (by (codes "ann") (codes "k1") (submit a)) (replies.Submitted 1)
    ∷ record { call = by (codes "ann") (codes "k1") (submit a); answer = Repeated (replies.Submitted 1) }
    ∷ refused (by (codes "ann") (codes "k1") (command.Submit (record { title = codes "shim 15.9"; facts = a }))) refusals.KeyReused
    ∷ accepted (by (codes "rita") (codes "k1") (submit a)) (replies.Submitted 2)
    ∷ accepted (by (codes "ann") (codes "k2") (command.Withdraw 1)) (replies.Withdrawn 1)
    ∷ record { call = by (codes "ann") (codes "k1") (submit a); answer = Repeated (replies.Submitted 1) }
    ∷ refused (by (codes "ann") (codes "k1") (command.RevokeDigest (digest 1))) refusals.KeyReused
    ∷ refused (record { caller = callers.Console; key = codes "k1"; command = command.Withdraw 1 }) refusals.NotYourRole
    ∷ refused (person (codes "console") roles.Officer 9) refusals.NameTaken
    ∷ refused (person (codes "zoe") roles.Officer 1) refusals.NameTaken
    ∷ [])

-- the calls that were accepted, the newest first
abbrev pub history : History
history =
    item (by (codes "ann") (codes "k2") (command.Withdraw 1))
    ∷ item (by (codes "rita") (codes "k1") (submit a))
    ∷ item (by (codes "ann") (codes "k1") (submit a))
    ∷ people_added

-- each call has this answer
abbrev pub AnswersKeys : Type 0
AnswersKeys = answers [] (calls_of steps) ≡ answers_of steps

-- a repeated submission makes no second request
abbrev pub KeepsKeys : Type 0
KeepsKeys = (run [] (calls_of steps) ≡ history) × (length (requests history) ≡ 2)
