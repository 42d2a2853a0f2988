-- A request that is reviewed, and another one that is rejected.
use Rattle.std.specs.Prelude.{◌≡◌, List, [], ◌∷◌, map, codes}
use Rattle.base.specs.declared.refusal.Refusal.TheVariants as refusals
use Rattle.desk_types.specs.declared.facts.Facts.{Facts}
use Rattle.desk_types.specs.declared.reply.Reply.TheVariants as replies
use Rattle.desk_types.specs.declared.state.State.TheVariants as states
use Rattle.desk_types.specs.declared.vote.Vote.TheVariants.{No, Yes}
use Rattle.desk_history.specs.Calls.{History, item}
use Rattle.desk_history.specs.Runs.{answers, run}
use Rattle.desk_history.specs.Tables.{Tables, tables}
use Rattle.desk_history.specs.Worked.{Step, accepted, answers_of, by, calls_of, image, people_added, refused, reviewed, submit, vote, with_people}

-- the image A, unsigned, whose length needs no padding
abbrev pub a : Facts
a = image 10 11 11 [] []

-- the calls of a day of reviews, with their answers
abbrev pub steps : List Step
steps = with_people (
    accepted (by (codes "ann") (codes "ann-1") (submit a)) (replies.Submitted 1)
    ∷ refused (by (codes "ann") (codes "ann-2") (vote 1 Yes)) refusals.NotYourRole
    ∷ refused (by (codes "eve") (codes "eve-1") (vote 1 Yes)) refusals.UnknownCaller
    ∷ accepted (by (codes "rita") (codes "rita-1") (vote 1 Yes)) (reviewed 1 states.Open)
    ∷ refused (by (codes "rita") (codes "rita-2") (vote 1 Yes)) refusals.AlreadyReviewed
    ∷ accepted (by (codes "raul") (codes "raul-1") (vote 1 Yes)) (reviewed 1 states.Approved)
    ∷ refused (by (codes "rosa") (codes "rosa-1") (vote 1 Yes)) refusals.WrongState
    ∷ accepted (by (codes "rita") (codes "rita-3") (submit a)) (replies.Submitted 2)
    ∷ refused (by (codes "rita") (codes "rita-4") (vote 2 Yes)) refusals.OwnRequest
    ∷ accepted (by (codes "rosa") (codes "rosa-2") (vote 2 No)) (reviewed 2 states.Rejected)
    ∷ refused (by (codes "rosa") (codes "rosa-3") (vote 3 No)) refusals.NoSuchRequest
    ∷ [])

-- the calls that were accepted, the newest first
abbrev pub history : History
history =
    item (by (codes "rosa") (codes "rosa-2") (vote 2 No))
    ∷ item (by (codes "rita") (codes "rita-3") (submit a))
    ∷ item (by (codes "raul") (codes "raul-1") (vote 1 Yes))
    ∷ item (by (codes "rita") (codes "rita-1") (vote 1 Yes))
    ∷ item (by (codes "ann") (codes "ann-1") (submit a))
    ∷ people_added

-- the tables after the day
abbrev day : Tables
day = tables (codes "owner") history

-- each call of the day has this answer
abbrev pub AnswersReviews : Type 0
AnswersReviews = answers [] (calls_of steps) ≡ answers_of steps

-- and these are the calls that were accepted
abbrev pub KeepsReviews : Type 0
KeepsReviews = run [] (calls_of steps) ≡ history

-- the rows of its requests and votes, the newest first
abbrev pub TablesReviews : Type 0
TablesReviews =
    (map (λ p. p.name) day.people ≡ codes "olga" ∷ codes "sid" ∷ codes "rosa" ∷ codes "raul" ∷ codes "rita" ∷ codes "ann" ∷ [])
    × (map (λ r. r.number) day.requests ≡ 2 ∷ 1 ∷ [])
    × (map (λ r. r.submitter) day.requests ≡ codes "rita" ∷ codes "ann" ∷ [])
    × (map (λ r. r.state) day.requests ≡ states.Rejected ∷ states.Approved ∷ [])
    × (map (λ v. v.request) day.votes ≡ 2 ∷ 1 ∷ 1 ∷ [])
    × (map (λ v. v.reviewer) day.votes ≡ codes "rosa" ∷ codes "raul" ∷ codes "rita" ∷ [])
    × (map (λ m. m.number) day.calls ≡ 11 ∷ 10 ∷ 9 ∷ 8 ∷ 7 ∷ 6 ∷ 5 ∷ 4 ∷ 3 ∷ 2 ∷ 1 ∷ [])
