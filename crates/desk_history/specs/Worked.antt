-- Worked histories: calls and their answers, written by hand and computed by the definitions. This
-- file has the words that they share.
use Rattle.std.specs.Prelude.{ℕ, List, [], ◌∷◌, map, replicate, codes, Option}
use Rattle.base.specs.declared.refusal.Refusal.{Refusal}
use Rattle.sbat.specs.declared.component.Component.{Component}
use Rattle.desk_types.specs.declared.caller.Caller.TheVariants as callers
use Rattle.desk_types.specs.declared.command.Call.{Call}
use Rattle.desk_types.specs.declared.command.Command.{Command}
use Rattle.desk_types.specs.declared.command.Command.TheVariants as command
use Rattle.desk_types.specs.declared.facts.Facts.{Facts}
use Rattle.desk_types.specs.declared.reply.Counts.{Counts}
use Rattle.desk_types.specs.declared.reply.Reply.{Reply}
use Rattle.desk_types.specs.declared.reply.Reply.TheVariants as replies
use Rattle.desk_types.specs.declared.role.Role.{Role}
use Rattle.desk_types.specs.declared.role.Role.TheVariants as roles
use Rattle.desk_types.specs.declared.state.State.{State}
use Rattle.desk_types.specs.declared.vote.Vote.{Vote}
use Rattle.desk_history.specs.Calls.{History, item}
use Rattle.desk_history.specs.declared.answer.Answer.{Answer}
use Rattle.desk_history.specs.declared.answer.Answer.TheVariants.{Accepted, Refused}
pub mod FirstRules
pub mod Impact
pub mod Imports
pub mod Keys
pub mod Levels
pub mod Proposals
pub mod Returns
pub mod Reviews
pub mod Rivals
pub mod Showing

-- a call and its answer
pub record Step : Type 0 where
  pub call : Call
  pub answer : Answer

-- the calls of steps
abbrev pub calls_of : List Step → List Call
calls_of steps = map (λ s. s.call) steps

-- the answers of steps
abbrev pub answers_of : List Step → List Answer
answers_of steps = map (λ s. s.answer) steps

-- a person's call, under a key
abbrev pub by : List ℕ → List ℕ → Command → Call
by who key given = record { caller = callers.Person who; key = key; command = given }

-- the call is accepted, with this reply
abbrev pub accepted : Call → Reply → Step
accepted call reply = record { call = call; answer = Accepted reply }

-- the call is refused
abbrev pub refused : Call → Refusal → Step
refused call refusal = record { call = call; answer = Refused refusal }

-- a digest of this byte alone
abbrev pub digest : ℕ → List ℕ
digest byte = replicate 32 byte

-- the console adds a person, under the name as the key
abbrev pub person : List ℕ → Role → ℕ → Call
person name role token = record {
  caller = callers.Console;
  key = name;
  command = command.AddPerson (record { name = name; role = role; token = digest token });
}

-- the same as a step
abbrev pub added : List ℕ → Role → ℕ → Step
added name role token = accepted (person name role token) (replies.Added name)

-- the people of a day: ann submits, rita, raul and rosa review, sid signs, olga is the officer
abbrev pub with_people : List Step → List Step
with_people steps =
    added (codes "ann") roles.Submitter 1
    ∷ added (codes "rita") roles.Reviewer 2
    ∷ added (codes "raul") roles.Reviewer 3
    ∷ added (codes "rosa") roles.Reviewer 4
    ∷ added (codes "sid") roles.Signer 5
    ∷ added (codes "olga") roles.Officer 6
    ∷ steps

-- the history of the calls that added them, the newest first
abbrev pub people_added : History
people_added =
    item (person (codes "olga") roles.Officer 6)
    ∷ item (person (codes "sid") roles.Signer 5)
    ∷ item (person (codes "rosa") roles.Reviewer 4)
    ∷ item (person (codes "raul") roles.Reviewer 3)
    ∷ item (person (codes "rita") roles.Reviewer 2)
    ∷ item (person (codes "ann") roles.Submitter 1)
    ∷ []

-- the second officer, otto
abbrev pub otto : Call
otto = person (codes "otto") roles.Officer 7

-- he is added
abbrev pub otto_added : Step
otto_added = added (codes "otto") roles.Officer 7

-- the people of a day on which something is revoked, he among them
abbrev pub with_officers : List Step → List Step
with_officers steps = with_people (otto_added ∷ steps)

-- the history of the calls that added them, the newest first
abbrev pub officers_added : History
officers_added = item otto ∷ people_added

-- the facts of an image of 1,024 bytes: the byte of its file's SHA-256, of its digest and of the
-- digest that a signature of it holds, the certificates that it carries, and its components
abbrev pub image : ℕ → ℕ → ℕ → List (List ℕ) → List Component → Facts
image file plain signing carried components = record {
  extent = record { length = 1024; gap = 0 };
  file = digest file;
  digest = digest plain;
  signing = digest signing;
  carried = carried;
  components = components;
}

-- asks for a signature of the image of these facts
abbrev pub submit : Facts → Command
submit x = command.Submit (record { title = codes "shim 15.8"; facts = x })

-- votes on a request, with a note
abbrev pub vote : ℕ → Vote → Command
vote request given = command.Review (record { request = request; vote = given; note = codes "looked" })

-- the reply to a vote, with the state after it
abbrev pub reviewed : ℕ → State → Reply
reviewed request state = replies.Reviewed (record { request = request; state = state })

-- returns the signed file of a request, by its facts
abbrev pub give_back : ℕ → Facts → Command
give_back request x = command.Return (record { request = request; facts = x })

-- the component grub of this generation
abbrev pub grub : ℕ → Component
grub generation = record { name = codes "grub"; generation = generation }

-- raises a name to a generation, with a stamp
abbrev pub raise : List ℕ → ℕ → ℕ → Command
raise name generation stamp =
    command.RaiseLevel (record { component = record { name = name; generation = generation }; stamp = stamp })

-- an import with this stamp, which skips `passed` entries
abbrev pub imported : Option ℕ → ℕ → List (List ℕ) → List (List ℕ) → List Component → Command
imported stamp passed digests certificates components =
    command.ImportRevocations (record {
      stamp = stamp;
      passed = passed;
      digests = digests;
      certificates = certificates;
      components = components;
    })

-- these counts of new digests, new certificates, raised names and skipped entries
abbrev pub numbers : ℕ → ℕ → ℕ → ℕ → Counts
numbers digests certificates components passed =
    record { digests = digests; certificates = certificates; components = components; passed = passed }

-- the reply to an import by the first rules
abbrev pub counts : ℕ → ℕ → ℕ → ℕ → Reply
counts digests certificates components passed = replies.Imported (numbers digests certificates components passed)

-- the reply to a proposal
abbrev pub proposed : ℕ → Reply
proposed number = replies.Proposed number

-- the reply to the confirmation of this proposal
abbrev pub confirmed : ℕ → ℕ → ℕ → ℕ → ℕ → Reply
confirmed number digests certificates components passed =
    replies.Confirmed (record { proposal = number; counts = numbers digests certificates components passed })
