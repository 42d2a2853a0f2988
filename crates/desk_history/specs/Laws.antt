-- Laws of the definitions.
use Rattle.std.specs.Prelude.{◌≡◌, ◌↔◌, ℕ, ◌==◌, Bool, true, false, ◌&&◌, IsTrue, List, [], ◌++◌, ◌∷◌, bytes_eq}
use Rattle.desk_types.specs.declared.command.Call.{Call}
use Rattle.sbat.specs.declared.component.Component.{Component}
use Rattle.desk_types.specs.declared.facts.Facts.{Facts}
use Rattle.desk_types.specs.declared.kind.ListedKind.{ListedKind}
use Rattle.desk_types.specs.declared.command.Person.{Person}
use Rattle.desk_types.specs.declared.reply.Reply.{Reply}
use Rattle.desk_history.specs.Calls.{First, GoesOnFrom, History, Item, are_apart, is_same_item}
use Rattle.desk_history.specs.declared.rows.Entry.{Entry}
use Rattle.desk_history.specs.Listing.{has_entry, is_entry, is_listed, listed}
use Rattle.desk_history.specs.declared.rows.VoteRow.{VoteRow}
use Rattle.desk_history.specs.declared.rows.Minute.{Minute}
use Rattle.desk_history.specs.declared.rows.ProposalRow.{ProposalRow}
use Rattle.desk_history.specs.declared.rows.RequestRow.{RequestRow}
use Rattle.desk_history.specs.declared.rows.ReturnRow.{ReturnRow}
use Rattle.desk_history.specs.Tables.{Tables, tables}
use Rattle.desk_types.specs.Callers.{caller_name}
use Rattle.desk_history.specs.declared.finding.Verdict.TheVariants.{Allowed}
use Rattle.desk_history.specs.Lives.{Answered, Ends, Event, Holds, Life, WasAnswered, events_of}
use Rattle.desk_history.specs.Runs.{is_legal, run, run_by}
use Rattle.desk_history.specs.Verdicts.{is_barred, stands_in_db, verdict}

-- an image is allowed exactly if it isn't barred and is in db
abbrev pub AllowsExactly : Type 0
AllowsExactly =
    (cs : History) (x : Facts) → (verdict cs x ≡ Allowed) ↔ ((is_barred cs x ≡ false) × (stands_in_db cs x ≡ true))

-- an image that is barred stays barred
abbrev pub StaysBarred : Type 0
StaysBarred =
    (earlier later : History) (x : Facts) → GoesOnFrom earlier later → IsTrue (is_barred earlier x)
    → IsTrue (is_barred later x)

-- each step of a run extends those before it
abbrev pub RunsGoOn : Type 0
RunsGoOn = (cs : History) (calls more : List Call) → GoesOnFrom (run cs calls) (run cs (calls ++ more))

-- the legal histories are those that runs from an empty history leave, whose first calls may be by
-- the first rules
abbrev pub LegalIsRun : Type 0
LegalIsRun =
    (cs : History) → IsTrue (is_legal cs) ↔ ((first more : List Call) × (cs ≡ run (run_by First [] first) more))

-- each listed row is of an entry that is listed, and each listed entry has a row
abbrev pub ListsListed : Type 0
ListsListed = (cs : History) (kind : ListedKind) (digest : List ℕ) → has_entry kind digest (listed cs) ≡ is_listed kind cs digest

-- two rows have the same caller and key
abbrev pub is_call_key : Minute → Minute → Bool
is_call_key a b = bytes_eq (caller_name a.caller) (caller_name b.caller) && bytes_eq a.key b.key

-- two votes of one reviewer on one request
abbrev pub is_vote_key : VoteRow → VoteRow → Bool
is_vote_key a b = (a.request == b.request) && bytes_eq a.reviewer b.reviewer

-- No two rows of a table have the same key.
pub record StandOnce (t : Tables) : Type 0 where
  pub numbers : IsTrue (are_apart (λ (a b : Minute). a.number == b.number) t.calls)
  pub keys : IsTrue (are_apart is_call_key t.calls)
  pub names : IsTrue (are_apart (λ (a b : Person). bytes_eq a.name b.name) t.people)
  pub tokens : IsTrue (are_apart (λ (a b : Person). bytes_eq a.token b.token) t.people)
  pub requests : IsTrue (are_apart (λ (a b : RequestRow). a.number == b.number) t.requests)
  pub votes : IsTrue (are_apart is_vote_key t.votes)
  pub returns : IsTrue (are_apart (λ (a b : ReturnRow). a.request == b.request) t.returns)
  pub listed : IsTrue (are_apart (λ (a b : Entry). is_entry a.kind a.digest b) t.listed)
  pub revoked_digests : IsTrue (are_apart bytes_eq t.revoked_digests)
  pub revoked_certificates : IsTrue (are_apart bytes_eq t.revoked_certificates)
  pub components : IsTrue (are_apart (λ (a b : Component). bytes_eq a.name b.name) t.components)
  pub proposals : IsTrue (are_apart (λ (a b : ProposalRow). a.number == b.number) t.proposals)

-- in the tables of a legal history no two rows have the same key
abbrev pub RowsStandOnce : Type 0
RowsStandOnce = (owner : List ℕ) (cs : History) → IsTrue (is_legal cs) → StandOnce (tables owner cs)

-- in a legal history a caller uses each key once
abbrev pub KeysStandOnce : Type 0
KeysStandOnce = (cs : History) → IsTrue (is_legal cs) → IsTrue (are_apart is_same_item cs)

-- each history that a series of lives may leave is legal
abbrev pub EndsAreLegal : Type 0
EndsAreLegal = (lives : List Life) (cs : History) → Ends lives cs → IsTrue (is_legal cs)

-- each call of a series that was answered Ok was answered at some history
abbrev pub AnswersHaveHistories : Type 0
AnswersHaveHistories =
    (lives : List Life) (cs : History) → Ends lives cs → (i : Item) (reply : Reply) (earlier later : List Event)
    → events_of lives ≡ earlier ++ record { item = i; fate = Answered reply } ∷ later
    → (at : History) × WasAnswered (events_of lives) cs i reply at

-- each history that a series leaves holds each call that was answered Ok with its reply, and
-- extends the history of that time
abbrev pub AnswersAreKept : Type 0
AnswersAreKept =
    (lives : List Life) (cs : History) → Ends lives cs → (i : Item) (reply : Reply) (at : History)
    → WasAnswered (events_of lives) cs i reply at → Holds cs i.call reply × GoesOnFrom at cs
