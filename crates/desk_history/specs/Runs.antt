-- Answers to calls, and runs of calls.
use Rattle.std.specs.Prelude.{ℕ, Bool, true, false, not, ◌&&◌, if◌then◌else◌, List, [], ◌∷◌, find, Option, Some, None, bytes_eq}
use Rattle.std.specs.List.{list_all}
use Rattle.base.specs.declared.refusal.Refusal.{Refusal}
use Rattle.base.specs.declared.refusal.Refusal.TheVariants as refusals
use Rattle.desk_types.specs.declared.command.Call.{Call}
use Rattle.desk_types.specs.declared.reply.Reply.{Reply}
use Rattle.desk_types.specs.Callers.{caller_name}
use Rattle.desk_history.specs.Calls.{First, History, Item, Rules, Second, is_first, item, under}
use Rattle.desk_history.specs.declared.rows.Minute.{Minute}
use Rattle.desk_history.specs.Replies.{minutes, reply_to}
use Rattle.desk_types.specs.CommandTexts.{text_of}
use Rattle.desk_history.specs.declared.answer.Answer.{Answer}
use Rattle.desk_history.specs.declared.answer.Answer.TheVariants.{Accepted, Refused, Repeated}
use Rattle.desk_history.specs.Refusals.{is_known, refusal_of}

-- the minute is of a call with this caller and key
abbrev pub has_key : List ℕ → List ℕ → Minute → Bool
has_key caller key m = bytes_eq caller (caller_name m.caller) && bytes_eq key m.key

-- the minute of the caller's earlier call with the same key
abbrev pub earlier : History → Call → Option Minute
earlier cs c = find (has_key (caller_name c.caller) c.key) (minutes cs)

-- own: a key belongs to the command that it was first given for: it gets that call's reply again,
-- and is refused for any other command
abbrev pub repeated : Minute → List ℕ → Answer
repeated m text = if bytes_eq m.text text then Repeated m.reply else Refused refusals.KeyReused

-- a call with a new key is refused, or accepted with this reply
abbrev pub answer_new_key : Option Refusal → Reply → Answer
answer_new_key None reply = Accepted reply
answer_new_key (Some refusal) reply = Refused refusal

-- the answer to a known caller
abbrev pub answer_known : Option Minute → List ℕ → Option Refusal → Reply → Answer
answer_known (Some m) text refusal reply = repeated m text
answer_known None text refusal reply = answer_new_key refusal reply

-- own: the answer to the item's call after these, by the item's rules: the caller is checked first,
-- then the key, then the refusals of a call with a new key
abbrev pub ruling : History → Item → Answer
ruling cs i =
    if not (is_known cs i.call.caller) then Refused refusals.UnknownCaller
    else answer_known (earlier cs i.call) (text_of i.call.command) (refusal_of cs i) (reply_to cs i)

-- the answer to a call now
abbrev pub answer : History → Call → Answer
answer cs c = ruling cs (item c)

-- the answer accepts a call, which then joins the history; a repeated one is there already
abbrev pub is_accepted : Answer → Bool
is_accepted (Accepted reply) = true
is_accepted _ = false

-- the reply, where the call is answered with one
abbrev pub reply_in : Answer → Option Reply
reply_in (Accepted reply) = Some reply
reply_in (Repeated reply) = Some reply
reply_in (Refused refusal) = None

-- the history after an item's call: only an accepted call changes it
abbrev pub next_item : History → Item → History
next_item cs i = if is_accepted (ruling cs i) then i ∷ cs else cs

-- the history after a call
abbrev pub next : History → Call → History
next cs c = next_item cs (item c)

-- the history after calls by these rules, the first of them first
abbrev pub run_by : Rules → History → List Call → History
run_by rules cs [] = cs
run_by rules cs (c ∷ calls) = run_by rules (next_item cs (under rules c)) calls

-- the history after calls
abbrev pub run : History → List Call → History
run cs calls = run_by Second cs calls

-- the answers to calls by these rules, each after the calls before it
abbrev pub answers_by : Rules → History → List Call → List Answer
answers_by rules cs [] = []
answers_by rules cs (c ∷ calls) = ruling cs (under rules c) ∷ answers_by rules (next_item cs (under rules c)) calls

-- the answers to the calls
abbrev pub answers : History → List Call → List Answer
answers cs calls = answers_by Second cs calls

-- own: no call by the first rules follows one by the second
abbrev pub may_follow : History → Item → Bool
may_follow cs i = elim i.rules [ First ↦ list_all is_first cs | Second ↦ true ]

-- the item may be next in the history: its call is accepted, and its rules may follow
abbrev pub joins : History → Item → Bool
joins cs i = is_accepted (ruling cs i) && may_follow cs i

-- each call was accepted after those before it, and none by the first rules after one by the second
abbrev pub is_legal : History → Bool
is_legal [] = true
is_legal (i ∷ cs) = joins cs i && is_legal cs
