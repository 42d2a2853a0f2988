-- Replies to accepted calls, and the minutes.
use Rattle.std.specs.Prelude.{ℕ, ◌+◌, ◌-◌, List, [], ◌∷◌, length, filter}
use Rattle.std.specs.Option.{option_map_or}
use Rattle.desk_types.specs.declared.command.Call.{Call}
use Rattle.desk_types.specs.declared.command.Command.{Command}
use Rattle.desk_types.specs.declared.command.Command.TheVariants as command
use Rattle.desk_types.specs.declared.kind.ListedKind.{ListedKind}
use Rattle.desk_types.specs.declared.kind.ListedKind.TheVariants as kinds
use Rattle.desk_types.specs.declared.reply.Counts.{Counts}
use Rattle.desk_types.specs.declared.reply.Reply.{Reply}
use Rattle.desk_types.specs.declared.reply.Reply.TheVariants as replies
use Rattle.desk_history.specs.declared.rows.Minute.{Minute}
use Rattle.desk_history.specs.Calls.{First, History, Item, Rules, Second, distinct, item}
use Rattle.desk_history.specs.Forces.{InForce, enforced_by, into_force}
use Rattle.desk_history.specs.Level.{names, raises}
use Rattle.desk_history.specs.Proposals.{proposals}
use Rattle.desk_history.specs.Requests.{requests, state}
use Rattle.desk_history.specs.Revocations.{revocations}
use Rattle.desk_types.specs.CommandTexts.{text_of}

-- the number of different digests of this kind that are revoked after the call and weren't before
abbrev pub gained : ListedKind → History → Item → ℕ
gained kind cs i = length (distinct (revocations kind (i ∷ cs))) - length (distinct (revocations kind cs))

-- the number of different names that the entries put into force raise
abbrev pub raised_count : History → InForce → ℕ
raised_count cs f = length (names (filter (raises cs) f.components))

-- the counts of a call that puts entries into force: different new digests, different new
-- certificates, names raised, and entries skipped
abbrev pub counted : History → Item → Counts
counted cs i = record {
  digests = gained kinds.Digest cs i;
  certificates = gained kinds.Certificate cs i;
  components = raised_count cs (into_force cs i);
  passed = option_map_or (λ n. n.passed) (enforced_by cs i) 0;
}

-- own: by the first rules this reply; by the second, the number of the proposal that the call makes
abbrev pub or_proposed : History → Rules → Reply → Reply
or_proposed cs First reply = reply
or_proposed cs Second reply = replies.Proposed (length (proposals cs) + 1)

-- the reply to a command that is accepted in this call
abbrev pub reply_by : History → Item → Command → Reply
reply_by cs i (command.AddPerson person) = replies.Added person.name
reply_by cs i (command.Submit submission) = replies.Submitted (length (requests cs) + 1)
reply_by cs i (command.Review b) = replies.Reviewed (record { request = b.request; state = state (i ∷ cs) b.request })
reply_by cs i (command.Withdraw number) = replies.Withdrawn number
reply_by cs i (command.Return h) = replies.Returned h.request
reply_by cs i (command.ListCertificate certificate) = replies.Listed
reply_by cs i (command.ListDigest digest) = replies.Listed
reply_by cs i (command.Unlist listing) = replies.Unlisted
reply_by cs i (command.RevokeDigest digest) = or_proposed cs i.rules replies.Revoked
reply_by cs i (command.RevokeCertificate digest) = or_proposed cs i.rules replies.Revoked
reply_by cs i (command.RaiseLevel raise) = or_proposed cs i.rules replies.Raised
reply_by cs i (command.ImportRevocations named) = or_proposed cs i.rules (replies.Imported (counted cs i))
reply_by cs i (command.Confirm k) = replies.Confirmed (record { proposal = k; counts = counted cs i })
reply_by cs i (command.Drop k) = replies.Dropped k
reply_by cs i (command.Explain e) = replies.Explained e.proposal

-- own: the reply to a call that is accepted after these
abbrev pub reply_to : History → Item → Reply
reply_to cs i = reply_by cs i i.call.command

-- the reply to a call that is accepted now
abbrev pub reply : History → Call → Reply
reply cs c = reply_to cs (item c)

-- the minute of a call that is accepted after these
abbrev pub minute_of : History → Item → Minute
minute_of cs i = record {
  number = length cs + 1;
  caller = i.call.caller;
  key = i.call.key;
  text = text_of i.call.command;
  reply = reply_to cs i;
}

-- the minute of a call that is accepted now
abbrev pub minute : History → Call → Minute
minute cs c = minute_of cs (item c)

-- the minutes, the newest first
abbrev pub minutes : History → List Minute
minutes [] = []
minutes (i ∷ cs) = minute_of cs i ∷ minutes cs
