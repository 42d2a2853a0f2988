-- Minutes of calls in their forms.
use Rattle.std.proofs.Common.{◌≡◌, ℕ, ◌+◌, ◌<◌, ◌≤◌, leb, Bool, true, false, cond, IfSome, Option, Some, None, List, [], ◌∷◌, length, map, filter, arith}
use Rattle.std.specs.Prelude.{if◌then◌else◌, nat_le, reverse}
use Rattle.std.specs.Option.{option_map_or}
use Rattle.std.proofs.lemmas.Bool.Decides.{nat_tests}
use Rattle.std.proofs.lemmas.List.{length-map, length-reverse}
use Rattle.std.proofs.lemmas.List.Elements.{All-cons, All-contains, All-head, All-nil, All-tail}
use Rattle.sbat.specs.declared.component.Component.{Component}
use Rattle.desk_types.specs.declared.command.Command.{Command}
use Rattle.desk_types.specs.declared.command.Command.TheVariants as command
use Rattle.desk_types.specs.declared.kind.ListedKind.{ListedKind}
use Rattle.desk_types.specs.declared.kind.ListedKind.TheVariants as kinds
use Rattle.desk_types.specs.Commands.{AreCounts, IsCommand, IsCount, IsReply}
use Rattle.desk_types.specs.Imports.{Imported}
use Rattle.desk_types.specs.declared.reply.Reply.{Reply}
use Rattle.desk_types.specs.declared.reply.Reply.TheVariants as replies
use Rattle.desk_types.specs.Forms.{greatest_number, is_request_number}
use Rattle.desk_types.proofs.FormLemmas.{joined}
use Rattle.desk_types.proofs.ReplyLemmas.{reply_text_of-same}
use Rattle.desk_history.specs.Calls.{First, History, Item, Rules, Second, distinct, is_among}
use Rattle.desk_history.specs.Formed.{IsHistory, IsItem, IsReadable}
use Rattle.desk_history.specs.FormLaws.{MinutesAreReadable, MinutesDiffer}
use Rattle.desk_history.specs.Forces.{enforced_by, forced, nothing}
use Rattle.desk_history.specs.Level.{names, raises}
use Rattle.desk_history.specs.Replies.{counted, gained, minute_of, minutes, or_proposed, raised_count, reply_by}
use Rattle.desk_history.specs.Revocations.{revocations}
use Rattle.desk_history.specs.Runs.{is_legal}
use Rattle.desk_history.proofs.CallerLemmas.{newest_told, same_caller}
use Rattle.desk_history.proofs.ProposalLemmas.{AreFew, enforced_few}
use Rattle.desk_history.proofs.RunLemmas.{Within, legal_parts, legal_proposals, legal_room, newest}

-- a desk's history before its newest call
pub history_rest : (cs : History) (i : Item) → IsHistory (i ∷ cs) → IsHistory cs
history_rest cs i h = record {
  legal = (newest cs i h.legal).before;
  formed = All-tail IsItem i cs h.formed;
}

-- ---- numbers of an import's reply

distinct_fewer : (ts : List (List ℕ)) → length (distinct ts) ≤ length ts
distinct_fewer [] = omega arith
distinct_fewer (t ∷ ts) =
    let rest : length (distinct ts) ≤ length ts = distinct_fewer ts in
    elim (is_among ts t) as (λ b. length (if b then distinct ts else t ∷ distinct ts) ≤ length (t ∷ ts)) [ true ↦ omega arith | false ↦ omega arith ]

pub filter_fewer : {X : Type 0} (p : X → Bool) (xs : List X) → length (filter p xs) ≤ length xs
filter_fewer p [] = omega arith
filter_fewer p (x ∷ xs) =
    let rest : length (filter p xs) ≤ length xs = filter_fewer p xs in
    elim (p x) as (λ b. length (cond b (x ∷ filter p xs) (filter p xs)) ≤ length (x ∷ xs)) [ true ↦ omega arith | false ↦ omega arith ]

raised_fewer : (cs : History) (xs : List Component) → length (names (filter (raises cs) (reverse xs))) ≤ length xs
raised_fewer cs xs =
    let kept = filter (raises cs) (reverse xs) in
    let once : length (names kept) ≤ length (map (λ (x : Component). x.name) kept) = distinct_fewer (map (λ (x : Component). x.name) kept) in
    let all : length (map (λ (x : Component). x.name) kept) ≡ length kept = length-map kept (λ (x : Component). x.name) in
    let fewer : length kept ≤ length (reverse xs) = filter_fewer (raises cs) (reverse xs) in
    let same : length (reverse xs) ≡ length xs = length-reverse xs in
    omega arith

gained_few : (m : ℕ) (kind : ListedKind) (cs : History) (i : Item) → m < 1000000 → nat_le (length (distinct (revocations kind (i ∷ cs)))) m ≡ true → IsCount (gained kind cs i)
gained_few m kind cs i small h =
    let most : length (distinct (revocations kind (i ∷ cs))) ≤ m = grind (arith, nat_tests, h) in
    omega arith

number_formed : (n : ℕ) → n ≤ 100000 → is_request_number (n + 1) ≡ true
number_formed n h =
    let low : leb 1 (n + 1) ≡ true = grind (arith, nat_tests) in
    let high : leb (n + 1) greatest_number ≡ true = grind (arith, nat_tests) in
    joined (leb 1 (n + 1)) (leb (n + 1) greatest_number) low high

raised_small : (cs : History) (o : Option Imported) → IfSome o AreFew → IsCount (raised_count cs (option_map_or forced o nothing))
raised_small cs None h = omega arith
raised_small cs (Some n) h = let raised = raised_fewer cs n.components in omega arith

passed_small : (o : Option Imported) → IfSome o AreFew → IsCount (option_map_or (λ (n : Imported). n.passed) o 0)
passed_small None h = omega arith
passed_small (Some n) h = omega arith

counted_formed : (cs : History) (i : Item) → IfSome (enforced_by cs i) AreFew → Within (i ∷ cs) → AreCounts (counted cs i)
counted_formed cs i few within = (
  gained_few 100000 kinds.Digest cs i (omega arith) within.digests,
  gained_few 10000 kinds.Certificate cs i (omega arith) within.certificates,
  raised_small cs (enforced_by cs i) few,
  passed_small (enforced_by cs i) few,
)

proposed_formed : (cs : History) (rules : Rules) (reply : Reply) → is_legal cs ≡ true → IsReply reply → IsReply (or_proposed cs rules reply)
proposed_formed cs First reply h f = f
proposed_formed cs Second reply h f = number_formed _ (legal_proposals cs h)

-- the reply to a command in its forms, in a call with which the desk keeps within its limits
reply_formed : (cs : History) (i : Item) (given : Command) → IsCommand given → AreCounts (counted cs i) → is_legal cs ≡ true → IsReply (reply_by cs i given)
reply_formed cs i (command.AddPerson p) f n h = f.0
reply_formed cs i (command.Submit s) f n h = number_formed _ (legal_room cs h)
reply_formed cs i (command.Review b) f n h = f.0
reply_formed cs i (command.Withdraw number) f n h = f
reply_formed cs i (command.Return g) f n h = f.0
reply_formed cs i (command.ListCertificate certificate) f n h = tt
reply_formed cs i (command.ListDigest digest) f n h = tt
reply_formed cs i (command.Unlist listing) f n h = tt
reply_formed cs i (command.RevokeDigest digest) f n h = proposed_formed cs i.rules replies.Revoked h tt
reply_formed cs i (command.RevokeCertificate digest) f n h = proposed_formed cs i.rules replies.Revoked h tt
reply_formed cs i (command.RaiseLevel raise) f n h = proposed_formed cs i.rules replies.Raised h tt
reply_formed cs i (command.ImportRevocations named) f n h = proposed_formed cs i.rules (replies.Imported (counted cs i)) h n
reply_formed cs i (command.Confirm k) f n h = (f, n)
reply_formed cs i (command.Drop k) f n h = f
reply_formed cs i (command.Explain e) f n h = f.0

minute_readable : (cs : History) (i : Item) → IsHistory (i ∷ cs) → IsReadable (minute_of cs i)
minute_readable cs i h =
    let here = All-head IsItem i cs h.formed in
    let before = history_rest cs i h in
    let few = enforced_few cs i.call i.rules before.formed here in
    record {
      caller = here.caller;
      told = newest_told cs i h.legal;
      key = here.key;
      reply = reply_formed cs i i.call.command here.forms (counted_formed cs i few (legal_parts (i ∷ cs) h.legal)) before.legal;
    }

pub minutes_are_readable : MinutesAreReadable
minutes_are_readable [] h = All-nil IsReadable
minutes_are_readable (i ∷ cs) h = All-cons IsReadable (minute_of cs i) (minutes cs) (minute_readable cs i h) (minutes_are_readable cs (history_rest cs i h))

pub minutes_differ : MinutesDiffer
minutes_differ cs h a b in_a in_b =
    let all = minutes_are_readable cs h in
    let first = All-contains IsReadable (minutes cs) a all in_a in
    let second = All-contains IsReadable (minutes cs) b all in_b in
    record {
      callers = same_caller a.caller b.caller first.told second.told;
      replies = reply_text_of-same a.reply b.reply first.reply second.reply;
    }
