-- Calls that the first rules accept, and the lines that only the second give.
use Rattle.std.proofs.Common.{◌≡◌, ◌⊎◌, inl, inr, ℕ, ◌+◌, ◌<◌, ◌≤◌, ◌^◌, ◌∙◌, true, false, List, [], ◌∷◌, length, refl, sym, ap, arith}
use Rattle.std.specs.Prelude.{nat_le}
use Rattle.std.specs.List.{list_all}
use Rattle.std.proofs.lemmas.Bool.{and_parts}
use Rattle.std.proofs.lemmas.Bool.Decides.{nat_tests}
use Rattle.desk_types.specs.Formed.{IsCall}
use Rattle.desk_types.specs.declared.command.Call.{Call}
use Rattle.desk_types.specs.declared.reply.Reply.{Reply}
use Rattle.desk_types.proofs.FormLemmas.{both, joined}
use Rattle.desk_history.specs.Calls.{First, History, Item, Rules, Second, is_first, under}
use Rattle.desk_history.specs.Formed.{IsHistory}
use Rattle.desk_history.specs.Limits.{most_calls}
use Rattle.desk_history.specs.Replies.{minute_of, reply_to}
use Rattle.desk_history.specs.Runs.{is_accepted, is_legal, joins, may_follow, ruling}
use Rattle.desk_history.specs.declared.answer.Answer.{Answer}
use Rattle.desk_history.specs.declared.answer.Answer.TheVariants.{Accepted, Refused, Repeated}
use Rattle.desk_history.proofs.RunLemmas.{newest}
use Rattle.desk_exports.specs.Exports.{minute_line}
use Rattle.desk_minutes.specs.Follows.{HasNoNext}
use Rattle.desk_minutes.specs.Lines.{IsTold, line_with}
use Rattle.desk_minutes.specs.Minuted.{is_of_second}
use Rattle.desk_minutes.proofs.AlikeLemmas.{alike, minute_same, ruling_same, second_neutral}
use Rattle.desk_minutes.proofs.LineLemmas.{line_same}
use Rattle.desk_minutes.proofs.MinutedLemmas.{first_of_first}
use Rattle.desk_minutes.proofs.SameLemmas.{itself}
use Rattle.desk_minutes.proofs.TextLemmas.{told_newest}
use Rattle.store_minutes.specs.Following.{GoesOn, HasNoneBy}
use Rattle.store_audit.specs.Following.{TellsSecond}
use Rattle.store_minutes.proofs.FollowingLemmas.{accepted_reply, line_numbered, may_join, same_read}

-- ---- the lines that no call has

module _ (cs : History) (line : List ℕ) (n : ℕ) (c : Call) (r : Reply) (h : IsHistory cs) (small : n < 2 ^ 64) (is : n ≡ length cs + 1) (read : IsTold c r) (spelt : line ≡ line_with n c r) where
  -- a line that the first rules don't give is that of no call, unless only the second give its reply
  pub none_first : list_all is_first cs ≡ true → is_of_second r ≡ false → HasNoneBy First cs line → HasNoNext cs line
  none_first first given none i formed may same = by i.call i.rules formed may same
    where
      by : (d : Call) (s : Rules) → IsCall d → joins cs (under s d) ≡ true → line ≡ minute_line (minute_of cs (under s d)) → ⊥
      by d First formed may same = none d formed may same
      by d Second formed may same =
          let one = same_read cs line n c r h small is read spelt (under Second d) formed may same in
          let quiet : is_of_second (reply_to cs (under Second d)) ≡ false = ap is_of_second (sym one.1) ∙ given in
          let same_by = alike cs cs d First Second refl (inr (second_neutral cs d d.command quiet)) in
          let accepted : is_accepted (ruling cs (under First d)) ≡ true =
          ap is_accepted (ruling_same cs cs d First Second (itself cs) same_by) ∙ (both (is_accepted (ruling cs (under Second d))) true may).0 in
          none d formed (joined (is_accepted (ruling cs (under First d))) (list_all is_first cs) accepted first)
          (same ∙ ap minute_line (sym (minute_same cs cs d First Second (itself cs) same_by)))

  -- the first rules give no reply of the second
  pub none_told : is_of_second r ≡ true → HasNoneBy Second cs line → HasNoNext cs line
  none_told given none i formed may same = by i.call i.rules formed may same
    where
      by : (d : Call) (s : Rules) → IsCall d → joins cs (under s d) ≡ true → line ≡ minute_line (minute_of cs (under s d)) → ⊥
      by d Second formed may same = none d formed may same
      by d First formed may same =
          let one = same_read cs line n c r h small is read spelt (under First d) formed may same in
          let quiet = first_of_first cs d (joined (joins cs (under First d)) (is_legal cs) may h.legal) in
          let told_so : is_of_second (reply_to cs (under First d)) ≡ true = ap is_of_second (sym one.1) ∙ given in
          absurd (cc)

-- a reply that only the second rules give is that of the line's call
pub told_reply : (cs : History) (line : List ℕ) (n : ℕ) (i : Item) → IsHistory (i ∷ cs) → n < 2 ^ 64 → n ≡ length cs + 1 → line ≡ minute_line (minute_of cs i) → TellsSecond n line
    → is_of_second (reply_to cs i) ≡ true
told_reply cs line n i h small is same t =
    let one = line_same n t.call i.call t.reply (reply_to cs i) small t.told (told_newest cs i h) (sym t.is ∙ same ∙ line_numbered cs n i is) in
    ap is_of_second (sym one.1) ∙ t.second

-- a desk's history has room for a line's number
pub small_number : (cs : History) → IsHistory cs → length cs + 1 < 2 ^ 64
small_number [] h = omega arith
small_number (i ∷ cs) h =
    let within = and_parts _ (nat_le (length (i ∷ cs)) most_calls) (newest cs i h.legal).new.within in
    let most : nat_le (length (i ∷ cs)) 1000000 ≡ true = within.1 in
    let few : length (i ∷ cs) ≤ 1000000 = grind (arith, nat_tests, most) in
    omega (arith, few)

-- ---- calls that are accepted

-- a call that may be next, and whose reply is this one, is accepted with it
accepted_is : (a : Answer) → is_accepted a ≡ true → (given : Reply) × (a ≡ Accepted given)
accepted_is (Accepted given) h = (given, refl)
accepted_is (Repeated given) h = absurd (cc)
accepted_is (Refused refusal) h = absurd (cc)

pub accepted_with : (cs : History) (i : Item) (r : Reply) → joins cs i ≡ true → reply_to cs i ≡ r → ruling cs i ≡ Accepted r
accepted_with cs i r may due =
    let it = accepted_is (ruling cs i) (both (is_accepted (ruling cs i)) (may_follow cs i) may).0 in
    it.1 ∙ ap Accepted (sym (accepted_reply cs i it.0 it.1) ∙ due)

-- ---- what a stop leaves

-- the history before a call that is accepted by the first rules, or the one with it
pub either_first : (P : History → Type 0) (cs : History) (c : Call) (r : Reply) (line : List ℕ) → list_all is_first cs ≡ true → IsCall c → (ruling cs (under First c) ≡ Accepted r → line ≡ minute_line (minute_of cs (under First c)))
    → P cs ⊎ ((ruling cs (under First c) ≡ Accepted r) × P (under First c ∷ cs)) → P cs ⊎ GoesOn First P cs line
either_first P cs c r line first formed is (inl p) = inl p
either_first P cs c r line first formed is (inr next) = inr (record {
  call = c;
  formed = formed;
  accepted = may_join cs (under First c) r next.0 first;
  is = is next.0;
  shows = next.1;
})
