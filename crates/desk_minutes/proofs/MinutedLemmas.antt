-- Histories as their minutes tell them.
use Rattle.std.proofs.Common.{◌≡◌, ◌⊎◌, inl, inr, ◌∙◌, Bool, true, false, not, ◌&&◌, [], ◌∷◌, Option, Some, None, All, refl, ap, ap₂}
use Rattle.std.specs.Prelude.{if◌then◌else◌, is_some, reverse}
use Rattle.std.specs.List.{flat_map, list_all, list_any}
use Rattle.std.proofs.lemmas.Bool.{and_parts}
use Rattle.std.proofs.lemmas.List.Elements.{All-cons, All-head, All-nil, All-tail}
use Rattle.desk_types.specs.CommandTexts.{text_of}
use Rattle.desk_types.specs.Formed.{IsCall}
use Rattle.desk_types.specs.declared.command.Call.{Call}
use Rattle.desk_types.proofs.FormLemmas.{both, joined}
use Rattle.desk_types.proofs.ReadingLemmas.{text_of-same}
use Rattle.desk_history.specs.Calls.{First, History, Item, Rules, Second, is_first, under}
use Rattle.desk_history.specs.Formed.{IsHistory, IsItem}
use Rattle.desk_history.specs.Proposals.{outcome_by}
use Rattle.desk_history.specs.Replies.{minute_of, minutes, reply_to}
use Rattle.desk_history.specs.Runs.{is_accepted, is_legal, joins, may_follow, ruling}
use Rattle.desk_history.specs.declared.rows.Minute.{Minute}
use Rattle.desk_history.proofs.ClosingLemmas.{first_close_none}
use Rattle.desk_history.proofs.FormedLemmas.{history_rest}
use Rattle.desk_history.proofs.ListLemmas.{none_left, none_right, or_none}
use Rattle.desk_history.proofs.RunLemmas.{newest}
use Rattle.desk_exports.specs.Exports.{minute_line}
use Rattle.desk_minutes.specs.Follows.{MinutedIsHistory, MinutedKeepsMinutes, MinutesTellHistory}
use Rattle.desk_minutes.specs.Minuted.{as_minuted, is_of_second, minuted_rules, shows_second}
use Rattle.desk_minutes.proofs.AlikeLemmas.{IsNeutral, alike, first_reply, ruling_same, same_more, second_neutral}
use Rattle.desk_minutes.proofs.LineLemmas.{call_same}
use Rattle.desk_minutes.proofs.SameLemmas.{AreSame, itself}
use Rattle.desk_minutes.proofs.TextLemmas.{same_minutes}

-- ---- replies, and the rules that they tell

no_outcome : {X : Type 0} (o : Option X) → not (true && is_some o) ≡ true → o ≡ None
no_outcome None h = refl
no_outcome (Some x) h = absurd (cc)

-- the first rules close no proposal, so they give no reply of the second
pub first_of_first : (cs : History) (c : Call) → is_legal (under First c ∷ cs) ≡ true → is_of_second (reply_to cs (under First c)) ≡ false
first_of_first cs c h = first_reply cs c c.command (no_outcome (outcome_by c.command) (both _ _ (first_close_none (under First c ∷ cs) h)).0)

-- nor do minutes by the first rules alone
pub first_shows_none : (cs : History) → is_legal cs ≡ true → list_all is_first cs ≡ true → shows_second cs ≡ false
first_shows_none [] h f = refl
first_shows_none (i ∷ cs) h f = by i.call i.rules h (both (is_first i) (list_all is_first cs) f).0 (first_shows_none cs (newest cs i h).before (both (is_first i) (list_all is_first cs) f).1)
  where
    by : (c : Call) (r : Rules) → is_legal (under r c ∷ cs) ≡ true → is_first (under r c) ≡ true → shows_second cs ≡ false → shows_second (under r c ∷ cs) ≡ false
    by c First legal e before = or_none (is_of_second (reply_to cs (under First c))) (shows_second cs) (first_of_first cs c legal) before
    by c Second legal e before = absurd (cc)

-- the rules that the minutes tell are the call's, or the call is the same by either
told_rules : (cs : History) (c : Call) (r : Rules) → is_legal (under r c ∷ cs) ≡ true → (minuted_rules (under r c ∷ cs) ≡ r) ⊎ IsNeutral c.command
told_rules cs c First h =
    let before = newest cs (under First c) h in
    inl (ap (λ b. if b then Second else First) (first_shows_none (under First c ∷ cs) h before.follows))
told_rules cs c Second h = by (shows_second (under Second c ∷ cs)) refl
  where
    by : (b : Bool) → shows_second (under Second c ∷ cs) ≡ b → ◌⊎◌ (minuted_rules (under Second c ∷ cs) ≡ Second) (IsNeutral c.command)
    by true e = inl (ap (λ t. if t then Second else First) e)
    by false e = inr (second_neutral cs c c.command (none_left (is_of_second (reply_to cs (under Second c))) (shows_second cs) e))

-- ---- the history as the minutes tell it

-- it has the same calls, which did the same
pub as_same : (cs : History) → is_legal cs ≡ true → AreSame (as_minuted cs) cs
as_same [] h = itself []
as_same (i ∷ cs) h =
    let before = as_same cs (newest cs i h).before in
    let r = minuted_rules (i ∷ cs) in
    same_more (as_minuted cs) cs i.call r i.rules before (alike (as_minuted cs) cs i.call r i.rules before.same_proposals (told_rules cs i.call i.rules h))

-- without a reply of the second rules it is by the first alone
none_second : (cs : History) → shows_second cs ≡ false → list_all is_first (as_minuted cs) ≡ true
none_second [] h = refl
none_second (i ∷ cs) h =
    joined (is_first (under (minuted_rules (i ∷ cs)) i.call)) (list_all is_first (as_minuted cs)) (ap (λ b. is_first (under (if b then Second else First) i.call)) h)
    (none_second cs (none_right (is_of_second (reply_to cs i)) (shows_second cs) h))

may_come : (cs : History) (i : Item) → may_follow (as_minuted cs) (under (minuted_rules (i ∷ cs)) i.call) ≡ true
may_come cs i = by (shows_second (i ∷ cs)) refl
  where
    by : (b : Bool) → shows_second (i ∷ cs) ≡ b → may_follow (as_minuted cs) (under (if b then Second else First) i.call) ≡ true
    by true e = refl
    by false e = none_second cs (none_right (is_of_second (reply_to cs i)) (shows_second cs) e)

minuted_legal : (cs : History) → is_legal cs ≡ true → is_legal (as_minuted cs) ≡ true
minuted_legal [] h = refl
minuted_legal (i ∷ cs) h =
    let here = newest cs i h in
    let before = as_same cs here.before in
    let r = minuted_rules (i ∷ cs) in
    let j = under r i.call in
    let same : ruling (as_minuted cs) j ≡ ruling cs i =
    ruling_same (as_minuted cs) cs i.call r i.rules before (alike (as_minuted cs) cs i.call r i.rules before.same_proposals (told_rules cs i.call i.rules h)) in
    joined (joins (as_minuted cs) j) (is_legal (as_minuted cs))
    (joined (is_accepted (ruling (as_minuted cs) j)) (may_follow (as_minuted cs) j) (ap is_accepted same ∙ here.accepted) (may_come cs i))
    (minuted_legal cs here.before)

minuted_formed : (cs : History) → All IsItem cs → All IsItem (as_minuted cs)
minuted_formed [] h = All-nil IsItem
minuted_formed (i ∷ cs) h =
    All-cons IsItem (under (minuted_rules (i ∷ cs)) i.call) (as_minuted cs) (All-head IsItem i cs h) (minuted_formed cs (All-tail IsItem i cs h))

pub minuted_history : MinutedIsHistory
minuted_history cs h = record { legal = minuted_legal cs h.legal; formed = minuted_formed cs h.formed }

pub keeps_minutes : MinutedKeepsMinutes
keeps_minutes cs h = ap (λ ms. flat_map minute_line (reverse ms)) (as_same cs h.legal).same_minutes

-- the newest of a desk's history joined it
pub joins_newest : (cs : History) (i : Item) → is_legal (i ∷ cs) ≡ true → joins cs i ≡ true
joins_newest cs i h = (and_parts (joins cs i) (is_legal cs) h).0

-- ---- histories of the same minutes

same_call : (c d : Call) → IsCall c → IsCall d → c.caller ≡ d.caller → c.key ≡ d.key → text_of c.command ≡ text_of d.command → c ≡ d
same_call c d h k caller key text = call_same c.caller d.caller c.key d.key c.command d.command caller key (text_of-same c.command d.command h.forms k.forms text)

pub once : (a b : History) → IsHistory a → IsHistory b → minutes a ≡ minutes b → as_minuted a ≡ as_minuted b
once [] [] h k same = refl
once [] (j ∷ b) h k same = absurd (cc)
once (i ∷ a) [] h k same = absurd (cc)
once (i ∷ a) (j ∷ b) h k same =
    let heads : minute_of a i ≡ minute_of b j = cc in
    let tails : minutes a ≡ minutes b = cc in
    let calls : i.call ≡ j.call = same_call i.call j.call (All-head IsItem i a h.formed) (All-head IsItem j b k.formed)
    (ap (λ (m : Minute). m.caller) heads) (ap (λ (m : Minute). m.key) heads) (ap (λ (m : Minute). m.text) heads) in
    ap₂ ◌∷◌ (ap₂ under (ap (λ ms. if list_any (λ (m : Minute). is_of_second m.reply) ms then Second else First) same) calls)
    (once a b (history_rest a i h) (history_rest b j k) tails)

pub minutes_tell : MinutesTellHistory
minutes_tell a b h k same = once a b h k (same_minutes a b h k same)

-- ---- histories that are as their minutes tell them

-- one by the first rules alone
pub first_minuted : (cs : History) → is_legal cs ≡ true → list_all is_first cs ≡ true → as_minuted cs ≡ cs
first_minuted [] h f = refl
first_minuted (i ∷ cs) h f =
    let two = both (is_first i) (list_all is_first cs) f in
    ap₂ ◌∷◌ (by i.call i.rules two.0 (ap (λ b. if b then Second else First) (first_shows_none (i ∷ cs) h f))) (first_minuted cs (newest cs i h).before two.1)
  where
    by : (c : Call) (r : Rules) → is_first (under r c) ≡ true → minuted_rules (i ∷ cs) ≡ First → under (minuted_rules (i ∷ cs)) c ≡ under r c
    by c First e first = ap (λ r. under r c) first
    by c Second e first = absurd (cc)

-- and one call by the second more, from the first reply on that only these give
pub second_minuted : (cs : History) (c : Call) → shows_second (under Second c ∷ cs) ≡ true → as_minuted cs ≡ cs → as_minuted (under Second c ∷ cs) ≡ under Second c ∷ cs
second_minuted cs c h before = ap₂ ◌∷◌ (ap (λ b. under (if b then Second else First) c) h) before
