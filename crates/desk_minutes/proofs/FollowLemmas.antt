-- The line that goes on after a history's minutes.
use Rattle.std.proofs.Common.{◌≡◌, ◌+◌, ◌<◌, ◌∙◌, List, [], ◌∷◌, ◌++◌, length, sym, ap, subst, append_assoc, length-append, arith}
use Rattle.std.specs.Prelude.{reverse}
use Rattle.std.specs.List.{flat_map}
use Rattle.std.proofs.lemmas.List.{reverse-append, reverse-reverse}
use Rattle.std.proofs.lemmas.List.Elements.{All-head}
use Rattle.desk_history.specs.Calls.{History, Item, under}
use Rattle.desk_history.specs.Formed.{IsHistory, IsItem}
use Rattle.desk_history.specs.Replies.{minute_of, minutes}
use Rattle.desk_history.specs.declared.rows.Minute.{Minute}
use Rattle.desk_history.proofs.FormedLemmas.{history_rest}
use Rattle.desk_exports.specs.Exports.{minute_line, minutes_text}
use Rattle.desk_minutes.specs.Follows.{NoNextNoHistory}
use Rattle.desk_minutes.specs.Minuted.{as_minuted, minuted_rules}
use Rattle.desk_minutes.proofs.MinutedLemmas.{as_same, joins_newest, minuted_history, once}
use Rattle.desk_minutes.proofs.TextLemmas.{All-reverse, IsOfCall, begins, of_calls, of_newest, one_line}

-- the call that has this minute after these calls, as the minutes tell them
record HasNext (cs : History) (m : Minute) : Type 0 where
  next_item : Item
  history : IsHistory (next_item ∷ as_minuted cs)
  is : m ≡ minute_of (as_minuted cs) next_item

next_of : (later : List Minute) (cs ds : History) (m : Minute) → IsHistory cs → IsHistory ds → minutes ds ≡ later ++ (m ∷ minutes cs) → HasNext cs m
next_of [] cs [] m h k same = absurd (cc)
next_of (n ∷ later) cs [] m h k same = absurd (cc)
next_of [] cs (j ∷ ds) m h k same =
    let tails : minutes ds ≡ minutes cs = cc in
    let heads : minute_of ds j ≡ m = cc in
    let rest : as_minuted ds ≡ as_minuted cs = once ds cs (history_rest ds j k) h tails in
    let i = newest_minuted j ds in
    let told : minute_of (as_minuted ds) i ≡ minute_of ds j = head_same (minute_of (as_minuted ds) i) (minute_of ds j) (minutes (as_minuted ds)) (minutes ds) (as_same (j ∷ ds) k.legal).same_minutes in
    record {
      next_item = i;
      history = subst (λ l. IsHistory (i ∷ l)) rest (minuted_history (j ∷ ds) k);
      is = sym heads ∙ sym told ∙ ap (λ l. minute_of l i) rest;
    }
  where
    newest_minuted : Item → History → Item
    newest_minuted j ds = under (minuted_rules (j ∷ ds)) j.call

    head_same : (m n : Minute) (ms ns : List Minute) → m ∷ ms ≡ n ∷ ns → m ≡ n
    head_same m n ms ns e = cc
next_of (n ∷ later) cs (j ∷ ds) m h k same =
    let tails : minutes ds ≡ later ++ (m ∷ minutes cs) = cc in
    next_of later cs ds m h (history_rest ds j k) tails

reversed : (xs ys later : List Minute) (m : Minute) → reverse ys ≡ reverse xs ++ (m ∷ later) → ys ≡ reverse later ++ (m ∷ xs)
reversed xs ys later m e =
    sym (reverse-reverse ys) ∙ ap reverse e ∙ reverse-append (reverse xs) (m ∷ later) ∙ ap (λ l. reverse (m ∷ later) ++ l) (reverse-reverse xs)
    ∙ ap (λ l. l ++ xs) (reverse-append (m ∷ []) later) ∙ append_assoc (reverse later) (m ∷ []) xs

-- where no call that may come next has a line after these, no history goes through it
pub none_goes_through : NoNextNoHistory
none_goes_through cs line h one other ds k through =
    let rest = through.0 in
    let same : minutes_text ds ≡ minutes_text cs ++ (line ++ rest) = through.1 ∙ append_assoc (minutes_text cs) line rest in
    let first = begins (reverse (minutes cs)) (reverse (minutes ds)) (line ++ rest) (All-reverse IsOfCall (minutes cs) (of_calls cs h)) (All-reverse IsOfCall (minutes ds) (of_calls ds k)) same in
    by first.others first.is first.spelt
  where
    by : (others : List Minute) → reverse (minutes ds) ≡ reverse (minutes cs) ++ others → flat_map minute_line others ≡ line ++ through.0 → ⊥
    by [] is spelt =
        let some : 0 < length line = one.0 in
        let both_are : length (line ++ through.0) ≡ length line + length through.0 = length-append line through.0 in
        let none : length (line ++ through.0) ≡ 0 = ap length (sym spelt) in
        absurd (omega arith)
    by (m ∷ later) is spelt =
        let next = next_of (reverse later) cs ds m h k (reversed (minutes cs) (minutes ds) later m is) in
        let i = next.next_item in
        let of = subst IsOfCall (sym next.is) (of_newest (as_minuted cs) i next.history) in
        let here = one_line line through.0 m (flat_map minute_line later) one.0 one.1 of (sym spelt) through.2 in
        other i (All-head IsItem i (as_minuted cs) next.history.formed) (joins_newest (as_minuted cs) i next.history.legal) (here ∙ ap minute_line next.is)
