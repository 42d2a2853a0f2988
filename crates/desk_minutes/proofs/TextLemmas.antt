-- Lines of minutes, one after another.
use Rattle.std.proofs.Common.{◌≡◌, ◌≢◌, ◌⊎◌, inl, inr, ℕ, zero, suc, ◌+◌, ◌-◌, ◌<◌, ◌≤◌, ◌^◌, ◌∙◌, eqb, Bool, true, false, not, List, [], ◌∷◌, ◌++◌, length, take, All, refl, sym, ap, ap₂, subst, append_assoc, append-nil, length-append, arith}
use Rattle.std.specs.Prelude.{codes, decimal, nat_le, reverse}
use Rattle.std.specs.Io.{StopsAt}
use Rattle.std.specs.List.{flat_map}
use Rattle.std.proofs.lemmas.Bool.{and_parts}
use Rattle.std.proofs.lemmas.Bool.Decides.{nat_tests}
use Rattle.std.proofs.lemmas.List.{reverse-append, reverse-reverse}
use Rattle.std.proofs.lemmas.List.Concat.{flat_map-append}
use Rattle.std.proofs.lemmas.List.Elements.{All-append, All-cons, All-head, All-nil, All-tail}
use Rattle.desk_types.specs.Callers.{caller_name}
use Rattle.desk_types.specs.ReplyTexts.{reply_text_of}
use Rattle.desk_types.specs.declared.command.Call.{Call}
use Rattle.desk_types.specs.declared.reply.Reply.{Reply}
use Rattle.desk_types.proofs.FieldLemmas.{free-append}
use Rattle.desk_types.proofs.FormLemmas.{joined}
use Rattle.desk_types.proofs.SpaceLemmas.{cut_once, cut_whole}
use Rattle.desk_history.specs.Calls.{History, Item}
use Rattle.desk_history.specs.Formed.{IsHistory, IsItem, IsReadable}
use Rattle.desk_history.specs.Limits.{most_calls}
use Rattle.desk_history.specs.Replies.{minute_of, minutes, reply_to}
use Rattle.desk_history.specs.Runs.{is_legal}
use Rattle.desk_history.specs.declared.rows.Minute.{Minute}
use Rattle.desk_history.proofs.FormedLemmas.{history_rest, minutes_are_readable}
use Rattle.desk_history.proofs.RunLemmas.{newest}
use Rattle.desk_exports.specs.Exports.{minute_line, minutes_text}
use Rattle.desk_minutes.specs.Fields.{is_without}
use Rattle.desk_minutes.specs.Follows.{EndsLine}
use Rattle.desk_minutes.specs.Lines.{IsTold, line_with, minute_with}
use Rattle.desk_minutes.proofs.LineLemmas.{lines_differ, told_body}

-- ---- minutes of calls in their forms

pub record IsOfCall (m : Minute) : Type 0 where
  pub small : m.number < 2 ^ 64
  pub call : Call
  pub is : m ≡ minute_with m.number call m.reply
  pub told : IsTold call m.reply

few_calls : (cs : History) (i : Item) → is_legal (i ∷ cs) ≡ true → length cs + 1 < 2 ^ 64
few_calls cs i h =
    let within = and_parts _ (nat_le (length (i ∷ cs)) most_calls) (newest cs i h).new.within in
    let most : nat_le (length (i ∷ cs)) 1000000 ≡ true = within.1 in
    let few : length (i ∷ cs) ≤ 1000000 = grind (arith, nat_tests, most) in
    omega (arith, few)

pub told_newest : (cs : History) (i : Item) → IsHistory (i ∷ cs) → IsTold i.call (reply_to cs i)
told_newest cs i h =
    let readable = All-head IsReadable (minute_of cs i) (minutes cs) (minutes_are_readable (i ∷ cs) h) in
    record { call = All-head IsItem i cs h.formed; own = readable.told; reply = readable.reply }

pub of_newest : (cs : History) (i : Item) → IsHistory (i ∷ cs) → IsOfCall (minute_of cs i)
of_newest cs i h = record { small = few_calls cs i h.legal; call = i.call; is = refl; told = told_newest cs i h }

pub of_calls : (cs : History) → IsHistory cs → All IsOfCall (minutes cs)
of_calls [] h = All-nil IsOfCall
of_calls (i ∷ cs) h = All-cons IsOfCall (minute_of cs i) (minutes cs) (of_newest cs i h) (of_calls cs (history_rest cs i h))

pub All-reverse : {X : Type 0} (P : X → Type 0) (xs : List X) → All P xs → All P (reverse xs)
All-reverse P [] h = h
All-reverse P (x ∷ xs) h =
    subst (All P) (sym (reverse-append (x ∷ []) xs))
    (All-append P (reverse xs) (x ∷ []) (All-reverse P xs (All-tail P x xs h)) (All-cons P x [] (All-head P x xs h) (All-nil P)))

-- ---- lines of one text

same_minute : (m n : Minute) (more rest : List ℕ) → IsOfCall m → IsOfCall n → minute_line m ++ more ≡ minute_line n ++ rest → (m ≡ n) × (more ≡ rest)
same_minute m n more rest h k same =
    let lines : line_with m.number h.call m.reply ++ more ≡ line_with n.number k.call n.reply ++ rest =
    ap (λ l. minute_line l ++ more) (sym h.is) ∙ same ∙ ap (λ l. minute_line l ++ rest) k.is in
    let one = lines_differ m.number n.number h.call k.call m.reply n.reply more rest h.small k.small h.told k.told lines in
    (h.is ∙ alike m.number n.number h.call k.call m.reply n.reply one.same_number one.same_call one.same_reply ∙ sym k.is, one.same_rest)
  where
    alike : (a b : ℕ) (c d : Call) (r s : Reply) → a ≡ b → c ≡ d → r ≡ s → minute_with a c r ≡ minute_with b d s
    alike a b c d r s e f g = cc

-- a line has some bytes
some_line : (m : Minute) (rest : List ℕ) → minute_line m ++ rest ≡ [] → ⊥
some_line m rest e =
    let before = decimal m.number ++ codes "\t" ++ caller_name m.caller ++ codes "\t" ++ m.key ++ codes "\t" ++ m.text ++ codes "\t" ++ reply_text_of m.reply in
    let none : length (minute_line m ++ rest) ≡ 0 = ap length e in
    let whole : length (minute_line m ++ rest) ≡ length (minute_line m) + length rest = length-append (minute_line m) rest in
    let line : length (minute_line m) ≡ length before + 1 = length-append before (codes "\n") in
    absurd (omega arith)

-- a text of lines that begins with lines has these first
pub record BeginsWith (xs ys : List Minute) (more : List ℕ) : Type 0 where
  pub others : List Minute
  pub is : ys ≡ xs ++ others
  pub spelt : flat_map minute_line others ≡ more

pub begins : (xs ys : List Minute) (more : List ℕ) → All IsOfCall xs → All IsOfCall ys → flat_map minute_line ys ≡ flat_map minute_line xs ++ more → BeginsWith xs ys more
begins [] ys more h k same = record { others = ys; is = refl; spelt = same }
begins (x ∷ xs) [] more h k same =
    absurd (some_line x (flat_map minute_line xs ++ more) (sym (append_assoc (minute_line x) (flat_map minute_line xs) more) ∙ sym same))
begins (x ∷ xs) (y ∷ ys) more h k same =
    let first = same_minute y x (flat_map minute_line ys) (flat_map minute_line xs ++ more) (All-head IsOfCall y ys k) (All-head IsOfCall x xs h)
    (same ∙ append_assoc (minute_line x) (flat_map minute_line xs) more) in
    let rest = begins xs ys more (All-tail IsOfCall x xs h) (All-tail IsOfCall y ys k) first.1 in
    record { others = rest.others; is = two rest.others first.0 rest.is; spelt = rest.spelt }
  where
    two : (zs : List Minute) → y ≡ x → ys ≡ xs ++ zs → y ∷ ys ≡ (x ∷ xs) ++ zs
    two zs e f = cc

-- ---- the last byte of a line

record Ends (line : List ℕ) : Type 0 where
  front : List ℕ
  end : ℕ
  is : line ≡ front ++ (end ∷ [])
  free : is_without 10 front ≡ true

passes : (b : ℕ) → b ≢ 10 → not (eqb b 10) ≡ true
passes b h = by (eqb b 10) refl
  where
    by : (t : Bool) → eqb b 10 ≡ t → not t ≡ true
    by true e = absurd (h (grind (arith, nat_tests, e)))
    by false e = refl

ended : (n : ℕ) (line : List ℕ) → length line ≡ suc n → All (λ x. x ≢ 10) (take n line) → Ends line
ended n [] size h = absurd (omega arith)
ended zero (b ∷ []) size h = record { front = []; end = b; is = refl; free = refl }
ended zero (b ∷ d ∷ line) size h = absurd (omega arith)
ended (suc n) (b ∷ line) size h =
    let rest = ended n line (omega arith) (All-tail (λ x. x ≢ 10) b (take n line) h) in
    let here = passes b (All-head (λ x. x ≢ 10) b (take n line) h) in
    record { front = b ∷ rest.front; end = rest.end; is = ap (λ l. b ∷ l) rest.is; free = joined (not (eqb b 10)) (is_without 10 rest.front) here rest.free }

ends : (line : List ℕ) → 0 < length line → StopsAt line 10 → Ends line
ends line some h = ended (length line - 1) line (omega arith) h

-- a line that begins with a line, with which it ends
module _ (line body more rest : List ℕ) (e : Ends line) (free : is_without 10 body ≡ true) (same : line ++ rest ≡ (body ++ (10 ∷ [])) ++ more) where
  whole : (e.front ++ (e.end ∷ [])) ++ rest ≡ (body ++ (10 ∷ [])) ++ more
  whole = ap (λ l. l ++ rest) (sym e.is) ∙ same

  is_line : EndsLine line → line ≡ body ++ (10 ∷ [])
  is_line ends_there =
      let last : e.end ≡ 10 = last_same e.front ends_there.0 e.end 10 (sym e.is ∙ ends_there.1) in
      let cut = cut_once 10 e.front rest body more e.free free
      (ap (λ b. e.front ++ (b ∷ rest)) (sym last) ∙ sym (append_assoc e.front (e.end ∷ []) rest) ∙ whole ∙ append_assoc body (10 ∷ []) more) in
      e.is ∙ ap₂ (λ f b. f ++ (b ∷ [])) cut.0 last
    where
      last_same : (xs ys : List ℕ) (a b : ℕ) → xs ++ (a ∷ []) ≡ ys ++ (b ∷ []) → a ≡ b
      last_same [] [] a b k = cc
      last_same [] (y ∷ []) a b k = absurd (cc)
      last_same [] (y ∷ z ∷ ys) a b k = absurd (cc)
      last_same (x ∷ []) [] a b k = absurd (cc)
      last_same (x ∷ z ∷ xs) [] a b k = absurd (cc)
      last_same (x ∷ xs) (y ∷ ys) a b k = let tails : xs ++ (a ∷ []) ≡ ys ++ (b ∷ []) = cc in last_same xs ys a b tails

  is_whole : rest ≡ [] → line ≡ body ++ (10 ∷ [])
  is_whole none =
      let alone : e.front ++ (e.end ∷ []) ≡ body ++ (10 ∷ more) = sym (append-nil _) ∙ ap (λ r. (e.front ++ (e.end ∷ [])) ++ r) (sym none) ∙ whole ∙ append_assoc body (10 ∷ []) more in
      by (eqb e.end 10) refl alone
    where
      by : (t : Bool) → eqb e.end 10 ≡ t → e.front ++ (e.end ∷ []) ≡ body ++ (10 ∷ more) → line ≡ body ++ (10 ∷ [])
      by true k alone = let last : e.end ≡ 10 = grind (arith, nat_tests, k) in is_line (e.front, e.is ∙ ap (λ b. e.front ++ (b ∷ [])) last)
      by false k alone =
          let all : is_without 10 (e.front ++ (e.end ∷ [])) ≡ true = free-append 10 e.front (e.end ∷ []) e.free (joined (not (eqb e.end 10)) true (ap not k) refl) in
          absurd (cut_whole 10 body more (ap (is_without 10) (sym alone) ∙ all))

-- ---- the line of a minute

-- the line of a minute, and its line break
abbrev pub body_of : Minute → List ℕ
body_of m = decimal m.number ++ codes "\t" ++ caller_name m.caller ++ codes "\t" ++ m.key ++ codes "\t" ++ m.text ++ codes "\t" ++ reply_text_of m.reply

pub body_free : (m : Minute) → IsOfCall m → is_without 10 (body_of m) ≡ true
body_free m h = subst (λ l. is_without 10 (body_of l) ≡ true) (sym h.is) (told_body m.number h.call m.reply h.small h.told)

-- the line that this minute's line begins with is its line
pub one_line : (line rest : List ℕ) (m : Minute) (more : List ℕ) → 0 < length line → StopsAt line 10 → IsOfCall m → line ++ rest ≡ minute_line m ++ more
    → EndsLine line ⊎ (rest ≡ []) → line ≡ minute_line m
one_line line rest m more some stops h same (inl there) = is_line line (body_of m) more rest (ends line some stops) (body_free m h) same there
one_line line rest m more some stops h same (inr none) = is_whole line (body_of m) more rest (ends line some stops) (body_free m h) same none

no_lines : (ms : List Minute) → flat_map minute_line ms ≡ [] → ms ≡ []
no_lines [] e = refl
no_lines (m ∷ ms) e = absurd (some_line m (flat_map minute_line ms) e)

-- one text is of one list of minutes
pub same_minutes : (a b : History) → IsHistory a → IsHistory b → minutes_text a ≡ minutes_text b → minutes a ≡ minutes b
same_minutes a b h k same =
    let first = begins (reverse (minutes a)) (reverse (minutes b)) [] (All-reverse IsOfCall (minutes a) (of_calls a h)) (All-reverse IsOfCall (minutes b) (of_calls b k))
    (sym same ∙ sym (append-nil (minutes_text a))) in
    let none : first.others ≡ [] = no_lines first.others first.spelt in
    let one : reverse (minutes b) ≡ reverse (minutes a) = first.is ∙ ap (λ l. reverse (minutes a) ++ l) none ∙ append-nil (reverse (minutes a)) in
    sym (reverse-reverse (minutes a)) ∙ ap reverse (sym one) ∙ reverse-reverse (minutes b)

-- one call more is one line more
pub one_more : (cs : History) (i : Item) → minutes_text (i ∷ cs) ≡ minutes_text cs ++ minute_line (minute_of cs i)
one_more cs i =
    ap (flat_map minute_line) (reverse-append (minute_of cs i ∷ []) (minutes cs))
    ∙ flat_map-append minute_line (reverse (minutes cs)) (minute_of cs i ∷ [])
    ∙ ap (λ l. minutes_text cs ++ l) (append-nil (minute_line (minute_of cs i)))
