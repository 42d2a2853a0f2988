-- The minutes from a number on, read call by call.
use Rattle.std.proofs.Common.{◌≡◌, ◌⊎◌, inl, inr, ◌≤◌, ◌<◌, ℕ, zero, suc, ◌+◌, ◌-◌, ◌==◌, Bool, true, false, List, [], ◌∷◌, ◌++◌, map, filter, take, drop, length, min, refl, sym, ap, ap₂, subst, ◌∙◌, append-nil, length-append, arith}
use Rattle.std.specs.Prelude.{⊤, flat_map, nat_le, reverse}
use Rattle.std.proofs.lemmas.Bool.{and_parts}
use Rattle.std.proofs.lemmas.Bool.Decides.{nat_tests}
use Rattle.std.proofs.lemmas.List.{length-reverse, reverse-append, take_all}
use Rattle.std.proofs.lemmas.List.Concat.{flat_map-append}
use Rattle.std.proofs.Math.ListN.{drop_of_length-le}
use Rattle.desk_exports.specs.Exports.{minute_line}
use Rattle.desk_exports.specs.MinutesShown.{minutes_from, most_lines}
use Rattle.desk_history.specs.Calls.{History}
use Rattle.desk_history.specs.Formed.{IsHistory}
use Rattle.desk_history.specs.Limits.{most_calls}
use Rattle.desk_history.specs.Replies.{minute_of, minutes}
use Rattle.desk_history.specs.Runs.{is_legal}
use Rattle.desk_history.specs.Tables.{Tables, tables}
use Rattle.desk_history.specs.declared.rows.Minute.{Minute}
use Rattle.desk_history.proofs.ListLemmas.{number_itself}
use Rattle.desk_history.proofs.RunLemmas.{newest}
use Rattle.store_reads.specs.CallColumns.{texts_of}
use Rattle.store_reads.specs.declared.call_texts.CallTexts.{CallTexts}
use Rattle.store_proposals.proofs.PlaceLemmas.{clamped}
use Rattle.store_shown.specs.Lines.{AreAfter, HasFirst, HasLines, calls_at, line_after, line_of}
use Rattle.store_shown.proofs.ItemLemmas.{drops, keeps}
use Rattle.store_shown.proofs.OrderLemmas.{filter-reverse}

-- ---- one line more

pub no_lines : (t : Tables) (k : ℕ) → HasFirst t k 0 []
no_lines t k = record { calls = []; after = tt; count = refl; spelt = refl }

after_more : (t : Tables) (k n : ℕ) (cs : List CallTexts) (c : CallTexts) → length cs ≡ n → AreAfter t k cs → calls_at t (k + n + 1) ≡ c ∷ [] → AreAfter t k (cs ++ c ∷ [])
after_more t k n [] c long all is = (subst (λ m. calls_at t m ≡ c ∷ []) (let same : k + n + 1 ≡ k + 1 = omega (arith, long) in same) is, tt)
after_more t k n (x ∷ cs) c long all is = (
  all.0,
  after_more t (k + 1) (length cs) cs c refl all.1 (subst (λ m. calls_at t m ≡ c ∷ []) (let same : k + n + 1 ≡ k + 1 + length cs + 1 = omega (arith, long) in same) is),
)

lines_more : (cs : List CallTexts) (c : CallTexts) → flat_map line_of (cs ++ c ∷ []) ≡ flat_map line_of cs ++ line_of c
lines_more cs c = flat_map-append line_of cs (c ∷ []) ∙ ap (λ l. flat_map line_of cs ++ l) (append-nil (line_of c))

pub first_more : (t : Tables) (k n : ℕ) (bytes more : List ℕ) (c : CallTexts) → HasFirst t k n bytes → calls_at t (k + n + 1) ≡ c ∷ [] → more ≡ bytes ++ line_of c → HasFirst t k (n + 1) more
first_more t k n bytes more c it is spelt = record {
  calls = it.calls ++ c ∷ [];
  after = after_more t k n it.calls c it.count it.after is;
  count = (let long : length (it.calls ++ c ∷ []) ≡ length it.calls + 1 = length-append it.calls (c ∷ []) in long ∙ ap (λ m. m + 1) it.count);
  spelt = spelt ∙ ap (λ l. l ++ line_of c) it.spelt ∙ sym (lines_more it.calls c);
}

-- ---- minutes by their places

pub minutes_length : (cs : History) → length (minutes cs) ≡ length cs
minutes_length [] = refl
minutes_length (i ∷ cs) = ap suc (minutes_length cs)

-- the numbers go up by one from this one on
abbrev Numbered : ℕ → List Minute → Type 0
Numbered a [] = ⊤
Numbered a (m ∷ ms) = (m.number ≡ a) × Numbered (a + 1) ms

numbered_more : (a : ℕ) (ms : List Minute) (m : Minute) → Numbered a ms → m.number ≡ a + length ms → Numbered a (ms ++ m ∷ [])
numbered_more a [] m all is = (omega (arith, is), tt)
numbered_more a (x ∷ ms) m all is = (all.0, numbered_more (a + 1) ms m all.1 (omega (arith, is)))

oldest_first : (cs : History) → Numbered 1 (reverse (minutes cs))
oldest_first [] = tt
oldest_first (i ∷ cs) =
    let ms = reverse (minutes cs) in
    let long : length ms ≡ length cs = length-reverse (minutes cs) ∙ minutes_length cs in
    subst (Numbered 1) (sym (reverse-append (minute_of cs i ∷ []) (minutes cs)))
    (numbered_more 1 ms (minute_of cs i) (oldest_first cs) (let same : length cs + 1 ≡ 1 + length ms = omega (arith, long) in same))

other : (m n : ℕ) → m < n → (m == n) ≡ false
other m n h = grind (arith, nat_tests)

none_below : (a b : ℕ) (ms : List Minute) → b < a → Numbered a ms → filter (λ (m : Minute). b == m.number) ms ≡ []
none_below a b [] low all = refl
none_below a b (m ∷ ms) low all =
    drops (λ (x : Minute). b == x.number) m ms (ap (λ n. b == n) all.0 ∙ other b a low) ∙ none_below (a + 1) b ms (omega (arith, low)) all.1

take_none : {X : Type 0} (n : ℕ) → ◌≡◌ {A = List X} (take n []) []
take_none zero = refl
take_none (suc n) = refl

drop_none : {X : Type 0} (n : ℕ) → ◌≡◌ {A = List X} (drop n []) []
drop_none zero = refl
drop_none (suc n) = refl

-- the minute of a number stands at its place
at_place : (a j : ℕ) (ms : List Minute) → Numbered a ms → filter (λ (m : Minute). a + j == m.number) ms ≡ take 1 (drop j ms)
at_place a j [] all = sym (ap (take 1) (drop_none j) ∙ take_none 1)
at_place a zero (m ∷ ms) all =
    let zeroth : a + 0 ≡ a = omega arith in
    let here : (a + 0 == m.number) ≡ true = ap₂ ◌==◌ zeroth all.0 ∙ number_itself a in
    keeps (λ (x : Minute). a + 0 == x.number) m ms here
    ∙ ap (λ l. m ∷ l) (none_below (a + 1) (a + 0) ms (omega arith) all.1)
at_place a (suc j) (m ∷ ms) all =
    let there : (a + suc j == m.number) ≡ false = ap (λ n. a + suc j == n) all.0 ∙ above a (suc j) (omega arith) in
    let next : a + suc j ≡ a + 1 + j = omega arith in
    drops (λ (x : Minute). a + suc j == x.number) m ms there
    ∙ ap (λ n. filter (λ (x : Minute). n == x.number) ms) next ∙ at_place (a + 1) j ms all.1
  where
    above : (b n : ℕ) → 0 < n → (b + n == b) ≡ false
    above b n h = grind (arith, nat_tests)

short_take : {X : Type 0} (zs : List X) → length (take 1 zs) ≤ 1
short_take [] = omega arith
short_take (z ∷ zs) = omega arith

-- a list of one item or none, reversed
one_reversed : {X : Type 0} (xs ys : List X) → reverse xs ≡ take 1 ys → xs ≡ take 1 ys
one_reversed [] ys e = e
one_reversed (x ∷ []) ys e = e
one_reversed (x ∷ y ∷ xs) ys e =
    let long : length (reverse (x ∷ y ∷ xs)) ≡ length (x ∷ y ∷ xs) = length-reverse (x ∷ y ∷ xs) in
    let same : length (reverse (x ∷ y ∷ xs)) ≡ length (take 1 ys) = ap length e in
    let short : length (take 1 ys) ≤ 1 = short_take ys in
    absurd (omega arith)

module _ (owner : List ℕ) (cs : History) where
  abbrev oldest : List Minute
  oldest = reverse (minutes cs)

  -- the texts of the call of a number
  calls_are : (j : ℕ) → calls_at (tables owner cs) (j + 1) ≡ map texts_of (take 1 (drop j oldest))
  calls_are j =
      let is_it : Minute → Bool = λ m. j + 1 == m.number in
      let turned : reverse (filter is_it (minutes cs)) ≡ take 1 (drop j oldest) =
      sym (filter-reverse is_it (minutes cs)) ∙ ap (λ n. filter (λ (m : Minute). n == m.number) oldest) (let same : j + 1 ≡ 1 + j = omega arith in same) ∙ at_place 1 j oldest (oldest_first cs) in
      ap (map texts_of) (one_reversed (filter is_it (minutes cs)) (drop j oldest) turned)

  drop_next : {X : Type 0} (j : ℕ) (xs : List X) (x : X) (rest : List X) → drop j xs ≡ x ∷ rest → drop (j + 1) xs ≡ rest
  drop_next zero xs x rest e = ap (drop 1) e
  drop_next (suc j) [] x rest e = absurd cc
  drop_next (suc j) (y ∷ xs) x rest e = (let next : suc j + 1 ≡ suc (j + 1) = omega arith in ap (λ n. drop n (y ∷ xs)) next) ∙ drop_next j xs x rest e

  -- the calls that were read are the next ones
  are_next : (k : ℕ) (calls : List CallTexts) → AreAfter (tables owner cs) k calls → calls ≡ map texts_of (take (length calls) (drop k oldest))
  are_next k [] all = refl
  are_next k (c ∷ calls) all = by (are_next (k + 1) calls all.1) (drop k oldest) refl
    where
      by : calls ≡ map texts_of (take (length calls) (drop (k + 1) oldest)) → (l : List Minute) → drop k oldest ≡ l → c ∷ calls ≡ map texts_of (take (length (c ∷ calls)) (drop k oldest))
      by later [] e = absurd (let none : c ∷ [] ≡ [] = sym all.0 ∙ calls_are k ∙ ap (λ l. map texts_of (take 1 l)) e in cc)
      by later (m ∷ rest) e =
          let one : c ∷ [] ≡ texts_of m ∷ [] = sym all.0 ∙ calls_are k ∙ ap (λ l. map texts_of (take 1 l)) e in
          let same : c ≡ texts_of m = cc in
          let more : calls ≡ map texts_of (take (length calls) rest) = later ∙ ap (λ l. map texts_of (take (length calls) l)) (drop_next k oldest m rest e) in
          ap₂ ◌∷◌ same more ∙ ap (λ l. map texts_of (take (suc (length calls)) l)) (sym e)

  lines_of : (ms : List Minute) → flat_map line_of (map texts_of ms) ≡ flat_map minute_line ms
  lines_of [] = refl
  lines_of (m ∷ ms) = ap (λ l. minute_line m ++ l) (lines_of ms)

  drop_add : {X : Type 0} (j n : ℕ) (xs : List X) → drop n (drop j xs) ≡ drop (j + n) xs
  drop_add zero n xs = ap (λ m. drop m xs) (let same : n ≡ 0 + n = omega arith in same)
  drop_add (suc j) n [] = drop_none n ∙ sym (drop_none (suc j + n))
  drop_add (suc j) n (x ∷ xs) = drop_add j n xs ∙ (let same : suc (j + n) ≡ suc j + n = omega arith in ap (λ m. drop m (x ∷ xs)) same)

  none_left : {X Y : Type 0} (f : X → Y) (xs : List X) → map f (take 1 xs) ≡ [] → xs ≡ []
  none_left f [] e = refl
  none_left f (x ∷ xs) e = absurd cc

  short : {X : Type 0} (n : ℕ) (xs : List X) → drop n xs ≡ [] → length xs ≤ n
  short zero [] e = omega arith
  short zero (x ∷ xs) e = absurd cc
  short (suc n) [] e = omega arith
  short (suc n) (x ∷ xs) e = let rest : length xs ≤ n = short n xs e in omega arith

  -- as many as there are up to the last, or so many
  whole : (k lines : ℕ) → lines ≤ 1000 → (lines ≡ 1000) ⊎ (calls_at (tables owner cs) (k + lines + 1) ≡ []) → take lines (drop k oldest) ≡ take most_lines (drop k oldest)
  whole k lines most (inl full) = ap (λ n. take n (drop k oldest)) full
  whole k lines most (inr none) =
      let ended : drop (k + lines) oldest ≡ [] = none_left texts_of (drop (k + lines) oldest) (sym (calls_are (k + lines)) ∙ none) in
      let few : length (drop k oldest) ≤ lines = short lines (drop k oldest) (drop_add k lines oldest ∙ ended) in
      let fewer : length (drop k oldest) ≤ 1000 = omega (arith, few, most) in
      take_all lines (drop k oldest) few ∙ sym (take_all most_lines (drop k oldest) fewer)

  legal_calls : (l : History) → is_legal l ≡ true → length l ≤ 1000000
  legal_calls [] h = omega arith
  legal_calls (i ∷ l) h =
      let within = and_parts _ (nat_le (length (i ∷ l)) most_calls) (newest l i h).new.within in
      let most : nat_le (length (i ∷ l)) 1000000 ≡ true = within.1 in
      grind (arith, nat_tests, most)

  -- the line after so many calls, by the texts of its call
  told_after : (calls : ℕ) → line_after cs calls ≡ flat_map line_of (calls_at (tables owner cs) (calls + 1))
  told_after calls = sym (lines_of (take 1 (drop calls oldest))) ∙ ap (flat_map line_of) (sym (calls_are calls))

  pub none_after : (calls : ℕ) → calls_at (tables owner cs) (calls + 1) ≡ [] → line_after cs calls ≡ []
  none_after calls none = told_after calls ∙ ap (flat_map line_of) none

  pub one_after : (calls : ℕ) (c : CallTexts) → calls_at (tables owner cs) (calls + 1) ≡ c ∷ [] → line_after cs calls ≡ line_of c
  one_after calls c is = told_after calls ∙ ap (flat_map line_of) is ∙ append-nil (line_of c)

  pub are_minutes : IsHistory cs → (number : ℕ) (bytes : List ℕ) → HasLines (tables owner cs) (min (number - 1) most_calls) bytes → bytes ≡ minutes_from cs number
  are_minutes h number bytes it =
      let k = min (number - 1) most_calls in
      let calls : it.first.calls ≡ map texts_of (take it.lines (drop k oldest)) =
      are_next k it.first.calls it.first.after ∙ ap (λ n. map texts_of (take n (drop k oldest))) it.first.count in
      let long : length oldest ≡ length cs = length-reverse (minutes cs) ∙ minutes_length cs in
      let few : length cs ≤ 1000000 = legal_calls cs h.legal in
      let all : length oldest ≤ most_calls = omega (arith, long, few) in
      it.first.spelt ∙ ap (flat_map line_of) calls ∙ lines_of (take it.lines (drop k oldest))
      ∙ ap (flat_map minute_line) (whole k it.lines it.most it.ends ∙ ap (take most_lines) (clamped (number - 1) most_calls oldest all))
