-- Minutes in parts.
use Rattle.std.proofs.Common.{◌≡◌, ◌≤◌, ℕ, zero, suc, ◌+◌, ◌-◌, List, [], ◌∷◌, ◌++◌, length, take, drop, refl, sym, ap, ◌∙◌, append-nil, length-append, codes, arith}
use Rattle.std.specs.Prelude.{decimal, flat_map, reverse}
use Rattle.std.proofs.lemmas.List.{length-reverse, reverse-append, take-append-drop, take-append-le}
use Rattle.std.proofs.lemmas.List.Concat.{flat_map-append}
use Rattle.desk_types.specs.Callers.{caller_name}
use Rattle.desk_types.specs.ReplyTexts.{reply_text_of}
use Rattle.desk_history.specs.Calls.{History}
use Rattle.desk_history.specs.Replies.{minute_of, minutes}
use Rattle.desk_history.specs.declared.rows.Minute.{Minute}
use Rattle.desk_exports.specs.Exports.{minute_line}
use Rattle.desk_exports.specs.MinutesShown.{FirstLinesStay, PartsEnd, PartsJoin, first_lines, most_lines, part_from}

-- ---- first items, and the next ones

take_own : {X : Type 0} (m : ℕ) (xs : List X) → take m xs ≡ take (length (take m xs)) xs
take_own zero xs = refl
take_own (suc m) [] = refl
take_own (suc m) (x ∷ xs) = ap (λ l. x ∷ l) (take_own m xs)

take_none : {X : Type 0} (m : ℕ) → ◌≡◌ {A = List X} (take m []) []
take_none zero = refl
take_none (suc m) = refl

joined : {X : Type 0} (k m : ℕ) (xs : List X) → take k xs ++ take m (drop k xs) ≡ take (k + length (take m (drop k xs))) xs
joined zero m xs = take_own m xs ∙ ap (λ n. take n xs) (let same : length (take m xs) ≡ 0 + length (take m xs) = omega arith in same)
joined (suc k) m [] = take_none m ∙ sym (take_none (suc k + length (take m [])))
joined (suc k) m (x ∷ xs) =
    let next : suc (k + length (take m (drop k xs))) ≡ suc k + length (take m (drop k xs)) = omega arith in
    ap (λ l. x ∷ l) (joined k m xs) ∙ ap (λ n. take n (x ∷ xs)) next

none_after : {X : Type 0} (k m : ℕ) (xs : List X) → take (suc m) (drop k xs) ≡ [] → take k xs ≡ xs
none_after k m xs e = by (drop k xs) refl
  where
    by : (l : List _) → drop k xs ≡ l → take k xs ≡ xs
    by [] is = sym (append-nil (take k xs)) ∙ ap (λ l. take k xs ++ l) (sym is) ∙ take-append-drop k xs
    by (y ∷ ys) is = absurd (let full : y ∷ take m ys ≡ [] = ap (take (suc m)) (sym is) ∙ e in cc)

-- ---- lines

minutes_length : (cs : History) → length (minutes cs) ≡ length cs
minutes_length [] = refl
minutes_length (i ∷ cs) = ap suc (minutes_length cs)

some_line : (m : Minute) (rest : List ℕ) → minute_line m ++ rest ≡ [] → ⊥
some_line m rest e =
    let before = decimal m.number ++ codes "\t" ++ caller_name m.caller ++ codes "\t" ++ m.key ++ codes "\t" ++ m.text ++ codes "\t" ++ reply_text_of m.reply in
    let none : length (minute_line m ++ rest) ≡ 0 = ap length e in
    let whole : length (minute_line m ++ rest) ≡ length (minute_line m) + length rest = length-append (minute_line m) rest in
    let line : length (minute_line m) ≡ length before + 1 = length-append before (codes "\n") in
    absurd (omega arith)

no_lines : (ms : List Minute) → flat_map minute_line ms ≡ [] → ms ≡ []
no_lines [] e = refl
no_lines (m ∷ ms) e = absurd (some_line m (flat_map minute_line ms) e)

after_one : (k : ℕ) → k + 1 - 1 ≡ k
after_one k = omega arith

part_after : (cs : History) (k : ℕ) → part_from cs (k + 1) ≡ take most_lines (drop k (reverse (minutes cs)))
part_after cs k = ap (λ n. take most_lines (drop n (reverse (minutes cs)))) (after_one k)

pub parts_join : PartsJoin
parts_join cs k =
    let ms = reverse (minutes cs) in
    let part : part_from cs (k + 1) ≡ take most_lines (drop k ms) = part_after cs k in
    ap (λ l. first_lines cs k ++ flat_map minute_line l) part
    ∙ sym (flat_map-append minute_line (take k ms) (take most_lines (drop k ms)))
    ∙ ap (flat_map minute_line) (joined k most_lines ms)
    ∙ ap (λ (l : List Minute). first_lines cs (k + length l)) (sym part)

pub parts_end : PartsEnd
parts_end cs k e =
    let ms = reverse (minutes cs) in
    let none : take most_lines (drop k ms) ≡ [] = sym (part_after cs k) ∙ no_lines (part_from cs (k + 1)) e in
    ap (flat_map minute_line) (none_after k 999 ms none)

-- ---- histories that go on

stay : (cs new : History) (k : ℕ) → k ≤ length cs → take k (reverse (minutes (new ++ cs))) ≡ take k (reverse (minutes cs))
stay cs [] k low = refl
stay cs (i ∷ new) k low =
    let ms = reverse (minutes (new ++ cs)) in
    let long : length ms ≡ length (new ++ cs) = length-reverse (minutes (new ++ cs)) ∙ minutes_length (new ++ cs) in
    let both : length (new ++ cs) ≡ length new + length cs = length-append new cs in
    let within : k ≤ length ms = omega (arith, low, long, both) in
    ap (take k) (reverse-append (minute_of (new ++ cs) i ∷ []) (minutes (new ++ cs)))
    ∙ take-append-le k ms (minute_of (new ++ cs) i ∷ []) within
    ∙ stay cs new k low

pub first_lines_stay : FirstLinesStay
first_lines_stay earlier later k more low =
    ap (λ (l : History). first_lines l k) more.1 ∙ ap (flat_map minute_line) (stay earlier more.0 k low)
