-- Whole lines that minutes begin with.
use Rattle.std.proofs.Common.{◌≡◌, inl, inr, ℕ, ◌+◌, eqb, true, false, not, All, List, [], ◌∷◌, ◌++◌, length, reverse, take, drop, refl, sym, ap, subst, ◌∙◌, append_assoc, length-append, arith}
use Rattle.std.specs.List.{flat_map}
use Rattle.std.proofs.lemmas.Bool.Decides.{nat_tests}
use Rattle.std.proofs.lemmas.List.{reverse-append, reverse-reverse, take-append-drop}
use Rattle.std.proofs.lemmas.List.Elements.{All-head, All-tail}
use Rattle.desk_types.proofs.FormLemmas.{joined}
use Rattle.desk_types.proofs.SpaceLemmas.{cut_once}
use Rattle.desk_history.specs.Calls.{GoesOnFrom, History, Item}
use Rattle.desk_history.specs.Formed.{IsHistory}
use Rattle.desk_history.specs.Replies.{minutes}
use Rattle.desk_history.specs.declared.rows.Minute.{Minute}
use Rattle.desk_history.proofs.FormedLemmas.{history_rest}
use Rattle.desk_exports.specs.Exports.{minute_line, minutes_text}
use Rattle.desk_minutes.specs.Fields.{is_without}
use Rattle.desk_minutes.specs.Follows.{Follows}
use Rattle.desk_minutes.specs.Growth.{AreLines, BeginningsFollow, FirstLinesFollow}
use Rattle.desk_minutes.proofs.TextLemmas.{All-reverse, IsOfCall, body_free, body_of, of_calls}

-- ---- histories whose minutes are the first ones

-- The history goes on from one that has these minutes.
pub record GoesOnFromMinutes (firsts : List Minute) (cs : History) : Type 0 where
  pub rest : History
  pub new : List Item
  pub is : cs ≡ new ++ rest
  pub history : IsHistory rest
  pub same : minutes rest ≡ firsts

pub goes_on : (others firsts : List Minute) (cs : History) → IsHistory cs → minutes cs ≡ others ++ firsts → GoesOnFromMinutes firsts cs
goes_on [] firsts cs h same = record { rest = cs; new = []; is = refl; history = h; same = same }
goes_on (m ∷ others) firsts [] h same = absurd (cc)
goes_on (m ∷ others) firsts (i ∷ cs) h same =
    let tails : minutes cs ≡ others ++ firsts = cc in
    let before = goes_on others firsts cs (history_rest cs i h) tails in
    let whole : i ∷ cs ≡ (i ∷ before.new) ++ before.rest = ap (λ l. i ∷ l) {y = before.new ++ before.rest} before.is in
    record { rest = before.rest; new = i ∷ before.new; is = whole; history = before.history; same = before.same }

-- ---- lines

-- the first line of whole lines, up to its line break, and the lines after it
record FirstLine (bytes : List ℕ) : Type 0 where
  line : List ℕ
  rest : List ℕ
  is : bytes ≡ line ++ (10 ∷ rest)
  free : is_without 10 line ≡ true
  lines : AreLines rest

first_line : (front : List ℕ) → FirstLine (front ++ (10 ∷ []))
first_line [] = record { line = []; rest = []; is = refl; free = refl; lines = inl refl }
first_line (b ∷ front) =
    elim (eqb b 10) as (λ t. eqb b 10 ≡ t → FirstLine (b ∷ (front ++ (10 ∷ [])))) [
      | true ↦ λ e. (let ends : b ≡ 10 = grind (arith, nat_tests, e) in
          record { line = []; rest = front ++ (10 ∷ []); is = ap (λ a. a ∷ (front ++ (10 ∷ []))) ends; free = refl; lines = inr (front, refl) })
      | false ↦ λ e. (let more = first_line front in
          record {
            line = b ∷ more.line;
            rest = more.rest;
            is = ap (λ l. b ∷ l) more.is;
            free = joined (not (eqb b 10)) (is_without 10 more.line) (ap not e) more.free;
            lines = more.lines;
          })
    ] refl

-- these lines are those of the first minutes
record AreFirst (ms : List Minute) (bytes : List ℕ) : Type 0 where
  firsts : List Minute
  others : List Minute
  is : ms ≡ firsts ++ others
  spelt : flat_map minute_line firsts ≡ bytes

some_bytes : (front more : List ℕ) → [] ≡ (front ++ (10 ∷ [])) ++ more → ⊥
some_bytes front more e =
    let none : length ((front ++ (10 ∷ [])) ++ more) ≡ 0 = ap length (sym e) in
    let whole : length ((front ++ (10 ∷ [])) ++ more) ≡ length (front ++ (10 ∷ [])) + length more = length-append (front ++ (10 ∷ [])) more in
    let line : length (front ++ (10 ∷ [])) ≡ length front + 1 = length-append front (10 ∷ []) in
    absurd (omega arith)

first_minutes : (ms : List Minute) (bytes more : List ℕ) → All IsOfCall ms → AreLines bytes → flat_map minute_line ms ≡ bytes ++ more → AreFirst ms bytes
first_minutes ms bytes more h (inl none) same = record { firsts = []; others = ms; is = refl; spelt = sym none }
first_minutes [] bytes more h (inr ends) same = absurd (some_bytes ends.0 more (same ∙ ap (λ b. b ++ more) ends.1))
first_minutes (m ∷ ms) bytes more h (inr ends) same =
    let one = first_line ends.0 in
    let parts : bytes ≡ one.line ++ (10 ∷ one.rest) = ends.1 ∙ one.is in
    let whole : body_of m ++ (10 ∷ flat_map minute_line ms) ≡ one.line ++ (10 ∷ (one.rest ++ more)) =
    sym (append_assoc (body_of m) (10 ∷ []) (flat_map minute_line ms)) ∙ same ∙ ap (λ b. b ++ more) parts ∙ append_assoc one.line (10 ∷ one.rest) more in
    let cut = cut_once 10 (body_of m) (flat_map minute_line ms) one.line (one.rest ++ more) (body_free m (All-head IsOfCall m ms h)) one.free whole in
    let rest = first_minutes ms one.rest more (All-tail IsOfCall m ms h) one.lines cut.1 in
    record {
      firsts = m ∷ rest.firsts;
      others = rest.others;
      is = ap (λ l. m ∷ l) {y = rest.firsts ++ rest.others} rest.is;
      spelt = ap (λ l. minute_line m ++ l) rest.spelt ∙ append_assoc (body_of m) (10 ∷ []) one.rest ∙ ap (λ b. b ++ (10 ∷ one.rest)) cut.0 ∙ sym parts;
    }

-- ---- their history

parted : (firsts others : List Minute) (cs : History) → IsHistory cs → reverse (minutes cs) ≡ firsts ++ others
    → (earlier : History) × GoesOnFrom earlier cs × Follows (flat_map minute_line firsts) earlier
parted firsts others cs h same =
    let whole : minutes cs ≡ reverse others ++ reverse firsts =
    sym (reverse-reverse (minutes cs)) ∙ ap reverse same ∙ reverse-append firsts others in
    let from = goes_on (reverse others) (reverse firsts) cs h whole in
    let text : minutes_text from.rest ≡ flat_map minute_line firsts =
    ap (λ ms. flat_map minute_line (reverse ms)) from.same ∙ ap (flat_map minute_line) (reverse-reverse firsts) in
    (from.rest, (from.new, from.is), record { history = from.history; minutes = text })

pub beginnings_follow : BeginningsFollow
beginnings_follow bytes more later lines g =
    let first = first_minutes (reverse (minutes later)) bytes more (All-reverse IsOfCall (minutes later) (of_calls later g.history)) lines g.minutes in
    subst (λ b. (earlier : History) × GoesOnFrom earlier later × Follows b earlier) first.spelt (parted first.firsts first.others later g.history first.is)

pub first_lines_follow : FirstLinesFollow
first_lines_follow lines later h =
    parted (take lines (reverse (minutes later))) (drop lines (reverse (minutes later))) later h (sym (take-append-drop lines (reverse (minutes later))))
