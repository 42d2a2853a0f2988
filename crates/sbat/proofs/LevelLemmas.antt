-- The rows of a level, raised line by line.
use Rattle.std.proofs.Common.{◌≡◌, ℕ, ◌<◌, ◌≤◌, leb, Bool, true, false, cond, ◌⊎◌, List, [], ◌∷◌, Some, None, Result, Ok, Err, refl, sym, ap, subst, ◌∙◌, inl, inr, arith}
use Rattle.std.proofs.Math.Logic.{⊎_elim}
use Rattle.std.specs.FinMap.{empty, len}
use Rattle.std.specs.Result.{IsOkAnd}
use Rattle.std.proofs.lemmas.Bool.Decides.{nat_tests}
use Rattle.base.specs.Lines.{Numbered, named_at, named_in, put_first}
use Rattle.sbat.specs.Levels.{Generations, Stamped, level_row, raised, with_rows}
use Rattle.sbat.specs.Refusals.{PassesNames, most_names}
use Rattle.sbat.specs.Rows.{Row}
use Rattle.sbat.proofs.GenerationLemmas.{len-raised-le, raised_all, raised_all-empty}

-- generations, and the rows that were read after them
abbrev pub joined : Generations → Result (List Row) ℕ → Result Generations ℕ
joined m (Ok rows) = Ok (raised_all m rows)
joined m (Err line) = Err line

joined-more : (m : Generations) (r : Row) (rest : Result (List Row) ℕ) → joined (raised m r) rest ≡ joined m (put_first r rest)
joined-more m r (Ok rows) = refl
joined-more m r (Err line) = refl

-- the level of all rows so far, of which no more names are kept than one past the limit
pub record Raising (kept : Stamped) (stamp : ℕ) (lines all : List Numbered) : Type 0 where
  pub full : Generations
  pub same : joined full (named_in level_row lines) ≡ joined empty (named_in level_row all)
  pub stamped : kept.stamp ≡ stamp
  pub first : (kept.generations ≡ full) ⊎ ((most_names < len kept.generations) × (most_names < len full))

pub Raising-begins : (new : Stamped) (stamp : ℕ) (lines all : List Numbered) → new ≡ record { stamp = stamp; generations = empty } → lines ≡ all → Raising new stamp lines all
Raising-begins new stamp lines all is whole = record {
  full = empty;
  same = ap (λ x. joined empty (named_in level_row x)) whole;
  stamped = ap (λ (l : Stamped). l.stamp) is;
  first = inl (ap (λ (l : Stamped). l.generations) is);
}

next_row : (m : Generations) (l : Numbered) (lines ls : List Numbered) (r : Row) → lines ≡ l ∷ ls → level_row l.text ≡ Some r → joined m (named_in level_row lines) ≡ joined (raised m r) (named_in level_row ls)
next_row m l lines ls r h e =
    ap (λ x. joined m (named_in level_row x)) h
    ∙ ap (λ x. joined m (named_at l.number x (named_in level_row ls))) e
    ∙ sym (joined-more m r (named_in level_row ls))

-- one more row, which was raised where there was room
raised_row : (kept : Stamped) (stamp : ℕ) (l : Numbered) (lines ls all : List Numbered) (r : Row) → Raising kept stamp lines all → lines ≡ l ∷ ls → level_row l.text ≡ Some r → len kept.generations ≤ most_names → Raising (record kept { generations = raised kept.generations r }) stamp ls all
raised_row kept stamp l lines ls all r h goes e room = record {
  full = raised h.full r;
  same = sym (next_row h.full l lines ls r goes e) ∙ h.same;
  stamped = h.stamped;
  first = ⊎_elim (λ same. inl (ap (λ m. raised m r) same)) (λ past. absurd (omega (arith, past.0))) h.first;
}

passed_row : (kept : Stamped) (stamp : ℕ) (l : Numbered) (lines ls all : List Numbered) (r : Row) → Raising kept stamp lines all → lines ≡ l ∷ ls → level_row l.text ≡ Some r → most_names < len kept.generations → Raising kept stamp ls all
passed_row kept stamp l lines ls all r h goes e full = record {
  full = raised h.full r;
  same = sym (next_row h.full l lines ls r goes e) ∙ h.same;
  stamped = h.stamped;
  first = inr (full, ⊎_elim (λ same. omega (arith, len-raised-le h.full r, ap len same)) (λ past. omega (arith, len-raised-le h.full r, past.1)) h.first);
}

next_raised : (b : Bool) (kept new : Stamped) (stamp : ℕ) (l : Numbered) (lines ls all : List Numbered) (r : Row) → leb (len kept.generations) most_names ≡ b → new ≡ cond b (record kept { generations = raised kept.generations r }) kept → Raising kept stamp lines all → lines ≡ l ∷ ls → level_row l.text ≡ Some r → Raising new stamp ls all
next_raised true kept new stamp l lines ls all r room is h goes e = subst (λ k. Raising k stamp ls all) (sym is) (raised_row kept stamp l lines ls all r h goes e (grind (arith, nat_tests, room)))
next_raised false kept new stamp l lines ls all r room is h goes e = subst (λ k. Raising k stamp ls all) (sym is) (passed_row kept stamp l lines ls all r h goes e (grind (arith, nat_tests, room)))

pub Raising-next : (kept new : Stamped) (stamp : ℕ) (l : Numbered) (lines ls all : List Numbered) (r : Row) → new ≡ cond (leb (len kept.generations) most_names) (record kept { generations = raised kept.generations r }) kept → Raising kept stamp lines all → lines ≡ l ∷ ls → level_row l.text ≡ Some r → Raising new stamp ls all
Raising-next kept new stamp l lines ls all r = next_raised (leb (len kept.generations) most_names) kept new stamp l lines ls all r refl

-- no line is left
same_generations : (m n : Generations) → ◌≡◌ {A = Result Generations ℕ} (Ok m) (Ok n) → m ≡ n
same_generations m n e = cc

with_all : (stamp : ℕ) (m : Generations) (read : Result (List Row) ℕ) → Ok m ≡ joined empty read → with_rows stamp read ≡ Ok (record { stamp = stamp; generations = m })
with_all stamp m (Ok rows) e =
    ap (λ n. Ok (record { stamp = stamp; generations = n })) (sym (same_generations m _ e ∙ raised_all-empty rows))
with_all stamp m (Err line) e = absurd (cc)

all_raised : (kept : Stamped) (stamp : ℕ) (lines all : List Numbered) (h : Raising kept stamp lines all) → lines ≡ [] → with_rows stamp (named_in level_row all) ≡ Ok (record { stamp = stamp; generations = h.full })
all_raised kept stamp lines all h e =
    with_all stamp h.full (named_in level_row all) (sym (ap (λ x. joined h.full (named_in level_row x)) e) ∙ h.same)

pub Raising-ends : (kept : Stamped) (stamp : ℕ) (lines all : List Numbered) → Raising kept stamp lines all → lines ≡ [] → len kept.generations ≤ most_names → with_rows stamp (named_in level_row all) ≡ Ok kept
Raising-ends kept stamp lines all h e room =
    let full : h.full ≡ kept.generations = ⊎_elim (λ same. sym same) (λ past. absurd (omega (arith, past.0))) h.first in
    all_raised kept stamp lines all h e
    ∙ ap (λ s. Ok (record { stamp = s; generations = h.full })) (sym h.stamped)
    ∙ ap (λ m. Ok (record { stamp = kept.stamp; generations = m })) full

pub Raising-long : (kept : Stamped) (stamp : ℕ) (lines all : List Numbered) → Raising kept stamp lines all → lines ≡ [] → most_names < len kept.generations → IsOkAnd (with_rows stamp (named_in level_row all)) PassesNames
Raising-long kept stamp lines all h e long =
    let many : most_names < len h.full = ⊎_elim (λ same. omega (arith, ap len same)) (λ past. past.1) h.first in
    subst (λ r. IsOkAnd r PassesNames) (sym (all_raised kept stamp lines all h e)) many

-- the first line that is no row
stopped : (stamp line : ℕ) (read : Result (List Row) ℕ) → Err line ≡ joined empty read → with_rows stamp read ≡ Err line
stopped stamp line (Ok rows) e = absurd (cc)
stopped stamp line (Err n) e = cc

pub Raising-wrong : (kept : Stamped) (stamp : ℕ) (l : Numbered) (lines ls all : List Numbered) → Raising kept stamp lines all → lines ≡ l ∷ ls → level_row l.text ≡ None → with_rows stamp (named_in level_row all) ≡ Err l.number
Raising-wrong kept stamp l lines ls all h goes e =
    stopped stamp l.number (named_in level_row all)
    (sym (ap (λ x. joined h.full (named_in level_row x)) goes ∙ ap (λ x. joined h.full (named_at l.number x (named_in level_row ls))) e) ∙ h.same)
