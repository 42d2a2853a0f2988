-- Writes that follow each other.
use Rattle.std.proofs.Common.{◌≡◌, ℕ, ◌+◌, ◌<◌, ◌≤◌, min, Bor, List, [], ◌∷◌, ◌++◌, length, take, drop, fold, get_or, Option, Result, Ok, Err, OnErr, sym, ap, subst, ◌∙◌, append_assoc, arith}
use Rattle.std.specs.Io.KnownBytes.{Appends}
use Rattle.std.proofs.KnownBytes.{Appends-trans}
use Rattle.std.proofs.Math.Seq.{take-append-add}
use Rattle.std.proofs.lemmas.List.{append-nil, drop_more, take-append-drop, take-append-le, take_min, length-take-le}
use Rattle.std.proofs.lemmas.List.Sums.{fold-append}
use Rattle.base.specs.Output.{AppendsBeginning, joined}

-- nothing was written
pub AppendsBeginning-none : (a b : Option (List ℕ)) (bs : List ℕ) → Appends a b [] → AppendsBeginning a b bs
AppendsBeginning-none a b bs h = record { count = 0; written = h }

-- one write took its bytes, and the next stopped
pub AppendsBeginning-after : (a b c : Option (List ℕ)) (xs ys : List ℕ) → Appends a b xs → AppendsBeginning b c ys → AppendsBeginning a c (xs ++ ys)
AppendsBeginning-after a b c xs ys h more =
    let seam : take (length xs + more.count) (xs ++ ys) ≡ xs ++ take more.count ys = take-append-add xs ys more.count in
    record {
      count = length xs + more.count;
      written = subst (Appends a c) (sym seam) (Appends-trans a b c xs (take more.count ys) h more.written);
    }

-- a write stopped, and no other came
pub AppendsBeginning-before : (a b : Option (List ℕ)) (xs ys : List ℕ) → AppendsBeginning a b xs → AppendsBeginning a b (xs ++ ys)
AppendsBeginning-before a b xs ys h =
    let n = min h.count (length xs) in
    let short : take n (xs ++ ys) ≡ take h.count xs = take-append-le n xs ys (omega arith) ∙ take_min h.count xs in
    record { count = n; written = subst (Appends a b) (sym short) h.written }

-- a fact holds of a call that failed
pub OnErr-fact : {T E : Type 0} (r : Result T E) (P : Type 0) → P → OnErr r P
OnErr-fact (Ok x) P h = tt
OnErr-fact (Err e) P h = h

pub OnErr-after : {T E : Type 0} (r : Result T E) (a b c : Option (List ℕ)) (xs ys : List ℕ) → Appends a b xs → OnErr r (AppendsBeginning b c ys) → OnErr r (AppendsBeginning a c (xs ++ ys))
OnErr-after (Ok x) a b c xs ys h more = tt
OnErr-after (Err e) a b c xs ys h more = AppendsBeginning-after a b c xs ys h more

-- a beginning, and what follows it
pub take-more : (i n : ℕ) (bs : List ℕ) → i ≤ length bs → take i bs ++ take n (drop i bs) ≡ take (i + n) bs
take-more i n bs h =
    let joined = take-append-add (take i bs) (drop i bs) n in
    let whole = take-append-drop i bs in
    let front : length (take i bs) ≡ i = length-take-le i bs h in
    cc

-- slices joined after some bytes
joined-behind : (bytes : List ℕ) (slices : List (Bor (List ℕ))) → fold (λ bytes slice. bytes ++ slice.now) bytes slices ≡ bytes ++ joined slices
joined-behind bytes [] = sym (append-nil bytes)
joined-behind bytes (slice ∷ slices) =
    let behind = joined-behind (bytes ++ slice.now) slices in
    let front : joined (slice ∷ slices) ≡ slice.now ++ joined slices = joined-behind slice.now slices in
    behind ∙ append_assoc bytes slice.now (joined slices) ∙ ap (λ l. bytes ++ l) (sym front)

-- the slices before one, it, and those after it
joined-parted : (slices : List (Bor (List ℕ))) (i : ℕ) (none : Bor (List ℕ)) → i < length slices
    → joined slices ≡ (joined (take i slices) ++ (get_or slices i none).now) ++ joined (drop (i + 1) slices)
joined-parted slices i none h =
    let parted = ap joined (sym (take-append-drop i slices)) ∙ fold-append (λ bytes slice. bytes ++ slice.now) [] (take i slices) (drop i slices) in
    let next = ap (λ rest. fold (λ bytes slice. bytes ++ slice.now) (joined (take i slices)) rest) (drop_more slices i none h) in
    parted ∙ next ∙ joined-behind (joined (take i slices) ++ (get_or slices i none).now) (drop (i + 1) slices)

-- the slices before one were written, and the write of it stopped
pub AppendsBeginning-joined : (a b c : Option (List ℕ)) (slices : List (Bor (List ℕ))) (i : ℕ) (none : Bor (List ℕ)) → i < length slices
    → Appends a b (joined (take i slices)) → AppendsBeginning b c (get_or slices i none).now → AppendsBeginning a c (joined slices)
AppendsBeginning-joined a b c slices i none h before stopped =
    let one = (get_or slices i none).now in
    let upto = AppendsBeginning-after a b c (joined (take i slices)) one before stopped in
    let rest = joined (drop (i + 1) slices) in
    subst (AppendsBeginning a c) (sym (joined-parted slices i none h)) (AppendsBeginning-before a c (joined (take i slices) ++ one) rest upto)
