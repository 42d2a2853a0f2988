-- The bytes that were taken, and the body.
use Rattle.std.proofs.Common.{◌≡◌, ℕ, ◌<◌, List, length, sym, ap, arith, length-append, Option, Some, None, Vec}
use Rattle.std.specs.declared.alloc.Global.{Global}
use Rattle.std.proofs.lemmas.List.{take_at}
use Rattle.std.proofs.Math.Seq.{drop-append_seam}
use Rattle.std.specs.Io.KnownBytes.{Consumes, IsAtEnd}
use Rattle.http_requests.specs.heads.Bodies.{TakesBody}

-- all bytes of the body were taken
pub whole_body : (size : ℕ) (o n : Option (List ℕ)) (v : Vec ℕ Global) → Consumes o n v.items → length v.items ≡ size
    → TakesBody size o n (Some v)
whole_body size None n v took long = tt
whole_body size (Some b) None v took long = absurd took
whole_body size (Some b) (Some left) v took long =
    let sum = length-append v.items left in (
      rw took (omega arith),
      rw took (sym (take_at v.items left size long)),
      rw (took, ← long) (ap (λ (l : List ℕ). Some l) (sym (drop-append_seam v.items left))),
    )

-- the input ended before the body did
pub short_body : (size : ℕ) (o n m : Option (List ℕ)) (xs : List ℕ) → Consumes o n xs → IsAtEnd n → length xs < size
    → TakesBody size o m None
short_body size None n m xs took end short = tt
short_body size (Some b) None m xs took end short = absurd took
short_body size (Some b) (Some left) m xs took end short =
    let sum = length-append xs left in
    let none : length left ≡ 0 = ap length end in
    rw took (omega arith)
