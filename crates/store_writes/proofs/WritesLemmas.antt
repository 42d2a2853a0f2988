-- Writes, one after another.
use Rattle.std.proofs.Common.{◌≡◌, ℕ, List, [], ◌∷◌, ◌++◌, take, length, get_or, ◌<◌, ◌+◌, add-one, refl, sym, ap, ◌∙◌}
use Rattle.std.proofs.Math.Seq.{take-suc}
use Rattle.desk_history.specs.Tables.{Tables}
use Rattle.desk_history.specs.Writes.{all_written, written}
use Rattle.desk_history.specs.declared.write.Write.{Write}

push : (t : Tables) (ws : List Write) (w : Write) → all_written (ws ++ w ∷ []) t ≡ written w (all_written ws t)
push t [] w = refl
push t (x ∷ ws) w = push (written x t) ws w

-- the first i writes and then the one at i are the first i + 1
pub one_more : (t : Tables) (ws : List Write) (i : ℕ) (w : Write) → i < length ws → w ≡ get_or ws i w → written w (all_written (take i ws) t) ≡ all_written (take (i + 1) ws) t
one_more t ws i w low is =
    sym (ap (λ l. all_written l t) (ap (λ k. take k ws) (add-one i) ∙ take-suc ws i w low ∙ ap (λ x. take i ws ++ x ∷ []) (sym is)) ∙ push t (take i ws) w)
