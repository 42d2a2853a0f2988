-- Writes, one after another.
use Rattle.std.proofs.Common.{◌≡◌, List, [], ◌∷◌, ◌++◌, refl}
use Rattle.desk_history.specs.declared.write.Write.{Write}
use Rattle.desk_history.specs.Tables.{Tables}
use Rattle.desk_history.specs.Writes.{all_written, written}

-- the writes of two lists are made one after the other
pub written-append : (ws vs : List Write) (t : Tables) → all_written (ws ++ vs) t ≡ all_written vs (all_written ws t)
written-append [] vs t = refl
written-append (w ∷ ws) vs t = written-append ws vs (written w t)
