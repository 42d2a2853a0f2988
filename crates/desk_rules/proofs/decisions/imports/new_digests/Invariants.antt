use Rattle.std.proofs.Common.{◌≡◌, ◌||◌, ◌++◌, ℕ, List, drop}
use Rattle.std.specs.Prelude.{IsTrue, reverse}
use Rattle.desk_history.specs.Calls.{is_among}
use Rattle.desk_rules.specs.ImportSteps.{put_new}
use Rattle.desk_rules.proofs.decisions.imports.new_digests.Given as goal

abbrev pub invariant-loop-digest : goal.invariant-loop-digest
invariant-loop-digest l = record {
  sees : (q : List ℕ) → is_among l.known.keys q ≡ (is_among l.new.items q || is_among l.rows q);
  put : (table : List (List ℕ)) → ((d : List ℕ) → IsTrue (is_among l.named d) → is_among l.rows d ≡ is_among table d)
      → put_new (drop l.digest-index l.named) (reverse l.new.items ++ table) ≡ put_new l.named table;
}
