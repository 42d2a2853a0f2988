use Rattle.std.proofs.Common.{filter, reverse, sym}
use Rattle.store_impacts.specs.Touching.{brought, is_touched}
use Rattle.store_impacts.proofs.LoopLemmas.{all_brought, all_told}
use Rattle.store_impacts.proofs.barring.barred_images.Goals as goal

pub returns-clause-value : goal.returns-clause-value
returns-clause-value g c clean inside =
    let entries = g.E.Standing.standing c.args.entries.now in
    let it = c.in_ok-found.ensures.value clean inside in
    record {
      kept = it.kept;
      tells = λ owner cs history sees k alike are.
          all_told entries cs c.entries_bar_alone.ensures.tell k alike c.in_ok-found.found.items
          (it.tells owner cs history sees (filter (is_touched entries) (reverse (brought cs))) (all_brought entries cs) (sym are));
    }
