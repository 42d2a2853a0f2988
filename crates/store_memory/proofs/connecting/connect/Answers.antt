use Rattle.std.proofs.Common.{sym, subst}
use Rattle.sqlite.specs.Effect.{Database}
use Rattle.sqlite.specs.Files.{IsEmpty}
use Rattle.store_memory.proofs.CleanLemmas.{memory_is_clean}
use Rattle.store_memory.proofs.EmptyLemmas.{no_tables, nothing_found}
use Rattle.store_memory.proofs.connecting.connect.Goals as goal

pub returns-in-Ok-clause-empty : goal.returns-in-Ok-clause-empty
returns-in-Ok-clause-empty c =
    let clean = memory_is_clean c.in-Ok.conn in
    let opened = c.in-Ok.ensures.opened clean in
    let empty = nothing_found _ _ c.new-2.ensures (c.in-Ok.ensures.found clean).reads in
    (opened.0, opened.1, no_tables _ _ (subst (λ (db : Database). IsEmpty db.trees) (sym opened.0.clean) empty) (opened.1 opened.0.is_open).0)
