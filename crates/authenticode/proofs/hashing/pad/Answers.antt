use Rattle.std.proofs.Common.{◌∙◌, ap}
use Rattle.std.specs.Prelude.{not}
use Rattle.authenticode.specs.Hashing.{padding_of}
use Rattle.pe_image.specs.Hashed.{hashed_bytes}
use Rattle.authenticode.proofs.HashingLemmas.{Holds-padded, Holds-signed, has_table-told}
use Rattle.authenticode.proofs.hashing.pad.Goals as goal

pub returns-then-is_none : goal.returns-then-is_none
returns-then-is_none c = λ f places size held.
    let told = has_table-told f c.args.layout.now c.table.result c.is_none.result places c.table.ensures c.is_none.ensures in
    let count = c.padding_size.ensures.value ∙ ap padding_of size in
    Holds-padded c.update.new.self f c.padding_size.result (told ∙ ap not c.if-is_none.true) count c.padding_size.ensures.few (c.update.ensures (hashed_bytes f) held)

pub returns-else-is_none : goal.returns-else-is_none
returns-else-is_none c = λ f places size held.
    let told = has_table-told f c.args.layout.now c.table.result c.is_none.result places c.table.ensures c.is_none.ensures in
    Holds-signed c.args.hasher.now f (told ∙ ap not c.if-is_none.false) held
