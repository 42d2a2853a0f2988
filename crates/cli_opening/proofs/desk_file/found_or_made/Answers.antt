use Rattle.std.proofs.Common.{◌≡◌, ◌∙◌, rules, sym}
use Rattle.sqlite.specs.Held.{state}
use Rattle.base.specs.declared.refusal.Refusal.TheVariants as refusals
use Rattle.store_schema.specs.Tables.{no_schema}
use Rattle.cli_opening.proofs.CommitLemmas.{finding_refusal, found_made, found_opened, none_refused, unfound, unmade}
use Rattle.cli_opening.proofs.desk_file.found_or_made.Goals as goal

-- the desk was opened

pub returns-in-Ok-clause-found : goal.returns-in-Ok-clause-found
returns-in-Ok-clause-found g c = found_opened g.S.Store c.args.conn c.args.owner.now c.in-Ok.desk c.in-Ok.ensures.own c.in-Ok.ensures.opened

-- there was none, and it was made

pub returns-in-Ok-make_over-clause-found : goal.returns-in-Ok-make_over-clause-found
returns-in-Ok-make_over-clause-found g c =
    let is : c.in-Err.refusal ≡ refusals.NotADesk = (let e = c.eq.ensures in let h = c.if-eq.true in search (rules, e, h)) in
    let was_bare : (state g.S.Store c.args.conn).now.schema ≡ no_schema = sym c.schema.ensures.value ∙ c.is_bare-was_bare.ensures (search rules) in
    let bare : (state g.S.Store c.in-Err.conn).now.schema ≡ no_schema = sym c.schema-then-was_bare.ensures.value ∙ c.is_bare.ensures (search rules) in
    found_made g.S.Store c.args.conn c.in-Err.conn c.in-Err.refusal c.args.owner.now c.in-Ok-make_over.desk is
    (none_refused g.S.Store c.args.conn c.in-Err.conn c.args.owner.now c.in-Err.refusal is c.in-Err.ensures.refused) was_bare bare
    c.in-Ok-make_over.ensures.made

-- nor was one made

pub returns-in-Err-make_over-clause-refused : goal.returns-in-Err-make_over-clause-refused
returns-in-Err-make_over-clause-refused g c =
    let is : c.in-Err.refusal ≡ refusals.NotADesk = (let e = c.eq.ensures in let h = c.if-eq.true in search (rules, e, h)) in
    let was_bare : (state g.S.Store c.args.conn).now.schema ≡ no_schema = sym c.schema.ensures.value ∙ c.is_bare-was_bare.ensures (search rules) in
    unmade g.S.Store c.args.conn c.in-Err.conn c.in-Err-make_over.unmade c.in-Err.refusal c.in-Err-make_over.again c.args.owner.now is
    (none_refused g.S.Store c.args.conn c.in-Err.conn c.args.owner.now c.in-Err.refusal is c.in-Err.ensures.refused) was_bare
    c.in-Err-make_over.ensures.refused

pub returns-in-Err-make_over-clause-named : goal.returns-in-Err-make_over-clause-named
returns-in-Err-make_over-clause-named g c =
    let bare : (state g.S.Store c.in-Err.conn).now.schema ≡ no_schema = sym c.schema-then-was_bare.ensures.value ∙ c.is_bare.ensures (search rules) in
    finding_refusal (state g.S.Store c.in-Err.conn).now.schema c.in-Err-make_over.again bare (λ exists. (c.in-Err-make_over.ensures.refused.taken exists).0) c.in-Err-make_over.ensures.named

-- no desk was opened, and there is no room for one

pub returns-else-eq-clause-refused : goal.returns-else-eq-clause-refused
returns-else-eq-clause-refused g c = unfound g.S.Store c.args.conn c.in-Err.conn c.in-Err.refusal c.args.owner.now c.in-Err.ensures.refused
