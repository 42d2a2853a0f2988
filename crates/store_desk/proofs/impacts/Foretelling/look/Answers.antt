use Rattle.std.proofs.Common.{[], sym, subst}
use Rattle.desk_types.specs.declared.caller.Caller.TheVariants as callers
use Rattle.store_desk.specs.Impacts.{GivesOutlook}
use Rattle.store_desk.proofs.ImpactLemmas.{gives_ahead}
use Rattle.store_desk.proofs.impacts.Foretelling.look.Goals as goal

pub returns-in-Ok-unless_no_memory-clause-value : goal.returns-in-Ok-unless_no_memory-clause-value
returns-in-Ok-unless_no_memory-clause-value g c clean inside =
    let caller = c.args.self.now.caller.now in
    let k = c.args.self.now.number in
    let a = c.in-Ok.ensures.value clean inside in
    let same = c.in-Ok-unless_no_memory.ensures.ok in
    record {
      same = a.same;
      tells = λ owner cs history sees current shown.
          let it = a.tells owner cs history sees current in (
            subst (GivesOutlook cs caller k) (sym same.0) (gives_ahead cs caller k c.outlook_in.result shown (c.outlook_in.ensures.exact owner cs (callers.Person []) [] history.legal it.0) same.1),
            it.1,
          );
    }
