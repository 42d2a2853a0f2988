use Rattle.std.proofs.Common.{◌≡◌, Err, ap}
use Rattle.base.specs.declared.refusal.Refusal.TheVariants as refusals
use Rattle.store_desk.proofs.MemoryLemmas.{memory_named, memory_other, memory_reopen}
use Rattle.store_desk.proofs.desk.Desk.octets_of.Goals as goal

pub returns-in-Err-clause-reads : goal.returns-in-Err-clause-reads
returns-in-Err-clause-reads g c =
    let r = c.in-Err.refusal in
    let made = c.into_memory.result in
    let write = c.into_memory.ensures.write in
    let other = c.into_memory.ensures.other in
    record {
      same = λ clean differs owner cs was.
          let kept = memory_other r made write other (λ is. differs (ap Err is)) in
          c.in-Err.ensures.same clean (λ e. kept (let h : Err r ≡ Err refusals.Store = e in cc)) owner cs was;
      spares = c.in-Err.ensures.spares;
      clean = c.in-Err.ensures.clean;
      poisons = λ is. c.in-Err.ensures.poisons (let same : made ≡ refusals.Store = cc in ap Err (c.into_memory.ensures.store same));
      steady = λ differs.
          let kept = memory_other r made write other (λ is. differs (ap Err is)) in
          c.in-Err.ensures.steady (λ e. kept (let h : Err r ≡ Err refusals.Store = e in cc));
      named = memory_named r made write other c.args.self.now.needs_reopening c.in-Err.ensures.named (λ closed. let h = (c.in-Err.ensures.closed closed).0 in cc);
    }

pub returns-in-Err-clause-closed : goal.returns-in-Err-clause-closed
returns-in-Err-clause-closed g c is =
    let h = c.in-Err.ensures.closed is in
    let e = h.0 in
    let same : c.in-Err.refusal ≡ refusals.Reopen = cc in
    (ap Err (memory_reopen c.in-Err.refusal c.into_memory.result c.into_memory.ensures.write c.into_memory.ensures.other same), h.1)
