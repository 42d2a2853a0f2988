use Rattle.std.proofs.Common.{◌≡◌, ◌-◌, suc, length, sym, ap, ◌∙◌, arith, rules}
use Rattle.siglist.specs.Steps.Reading.{entries_of}
use Rattle.siglist.proofs.entry.EntriesIterator.next.Goals as goal

pub returns-clause-steps : goal.returns-clause-steps
returns-clause-steps c =
    let e = c.self.inside in
    let more : e.count ≡ suc (e.count - 1) = omega arith in
    sym c.self.view_is ∙ ap (λ n. entries_of n e.size e.rest.now) more ∙ c.first_entry-entry.ensures.entry (e.count - 1)

pub returns-clause-goes : goal.returns-clause-goes
returns-clause-goes c =
    let e = c.self.inside in
    let more : e.count ≡ suc (e.count - 1) = omega arith in
    let step = sym c.self.view_is ∙ ap (λ n. entries_of n e.size e.rest.now) more ∙ c.first_entry-entry.ensures.entry (e.count - 1) in
    let shorter = ap length step in search rules
