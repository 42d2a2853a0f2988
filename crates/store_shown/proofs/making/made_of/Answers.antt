use Rattle.std.proofs.Common.{rules, subst}
use Rattle.base.specs.Digests.{IsArranged}
use Rattle.store_shown.specs.Steps.{digests_of}
use Rattle.store_shown.proofs.making.made_of.Goals as goal

pub returns : goal.returns
returns c =
    let facts = c.in_ok-facts.ensures in
    record {
      number = search rules;
      submitter = search rules;
      title = search rules;
      state = search rules;
      extent = facts.extent;
      file = facts.file;
      digest = facts.digest;
      signing = facts.signing;
      carried = subst (λ rows. IsArranged (digests_of rows) c.in_ok-facts.facts.carried) c.deref.ensures.value facts.carried;
      components = facts.components;
      votes = c.in_ok-votes.ensures.all;
      order = c.in_ok-votes.ensures.order;
      returned = c.returned_in.ensures;
    }
