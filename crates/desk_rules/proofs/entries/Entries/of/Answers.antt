use Rattle.std.proofs.Common.{◌∙◌, ap}
use Rattle.std.specs.Prelude.{reverse}
use Rattle.desk_history.specs.Calls.{is_among}
use Rattle.desk_history.specs.Level.{greatest}
use Rattle.desk_rules.proofs.EntryLemmas.{stands_as}
use Rattle.desk_rules.proofs.entries.Entries.of.Goals as goal

pub returns-clause-ok : goal.returns-clause-ok
returns-clause-ok c =
    stands_as (record { digests = c.in_ok-digests.digests; certificates = c.in_ok-certificates.certificates; level = c.in_ok-level.level }) c.args.named.now (record {
      digests = λ q. c.in_ok-digests.ensures.ok q ∙ ap (λ ds. is_among ds q) (c.as_slice.ensures.value ∙ c.digests.ensures);
      certificates = λ q. c.in_ok-certificates.ensures.ok q ∙ ap (λ ds. is_among ds q) (c.as_slice-2.ensures.value ∙ c.certificates.ensures);
      required = λ q. c.in_ok-level.ensures q ∙ ap (λ xs. greatest (reverse xs) q) (c.as_slice-3.ensures.value ∙ c.components.ensures);
    })
