use Rattle.std.proofs.Common.{rules}
use Rattle.desk_inputs.proofs.PlacesLemmas.{gap_placed, length_placed}
use Rattle.desk_inputs.proofs.collecting.facts.Goals as goal

-- nothing that is read changes the content, so each part speaks of the same file
pub returns-clause-exact : goal.returns-clause-exact
returns-clause-exact g c =
    let long = length_placed _ _ c.in_ok-layout.ensures.exact.places in
    let gap = gap_placed _ _ c.in_ok-layout.ensures.exact.places in
    record {
      laid = search rules;
      length = search rules;
      gap = search rules;
      file = search rules;
      digest = search rules;
      signing = search rules;
      carried = search rules;
      components = search rules;
    }

pub read_components-requires-clause-carries : goal.read_components-requires-clause-carries
read_components-requires-clause-carries g c = search rules
