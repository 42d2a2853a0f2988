use Rattle.base.proofs.GuidLemmas.{IsGuidText-one}
use Rattle.base.proofs.laws.guid_text_is_one.Goals as goal

pub returns : goal.returns
returns c = IsGuidText-one
