use Rattle.std.proofs.Common.{inl, inr}
use Rattle.cli_opening.proofs.EndingLemmas.{keeps_same}
use Rattle.cli_follow.proofs.running.follow_all.Goals as goal

pub returns : goal.returns
returns g c = record {
  end = c.follow_input.result;
  is = c.ending.ensures;
  watch = c.follow_input.new.watch;
  followed = elim c.follow_input.ensures.followed [
    | inl unfound ↦ inl (unfound.0, keeps_same g.W.Write.contents _ _ unfound.2)
    | inr found ↦ inr found
  ];
}
