use Rattle.std.proofs.Common.{◌≤◌, refl, sym, true≢false, arith}
use Rattle.std.specs.Prelude.{codes}
use Rattle.siglist.specs.Kinds.{sha256_kind}
use Rattle.siglist.specs.Writing.{entry_of}
use Rattle.desk_history.specs.Worked.{digest}
use Rattle.desk_exports.specs.Worked.{owner}
use Rattle.desk_minutes.proofs.laws.growth_is_written.Goals as goal

pub returns-clause-falls : goal.returns-clause-falls
returns-clause-falls c = (
  λ grown. absurd (true≢false (sym (grown (codes "grub") 3 refl))),
  λ risen. (let low : 2024010100 ≤ 2024010099 = risen in absurd (omega (arith, low))),
  λ grown. absurd (true≢false (sym (grown sha256_kind (entry_of owner (digest 170)) refl))),
)

pub returns-clause-bodies : goal.returns-clause-bodies
returns-clause-bodies c = (refl, refl, refl, refl)
