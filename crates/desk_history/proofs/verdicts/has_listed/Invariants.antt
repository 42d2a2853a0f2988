use Rattle.std.proofs.Common.{◌≡◌, drop}
use Rattle.std.specs.List.{list_any}
use Rattle.desk_types.specs.declared.kind.ListedKind.TheVariants as kinds
use Rattle.desk_history.proofs.verdicts.has_listed.Given as goal

abbrev pub invariant-loop-certificate : goal.invariant-loop-certificate
invariant-loop-certificate g l =
    list_any ((g.S.Standing.standing l.lists).listed kinds.Certificate) (drop l.certificate-index l.certificates)
    ≡ list_any ((g.S.Standing.standing l.lists).listed kinds.Certificate) l.certificates
