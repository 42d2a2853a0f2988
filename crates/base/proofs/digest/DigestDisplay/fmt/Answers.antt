use Rattle.std.proofs.Common.{sym, subst}
use Rattle.std.proofs.lemmas.Str.{IsUtf8-from_ascii}
use Rattle.std.specs.Str.{IsAscii}
use Rattle.base.proofs.DigestLemmas.{encode_lower-ascii}
use Rattle.base.proofs.digest.DigestDisplay.fmt.Goals as goal

pub unreachable-requires : goal.unreachable-requires
unreachable-requires g c =
    c.in-Err.ensures.cases.0 (IsUtf8-from_ascii _ (subst IsAscii (sym c.text-digits.ensures) (encode_lower-ascii _)))
