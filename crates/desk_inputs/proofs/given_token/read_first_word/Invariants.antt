use Rattle.std.proofs.Common.{◌-◌, length}
use Rattle.std.specs.Io.KnownBytes.{Consumes}
use Rattle.base.proofs.LineLemmas.{HasNoLf}
use Rattle.desk_inputs.proofs.FirstWordLemmas.{HasNoSpace}
use Rattle.desk_inputs.specs.declared.given_token.TheConstants.{MOST_READ}
use Rattle.desk_inputs.proofs.given_token.read_first_word.Given as goal

abbrev pub invariant-loop-reader : goal.invariant-loop-reader
invariant-loop-reader g l = record {
  taken : Consumes (g.R.Read.remaining l.initial.reader) (g.R.Read.remaining l.reader) l.word.items;
  plain : HasNoLf l.word.items;
  whole : HasNoSpace l.word.items;
}

abbrev pub decreases-loop-reader : goal.decreases-loop-reader
decreases-loop-reader g l = MOST_READ - length l.word.items
