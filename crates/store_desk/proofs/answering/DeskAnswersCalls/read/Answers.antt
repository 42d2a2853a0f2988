use Rattle.std.proofs.Common.{rules}
use Rattle.store_desk.proofs.AnsweringLemmas.{reading_named, reading_usable, still_one}
use Rattle.store_desk.proofs.answering.DeskAnswersCalls.read.Goals as goal

pub returns-clause-fails : goal.returns-clause-fails
returns-clause-fails g c = record {
  before = c.read.ensures.reads.clean;
  named = reading_named c.args.reading c.args.self.now.needs_reopening c.read.result c.read.ensures.reads.named;
  usable = λ owner cs was. reading_usable c.args.reading c.args.self.now.needs_reopening c.read.result was.usable c.read.ensures.reads.named;
  poisons = c.read.ensures.reads.poisons;
  closed = search rules;
}

pub returns-clause-stopped : goal.returns-clause-stopped
returns-clause-stopped g c = still_one g.S.Store c.args.self.now c.read.new.self c.read.ensures.reads.spares
