use Rattle.desk_history.specs.Called.{called}
use Rattle.store_desk.proofs.AnsweringLemmas.{apply_named, apply_usable, next_one, refused_rules, refused_same}
use Rattle.store_desk.proofs.answering.DeskAnswersCalls.apply.Goals as goal

pub returns-clause-refused : goal.returns-clause-refused
returns-clause-refused g c clean =
    refused_rules g.S.Store c.args.self.now c.apply.new.self (called c.args.caller.now c.args.key.now c.args.command.now) c.apply.result (c.apply.ensures.refused clean)

pub returns-clause-same : goal.returns-clause-same
returns-clause-same g c clean =
    refused_same g.S.Store c.args.self.now c.apply.new.self (called c.args.caller.now c.args.key.now c.args.command.now) c.apply.result (c.apply.ensures.refused clean)

pub returns-clause-stopped : goal.returns-clause-stopped
returns-clause-stopped g c =
    next_one g.S.Store c.args.self.now c.apply.new.self (called c.args.caller.now c.args.key.now c.args.command.now) c.call_is_formed.ensures c.apply.ensures.stopped

pub returns-clause-fails : goal.returns-clause-fails
returns-clause-fails g c = record {
  before = c.apply.ensures.clean;
  named = apply_named c.args.self.now c.apply.new.self c.apply.result c.apply.ensures.closed c.apply.ensures.named;
  usable = λ owner cs was. apply_usable c.args.self.now c.apply.new.self c.apply.result was.usable c.apply.ensures.named;
  poisons = c.apply.ensures.poisons;
  closed = c.apply.ensures.closed;
}
