use Rattle.std.proofs.Common.{arith, inl, inr}
use Rattle.desk_inputs.proofs.GatheringLemmas.{gathered_many}
use Rattle.desk_inputs.proofs.imports.gathering.Gathered.into_command.Goals as goal

pub returns-in_default : goal.returns-in_default
returns-in_default c = λ items h.
    gathered_many items _ _ _ _ _ _ h c.self.view_is c.if-self-gt-MOST_IMPORTED.false (omega (arith, c.in_default.ensures))

pub returns-in_default-new : goal.returns-in_default-new
returns-in_default-new c = λ items h.
    gathered_many items _ _ _ _ _ _ h c.self.view_is c.if-self-gt-MOST_IMPORTED.false (omega (arith, c.in_default-new.ensures))

pub returns-in_default-new-2 : goal.returns-in_default-new-2
returns-in_default-new-2 c = λ items h. elim c.in_default-new-2.ensures [
  | inl many ↦ gathered_many items _ _ _ _ _ _ h c.self.view_is c.if-self-gt-MOST_IMPORTED.false (omega (arith, many))
  | inr named ↦ absurd (cc)
]

pub returns-in-None : goal.returns-in-None
returns-in-None c = λ items h.
    gathered_many items _ _ _ _ _ _ h c.self.view_is c.if-self-gt-MOST_IMPORTED.false
    (rw (c.in-Some.ensures, c.in-Some-new.ensures, c.in-Some-new-2.ensures) at c.in-None.ensures)
