use Rattle.std.proofs.Common.{vec_items}
use Rattle.job.proofs.Going.{Going}
use Rattle.job.proofs.answer.answer_job.Given as goal

abbrev pub invariant-loop-number : goal.invariant-loop-number
invariant-loop-number g l =
    (goal.iterator-loop-number g).can_next l.number-iterator × (goal.iterator-loop-number g).is_finite l.number-iterator
    × Going g.K.JobKind.kind l.initial.job l.lines (vec_items l.initial.out) l.job l.number-iterator (vec_items l.out)
