use Rattle.jobtext.specs.Parts.{line_fields}
use Rattle.command.proofs.PairLaws.{Sofar}
use Rattle.command.proofs.blocks.own_block.Given as goal

abbrev pub invariant-loop-grade : goal.invariant-loop-grade
invariant-loop-grade l = Sofar (line_fields l.line) l.grades l.grade l.block
