use Rattle.jobtext.proofs.NumberLaws.{Sofar}
use Rattle.jobtext.proofs.numbers.number.Given as goal

abbrev pub invariant-loop-byte : goal.invariant-loop-byte
invariant-loop-byte l = Sofar l.field l.byte-index l.value
