use Rattle.std.proofs.Common.{length, ap, arith}
use Rattle.jobtext.proofs.PartLaws.{parts_few}
use Rattle.job.proofs.numbered.NumberedLines.of.Goals as goal

pub invariant_of-result : goal.invariant_of-result
invariant_of-result c = record { few = omega (arith, ap length c.of.ensures.all, parts_few 10 c.args.text.now, c.requires) }
