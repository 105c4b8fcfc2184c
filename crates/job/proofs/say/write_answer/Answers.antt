use Rattle.std.proofs.Common.{arith}
use Rattle.answers.proofs.Fits.{every_line_fits}
use Rattle.job.proofs.Saying.{never_short}
use Rattle.job.proofs.say.write_answer.Goals as goal

pub unwrap-requires : goal.unwrap-requires
unwrap-requires c = never_short _ _ _ c.fault_line.result (every_line_fits.fault _ _ c.layer.result _ (omega arith) (omega arith) (omega arith)) (omega arith) c.fault_line.ensures.answered
