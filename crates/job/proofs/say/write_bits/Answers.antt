use Rattle.std.proofs.Common.{arith}
use Rattle.answers.proofs.Fits.{every_line_fits}
use Rattle.job.proofs.Saying.{never_short}
use Rattle.job.proofs.say.write_bits.Goals as goal

pub unwrap-requires : goal.unwrap-requires
unwrap-requires c = never_short _ _ _ c.bits_line.result (every_line_fits.bits _ _ _ c.ranges.line.fits c.ranges.bound.fits c.ranges.bits.fits) (omega arith) c.bits_line.ensures.answered
