use Rattle.std.proofs.Common.{◌<◌, arith}
use Rattle.std.proofs.lemmas.List.Elements.{All-same, recursion_from_All}
use Rattle.answers.proofs.Fits.{every_line_fits}
use Rattle.job.proofs.Saying.{never_short}
use Rattle.job.proofs.say.write_plan.Goals as goal

pub unwrap-requires : goal.unwrap-requires
unwrap-requires c =
    let low = recursion_from_All _ c.deref.result.now (All-same (λ grade. grade < 100) _ _ c.deref.ensures.0 c.args.grades.now.low) in
    never_short _ _ _ c.plan_line.result (every_line_fits.plan _ _ _ _ _ c.ranges.line.fits c.ranges.budget.fits c.ranges.bits.fits c.ranges.cost.fits c.deref.ensures.1 low) (omega arith) c.plan_line.ensures.answered
