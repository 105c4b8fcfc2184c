use Rattle.std.proofs.Common.{◌∙◌}
use Rattle.count.proofs.photographs.two_grades.Goals as goal

pub returns : goal.returns
returns c = c.offers_below.ensures ∙ simp (c.in_ok-set-2.ensures.left, c.in_ok-set.ensures.left, c.new-block.ensures, c.grades.ensures.is)
