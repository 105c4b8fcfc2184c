use Rattle.jobtext.proofs.PartLaws.{parts_only}
use Rattle.jobtext.proofs.lines.Lines.of.Goals as goal

pub returns-clause-only : goal.returns-clause-only
returns-clause-only c = parts_only
