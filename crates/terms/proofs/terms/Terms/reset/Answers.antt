use Rattle.std.proofs.Common.{rules}
use Rattle.terms.proofs.Charges.{free}
use Rattle.terms.proofs.terms.Terms.reset.Goals as goal

pub returns-clause-left : goal.returns-clause-left
returns-clause-left c = record { grades_is = search rules; ceiling_is = search rules; free = free 16 }
