use Rattle.std.proofs.Common.{refl}
use Rattle.terms.proofs.Charges.{free}
use Rattle.terms.proofs.terms.Terms.new.Goals as goal

pub returns : goal.returns
returns c = record { grades_is = refl; ceiling_is = refl; free = free 16 }
