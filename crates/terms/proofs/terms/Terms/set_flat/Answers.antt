use Rattle.std.proofs.Common.{refl, arith}
use Rattle.std.proofs.lemmas.Bool.Decides.{nat_tests}
use Rattle.terms.proofs.Charges.{flat_row}
use Rattle.terms.proofs.terms.Terms.set_flat.Goals as goal

pub returns-clause-left : goal.returns-clause-left
returns-clause-left c =
    record {
      grades_is = refl;
      ceiling_is = refl;
      charged = λ a b ha hb. let row = c.loop-grade.invariant a ha in let is = flat_row 16 c.in_ok-charge.charge a b ha hb in grind (arith, nat_tests);
    }
