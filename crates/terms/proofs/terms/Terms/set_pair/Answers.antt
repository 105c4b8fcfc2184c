use Rattle.std.proofs.Common.{refl, rules}
use borrow.Author.Rules.{Below-row}
use Rattle.terms.proofs.Charges.{put_charge}
use Rattle.terms.proofs.terms.Terms.set_pair.Goals as goal

pub returns-clause-left : goal.returns-clause-left
returns-clause-left c =
    record {
      grades_is = refl;
      ceiling_is = refl;
      charged = put_charge 16 c.args.self.now.charges c.args.from c.args.to c.in_ok-charge.charge c.args.charge (search rules) (search rules) (search rules) (search (rules, Below-row)) c.in_ok-charge.ensures.same;
    }
