use Rattle.std.proofs.Common.{rules, None, if◌then◌else◌, nat_lt}
use Rattle.offers.proofs.Made.{made_by}
use Rattle.offers.proofs.source.offers_below.Goals as goal

pub returns : goal.returns
returns g c = made_by _ _ _ (λ grade. if nat_lt grade c.args.grades then g.S.Source.means c.args.source.now grade else None) None c.from_fn.ensures.items (λ i y left small call. search rules)
