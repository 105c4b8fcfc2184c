use Rattle.trellis.proofs.Names.{one_plan, best_plan}
use Rattle.trellis.proofs.named.named_plan.Goals as goal

pub returns : goal.returns
returns g c = record { one = one_plan g.met.K.Kind.ordered g.met.K.Kind.alike_same; best = best_plan g.met.K.Kind.ordered g.met.K.Kind.alike_same }
