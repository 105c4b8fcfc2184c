use Rattle.std.proofs.Common.{rules}
use Rattle.std.proofs.lemmas.Grind.{common_steps}
use Rattle.answers.proofs.lines.PlanLineLine.put.Goals as goal

pub returns : goal.returns
returns g c =
    let both = g.met.S.Sink.takes_both in
    let all = both _ _ _ _ _ c.put.ensures (both _ _ _ _ _ c.put_numbers.ensures (both _ _ _ _ _ c.put_numbers-2.ensures c.put-2.ensures)) in
    search (rules, common_steps)
