use Rattle.std.proofs.Common.{rules}
use Rattle.std.proofs.lemmas.Grind.{common_steps}
use Rattle.answers.proofs.lines.FaultLineLine.put.Goals as goal

pub returns : goal.returns
returns g c =
    let both = g.met.S.Sink.takes_both in
    let number = both _ _ _ _ _ c.put_number.ensures c.put-4.ensures in
    let all = both _ _ _ _ _ c.put.ensures (both _ _ _ _ _ c.put_numbers.ensures (both _ _ _ _ _ c.put-2.ensures (both _ _ _ _ _ c.put-3.ensures number))) in
    search (rules, common_steps)
