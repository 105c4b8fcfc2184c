use Rattle.std.proofs.Common.{rules}
use Rattle.answers.proofs.line.put_number.Goals as goal

pub returns : goal.returns
returns g c = let both = g.met.S.Sink.takes_both _ _ _ _ _ c.put.ensures c.put-2.ensures in search rules
