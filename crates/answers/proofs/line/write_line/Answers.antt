use Rattle.std.proofs.Common.{[], refl, arith, rules}
use Rattle.answers.proofs.line.write_line.Goals as goal

pub returns-clause-answered : goal.returns-clause-answered
returns-clause-answered g c =
    let line = c.put-2.ensures.1 [] c.args.room.now (record { long = refl; within = omega arith; bytes = refl }) in
    search rules
