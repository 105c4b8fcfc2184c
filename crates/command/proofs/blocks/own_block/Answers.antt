use Rattle.std.proofs.Common.{arith, rules}
use Rattle.jobtext.specs.Parts.{line_fields}
use Rattle.command.proofs.PairLaws.{sofar_none, sofar_free, sofar_fails, sofar_more}
use Rattle.command.proofs.blocks.own_block.Goals as goal

pub loop-grade-init : goal.loop-grade-init
loop-grade-init c = sofar_none (line_fields c.args.line.now) c.args.grades _ c.new-block.ensures

pub read_pair-requires : goal.read_pair-requires
read_pair-requires c = (omega arith, sofar_free (line_fields c.args.line.now) c.args.grades c.loop-grade.grade c.loop-grade.block c.loop-grade.invariant)

pub loop-grade-preserved : goal.loop-grade-preserved
loop-grade-preserved c =
    sofar_more (line_fields c.args.line.now) c.args.grades c.loop-grade.grade c.loop-grade.block c.loop-grade.invariant c.loop-grade-test.true c.read_pair.new.block c.in_ok-read_pair.ensures

pub returns-in_err-read_pair : goal.returns-in_err-read_pair
returns-in_err-read_pair c = search (rules, sofar_fails (line_fields c.args.line.now) c.args.grades c.loop-grade.grade c.loop-grade.block c.loop-grade.invariant c.loop-grade-test.true)
