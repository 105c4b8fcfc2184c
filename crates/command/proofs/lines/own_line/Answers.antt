use Rattle.std.proofs.Common.{[], get_or, refl, arith, rules}
use Rattle.jobtext.specs.Parts.{line_fields}
use Rattle.offers.specs.Faults.{weight_row, extra_row}
use Rattle.command.specs.Demands.{NumberIn}
use Rattle.command.specs.Instructions.{add, own, fields_of}
use Rattle.command.proofs.FieldLaws.{stand}
use Rattle.command.proofs.PairLaws.{length_pairs}
use Rattle.command.proofs.lines.own_line.Goals as goal

pub returns : goal.returns
returns c =
    let fields = line_fields c.args.line.now in
    let weight : NumberIn weight_row (get_or fields 1 []) c.in_ok-weight.weight.times = search rules in
    let extra : NumberIn extra_row (get_or fields 2 []) c.in_ok-extra.extra.bits = search rules in
    let read = c.in_ok-own_block.ensures in
    let asked = add c.in_ok-weight.weight.times c.in_ok-extra.extra.bits (own read.offers) in
    record {
      instruction = asked;
      kind_is = refl;
      written = stand fields (fields_of asked) (omega (arith, c.requires.1.long, read.long, length_pairs read.offers)) (c.requires.1.begins, (weight.0.1, (extra.0.1, read.written)));
      good = ((weight.0.0, weight.1), (extra.0.0, extra.1), read.good);
      held = (own read.offers, refl, read.means);
    }
