use Rattle.std.proofs.Common.{[], get_or, refl, rules}
use Rattle.jobtext.specs.Parts.{line_fields}
use Rattle.offers.specs.Faults.{weight_row, extra_row, samples_row, gain_row}
use Rattle.command.specs.Demands.{NumberIn}
use Rattle.command.specs.Instructions.{add, gain, fields_of}
use Rattle.command.proofs.FieldLaws.{stand}
use Rattle.command.proofs.lines.gain_line.Goals as goal

pub returns : goal.returns
returns c =
    let fields = line_fields c.args.line.now in
    let block = c.in_ok-gain.gain in
    let weight : NumberIn weight_row (get_or fields 1 []) c.in_ok-weight.weight.times = search rules in
    let extra : NumberIn extra_row (get_or fields 2 []) c.in_ok-extra.extra.bits = search rules in
    let samples : NumberIn samples_row (get_or fields 3 []) block.samples = search rules in
    let loud : NumberIn gain_row (get_or fields 4 []) block.gain = search rules in
    let asked = add c.in_ok-weight.weight.times c.in_ok-extra.extra.bits (gain block.samples block.gain) in
    record {
      instruction = asked;
      kind_is = refl;
      written = stand fields (fields_of asked) c.requires.long (c.requires.begins, (weight.0.1, (extra.0.1, (samples.0.1, (loud.0.1, tt)))));
      good = ((weight.0.0, weight.1), (extra.0.0, extra.1), ((samples.0.0, samples.1), (loud.0.0, loud.1)));
      held = (gain block.samples block.gain, refl, λ grade. refl);
    }
