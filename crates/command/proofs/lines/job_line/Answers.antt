use Rattle.std.proofs.Common.{◌≡◌, ◌∷◌, [], get_or, refl, rules}
use Rattle.jobtext.specs.Parts.{line_fields}
use Rattle.terms.specs.Faults.{grades_row, ceiling_row, charge_row}
use Rattle.terms.specs.Rules.{Flat}
use Rattle.command.specs.Demands.{cost_letter, NumberIn}
use Rattle.command.specs.Instructions.{open_job, fields_of}
use Rattle.command.proofs.FieldLaws.{stand}
use Rattle.command.proofs.lines.job_line.Goals as goal

pub returns : goal.returns
returns c =
    let fields = line_fields c.args.line.now in
    let terms = c.in_ok-terms-2.terms in
    let kind : get_or fields 1 [] ≡ cost_letter c.in_ok-kind.kind ∷ [] = search rules in
    let charge = c.in_ok-terms-2.ensures.0 in
    let flat : Flat c.in_ok-terms.terms charge terms = search rules in
    let grades : NumberIn grades_row (get_or fields 2 []) terms.grades = search rules in
    let ceiling : NumberIn ceiling_row (get_or fields 3 []) terms.ceiling = search rules in
    let charged : NumberIn charge_row (get_or fields 4 []) charge = search rules in
    let asked = open_job c.in_ok-kind.kind terms.grades terms.ceiling charge in
    record {
      instruction = asked;
      kind_is = refl;
      written = stand fields (fields_of asked) c.requires.long (c.requires.begins, (kind, (grades.0.1, (ceiling.0.1, (charged.0.1, tt)))));
      good = ((grades.0.0, grades.1), (ceiling.0.0, ceiling.1), (charged.0.0, charged.1));
      held = (charge, refl, flat.charged);
    }
