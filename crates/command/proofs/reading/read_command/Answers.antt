use Rattle.std.proofs.Common.{rules}
use Rattle.jobtext.specs.Parts.{line_fields}
use Rattle.command.proofs.Once.{read_once}
use Rattle.command.proofs.FieldLaws.{read_on}
use Rattle.command.proofs.reading.read_command.Goals as goal

pub returns-in_err-kind : goal.returns-in_err-kind
returns-in_err-kind c = record { read = search rules; once = read_once }

pub returns : goal.returns
returns c = record { read = search (rules, read_on c.map-grades.result (line_fields c.args.line.now) c.in_ok-kind.kind c.read_fields.result c.in_ok-kind.ensures); once = read_once }
