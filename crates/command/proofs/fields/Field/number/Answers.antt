use Rattle.std.proofs.Common.{rules}
use Rattle.command.specs.Fields.{bytes_in}
use Rattle.command.proofs.DashLaws.{no_number}
use Rattle.command.proofs.fields.Field.number.Goals as goal

pub returns-in_default : goal.returns-in_default
returns-in_default c = let none = no_number (bytes_in c.args.self) c.token.result c.token.ensures c.in_default.not-Number in search rules
