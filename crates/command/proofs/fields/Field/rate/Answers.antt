use Rattle.std.proofs.Common.{rules}
use Rattle.command.specs.Fields.{bytes_in}
use Rattle.command.proofs.DashLaws.{rate_out}
use Rattle.command.proofs.fields.Field.rate.Goals as goal

pub returns-in_err-here-in-Number : goal.returns-in_err-here-in-Number
returns-in_err-here-in-Number c = search (rules, rate_out (bytes_in c.args.self) c.in-Number.value)
