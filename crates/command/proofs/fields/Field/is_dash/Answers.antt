use Rattle.command.specs.Fields.{bytes_in}
use Rattle.command.proofs.DashLaws.{no_dash}
use Rattle.command.proofs.fields.Field.is_dash.Goals as goal

pub returns-in_default : goal.returns-in_default
returns-in_default c = no_dash (bytes_in c.args.self) c.token.result c.token.ensures c.in_default.not-Dash
