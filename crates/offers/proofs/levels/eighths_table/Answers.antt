use Rattle.std.proofs.Common.{refl}
use Rattle.offers.specs.Eighths.{table_right}
use Rattle.offers.proofs.levels.eighths_table.Goals as goal

pub returns : goal.returns
returns c = table_right _ refl refl
