-- One example of a ranking that is turned round is enough. Assumes nothing.
use Rattle.std.proofs.Common.{refl}
use Rattle.std.proofs.lemmas.Bool.{both_ways}
use Rattle.costs.specs.NoKind.{turned_round, NoLaws}

pub no_laws : NoLaws
no_laws laws = both_ways _ refl (laws.joins turned_round.cheaper turned_round.dearer turned_round.distortion refl)
