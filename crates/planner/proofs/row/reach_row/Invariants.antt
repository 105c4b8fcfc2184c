use Rattle.std.proofs.Common.{◌≡◌, List, ◌∷◌, Some}
use Rattle.terms.specs.Choice.{Block, offer_at}
use Rattle.planner.specs.Layout.{Column}
use Rattle.planner.proofs.Rows.{Upto}
use Rattle.planner.proofs.row.reach_row.Given as goal

abbrev pub invariant-loop-earlier : goal.invariant-loop-earlier
invariant-loop-earlier g l =
    let m = g.K.Kind.model in
    (block newest : Block) (blocks : List Block) → offer_at block l.grade ≡ Some l.offer → Column m l.prior.terms.now (newest ∷ blocks) l.prior.places.now → Upto m l.prior.terms.now block (newest ∷ blocks) l.grade l.earlier l.row
