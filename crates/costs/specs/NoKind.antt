-- Ranking by the worst distortion first and the total second keeps no laws. Assumes nothing.
use Rattle.std.specs.Prelude.{◌≡◌, ◌+◌, max, false, ◌&&◌, ◌||◌, ◌==◌, nat_le, nat_lt}
use Rattle.costs.specs.Model.{Model, NoDearer, Ordered}
use Rattle.costs.specs.declared.no_kind.WorstThenTotal.{WorstThenTotal}
use Rattle.costs.specs.declared.no_kind.TurnedRound.{TurnedRound}

abbrev pub worst_then_total : Model WorstThenTotal
worst_then_total = record {
  start = record { worst = 0; total = 0 };
  joined = λ a distortion. record { worst = max a.worst distortion; total = a.total + distortion };
  ranks = λ a b. nat_lt a.worst b.worst || (a.worst == b.worst && nat_le a.total b.total);
}

-- worst 5 and total 9 ranks before worst 6 and total 6; after distortion 7 they stand at 7, 16 and at 7, 13
abbrev pub turned_round : TurnedRound
turned_round = record { cheaper = record { worst = 5; total = 9 }; dearer = record { worst = 6; total = 6 }; distortion = 7 }

-- one value is no dearer than the other, and no longer so once the distortion is joined to both
pub record Turns (e : TurnedRound) : Type 0 where
  pub before : NoDearer worst_then_total e.cheaper e.dearer
  pub after : worst_then_total.ranks (worst_then_total.joined e.cheaper e.distortion) (worst_then_total.joined e.dearer e.distortion) ≡ false

abbrev pub NoLaws : Type 0
NoLaws = Ordered worst_then_total → ⊥
