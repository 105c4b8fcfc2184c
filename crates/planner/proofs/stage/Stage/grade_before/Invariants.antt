use Rattle.std.proofs.Common.{ℕ, ◌<◌}
use Rattle.planner.specs.Search.{Leads}
use Rattle.planner.proofs.stage.Stage.grade_before.Given as goal

abbrev pub invariant-loop-earlier : goal.invariant-loop-earlier
invariant-loop-earlier g l = (k : ℕ) → k < l.earlier → Leads g.K.Kind.model l.self.terms.now l.self.places.now l.end l.offer k → ⊥
