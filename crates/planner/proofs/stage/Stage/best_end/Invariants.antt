use Rattle.std.proofs.Common.{◌≡◌, ◌<◌, ◌⊎◌}
use Rattle.planner.specs.Search.{Seen}
use Rattle.planner.proofs.stage.Stage.best_end.Given as goal

abbrev pub invariant-loop-bits : goal.invariant-loop-bits
invariant-loop-bits g l =
    let s = l.self in
    Seen g.K.Kind.model s.terms.now s.places.now (λ b k. (b < l.bits) × (k < s.terms.now.grades)) l.best

abbrev pub invariant-loop-grade : goal.invariant-loop-grade
invariant-loop-grade g l =
    let s = l.self in
    Seen g.K.Kind.model s.terms.now s.places.now (λ b k. ((b < l.bits) × (k < s.terms.now.grades)) ⊎ ((b ≡ l.bits) × (k < l.grade))) l.best
