use Rattle.std.proofs.Common.{◌≡◌, ℕ, ◌<◌, None}
use Rattle.planner.specs.Search.{Within}
use Rattle.planner.proofs.stage.Stage.first_within.Given as goal

abbrev pub invariant-seek : goal.invariant-seek
invariant-seek g l =
    let s = l.self in
    (l.fewest ≡ None)
    × ((b k : ℕ) → b < l.bits → k < s.terms.now.grades → Within g.K.Kind.model s.terms.now s.places.now l.bound k b → ⊥)

abbrev pub invariant-loop-grade : goal.invariant-loop-grade
invariant-loop-grade g l =
    let s = l.self in
    (l.fewest ≡ None)
    × ((k : ℕ) → k < l.grade → Within g.K.Kind.model s.terms.now s.places.now l.bound k l.bits → ⊥)
