use Rattle.std.proofs.Common.{◌≡◌, ℕ, ◌<◌, List, [], ◌∷◌, length, MatchOption, ◌≤◌, slice_index_or}
use Rattle.terms.specs.Choice.{Block}
use Rattle.terms.specs.Rules.{rules_of}
use Rattle.trellis.specs.Places.{Best, Costs, unreached}
use Rattle.planner.specs.Layout.{width_of, size_of, Column, place_in}
use Rattle.planner.proofs.column.write_column.Given as goal

abbrev pub invariant-loop-grade : goal.invariant-loop-grade
invariant-loop-grade g l =
    let m = g.K.Kind.model in
    ((k : ℕ) → size_of l.terms ≤ k → slice_index_or l.column k (unreached m) ≡ slice_index_or l.initial.column k (unreached m))
    × ((blocks : List Block) → MatchOption l.prior (blocks ≡ []) (λ stage. (0 < length blocks) × Column m l.terms blocks stage.places.now) → (k : ℕ) → k < l.grade → (bits : ℕ) → bits < width_of l.terms → Best m (Costs m (rules_of l.terms) (l.offers ∷ blocks) k bits) (place_in m l.terms l.column k bits))
