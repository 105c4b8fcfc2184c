use Rattle.std.proofs.Common.{◌≡◌, ℕ, ◌+◌, ◌<◌, ◌≤◌, slice_index_or}
use Rattle.trellis.specs.Places.{relaxed, unreached}
use Rattle.planner.proofs.row.relax_row.Given as goal

abbrev pub invariant-loop-bits : goal.invariant-loop-bits
invariant-loop-bits g l =
    let u = unreached g.K.Kind.model in
    ((k : ℕ) → k < l.step → slice_index_or l.row k u ≡ slice_index_or l.initial.row k u)
    × ((k : ℕ) → l.bits ≤ k → slice_index_or l.row k u ≡ slice_index_or l.initial.row k u)
    × ((b : ℕ) → b + l.step < l.bits → slice_index_or l.row (b + l.step) u ≡ relaxed g.K.Kind.model l.distortion (slice_index_or l.initial.row (b + l.step) u) (slice_index_or l.earlier b u))
