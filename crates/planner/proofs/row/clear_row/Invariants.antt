use Rattle.std.proofs.Common.{◌≡◌, ℕ, ◌<◌, slice_index_or}
use Rattle.trellis.specs.Places.{unreached}
use Rattle.planner.proofs.row.clear_row.Given as goal

abbrev pub invariant-loop-place : goal.invariant-loop-place
invariant-loop-place g l = (b : ℕ) → b < l.place-index → slice_index_or l.row b (unreached g.K.Kind.model) ≡ unreached g.K.Kind.model
