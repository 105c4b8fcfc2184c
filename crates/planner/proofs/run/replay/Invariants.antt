use Rattle.std.proofs.Common.{◌≡◌, [], length, drop}
use Rattle.planner.specs.Runs.{after_calls, most_standing}
use Rattle.planner.proofs.Turns.{State}
use Rattle.planner.proofs.run.replay.Given as goal

abbrev pub invariant-loop-call : goal.invariant-loop-call
invariant-loop-call g l =
    let means = g.S.Source.means in
    let start = l.initial.planner.places.now in
    let terms = l.initial.planner.tables.terms in
    (l.planner.places.ghost_name ≡ l.initial.planner.places.ghost_name)
    × State g.K.Kind.model means terms (after_calls means terms (length start) l.calls []) (most_standing means terms (length start) l.calls []) start (drop l.call-index l.calls) l.planner.tables l.planner.places.now
