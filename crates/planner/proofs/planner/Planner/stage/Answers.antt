use Rattle.std.proofs.Common.{◌+◌, ◌*◌, drop, sym, ◌∙◌, ap, arith, slice_index_or}
use Rattle.std.proofs.lemmas.List.{get_or-drop}
use Rattle.trellis.specs.Places.{unreached}
use Rattle.planner.specs.Layout.{size_of}
use Rattle.planner.specs.Standing.{blocks_to}
use Rattle.planner.proofs.Rows.{part_at, column_same}
use Rattle.planner.proofs.planner.Planner.stage.Goals as goal

pub returns-clause-holds : goal.returns-clause-holds
returns-clause-holds g c =
    let m = g.K.Kind.model in
    let t = c.args.self.now.tables.terms in
    let places = c.args.self.now.places.now in
    let at = c.args.n * c.size-size.result in
    let at_is = ap (λ s. c.args.n * s) c.size-size.ensures.is in
    column_same m t (blocks_to c.args.self.now.tables c.args.n) (drop (c.args.n * size_of t) places) _
    (λ k h. part_at places at c.size-size.result k (unreached m) (omega (arith, c.size-size.ensures.is)) ∙ ap (λ a. slice_index_or places (a + k) (unreached m)) at_is ∙ sym (get_or-drop (c.args.n * size_of t) places k (unreached m)))
    (c.args.self.now.sound c.args.n c.requires)
