use Rattle.std.proofs.Common.{◌≡◌, ◌*◌, ap₂, arith}
use Rattle.planner.specs.Layout.{width_of}
use Rattle.planner.proofs.Rows.{row_below}
use Rattle.planner.proofs.stage.Stage.at.Goals as goal

pub offset_bounds-places-from : goal.offset_bounds-places-from
offset_bounds-places-from g c =
    let s = c.args.self.now in
    let t = s.terms.now in
    let row : c.from.result * c.width.result ≡ c.args.grade * width_of t = ap₂ (λ x y. x * y) c.from.ensures c.width.ensures.is in
    omega (arith, row, s.whole, row_below c.args.grade t.grades (width_of t) c.requires.grade)

pub bounds-places-from : goal.bounds-places-from
bounds-places-from g c =
    let s = c.args.self.now in
    let t = s.terms.now in
    let row : c.from.result * c.width.result ≡ c.args.grade * width_of t = ap₂ (λ x y. x * y) c.from.ensures c.width.ensures.is in
    omega (arith, row, s.whole, row_below c.args.grade t.grades (width_of t) c.requires.grade)
