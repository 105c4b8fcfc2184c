use Rattle.std.proofs.Common.{◌≡◌, ◌+◌, ◌-◌, ◌*◌, ◌≤◌, ◌∷◌, length, ap, ap₂, ◌∙◌, sym, subst, arith, below_more, rules, slice_index_or}
use Rattle.terms.specs.Rules.{rules_of}
use Rattle.trellis.specs.Places.{Best, Costs, unreached}
use borrow.Rule.Slice.PartMut.{put_mid}
use Rattle.planner.specs.Layout.{width_of}
use Rattle.planner.proofs.Rows.{row_below, put_below, put_above, put_inside}
use Rattle.planner.proofs.column.write_column.Goals as goal

pub loop-grade-preserved : goal.loop-grade-preserved
loop-grade-preserved g c =
    let m = g.K.Kind.model in
    let t = c.args.terms.now in
    let u = unreached m in
    let w = width_of t in
    let n = c.loop-grade.grade in
    let at = c.from.result * c.width-width.result in
    let at_is : at ≡ n * w = ap₂ (λ x y. x * y) c.from.ensures c.width-width.ensures.is in
    let long : t.grades * w ≤ length c.loop-grade.column = omega (arith, c.requires.long) in
    let inside = row_below n t.grades w (omega arith) in
    let within : at ≤ length c.loop-grade.column = omega (arith, at_is, long, inside) in
    let part = c.write_row.new.row in
    let wide : at + c.width-width.result - at ≡ w = omega (arith, c.width-width.ensures.is) in
    let full : length part ≡ at + c.width-width.result - at = omega arith in (
      λ k past. put_above at (at + c.width-width.result - at) c.loop-grade.column part k u within full (omega (arith, at_is, wide, inside)) ∙ c.loop-grade.invariant.0 k past,
      λ blocks prior. below_more _ _
          (λ k lt b h. let low = row_below k n w lt in subst (λ p. Best m (Costs m (rules_of t) (c.args.offers.now ∷ blocks) k b) p) (sym (put_below at (at + c.width-width.result - at) c.loop-grade.column part (k * w + b) u within (omega (arith, at_is)))) (c.loop-grade.invariant.1 blocks prior k lt b h))
          (λ b h. subst (λ p. Best m (Costs m (rules_of t) (c.args.offers.now ∷ blocks) n b) p) (sym (ap (λ x. slice_index_or (put_mid at (at + c.width-width.result - at) c.loop-grade.column part) (x + b) u) (sym at_is) ∙ put_inside at (at + c.width-width.result - at) c.loop-grade.column part b u within full (omega (arith, wide)))) (c.write_row.ensures c.args.offers.now blocks (search rules) prior b h)),
    )

pub slice_bounds-write_row-end : goal.slice_bounds-write_row-end
slice_bounds-write_row-end g c =
    let t = c.args.terms.now in
    let at_is : c.from.result * c.width-width.result ≡ c.loop-grade.grade * width_of t = ap₂ (λ x y. x * y) c.from.ensures c.width-width.ensures.is in
    omega (arith, at_is, c.requires.long, row_below c.loop-grade.grade t.grades (width_of t) (omega arith), c.width-width.ensures.is)
