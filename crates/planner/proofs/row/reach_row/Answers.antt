use Rattle.std.proofs.Common.{◌≡◌, ◌*◌, ◌<◌, ◌∷◌, length, ap, ◌∙◌, subst, sym, arith, slice_index_or}
use Rattle.terms.specs.Rules.{rules_of}
use Rattle.trellis.proofs.Bests.{best_same}
use Rattle.trellis.proofs.Ways.{Ways, ways_all, all_ways}
use Rattle.trellis.specs.Places.{Best, Costs, unreached}
use Rattle.planner.specs.Layout.{width_of}
use Rattle.planner.proofs.Rows.{part_at, turned}
use Rattle.planner.proofs.row.reach_row.Goals as goal

pub relax_row-requires : goal.relax_row-requires
relax_row-requires g c = let same : length c.loop-earlier.row ≡ length c.args.row.now = omega arith in c.row.ensures.long ∙ sym (same ∙ c.requires.long)

pub loop-earlier-preserved : goal.loop-earlier-preserved
loop-earlier-preserved g c block newest blocks offered column =
    let m = g.K.Kind.model in
    let t = c.args.prior.now.terms.now in
    let places = c.args.prior.now.places.now in
    let n = c.loop-earlier.earlier in
    let long : length c.loop-earlier.row ≡ width_of t = omega (arith, c.requires.long) in
    let below : n < t.grades = omega arith in
    turned g.met.K.Kind.ordered t block (newest ∷ blocks) c.args.grade c.args.offer c.requires.grade offered n c.bits_into-step.result c.distortion.result c.bits_into-step.ensures c.distortion.ensures c.loop-earlier.row c.relax_row.new.row c.row.result.now
    (λ b h. subst (λ p. Best m (Costs m (rules_of t) (newest ∷ blocks) n b) p) (sym (ap (λ row. slice_index_or row b (unreached m)) c.row.ensures.part ∙ part_at places (n * width_of t) (width_of t) b (unreached m) h)) (column n below b h))
    c.relax_row.ensures.before
    (λ b h. c.relax_row.ensures.row b (omega (arith, long)))
    (c.loop-earlier.invariant block newest blocks offered column)

pub returns : goal.returns
returns g c block newest blocks offered column b h =
    let m = g.K.Kind.model in
    let t = c.args.prior.now.terms.now in
    let all : c.loop-earlier.earlier ≡ t.grades = omega arith in
    best_same m (ways_all m (rules_of t) block newest blocks c.args.grade b) (all_ways m (rules_of t) block newest blocks c.args.grade b)
    (subst (λ n. Best m (Ways m (rules_of t) block (newest ∷ blocks) c.args.grade n b) (slice_index_or c.loop-earlier.row b (unreached m))) all (c.loop-earlier.invariant block newest blocks offered column b h))
