use Rattle.std.proofs.Common.{◌≡◌, ◌≤◌, ◌<◌, length, take, reverse, ap, ◌∙◌, sym, arith}
use Rattle.std.proofs.lemmas.List.{length-reverse, reverse-reverse}
use Rattle.std.proofs.lemmas.List.Elements.{All-same}
use Rattle.terms.specs.Rules.{rules_of}
use Rattle.trellis.proofs.Names.{best_plan}
use Rattle.planner.specs.Standing.{standing_blocks, block_count}
use Rattle.command.specs.declared.commands.Command.TheVariants.{Plan}
use Rattle.job.specs.Transcript.Does.{planned, over_ceiling, nothing_fits}
use Rattle.job.proofs.Obeys.{job_of, kept_all, done, up, plan_low, within_ceiling, refused_by, list_written}
use Rattle.job.proofs.open_job.OpenJob.plan.Goals as goal

pub returns-in_err-bits : goal.returns-in_err-bits
returns-in_err-bits g c =
    let tables = c.self.inside.planner.tables in
    let job = job_of tables (length c.self.inside.planner.places.now) in
    let e = c.in_err-bits.ensures in
    let fits : block_count tables ≤ length c.deref_mut.result.now = omega (arith, c.standing.ensures.standing, c.standing.ensures.few, length-reverse tables.blocks.items, c.from-list.ensures.1, c.truncate.ensures.len, ap length c.deref_mut.ensures.value) in
    up _ _ g.met.K.JobKind.means _ _ job job c.self.view_is c.self.view_is (kept_all job) (Plan c.args.budget) c.from_residual.result _ c.from_residual.ensures.1
    (λ i h. rw h (refused_by tables.terms _ c.args.budget _ _ _ _ fits e.frame (λ over number. rw number (over_ceiling over)) (λ low number. rw number (nothing_fits low (e.answer number)))))

pub invariant_of-result : goal.invariant_of-result
invariant_of-result g c =
    let tables = c.self.inside.planner.tables in
    let n = block_count tables in
    let grades = take n c.plan.new.grades in
    let long : length c.truncate.new.self.items ≡ n = omega (arith, c.standing.ensures.standing, c.standing.ensures.few, length-reverse tables.blocks.items, c.from-list.ensures.1, c.truncate.ensures.len) in
    let same = list_written n _ c.truncate.new.self.items c.plan.new.grades long (omega (arith, long, ap length c.deref_mut.ensures.value, c.plan.auto.grades)) in
    let best = best_plan g.met.K.Kind.ordered g.met.K.Kind.alike_same (rules_of tables.terms) (standing_blocks tables) c.args.budget (reverse grades) c.in_ok-bits.bits c.in_ok-bits.cost c.in_ok-bits.ensures.answer in
    record { low = All-same (λ grade. grade < 100) _ grades same (plan_low tables.terms grades best) }

pub returns : goal.returns
returns g c =
    let tables = c.self.inside.planner.tables in
    let job = job_of tables (length c.self.inside.planner.places.now) in
    let e = c.in_ok-bits.ensures in
    let n = block_count tables in
    let grades = take n c.plan.new.grades in
    let long : length c.truncate.new.self.items ≡ n = omega (arith, c.standing.ensures.standing, c.standing.ensures.few, length-reverse tables.blocks.items, c.from-list.ensures.1, c.truncate.ensures.len) in
    let same = list_written n _ c.truncate.new.self.items c.plan.new.grades long (omega (arith, long, ap length c.deref_mut.ensures.value, c.plan.auto.grades)) ∙ sym (reverse-reverse grades) in
    let best = best_plan g.met.K.Kind.ordered g.met.K.Kind.alike_same (rules_of tables.terms) (standing_blocks tables) c.args.budget (reverse grades) c.in_ok-bits.bits c.in_ok-bits.cost e.answer in
    done _ _ g.met.K.JobKind.means _ _ job job c.self.view_is c.self.view_is (kept_all job) (Plan c.args.budget) _
    (λ i h. rw (h, c.number.ensures, same) (planned (within_ceiling tables.terms _ c.args.budget _ _ _ _ e.frame) best))
