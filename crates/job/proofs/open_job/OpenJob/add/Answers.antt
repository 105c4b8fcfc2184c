use Rattle.std.proofs.Common.{refl, ap}
use Rattle.offers.specs.Offers.{weighted, extended, offers_below}
use Rattle.command.specs.declared.commands.Command.TheVariants.{Add}
use Rattle.job.specs.Replies.{nothing_said}
use Rattle.job.proofs.Obeys.{job_of, done, up, either_means, adds, adds_not}
use Rattle.job.proofs.open_job.OpenJob.add.Goals as goal

pub returns-in_err-add : goal.returns-in_err-add
returns-in_err-add g c =
    let tables = c.self.inside.planner.tables in
    let e = c.in_err-add.ensures in
    let a = c.args in
    up _ _ g.met.K.JobKind.means _ _ (job_of tables _) (job_of c.add.new.self.tables _) c.self.view_is refl (record { terms = ap (λ t. t.terms) e.left.tables; lent = e.long }) (Add a.weight a.extra a.block) c.from_residual.result _ c.from_residual.ensures.1
    (λ i h. rw e.left.tables (adds_not _ tables _ a.weight a.extra a.block _ e.refused i h))

pub returns : goal.returns
returns g c =
    let tables = c.self.inside.planner.tables in
    let e = c.in_ok-add.ensures in
    let a = c.args in
    done _ _ g.met.K.JobKind.means _ _ (job_of tables _) (job_of c.add.new.self.tables _) c.self.view_is refl (record { terms = e.left.terms; lent = e.long }) (Add a.weight a.extra a.block) nothing_said
    (λ i h. rw e.left.standing (adds _ tables _ a.weight a.extra a.block _ (rw (c.over-2.ensures.layer, c.over-2.ensures.below, c.over.ensures.layer, c.over.ensures.below) (ap (λ means. offers_below (λ grade. weighted a.weight.times (extended a.extra.bits (means grade))) tables.terms.grades) (either_means a.block))) e.refused i h))
