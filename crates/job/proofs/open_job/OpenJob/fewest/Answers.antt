use Rattle.std.proofs.Common.{length}
use Rattle.command.specs.declared.commands.Command.TheVariants.{Fewest}
use Rattle.job.specs.Replies.{bits_said}
use Rattle.job.specs.Transcript.Does.{fewest_found, none_within}
use Rattle.job.proofs.Obeys.{job_of, kept_all, done, up}
use Rattle.job.proofs.open_job.OpenJob.fewest.Goals as goal

pub returns-in_err-bits : goal.returns-in_err-bits
returns-in_err-bits g c =
    let job = job_of c.self.inside.planner.tables (length c.self.inside.planner.places.now) in
    let e = c.in_err-bits.ensures in
    up _ _ g.met.K.JobKind.means _ _ job job c.self.view_is c.self.view_is (kept_all job) (Fewest c.args.bound) c.from_residual.result _ c.from_residual.ensures.1
    (λ i h. rw (h, e.refused) (none_within (rw c.of.ensures at e.answer)))

pub returns : goal.returns
returns g c =
    let job = job_of c.self.inside.planner.tables (length c.self.inside.planner.places.now) in
    let e = c.in_ok-bits.ensures in
    done _ _ g.met.K.JobKind.means _ _ job job c.self.view_is c.self.view_is (kept_all job) (Fewest c.args.bound) (bits_said c.args.bound c.in_ok-bits.bits)
    (λ i h. rw h (fewest_found (rw c.of.ensures at e.answer)))
