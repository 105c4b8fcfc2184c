use Rattle.std.proofs.Common.{length, refl, ap, ◌∙◌, sym}
use Rattle.std.proofs.lemmas.List.{length-reverse}
use Rattle.faults.specs.Refusals.{first}
use Rattle.planner.specs.Faults.{take_back_row}
use Rattle.planner.specs.Runs.{without_newest}
use Rattle.command.specs.declared.commands.Command.TheVariants.{TakeBack}
use Rattle.job.specs.Replies.{nothing_said}
use Rattle.job.specs.Transcript.Does.{taken_back, not_taken_back}
use Rattle.job.proofs.Obeys.{job_of, done, up}
use Rattle.job.proofs.open_job.OpenJob.take_back.Goals as goal

pub returns-in_err-take_back : goal.returns-in_err-take_back
returns-in_err-take_back g c =
    let tables = c.self.inside.planner.tables in
    let e = c.in_err-take_back.ensures in
    let refused = ap (λ n. first (take_back_row n)) (length-reverse tables.blocks.items) ∙ sym e.refused in
    up _ _ g.met.K.JobKind.means _ _ (job_of tables _) (job_of c.take_back.new.self.tables _) c.self.view_is refl (record { terms = ap (λ t. t.terms) e.left; lent = ap length e.places }) TakeBack c.from_residual.result _ c.from_residual.ensures.1
    (λ i h. rw (h, e.left) (not_taken_back refused))

pub returns : goal.returns
returns g c =
    let tables = c.self.inside.planner.tables in
    let e = c.in_ok-take_back.ensures in
    let none = ap (λ n. first (take_back_row n)) (length-reverse tables.blocks.items) ∙ sym e.refused in
    done _ _ g.met.K.JobKind.means _ _ (job_of tables _) (job_of c.take_back.new.self.tables _) c.self.view_is refl (record { terms = e.left.terms; lent = ap length e.places }) TakeBack nothing_said
    (λ i h. rw (h, ← ap without_newest e.left.standing) (taken_back none))
