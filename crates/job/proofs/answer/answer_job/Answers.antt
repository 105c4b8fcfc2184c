use Rattle.std.proofs.Common.{◌≡◌, [], subst, ◌∙◌}
use Rattle.job.specs.Steps.{Job, state_of, AnswersTo, Grown}
use Rattle.job.proofs.Going.{no_more, going_on}
use Rattle.job.proofs.answer.answer_job.Goals as goal

pub loop-number-preserved : goal.loop-number-preserved
loop-number-preserved g c = (tt, tt, going_on g.K.JobKind.kind _ _ _ c.loop-number.job c.respond-answer.new.self c.loop-number.number-iterator c.next.new.self c.in-Some.number c.in-Some.line.now _ _ _ c.in-Some.ensures.steps c.respond-answer.ensures c.in_ok-say.ensures c.loop-number.invariant.2)

pub returns : goal.returns
returns g c = λ charge flat.
    let e = c.open-job.ensures in
    let opened : c.open-job.result ≡ record { terms = c.args.terms; lent = c.args.places; blocks = [] } = λ i. record { terms = e.terms i; lent = (e.lent ∙ c.deref_mut.ensures.len ∙ c.in_ok-lent.ensures.len) i; blocks = e.none i } in
    subst (λ (job : Job). Grown c.args.out.now.items c.loop-number.out.items (AnswersTo job.lent (state_of g.K.JobKind.kind charge job) c.args.lines)) opened
    (c.loop-number.invariant.2.all charge _ (rw e.terms flat) (no_more _ _ c.loop-number.number-iterator _ c.in-None.ensures.steps.0))
