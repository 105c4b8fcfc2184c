use Rattle.std.proofs.Common.{sym, ap, ◌∙◌, append-nil}
use borrow.Author.Tests.{eqb-true}
use Rattle.std.proofs.lemmas.List.{nil_from_length}
use Rattle.std.proofs.lemmas.Result.{on_ok_weaker}
use Rattle.command.specs.declared.commands.Command.TheVariants.{Open}
use Rattle.command.specs.declared.commands.CostKind.TheVariants.{Total, Worst}
use Rattle.job.specs.Replies.{nothing_said}
use Rattle.job.specs.Transcript.{idle}
use Rattle.job.specs.Transcript.Step.{blank, refused}
use Rattle.job.proofs.Going.{one_more, opens, no_more}
use Rattle.job.proofs.Stepping.{some_bytes}
use Rattle.job.proofs.answer.answer_lines.Goals as goal

pub loop-number-preserved-then-is_empty : goal.loop-number-preserved-then-is_empty
loop-number-preserved-then-is_empty c = λ end g.
    let none = nil_from_length c.in-Some.line.now (eqb-true _ _ (sym c.is_empty.ensures ∙ c.if-is_empty.true)) in
    c.loop-number.invariant end (one_more c.args.places idle idle c.loop-number.lines c.next.new.self c.in-Some.number c.in-Some.line.now nothing_said _ _ end c.in-Some.ensures.steps (rw none blank) (sym (append-nil _)) g)

pub loop-number-preserved : goal.loop-number-preserved
loop-number-preserved c = λ end g. c.loop-number.invariant end (one_more c.args.places idle idle c.loop-number.lines c.next.new.self c.in-Some.number c.in-Some.line.now _ _ _ end c.in-Some.ensures.steps (refused {s = idle} (some_bytes c.in-Some.line.now (sym c.is_empty.ensures ∙ c.if-is_empty.false)) c.in-Err.ensures.read) c.in_ok-say-in-Err.ensures g)

pub returns-in-Total : goal.returns-in-Total
returns-in-Total c =
    let o = c.in-Ok-Open in
    on_ok_weaker c.answer_job.result (c.loop-number.invariant _)
    (opens c.answer_job.result c.args.places c.loop-number.lines c.next.new.self c.in-Some.number c.in-Some.line.now Total o.terms _ _ _ c.in-Some.ensures.steps (o.field-0-is ∙ ap (λ kind. Open kind o.terms) c.in-Total.is) o.ensures.read c.answer_job.ensures)

pub returns-in-Worst : goal.returns-in-Worst
returns-in-Worst c =
    let o = c.in-Ok-Open in
    on_ok_weaker c.answer_job-in-Worst.result (c.loop-number.invariant _)
    (opens c.answer_job-in-Worst.result c.args.places c.loop-number.lines c.next.new.self c.in-Some.number c.in-Some.line.now Worst o.terms _ _ _ c.in-Some.ensures.steps (o.field-0-is ∙ ap (λ kind. Open kind o.terms) c.in-Worst.is) o.ensures.read c.answer_job-in-Worst.ensures)

pub returns : goal.returns
returns c = c.loop-number.invariant _ (no_more c.args.places idle c.loop-number.lines _ c.in_default.ensures.steps.0)
