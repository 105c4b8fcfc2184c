use Rattle.std.proofs.Common.{Some, Err, ap, ◌∙◌, sym, subst}
use borrow.Author.Tests.{eqb-true}
use Rattle.std.proofs.lemmas.List.{nil_from_length}
use Rattle.jobtext.specs.Parts.{line_fields}
use Rattle.command.specs.Lines.{Commands, Read}
use Rattle.job.specs.Transcript.Step.{blank}
use Rattle.job.specs.Steps.{state_of}
use Rattle.job.proofs.Obeys.{kept_all}
use Rattle.job.proofs.Stepping.{asks, refused_up, stepped}
use Rattle.job.proofs.open_job.OpenJob.respond.Goals as goal

pub returns-then-is_empty : goal.returns-then-is_empty
returns-then-is_empty g c = record { kept = kept_all c.args.self.now; step = λ charge flat. rw (nil_from_length c.args.line.now (eqb-true _ _ (sym c.is_empty.ensures ∙ c.if-is_empty.true))) blank }

pub returns-in_err-command : goal.returns-in_err-command
returns-in_err-command g c =
    let job = c.args.self.now in
    let line = c.args.line.now in
    let terms = c.terms-terms.ensures ∙ ap (λ j. j.terms) c.self.view_is in
    record {
      kept = kept_all job;
      step = λ charge flat. refused_up _ (state_of g.K.JobKind.kind charge job) line c.from_residual.result _ c.from_residual.ensures.1 (sym c.is_empty.ensures ∙ c.if-is_empty.false) (subst (λ t. Read (Some t.grades) (line_fields line) (Err c.in_err-command.field-0.0)) terms c.in_err-command.ensures.read);
    }

pub obey-requires : goal.obey-requires
obey-requires g c = asks _ _ _ c.in_ok-command.ensures.read

pub returns : goal.returns
returns g c =
    let job = c.args.self.now in
    let terms = c.terms-terms.ensures ∙ ap (λ j. j.terms) c.self.view_is in
    stepped g.K.JobKind.kind job c.obey.new.self c.args.line.now c.in_ok-command.command _ (subst (λ t. Commands (Some t.grades) (line_fields c.args.line.now) c.in_ok-command.command) terms c.in_ok-command.ensures.read) c.obey.ensures
