use Rattle.std.proofs.Common.{◌∙◌, sym, ap, ⊎_elim, arith}
use Rattle.std.proofs.lemmas.Iterator.{empty_from_Zip}
use Rattle.std.proofs.lemmas.List.{length-reverse, length_push}
use Rattle.std.proofs.lemmas.Slice.Zip.{Zip-more}
use Rattle.terms.proofs.Counts.{same_long, begun, more, stuck, whole, counted_none, counted_some}
use Rattle.terms.proofs.choice.count_choice.Goals as goal

pub returns-then-blocks-gt64-clause-counted : goal.returns-then-blocks-gt64-clause-counted
returns-then-blocks-gt64-clause-counted g c =
    counted_none c.args.blocks.now c.args.grades.now
    (λ few b v choice.
    let long = same_long choice in
    let lb = length-reverse c.args.blocks.now in
    let lg = length-reverse c.args.grades.now in
    ⊎_elim (λ many. omega arith) (λ other. other.1 (omega arith)) c.then-blocks-gt64.either)

pub loop-block-init : goal.loop-block-init
loop-block-init g c = record { low = omega arith; counting = begun (omega arith) (cc) (cc) c.start-cost.ensures }

pub returns-in_err-offer-clause-counted : goal.returns-in_err-offer-clause-counted
returns-in_err-offer-clause-counted g c =
    let step = Zip-more c.loop-block.block-iterator c.next.new.self c.next.result (c.in-Some.block, c.in-Some.field-0-1) c.in-Some.is c.next.ensures.steps in
    rw c.from_residual.ensures
    (counted_none c.args.blocks.now c.args.grades.now
    (λ few b v choice. stuck c.loop-block.invariant.counting step.0 step.1 (sym c.offered.ensures ∙ c.in_err-offer.was) choice))

pub loop-block-preserved : goal.loop-block-preserved
loop-block-preserved g c =
    let step = Zip-more c.loop-block.block-iterator c.next.new.self c.next.result (c.in-Some.block, c.in-Some.field-0-1) c.in-Some.is c.next.ensures.steps in
    record {
      low = omega (arith, length_push c.loop-block.yielded (c.in-Some.block, c.in-Some.field-0-1));
      counting =
          more c.loop-block.invariant.counting step.0 step.1 (sym c.offered.ensures ∙ c.in_ok-offer.was) (omega arith)
          (c.join-cost.ensures ∙ ap (λ d. g.K.Kind.model.joined c.loop-block.cost d) c.distortion.ensures);
    }

pub returns-clause-counted : goal.returns-clause-counted
returns-clause-counted g c =
    let counting = c.loop-block.invariant.counting in
    let ends = empty_from_Zip c.loop-block.block-iterator c.next.new.self c.next.result c.in-None.is c.next.ensures.steps counting.long in
    counted_some c.args.blocks.now c.args.grades.now c.if-blocks-gt64.false (whole counting ends.0 ends.1)
