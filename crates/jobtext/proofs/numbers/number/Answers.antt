use Rattle.std.proofs.Common.{◌+◌, ◌<◌, length, eqb-true, false-eqb, sym, ◌∙◌, subst, ⊎_elim, arith, rules}
use Rattle.jobtext.proofs.NumberLaws.{Sofar, sofar_none, sofar_more, sofar_small, told, writes_form, none_empty, none_long, none_lead, none_digit}
use Rattle.jobtext.proofs.numbers.number.Goals.{then-is_empty-via-then-is_empty, then-is_empty-via-else-is_empty+then-field-gt10, then-is_empty-via-else-is_empty+else-field-gt10+then-leads_with_zero}
use Rattle.jobtext.proofs.numbers.number.Goals as goal

pub returns-then-is_empty : goal.returns-then-is_empty
returns-then-is_empty c = record {
  value = elim c.then-is_empty.branch [
    | then-is_empty-via-then-is_empty w ↦ none_empty c.args.field.now (eqb-true _ 0 (sym c.is_empty.ensures ∙ w.if-is_empty.true))
    | then-is_empty-via-else-is_empty+then-field-gt10 w ↦ none_long c.args.field.now (omega (arith, w.if-field-gt10.true))
    | then-is_empty-via-else-is_empty+else-field-gt10+then-leads_with_zero w ↦ none_lead c.args.field.now (w.leads_with_zero.ensures.does w.if-leads_with_zero.true)
  ];
  form = writes_form;
}

pub loop-byte-init : goal.loop-byte-init
loop-byte-init c = sofar_none c.args.field.now

pub returns-then-not-is_ascii_digit : goal.returns-then-not-is_ascii_digit
returns-then-not-is_ascii_digit c = record {
  value = none_digit c.args.field.now c.loop-byte.byte-index (omega arith) (λ h. ⊎_elim (λ low. omega (arith, low, h.0)) (λ high. omega (arith, high, h.1)) c.if-not-is_ascii_digit.ensures.cases);
  form = writes_form;
}

pub overflow_mul-value : goal.overflow_mul-value
overflow_mul-value c = omega (arith, sofar_small c.args.field.now c.loop-byte.byte-index c.loop-byte.value c.loop-byte.invariant (omega arith))

pub overflow_add-value : goal.overflow_add-value
overflow_add-value c = omega (arith, sofar_small c.args.field.now c.loop-byte.byte-index c.loop-byte.value c.loop-byte.invariant (omega arith))

pub loop-byte-preserved : goal.loop-byte-preserved
loop-byte-preserved c =
    subst
    (Sofar c.args.field.now (c.loop-byte.byte-index + 1))
    (omega (arith, c.from.ensures))
    (sofar_more c.args.field.now c.loop-byte.byte-index c.loop-byte.value c.loop-byte.invariant (omega arith) c.if-not-is_ascii_digit.ensures.cases.0 c.if-not-is_ascii_digit.ensures.cases.1)

pub returns : goal.returns
returns c =
    let some : 0 < length c.args.field.now = omega (arith, false-eqb _ 0 c.if-is_empty.ensures) in
    let lead = c.leads_with_zero.ensures.not c.if-leads_with_zero.false in
    record {
      value = search (rules, told c.args.field.now c.loop-byte.byte-index c.loop-byte.value c.try_from.result c.loop-byte.invariant (omega arith) some lead);
      form = writes_form;
    }
