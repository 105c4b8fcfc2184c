use Rattle.std.proofs.Common.{List, ℕ, vec_items}
use Rattle.jobtext.specs.Parts.{text_lines}
use Rattle.job.specs.Transcript.{idle, Transcript}
use Rattle.job.specs.Steps.{AnswersTo, Grown}
use Rattle.job.proofs.answer.answer_lines.Given as goal

abbrev pub invariant-loop-number : goal.invariant-loop-number
invariant-loop-number l = (end : List ℕ) → Grown (vec_items l.out) end (AnswersTo l.places idle l.lines) → Grown (vec_items l.initial.out) end (Transcript l.places idle 1 (text_lines l.text))
