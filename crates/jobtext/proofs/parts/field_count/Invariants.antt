use Rattle.std.proofs.Common.{◌≡◌, ◌+◌, ◌≤◌, eqb, drop}
use Rattle.std.specs.List.{count_by}
use Rattle.jobtext.proofs.parts.field_count.Given as goal

abbrev pub invariant-loop-byte : goal.invariant-loop-byte
invariant-loop-byte l = (l.commas ≤ l.byte-index) × (l.commas + count_by (λ b. eqb b 44) (drop l.byte-index l.line) ≡ count_by (λ b. eqb b 44) l.line)
