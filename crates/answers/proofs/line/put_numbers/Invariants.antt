use Rattle.std.proofs.Common.{◌∷◌, take}
use Rattle.std.specs.List.{flat_map}
use Rattle.answers.proofs.line.put_numbers.Given as goal

abbrev pub invariant-loop-number : goal.invariant-loop-number
invariant-loop-number g l = g.S.Sink.takes l.initial.out (flat_map (λ number. 44 ∷ g.N.Integer.text number) (take l.number-index l.numbers)) l.out
