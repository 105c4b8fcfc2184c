use Rattle.std.proofs.Common.{◌∷◌, drop}
use Rattle.std.proofs.lemmas.Grind.{flat_map-append}
use Rattle.std.proofs.lemmas.List.{take-append-drop}
use Rattle.std.specs.List.{flat_map}
use Rattle.answers.proofs.line.put_numbers.Goals as goal

pub returns-then-is_full : goal.returns-then-is_full
returns-then-is_full g c =
    let met = g.met.S.Sink in
    let left = flat_map (λ (number : g.row.N.Denot). 44 ∷ g.N.Integer.text number) (drop c.loop-number.number-index c.args.numbers.now) in
    let rest = met.full_takes c.loop-number.out left (c.is_full.ensures.0 c.if-is_full.true) in
    rw (← flat_map-append, take-append-drop) at (met.takes_both _ _ _ _ _ c.loop-number.invariant rest)
