use Rattle.std.proofs.Common.{◌≡◌, ◌+◌, ◌*◌, ℕ, [], get_or, ap, ◌∙◌, subst, arith, rules}
use Rattle.std.proofs.lemmas.Result.{MatchResult-weaker}
use Rattle.jobtext.specs.Parts.{line_fields}
use Rattle.offers.specs.Faults.{rate_row, distortion_row}
use Rattle.command.specs.Demands.{NumberIn, NoDistortion}
use Rattle.command.specs.Faults.{fault_number, fault_layer}
use Rattle.command.specs.Fields.{bytes_in}
use Rattle.command.proofs.PairLaws.{pair_set, second_fails}
use Rattle.command.proofs.blocks.read_pair.Goals as goal

pub returns-in-Some : goal.returns-in-Some
returns-in-Some c =
    let fields = line_fields c.args.line.now in
    let k : ℕ = 3 + 2 * c.args.grade in
    let one : bytes_in c.of.result ≡ get_or fields k [] = c.of.ensures.bytes ∙ ap (λ i. get_or fields i []) (omega (arith, c.from.ensures)) in
    let two : bytes_in c.of-second.result ≡ get_or fields (k + 1) [] = c.of-second.ensures.bytes ∙ ap (λ i. get_or fields i []) (omega (arith, c.from.ensures)) in
    let rate : NumberIn rate_row (get_or fields k []) c.in-Some.rate = search rules in
    MatchResult-weaker c.set_offer.result c.set_offer.ensures
    (λ x read. pair_set fields k c.in-Some.rate rate read.0 c.args.block.now c.set_offer.new.block c.args.grade (subst (λ field. NumberIn distortion_row field read.0) two read.1) read.2)
    (λ found no.
    let layer = fault_layer found.fault in
    let number = fault_number found.fault in
    second_fails fields k c.in-Some.rate rate found.field layer number (omega (arith, c.from.ensures, c.of-second.ensures.number)) (subst (λ field. NoDistortion field layer number) two no.1))
