use Rattle.std.proofs.Common.{◌≡◌, ap₂, ◌∙◌, arith, rules}
use Rattle.std.proofs.lemmas.List.{get_or-set_same, get_or-set_other}
use Rattle.trellis.specs.Places.{unreached}
use Rattle.planner.proofs.Rows.{first_right}
use Rattle.planner.proofs.row.first_row.Goals as goal

pub returns-then-bits-row : goal.returns-then-bits-row
returns-then-bits-row g c block offered =
    let m = g.K.Kind.model in
    let u = unreached m in
    first_right g.met.K.Kind.ordered c.args.terms.now block c.args.grade c.args.offer c.requires.grade offered c.bits_into-bits.result _ c.bits_into-bits.ensures
    (λ b h ne. get_or-set_other _ _ _ _ u ne ∙ c.requires.clear b (omega (arith, c.requires.long)))
    (λ h. get_or-set_same _ _ _ u c.if-bits-row.true ∙ (let cost : c.join.result ≡ m.joined m.start c.args.offer.distortion = c.join.ensures ∙ ap₂ m.joined c.start.ensures c.distortion.ensures in rw cost (search rules)))

pub returns-else-bits-row : goal.returns-else-bits-row
returns-else-bits-row g c block offered =
    first_right g.met.K.Kind.ordered c.args.terms.now block c.args.grade c.args.offer c.requires.grade offered c.bits_into-bits.result _ c.bits_into-bits.ensures
    (λ b h ne. c.requires.clear b (omega (arith, c.requires.long)))
    (λ h. absurd (omega (arith, c.requires.long, c.if-bits-row.false)))
