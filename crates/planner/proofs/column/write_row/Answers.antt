use Rattle.std.proofs.Common.{◌≡◌, ◌<◌, [], ◌∷◌, length, MatchOption, sym, ◌∙◌, subst, arith}
use Rattle.terms.specs.Rules.{rules_of}
use Rattle.trellis.proofs.Bests.{best_none}
use Rattle.trellis.proofs.Ways.{none_offered}
use Rattle.trellis.specs.Places.{Best, Costs}
use Rattle.planner.specs.Layout.{Column}
use Rattle.planner.proofs.Rows.{next_row}
use Rattle.planner.proofs.column.write_row.Goals as goal

pub returns-in_default : goal.returns-in_default
returns-in_default g c block blocks offered prior b h =
    let m = g.K.Kind.model in
    subst (λ p. Best m (Costs m (rules_of c.args.terms.now) (block ∷ blocks) c.args.grade b) p) (sym (c.clear_row.ensures b (omega (arith, c.requires.long))))
    (best_none m (λ v. none_offered m (rules_of c.args.terms.now) block blocks c.args.grade b v (offered ∙ c.in_default.is)))

pub returns-in-Some-prior : goal.returns-in-Some-prior
returns-in-Some-prior g c block blocks offered prior =
    let m = g.K.Kind.model in
    let t = c.args.terms.now in
    let stage = c.in-Some-prior.prior in
    let same : stage.terms.now ≡ t = subst (λ o. MatchOption o (Unit {0}) (λ stage. stage.terms.now ≡ t)) c.in-Some-prior.is c.requires.same in
    let below : (0 < length blocks) × Column m t blocks stage.places.now = subst (λ o. MatchOption o (blocks ≡ []) (λ stage. (0 < length blocks) × Column m t blocks stage.places.now)) c.in-Some-prior.is prior in
    next_row m t stage.terms.now block blocks c.args.grade stage.places.now c.reach_row.new.row same below.0 below.1 (λ newest rest. c.reach_row.ensures block newest rest (offered ∙ c.in-Some.is))
