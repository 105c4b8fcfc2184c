use Rattle.std.proofs.Common.{◌≡◌, ℕ, List, [], Option, Some, None, sym, ap, ◌∙◌, subst}
use Rattle.std.proofs.lemmas.Option.{MatchOption-at_some, MatchOption-at_none}
use Rattle.std.specs.Bool.{then_some}
use Rattle.std.specs.Option.{ok_or}
use Rattle.costs.specs.Model.{Model}
use Rattle.terms.specs.Choice.{Block}
use Rattle.terms.specs.Rules.{Rules, rules_of}
use Rattle.planner.specs.declared.fault.PlannerFault.{PlannerFault}
use Rattle.planner.specs.Answers.{FewestOf}
use Rattle.planner.specs.Search.{FirstWithin}
use Rattle.planner.specs.Standing.{standing_blocks}
use Rattle.planner.proofs.Founds.{FewestIs, fewest_in, fewest_of_none}
use Rattle.planner.proofs.Stacks.{no_blocks}
use Rattle.planner.proofs.planner.Planner.fewest.Goals as goal
use Rattle.planner.proofs.planner.Planner.fewest.Goals.{in-Some, in-None}

answered : {V : Type 0} (m : Model V) (rules : Rules) (ceiling : ℕ) (blocks : List Block) (bound : V) (fault : PlannerFault) (r : Option ℕ) → FewestIs m rules ceiling blocks bound r → FewestOf m rules ceiling blocks bound (ok_or r fault)
answered m rules ceiling blocks bound fault (Some bits) few = few
answered m rules ceiling blocks bound fault None none = none

pub returns-clause-answer : goal.returns-clause-answer
returns-clause-answer g c =
    let m = g.K.Kind.model in
    let self = c.args.self.now in
    let t = self.tables.terms in
    let rs = rules_of t in
    let blocks = standing_blocks self.tables in
    let bound = c.args.bound in
    let is : FewestIs m rs t.ceiling blocks bound c.match-newest.fewest =
    elim c.match-newest.branch [
      | in-Some w ↦
          (let places = w.stage.result.places.now in
          let within : FirstWithin m t places bound w.first_within-fewest.result = subst (λ u. FirstWithin m u places bound w.first_within-fewest.result) w.stage.ensures.terms w.first_within-fewest.ensures in
          subst (λ r. FewestIs m rs t.ceiling blocks bound r) (sym w.fewest-is)
          (fewest_in g.met.K.Kind.ordered t places self.tables.blocks.items w.in-Some.newest (MatchOption-at_some _ _ _ w.in-Some.is c.newest.ensures) w.stage.ensures.holds bound w.first_within-fewest.result within))
      | in-None w ↦
          (let none : blocks ≡ [] = no_blocks self.tables.blocks.items (MatchOption-at_none _ _ w.in-None.is c.newest.ensures) in
          let ranks : m.ranks m.start bound ≡ w.no_dearer.result = ap (λ v. m.ranks v bound) (sym w.start.ensures) ∙ sym w.no_dearer.ensures in
          subst (λ r. FewestIs m rs t.ceiling blocks bound r) (sym (w.fewest-is ∙ w.then_some-fewest.ensures))
          (subst (λ bs. FewestIs m rs t.ceiling bs bound (then_some w.no_dearer.result 0)) (sym none) (fewest_of_none m rs t.ceiling bound w.no_dearer.result ranks)))
    ] in
    subst (λ r. FewestOf m rs t.ceiling blocks bound r) (sym c.ok_or.ensures.value) (answered m rs t.ceiling blocks bound _ c.match-newest.fewest is)
