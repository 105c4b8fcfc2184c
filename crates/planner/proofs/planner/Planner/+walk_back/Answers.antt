use Rattle.std.proofs.Common.{◌≡◌, ◌+◌, ◌-◌, ◌<◌, [], ◌∷◌, length, reverse, take, sym, ap, ◌∙◌, subst, arith, slice_index, slice_index_or, slice_set}
use Rattle.std.proofs.lemmas.List.{get_or-set_same, length-set}
use Rattle.terms.specs.Rules.{rules_of}
use Rattle.trellis.specs.Named.{Kept, WayBack}
use Rattle.trellis.specs.Named.WayBack.{first}
use Rattle.planner.specs.Standing.{blocks_to}
use Rattle.planner.proofs.Stacks.{newest_first, head_on}
use Rattle.planner.proofs.planner.Planner.+walk_back.Goals as goal

pub returns-then-n-gt0-clause-way : goal.returns-then-n-gt0-clause-way
returns-then-n-gt0-clause-way g _ c =
    let m = g.K.Kind.model in
    let tables = c.args.self.now.tables in
    let rs = rules_of tables.terms in
    let n = c.args.n in
    let end = c.args.end in
    let before = c.step_back-before.result in
    let out = c.walk_back.new.grades in
    let long : n < length out = omega (arith, c.requires.long, c.walk_back.auto.grades, length-set c.args.grades.now n) in
    let one : n - 1 + 1 ≡ n = omega arith in
    let here : slice_index out n ≡ end.grade = c.walk_back.ensures.later n (omega arith) ∙ get_or-set_same c.args.grades.now n end.grade 0 c.requires.long in
    let tail : reverse (take n out) ≡ before.grade ∷ reverse (take (n - 1) out) = ap (λ k. reverse (take k out)) (sym one) ∙ head_on out (n - 1) before.grade (omega (arith, long)) c.walk_back.ensures.last in
    let all : reverse (take (n + 1) out) ≡ end.grade ∷ before.grade ∷ reverse (take (n - 1) out) = head_on out n end.grade long here ∙ ap (λ gs. end.grade ∷ gs) tail in
    let way : WayBack m rs (blocks_to tables (n - 1)) (before.grade ∷ reverse (take (n - 1) out)) before.bits before.cost = subst (λ gs. WayBack m rs (blocks_to tables (n - 1)) gs before.bits before.cost) (head_on out (n - 1) before.grade (omega (arith, long)) c.walk_back.ensures.last) c.walk_back.ensures.way in
    subst (λ gs. WayBack m rs (blocks_to tables n) gs end.bits end.cost) (sym all) (c.step_back-before.ensures.back (reverse (take (n - 1) out)) way)

pub returns-else-n-gt0-clause-way : goal.returns-else-n-gt0-clause-way
returns-else-n-gt0-clause-way g _ c =
    let m = g.K.Kind.model in
    let tables = c.args.self.now.tables in
    let rs = rules_of tables.terms in
    let items = tables.blocks.items in
    let n = c.args.n in
    let end = c.args.end in
    let out = slice_set c.args.grades.now n end.grade in
    let zero : n ≡ 0 = omega arith in
    let long : n < length out = omega (arith, c.requires.long, length-set c.args.grades.now n) in
    let heads : reverse (take (n + 1) out) ≡ end.grade ∷ [] = head_on out n end.grade long (get_or-set_same c.args.grades.now n end.grade 0 c.requires.long) ∙ ap (λ k. end.grade ∷ reverse (take k out)) zero in
    let one : blocks_to tables n ≡ slice_index_or items n [] ∷ [] = newest_first items n [] c.requires.stands ∙ ap (λ k. slice_index_or items n [] ∷ reverse (take k items)) zero in
    subst (λ gs. WayBack m rs (blocks_to tables n) gs end.bits end.cost) (sym heads) (subst (λ bs. WayBack m rs bs (end.grade ∷ []) end.bits end.cost) (sym one) (first (subst (λ bs. Kept m rs bs end.grade end.bits end.cost) one c.requires.kept)))
