use Rattle.std.proofs.Common.{◌≡◌, ◌+◌, ◌<◌, ◌≤◌, [], ◌∷◌, length, reverse, take, Some, None, sym, ap, subst, arith}
use Rattle.std.proofs.lemmas.Option.{MatchOption-at_some, MatchOption-at_none}
use Rattle.std.proofs.lemmas.List.{take_all, length-reverse}
use Rattle.terms.specs.Rules.{rules_of}
use Rattle.trellis.specs.Named.{Named, Start, WayBack}
use Rattle.trellis.specs.Named.Named.{none, some}
use Rattle.planner.specs.Search.{Seen}
use Rattle.planner.specs.Standing.{standing_blocks, block_count, blocks_to}
use Rattle.planner.proofs.Cases.{asked, given}
use Rattle.planner.proofs.Founds.{start_in, nothing_in}
use Rattle.planner.proofs.Stacks.{no_blocks, head_on}
use Rattle.planner.proofs.planner.Planner.plan.Goals as goal

pub returns-in_default-clause-answer : goal.returns-in_default-clause-answer
returns-in_default-clause-answer g c =
    let m = g.K.Kind.model in
    let tables = c.args.self.now.tables in
    let zero : block_count tables ≡ 0 = MatchOption-at_none _ _ c.in_default.is c.newest.ensures in
    subst (λ bs. Named m (rules_of tables.terms) c.args.budget bs (reverse (take (block_count tables) c.args.grades.now)) 0 c.start.result) (sym (no_blocks tables.blocks.items zero))
    (subst (λ k. Named m (rules_of tables.terms) c.args.budget [] (reverse (take k c.args.grades.now)) 0 c.start.result) (sym zero) (subst (λ v. Named m (rules_of tables.terms) c.args.budget [] [] 0 v) (sym c.start.ensures) none))

pub returns-in_default-best_end-clause-answer : goal.returns-in_default-best_end-clause-answer
returns-in_default-best_end-clause-answer g c refused =
    let m = g.K.Kind.model in
    let tables = c.args.self.now.tables in
    let t = tables.terms in
    let places = c.stage.result.places.now in
    let seen : Seen m t places (λ b k. (b ≤ c.args.budget) × (k < t.grades)) None = subst (λ u. Seen m u places (λ b k. (b ≤ c.args.budget) × (k < u.grades)) None) c.stage.ensures.terms (subst (λ r. Seen m c.stage.result.terms.now places (λ b k. (b ≤ c.args.budget) × (k < c.stage.result.terms.now.grades)) r) c.in_default-best_end.is c.best_end.ensures) in
    nothing_in g.met.K.Kind.ordered t places tables.blocks.items c.in-Some.newest (MatchOption-at_some _ _ _ c.in-Some.is c.newest.ensures) c.stage.ensures.holds c.args.budget (omega arith) seen

pub returns-clause-frame : goal.returns-clause-frame
returns-clause-frame g c =
    let tables = c.args.self.now.tables in
    let last : c.in-Some.newest + 1 ≡ block_count tables = MatchOption-at_some _ _ _ c.in-Some.is c.newest.ensures in
    given _ (block_count tables) c.args.grades.now c.walk_back.new.grades _ (asked tables.terms (block_count tables) c.args.budget (length c.args.grades.now) (omega arith) (omega (arith, c.standing.ensures.standing, length-reverse tables.blocks.items))) (λ k h. c.walk_back.ensures.later k (omega (arith, last, h)))

pub returns-clause-answer : goal.returns-clause-answer
returns-clause-answer g c =
    let m = g.K.Kind.model in
    let tables = c.args.self.now.tables in
    let t = tables.terms in
    let rs = rules_of t in
    let n = c.in-Some.newest in
    let end = c.in-Some-best_end.end in
    let out = c.walk_back.new.grades in
    let places = c.stage.result.places.now in
    let last : n + 1 ≡ block_count tables = MatchOption-at_some _ _ _ c.in-Some.is c.newest.ensures in
    let seen : Seen m t places (λ b k. (b ≤ c.args.budget) × (k < t.grades)) (Some end) = subst (λ u. Seen m u places (λ b k. (b ≤ c.args.budget) × (k < u.grades)) (Some end)) c.stage.ensures.terms (subst (λ r. Seen m c.stage.result.terms.now places (λ b k. (b ≤ c.args.budget) × (k < c.stage.result.terms.now.grades)) r) c.in-Some-best_end.is c.best_end.ensures) in
    let start : Start m rs (standing_blocks tables) c.args.budget end.grade end.bits end.cost = start_in g.met.K.Kind.ordered t places tables.blocks.items n last c.stage.ensures.holds c.args.budget end (omega arith) seen in
    let stand : blocks_to tables n ≡ standing_blocks tables = ap reverse (take_all (n + 1) tables.blocks.items (omega (arith, last))) in
    let heads : reverse (take (n + 1) out) ≡ end.grade ∷ reverse (take n out) = head_on out n end.grade (omega (arith, last, c.standing.ensures.standing, length-reverse tables.blocks.items)) c.walk_back.ensures.last in
    let way : WayBack m rs (standing_blocks tables) (end.grade ∷ reverse (take n out)) end.bits end.cost = subst (λ bs. WayBack m rs bs (end.grade ∷ reverse (take n out)) end.bits end.cost) stand (subst (λ gs. WayBack m rs (blocks_to tables n) gs end.bits end.cost) heads c.walk_back.ensures.way) in
    subst (λ k. Named m rs c.args.budget (standing_blocks tables) (reverse (take k out)) end.bits end.cost) last (subst (λ gs. Named m rs c.args.budget (standing_blocks tables) gs end.bits end.cost) (sym heads) (some start way))
