use Rattle.std.proofs.Common.{◌≡◌, ◌+◌, ◌-◌, [], ◌∷◌, Option, Some, None, is_some, true, refl, sym, ap, ◌∙◌, subst, reverse, take, arith, rules, slice_index_or}
use Rattle.terms.specs.Rules.{rules_of, charge_into}
use Rattle.terms.specs.Choice.{offer_at}
use Rattle.trellis.specs.Named.{Kept, WayBack}
use Rattle.planner.specs.Layout.{place_in}
use Rattle.planner.specs.Search.{LowestLeads}
use Rattle.planner.proofs.Backs.{offered_there, found, kept_on, back_on}
use Rattle.planner.proofs.planner.Planner.step_back.Goals as goal

some_unless : {A : Type 0} (o : Option A) → (o ≡ None → ⊥) → is_some o ≡ true
some_unless None never = absurd (never refl)
some_unless (Some x) never = refl

pub unwrap-offer-requires : goal.unwrap-offer-requires
unwrap-offer-requires g c =
    let self = c.args.self.now in
    let t = self.tables.terms in
    let items = self.tables.blocks.items in
    let end = c.args.end in
    let is : slice_index_or (slice_index_or c.deref.result.now c.args.n []) c.from.result None ≡ offer_at (slice_index_or items c.args.n []) end.grade = search rules in
    some_unless _ (λ none. offered_there g.met.K.Kind.ordered t self.places.now items c.args.n c.requires.later c.requires.stands end c.requires.kept c.requires.grade (omega (arith, c.requires.bits)) (sym is ∙ none))

pub unwrap-grade-requires : goal.unwrap-grade-requires
unwrap-grade-requires g c =
    let self = c.args.self.now in
    let t = self.tables.terms in
    let items = self.tables.blocks.items in
    let stage = c.stage-prior.result in
    let offered : offer_at (slice_index_or items c.args.n []) c.args.end.grade ≡ Some c.unwrap-offer.result = search rules in
    let leads : LowestLeads g.K.Kind.model t stage.places.now c.args.end c.unwrap-offer.result c.grade_before.result = subst (λ u. LowestLeads g.K.Kind.model u stage.places.now c.args.end c.unwrap-offer.result c.grade_before.result) c.stage-prior.ensures.terms c.grade_before.ensures in
    found g.met.K.Kind.ordered t stage.places.now items c.args.n c.requires.later c.requires.stands c.args.end c.requires.kept c.requires.grade (omega (arith, c.requires.bits)) c.stage-prior.ensures.holds c.unwrap-offer.result offered c.grade_before.result leads

pub returns-clause-kept : goal.returns-clause-kept
returns-clause-kept g c =
    let m = g.K.Kind.model in
    let self = c.args.self.now in
    let t = self.tables.terms in
    let items = self.tables.blocks.items in
    let places = c.stage-prior.result.places.now in
    let r = c.unwrap-grade.result in
    let offer = c.unwrap-offer.result in
    let offered : offer_at (slice_index_or items c.args.n []) c.args.end.grade ≡ Some offer = search rules in
    let leads : LowestLeads m t places c.args.end offer (Some r) = subst (λ o. LowestLeads m t places c.args.end offer o) c.unwrap-grade.ensures (subst (λ u. LowestLeads m u places c.args.end offer c.grade_before.result) c.stage-prior.ensures.terms c.grade_before.ensures) in
    let step : charge_into (rules_of t) (Some r) c.args.end.grade + offer.rate ≡ c.bits_into.result = sym c.bits_into.ensures in
    let cost : (place_in m t places r (c.args.end.bits - c.bits_into.result)).cost ≡ c.at.result.cost = ap (λ p. p.cost) (ap (λ u. place_in m u places r (c.args.end.bits - c.bits_into.result)) (sym c.stage-prior.ensures.terms) ∙ sym c.at.ensures) in
    subst (λ v. Kept m (rules_of t) (reverse (take (c.args.n - 1 + 1) items)) r (c.args.end.bits - c.bits_into.result) v) cost
    (subst (λ k. Kept m (rules_of t) (reverse (take (c.args.n - 1 + 1) items)) r (c.args.end.bits - k) (place_in m t places r (c.args.end.bits - k)).cost) step
    (kept_on g.met.K.Kind.ordered t places items c.args.n c.requires.later c.requires.stands c.args.end c.requires.kept c.requires.grade (omega (arith, c.requires.bits)) c.stage-prior.ensures.holds offer offered r leads))

pub returns-clause-back : goal.returns-clause-back
returns-clause-back g c gs =
    let m = g.K.Kind.model in
    let self = c.args.self.now in
    let t = self.tables.terms in
    let items = self.tables.blocks.items in
    let places = c.stage-prior.result.places.now in
    let r = c.unwrap-grade.result in
    let offer = c.unwrap-offer.result in
    let offered : offer_at (slice_index_or items c.args.n []) c.args.end.grade ≡ Some offer = search rules in
    let leads : LowestLeads m t places c.args.end offer (Some r) = subst (λ o. LowestLeads m t places c.args.end offer o) c.unwrap-grade.ensures (subst (λ u. LowestLeads m u places c.args.end offer c.grade_before.result) c.stage-prior.ensures.terms c.grade_before.ensures) in
    let step : charge_into (rules_of t) (Some r) c.args.end.grade + offer.rate ≡ c.bits_into.result = sym c.bits_into.ensures in
    let cost : (place_in m t places r (c.args.end.bits - c.bits_into.result)).cost ≡ c.at.result.cost = ap (λ p. p.cost) (ap (λ u. place_in m u places r (c.args.end.bits - c.bits_into.result)) (sym c.stage-prior.ensures.terms) ∙ sym c.at.ensures) in
    subst (λ v. WayBack m (rules_of t) (reverse (take (c.args.n - 1 + 1) items)) (r ∷ gs) (c.args.end.bits - c.bits_into.result) v → WayBack m (rules_of t) (reverse (take (c.args.n + 1) items)) (c.args.end.grade ∷ r ∷ gs) c.args.end.bits c.args.end.cost) cost
    (subst (λ k. WayBack m (rules_of t) (reverse (take (c.args.n - 1 + 1) items)) (r ∷ gs) (c.args.end.bits - k) (place_in m t places r (c.args.end.bits - k)).cost → WayBack m (rules_of t) (reverse (take (c.args.n + 1) items)) (c.args.end.grade ∷ r ∷ gs) c.args.end.bits c.args.end.cost) step
    (back_on g.met.K.Kind.ordered t places items c.args.n c.requires.later c.requires.stands c.args.end c.requires.kept c.requires.grade (omega (arith, c.requires.bits)) c.stage-prior.ensures.holds offer offered r leads gs))
