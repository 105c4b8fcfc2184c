-- One step back from an end. Assumes nothing.
use Rattle.std.proofs.Common.{◌≡◌, ℕ, ◌+◌, ◌-◌, ◌<◌, true, List, [], ◌∷◌, reverse, length, take, Some, None, Option, is_some, refl, slice_index_or, sym, ap, ◌∙◌, subst, ⊎_elim, arith}
use mathlib.Core.Logic.{∥∥₁_elim}
use mathlib.Core.HLevel.{⊥_prop}
use Rattle.costs.specs.Model.{Model, Ordered, NoDearer}
use Rattle.planner.specs.Layout.{Column, width_of, place_in}
use Rattle.planner.specs.Search.{Leads, LowestLeads}
use Rattle.planner.specs.declared.end.End.{End}
use Rattle.terms.specs.Choice.{Block, Choice, offer_at}
use Rattle.terms.specs.Choice.Choice.{next}
use Rattle.terms.specs.Rules.{Rules, rules_of, charge_into}
use Rattle.trellis.proofs.Names.{ranked, best_kept}
use Rattle.trellis.proofs.Ways.{Last, last, none_offered}
use Rattle.trellis.specs.Named.{Kept, Gives, WayBack}
use Rattle.trellis.specs.Named.WayBack.{back as back_to}
use Rattle.trellis.specs.Places.{Costs}
use Rattle.offers.specs.declared.offer.Offer.{Offer}
use Rattle.trellis.specs.declared.place.Place.{Place}
use Rattle.terms.specs.declared.terms.Terms.{Terms}
use Rattle.std.proofs.lemmas.Bool.{cases_lt}
use Rattle.planner.proofs.Stacks.{newest_first}
use Rattle.planner.proofs.Founds.{stands, placed}

-- a block that does not offer the grade keeps nothing there
pub offers_kept : {V : Type 0} (m : Model V) (rules : Rules) (block : Block) (blocks : List Block) (grade bits : ℕ) (cost : V) → Kept m rules (block ∷ blocks) grade bits cost → offer_at block grade ≡ None → ⊥
offers_kept m rules block blocks grade bits cost kept nothing = ∥∥₁_elim kept.some ⊥_prop (none_offered m rules block blocks grade bits cost nothing)

module _ {V : Type 0} {m : Model V} (laws : Ordered m) (terms : Terms) (places : List (Place V)) (block prior : Block) (rest : List Block) (column : Column m terms (prior ∷ rest) places) (end : End V) (offer : Offer) (kept : Kept m (rules_of terms) (block ∷ prior ∷ rest) end.grade end.bits end.cost) (offered : offer_at block end.grade ≡ Some offer) (below : end.grade < terms.grades) (through : end.bits < width_of terms) where
  abbrev rs : Rules
  rs = rules_of terms

  abbrev step : ℕ → ℕ
  step k = charge_into rs (Some k) end.grade + offer.rate

  abbrev Lead : ℕ → Type 0
  Lead k = Leads m terms places end offer k

  some_leads : Costs m rs (block ∷ prior ∷ rest) end.grade end.bits end.cost → (k : ℕ) × (k < terms.grades) × Lead k
  some_leads (gs, ch) = at gs (last m rs ch)
    where
      at : (gs : List ℕ) → Last m rs block (prior ∷ rest) end.grade gs end.bits end.cost → (k : ℕ) × (k < terms.grades) × Lead k
      at [] l = none l.before
        where
          none : {b : ℕ} {c : V} → Choice m rs (prior ∷ rest) [] b c → (k : ℕ) × (k < terms.grades) × Lead k
          none c = elim c [ ]
      at (h ∷ gs) l =
          let o : l.offer ≡ offer = cc l.offered in
          let rate = ap (λ x. x.rate) o in
          let h-below = (last m rs l.before).below in
          let b : end.bits - step h ≡ l.bits_before = omega (arith, l.bits_are, rate) in
          let p = placed laws terms places prior rest column h l.bits_before l.cost_before h-below (omega (arith, l.bits_are)) (gs, l.before) in
          let cheap : NoDearer m (m.joined (place_in m terms places h l.bits_before).cost offer.distortion) end.cost = subst (λ v. NoDearer m (m.joined (place_in m terms places h l.bits_before).cost offer.distortion) v) (sym (l.cost_is ∙ ap (λ x. m.joined l.cost_before x.distortion) o)) (laws.joins _ _ offer.distortion p.1) in
          (h, h-below, (omega (arith, l.bits_are, rate), subst (λ x. (place_in m terms places h x).reached ≡ true) (sym b) p.0, subst (λ x. NoDearer m (m.joined (place_in m terms places h x).cost offer.distortion) end.cost) (sym b) cheap))

  -- some earlier grade leads to the end
  pub leads_some : ((k : ℕ) → k < terms.grades → Lead k → ⊥) → ⊥
  leads_some never = ∥∥₁_elim kept.some ⊥_prop (λ way. let s = some_leads way in never s.0 s.1 s.2)

  -- a grade that gives the end leads there in the memory
  gives_leads : (k left : ℕ) (v : V) → Gives m rs (prior ∷ rest) end.grade end.bits end.cost offer k left v → (Lead k → ⊥) → ⊥
  gives_leads k left v g never = ∥∥₁_elim g.kept.some ⊥_prop (λ way.
      let p = placed laws terms places prior rest column k left v (last m rs way.1).below (omega (arith, g.falls)) way in
      let b : left ≡ end.bits - step k = omega (arith, g.falls) in
      let cheap = laws.trans _ (m.joined v offer.distortion) end.cost (laws.joins _ v offer.distortion p.1) g.alike.0 in
      never (omega (arith, g.falls), subst (λ x. (place_in m terms places k x).reached ≡ true) b p.0, subst (λ x. NoDearer m (m.joined (place_in m terms places k x).cost offer.distortion) end.cost) b cheap))

  module _ (r : ℕ) (r-below : r < terms.grades) (leads : Lead r) where
    abbrev left : ℕ
    left = end.bits - step r

    abbrev cost : V
    cost = (place_in m terms places r left).cost

    pub kept_before : Kept m rs (prior ∷ rest) r left cost
    kept_before = best_kept laws rs (stands laws terms places prior rest column r left r-below (omega (arith, through))) leads.1

    pub way_on : ((k : ℕ) → k < r → Lead k → ⊥) → (gs : List ℕ) → WayBack m rs (prior ∷ rest) (r ∷ gs) left cost → WayBack m rs (block ∷ prior ∷ rest) (end.grade ∷ r ∷ gs) end.bits end.cost
    way_on lowest gs way =
        let e : left + charge_into rs (Some r) end.grade + offer.rate ≡ end.bits = omega (arith, leads.0) in
        let least : NoDearer m end.cost (m.joined cost offer.distortion) = ranked m end.cost (m.joined cost offer.distortion) (λ no. ∥∥₁_elim kept_before.some ⊥_prop (λ way.
        let all : Choice m rs (block ∷ prior ∷ rest) (end.grade ∷ r ∷ way.0) (left + charge_into rs (Some r) end.grade + offer.rate) (m.joined cost offer.distortion) = next way.1 below offered in
        no (kept.least _ (r ∷ way.0, subst (λ x. Choice m rs (block ∷ prior ∷ rest) (end.grade ∷ r ∷ way.0) x (m.joined cost offer.distortion)) e all)))) in
        let gives : Gives m rs (prior ∷ rest) end.grade end.bits end.cost offer r left cost = record { falls = e; kept = kept_before; alike = (leads.2, least) } in
        back_to kept offered gives (λ lower l u g. ⊎_elim (λ lt. absurd (gives_leads lower l u g (lowest lower lt))) (λ le. le) (cases_lt lower r)) way

-- the same, in a stack of blocks: from block n to block n - 1
module _ {V : Type 0} {m : Model V} (laws : Ordered m) (terms : Terms) (places : List (Place V)) (xs : List Block) (n : ℕ) (later : 0 < n) (stands : n < length xs) (end : End V) (kept : Kept m (rules_of terms) (reverse (take (n + 1) xs)) end.grade end.bits end.cost) (below : end.grade < terms.grades) (through : end.bits < width_of terms) where
  abbrev block : Block
  block = slice_index_or xs n []

  abbrev prior : Block
  prior = slice_index_or xs (n - 1) []

  abbrev rest : List Block
  rest = reverse (take (n - 1) xs)

  one : reverse (take (n - 1 + 1) xs) ≡ prior ∷ rest
  one = newest_first xs (n - 1) [] (omega (arith, stands))

  two : reverse (take (n + 1) xs) ≡ block ∷ prior ∷ rest
  two = newest_first xs n [] stands ∙ ap (λ bs. block ∷ bs) (ap (λ k. reverse (take k xs)) (let e : n ≡ n - 1 + 1 = omega (arith, later) in e) ∙ one)

  kept_two : Kept m (rules_of terms) (block ∷ prior ∷ rest) end.grade end.bits end.cost
  kept_two = subst (λ bs. Kept m (rules_of terms) bs end.grade end.bits end.cost) two kept

  pub offered_there : offer_at block end.grade ≡ None → ⊥
  offered_there = offers_kept m (rules_of terms) block (prior ∷ rest) end.grade end.bits end.cost kept_two

  module _ (column : Column m terms (reverse (take (n - 1 + 1) xs)) places) (offer : Offer) (offered : offer_at block end.grade ≡ Some offer) where
    column_one : Column m terms (prior ∷ rest) places
    column_one = subst (λ bs. Column m terms bs places) one column

    pub found : (r : Option ℕ) → LowestLeads m terms places end offer r → is_some r ≡ true
    found None never = absurd (leads_some laws terms places block prior rest column_one end offer kept_two offered below through never)
    found (Some r) leads = refl

    pub kept_on : (r : ℕ) → LowestLeads m terms places end offer (Some r) → Kept m (rules_of terms) (reverse (take (n - 1 + 1) xs)) r (end.bits - (charge_into (rules_of terms) (Some r) end.grade + offer.rate)) (place_in m terms places r (end.bits - (charge_into (rules_of terms) (Some r) end.grade + offer.rate))).cost
    kept_on r leads = subst (λ bs. Kept m (rules_of terms) bs r (end.bits - (charge_into (rules_of terms) (Some r) end.grade + offer.rate)) (place_in m terms places r (end.bits - (charge_into (rules_of terms) (Some r) end.grade + offer.rate))).cost) (sym one) (kept_before laws terms places block prior rest column_one end offer kept_two offered below through r leads.0 leads.1)

    pub back_on : (r : ℕ) → LowestLeads m terms places end offer (Some r) → (gs : List ℕ) → WayBack m (rules_of terms) (reverse (take (n - 1 + 1) xs)) (r ∷ gs) (end.bits - (charge_into (rules_of terms) (Some r) end.grade + offer.rate)) (place_in m terms places r (end.bits - (charge_into (rules_of terms) (Some r) end.grade + offer.rate))).cost → WayBack m (rules_of terms) (reverse (take (n + 1) xs)) (end.grade ∷ r ∷ gs) end.bits end.cost
    back_on r leads gs way = subst (λ bs. WayBack m (rules_of terms) bs (end.grade ∷ r ∷ gs) end.bits end.cost) (sym two) (way_on laws terms places block prior rest column_one end offer kept_two offered below through r leads.0 leads.1 leads.2 gs (subst (λ bs. WayBack m (rules_of terms) bs (r ∷ gs) (end.bits - (charge_into (rules_of terms) (Some r) end.grade + offer.rate)) (place_in m terms places r (end.bits - (charge_into (rules_of terms) (Some r) end.grade + offer.rate))).cost) one way))
