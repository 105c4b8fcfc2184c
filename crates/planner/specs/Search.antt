-- What the searches over the places of a block find. Assumes nothing.
use Rattle.std.specs.Prelude.{◌≡◌, ℕ, ◌+◌, ◌-◌, ◌<◌, ◌≤◌, true, if◌then◌else◌, List, Some, None, Option, ◌≢◌}
use Rattle.offers.specs.declared.offer.Offer.{Offer}
use Rattle.costs.specs.Model.{Model, NoDearer}
use Rattle.terms.specs.declared.terms.Terms.{Terms}
use Rattle.terms.specs.Rules.{rules_of, charge_into}
use Rattle.trellis.specs.declared.place.Place.{Place}
use Rattle.planner.specs.declared.end.End.{End}
use Rattle.planner.specs.Layout.{width_of, place_in}

module _ {V : Type 0} (m : Model V) (terms : Terms) (places : List (Place V)) where
  -- the place is reached and within the bound
  abbrev pub Within : V → ℕ → ℕ → Type 0
  Within bound grade bits = ((place_in m terms places grade bits).reached ≡ true) × NoDearer m (place_in m terms places grade bits).cost bound

  -- the fewest bits at which a place of the block is within the bound
  abbrev pub FirstWithin : V → Option ℕ → Type 0
  FirstWithin bound (Some bits) = (bits < width_of terms) × ((grade : ℕ) × (grade < terms.grades) × Within bound grade bits) × ((b g : ℕ) → b < bits → g < terms.grades → Within bound g b → ⊥)
  FirstWithin bound None = (b g : ℕ) → b < width_of terms → g < terms.grades → Within bound g b → ⊥

  -- the place of an earlier grade, at the bits that this rate and charge leave, leads to the end
  abbrev pub Leads : End V → Offer → ℕ → Type 0
  Leads end offer earlier =
      (charge_into (rules_of terms) (Some earlier) end.grade + offer.rate ≤ end.bits)
      × ((place_in m terms places earlier (end.bits - (charge_into (rules_of terms) (Some earlier) end.grade + offer.rate))).reached ≡ true)
      × NoDearer m (m.joined (place_in m terms places earlier (end.bits - (charge_into (rules_of terms) (Some earlier) end.grade + offer.rate))).cost offer.distortion) end.cost

  -- the lowest earlier grade whose place leads to the end
  abbrev pub LowestLeads : End V → Offer → Option ℕ → Type 0
  LowestLeads end offer (Some earlier) = (earlier < terms.grades) × Leads end offer earlier × ((k : ℕ) → k < earlier → Leads end offer k → ⊥)
  LowestLeads end offer None = (k : ℕ) → k < terms.grades → Leads end offer k → ⊥

-- the end comes before a place of this grade, bits and cost, or is it: least cost, then fewest bits, then lowest grade
abbrev pub Ahead : {V : Type 0} → Model V → End V → ℕ → ℕ → V → Type 0
Ahead m end bits grade cost = NoDearer m end.cost cost × (NoDearer m cost end.cost → (end.bits ≤ bits) × (bits ≡ end.bits → end.grade ≤ grade))

-- the first in that order of the reached places that were seen
abbrev pub Seen : {V : Type 0} → Model V → Terms → List (Place V) → (ℕ → ℕ → Type 0) → Option (End V) → Type 0
Seen m terms places S None = (b g : ℕ) → S b g → (place_in m terms places g b).reached ≢ true
Seen m terms places S (Some end) =
    S end.bits end.grade
    × ((place_in m terms places end.grade end.bits).reached ≡ true)
    × (end.cost ≡ (place_in m terms places end.grade end.bits).cost)
    × ((b g : ℕ) → S b g → (place_in m terms places g b).reached ≡ true → Ahead m end b g (place_in m terms places g b).cost)

-- the better of two ends; the older one where they rank alike
abbrev pub better : {V : Type 0} → Model V → Option (End V) → End V → Option (End V)
better m None new = Some new
better m (Some end) new = if m.ranks end.cost new.cost then Some end else Some new
