-- The named plan: of the choices within the budget, the one that the tie rules select. Stated with choices alone. Assumes nothing.
use Rattle.std.specs.Prelude.{◌≡◌, ℕ, ◌+◌, ◌≤◌, List, [], ◌∷◌, Some}
use Rattle.offers.specs.declared.offer.Offer.{Offer}
use Rattle.costs.specs.Model.{Model, NoDearer, Alike}
use Rattle.terms.specs.Rules.{Rules, charge_into}
use Rattle.terms.specs.Choice.{Block, Choice, offer_at}
use Rattle.trellis.specs.Places.{Costs, Least}

module _ {V : Type 0} (m : Model V) (rules : Rules) where
  -- what the place of a grade and a number of bits keeps: the least cost of the choices that end there
  abbrev pub Kept : List Block → ℕ → ℕ → V → Type 0
  Kept blocks grade bits cost = Least m (Costs m rules blocks grade bits) cost

  -- where a plan ends: among the kept costs of the last block at or under the budget, the cheapest; of those the fewest bits; of
  -- those the lowest grade
  pub record Start (blocks : List Block) (budget grade bits : ℕ) (cost : V) : Type 0 where
    pub kept : Kept blocks grade bits cost
    pub within : bits ≤ budget
    pub cheapest : (g b : ℕ) (other : V) → Kept blocks g b other → b ≤ budget → NoDearer m cost other
    pub fewest : (g b : ℕ) (other : V) → Kept blocks g b other → b ≤ budget → Alike m cost other → bits ≤ b
    pub lowest : (g : ℕ) (other : V) → Kept blocks g bits other → Alike m cost other → grade ≤ g

  -- an earlier grade gives the present place: it was reached with the bits that the rate and the charge leave, and what it keeps,
  -- joined with this distortion, ranks alike with what the present place keeps
  pub record Gives (blocks : List Block) (grade bits : ℕ) (cost : V) (offer : Offer) (earlier left : ℕ) (before : V) : Type 0 where
    pub falls : left + charge_into rules (Some earlier) grade + offer.rate ≡ bits
    pub kept : Kept blocks earlier left before
    pub alike : Alike m (m.joined before offer.distortion) cost

  -- the grades, newest first, that lead back from the place of the first of them with these bits, which keeps this cost; each
  -- time the lowest grade that gives the present place
  pub data WayBack : List Block → List ℕ → ℕ → V → Type 0 where
    first : {block : Block} {grade bits : ℕ} {cost : V} → Kept (block ∷ []) grade bits cost → WayBack (block ∷ []) (grade ∷ []) bits cost
    back : {block : Block} {blocks : List Block} {grade bits : ℕ} {cost : V} {offer : Offer} {earlier left : ℕ} {before : V} {grades : List ℕ} → Kept (block ∷ blocks) grade bits cost → offer_at block grade ≡ Some offer → Gives blocks grade bits cost offer earlier left before → ((lower l : ℕ) (v : V) → Gives blocks grade bits cost offer lower l v → earlier ≤ lower) → WayBack blocks (earlier ∷ grades) left before → WayBack (block ∷ blocks) (grade ∷ earlier ∷ grades) bits cost

  -- the plan for the blocks and the budget, newest grade first, with its bits and its cost
  pub data Named (budget : ℕ) : List Block → List ℕ → ℕ → V → Type 0 where
    none : Named budget [] [] 0 m.start
    some : {blocks : List Block} {grade : ℕ} {grades : List ℕ} {bits : ℕ} {cost : V} → Start blocks budget grade bits cost → WayBack blocks (grade ∷ grades) bits cost → Named budget blocks (grade ∷ grades) bits cost

-- every choice of at most the budget costs at least as much
abbrev pub Cheapest : {V : Type 0} → Model V → Rules → List Block → ℕ → V → Type 0
Cheapest {V} m rules blocks budget cost = (grades : List ℕ) (bits : ℕ) (other : V) → Choice m rules blocks grades bits other → bits ≤ budget → NoDearer m cost other

-- every choice comes to more than the budget
abbrev pub NothingFits : {V : Type 0} → Model V → Rules → List Block → ℕ → Type 0
NothingFits {V} m rules blocks budget = (grades : List ℕ) (bits : ℕ) (cost : V) → Choice m rules blocks grades bits cost → bits ≤ budget → ⊥

-- the grades, newest block first, are the named plan; they are a choice of these bits and this cost; it is within the budget,
-- and every choice of at most the budget costs at least as much
pub record BestPlan {V : Type 0} (m : Model V) (rules : Rules) (blocks : List Block) (budget : ℕ) (grades : List ℕ) (bits : ℕ) (cost : V) : Type 0 where
  pub named : Named m rules budget blocks grades bits cost
  -- (between the bars: that there is such a counting, not which)
  pub choice : ∥ Choice m rules blocks grades bits cost ∥₁
  pub within : bits ≤ budget
  pub cheapest : Cheapest m rules blocks budget cost

-- at most one plan is named, with one number of bits and one cost
abbrev pub NamesOne : {V : Type 0} → Model V → Type 0
NamesOne {V} m = (rules : Rules) (blocks : List Block) (budget : ℕ) (gs hs : List ℕ) (b c : ℕ) (v w : V) → Named m rules budget blocks gs b v → Named m rules budget blocks hs c w → (gs ≡ hs) × (b ≡ c) × (v ≡ w)

-- what is named is a best plan
abbrev pub NamesBest : {V : Type 0} → Model V → Type 0
NamesBest {V} m = (rules : Rules) (blocks : List Block) (budget : ℕ) (grades : List ℕ) (bits : ℕ) (cost : V) → Named m rules budget blocks grades bits cost → BestPlan m rules blocks budget grades bits cost
