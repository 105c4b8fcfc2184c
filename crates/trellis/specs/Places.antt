-- What a place stands for, and one step of the trellis. Assumes nothing.
use Rattle.std.specs.Prelude.{◌≡◌, ℕ, true, false, cond, ◌&&◌, List, ◌∷◌}
use Rattle.costs.specs.Model.{Model, NoDearer}
use Rattle.terms.specs.Rules.{Rules}
use Rattle.terms.specs.Choice.{Block, Choice}
use Rattle.trellis.specs.declared.place.Place.{Place}

-- some choice for the blocks ends in the grade, with exactly these bits and this cost
abbrev pub Costs : {V : Type 0} → Model V → Rules → List Block → ℕ → ℕ → V → Type 0
Costs m rules blocks grade bits cost = (grades : List ℕ) × Choice m rules blocks (grade ∷ grades) bits cost

-- the least of a set of costs: it is one of them, and none of them is cheaper. This is which value a place keeps.
pub record Least {V : Type 0} (m : Model V) (Set : V → Type 0) (cost : V) : Type 0 where
  pub some : ∥ Set cost ∥₁
  pub least : (other : V) → Set other → NoDearer m cost other

-- a place that stands for a set of costs: reached, with the least of them; or, where there are none, marked unreached with the
-- start value
pub record Best {V : Type 0} (m : Model V) (Set : V → Type 0) (place : Place V) : Type 0 where
  pub kept : place.reached ≡ true → Least m Set place.cost
  pub marked : place.reached ≡ false → (other : V) → Set other → ⊥
  pub cleared : place.reached ≡ false → place.cost ≡ m.start

abbrev pub unreached : {V : Type 0} → Model V → Place V
unreached m = record { reached = false; cost = m.start }

-- one step: the target, or the earlier place joined with the distortion where that is reached and the target is not, or is dearer
abbrev pub relaxed : {V : Type 0} → Model V → ℕ → Place V → Place V → Place V
relaxed m distortion target earlier = cond earlier.reached (cond (target.reached && m.ranks target.cost (m.joined earlier.cost distortion)) target (record { reached = true; cost = m.joined earlier.cost distortion })) target
