-- From what a search finds in the last column to what the choices are. Assumes nothing.
use Rattle.std.proofs.Common.{◌≡◌, ℕ, ◌<◌, ◌≤◌, true, false, Bool, List, [], ◌∷◌, ◌+◌, reverse, length, take, slice_index_or, Some, None, Option, sym, refl, ap, ◌∙◌, subst, ⊎_elim, arith}
use mathlib.Core.Logic.{∥∥₁_map, ∥∥₁_elim}
use mathlib.Core.HLevel.{⊥_prop}
use Rattle.std.specs.Bool.{then_some}
use borrow.Author.Tests.{clash}
use Rattle.std.proofs.lemmas.List.{take_all}
use Rattle.planner.proofs.Stacks.{newest_first}
use Rattle.std.proofs.lemmas.Bool.{cases_lt, cases_Bool}
use Rattle.costs.specs.Model.{Model, Ordered, NoDearer}
use Rattle.planner.specs.Answers.{Fewest, NoneWithin}
use Rattle.planner.specs.Layout.{Column, width_of, place_in}
use Rattle.planner.specs.Search.{Within, FirstWithin}
use Rattle.terms.specs.Choice.{Block, Choice}
use Rattle.terms.specs.Choice.Choice.{empty}
use Rattle.terms.specs.Rules.{Rules, rules_of}
use Rattle.trellis.proofs.Names.{ranked, best_kept}
use Rattle.trellis.proofs.Ways.{last}
use Rattle.trellis.specs.Named.{NothingFits, Kept, Start}
use Rattle.trellis.specs.Places.{Best, Costs}
use Rattle.trellis.specs.declared.place.Place.{Place}
use Rattle.terms.specs.declared.terms.Terms.{Terms}
use Rattle.planner.specs.declared.end.End.{End}
use Rattle.planner.specs.Search.{Seen}

-- what the fewest bits of a search say of the choices
abbrev pub FewestIs : {V : Type 0} → Model V → Rules → ℕ → List Block → V → Option ℕ → Type 0
FewestIs m rules ceiling blocks bound (Some bits) = Fewest m rules ceiling blocks bound bits
FewestIs m rules ceiling blocks bound None = NoneWithin m rules ceiling blocks bound

module _ {V : Type 0} {m : Model V} (laws : Ordered m) (terms : Terms) (places : List (Place V)) (block : Block) (blocks : List Block) (column : Column m terms (block ∷ blocks) places) where
  abbrev rs : Rules
  rs = rules_of terms

  -- the place of a grade and a number of bits stands for the choices that end there
  pub stands : (grade bits : ℕ) → grade < terms.grades → bits < width_of terms → Best m (Costs m rs (block ∷ blocks) grade bits) (place_in m terms places grade bits)
  stands grade bits g b = column grade g bits b

  -- a choice through the ceiling has a reached place that is no dearer
  pub placed : (grade bits : ℕ) (cost : V) → grade < terms.grades → bits < width_of terms → Costs m rs (block ∷ blocks) grade bits cost → ((place_in m terms places grade bits).reached ≡ true) × NoDearer m (place_in m terms places grade bits).cost cost
  placed grade bits cost g b way =
      let best = stands grade bits g b in
      ⊎_elim (λ yes. (yes, (best.kept yes).least cost way)) (λ un. absurd (best.marked un cost way)) (cases_Bool (place_in m terms places grade bits).reached)

  within : (bound : V) (grades : List ℕ) (bits : ℕ) (cost : V) → Choice m rs (block ∷ blocks) grades bits cost → bits < width_of terms → NoDearer m cost bound → (grade : ℕ) × (grade < terms.grades) × Within m terms places bound grade bits
  within bound [] bits cost ch b cheap = none ch
    where
      none : Choice m rs (block ∷ blocks) [] bits cost → (grade : ℕ) × (grade < terms.grades) × Within m terms places bound grade bits
      none c = elim c [ ]
  within bound (g ∷ gs) bits cost ch b cheap =
      let below = (last m rs ch).below in
      let p = placed g bits cost below b (gs, ch) in
      (g, below, (p.0, laws.trans _ cost bound p.1 cheap))

  pub fewest_is : (bound : V) (r : Option ℕ) → FirstWithin m terms places bound r → FewestIs m rs terms.ceiling (block ∷ blocks) bound r
  fewest_is bound (Some bits) (through, (grade, below, (reached, cheap)), none) = record {
    through = omega arith;
    some = ∥∥₁_map ((stands grade bits below through).kept reached).some (λ way. (grade ∷ way.0, (place_in m terms places grade bits).cost, way.1, cheap));
    fewest = λ grades b cost ch low. ⊎_elim (λ lt. absurd (let w = within bound grades b cost ch (omega arith) low in none b w.0 lt w.1 w.2)) (λ le. le) (cases_lt b bits);
  }
  fewest_is bound None none = λ grades b cost ch le low. (let w = within bound grades b cost ch (omega arith) low in none b w.0 (omega arith) w.1 w.2)

  seen_place : (budget : ℕ) (grades : List ℕ) (b : ℕ) (other : V) → budget < width_of terms → Choice m rs (block ∷ blocks) grades b other → b ≤ budget → (g : ℕ) × (g < terms.grades) × ((place_in m terms places g b).reached ≡ true) × NoDearer m (place_in m terms places g b).cost other
  seen_place budget [] b other through ch le = none ch
    where
      none : Choice m rs (block ∷ blocks) [] b other → (g : ℕ) × (g < terms.grades) × ((place_in m terms places g b).reached ≡ true) × NoDearer m (place_in m terms places g b).cost other
      none c = elim c [ ]
  seen_place budget (g ∷ gs) b other through ch le =
      let below = (last m rs ch).below in
      let p = placed g b other below (omega arith) (gs, ch) in
      (g, below, p.0, p.1)

  -- the place that keeps a cost through the ceiling is reached, and no dearer
  kept_place : (g b : ℕ) (other : V) → Kept m rs (block ∷ blocks) g b other → b < width_of terms → ((g < terms.grades) × ((place_in m terms places g b).reached ≡ true) × NoDearer m (place_in m terms places g b).cost other → ⊥) → ⊥
  kept_place g b other kept through never = ∥∥₁_elim kept.some ⊥_prop (λ way. let below = (last m rs way.1).below in let p = placed g b other below through way in never (below, p.0, p.1))

  pub ends_start : (budget : ℕ) (end : End V) → budget < width_of terms → Seen m terms places (λ b g. (b ≤ budget) × (g < terms.grades)) (Some end) → Start m rs (block ∷ blocks) budget end.grade end.bits end.cost
  ends_start budget end through (i, r, c, ahead) = record {
    kept = subst (λ v. Kept m rs (block ∷ blocks) end.grade end.bits v) (sym c) (best_kept laws rs (stands end.grade end.bits i.1 (omega (arith, i.0))) r);
    within = i.0;
    cheapest = λ g b other kept le. ranked m end.cost other (λ no. kept_place g b other kept (omega arith) (λ p. no (laws.trans _ _ other (ahead b g (le, p.0) p.1).0 p.2)));
    fewest = λ g b other kept le alike. ⊎_elim (λ lt. absurd (kept_place g b other kept (omega arith) (λ p. omega (arith, ((ahead b g (le, p.0) p.1).1 (laws.trans _ other _ p.2 alike.1)).0)))) (λ ge. ge) (cases_lt b end.bits);
    lowest = λ g other kept alike. ⊎_elim (λ lt. absurd (kept_place g end.bits other kept (omega (arith, i.0)) (λ p. omega (arith, ((ahead end.bits g (i.0, p.0) p.1).1 (laws.trans _ other _ p.2 alike.1)).1 refl)))) (λ ge. ge) (cases_lt g end.grade);
  }

  pub nothing_fits : (budget : ℕ) → budget < width_of terms → Seen m terms places (λ b g. (b ≤ budget) × (g < terms.grades)) None → NothingFits m rs (block ∷ blocks) budget
  nothing_fits budget through none grades b other ch le =
      let w = seen_place budget grades b other through ch le in
      none b w.0 (le, w.1) w.2

-- the same, for the blocks of a stack, of which the newest is block n
module _ {V : Type 0} {m : Model V} (laws : Ordered m) (terms : Terms) (places : List (Place V)) (xs : List Block) (n : ℕ) (newest : n + 1 ≡ length xs) (column : Column m terms (reverse (take (n + 1) xs)) places) where
  abbrev block : Block
  block = slice_index_or xs n []

  abbrev older : List Block
  older = reverse (take n xs)

  all : reverse xs ≡ block ∷ older
  all = ap reverse (sym (take_all (n + 1) xs (omega (arith, newest)))) ∙ newest_first xs n [] (omega (arith, newest))

  column_all : Column m terms (block ∷ older) places
  column_all = subst (λ bs. Column m terms bs places) (newest_first xs n [] (omega (arith, newest))) column

  pub fewest_in : (bound : V) (r : Option ℕ) → FirstWithin m terms places bound r → FewestIs m (rules_of terms) terms.ceiling (reverse xs) bound r
  fewest_in bound r within = subst (λ bs. FewestIs m (rules_of terms) terms.ceiling bs bound r) (sym all) (fewest_is laws terms places block older column_all bound r within)

  pub start_in : (budget : ℕ) (end : End V) → budget < width_of terms → Seen m terms places (λ b g. (b ≤ budget) × (g < terms.grades)) (Some end) → Start m (rules_of terms) (reverse xs) budget end.grade end.bits end.cost
  start_in budget end through seen = subst (λ bs. Start m (rules_of terms) bs budget end.grade end.bits end.cost) (sym all) (ends_start laws terms places block older column_all budget end through seen)

  pub nothing_in : (budget : ℕ) → budget < width_of terms → Seen m terms places (λ b g. (b ≤ budget) × (g < terms.grades)) None → NothingFits m (rules_of terms) (reverse xs) budget
  nothing_in budget through seen = subst (λ bs. NothingFits m (rules_of terms) bs budget) (sym all) (nothing_fits laws terms places block older column_all budget through seen)

-- with no block, the empty choice is the only one
pub empty_only : {V : Type 0} {m : Model V} {rules : Rules} {grades : List ℕ} {bits : ℕ} {cost : V} → Choice m rules [] grades bits cost → (bits ≡ 0) × (cost ≡ m.start)
empty_only empty = (refl, refl)

-- with no block, the fewest bits are 0 where the start value is within the bound
pub fewest_of_none : {V : Type 0} (m : Model V) (rules : Rules) (ceiling : ℕ) (bound : V) (cheap : Bool) → m.ranks m.start bound ≡ cheap → FewestIs m rules ceiling [] bound (then_some cheap 0)
fewest_of_none m rules ceiling bound true is = record {
  through = omega arith;
  some = ∣ ([], m.start, empty, is) ∣₁;
  fewest = λ grades b cost ch low. omega arith;
}
fewest_of_none m rules ceiling bound false is = λ grades bits cost ch le low. (let none = empty_only ch in clash (sym is ∙ ap (λ v. m.ranks v bound) (sym none.1) ∙ low))
