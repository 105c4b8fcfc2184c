-- What is named: at most one plan, a choice, and the cheapest. Assumes nothing.
use Rattle.std.proofs.Common.{◌≡◌, ℕ, zero, suc, ◌+◌, ◌-◌, ◌<◌, ◌≤◌, true, ◌⊎◌, List, [], ◌∷◌, Some, None, Option, sym, refl, ap, ◌∙◌, subst, inl, inr, ⊎_elim, add-one, arith}
use mathlib.Core.Logic.{∥∥₁_map, ∥∥₁_elim, ∥∥₁_prop}
use mathlib.Core.HLevel.{⊥_prop}
use borrow.Author.Tests.{clash}
use Rattle.std.proofs.lemmas.Bool.{cases_lt, cases_eq, cases_Bool}
use Rattle.costs.specs.Model.{Model, Ordered, Alike, AlikeSame, NoDearer}
use Rattle.offers.specs.declared.offer.Offer.{Offer}
use Rattle.trellis.specs.declared.place.Place.{Place}
use Rattle.terms.specs.Rules.{Rules, charge_into}
use Rattle.terms.specs.Choice.{Block, Choice, offer_at}
use Rattle.terms.specs.Choice.Choice.{empty, next}
use Rattle.trellis.specs.Places.{Best, Costs, unreached, relaxed}
use Rattle.trellis.specs.Named.{Kept, Gives, WayBack, Named, Cheapest, NamesOne, NamesBest}
use Rattle.trellis.specs.Named.WayBack.{first, back}
use Rattle.trellis.specs.Named.Named.{none, some}
use Rattle.trellis.proofs.Bests.{best_same, best_none, best_one, relax_best, no_dearer_self}
use Rattle.trellis.proofs.Ways.{last, Ways, ways_in, ways_out, ways_short, ways_wider, ways_all, all_ways, none_offered, first_in, first_out}

head_same : {g h : ℕ} {gs hs : List ℕ} → g ∷ gs ≡ h ∷ hs → g ≡ h
head_same e = cc

-- a ranking that is not refuted
pub ranked : {V : Type 0} (m : Model V) (a b : V) → ((NoDearer m a b → ⊥) → ⊥) → NoDearer m a b
ranked m a b h = ⊎_elim (λ t. t) (λ f. absurd (h (λ t. clash (sym f ∙ t)))) (cases_Bool (m.ranks a b))

module _ {V : Type 0} {m : Model V} (laws : Ordered m) where
  alike_self : (a : V) → Alike m a a
  alike_self a = (no_dearer_self m laws a, no_dearer_self m laws a)

  alike_trans : (a b c : V) → Alike m a b → Alike m b c → Alike m a c
  alike_trans a b c p q = (laws.trans a b c p.0 q.0, laws.trans c b a q.1 p.1)

  alike_joins : (a b : V) (d : ℕ) → Alike m a b → Alike m (m.joined a d) (m.joined b d)
  alike_joins a b d p = (laws.joins a b d p.0, laws.joins b a d p.1)

module _ {V : Type 0} {m : Model V} (laws : Ordered m) (rules : Rules) where
  abbrev BestOf : List Block → ℕ → ℕ → Type 0
  BestOf blocks grade bits = (place : Place V) × Best m (Costs m rules blocks grade bits) place

  first_best : (block : Block) (grade bits : ℕ) (offer : Offer) → offer_at block grade ≡ Some offer → grade < rules.grades → BestOf (block ∷ []) grade bits
  first_best block grade bits offer offered below =
      let cost = m.joined m.start offer.distortion in
      let there = first_in m rules block grade offer below offered bits in
      let out = first_out m rules block grade offer offered bits in
      let least = charge_into rules None grade + offer.rate in
      ⊎_elim
      (λ (here : bits ≡ least). (record { reached = true; cost = cost }, best_one m cost (there cost (here, refl)) (λ v way. (out v way).1) (no_dearer_self m laws cost)))
      (λ (other : bits ≡ least → ⊥). (unreached m, best_none m (λ v way. other (out v way).0)))
      (cases_eq bits least)

  ways_best : (block prior : Block) (rest : List Block) (grade : ℕ) (offer : Offer) → offer_at block grade ≡ Some offer → grade < rules.grades → ((g b : ℕ) → BestOf (prior ∷ rest) g b) → (bits n : ℕ) → (place : Place V) × Best m (Ways m rules block (prior ∷ rest) grade n bits) place
  ways_best block prior rest grade offer offered below rec bits zero = (unreached m, best_none m (λ v way. omega (arith, way.2)))
  ways_best block prior rest grade offer offered below rec bits (suc n) =
      let shift = offer.rate + rules.charge n grade in
      let W : ℕ → ℕ → V → Type 0 = Ways m rules block (prior ∷ rest) grade in
      let so_far = ways_best block prior rest grade offer offered below rec bits n in
      let at : (place : Place V) × Best m (W (n + 1) bits) place = ⊎_elim
      (λ few. (so_far.0, best_same m (λ v. ways_wider m rules block (prior ∷ rest) grade offer below offered n bits v) (λ v. ways_short m rules block (prior ∷ rest) grade offer below offered n bits v few) so_far.1))
      (λ enough.
      let b = bits - shift in
      let e : bits ≡ b + shift = omega arith in
      let source = rec n b in
      let here : Best m (W n (b + shift)) so_far.0 = subst (λ x. Best m (W n x) so_far.0) e so_far.1 in
      let target = relaxed m offer.distortion so_far.0 source.0 in
      let more : Best m (W (n + 1) (b + shift)) target = best_same m (ways_in m rules block (prior ∷ rest) grade offer below offered n b) (ways_out m rules block (prior ∷ rest) grade offer below offered n b) (relax_best laws _ _ offer.distortion so_far.0 source.0 here source.1) in
      (target, subst (λ x. Best m (W (n + 1) x) target) (sym e) more))
      (cases_lt bits shift) in
      subst (λ k. (place : Place V) × Best m (W k bits) place) (add-one n) at

  step_best : (block : Block) (blocks : List Block) → ((g b : ℕ) → BestOf blocks g b) → (grade bits : ℕ) → BestOf (block ∷ blocks) grade bits
  step_best block blocks rec grade bits = by (offer_at block grade) refl
    where
      from : (bs : List Block) (offer : Offer) → offer_at block grade ≡ Some offer → grade < rules.grades → ((g b : ℕ) → BestOf bs g b) → BestOf (block ∷ bs) grade bits
      from [] offer e below rec = first_best block grade bits offer e below
      from (prior ∷ rest) offer e below rec =
          let all = ways_best block prior rest grade offer e below rec bits rules.grades in
          (all.0, best_same m (ways_all m rules block prior rest grade bits) (all_ways m rules block prior rest grade bits) all.1)

      by : (o : Option Offer) → offer_at block grade ≡ o → BestOf (block ∷ blocks) grade bits
      by None e = (unreached m, best_none m (λ v. none_offered m rules block blocks grade bits v e))
      by (Some offer) e = ⊎_elim (λ below. from blocks offer e below rec) (λ above. (unreached m, best_none m (λ v way. omega (arith, (last m rules way.1).below)))) (cases_lt grade rules.grades)

  nothing : {grade bits : ℕ} {gs : List ℕ} {v : V} → Choice m rules [] (grade ∷ gs) bits v → ⊥
  nothing c = elim c [ ]

  -- the least cost of the choices that end in a grade with some bits, where there are any
  pub best_of : (blocks : List Block) (grade bits : ℕ) → BestOf blocks grade bits
  best_of [] grade bits = (unreached m, best_none m (λ v way. nothing way.1))
  best_of (block ∷ blocks) grade bits = step_best block blocks (best_of blocks) grade bits

  pub best_kept : {blocks : List Block} {grade bits : ℕ} {place : Place V} → Best m (Costs m rules blocks grade bits) place → place.reached ≡ true → Kept m rules blocks grade bits place.cost
  best_kept best reached = best.kept reached

  -- where a choice ends, a cost is kept
  pub some_kept : (blocks : List Block) (grade bits : ℕ) (cost : V) → Costs m rules blocks grade bits cost → (kept : V) × Kept m rules blocks grade bits kept
  some_kept blocks grade bits cost way =
      let b = best_of blocks grade bits in
      ⊎_elim (λ reached. (b.0.cost, best_kept b.1 reached)) (λ un. absurd (b.1.marked un cost way)) (cases_Bool b.0.reached)

  -- what a place keeps is one cost, up to ranking alike
  pub kept_alike : {blocks : List Block} {grade bits : ℕ} {a b : V} → Kept m rules blocks grade bits a → Kept m rules blocks grade bits b → Alike m a b
  kept_alike {a = a} {b = b} p q = (
    ranked m a b (λ no. ∥∥₁_elim q.some ⊥_prop (λ way. no (p.least b way))),
    ranked m b a (λ no. ∥∥₁_elim p.some ⊥_prop (λ way. no (q.least a way))),
  )

  -- values that rank alike are the same: so what a place keeps is one cost
  pub kept_same : {blocks : List Block} {grade bits : ℕ} {a b : V} → AlikeSame m → Kept m rules blocks grade bits a → Kept m rules blocks grade bits b → a ≡ b
  kept_same {a = a} {b = b} same p q = same a b (kept_alike p q)

  -- a choice that ends at a place and is no dearer than what the place keeps has a cost that it keeps too
  kept_also : {blocks : List Block} {grade bits : ℕ} {own cost : V} → Kept m rules blocks grade bits cost → Costs m rules blocks grade bits own → NoDearer m own cost → Kept m rules blocks grade bits own
  kept_also {own = own} {cost = cost} kept way low = record { some = ∣ way ∣₁; least = λ other there. laws.trans own cost other low (kept.least other there) }

  -- the way back is a choice of these bits, of a cost that ranks alike
  pub way_choice : {blocks : List Block} {grades : List ℕ} {bits : ℕ} {cost : V} → WayBack m rules blocks grades bits cost → ∥ ((own : V) × Choice m rules blocks grades bits own × Alike m own cost) ∥₁
  way_choice (first {block = block} {grade = grade} {bits = bits} {cost = cost} kept) = ∥∥₁_map kept.some (λ way.
      let none = only (last m rules way.1).before in
      (cost, subst (λ gs. Choice m rules (block ∷ []) (grade ∷ gs) bits cost) none way.1, alike_self laws cost))
    where
      only : {gs : List ℕ} {b : ℕ} {c : V} → Choice m rules [] gs b c → gs ≡ []
      only empty = refl
  way_choice (back {block = block} {blocks = blocks} {grade = grade} {bits = bits} {cost = cost} {offer = offer} {earlier = earlier} {left = left} {before = before} {grades = grades} kept offered gives lowest way) =
      ∥∥₁_elim kept.some ∥∥₁_prop (λ here. ∥∥₁_map (way_choice way) (λ w.
      let all : Choice m rules (block ∷ blocks) (grade ∷ earlier ∷ grades) (left + rules.charge earlier grade + offer.rate) (m.joined w.0 offer.distortion) = next w.1 (last m rules here.1).below offered in
      (m.joined w.0 offer.distortion, subst (λ x. Choice m rules (block ∷ blocks) (grade ∷ earlier ∷ grades) x (m.joined w.0 offer.distortion)) gives.falls all, alike_trans laws _ _ _ (alike_joins laws w.0 before offer.distortion w.2) gives.alike)))

  gives_same : {blocks : List Block} {grade bits : ℕ} {a b : V} {o p : Offer} {earlier left : ℕ} {before : V} → o ≡ p → Alike m a b → Gives m rules blocks grade bits a o earlier left before → Gives m rules blocks grade bits b p earlier left before
  gives_same {blocks = blocks} {grade = grade} {bits = bits} {a = a} {b = b} {o = o} {earlier = earlier} {left = left} {before = before} same alike g =
      let at : Gives m rules blocks grade bits b o earlier left before = record { falls = g.falls; kept = g.kept; alike = alike_trans laws _ a b g.alike alike } in
      subst (λ x. Gives m rules blocks grade bits b x earlier left before) same at

  no_way : {grades : List ℕ} {bits : ℕ} {cost : V} → WayBack m rules [] grades bits cost → ⊥
  no_way w = elim w [ ]

  -- from one place there is one way back
  pub way_once : {blocks : List Block} {grade bits : ℕ} {gs hs : List ℕ} {a b : V} → WayBack m rules blocks (grade ∷ gs) bits a → WayBack m rules blocks (grade ∷ hs) bits b → Alike m a b → gs ≡ hs
  way_once (first _) (first _) alike = refl
  way_once (first _) (back _ _ _ _ w) alike = absurd (no_way w)
  way_once (back _ _ _ _ w) (first _) alike = absurd (no_way w)
  way_once {a = a} {b = b} (back {blocks = blocks} {grade = grade} {offer = o} {earlier = e} {left = l} {before = v} {grades = gs} _ offered g low w) (back {offer = p} {earlier = f} {left = k} {before = u} {grades = hs} _ offered2 g2 low2 w2) alike =
      let same : o ≡ p = cc (offered, offered2) in
      let le : e ≤ f = low f k u (gives_same (sym same) (alike.1, alike.0) g2) in
      let ge : f ≤ e = low2 e l v (gives_same same alike g) in
      let at : f ≡ e = omega arith in
      let left_is : k ≡ l = omega (arith, g.falls, g2.falls, ap (λ x. x.rate) same, ap (λ x. rules.charge x grade) at) in
      let kept : Kept m rules blocks e l u = subst (λ x. Kept m rules blocks e x u) left_is (subst (λ x. Kept m rules blocks x k u) at g2.kept) in
      let w3 : WayBack m rules blocks (e ∷ hs) l u = subst (λ x. WayBack m rules blocks (e ∷ hs) x u) left_is (subst (λ x. WayBack m rules blocks (x ∷ hs) k u) at w2) in
      let rest : gs ≡ hs = way_once w w3 (kept_alike g.kept kept) in
      ap (λ x. e ∷ x) rest ∙ ap (λ x. x ∷ hs) (sym at)

  ends : {blocks : List Block} {gs : List ℕ} {bits : ℕ} {cost : V} → Choice m rules blocks gs bits cost → ((grade : ℕ) × Costs m rules blocks grade bits cost) ⊎ (blocks ≡ [])
  ends empty = inr refl
  ends (next {grades = gs} {grade = grade} before below offered) = inl (grade, (gs, next before below offered))

  module _ {budget : ℕ} where
    pub named_within : {blocks : List Block} {gs : List ℕ} {bits : ℕ} {cost : V} → Named m rules budget blocks gs bits cost → bits ≤ budget
    named_within none = omega arith
    named_within (some start _) = start.within

    -- no choice within the budget is cheaper
    pub named_cheapest : {blocks : List Block} {gs : List ℕ} {bits : ℕ} {cost : V} → Named m rules budget blocks gs bits cost → Cheapest m rules blocks budget cost
    named_cheapest none grades b other ch le = only ch
      where
        only : {gs : List ℕ} {b : ℕ} {c : V} → Choice m rules [] gs b c → NoDearer m m.start c
        only empty = no_dearer_self m laws m.start
    named_cheapest (some {blocks = blocks} {grade = grade} {grades = gs} {bits = bits} {cost = cost} start way) grades b other ch le = ⊎_elim
        (λ end. let k = some_kept blocks end.0 b other end.1 in laws.trans cost k.0 other (start.cheapest end.0 b k.0 k.1 le) (k.1.least other end.1))
        (λ e. absurd (no_way (subst (λ bs. WayBack m rules bs (grade ∷ gs) bits cost) e way)))
        (ends ch)

    -- what is named is a choice of these bits, of a cost that ranks alike
    pub named_own : {blocks : List Block} {gs : List ℕ} {bits : ℕ} {cost : V} → Named m rules budget blocks gs bits cost → ∥ ((own : V) × Choice m rules blocks gs bits own × Alike m own cost) ∥₁
    named_own none = ∣ (m.start, empty, alike_self laws m.start) ∣₁
    named_own (some start way) = way_choice way

    -- what is named is a choice of these bits and this cost
    pub named_choice : {blocks : List Block} {gs : List ℕ} {bits : ℕ} {cost : V} → AlikeSame m → Named m rules budget blocks gs bits cost → ∥ Choice m rules blocks gs bits cost ∥₁
    named_choice same none = ∣ empty ∣₁
    named_choice same (some {blocks = blocks} {grade = grade} {grades = gs} {bits = bits} {cost = cost} start way) =
        ∥∥₁_map (way_choice way) (λ w. subst (λ v. Choice m rules blocks (grade ∷ gs) bits v) (kept_same same (kept_also start.kept (gs, w.1) w.2.0) start.kept) w.1)

    -- one plan is named; its cost up to ranking alike
    pub named_alike : {blocks : List Block} {gs hs : List ℕ} {b c : ℕ} {v w : V} → Named m rules budget blocks gs b v → Named m rules budget blocks hs c w → (gs ≡ hs) × (b ≡ c) × Alike m v w
    named_alike none none = (refl, refl, alike_self laws m.start)
    named_alike none (some _ way) = absurd (no_way way)
    named_alike (some _ way) none = absurd (no_way way)
    named_alike {b = b} {c = c} {v = v} {w = w} (some {blocks = blocks} {grade = g} {grades = gs} st way) (some {grade = h} {grades = hs} st2 way2) =
        let alike : Alike m v w = (st.cheapest h c w st2.kept st2.within, st2.cheapest g b v st.kept st.within) in
        let le : b ≤ c = st.fewest h c w st2.kept st2.within alike in
        let ge : c ≤ b = st2.fewest g b v st.kept st.within (alike.1, alike.0) in
        let bits : c ≡ b = omega arith in
        let low : g ≤ h = st.lowest h w (subst (λ x. Kept m rules blocks h x w) bits st2.kept) alike in
        let high : h ≤ g = st2.lowest g v (subst (λ x. Kept m rules blocks g x v) (sym bits) st.kept) (alike.1, alike.0) in
        let grade : h ≡ g = omega arith in
        let rest : gs ≡ hs = way_once way (subst (λ x. WayBack m rules blocks (g ∷ hs) x w) bits (subst (λ x. WayBack m rules blocks (x ∷ hs) c w) grade way2)) alike in
        (ap (λ x. g ∷ x) rest ∙ ap (λ x. x ∷ hs) (sym grade), sym bits, alike)

    -- its cost too is one
    pub named_once : {blocks : List Block} {gs hs : List ℕ} {b c : ℕ} {v w : V} → AlikeSame m → Named m rules budget blocks gs b v → Named m rules budget blocks hs c w → (gs ≡ hs) × (b ≡ c) × (v ≡ w)
    named_once same none none = (refl, refl, refl)
    named_once same none (some _ way) = absurd (no_way way)
    named_once same (some _ way) none = absurd (no_way way)
    named_once {v = v} {w = w} same (some {blocks = blocks} {grade = g} {bits = b} st way) (some {grade = h} {bits = c} st2 way2) =
        let a = named_alike (some st way) (some st2 way2) in
        let grades : h ≡ g = sym (head_same a.0) in
        let kept : Kept m rules blocks g b w = subst (λ x. Kept m rules blocks g x w) (sym a.1) (subst (λ x. Kept m rules blocks x c w) grades st2.kept) in
        (a.0, a.1, kept_same same st.kept kept)

pub best_plan : {V : Type 0} {m : Model V} → Ordered m → AlikeSame m → NamesBest m
best_plan laws same rules blocks budget grades bits cost n = record { named = n; choice = named_choice laws rules same n; within = named_within laws rules n; cheapest = named_cheapest laws rules n }

pub one_plan : {V : Type 0} {m : Model V} → Ordered m → AlikeSame m → NamesOne m
one_plan laws same rules blocks budget gs hs b c v w n o = named_once laws rules same n o
