-- Choices by the grade before the last. Assumes nothing.
use Rattle.std.proofs.Common.{◌≡◌, ℕ, ◌+◌, ◌<◌, List, [], ◌∷◌, Some, None, sym, refl, ap, ◌∙◌, subst, inl, inr, ⊎_elim, arith}
use Rattle.std.proofs.lemmas.Bool.{cases_lt}
use Rattle.trellis.proofs.Bests.{Either, Joined}
use Rattle.costs.specs.Model.{Model}
use Rattle.offers.specs.declared.offer.Offer.{Offer}
use Rattle.terms.specs.Rules.{Rules, charge_into}
use Rattle.terms.specs.Choice.{Block, Choice, offer_at, newest}
use Rattle.terms.specs.Choice.Choice.{empty, next}
use Rattle.trellis.specs.Places.{Costs}

module _ {V : Type 0} (m : Model V) (rules : Rules) where
  pub record Last (block : Block) (blocks : List Block) (grade : ℕ) (grades : List ℕ) (bits : ℕ) (cost : V) : Type 0 where
    pub offer : Offer
    pub bits_before : ℕ
    pub cost_before : V
    pub before : Choice m rules blocks grades bits_before cost_before
    pub below : grade < rules.grades
    pub offered : offer_at block grade ≡ Some offer
    pub bits_are : bits ≡ bits_before + charge_into rules (newest grades) grade + offer.rate
    pub cost_is : cost ≡ m.joined cost_before offer.distortion

  pub last : {block : Block} {blocks : List Block} {grade : ℕ} {grades : List ℕ} {bits : ℕ} {cost : V} → Choice m rules (block ∷ blocks) (grade ∷ grades) bits cost → Last block blocks grade grades bits cost
  last (next {bits = b} {cost = c} {offer = o} before below offered) = record { offer = o; bits_before = b; cost_before = c; before = before; below = below; offered = offered; bits_are = refl; cost_is = refl }

  module _ (block : Block) (blocks : List Block) (grade : ℕ) where
    -- some choice whose grade before the last is below n
    abbrev pub Ways : ℕ → ℕ → V → Type 0
    Ways n bits v = (earlier : ℕ) × (grades : List ℕ) × (earlier < n) × Choice m rules (block ∷ blocks) (grade ∷ earlier ∷ grades) bits v

  module _ (block : Block) (blocks : List Block) (grade : ℕ) (offer : Offer) (below : grade < rules.grades) (offered : offer_at block grade ≡ Some offer) (n : ℕ) where
    -- by the grade n just before the last
    pub ways_in : (b : ℕ) (v : V) → Either m (Ways block blocks grade n (b + (offer.rate + rules.charge n grade))) (Joined m offer.distortion (Costs m rules blocks n b)) v → Ways block blocks grade (n + 1) (b + (offer.rate + rules.charge n grade)) v
    ways_in b v (inl (e, gs, lt, ch)) = (e, gs, omega arith, ch)
    ways_in b v (inr (w, (gs, ch), eq)) =
        let bits : b + rules.charge n grade + offer.rate ≡ b + (offer.rate + rules.charge n grade) = omega arith in
        let all : Choice m rules (block ∷ blocks) (grade ∷ n ∷ gs) (b + rules.charge n grade + offer.rate) (m.joined w offer.distortion) = next ch below offered in
        (n, gs, omega arith, subst (λ x. Choice m rules (block ∷ blocks) (grade ∷ n ∷ gs) x v) bits (subst (λ x. Choice m rules (block ∷ blocks) (grade ∷ n ∷ gs) (b + rules.charge n grade + offer.rate) x) (sym eq) all))

    -- the offer of a choice's last grade is the block's
    same_offer : {gs : List ℕ} {bits : ℕ} {v : V} → (l : Last block blocks grade gs bits v) → l.offer ≡ offer
    same_offer l = let a = l.offered in cc

    pub ways_out : (b : ℕ) (v : V) → Ways block blocks grade (n + 1) (b + (offer.rate + rules.charge n grade)) v → Either m (Ways block blocks grade n (b + (offer.rate + rules.charge n grade))) (Joined m offer.distortion (Costs m rules blocks n b)) v
    ways_out b v (e, gs, lt, ch) = ⊎_elim (λ below. inl (e, gs, below, ch)) (λ above. at (omega arith)) (cases_lt e n)
      where
        at : e ≡ n → Either m (Ways block blocks grade n (b + (offer.rate + rules.charge n grade))) (Joined m offer.distortion (Costs m rules blocks n b)) v
        at same =
            let l = last (subst (λ x. Choice m rules (block ∷ blocks) (grade ∷ x ∷ gs) (b + (offer.rate + rules.charge n grade)) v) same ch) in
            let o = same_offer l in
            let rate = ap (λ x. x.rate) o in
            let bits : l.bits_before ≡ b = omega (arith, l.bits_are, rate) in
            inr (l.cost_before, (gs, subst (λ x. Choice m rules blocks (n ∷ gs) x l.cost_before) bits l.before), l.cost_is ∙ ap (λ x. m.joined l.cost_before x.distortion) o)

    -- too few bits for the rate and the charge
    pub ways_short : (bits : ℕ) (v : V) → bits < offer.rate + rules.charge n grade → Ways block blocks grade (n + 1) bits v → Ways block blocks grade n bits v
    ways_short bits v few (e, gs, lt, ch) = ⊎_elim (λ below. (e, gs, below, ch)) (λ above. at (omega arith)) (cases_lt e n)
      where
        at : e ≡ n → Ways block blocks grade n bits v
        at same =
            let l = last (subst (λ x. Choice m rules (block ∷ blocks) (grade ∷ x ∷ gs) bits v) same ch) in
            let rate = ap (λ x. x.rate) (same_offer l) in
            absurd (omega (arith, l.bits_are, rate))

    pub ways_wider : (bits : ℕ) (v : V) → Ways block blocks grade n bits v → Ways block blocks grade (n + 1) bits v
    ways_wider bits v (e, gs, lt, ch) = (e, gs, omega arith, ch)

  -- over all earlier grades, with a block before the last
  pub ways_all : (block : Block) (prior : Block) (blocks : List Block) (grade bits : ℕ) (v : V) → Ways block (prior ∷ blocks) grade rules.grades bits v → Costs m rules (block ∷ prior ∷ blocks) grade bits v
  ways_all block prior blocks grade bits v (e, gs, lt, ch) = (e ∷ gs, ch)

  pub all_ways : (block : Block) (prior : Block) (blocks : List Block) (grade bits : ℕ) (v : V) → Costs m rules (block ∷ prior ∷ blocks) grade bits v → Ways block (prior ∷ blocks) grade rules.grades bits v
  all_ways block prior blocks grade bits v (gs, ch) = at gs ch (last ch).before
    where
      at : (gs : List ℕ) {b : ℕ} {w : V} → Choice m rules (block ∷ prior ∷ blocks) (grade ∷ gs) bits v → Choice m rules (prior ∷ blocks) gs b w → Ways block (prior ∷ blocks) grade rules.grades bits v
      at [] ch before = none before
        where
          none : {b : ℕ} {w : V} → Choice m rules (prior ∷ blocks) [] b w → Ways block (prior ∷ blocks) grade rules.grades bits v
          none c = elim c [ ]
      at (e ∷ gs) ch before = (e, gs, (last before).below, ch)

module _ {V : Type 0} (m : Model V) where
  pub none_offered : (rules : Rules) (block : Block) (blocks : List Block) (grade bits : ℕ) (v : V) → offer_at block grade ≡ None → Costs m rules (block ∷ blocks) grade bits v → ⊥
  none_offered rules block blocks grade bits v nothing (gs, ch) =
      let l = last m rules ch in
      let z : ◌≡◌ {A = ℕ} 0 1 = cc (nothing, l.offered) in
      omega arith

  -- the only choice for no block
  nil_bits : {rules : Rules} {gs : List ℕ} {b : ℕ} {c : V} → Choice m rules [] gs b c → (gs ≡ []) × (b ≡ 0) × (c ≡ m.start)
  nil_bits empty = (refl, refl, refl)

  pub first_in : (rules : Rules) (block : Block) (grade : ℕ) (offer : Offer) → grade < rules.grades → offer_at block grade ≡ Some offer → (b : ℕ) (v : V) → (b ≡ charge_into rules None grade + offer.rate) × (v ≡ m.joined m.start offer.distortion) → Costs m rules (block ∷ []) grade b v
  first_in rules block grade offer below offered b v (eb, ev) =
      let all : Choice m rules (block ∷ []) (grade ∷ []) (0 + charge_into rules None grade + offer.rate) (m.joined m.start offer.distortion) = next empty below offered in
      let bits : 0 + charge_into rules None grade + offer.rate ≡ b = omega arith in
      ([], subst (λ x. Choice m rules (block ∷ []) (grade ∷ []) x v) bits (subst (λ x. Choice m rules (block ∷ []) (grade ∷ []) (0 + charge_into rules None grade + offer.rate) x) (sym ev) all))

  pub first_out : (rules : Rules) (block : Block) (grade : ℕ) (offer : Offer) → offer_at block grade ≡ Some offer → (b : ℕ) (v : V) → Costs m rules (block ∷ []) grade b v → (b ≡ charge_into rules None grade + offer.rate) × (v ≡ m.joined m.start offer.distortion)
  first_out rules block grade offer offered b v (gs, ch) =
      let l = last m rules ch in
      let o : l.offer ≡ offer = cc l.offered in
      let n = nil_bits l.before in
      let charge : charge_into rules (newest gs) grade ≡ charge_into rules None grade = ap (λ x. charge_into rules (newest x) grade) n.0 in
      (omega (arith, l.bits_are, n.1, charge, ap (λ x. x.rate) o), l.cost_is ∙ ap (λ x. m.joined x l.offer.distortion) n.2 ∙ ap (λ x. m.joined m.start x.distortion) o)
