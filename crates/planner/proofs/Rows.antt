-- The turn of one earlier grade over a row of places. Assumes nothing.
use Rattle.std.proofs.Common.{◌≡◌, ℕ, ◌+◌, ◌-◌, ◌*◌, ◌<◌, ◌≤◌, true, List, [], ◌∷◌, length, Some, None, sym, refl, ap, ◌∙◌, subst, ⊎_elim, mul-le-mul_right, add-mul, one-mul, arith, slice_index_or}
use Rattle.std.proofs.lemmas.Bool.{cases_lt, cases_eq}
use Rattle.std.proofs.lemmas.List.{get_or-take, get_or-drop}
use Rattle.std.specs.List.{slice_range}
use Rattle.std.proofs.lemmas.Slice.{take-put_mid_below, between-put_mid, drop-put_mid}
use borrow.Rule.Slice.PartMut.{put_mid}
use Rattle.terms.specs.declared.terms.Terms.{Terms}
use Rattle.costs.specs.Model.{Model, Ordered}
use Rattle.planner.specs.Layout.{Column, PlaceRow, width_of, size_of}
use Rattle.terms.specs.Choice.{Block, offer_at}
use Rattle.terms.specs.Rules.{Rules, rules_of, charge_into}
use Rattle.trellis.proofs.Bests.{best_same, best_one, best_none, no_dearer_self, relax_best}
use Rattle.trellis.proofs.Ways.{Ways, ways_in, ways_out, ways_short, ways_wider, first_in, first_out}
use Rattle.trellis.specs.Places.{Best, Costs, relaxed, unreached}
use Rattle.offers.specs.declared.offer.Offer.{Offer}
use Rattle.trellis.specs.declared.place.Place.{Place}

module _ {V : Type 0} {m : Model V} (laws : Ordered m) (rules : Rules) (block : Block) (blocks : List Block) (grade : ℕ) (offer : Offer) (below : grade < rules.grades) (offered : offer_at block grade ≡ Some offer) (n : ℕ) where
  turn_in : (b : ℕ) (t s : Place V) → Best m (Ways m rules block blocks grade n (b + (offer.rate + rules.charge n grade))) t → Best m (Costs m rules blocks n b) s → Best m (Ways m rules block blocks grade (n + 1) (b + (offer.rate + rules.charge n grade))) (relaxed m offer.distortion t s)
  turn_in b t s bt bs = best_same m (ways_in m rules block blocks grade offer below offered n b) (ways_out m rules block blocks grade offer below offered n b) (relax_best laws _ _ offer.distortion t s bt bs)

  turn_short : (bits : ℕ) (t : Place V) → bits < offer.rate + rules.charge n grade → Best m (Ways m rules block blocks grade n bits) t → Best m (Ways m rules block blocks grade (n + 1) bits) t
  turn_short bits t few = best_same m (ways_wider m rules block blocks grade offer below offered n bits) (λ v. ways_short m rules block blocks grade offer below offered n bits v few)

  turn_at : (bits b : ℕ) (t s : Place V) → bits ≡ b + (offer.rate + rules.charge n grade) → Best m (Ways m rules block blocks grade n bits) t → Best m (Costs m rules blocks n b) s → Best m (Ways m rules block blocks grade (n + 1) bits) (relaxed m offer.distortion t s)
  turn_at bits b t s e bt bs = subst (λ x. Best m (Ways m rules block blocks grade (n + 1) x) (relaxed m offer.distortion t s)) (sym e) (turn_in b t s (subst (λ x. Best m (Ways m rules block blocks grade n x) t) e bt) bs)

-- row n of rows of width w ends by row h
pub row_below : (n h w : ℕ) → n < h → n * w + w ≤ h * w
row_below n h w lt =
    let le : n + 1 ≤ h = omega arith in
    omega (arith, mul-le-mul_right {m = n + 1} {n = h} w le, add-mul n 1 w, one-mul w)

-- a place of a part of some places
pub part_at : {V : Type 0} (places : List (Place V)) (at width k : ℕ) (u : Place V) → k < width → slice_index_or (slice_range places at (at + width)) k u ≡ slice_index_or places (at + k) u
part_at places at width k u lt = get_or-take ((at + width) - at) _ k u (omega arith) ∙ get_or-drop at places k u

-- a place below, above or inside a part that was written
module _ {V : Type 0} (at width : ℕ) (places part : List (Place V)) (k : ℕ) (u : Place V) (within : at ≤ length places) where
  pub put_below : k < at → slice_index_or (put_mid at width places part) k u ≡ slice_index_or places k u
  put_below lt = sym (get_or-take at (put_mid at width places part) k u lt) ∙ ap (λ z. slice_index_or z k u) (take-put_mid_below at width places part at (omega arith) within) ∙ get_or-take at places k u lt

  pub put_above : length part ≡ width → at + width ≤ k → slice_index_or (put_mid at width places part) k u ≡ slice_index_or places k u
  put_above long ge =
      let past : at + width + (k - (at + width)) ≡ k = omega arith in
      let here = λ (zs : List (Place V)). get_or-drop (at + width) zs (k - (at + width)) u ∙ ap (λ x. slice_index_or zs x u) past in
      sym (here (put_mid at width places part)) ∙ ap (λ z. slice_index_or z (k - (at + width)) u) (drop-put_mid at width places part (at + width) (omega arith) within long) ∙ here places

  pub put_inside : length part ≡ width → k < width → slice_index_or (put_mid at width places part) (at + k) u ≡ slice_index_or part k u
  put_inside long lt = sym (part_at (put_mid at width places part) at width k u lt) ∙ ap (λ z. slice_index_or z k u) (between-put_mid at width places part (at + width) within (omega (arith, long)))

-- a row that stands for the choices whose grade before the last is below n
abbrev pub Upto : {V : Type 0} → Model V → Terms → Block → List Block → ℕ → ℕ → List (Place V) → Type 0
Upto m terms block blocks grade n row = (b : ℕ) → b < width_of terms → Best m (Ways m (rules_of terms) block blocks grade n b) (slice_index_or row b (unreached m))

-- one earlier grade more
module _ {V : Type 0} {m : Model V} (laws : Ordered m) (terms : Terms) (block : Block) (blocks : List Block) (grade : ℕ) (offer : Offer) (below : grade < terms.grades) (offered : offer_at block grade ≡ Some offer) (n step distortion : ℕ) (step_is : step ≡ (rules_of terms).charge n grade + offer.rate) (distortion_is : distortion ≡ offer.distortion) (before now earlier : List (Place V))
    (column : (b : ℕ) → b < width_of terms → Best m (Costs m (rules_of terms) blocks n b) (slice_index_or earlier b (unreached m)))
    (keeps : (k : ℕ) → k < step → slice_index_or now k (unreached m) ≡ slice_index_or before k (unreached m))
    (row : (b : ℕ) → b + step < width_of terms → slice_index_or now (b + step) (unreached m) ≡ relaxed m distortion (slice_index_or before (b + step) (unreached m)) (slice_index_or earlier b (unreached m))) where
  abbrev rs : Rules
  rs = rules_of terms

  pub turned : Upto m terms block blocks grade n before → Upto m terms block blocks grade (n + 1) now
  turned upto b h = ⊎_elim few enough (cases_lt b step)
    where
      few : b < step → Best m (Ways m rs block blocks grade (n + 1) b) (slice_index_or now b (unreached m))
      few lt = subst (λ p. Best m (Ways m rs block blocks grade (n + 1) b) p) (sym (keeps b lt)) (turn_short laws rs block blocks grade offer below offered n b _ (omega (arith, step_is)) (upto b h))

      enough : step ≤ b → Best m (Ways m rs block blocks grade (n + 1) b) (slice_index_or now b (unreached m))
      enough ge =
          let c : ℕ = b - step in
          let e : c + step ≡ b = omega arith in
          let falls : b ≡ c + (offer.rate + rs.charge n grade) = omega (arith, step_is) in
          let source = slice_index_or earlier c (unreached m) in
          let reads : slice_index_or now b (unreached m) ≡ relaxed m distortion (slice_index_or before b (unreached m)) source = subst (λ x. slice_index_or now x (unreached m) ≡ relaxed m distortion (slice_index_or before x (unreached m)) source) e (row c (omega arith)) in
          let by_offer = reads ∙ ap (λ d. relaxed m d (slice_index_or before b (unreached m)) source) distortion_is in
          subst (λ p. Best m (Ways m rs block blocks grade (n + 1) b) p) (sym by_offer) (turn_at laws rs block blocks grade offer below offered n b c _ _ falls (upto b h) (column c (omega arith)))

-- the row of a first block: the one place of its bits is reached, and no other
pub first_right : {V : Type 0} {m : Model V} (laws : Ordered m) (terms : Terms) (block : Block) (grade : ℕ) (offer : Offer) → grade < terms.grades → offer_at block grade ≡ Some offer → (bits : ℕ) (row : List (Place V)) → bits ≡ charge_into (rules_of terms) None grade + offer.rate
    → ((b : ℕ) → b < width_of terms → (b ≡ bits → ⊥) → slice_index_or row b (unreached m) ≡ unreached m)
    → (bits < width_of terms → slice_index_or row bits (unreached m) ≡ record { reached = true; cost = m.joined m.start offer.distortion })
    → PlaceRow m terms (block ∷ []) grade row
first_right {m = m} laws terms block grade offer below offered bits row bits_is others here b h =
    let rs = rules_of terms in
    let cost = m.joined m.start offer.distortion in
    let out = first_out m rs block grade offer offered b in
    ⊎_elim
    (λ (e : b ≡ bits).
    subst (λ p. Best m (Costs m rs (block ∷ []) grade b) p) (sym (ap (λ k. slice_index_or row k (unreached m)) e ∙ here (omega arith)))
    (best_one m cost (first_in m rs block grade offer below offered b cost (e ∙ bits_is, refl)) (λ v way. (out v way).1) (no_dearer_self m laws cost)))
    (λ (ne : b ≡ bits → ⊥).
    subst (λ p. Best m (Costs m rs (block ∷ []) grade b) p) (sym (others b h ne)) (best_none m (λ v way. ne ((out v way).0 ∙ sym bits_is))))
    (cases_eq b bits)

-- the row of a block above another, which is not the first
pub next_row : {V : Type 0} (m : Model V) (terms own : Terms) (block : Block) (blocks : List Block) (grade : ℕ) (places row : List (Place V)) → own ≡ terms → 0 < length blocks → Column m terms blocks places → ((newest : Block) (rest : List Block) → Column m own (newest ∷ rest) places → PlaceRow m own (block ∷ newest ∷ rest) grade row) → PlaceRow m terms (block ∷ blocks) grade row
next_row m terms own block [] grade places row same some column made = absurd (omega arith)
next_row m terms own block (newest ∷ rest) grade places row same some column made = subst (λ t. PlaceRow m t (block ∷ newest ∷ rest) grade row) same (made newest rest (subst (λ t. Column m t (newest ∷ rest) places) (sym same) column))

-- places that are as those of a column hold what it holds
pub column_same : {V : Type 0} (m : Model V) (terms : Terms) (blocks : List Block) (old new : List (Place V)) → ((k : ℕ) → k < size_of terms → slice_index_or new k (unreached m) ≡ slice_index_or old k (unreached m)) → Column m terms blocks old → Column m terms blocks new
column_same m terms blocks old new same column grade lt bits h =
    subst (λ p. Best m (Costs m (rules_of terms) blocks grade bits) p) (sym (same (grade * width_of terms + bits) (omega (arith, row_below grade terms.grades (width_of terms) lt)))) (column grade lt bits h)
