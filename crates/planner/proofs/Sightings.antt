-- One place more that is seen. Assumes nothing.
use Rattle.std.proofs.Common.{◌≡◌, ℕ, ◌≤◌, Bool, true, false, if◌then◌else◌, ◌⊎◌, List, Some, None, Option, sym, refl, ap, ◌∙◌, subst, inl, inr, ⊎_elim, arith}
use Rattle.std.proofs.lemmas.Option.{none-some}
use borrow.Author.Tests.{clash}
use Rattle.costs.specs.Model.{Model, Ordered, NoDearer}
use Rattle.planner.specs.Layout.{place_in}
use Rattle.trellis.proofs.Bests.{no_dearer_self}
use Rattle.trellis.specs.declared.place.Place.{Place}
use Rattle.planner.specs.declared.end.End.{End}
use Rattle.terms.specs.declared.terms.Terms.{Terms}
use Rattle.planner.specs.Search.{better, Ahead, Seen}

module _ {V : Type 0} (m : Model V) (terms : Terms) (places : List (Place V)) where
  pub seen_same : (S R : ℕ → ℕ → Type 0) (best : Option (End V)) → ((b g : ℕ) → S b g → R b g) → ((b g : ℕ) → R b g → S b g) → Seen m terms places S best → Seen m terms places R best
  seen_same S R None there back s = λ b g r. s b g (back b g r)
  seen_same S R (Some e) there back (i, r, c, least) = (there _ _ i, r, c, λ b g h. least b g (back b g h))

module _ {V : Type 0} {m : Model V} (laws : Ordered m) (terms : Terms) (places : List (Place V)) (S : ℕ → ℕ → Type 0) (bits grade : ℕ) (order : (b g : ℕ) → S b g → (b ≤ bits) × (b ≡ bits → g ≤ grade)) where
  abbrev pub More : ℕ → ℕ → Type 0
  More b g = S b g ⊎ ((b ≡ bits) × (g ≡ grade))

  abbrev here : Place V
  here = place_in m terms places grade bits

  at_here : (P : Place V → Type 0) (b g : ℕ) → (b ≡ bits) × (g ≡ grade) → P here → P (place_in m terms places g b)
  at_here P b g (eb, eg) p = subst (λ x. P (place_in m terms places x b)) (sym eg) (subst (λ x. P (place_in m terms places grade x)) (sym eb) p)

  at_back : (P : Place V → Type 0) (b g : ℕ) → (b ≡ bits) × (g ≡ grade) → P (place_in m terms places g b) → P here
  at_back P b g (eb, eg) p = subst (λ x. P (place_in m terms places grade x)) eb (subst (λ x. P (place_in m terms places x b)) eg p)

  itself : (b g : ℕ) → (b ≡ bits) × (g ≡ grade) → Ahead m (record { bits = bits; grade = grade; cost = here.cost }) b g (place_in m terms places g b).cost
  itself b g w = (at_here (λ p. NoDearer m here.cost p.cost) b g w (no_dearer_self m laws here.cost), λ _. (omega (arith, w.0), λ _. omega (arith, w.1)))

  -- a place that is not reached adds nothing
  seen_past : (best : Option (End V)) → here.reached ≡ false → Seen m terms places S best → Seen m terms places More best
  seen_past None e s = λ b g h r. ⊎_elim (λ i. s b g i r) (λ q. clash (sym e ∙ at_back (λ p. p.reached ≡ true) b g q r)) h
  seen_past (Some end) e (i, r, c, least) = (inl i, r, c, λ b g h q. ⊎_elim (λ i. least b g i q) (λ w. absurd (clash (sym e ∙ at_back (λ p. p.reached ≡ true) b g w q))) h)

  -- a reached place may take the place of the best so far
  seen_more : (best : Option (End V)) → here.reached ≡ true → Seen m terms places S best → Seen m terms places More (better m best (record { bits = bits; grade = grade; cost = here.cost }))
  seen_more None e s = (inr (refl, refl), e, refl, λ b g h q. ⊎_elim (λ i. absurd (s b g i q)) (itself b g) h)
  seen_more (Some end) e (i, r, c, least) = pick (m.ranks end.cost here.cost) refl
    where
      pick : (k : Bool) → m.ranks end.cost here.cost ≡ k → Seen m terms places More (if k then Some end else Some (record { bits = bits; grade = grade; cost = here.cost }))
      pick true ranks = (inl i, r, c, λ b g h q. ⊎_elim (λ i. least b g i q) (λ w. (at_here (λ p. NoDearer m end.cost p.cost) b g w ranks, λ _. let o = order end.bits end.grade i in (omega (arith, o.0, w.0), λ same. omega (arith, o.1 (sym same ∙ w.0), w.1)))) h)
      pick false ranks =
          let less : NoDearer m here.cost end.cost = ⊎_elim (λ t. absurd (clash (sym ranks ∙ t))) (λ t. t) (laws.compare end.cost here.cost) in
          (inr (refl, refl), e, refl, λ b g h q. ⊎_elim (λ i. (laws.trans _ _ _ less (least b g i q).0, λ back. absurd (clash (sym ranks ∙ laws.trans _ _ _ (least b g i q).0 back)))) (itself b g) h)

  -- the same, by what the place keeps
  pub seen_some : (best : Option (End V)) (cost : V) → Some cost ≡ (if here.reached then Some here.cost else None) → Seen m terms places S best → Seen m terms places More (better m best (record { bits = bits; grade = grade; cost = cost }))
  seen_some best cost is seen = at here.reached refl
    where
      at : (r : Bool) → here.reached ≡ r → Seen m terms places More (better m best (record { bits = bits; grade = grade; cost = cost }))
      at true e =
          let same : Some cost ≡ Some here.cost = is ∙ ap (λ r. if r then Some here.cost else None) e in
          let v : cost ≡ here.cost = cc same in
          subst (λ v. Seen m terms places More (better m best (record { bits = bits; grade = grade; cost = v }))) (sym v) (seen_more best e seen)
      at false e = absurd (none-some cost (sym (is ∙ ap (λ r. if r then Some here.cost else None) e)))

  pub seen_none : (best : Option (End V)) → None ≡ (if here.reached then Some here.cost else None) → Seen m terms places S best → Seen m terms places More best
  seen_none best is seen = at here.reached refl
    where
      at : (r : Bool) → here.reached ≡ r → Seen m terms places More best
      at true e = absurd (none-some here.cost (is ∙ ap (λ r. if r then Some here.cost else None) e))
      at false e = seen_past best e seen
