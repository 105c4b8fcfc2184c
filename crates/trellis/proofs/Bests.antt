-- What relaxing a place does to the set of costs that it stands for. Assumes nothing.
use Rattle.std.proofs.Common.{◌≡◌, ℕ, Bool, true, false, cond, ◌&&◌, ◌⊎◌, sym, refl, ◌∙◌, subst, inl, inr, ⊎_elim, arith}
use mathlib.Core.Logic.{∥∥₁_map}
use Rattle.costs.specs.Model.{Model, Ordered, NoDearer}
use Rattle.trellis.specs.declared.place.Place.{Place}
use Rattle.trellis.specs.Places.{Best, relaxed, unreached}

false_true : {A : Type 0} → false ≡ true → A
false_true e = absurd (grind arith)

true_false : {A : Type 0} → true ≡ false → A
true_false e = absurd (grind arith)

module _ {V : Type 0} (m : Model V) where
  pub best_same : {P Q : V → Type 0} {p : Place V} → ((v : V) → P v → Q v) → ((v : V) → Q v → P v) → Best m P p → Best m Q p
  best_same there back b = record {
    kept = λ r. record { some = ∥∥₁_map (b.kept r).some (there _); least = λ o q. (b.kept r).least o (back o q) };
    marked = λ r o q. b.marked r o (back o q);
    cleared = b.cleared;
  }

  pub best_none : {P : V → Type 0} → ((v : V) → P v → ⊥) → Best m P (unreached m)
  best_none never = record {
    kept = λ r. false_true r;
    marked = λ _. never;
    cleared = λ _. refl;
  }

  -- the one cost of a set
  pub best_one : {P : V → Type 0} (cost : V) → P cost → ((v : V) → P v → v ≡ cost) → NoDearer m cost cost → Best m P (record { reached = true; cost = cost })
  best_one cost here only self = record {
    kept = λ _. record { some = ∣ here ∣₁; least = λ v p. subst (λ x. NoDearer m cost x) (sym (only v p)) self };
    marked = λ r. true_false r;
    cleared = λ r. true_false r;
  }

  pub no_dearer_self : Ordered m → (a : V) → NoDearer m a a
  no_dearer_self laws a = ⊎_elim (λ t. t) (λ t. t) (laws.compare a a)

  -- what a source's costs come to, each joined with the distortion
  abbrev pub Joined : ℕ → (V → Type 0) → V → Type 0
  Joined d Q v = (w : V) × Q w × (v ≡ m.joined w d)

  abbrev pub Either : (V → Type 0) → (V → Type 0) → V → Type 0
  Either P Q v = P v ⊎ Q v

module _ {V : Type 0} {m : Model V} (laws : Ordered m) (P Q : V → Type 0) (d : ℕ) where
  joined_least : (sc : V) → ((w : V) → Q w → NoDearer m sc w) → (v : V) → Joined m d Q v → NoDearer m (m.joined sc d) v
  joined_least sc least v (w, q, e) = subst (λ x. NoDearer m (m.joined sc d) x) (sym e) (laws.joins sc w d (least w q))

  other_way : (a b : V) → m.ranks a b ≡ false → NoDearer m b a
  other_way a b f = ⊎_elim (λ t. false_true (sym f ∙ t)) (λ t. t) (laws.compare a b)

  cases : (sr tr : Bool) (sc tc : V) (rk : Bool) → m.ranks tc (m.joined sc d) ≡ rk → Best m P (record { reached = tr; cost = tc }) → Best m Q (record { reached = sr; cost = sc }) → Best m (Either m P (Joined m d Q)) (cond sr (cond (tr && rk) (record { reached = tr; cost = tc }) (record { reached = true; cost = m.joined sc d })) (record { reached = tr; cost = tc }))
  cases false tr sc tc rk e t s = record {
    kept = λ r. record { some = ∥∥₁_map (t.kept r).some inl; least = λ v. ⊎_elim ((t.kept r).least v) (λ j. absurd (s.marked refl j.0 j.1)) };
    marked = λ r v. ⊎_elim (t.marked r v) (λ j. s.marked refl j.0 j.1);
    cleared = t.cleared;
  }
  cases true false sc tc rk e t s = record {
    kept = λ r. record { some = ∥∥₁_map (s.kept refl).some (λ q. inr (sc, q, refl)); least = λ v. ⊎_elim (λ p. absurd (t.marked refl v p)) (joined_least sc (s.kept refl).least v) };
    marked = λ r. true_false r;
    cleared = λ r. true_false r;
  }
  cases true true sc tc true e t s = record {
    kept = λ r. record { some = ∥∥₁_map (t.kept r).some inl; least = λ v. ⊎_elim ((t.kept r).least v) (λ j. laws.trans tc (m.joined sc d) v e (joined_least sc (s.kept refl).least v j)) };
    marked = λ r. true_false r;
    cleared = λ r. true_false r;
  }
  cases true true sc tc false e t s = record {
    kept = λ r. record { some = ∥∥₁_map (s.kept refl).some (λ q. inr (sc, q, refl)); least = λ v. ⊎_elim (λ p. laws.trans (m.joined sc d) tc v (other_way tc (m.joined sc d) e) ((t.kept refl).least v p)) (joined_least sc (s.kept refl).least v) };
    marked = λ r. true_false r;
    cleared = λ r. true_false r;
  }

  pub relax_best : (t s : Place V) → Best m P t → Best m Q s → Best m (Either m P (Joined m d Q)) (relaxed m d t s)
  relax_best t s = cases s.reached t.reached s.cost t.cost (m.ranks t.cost (m.joined s.cost d)) refl
