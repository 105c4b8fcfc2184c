use Rattle.std.proofs.Common.{◌≡◌, ℕ, ◌+◌, ◌<◌, ◌≤◌, ◌⊎◌, Option, Some, None, if◌then◌else◌, sym, ◌∙◌, subst, inl, inr, ⊎_elim, arith, rules}
use Rattle.planner.specs.declared.end.End.{End}
use Rattle.planner.specs.Layout.{place_in}
use Rattle.std.proofs.lemmas.Bool.{cases_lt}
use Rattle.planner.specs.Search.{Seen, better}
use Rattle.planner.proofs.Sightings.{More, seen_same, seen_some, seen_none}
use Rattle.planner.proofs.stage.Stage.best_end.Goals as goal
use Rattle.planner.proofs.stage.Stage.best_end.Goals.{then-place, else-place}

-- the places seen before a turn of the inner loop
abbrev Part : ℕ → ℕ → ℕ → ℕ → ℕ → Type 0
Part grades bits grade b k = ((b < bits) × (k < grades)) ⊎ ((b ≡ bits) × (k < grade))

part_in : (grades bits grade b k : ℕ) → Part grades bits grade b k ⊎ ((b ≡ bits) × (k ≡ grade)) → Part grades bits (grade + 1) b k
part_in grades bits grade b k (inl (inl h)) = inl h
part_in grades bits grade b k (inl (inr (e, h))) = inr (e, omega arith)
part_in grades bits grade b k (inr (e, h)) = inr (e, omega arith)

part_out : (grades bits grade b k : ℕ) → Part grades bits (grade + 1) b k → Part grades bits grade b k ⊎ ((b ≡ bits) × (k ≡ grade))
part_out grades bits grade b k (inl h) = inl (inl h)
part_out grades bits grade b k (inr (e, h)) = ⊎_elim (λ lt. inl (inr (e, lt))) (λ ge. inr (e, omega arith)) (cases_lt k grade)

part_order : (grades bits grade b k : ℕ) → Part grades bits grade b k → (b ≤ bits) × (b ≡ bits → k ≤ grade)
part_order grades bits grade b k (inl h) = (omega (arith, h.0), λ e. absurd (omega (arith, h.0)))
part_order grades bits grade b k (inr h) = (omega (arith, h.0), λ e. omega (arith, h.1))

pub loop-grade-preserved : goal.loop-grade-preserved
loop-grade-preserved g c =
    let m = g.K.Kind.model in
    let t = c.args.self.now.terms.now in
    let places = c.args.self.now.places.now in
    let b = c.loop-bits.bits in
    let k = c.loop-grade.grade in
    let place = place_in m t places k b in
    let best = c.loop-grade.best in
    let order = part_order t.grades b k in
    let all : (new : Option (End g.row.K.Denot)) → Seen m t places (More g.met.K.Kind.ordered t places (Part t.grades b k) b k order) new → Seen m t places (Part t.grades b (k + 1)) new = λ new. seen_same m t places _ (Part t.grades b (k + 1)) new (part_in t.grades b k) (part_out t.grades b k) in
    let is : c.at-place.result ≡ place = c.at-place.ensures in
    elim c.if-place.branch [
      | then-place w ↦
          (let cost = c.at-place.result.cost in
          let kept : Some cost ≡ (if place.reached then Some place.cost else None) = search (rules, is, w.if-place.true) in
          subst (λ new. Seen m t places (Part t.grades b (k + 1)) new) (sym (w.best-is ∙ w.better-best.ensures)) (all (better m best (record { bits = b; grade = k; cost = cost })) (seen_some g.met.K.Kind.ordered t places (Part t.grades b k) b k order best cost kept c.loop-grade.invariant)))
      | else-place w ↦
          (let kept : None ≡ (if place.reached then Some place.cost else None) = search (rules, is, w.if-place.false) in
          subst (λ new. Seen m t places (Part t.grades b (k + 1)) new) (sym w.best-is) (all best (seen_none g.met.K.Kind.ordered t places (Part t.grades b k) b k order best kept c.loop-grade.invariant)))
    ]
