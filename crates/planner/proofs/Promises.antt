-- The promise, from what plan and fewest ensure. Assumes nothing.
use Rattle.std.proofs.Common.{◌≡◌, ℕ, ◌*◌, ◌≤◌, ◌⊎◌, List, reverse, length, take, slice_index_or, Some, None, Ok, Err, Result, sym, ap, subst, ⊎_elim, arith}
use mathlib.Core.Logic.{∥∥₁_elim}
use mathlib.Core.HLevel.{⊥_prop}
use Rattle.std.proofs.lemmas.Bool.{cases_lt}
use Rattle.costs.specs.Model.{Model, Ordered, AlikeSame, NoDearer}
use Rattle.planner.specs.Answers.{Fewest, NoneWithin, Planned, FewestOf, PlanFrame, OnlyRefuses}
use Rattle.terms.specs.Choice.{Block}
use Rattle.terms.specs.Rules.{Rules, rules_of}
use Rattle.trellis.proofs.Names.{ranked, named_within, named_cheapest, named_own, best_plan}
use Rattle.trellis.specs.Named.{Named, NothingFits, BestPlan}
use Rattle.terms.specs.declared.terms.Terms.{Terms}
use Rattle.planner.specs.declared.tables.Tables.{Tables}
use Rattle.planner.specs.declared.fault.PlannerFault.{PlannerFault}
use Rattle.trellis.specs.declared.place.Place.{Place}
use Rattle.trellis.specs.Places.{unreached}
use Rattle.planner.specs.Layout.{size_of, Columns}
use Rattle.planner.specs.Standing.{standing_blocks, block_count, Sound}
use Rattle.faults.specs.Refusals.{refusal}
use Rattle.planner.specs.Faults.{planner_number, plan_row}
use Rattle.planner.proofs.Cases.{not_refused, asked}
use Rattle.planner.proofs.Stacks.{columns_of}
use Rattle.std.proofs.lemmas.List.{take_all}
use Rattle.std.proofs.lemmas.Option.{none-some}
use Rattle.planner.specs.Promise.{Gave, Promise}
use Rattle.planner.proofs.Turns.{standing_length}

numbered : (a b : ℕ) → Some a ≡ Some b → a ≡ b
numbered a b e = cc

module _ {V : Type 0} {m : Model V} (laws : Ordered m) (rules : Rules) (ceiling : ℕ) (blocks : List Block) (budget : ℕ) (bound : V) (grades : List ℕ) where
  plan_best : AlikeSame m → (plan : Result (ℕ × V) PlannerFault) → Planned m rules blocks budget grades plan → (bits : ℕ) (cost : V) → plan ≡ Ok (bits, cost) → BestPlan m rules blocks budget grades bits cost
  plan_best same plan planned bits cost e = best_plan laws same rules blocks budget grades bits cost (subst (λ r. Planned m rules blocks budget grades r) e planned)

  -- where nothing fits, no plan is given
  fits_none : (pair : ℕ × V) → Named m rules budget blocks grades pair.0 pair.1 → NothingFits m rules blocks budget → ⊥
  fits_none pair n none = ∥∥₁_elim (named_own laws rules n) ⊥_prop (λ w. none grades pair.0 w.0 w.1 (named_within laws rules n))

  thirty_five : (plan : Result (ℕ × V) PlannerFault) → Planned m rules blocks budget grades plan → refusal planner_number plan ≡ Some 35 → NothingFits m rules blocks budget
  thirty_five (Ok pair) planned e = absurd (none-some 35 e)
  thirty_five (Err fault) planned e = planned (numbered (planner_number fault) 35 e)

  refuses : (plan : Result (ℕ × V) PlannerFault) → Planned m rules blocks budget grades plan → (refusal planner_number plan ≡ None) ⊎ (refusal planner_number plan ≡ Some 35) → NothingFits m rules blocks budget → refusal planner_number plan ≡ Some 35
  refuses (Ok pair) planned one none = absurd (fits_none pair planned none)
  refuses (Err fault) planned one none = ⊎_elim (λ e. absurd (none-some (planner_number fault) (sym e))) (λ e. e) one

  agrees : (plan : Result (ℕ × V) PlannerFault) (fewest : Result ℕ PlannerFault) → budget ≤ ceiling → Planned m rules blocks budget grades plan → (refusal planner_number plan ≡ None) ⊎ (refusal planner_number plan ≡ Some 35) → FewestOf m rules ceiling blocks bound fewest → Gave fewest (λ bits. bits ≤ budget) → Gave plan (λ answer. NoDearer m answer.1 bound)
  agrees plan (Err fault) through planned one none low = absurd low
  agrees (Ok pair) (Ok bits) through planned one few low =
      ranked m pair.1 bound (λ never. ∥∥₁_elim few.some ⊥_prop (λ w. never (laws.trans _ w.1 bound (named_cheapest laws rules planned w.0 bits w.1 w.2 low) w.3)))
  agrees (Err fault) (Ok bits) through planned one few low =
      let none = thirty_five (Err fault) planned (⊎_elim (λ e. absurd (none-some (planner_number fault) (sym e))) (λ e. e) one) in
      ∥∥₁_elim few.some ⊥_prop (λ w. none w.0 bits w.1 w.2 low)

  agrees_back : (plan : Result (ℕ × V) PlannerFault) (fewest : Result ℕ PlannerFault) → budget ≤ ceiling → Planned m rules blocks budget grades plan → FewestOf m rules ceiling blocks bound fewest → Gave plan (λ answer. NoDearer m answer.1 bound) → Gave fewest (λ bits. bits ≤ budget)
  agrees_back (Err fault) fewest through planned few cheap = absurd cheap
  agrees_back (Ok pair) (Ok bits) through planned few cheap = ⊎_elim
      (λ lt. absurd (∥∥₁_elim (named_own laws rules planned) ⊥_prop (λ w. omega (arith, few.fewest grades pair.0 w.0 w.1 (laws.trans _ pair.1 bound w.2.0 cheap), named_within laws rules planned))))
      (λ le. le)
      (cases_lt budget bits)
  agrees_back (Ok pair) (Err fault) through planned none cheap = ∥∥₁_elim (named_own laws rules planned) ⊥_prop (λ w. none grades pair.0 w.0 w.1 (omega (arith, named_within laws rules planned)) (laws.trans _ pair.1 bound w.2.0 cheap))

  fewest_given : (fewest : Result ℕ PlannerFault) → FewestOf m rules ceiling blocks bound fewest → (bits : ℕ) → fewest ≡ Ok bits → Fewest m rules ceiling blocks bound bits
  fewest_given fewest few bits e = subst (λ r. FewestOf m rules ceiling blocks bound r) e few

  none_in : (fewest : Result ℕ PlannerFault) → FewestOf m rules ceiling blocks bound fewest → refusal planner_number fewest ≡ Some 36 → NoneWithin m rules ceiling blocks bound
  none_in (Ok bits) few e = absurd (none-some 36 e)
  none_in (Err fault) none e = none

  none_out : (fewest : Result ℕ PlannerFault) → OnlyRefuses 36 fewest → FewestOf m rules ceiling blocks bound fewest → NoneWithin m rules ceiling blocks bound → refusal planner_number fewest ≡ Some 36
  none_out (Ok bits) only few none = absurd (∥∥₁_elim few.some ⊥_prop (λ w. none w.0 bits w.1 w.2 few.through w.3))
  none_out (Err fault) only few none = ap Some only

only_refuses : (fewest : Result ℕ PlannerFault) → OnlyRefuses 36 fewest → (fault : PlannerFault) → fewest ≡ Err fault → refusal planner_number fewest ≡ Some 36
only_refuses (Ok bits) only fault e = not_refused bits fault e
only_refuses (Err fault) only _ e = ap Some only

-- from what plan and fewest ensure of the tables of a planner, and what the run did to the places
pub promised : {V : Type 0} {m : Model V} (laws : Ordered m) (same : AlikeSame m) (terms : Terms) (blocks : List Block) (most : ℕ) (places_before places_after : List (Place V)) (budget : ℕ) (bound : V) (before after : List ℕ) (plan : Result (ℕ × V) PlannerFault) (fewest : Result ℕ PlannerFault)
    → PlanFrame (plan_row terms (length blocks) budget (length before)) (length blocks) before after plan → Planned m (rules_of terms) blocks budget (reverse (take (length blocks) after)) plan
    → OnlyRefuses 36 fewest → FewestOf m (rules_of terms) terms.ceiling blocks bound fewest
    → Columns m terms blocks places_after → ((k : ℕ) → most * size_of terms ≤ k → slice_index_or places_after k (unreached m) ≡ slice_index_or places_before k (unreached m))
    → Promise m terms blocks most places_before places_after budget bound before after plan fewest
promised laws same terms blocks most places_before places_after budget bound before after plan fewest frame planned only few columns others =
    let rs = rules_of terms in
    let gs = reverse (take (length blocks) after) in
    record {
      plan_frame = frame;
      best = plan_best laws rs terms.ceiling blocks budget bound gs same plan planned;
      nothing_fits = λ low long. (thirty_five laws rs terms.ceiling blocks budget bound gs plan planned, refuses laws rs terms.ceiling blocks budget bound gs plan planned (frame.else_nothing_fits (asked terms (length blocks) budget (length before) low long)));
      agree = λ low long. (agrees laws rs terms.ceiling blocks budget bound gs plan fewest low planned (frame.else_nothing_fits (asked terms (length blocks) budget (length before) low long)) few, agrees_back laws rs terms.ceiling blocks budget bound gs plan fewest low planned few);
      fewest_bits = fewest_given laws rs terms.ceiling blocks budget bound gs fewest few;
      none_within = (none_in laws rs terms.ceiling blocks budget bound gs fewest few, none_out laws rs terms.ceiling blocks budget bound gs fewest only few);
      only_36 = only_refuses fewest only;
      standing_places = columns;
      other_places = others;
    }

-- the same, from the tables of a planner
pub promised_at : {V : Type 0} {m : Model V} (laws : Ordered m) (same : AlikeSame m) (t : Tables) (terms : Terms) (blocks : List Block) (most : ℕ) (places_before places_after : List (Place V)) (budget : ℕ) (bound : V) (before after : List ℕ) (plan : Result (ℕ × V) PlannerFault) (fewest : Result ℕ PlannerFault)
    → t.terms ≡ terms → standing_blocks t ≡ blocks
    → PlanFrame (plan_row t.terms (block_count t) budget (length before)) (block_count t) before after plan → Planned m (rules_of t.terms) (standing_blocks t) budget (reverse (take (block_count t) after)) plan
    → OnlyRefuses 36 fewest → FewestOf m (rules_of t.terms) t.terms.ceiling (standing_blocks t) bound fewest
    → Sound m t places_after → ((k : ℕ) → most * size_of terms ≤ k → slice_index_or places_after k (unreached m) ≡ slice_index_or places_before k (unreached m))
    → Promise m terms blocks most places_before places_after budget bound before after plan fewest
promised_at {m = m} laws same t terms blocks most places_before places_after budget bound before after plan fewest terms_are blocks-are frame planned only few sound others =
    let n : block_count t ≡ length (standing_blocks t) = sym (standing_length t) in
    let frame2 = subst (λ k. PlanFrame (plan_row t.terms k budget (length before)) k before after plan) n frame in
    let planned2 = subst (λ k. Planned m (rules_of t.terms) (standing_blocks t) budget (reverse (take k after)) plan) n planned in
    let columns : Columns m t.terms (standing_blocks t) places_after = subst (λ xs. Columns m t.terms (reverse xs) places_after) (take_all (block_count t) t.blocks.items (omega arith)) (columns_of m t.terms t.blocks.items places_after sound (block_count t) (omega arith)) in
    let all : Promise m t.terms (standing_blocks t) most places_before places_after budget bound before after plan fewest = promised laws same t.terms (standing_blocks t) most places_before places_after budget bound before after plan fewest frame2 planned2 only few columns (λ k h. others k (omega (arith, ap (λ u. most * size_of u) terms_are))) in
    subst (λ bs. Promise m terms bs most places_before places_after budget bound before after plan fewest) blocks-are (subst (λ u. Promise m u (standing_blocks t) most places_before places_after budget bound before after plan fewest) terms_are all)
