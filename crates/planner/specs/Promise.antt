-- What is promised of a planner after a list of calls. Assumes nothing.
use Rattle.std.specs.Prelude.{◌≡◌, ℕ, ◌*◌, ◌≤◌, ◌↔◌, List, reverse, length, take, Some, Ok, Err, Result, slice_index_or}
use Rattle.faults.specs.Refusals.{refusal}
use Rattle.costs.specs.Model.{Model, NoDearer}
use Rattle.terms.specs.declared.terms.Terms.{Terms}
use Rattle.terms.specs.Rules.{rules_of}
use Rattle.terms.specs.Choice.{Block}
use Rattle.trellis.specs.declared.place.Place.{Place}
use Rattle.trellis.specs.Places.{unreached}
use Rattle.trellis.specs.Named.{NothingFits, BestPlan}
use Rattle.planner.specs.declared.fault.PlannerFault.{PlannerFault}
use Rattle.planner.specs.Faults.{planner_number, plan_row}
use Rattle.planner.specs.Layout.{size_of, Columns}
use Rattle.planner.specs.Answers.{Fewest, NoneWithin, PlanFrame}

-- the answer was given, and is such; a refusal counts as no
abbrev pub Gave : {T : Type 0} → Result T PlannerFault → (T → Type 0) → Type 0
Gave (Ok answer) Such = Such answer
Gave (Err _) Such = ⊥

-- The arguments: the kind's model and the terms; the standing blocks, newest first, and the most blocks that stood at any time,
-- both counted from the calls; the places as lent and at the end; the budget and the bound; the grade list as lent and at the end;
-- and the two answers. The grade list has the first block first, the statements the newest, so it is read in reverse. A lent slice
-- keeps its length. Nothing is said of places that belong to no standing block but did to one that was taken back.
pub record Promise {V : Type 0} (m : Model V) (terms : Terms) (blocks : List Block) (most : ℕ) (places_before places_after : List (Place V)) (budget : ℕ) (bound : V) (grades_before grades_after : List ℕ) (plan : Result (ℕ × V) PlannerFault) (fewest : Result ℕ PlannerFault) : Type 0 where
  -- 33 and 34 in their cases and in that order, else a plan or 35; a refusal leaves the grade list, a plan its later entries
  pub plan_frame : PlanFrame (plan_row terms (length blocks) budget (length grades_before)) (length blocks) grades_before grades_after plan
  -- a plan's grades are the named ones, a choice of the bits and the cost answered, within the budget; and every choice of at most
  -- the budget costs at least as much
  pub best : (bits : ℕ) (cost : V) → plan ≡ Ok (bits, cost) → BestPlan m (rules_of terms) blocks budget (reverse (take (length blocks) grades_after)) bits cost
  -- 35 exactly when every choice comes to more than the budget
  pub nothing_fits : budget ≤ terms.ceiling → length blocks ≤ length grades_before → (refusal planner_number plan ≡ Some 35) ↔ NothingFits m (rules_of terms) blocks budget
  -- fewest gives at most the budget exactly when plan gives a cost within the bound
  pub agree : budget ≤ terms.ceiling → length blocks ≤ length grades_before → Gave fewest (λ bits. bits ≤ budget) ↔ Gave plan (λ answer. NoDearer m answer.1 bound)
  -- fewest gives the fewest bits of a choice within the bound
  pub fewest_bits : (bits : ℕ) → fewest ≡ Ok bits → Fewest m (rules_of terms) terms.ceiling blocks bound bits
  -- 36 exactly when no choice through the ceiling is within the bound, and no other refusal
  pub none_within : (refusal planner_number fewest ≡ Some 36) ↔ NoneWithin m (rules_of terms) terms.ceiling blocks bound
  pub only_36 : (fault : PlannerFault) → fewest ≡ Err fault → refusal planner_number fewest ≡ Some 36
  -- the places of the standing blocks hold what they should: each is `Best` of the choices that end there
  pub standing_places : Columns m terms blocks places_after
  -- places that no block ever had are as they were handed in
  pub other_places : (k : ℕ) → most * size_of terms ≤ k → slice_index_or places_after k (unreached m) ≡ slice_index_or places_before k (unreached m)
