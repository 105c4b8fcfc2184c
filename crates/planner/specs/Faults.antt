-- What the planner refuses: the number of each case, and each call's row of cases. Assumes nothing.
use Rattle.std.specs.Prelude.{ℕ, ◌+◌, ◌*◌, [], ◌∷◌, ◌==◌, nat_le, nat_lt}
use Rattle.faults.specs.Refusals.{Row}
use Rattle.faults.specs.declared.layer.Layer.{Layer}
use Rattle.faults.specs.declared.layer.Layer.TheVariants.{Planner}
use Rattle.terms.specs.declared.terms.Terms.{Terms}
use Rattle.terms.specs.Choice.{Block}
use Rattle.planner.specs.declared.fault.PlannerFault.{PlannerFault}
use Rattle.planner.specs.declared.fault.PlannerFault.TheVariants.{TooManyBlocks, TooFewPlaces, NoBlock, OverCeiling, ShortList, NothingFits, NoneWithin}

abbrev pub planner_number : PlannerFault → ℕ
planner_number TooManyBlocks = 30
planner_number TooFewPlaces = 31
planner_number NoBlock = 32
planner_number OverCeiling = 33
planner_number ShortList = 34
planner_number NothingFits = 35
planner_number NoneWithin = 36

abbrev pub planner_layer : PlannerFault → Layer
planner_layer _ = Planner

-- adding a block of these offers where so many places are lent and so many blocks stand: 64 stand; the places are too few. No
-- case looks at the offers yet.
abbrev pub add_cases : (grades ceiling lent standing : ℕ) → Block → Row
add_cases grades ceiling lent standing offers = (nat_le 64 standing, 30) ∷ (nat_lt lent ((standing + 1) * (grades * (ceiling + 1))), 31) ∷ []

abbrev pub add_row : Terms → ℕ → ℕ → Block → Row
add_row terms = add_cases terms.grades terms.ceiling

-- taking the last block back: none stands
abbrev pub take_back_row : ℕ → Row
take_back_row standing = ((standing == 0), 32) ∷ []

-- planning, before anything is searched: the budget is over the ceiling; the grade list is shorter than the standing blocks.
-- 35 is no case of a row, as no test says it: it stands in `Planned`, and 36 in `FewestOf`
abbrev pub plan_row : Terms → ℕ → ℕ → ℕ → Row
plan_row terms standing budget entries = (nat_lt terms.ceiling budget, 33) ∷ (nat_lt entries standing, 34) ∷ []
