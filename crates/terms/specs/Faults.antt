-- What is refused of terms: the number of each case, and each call's row of cases. Assumes nothing.
use Rattle.std.specs.Prelude.{ℕ, ◌||◌, [], ◌∷◌, ◌++◌, ◌==◌, nat_le, nat_lt}
use Rattle.faults.specs.Refusals.{Row}
use Rattle.faults.specs.declared.layer.Layer.{Layer}
use Rattle.faults.specs.declared.layer.Layer.TheVariants.{Terms}
use Rattle.terms.specs.declared.fault.TermsFault.{TermsFault}
use Rattle.terms.specs.declared.fault.TermsFault.TheVariants.{GradesRange, CeilingRange, ChargeRange, PairRange}

abbrev pub terms_number : TermsFault → ℕ
terms_number GradesRange = 10
terms_number CeilingRange = 11
terms_number ChargeRange = 12
terms_number PairRange = 13

abbrev pub terms_layer : TermsFault → Layer
terms_layer _ = Terms

abbrev pub grades_row : ℕ → Row
grades_row grades = (nat_lt grades 1 || nat_lt 16 grades, 10) ∷ []

abbrev pub ceiling_row : ℕ → Row
ceiling_row ceiling = (nat_lt 4095 ceiling, 11) ∷ []

abbrev pub charge_row : ℕ → Row
charge_row charge = (nat_lt 255 charge, 12) ∷ []

-- setting the number of grades and the ceiling
abbrev pub reset_row : ℕ → ℕ → Row
reset_row grades ceiling = grades_row grades ++ ceiling_row ceiling

-- setting the charge of one change, under so many grades
abbrev pub pair_row : ℕ → ℕ → ℕ → ℕ → Row
pair_row grades from to charge = (from == to || (nat_le grades from || nat_le grades to), 13) ∷ charge_row charge
