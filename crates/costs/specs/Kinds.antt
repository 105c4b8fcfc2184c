-- The two cost kinds: the total and the worst distortion. Assumes nothing.
use Rattle.std.specs.Prelude.{ℕ, ◌+◌, min, max, nat_le}
use Rattle.costs.specs.Model.{Model}
use Rattle.costs.specs.declared.total.Total.{Total}
use Rattle.costs.specs.declared.worst.Worst.{Worst}

abbrev pub total_of : ℕ → Total
total_of n = record { 0 = n }

abbrev pub worst_of : ℕ → Worst
worst_of n = record { 0 = n }

-- the sum, which stops at the largest number
abbrev pub total_model : Model Total
total_model = record {
  start = total_of 0;
  joined = λ a distortion. total_of (min (a.0 + distortion) 4294967295);
  ranks = λ a b. nat_le a.0 b.0;
}

-- the greatest
abbrev pub worst_model : Model Worst
worst_model = record {
  start = worst_of 0;
  joined = λ a distortion. worst_of (max a.0 distortion);
  ranks = λ a b. nat_le a.0 b.0;
}
