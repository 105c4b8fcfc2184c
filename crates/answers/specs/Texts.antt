-- The bytes of each answer line, its line feed among them. Assumes nothing.
use Rattle.std.specs.Prelude.{ℕ, List, [], ◌∷◌, ◌++◌, codes, decimal}
use Rattle.std.specs.List.{flat_map}
use Rattle.faults.specs.Layers.{layer_name}
use Rattle.faults.specs.declared.layer.Layer.{Layer}

-- a comma, and a number in decimal
abbrev pub after_comma : ℕ → List ℕ
after_comma number = 44 ∷ decimal number

abbrev pub line_feed : List ℕ
line_feed = 10 ∷ []

-- a plan; each grade stands after a comma, so that with no grades nothing follows the cost
abbrev pub plan_text : ℕ → ℕ → ℕ → ℕ → List ℕ → List ℕ
plan_text line budget bits cost grades = codes "plan" ++ (after_comma line ++ (after_comma budget ++ (after_comma bits ++ (after_comma cost ++ (flat_map after_comma grades ++ line_feed)))))

-- the fewest bits within a bound
abbrev pub bits_text : ℕ → ℕ → ℕ → List ℕ
bits_text line bound bits = codes "bits" ++ (after_comma line ++ (after_comma bound ++ (after_comma bits ++ line_feed)))

-- a refusal: where it was met, the word of its layer, and its number
abbrev pub fault_text : ℕ → ℕ → Layer → ℕ → List ℕ
fault_text line field layer number = codes "fault" ++ (after_comma line ++ (after_comma field ++ (codes "," ++ (layer_name layer ++ (after_comma number ++ line_feed)))))
