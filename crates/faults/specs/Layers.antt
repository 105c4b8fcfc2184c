-- The word for each layer. Assumes nothing.
use Rattle.std.specs.Prelude.{ℕ, List, ◌∷◌, ◌++◌, codes, decimal}
use Rattle.faults.specs.declared.layer.Layer.{Layer}
use Rattle.faults.specs.declared.layer.Layer.TheVariants.{Text, Terms, Block, Planner, Answer}

abbrev pub layer_name : Layer → List ℕ
layer_name Text = codes "text"
layer_name Terms = codes "terms"
layer_name Block = codes "block"
layer_name Planner = codes "planner"
layer_name Answer = codes "answer"

-- how a fault is shown: the word of its layer, a space and its number
abbrev pub shown_fault : Layer → ℕ → List ℕ
shown_fault layer number = layer_name layer ++ 32 ∷ decimal number
