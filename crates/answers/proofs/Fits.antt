-- The longest answer lines. Assumes nothing.
use Rattle.std.proofs.Common.{ℕ, ◌*◌, ◌^◌, ◌<◌, ◌≤◌, List, [], ◌∷◌, length, arith}
use Rattle.std.proofs.lemmas.Fmt.{length-decimal-le}
use Rattle.std.proofs.lemmas.List.{length-append}
use Rattle.std.specs.List.{flat_map, AllByRecursion}
use Rattle.faults.specs.Layers.{layer_name}
use Rattle.faults.specs.declared.layer.Layer.{Layer}
use Rattle.answers.specs.Texts.{after_comma, plan_text, bits_text, fault_text}
use Rattle.answers.specs.Longest.{longest, EveryLineFits}

grades_most : (grades : List ℕ) → AllByRecursion (λ grade. grade < 100) grades → length (flat_map after_comma grades) ≤ 3 * length grades
grades_most [] h = omega arith
grades_most (grade ∷ grades) h = grind (arith, length-append, length-decimal-le 2, grades_most grades h.1)

word_most : (layer : Layer) → length (layer_name layer) ≤ 7
word_most layer = grind arith

plan_fits : (line budget bits cost : ℕ) (grades : List ℕ) → line < 2 ^ 32 → budget < 2 ^ 32 → bits < 2 ^ 32 → cost < 2 ^ 32 → length grades ≤ 64 → AllByRecursion (λ grade. grade < 100) grades → length (plan_text line budget bits cost grades) ≤ longest
plan_fits line budget bits cost grades l b m c few small = let most = grades_most grades small in grind (arith, length-append, length-decimal-le 10)

bits_fits : (line bound bits : ℕ) → line < 2 ^ 32 → bound < 2 ^ 32 → bits < 2 ^ 32 → length (bits_text line bound bits) ≤ longest
bits_fits line bound bits l b m = grind (arith, length-append, length-decimal-le 10)

fault_fits : (line field : ℕ) (layer : Layer) (number : ℕ) → line < 2 ^ 32 → field < 2 ^ 32 → number < 2 ^ 32 → length (fault_text line field layer number) ≤ longest
fault_fits line field layer number l f n = grind (arith, length-append, length-decimal-le 10, word_most)

pub every_line_fits : EveryLineFits longest
every_line_fits = record { plan = plan_fits; bits = bits_fits; fault = fault_fits }
