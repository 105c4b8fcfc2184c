use Rattle.std.proofs.Common.{◌*◌, ◌≤◌, length}
use Rattle.std.specs.Iterator.Adapters.{zip_first, zip_second}
use Rattle.std.specs.Slice.Iter.{iter_rest}
use Rattle.terms.specs.Rules.{rules_of}
use Rattle.terms.proofs.Counts.{Counting}
use Rattle.terms.proofs.choice.count_choice.Given as goal

-- what is counted so far is of the blocks so far
abbrev pub invariant-loop-block : goal.invariant-loop-block
invariant-loop-block g l =
    record {
      low : l.bits ≤ length l.yielded * 65790;
      counting : Counting g.K.Kind.model (rules_of l.terms) l.blocks l.grades (iter_rest (zip_first l.block-iterator)) (iter_rest (zip_second l.block-iterator)) l.before l.bits l.cost;
    }
