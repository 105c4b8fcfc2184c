-- The blocks that stand after a list of calls, counted from the list by the refusals' cases alone. Assumes nothing.
use Rattle.std.specs.Prelude.{ℕ, max, List, [], ◌∷◌, length, Some, None, Option}
use Rattle.faults.specs.Refusals.{first}
use Rattle.offers.specs.declared.offer.Offer.{Offer}
use Rattle.offers.specs.Offers.{offers_below}
use Rattle.terms.specs.declared.terms.Terms.{Terms}
use Rattle.terms.specs.Choice.{Block}
use Rattle.planner.specs.declared.call.Call.{Call}
use Rattle.planner.specs.declared.call.Call.TheVariants.{Add, TakeBack, Ask}
use Rattle.planner.specs.Faults.{add_row, take_back_row}

abbrev pub without_newest : List Block → List Block
without_newest [] = []
without_newest (_ ∷ blocks) = blocks

-- the new blocks, or the old ones where the call is refused
abbrev pub unless : Option ℕ → List Block → List Block → List Block
unless None new old = new
unless (Some _) new old = old

module _ {S V : Type 0} (means : S → ℕ → Option Offer) (terms : Terms) (lent : ℕ) where
  -- the standing blocks after one call, newest first; a refused call and a question leave them
  abbrev pub after_call : Call S V → List Block → List Block
  after_call (Add source) blocks = unless (first (add_row terms lent (length blocks) (offers_below (means source) terms.grades))) (offers_below (means source) terms.grades ∷ blocks) blocks
  after_call TakeBack blocks = unless (first (take_back_row (length blocks))) (without_newest blocks) blocks
  after_call (Ask _) blocks = blocks

  abbrev pub after_calls : List (Call S V) → List Block → List Block
  after_calls [] blocks = blocks
  after_calls (call ∷ calls) blocks = after_calls calls (after_call call blocks)

  -- the most blocks that stand at any time
  abbrev pub most_standing : List (Call S V) → List Block → ℕ
  most_standing [] blocks = length blocks
  most_standing (call ∷ calls) blocks = max (length blocks) (most_standing calls (after_call call blocks))
