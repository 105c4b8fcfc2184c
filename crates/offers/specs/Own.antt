-- What an own block means, and what one call changes of it. Assumes nothing.
use Rattle.std.specs.Prelude.{◌≡◌, ℕ, None, Option, if◌then◌else◌, ◌==◌, nat_lt, slice_index_or}
use Rattle.offers.specs.declared.offer.Offer.{Offer}
use Rattle.offers.specs.declared.own.OwnBlock.{OwnBlock}

abbrev pub own_means : OwnBlock → ℕ → Option Offer
own_means block grade = if nat_lt grade 16 then slice_index_or block.offers grade None else None

-- the one grade has the new offer or none, and every other grade keeps what it had
abbrev pub OnlyAt : OwnBlock → OwnBlock → ℕ → Option Offer → Type 0
OnlyAt before after grade new = (k : ℕ) → own_means after k ≡ (if k == grade then new else own_means before k)
