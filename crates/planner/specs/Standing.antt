-- The standing blocks of a planner, and what the places hold of them. Assumes nothing.
use Rattle.std.specs.Prelude.{◌≡◌, ℕ, ◌+◌, ◌*◌, ◌<◌, List, ◌∷◌, reverse, length, take, drop}
use Rattle.costs.specs.Model.{Model}
use Rattle.terms.specs.Choice.{Block}
use Rattle.trellis.specs.declared.place.Place.{Place}
use Rattle.planner.specs.declared.tables.Tables.{Tables}
use Rattle.planner.specs.Layout.{size_of, Outside, Column}

-- newest first
abbrev pub standing_blocks : Tables → List Block
standing_blocks tables = reverse tables.blocks.items

-- how many blocks stand
abbrev pub block_count : Tables → ℕ
block_count tables = length tables.blocks.items

-- the blocks up to block n, which is counted from 0; newest first
abbrev pub blocks_to : Tables → ℕ → List Block
blocks_to tables n = reverse (take (n + 1) tables.blocks.items)

-- the places of every standing block hold what they should
abbrev pub Sound : {V : Type 0} → Model V → Tables → List (Place V) → Type 0
Sound m tables places = (n : ℕ) → n < block_count tables → Column m tables.terms (blocks_to tables n) (drop (n * size_of tables.terms) places)

-- a block of these offers was added: it is the newest to stand, only its own places were written, and the places hold what they
-- should if they did before
pub record Added {V : Type 0} (m : Model V) (offers : Block) (old new : Tables) (before after : List (Place V)) : Type 0 where
  pub terms : new.terms ≡ old.terms
  pub standing : standing_blocks new ≡ offers ∷ standing_blocks old
  pub written : Outside m (block_count old * size_of old.terms) (size_of old.terms) before after
  pub sound : Sound m old before → Sound m new after

-- the newest block was taken back
pub record Dropped (old new : Tables) : Type 0 where
  pub terms : new.terms ≡ old.terms
  pub block : Block
  pub standing : standing_blocks old ≡ block ∷ standing_blocks new

-- a refused call left all as it was
pub record Unchanged {V : Type 0} (old new : Tables) (before after : List (Place V)) : Type 0 where
  pub tables : new ≡ old
  pub places : after ≡ before
