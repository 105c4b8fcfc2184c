-- The stack of standing blocks. Assumes nothing.
use Rattle.std.proofs.Common.{◌≡◌, ℕ, zero, suc, ◌+◌, ◌-◌, ◌*◌, ◌<◌, ◌≤◌, List, [], ◌∷◌, ◌++◌, reverse, length, take, drop, refl, sym, ap, ◌∙◌, subst, ⊎_elim, add-one, suc-mul, arith, slice_index, slice_index_or}
use Rattle.std.proofs.lemmas.Bool.{cases_lt}
use Rattle.std.proofs.lemmas.List.{take_more, get_or-drop, take-append-le, take_all, length-append, length-reverse, length-take-le}
use mathlib.Core.List.{reverse-append, reverse-reverse}
use Rattle.costs.specs.Model.{Model}
use Rattle.terms.specs.declared.terms.Terms.{Terms}
use Rattle.terms.specs.Choice.{Block}
use Rattle.trellis.specs.declared.place.Place.{Place}
use Rattle.trellis.specs.Places.{unreached}
use Rattle.planner.specs.Layout.{Outside, Column, Columns, size_of}
use Rattle.planner.specs.Standing.{Sound, Dropped}
use Rattle.planner.specs.declared.tables.Tables.{Tables}
use Rattle.planner.proofs.Rows.{row_below, column_same}

-- a list up to one place more, newest first
pub newest_first : {X : Type 0} (xs : List X) (n : ℕ) (d : X) → n < length xs → reverse (take (n + 1) xs) ≡ slice_index_or xs n d ∷ reverse (take n xs)
newest_first xs n d h = ap reverse (take_more xs n d h) ∙ reverse-append (take n xs) (slice_index_or xs n d ∷ [])

-- the places of the first blocks of a stack, as `Sound` says it
abbrev pub Stacked : {V : Type 0} → Model V → Terms → List Block → List (Place V) → Type 0
Stacked m terms xs places = (n : ℕ) → n < length xs → Column m terms (reverse (take (n + 1) xs)) (drop (n * size_of terms) places)

-- one block more
pub stacked : {V : Type 0} (m : Model V) (terms : Terms) (xs : List Block) (block : Block) (old new : List (Place V)) (base : ℕ) → base ≡ length xs * size_of terms → Outside m base (size_of terms) old new → Stacked m terms xs old → Column m terms (block ∷ reverse xs) (drop base new) → Stacked m terms (xs ++ block ∷ []) new
stacked m terms xs block old new base base_is outside stack newest n h = ⊎_elim
    (λ (less : n < length xs).
    let same : reverse (take (n + 1) (xs ++ block ∷ [])) ≡ reverse (take (n + 1) xs) = ap reverse (take-append-le (n + 1) xs (block ∷ []) (omega arith)) in
    let below = row_below n (length xs) (size_of terms) less in
    subst (λ bs. Column m terms bs (drop (n * size_of terms) new)) (sym same)
    (column_same m terms (reverse (take (n + 1) xs)) (drop (n * size_of terms) old) (drop (n * size_of terms) new) (λ k lt. get_or-drop (n * size_of terms) new k (unreached m) ∙ outside.before (n * size_of terms + k) (omega (arith, base_is)) ∙ sym (get_or-drop (n * size_of terms) old k (unreached m))) (stack n less)))
    (λ (last : length xs ≤ n).
    let long : length (xs ++ block ∷ []) ≡ length xs + 1 = length-append xs (block ∷ []) in
    let n_is : n ≡ length xs = omega (arith, h, long) in
    let all : reverse (take (n + 1) (xs ++ block ∷ [])) ≡ block ∷ reverse xs = ap reverse (take_all (n + 1) (xs ++ block ∷ []) (omega (arith, long))) ∙ reverse-append xs (block ∷ []) in
    let at : n * size_of terms ≡ base = ap (λ k. k * size_of terms) n_is ∙ sym base_is in
    subst (λ bs. Column m terms bs (drop (n * size_of terms) new)) (sym all) (subst (λ k. Column m terms (block ∷ reverse xs) (drop k new)) (sym at) newest))
    (cases_lt n (length xs))

-- the column of a new block, from what writing it ensures
pub newest_column : {V : Type 0} (m : Model V) (terms : Terms) (xs : List Block) (block : Block) (old new : List (Place V)) (base : ℕ) → base ≡ length xs * size_of terms → Stacked m terms xs old → (base ≡ 0 → Column m terms (block ∷ []) (drop base new))
    → ((blocks : List Block) → 0 < length blocks → size_of terms ≤ base → Column m terms blocks (drop (base - size_of terms) old) → Column m terms (block ∷ blocks) (drop base new)) → Column m terms (block ∷ reverse xs) (drop base new)
newest_column m terms [] block old new base base_is stack first above = first (omega (arith, base_is))
newest_column m terms (x ∷ xs) block old new base base_is stack first above =
    let size = size_of terms in
    let split : base ≡ length xs * size + size = base_is ∙ suc-mul (length xs) size in
    let at : length xs * size ≡ base - size = omega (arith, split) in
    let long : length (reverse (x ∷ xs)) ≡ length xs + 1 = length-reverse (x ∷ xs) ∙ sym (add-one (length xs)) in
    let all : reverse (take (length xs + 1) (x ∷ xs)) ≡ reverse (x ∷ xs) = ap reverse (take_all (length xs + 1) (x ∷ xs) (omega arith)) in
    above (reverse (x ∷ xs)) (omega (arith, long)) (omega (arith, split)) (subst (λ k. Column m terms (reverse (x ∷ xs)) (drop k old)) at (subst (λ bs. Column m terms bs (drop (length xs * size) old)) all (stack (length xs) (omega arith))))

-- one block less
pub stacked_less : {V : Type 0} (m : Model V) (terms : Terms) (xs : List Block) (block : Block) (places : List (Place V)) → Stacked m terms (xs ++ block ∷ []) places → Stacked m terms xs places
stacked_less m terms xs block places stack n h = subst (λ bs. Column m terms bs (drop (n * size_of terms) places)) (ap reverse (take-append-le (n + 1) xs (block ∷ []) (omega (arith, h)))) (stack n (omega (arith, h, length-append xs (block ∷ []))))

-- the same, where the newest block was taken back
pub sound_less : {V : Type 0} (m : Model V) (old new : Tables) (dropped : Dropped old new) (places : List (Place V)) → Sound m old places → Sound m new places
sound_less m old new dropped places sound =
    let xs = new.blocks.items in
    let all : old.blocks.items ≡ xs ++ dropped.block ∷ [] = sym (reverse-reverse old.blocks.items) ∙ ap reverse dropped.standing ∙ reverse-append (dropped.block ∷ []) (reverse xs) ∙ ap (λ ys. ys ++ dropped.block ∷ []) (reverse-reverse xs) in
    stacked_less m new.terms xs dropped.block places (subst (λ ys. Stacked m new.terms ys places) all (subst (λ t. Stacked m t old.blocks.items places) (sym dropped.terms) sound))

-- the blocks of a stack, one by one
pub columns_of : {V : Type 0} (m : Model V) (terms : Terms) (xs : List Block) (places : List (Place V)) → Stacked m terms xs places → (n : ℕ) → n ≤ length xs → Columns m terms (reverse (take n xs)) places
columns_of m terms xs places stack zero h = tt
columns_of m terms xs places stack (suc n) h =
    let lt : n < length xs = omega (arith, h) in
    let bs = reverse (take n xs) in
    let top : reverse (take (n + 1) xs) ≡ slice_index_or xs n [] ∷ bs = newest_first xs n [] lt in
    let long : length bs ≡ n = length-reverse (take n xs) ∙ length-take-le n xs (omega (arith, h)) in
    let here : Column m terms (slice_index_or xs n [] ∷ bs) (drop (length bs * size_of terms) places) = subst (λ k. Column m terms (slice_index_or xs n [] ∷ bs) (drop (k * size_of terms) places)) (sym long) (subst (λ cs. Column m terms cs (drop (n * size_of terms) places)) top (stack n lt)) in
    subst (λ k. Columns m terms (reverse (take k xs)) places) (add-one n) (subst (λ cs. Columns m terms cs places) (sym top) (here, columns_of m terms xs places stack n (omega (arith, h))))

-- what the list says of the newest of the first entries
pub head_on : (xs : List ℕ) (n x : ℕ) → n < length xs → slice_index xs n ≡ x → reverse (take (n + 1) xs) ≡ x ∷ reverse (take n xs)
head_on xs n x lt e = newest_first xs n 0 lt ∙ ap (λ y. y ∷ reverse (take n xs)) e

pub no_blocks : {X : Type 0} (xs : List X) → length xs ≡ 0 → reverse xs ≡ []
no_blocks [] e = refl
no_blocks (x ∷ xs) e = absurd (omega (arith, e))
