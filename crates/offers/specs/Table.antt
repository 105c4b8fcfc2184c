-- A rule of a table, shown at all of its entries by one test that the checker computes. Assumes nothing.
use Rattle.std.specs.Prelude.{◌≡◌, ℕ, zero, suc, ◌+◌, ◌<◌, Bool, true, ◌&&◌, List, [], ◌∷◌, length, slice_index}
use Rattle.std.proofs.Common.{◌∙◌, subst, sym, add-zero, zero-add, add-suc, suc-add, le_of_suc-le-suc, not-suc-le-zero}
use Rattle.std.proofs.lemmas.Bool.{and_parts}

-- the test passes at each entry of the list and its index, counted from i
abbrev pub every : (ℕ → ℕ → Bool) → ℕ → List ℕ → Bool
every test i [] = true
every test i (x ∷ xs) = test i x && every test (suc i) xs

from : (test : ℕ → ℕ → Bool) (xs : List ℕ) (i : ℕ) → every test i xs ≡ true → (k : ℕ) → k < length xs → test (i + k) (slice_index xs k) ≡ true
from test [] i passed k h = absurd (not-suc-le-zero h)
from test (x ∷ xs) i passed zero h = subst (λ (m : ℕ). test m x ≡ true) (sym (add-zero i)) (and_parts (test i x) (every test (suc i) xs) passed).0
from test (x ∷ xs) i passed (suc k) h =
    subst (λ (m : ℕ). test m (slice_index xs k) ≡ true) (suc-add i k ∙ sym (add-suc i k))
    (from test xs (suc i) (and_parts (test i x) (every test (suc i) xs) passed).1 k (le_of_suc-le-suc h))

pub at : (test : ℕ → ℕ → Bool) (xs : List ℕ) → every test 0 xs ≡ true → (k : ℕ) → k < length xs → test k (slice_index xs k) ≡ true
at test xs passed k h = subst (λ (m : ℕ). test m (slice_index xs k) ≡ true) (zero-add k) (from test xs 0 passed k h)
