-- Rows of charges, and what a write to one leaves. Assumes nothing.
use Rattle.std.proofs.Common.{◌≡◌, ℕ, ◌<◌, cond, ◌&&◌, eqb, ltb, List, [], length, get_or, set, replicate, arith}
use Rattle.std.proofs.lemmas.Bool.Decides.{nat_tests}
use Rattle.std.proofs.lemmas.Grind.{common_steps}

-- where every entry is 0, there is no charge
pub free : (n a b : ℕ) → ◌≡◌ {A = ℕ} (cond (ltb a n && ltb b n) (get_or (get_or (replicate n (replicate n 0)) a []) b 0) 0) 0
free n a b = grind (arith, common_steps)

-- within a row that is cleared where the grade stays, every other entry is the charge
pub flat_row : (n v a b : ℕ) → a < n → b < n → get_or (set (replicate n v) a 0) b 0 ≡ cond (eqb a b) 0 v
flat_row n v a b ha hb = grind (arith, common_steps)

-- one entry of one row changes
pub put_at : (rows : List (List ℕ)) (i j v : ℕ) → i < length rows → j < length (get_or rows i []) → (a b : ℕ) → get_or (get_or (set rows i (set (get_or rows i []) j v)) a []) b 0 ≡ cond (eqb a i && eqb b j) v (get_or (get_or rows a []) b 0)
put_at rows i j v hi hj a b = grind (arith, common_steps)

-- the same of the charges within so many grades
pub put_charge : (n : ℕ) (rows : List (List ℕ)) (i j u v : ℕ) → i < n → j < n → i < length rows → j < length (get_or rows i []) → u ≡ v → (a b : ℕ) → cond (ltb a n && ltb b n) (get_or (get_or (set rows i (set (get_or rows i []) j u)) a []) b 0) 0 ≡ cond (eqb a i && eqb b j) v (cond (ltb a n && ltb b n) (get_or (get_or rows a []) b 0) 0)
put_charge n rows i j u v ni nj hi hj e a b = let put = put_at rows i j u hi hj a b in grind (arith, nat_tests)
