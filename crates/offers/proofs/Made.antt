-- An array that `from_fn` makes of calls that leave the closure as it was. Assumes nothing.
use Rattle.std.proofs.Common.{◌≡◌, ℕ, zero, suc, ◌+◌, ◌<◌, ◌≤◌, List, map, get_or, subst, ◌∙◌, ⊎_elim, arith}
use Rattle.std.specs.Array.{IsFromFnResult, IsFromFnResultFrom}
use Rattle.std.specs.Fn.{Called}
use Rattle.std.specs.List.{range_with_len}
use Rattle.std.proofs.lemmas.Bool.{cases_lt}
use Rattle.std.proofs.lemmas.List.FromFn.{fill_by_all}
use denote.Param.Members.{Mut}

module _ {F B : Type 0} (g : Mut F (ℕ × Unit {0}) B) (f : F) (ys : List B) (v : ℕ → B) (d : B) where
  each : (m : ℕ) → ((i : ℕ) (y : B) (left : F) → i < m → Called g f (i, tt) y left → (y ≡ v i) × (left ≡ f)) → (n i : ℕ) → i + n ≡ m → IsFromFnResultFrom g f ys i n → (k : ℕ) → i ≤ k → k < m → get_or ys k d ≡ v k
  each m answers zero i whole made k from below = absurd (omega arith)
  each m answers (suc n) i whole made k from below =
      let here = answers i made.1 made.0 (omega arith) made.3 in
      ⊎_elim
      (λ (later : i < k). each m answers n (i + 1) (omega arith) (subst (λ q. IsFromFnResultFrom g q ys (i + 1) n) here.1 made.4) k (omega arith) below)
      (λ (now : k ≤ i). let same : i ≡ k = omega arith in subst (λ j. get_or ys j d ≡ v j) same (made.2.1 d ∙ here.0))
      (cases_lt i k)

  pub made_by : {n : ℕ} → IsFromFnResult g f ys n → ((i : ℕ) (y : B) (left : F) → i < n → Called g f (i, tt) y left → (y ≡ v i) × (left ≡ f)) → ys ≡ map v (range_with_len 0 n)
  made_by {n} made answers = fill_by_all v ys n d made.long (λ k small. each n answers n 0 (omega arith) made.each k (omega arith) small)
