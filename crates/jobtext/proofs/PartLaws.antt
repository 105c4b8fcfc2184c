-- The laws of `parts`. Assumes nothing.
use Rattle.std.proofs.Common.{◌≡◌, ℕ, zero, suc, ◌+◌, ◌<◌, ◌≤◌, Bool, true, false, cond, eqb, List, [], ◌∷◌, ◌++◌, length, get_or, take, drop, Some, None, sym, refl, ap, ◌∙◌, arith, ne_eqb, eq-eqb, eqb-true}
use borrow.Author.Tests.{eqb-false}
use Rattle.std.proofs.lemmas.Grind.{common_steps}
use Rattle.std.proofs.lemmas.List.{take-append-drop, drop_more}
use Rattle.std.proofs.lemmas.List.Quantifiers.{position-Some}
use Rattle.std.proofs.lemmas.List.Sums.{fails_before_first}
use Rattle.std.proofs.lemmas.Option.{slice_get_cases, slice_get_within, get_or_from_slice_get}
use Rattle.std.proofs.lemmas.List.Splits.{length-slice_split, slice_split_none, slice_split_at, join_with_byte-slice_split}
use Rattle.std.specs.Borrow.{Bor}
use Rattle.std.specs.Prelude.{Option, MatchOption, option_map}
use Rattle.std.specs.List.{All, slice_get, position, position_or_len, join_with_byte, onto_first, AllByRecursion}
use Rattle.std.specs.Str.Iter.{LacksByte}
use Rattle.jobtext.specs.Parts.{parts, PartsOnly}

pub parts_few : (c : ℕ) (bs : List ℕ) → length (parts c bs) ≤ length bs + 1
parts_few c bs = grind (arith, common_steps, length-slice_split (λ b. eqb b c) bs)

-- what `nth` gives is the part at that index
pub part_at : (ps : List (List ℕ)) (n : ℕ) (part : Option (Bor (List ℕ))) → option_map (λ x. x.now) part ≡ slice_get ps n → MatchOption part (length ps ≤ n) (λ x. (n < length ps) × (x.now ≡ get_or ps n []))
part_at ps n None e = let past = slice_get_cases ps n in grind (arith, common_steps)
part_at ps n (Some x) e = (slice_get_within ps n x.now (sym e), sym (get_or_from_slice_get ps n x.now [] (sym e)))

module _ (c : ℕ) where
  lacks : (bs : List ℕ) → LacksByte c bs → All (λ b. eqb b c ≡ false) bs
  lacks bs h k d lt = ne_eqb (get_or bs k d) c (let no = h k lt in grind (arith, common_steps))

  -- no c, no cut
  pub parts_none : (bs : List ℕ) → LacksByte c bs → parts c bs ≡ bs ∷ []
  parts_none bs h = slice_split_none (λ b. eqb b c) bs (lacks bs h)

  -- the first c ends the first part
  pub parts_first : (p q : List ℕ) → LacksByte c p → parts c (p ++ c ∷ q) ≡ p ∷ parts c q
  parts_first p q h = slice_split_at (λ b. eqb b c) p c q (lacks p h) (eq-eqb c c refl)

  -- where `position` finds a c, the first part ends
  pub cut_at : (s : List ℕ) (i : ℕ) → position (λ b. eqb b c) s ≡ Some i → (s ≡ take i s ++ c ∷ drop (i + 1) s) × (parts c s ≡ take i s ∷ parts c (drop (i + 1) s))
  cut_at s i e =
      let at = position-Some (λ b. eqb b c) s i 0 e in
      let here : get_or s i 0 ≡ c = eqb-true _ c at.1 in
      let whole : s ≡ take i s ++ c ∷ drop (i + 1) s = rw (← here) (sym (take-append-drop i s) ∙ ap (λ l. take i s ++ l) (drop_more s i 0 at.0)) in
      (whole, ap (parts c) whole ∙ slice_split_at (λ b. eqb b c) (take i s) c (drop (i + 1) s) (λ k d lt. let no = at.2 k in grind (arith, common_steps)) (eq-eqb c c refl))

  -- and where it finds none there is one part
  pub cut_none : (s : List ℕ) → position (λ b. eqb b c) s ≡ None → parts c s ≡ s ∷ []
  cut_none s e =
      let all : length s ≤ position_or_len (λ b. eqb b c) s = grind (arith, common_steps) in
      slice_split_none (λ b. eqb b c) s (λ k d lt. fails_before_first (λ b. eqb b c) s k d (omega arith))

  -- `parts` are parts
  no_bytes : LacksByte c []
  no_bytes k lt e = omega arith

  clear_cons : (b : ℕ) (p : List ℕ) → (b ≡ c → ⊥) → LacksByte c p → LacksByte c (b ∷ p)
  clear_cons b p ne h zero lt = ne
  clear_cons b p ne h (suc k) lt = h k (omega arith)

  clear_onto : (b : ℕ) (ps : List (List ℕ)) → (b ≡ c → ⊥) → AllByRecursion (LacksByte c) ps → AllByRecursion (LacksByte c) (onto_first b ps)
  clear_onto b [] ne h = (clear_cons b [] ne no_bytes, tt)
  clear_onto b (p ∷ ps) ne h = (clear_cons b p ne h.0, h.1)

  clear_parts : (bs : List ℕ) → AllByRecursion (LacksByte c) (parts c bs)
  clear_parts [] = (no_bytes, tt)
  clear_parts (b ∷ bs) =
      let h = clear_parts bs in
      let P : Bool → Type 0 = λ t. eqb b c ≡ t → AllByRecursion (LacksByte c) (cond t ([] ∷ parts c bs) (onto_first b (parts c bs))) in
      elim (eqb b c) as P [ true ↦ λ e. (no_bytes, h) | false ↦ λ e. clear_onto b (parts c bs) (eqb-false b c e) h ] refl

  only_parts : (bs : List ℕ) (ps : List (List ℕ)) → 0 < length ps → join_with_byte c ps ≡ bs → AllByRecursion (LacksByte c) ps → ps ≡ parts c bs
  only_parts bs [] h e l = absurd (omega arith)
  only_parts bs (p ∷ []) h e l = sym (ap (parts c) (sym e) ∙ parts_none p l.0)
  only_parts bs (p ∷ q ∷ ps) h e l =
      sym (ap (parts c) (sym e) ∙ parts_first p (join_with_byte c (q ∷ ps)) l.0 ∙ ap (λ x. p ∷ x) (sym (only_parts (join_with_byte c (q ∷ ps)) (q ∷ ps) (omega arith) refl l.1)))

pub parts_only : PartsOnly
parts_only c bs = (
  record { some = omega (arith, length-slice_split (λ b. eqb b c) bs); whole = join_with_byte-slice_split c bs; clear = clear_parts c bs },
  λ ps h. only_parts c bs ps h.some h.whole h.clear,
)
