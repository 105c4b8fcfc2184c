-- One pair of fields after another. Assumes nothing.
use Rattle.std.proofs.Common.{◌≡◌, ℕ, zero, suc, ◌+◌, ◌-◌, ◌*◌, ◌<◌, cond, eqb, List, [], ◌∷◌, ◌++◌, length, get_or, Some, None, Option, sym, refl, ap, ◌∙◌, subst, inl, inr, ⊎_elim, arith, length-append}
use native.Mathlib.Nat.{sub-zero}
use Rattle.std.specs.List.{AllByRecursion}
use Rattle.std.proofs.lemmas.Bool.Decides.{nat_tests}
use Rattle.std.proofs.lemmas.Grind.{common_steps}
use Rattle.std.proofs.lemmas.List.{get_or_past}
use Rattle.faults.specs.Refusals.{first}
use Rattle.faults.specs.declared.layer.Layer.{Layer}
use Rattle.offers.specs.Faults.{rate_row, distortion_row}
use Rattle.offers.specs.Offers.{offer_of}
use Rattle.offers.specs.Own.{own_means, OnlyAt}
use Rattle.offers.specs.declared.offer.Offer.{Offer}
use Rattle.offers.specs.declared.own.OwnBlock.{OwnBlock}
use Rattle.command.specs.Demands.{NumberIn, Meets, NoDistortion, FirstFails, pairs, a_rate, a_distortion}
use Rattle.command.specs.Instructions.{rate_field, distortion_field, pair_fields, GoodOffer}
use Rattle.command.specs.Pairs.{PairRead, OwnRead, StandAt}
use Rattle.command.proofs.DashLaws.{not_dash}

-- the offer of two numbers in range
offer_made : (rate distortion : ℕ) → first (rate_row rate) ≡ None → first (distortion_row distortion) ≡ None → offer_of rate distortion ≡ Some (record { rate = rate; distortion = distortion })
offer_made rate distortion r d = grind (arith, nat_tests)

module _ (fields : List (List ℕ)) (k rate : ℕ) (number : NumberIn rate_row (get_or fields k []) rate) where
  pub pair_set : (distortion : ℕ) (before after : OwnBlock) (grade : ℕ) → NumberIn distortion_row (get_or fields (k + 1) []) distortion → OnlyAt before after grade (offer_of rate distortion) → PairRead fields k before after grade
  pair_set distortion before after grade second only = record {
    offer = Some (record { rate = rate; distortion = distortion });
    rate_is = number.0.1;
    distortion_is = second.0.1;
    good = ((number.0.0, number.1), (second.0.0, second.1));
    only = λ at. only at ∙ ap (λ new. cond (eqb at grade) new (own_means before at)) (offer_made rate distortion number.1 second.1);
  }

  pub second_fails : (field : ℕ) (layer : Layer) (fault : ℕ) → field ≡ k + 2 → NoDistortion (get_or fields (k + 1) []) layer fault → FirstFails (pairs 1) [] fields k field layer fault
  second_fails field layer fault e none = inr (inr (rate, number), inl (omega arith, inr (not_dash (get_or fields k []) rate number.0, none)))

-- one more element
snoc : {A : Type 0} (xs : List A) (x d : A) (k : ℕ) → cond (eqb k (length xs)) x (get_or xs k d) ≡ get_or (xs ++ x ∷ []) k d
snoc xs x d k = grind (arith, common_steps)

every_more : {A : Type 0} (P : A → Type 0) (xs : List A) (x : A) → AllByRecursion P xs → P x → AllByRecursion P (xs ++ x ∷ [])
every_more P [] x h p = (p, tt)
every_more P (y ∷ xs) x h p = (h.0, every_more P xs x h.1 p)

stand_more : (fields : List (List ℕ)) (k j : ℕ) (offers : List (Option Offer)) (offer : Option Offer) → StandAt fields k (pair_fields offers) → j ≡ k + 2 * length offers → get_or fields j [] ≡ rate_field offer → get_or fields (j + 1) [] ≡ distortion_field offer → StandAt fields k (pair_fields (offers ++ offer ∷ []))
stand_more fields k j [] offer h e r d = let here : j ≡ k = omega arith in (subst (λ i. get_or fields i [] ≡ rate_field offer) here r, (subst (λ i. get_or fields (i + 1) [] ≡ distortion_field offer) here d, tt))
stand_more fields k j (o ∷ offers) offer h e r d = (h.0, (h.1.0, stand_more fields (k + 1 + 1) j offers offer h.1.1 (omega arith) r d))

-- the pairs do not depend on the field before them
before_any : (n : ℕ) (a b : List ℕ) (fields : List (List ℕ)) (k field : ℕ) (layer : Layer) (fault : ℕ) → FirstFails (pairs n) a fields k field layer fault → FirstFails (pairs n) b fields k field layer fault
before_any zero a b fields k field layer fault h = h
before_any (suc n) a b fields k field layer fault h = h

-- a failure in the first pair, however many follow
first_pair : (m : ℕ) (fields : List (List ℕ)) (k field : ℕ) (layer : Layer) (fault : ℕ) → FirstFails (pairs 1) [] fields k field layer fault → FirstFails (pairs (suc m)) [] fields k field layer fault
first_pair m fields k field layer fault (inl h) = inl h
first_pair m fields k field layer fault (inr h) = inr (h.0, ⊎_elim (λ x. inl x) (λ x. absurd x.1) h.1)

pub offer_meets : (fields : List (List ℕ)) (k : ℕ) (offer : Option Offer) → GoodOffer offer → get_or fields k [] ≡ rate_field offer → get_or fields (k + 1) [] ≡ distortion_field offer → Meets a_rate [] (get_or fields k []) × Meets a_distortion (get_or fields k []) (get_or fields (k + 1) [])
offer_meets fields k None good r d = (inl r, inl (r, d))
offer_meets fields k (Some offer) good r d =
    (inr (offer.rate, ((good.0.0, r), good.0.1)), inr (not_dash (get_or fields k []) offer.rate (good.0.0, r), (offer.distortion, ((good.1.0, d), good.1.1))))

-- so many of the pairs were read, and a failure among the others is the first of all
pub record Sofar (fields : List (List ℕ)) (grades g : ℕ) (block : OwnBlock) : Type 0 where
  pub done : OwnRead fields g block
  pub rest : (before : List ℕ) (field : ℕ) (layer : Layer) (fault : ℕ) → FirstFails (pairs (grades - g)) before fields (3 + 2 * g) field layer fault → FirstFails (pairs grades) (get_or fields 2 []) fields 3 field layer fault

pub sofar_none : (fields : List (List ℕ)) (grades : ℕ) (block : OwnBlock) → ((grade : ℕ) → own_means block grade ≡ None) → Sofar fields grades 0 block
sofar_none fields grades block none = record {
  done = record { offers = []; long = refl; written = tt; good = tt; means = none };
  rest = λ before field layer fault h. before_any grades before (get_or fields 2 []) fields 3 field layer fault (subst (λ n. FirstFails (pairs n) before fields 3 field layer fault) (sub-zero grades) h);
}

module _ (fields : List (List ℕ)) (grades g : ℕ) (block : OwnBlock) (h : Sofar fields grades g block) where
  -- the next grade has no offer yet
  pub sofar_free : own_means block g ≡ None
  sofar_free = h.done.means g ∙ get_or_past h.done.offers g None (omega (arith, h.done.long))

  module _ (lt : g < grades) where
    next : (field : ℕ) (layer : Layer) (fault : ℕ) → FirstFails (pairs (suc (grades - (g + 1)))) [] fields (3 + 2 * g) field layer fault → FirstFails (pairs grades) (get_or fields 2 []) fields 3 field layer fault
    next field layer fault f = h.rest [] field layer fault (let e : suc (grades - (g + 1)) ≡ grades - g = omega arith in subst (λ n. FirstFails (pairs n) [] fields (3 + 2 * g) field layer fault) e f)

    pub sofar_fails : (field : ℕ) (layer : Layer) (fault : ℕ) → FirstFails (pairs 1) [] fields (3 + 2 * g) field layer fault → FirstFails (pairs grades) (get_or fields 2 []) fields 3 field layer fault
    sofar_fails field layer fault f = next field layer fault (first_pair (grades - (g + 1)) fields (3 + 2 * g) field layer fault f)

    pub sofar_more : (after : OwnBlock) → PairRead fields (3 + 2 * g) block after g → Sofar fields grades (g + 1) after
    sofar_more after pair =
        let offers = h.done.offers in
        let long : length offers ≡ g = h.done.long in
        let meets = offer_meets fields (3 + 2 * g) pair.offer pair.good pair.rate_is pair.distortion_is in
        record {
          done = record {
            offers = offers ++ pair.offer ∷ [];
            long = length-append offers (pair.offer ∷ []) ∙ ap (λ n. n + 1) long;
            written = stand_more fields 3 (3 + 2 * g) offers pair.offer h.done.written (omega arith) pair.rate_is pair.distortion_is;
            good = every_more GoodOffer offers pair.offer h.done.good pair.good;
            means = λ grade.
                pair.only grade ∙ ap (cond (eqb grade g) pair.offer) (h.done.means grade) ∙ ap (λ n. cond (eqb grade n) pair.offer (get_or offers grade None)) (sym long) ∙ snoc offers pair.offer None grade;
          };
          rest = λ before field layer fault f.
              next field layer fault
              (
              inr (
                meets.0,
                inr (
                  meets.1,
                  before_any (grades - (g + 1)) before (get_or fields (3 + 2 * g + 1) []) fields (3 + 2 * g + 1 + 1) field layer fault (let e : 3 + 2 * (g + 1) ≡ 3 + 2 * g + 1 + 1 = omega arith in subst (λ k. FirstFails (pairs (grades - (g + 1))) before fields k field layer fault) e f),
                ),
              )
              );
        }

pub length_pairs : (offers : List (Option Offer)) → length (pair_fields offers) ≡ 2 * length offers
length_pairs [] = refl
length_pairs (offer ∷ offers) = omega (arith, length_pairs offers)
