-- What each call of a run does to the standing blocks and to the places. Assumes nothing.
use Rattle.std.proofs.Common.{◌≡◌, ℕ, ◌+◌, ◌*◌, ◌≤◌, List, [], ◌∷◌, length, get_or, Some, None, Ok, Err, Option, Result, sym, refl, ap, ◌∙◌, subst, mul-le-mul_right, add-mul, one-mul, arith, MatchResult}
use native.Mathlib.Nat.{le-max_left, le-max_right}
use Rattle.faults.specs.Refusals.{first, refusal}
use Rattle.offers.specs.declared.offer.Offer.{Offer}
use Rattle.offers.specs.Offers.{offers_below}
use Rattle.costs.specs.Model.{Model}
use Rattle.terms.specs.declared.terms.Terms.{Terms}
use Rattle.terms.specs.Choice.{Block}
use Rattle.trellis.specs.declared.place.Place.{Place}
use Rattle.trellis.specs.Places.{unreached}
use Rattle.planner.specs.declared.tables.Tables.{Tables}
use Rattle.planner.specs.declared.fault.PlannerFault.{PlannerFault}
use Rattle.planner.specs.declared.call.Call.{Call}
use Rattle.planner.specs.declared.call.Call.TheVariants.{Add, TakeBack, Ask}
use Rattle.planner.specs.declared.call.Question.{Question}
use Rattle.planner.specs.Faults.{planner_number, add_row, take_back_row}
use Rattle.planner.specs.Layout.{size_of}
use Rattle.planner.specs.Standing.{standing_blocks, block_count, Sound, Added, Dropped, Unchanged}
use Rattle.planner.specs.Runs.{without_newest, unless, after_call, after_calls, most_standing}
use Rattle.planner.proofs.Stacks.{sound_less}
use Rattle.std.proofs.lemmas.List.{length-reverse}

pub standing_length : (tables : Tables) → length (standing_blocks tables) ≡ block_count tables
standing_length t = length-reverse t.blocks.items

module _ {S V : Type 0} (means : S → ℕ → Option Offer) (terms : Terms) (room : ℕ) where
  now_standing : (calls : List (Call S V)) (blocks : List Block) → length blocks ≤ most_standing means terms room calls blocks
  now_standing [] blocks = omega arith
  now_standing (call ∷ calls) blocks = le-max_left (length blocks) _

module _ {S V : Type 0} (m : Model V) (means : S → ℕ → Option Offer) (terms : Terms) (end : List Block) (most : ℕ) (start : List (Place V)) where
  -- the planner is sound, the calls that are left lead to `end`, and places that no block ever had are as at the start
  pub record State (calls : List (Call S V)) (tables : Tables) (places : List (Place V)) : Type 0 where
    pub terms_are : tables.terms ≡ terms
    pub long : length places ≡ length start
    pub sound : Sound m tables places
    pub ends : after_calls means terms (length start) calls (standing_blocks tables) ≡ end
    pub peak : most_standing means terms (length start) calls (standing_blocks tables) ≤ most
    pub others : (k : ℕ) → most * size_of terms ≤ k → get_or places k (unreached m) ≡ get_or start k (unreached m)

  -- one call more, by what it does to the standing blocks and to the places past them
  advance : (call : Call S V) (rest : List (Call S V)) (old new : Tables) (before after : List (Place V)) → new.terms ≡ old.terms → length after ≡ length before → (Sound m old before → Sound m new after)
      → after_call means old.terms (length before) call (standing_blocks old) ≡ standing_blocks new
      → ((k : ℕ) → length (standing_blocks new) * size_of old.terms ≤ k → get_or after k (unreached m) ≡ get_or before k (unreached m))
      → State (call ∷ rest) old before → State rest new after
  advance call rest old new before after same-terms same_long keeps step past st =
      let here : after_call means terms (length start) call (standing_blocks old) ≡ standing_blocks new = subst (λ n. after_call means terms n call (standing_blocks old) ≡ standing_blocks new) st.long (subst (λ t. after_call means t (length before) call (standing_blocks old) ≡ standing_blocks new) st.terms_are step) in
      let peak : most_standing means terms (length start) rest (standing_blocks new) ≤ most = subst (λ bs. most_standing means terms (length start) rest bs ≤ most) here (omega (arith, le-max_right (length (standing_blocks old)) (most_standing means terms (length start) rest (after_call means terms (length start) call (standing_blocks old))), st.peak)) in
      let stands = now_standing means terms (length start) rest (standing_blocks new) in
      let room : length (standing_blocks new) * size_of terms ≤ most * size_of terms = mul-le-mul_right {m = length (standing_blocks new)} {n = most} (size_of terms) (omega arith) in
      let size_is = ap (λ t. length (standing_blocks new) * size_of t) st.terms_are in
      record {
        terms_are = same-terms ∙ st.terms_are;
        long = same_long ∙ st.long;
        sound = keeps st.sound;
        ends = ap (after_calls means terms (length start) rest) (sym here) ∙ st.ends;
        peak = peak;
        others = λ k h. past k (omega (arith, size_is)) ∙ st.others k h;
      }

  pub add_turn : (source : S) (rest : List (Call S V)) (old new : Tables) (before after : List (Place V)) (r : Result (Unit {0}) PlannerFault)
      → refusal planner_number r ≡ first (add_row old.terms (length before) (block_count old) (offers_below (means source) old.terms.grades))
      → MatchResult r (λ _. Added m (offers_below (means source) old.terms.grades) old new before after) (λ _. Unchanged old new before after)
      → length after ≡ length before → State (Add source ∷ rest) old before → State rest new after
  add_turn source rest old new before after (Ok u) case added same_long st =
      let so = standing_blocks old in
      let offers = offers_below (means source) old.terms.grades in
      let test : first (add_row old.terms (length before) (length so) offers) ≡ None = ap (λ n. first (add_row old.terms (length before) n offers)) (standing_length old) ∙ sym case in
      let count : length (standing_blocks new) ≡ block_count old + 1 = ap length added.standing ∙ (let l = standing_length old in omega arith) in
      let more : length (standing_blocks new) * size_of old.terms ≡ block_count old * size_of old.terms + size_of old.terms = ap (λ n. n * size_of old.terms) count ∙ add-mul (block_count old) 1 (size_of old.terms) ∙ ap (λ x. block_count old * size_of old.terms + x) (one-mul (size_of old.terms)) in
      advance (Add source) rest old new before after added.terms same_long added.sound (ap (λ o. unless o (offers ∷ so) so) test ∙ sym added.standing) (λ k h. added.written.after k (omega arith)) st
  add_turn source rest old new before after (Err fault) case kept same_long st =
      let so = standing_blocks old in
      let offers = offers_below (means source) old.terms.grades in
      let test : first (add_row old.terms (length before) (length so) offers) ≡ Some (planner_number fault) = ap (λ n. first (add_row old.terms (length before) n offers)) (standing_length old) ∙ sym case in
      advance (Add source) rest old new before after (ap (λ t. t.terms) kept.tables) same_long
      (λ sound. subst (λ t. Sound m t after) (sym kept.tables) (subst (λ p. Sound m old p) (sym kept.places) sound))
      (ap (λ o. unless o (offers ∷ so) so) test ∙ sym (ap standing_blocks kept.tables))
      (λ k h. ap (λ p. get_or p k (unreached m)) kept.places) st

  pub back_turn : (rest : List (Call S V)) (old new : Tables) (before after : List (Place V)) (r : Result (Unit {0}) PlannerFault)
      → refusal planner_number r ≡ first (take_back_row (block_count old))
      → MatchResult r (λ _. Dropped old new) (λ _. new ≡ old)
      → after ≡ before → State (TakeBack ∷ rest) old before → State rest new after
  back_turn rest old new before after (Ok u) case dropped same st =
      let so = standing_blocks old in
      let test : first (take_back_row (length so)) ≡ None = ap (λ n. first (take_back_row n)) (standing_length old) ∙ sym case in
      advance TakeBack rest old new before after dropped.terms (ap length same)
      (λ sound. subst (λ p. Sound m new p) (sym same) (sound_less m old new dropped before sound))
      (ap (λ o. unless o (without_newest so) so) test ∙ ap without_newest dropped.standing)
      (λ k h. ap (λ p. get_or p k (unreached m)) same) st
  back_turn rest old new before after (Err fault) case kept same st =
      let so = standing_blocks old in
      let test : first (take_back_row (length so)) ≡ Some (planner_number fault) = ap (λ n. first (take_back_row n)) (standing_length old) ∙ sym case in
      advance TakeBack rest old new before after (ap (λ t. t.terms) kept) (ap length same)
      (λ sound. subst (λ t. Sound m t after) (sym kept) (subst (λ p. Sound m old p) (sym same) sound))
      (ap (λ o. unless o (without_newest so) so) test ∙ sym (ap standing_blocks kept))
      (λ k h. ap (λ p. get_or p k (unreached m)) same) st

  pub ask_turn : (question : Question V) (rest : List (Call S V)) (tables : Tables) (places : List (Place V)) → State (Ask question ∷ rest) tables places → State rest tables places
  ask_turn question rest tables places st = advance (Ask question) rest tables tables places places refl refl (λ sound. sound) refl (λ k h. refl) st

-- a planner that was just opened
pub opened : {S V : Type 0} (m : Model V) (means : S → ℕ → Option Offer) (tables : Tables) (places : List (Place V)) (calls : List (Call S V)) → standing_blocks tables ≡ [] → Sound m tables places
    → State m means tables.terms (after_calls means tables.terms (length places) calls []) (most_standing means tables.terms (length places) calls []) places calls tables places
opened m means tables places calls none sound = record {
  terms_are = refl;
  long = refl;
  sound = sound;
  ends = ap (after_calls means tables.terms (length places) calls) none;
  peak = subst (λ bs. most_standing means tables.terms (length places) calls bs ≤ most_standing means tables.terms (length places) calls []) (sym none) (omega arith);
  others = λ k h. refl;
}
