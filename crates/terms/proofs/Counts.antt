-- What follows of choices: they count once, and they are counted block by block. Assumes nothing.
use mathlib.Core.List.{reverse_aux}
use Rattle.std.proofs.Common.{◌≡◌, ℕ, suc, ◌+◌, ◌<◌, ◌≤◌, List, [], ◌∷◌, reverse, length, get_or, take, Some, None, Option, refl, ap, ◌∙◌, arith}
use Rattle.std.proofs.lemmas.Bool.Decides.{nat_tests}
use Rattle.std.proofs.lemmas.List.{take_more, reverse-append}
use Rattle.std.proofs.lemmas.Option.{some_pair_parts}
use Rattle.offers.specs.declared.offer.Offer.{Offer}
use Rattle.costs.specs.Model.{Model}
use Rattle.terms.specs.Rules.{Rules, charge_into}
use Rattle.terms.specs.Choice.{Block, offer_at, offered, newest, Choice, CountsOnce, Counted}
use Rattle.terms.specs.Choice.Choice.{empty, next}

-- a count of blocks and grades of which some are left: those before them are a choice
pub record Counting {V : Type 0} (m : Model V) (rules : Rules) (blocks : List Block) (grades : List ℕ) (left : List Block) (rest : List ℕ) (last : Option ℕ) (bits : ℕ) (cost : V) : Type 0 where
  pub long : length left ≡ length rest
  pub done : List Block
  pub taken : List ℕ
  pub blocks_are : reverse blocks ≡ reverse_aux left done
  pub grades_are : reverse grades ≡ reverse_aux rest taken
  pub last_is : last ≡ newest taken
  pub choice : Choice m rules done taken bits cost

module _ {V : Type 0} {m : Model V} {rules : Rules} where
  once : {blocks : List Block} {grades : List ℕ} {b c : ℕ} {v w : V} → Choice m rules blocks grades b v → Choice m rules blocks grades c w → (b ≡ c) × (v ≡ w)
  once empty empty = (refl, refl)
  once (next p _ o) (next q _ r) = let same = once p q in let first = same.0 in let second = same.1 in (cc, cc)

  pub same_long : {blocks : List Block} {grades : List ℕ} {b : ℕ} {v : V} → Choice m rules blocks grades b v → length blocks ≡ length grades
  same_long empty = refl
  same_long (next p _ _) = ap suc (same_long p)

  -- a choice without its newest block
  without : {blocks : List Block} {grades : List ℕ} {block : Block} {grade b : ℕ} {v : V} → Choice m rules (block ∷ blocks) (grade ∷ grades) b v → (c : ℕ) × ((w : V) × Choice m rules blocks grades c w)
  without (next p _ _) = (_, (_, p))

  -- a choice without so many of its newest blocks
  before : {b : ℕ} {v : V} (blocks done : List Block) (grades taken : List ℕ) → length blocks ≡ length grades → Choice m rules (reverse_aux blocks done) (reverse_aux grades taken) b v → (c : ℕ) × ((w : V) × Choice m rules done taken c w)
  before [] done [] taken long choice = (_, (_, choice))
  before (block ∷ blocks) done (grade ∷ grades) taken long choice = without (before blocks (block ∷ done) grades (grade ∷ taken) (omega arith) choice).1.1
  before [] done (_ ∷ _) taken long choice = absurd (omega arith)
  before (_ ∷ _) done [] taken long choice = absurd (omega arith)

  -- the newest block of a choice offers its grade
  newest_offered : {blocks : List Block} {grades : List ℕ} {block : Block} {grade b : ℕ} {v : V} → Choice m rules (block ∷ blocks) (grade ∷ grades) b v → offered rules block grade ≡ None → ⊥
  newest_offered (next _ below o) none = grind (arith, nat_tests)

  -- no block is counted yet
  pub begun : {blocks left : List Block} {grades rest : List ℕ} {cost : V} → length blocks ≡ length grades → left ≡ blocks → rest ≡ grades → cost ≡ m.start → Counting m rules blocks grades left rest None 0 cost
  begun long e f start = rw (e, f, start) record { long = long; done = []; taken = []; blocks_are = refl; grades_are = refl; last_is = refl; choice = empty }

  -- the next block is counted
  pub more : {blocks left blocks_left : List Block} {grades rest grades_left : List ℕ} {last : Option ℕ} {bits b : ℕ} {cost v : V} {block : Block} {grade : ℕ} {offer : Offer} → Counting m rules blocks grades left rest last bits cost → left ≡ block ∷ blocks_left → rest ≡ grade ∷ grades_left → offered rules block grade ≡ Some offer → b ≡ bits + charge_into rules last grade + offer.rate → v ≡ m.joined cost offer.distortion → Counting m rules blocks grades blocks_left grades_left (Some grade) b v
  more {block = block} {grade = grade} {offer = offer} counting e f o b_is v_is =
      let below : grade < rules.grades = grind (arith, nat_tests) in
      let is : offer_at block grade ≡ Some offer = grind (arith, nat_tests) in
      record {
        long = let l = ap length e in let r = ap length f in let same = counting.long in omega arith;
        done = block ∷ counting.done;
        taken = grade ∷ counting.taken;
        blocks_are = counting.blocks_are ∙ ap (λ l. reverse_aux l counting.done) e;
        grades_are = counting.grades_are ∙ ap (λ l. reverse_aux l counting.taken) f;
        last_is = refl;
        choice = rw (b_is, v_is, counting.last_is) (next counting.choice below is);
      }

  -- there is no choice where the next block does not offer its grade
  pub stuck : {blocks left blocks_left : List Block} {grades rest grades_left : List ℕ} {last : Option ℕ} {bits b : ℕ} {cost v : V} {block : Block} {grade : ℕ} → Counting m rules blocks grades left rest last bits cost → left ≡ block ∷ blocks_left → rest ≡ grade ∷ grades_left → offered rules block grade ≡ None → Choice m rules (reverse blocks) (reverse grades) b v → ⊥
  stuck {blocks = blocks} {blocks_left = blocks_left} {grades = grades} {grades_left = grades_left} {block = block} {grade = grade} counting e f none choice =
      let blocks_are : reverse blocks ≡ reverse_aux blocks_left (block ∷ counting.done) = counting.blocks_are ∙ ap (λ l. reverse_aux l counting.done) e in
      let grades_are : reverse grades ≡ reverse_aux grades_left (grade ∷ counting.taken) = counting.grades_are ∙ ap (λ l. reverse_aux l counting.taken) f in
      let long : length blocks_left ≡ length grades_left = let l = ap length e in let r = ap length f in let same = counting.long in omega arith in
      newest_offered (before blocks_left (block ∷ counting.done) grades_left (grade ∷ counting.taken) long (rw (blocks_are, grades_are) at choice)).1.1 none

  -- a count with no block left is of the whole
  pub whole : {blocks left : List Block} {grades rest : List ℕ} {last : Option ℕ} {bits : ℕ} {cost : V} → Counting m rules blocks grades left rest last bits cost → left ≡ [] → rest ≡ [] → Choice m rules (reverse blocks) (reverse grades) bits cost
  whole counting e f = rw (counting.blocks_are ∙ ap (λ l. reverse_aux l counting.done) e, counting.grades_are ∙ ap (λ l. reverse_aux l counting.taken) f) counting.choice

  -- a count that gives none, since there is no choice
  pub counted_none : (blocks : List Block) (grades : List ℕ) → (length blocks ≤ 64 → (b : ℕ) (v : V) → Choice m rules (reverse blocks) (reverse grades) b v → ⊥) → Counted m rules blocks grades None
  counted_none blocks grades never bits cost = (λ e. absurd (cc), λ p. absurd (never p.0 bits cost p.1))

  -- a count that gives the bits and the cost of a choice
  pub counted_some : (blocks : List Block) (grades : List ℕ) {b : ℕ} {v : V} → length blocks ≤ 64 → Choice m rules (reverse blocks) (reverse grades) b v → Counted m rules blocks grades (Some (b, v))
  counted_some blocks grades {b} {v} few choice bits cost = (
    λ e. let parts = some_pair_parts b bits v cost e in let first = parts.0 in let second = parts.1 in (few, rw (← first, ← second) choice),
    λ p. let same = once choice p.1 in let first = same.0 in let second = same.1 in cc,
  )

pub counts_once : {V : Type 0} (m : Model V) → CountsOnce m
counts_once m rules blocks grades b c v w p q = once p q
