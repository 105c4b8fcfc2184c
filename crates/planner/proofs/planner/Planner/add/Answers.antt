use Rattle.std.proofs.Common.{◌≡◌, ◌+◌, ◌*◌, ◌≤◌, ◌∷◌, [], ◌++◌, length, sym, ap, ap₂, ◌∙◌, subst, arith, add-mul, one-mul, rules}
use Rattle.std.proofs.lemmas.List.{length-append, length-reverse}
use Rattle.planner.specs.Layout.{size_of}
use Rattle.planner.proofs.Stacks.{Stacked, stacked, newest_column}
use Rattle.planner.proofs.planner.Planner.add.Goals as goal

pub invariant_of-self : goal.invariant_of-self
invariant_of-self g c =
    let m = g.K.Kind.model in
    let self = c.args.self.now in
    let t = self.tables.terms in
    let items = self.tables.blocks.items in
    let block = c.offers_below-block.result in
    let base_is : c.standing.result * c.size-size.result ≡ length items * size_of t = ap₂ (λ x y. x * y) (c.standing.ensures.standing ∙ length-reverse items) c.size-size.ensures.is in
    let new = c.write_block.new.places in
    let long : length (items ++ block ∷ []) ≡ length items + 1 = length-append items (block ∷ []) in
    let same : c.take-places.result.now ≡ self.places.now = search rules in
    let stack : Stacked m t items c.take-places.result.now = subst (λ ps. Stacked m t items ps) (sym same) self.sound in
    let grown : length c.push.new.self.items * size_of t ≡ length items * size_of t + size_of t = ap (λ xs. length xs * size_of t) c.push.ensures.items ∙ ap (λ n. n * size_of t) long ∙ add-mul (length items) 1 (size_of t) ∙ ap (λ x. length items * size_of t + x) (one-mul (size_of t)) in
    let same_long : length new ≡ length self.places.now = (let l : length new ≡ length c.take-places.result.now = omega arith in l ∙ ap length same) in
    record {
      few = grind (arith, c.push.ensures.len);
      fits = subst (λ k. k ≤ length new) (sym grown) (omega (arith, same_long, c.size-size.ensures.is, base_is, c.if-base-size.false));
      sound = subst (λ xs. Stacked m t xs new) (sym c.push.ensures.items) (stacked m t items block c.take-places.result.now new (c.standing.result * c.size-size.result) base_is c.write_block.ensures.outside stack (newest_column m t items block c.take-places.result.now new (c.standing.result * c.size-size.result) base_is stack c.write_block.ensures.first c.write_block.ensures.above));
    }
