use Rattle.std.proofs.Common.{◌≡◌, ◌+◌, ◌-◌, ◌∷◌, ◌++◌, length, drop, Option, Some, None, ap, ap₂, ◌∙◌, sym, subst, arith, slice_index_or, MatchOption}
use Rattle.std.proofs.lemmas.List.{get_or-take, get_or-drop, drop_at}
use Rattle.trellis.specs.Places.{unreached}
use Rattle.planner.specs.Layout.{size_of, Column}
use Rattle.planner.proofs.Rows.{column_same}
use Rattle.planner.proofs.column.write_block.Goals as goal

over : {S P Q : Type 0} {A B : S → Type 0} (o : Option S) → MatchOption o P A → (P → Q) → ((s : S) → A s → B s) → MatchOption o Q B
over None p none some = none p
over (Some s) a none some = some s a

pub returns-clause-above : goal.returns-clause-above
returns-clause-above g c blocks some low column =
    let m = g.K.Kind.model in
    let u = unreached m in
    let t = c.args.terms.now in
    let low_places = c.split_at_mut-below.result.0.now in
    let cut = c.split_at_mut-below.ensures in
    let made : Column m t (c.args.offers.now ∷ blocks) c.write_column.new.column = c.write_column.ensures.column blocks (over c.last_of-prior.result c.last_of-prior.ensures
    (λ few. absurd (omega (arith, few, cut.front_len, low)))
    (λ stage is. (some, subst (λ ps. Column m t blocks ps) (sym is.2) (column_same m t blocks _ _ (λ k h. get_or-drop (length low_places - size_of t) low_places k u ∙ ap₂ (λ xs n. slice_index_or xs (n + k) u) cut.front (ap (λ n. n - size_of t) cut.front_len) ∙ get_or-take c.args.base c.args.places.now (c.args.base - size_of t + k) u (omega arith) ∙ sym (get_or-drop (c.args.base - size_of t) c.args.places.now k u)) column)))) in
    let above : drop c.args.base (low_places ++ c.write_column.new.column) ≡ c.write_column.new.column = drop_at low_places c.write_column.new.column c.args.base cut.front_len in
    subst (λ ps. Column m t (c.args.offers.now ∷ blocks) ps) (sym above) made
